-- What an assertion claims of the machine, once its variables have values.
use Rattle.std.specs.Prelude.{ℕ, zero, suc, ◌+◌, ◌*◌, ◌/◌, ◌%◌, ◌^◌, nat_eq, nat_le, false, List, [], ◌∷◌, ◌++◌, Option, Some, None}
use Rattle.std.specs.Option.{option_map}
use Rattle.state_core.specs.Claims.{Claim, is_so, register_is, bytes_are, device_is}
use Rattle.term_tree.specs.Terms.{Text, Tree, ArrayTree}
use Rattle.term_tree.specs.Values.{Values, value, byte_at}
use Rattle.assert_core.specs.Assertions.{PlainAssertion, PlainItem, arr, dev, fact, mem, reg}

-- the numbers that names stand for: of registers, and of devices
pub record Numbers : Type 0 where
  pub register : Text → Option ℕ
  pub device : Text → Option ℕ

-- the n low bytes of a number, the lowest first
abbrev pub low_bytes : ℕ → ℕ → List ℕ
low_bytes zero number = []
low_bytes (suc n) number = number % 256 ∷ low_bytes n (number / 256)

-- the n bytes of an array from an index on
abbrev pub bytes_of : Values → ArrayTree → ℕ → ℕ → List ℕ
bytes_of v f i zero = []
bytes_of v f i (suc n) = byte_at v f i ∷ bytes_of v f (i + 1) n

-- n bytes from an address on don't pass the last address
abbrev pub ends_below : ℕ → ℕ → Claim
ends_below at n = is_so (nat_le (at + n) (2 ^ 64))

-- what is claimed of what a name stands for; nothing meets it where the name stands for nothing
abbrev pub named : Option ℕ → (ℕ → Claim) → Claim
named None claim = is_so false
named (Some n) claim = claim n

-- what an item claims
abbrev pub claims_of_item : Numbers → Values → PlainItem → List Claim
claims_of_item n v (fact t) = is_so (nat_eq (value v t).value 1) ∷ []
claims_of_item n v (reg x written) = named (n.register x) (λ r. register_is r (option_map (value v) written)) ∷ []
claims_of_item n v (mem at bytes number) =
    ends_below (value v at).value bytes ∷ bytes_are (value v at).value (low_bytes bytes (value v number).value) ∷ []
claims_of_item n v (arr at len of) =
    ends_below (value v at).value (value v len).value ∷ bytes_are (value v at).value (bytes_of v of 0 (value v len).value) ∷ []
claims_of_item n v (dev x q) = named (n.device x) (λ d. device_is d q) ∷ []

-- what items claim, in their order
abbrev pub claims_of : Numbers → Values → List PlainItem → List Claim
claims_of n v [] = []
claims_of n v (i ∷ items) = claims_of_item n v i ++ claims_of n v items
