-- The values of a symbolic evaluation, and what it carries along a path: terms stand for bit vectors and for bools.
use Rattle.std.specs.Prelude.{ℕ, Bool, true, false, List, [], ◌∷◌, Option, Some, None, bytes_eq, nat_eq, if◌then◌else◌}
use Rattle.bv_bits.specs.declared.Bits.{Bits}
use Rattle.term_tree.specs.Terms.{Text, Tree, width_of}
use Rattle.sail_names.specs.declared.things.Named.{Named}

-- a value
pub data SymValue : Type 0 where
  sym_unit : SymValue
  -- a bool: a term of one bit
  sym_truth : (t : Tree) → SymValue
  -- a bit vector
  sym_bits : (t : Tree) → SymValue
  -- a member of an enum is always known: the number of the enum, and its own in it
  sym_member : (e i : ℕ) → SymValue

-- what a local name stands for
pub data SymLocal : Type 0 where
  sym_is : (v : SymValue) → SymLocal
  -- a foreach variable is always known
  sym_counts : (n : ℕ) → SymLocal

-- a local name, and what it stands for
pub record SymSlot : Type 0 where
  pub name : Text
  pub local : SymLocal

-- where a path stands: the locals, the newest first; the registers whose value is known, the newest first; and how many variables it has
pub record SymPath : Type 0 where
  pub locals : List SymSlot
  pub known : List (ℕ × Tree)
  pub count : ℕ

-- what a symbolic evaluation needs beside the functions: what the names of the text stand for, the widths of the registers, and the registers of which a
-- value is assumed
pub record SymSetting : Type 0 where
  pub things : List Named
  pub widths : List ℕ
  pub given : List (ℕ × Bits)

-- ---- finding

-- what stands for a number, of which the first entry counts
abbrev pub entry_of : {A : Type 0} → ℕ → List (ℕ × A) → Option A
entry_of n [] = None
entry_of n (e ∷ rest) = if nat_eq e.0 n then Some e.1 else entry_of n rest

-- what the newest local of the name stands for
abbrev pub sym_look : Text → List SymSlot → Option SymLocal
sym_look x [] = None
sym_look x (s ∷ rest) = if bytes_eq s.name x then Some s.local else sym_look x rest

-- whether there is one of the name
abbrev pub sym_has : Text → List SymSlot → Bool
sym_has x [] = false
sym_has x (s ∷ rest) = if bytes_eq s.name x then true else sym_has x rest

-- the newest of the name stands for something else
abbrev pub sym_put : Text → SymLocal → List SymSlot → List SymSlot
sym_put x v [] = []
sym_put x v (s ∷ rest) = if bytes_eq s.name x then record s { local = v } ∷ rest else s ∷ sym_put x v rest

-- ---- shapes

-- the value, and unit for none
abbrev pub sym_or_unit : Option SymValue → SymValue
sym_or_unit (Some v) = v
sym_or_unit None = sym_unit

-- how many bits a value has; 0 where it is no vector
abbrev pub sym_width : SymValue → ℕ
sym_width (sym_bits t) = width_of t
sym_width sym_unit = 0
sym_width (sym_truth t) = 0
sym_width (sym_member e i) = 0
