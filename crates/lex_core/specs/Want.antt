-- Want of memory is a free answer: the one word for it, in the clauses of every call that takes memory.
use Rattle.std.specs.Prelude.{◌≡◌, Bool, true, false, ⊤, Result, Ok, Err}

-- the fact, unless the flag is set
abbrev pub Unless : Bool → Type 0 → Type 0
Unless true fact = ⊤
Unless false fact = fact

-- the answer, as the view shows it, is the one that is wanted: its value or its fault. A fault that tells want of memory may stand in place of either
abbrev pub Gives : {T A F : Type 0} → (F → Bool) → (T → A) → Result A F → Result T F → Type 0
Gives is_want view wanted (Ok t) = wanted ≡ Ok (view t)
Gives is_want view wanted (Err f) = Unless (is_want f) (wanted ≡ Err f)
