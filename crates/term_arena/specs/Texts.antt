-- The names that are kept.
use Rattle.std.specs.Prelude.{◌≡◌, ℕ, List, ◌++◌, All}
use Rattle.std.specs.Global.{Vec}
use Rattle.term_tree.specs.Terms.{Text}

-- each key is the text beside it
abbrev pub AreTexts : List (Vec ℕ × Text) → Type 0
AreTexts entries = All (λ e. e.0.items ≡ e.1) entries

-- a list with more behind it
pub record Grows (old new : List Text) : Type 0 where
  pub more : List Text
  pub is : new ≡ old ++ more
