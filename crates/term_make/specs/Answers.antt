-- What a call that makes terms answers.
use Rattle.std.specs.Prelude.{◌≡◌, ⊤, Some, None, Result, Ok, Err}
use Rattle.term_tree.specs.declared.term.TermFault.{TermFault}
use Rattle.term_tree.specs.declared.term.TermFault.TheVariants as fault
use Rattle.term_make.specs.Making.{Made, within_height}

-- what is made, as the view shows it; too high exactly where a term that is too high would be made
abbrev pub Answers : {T A : Type 0} → (T → A) → Made A → Result T TermFault → Type 0
Answers view m (Ok t) = within_height m ≡ Some (view t)
Answers view m (Err fault.TermTooHigh) = within_height m ≡ None
Answers view m (Err fault.TooManyTerms) = ⊥
Answers view m (Err fault.NoMemory) = ⊤
