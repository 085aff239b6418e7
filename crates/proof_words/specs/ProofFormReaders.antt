-- What the readers of the code give, in terms of the rules.
use Rattle.std.specs.Prelude.{◌≡◌, List, Option, Some, None, Result, Ok, Err}
use Rattle.proof_words.specs.declared.rest.Stop.{Stop}
use Rattle.proof_words.specs.declared.rest.Stop.TheVariants as stop
use Rattle.proof_words.specs.declared.rest.Rest.{Rest}
use Rattle.proof_words.specs.ProofFormWords.{Lexeme, lexemes}

-- the lexemes that are left
abbrev pub left : Rest → List Lexeme
left r = lexemes r.text.now r.tokens.now

-- what a reader gave, seen by view, is what the rule reads, unless memory ran out
abbrev pub Gives : {X Y : Type 0} → (X → Y) → Result X Stop → Option Y → Type 0
Gives view (Ok x) reading = reading ≡ Some (view x)
Gives view (Err stop.Outside) reading = reading ≡ None
Gives view (Err stop.NoMemory) reading = Unit {0}
