-- The words that spell a proof of the first form.
use Rattle.std.specs.Prelude.{◌≡◌, ◌≢◌, ℕ, true, List, [], ◌∷◌, ◌++◌, codes}
use Rattle.std.specs.List.{flat_map}
use Rattle.lex_core.specs.Classes.{Text}
use Rattle.proof_form.specs.declared.form.NamedValue.{NamedValue}
use Rattle.proof_form.specs.declared.form.NamedProof.{NamedProof}
use Rattle.proof_words.specs.ProofFormWords.{Word, name, mark, number, address, full_address, literal, is_free}

-- `reg NAME = LITERAL ;`
abbrev pub item_words : NamedValue → List Word
item_words v = name (codes "reg") ∷ name v.register ∷ mark (codes "=") ∷ literal v.value ∷ mark (codes ";") ∷ []

-- `{ items } steps {`
abbrev pub body_words : List NamedValue → List Word
body_words vs = mark (codes "{") ∷ (flat_map item_words vs ++ mark (codes "}") ∷ name (codes "steps") ∷ mark (codes "{") ∷ [])

-- `islaris_proof 1 spec NAME {`
abbrev pub head_words : Text → List Word
head_words z = name (codes "islaris_proof") ∷ number 1 ∷ name (codes "spec") ∷ name z ∷ mark (codes "{") ∷ []

-- `exit NAME ( ) ( ) ; } }`
abbrev pub tail_words : Text → List Word
tail_words z =
    name (codes "exit") ∷ name z ∷ mark (codes "(") ∷ mark (codes ")") ∷ mark (codes "(") ∷ mark (codes ")")
    ∷ mark (codes ";") ∷ mark (codes "}") ∷ mark (codes "}") ∷ []

-- `code LO HI ;`
abbrev pub code_words : ℕ → ℕ → List Word
code_words lo hi = name (codes "code") ∷ address lo ∷ address hi ∷ mark (codes ";") ∷ []

-- `exit NAME at ADDRESS { items } steps { }`
abbrev pub exit_words : Text → ℕ → List NamedValue → List Word
exit_words z at vs = name (codes "exit") ∷ name z ∷ name (codes "at") ∷ full_address at ∷ (body_words vs ++ mark (codes "}") ∷ [])

-- `block NAME at ADDRESS { items } steps {`
abbrev pub block_words : Text → ℕ → List NamedValue → List Word
block_words z at vs = name (codes "block") ∷ name z ∷ name (codes "at") ∷ address at ∷ body_words vs

-- the words of a proof
abbrev pub spelling : NamedProof → List Word
spelling p =
    head_words p.spec ++ (code_words p.lo p.hi ++ (exit_words p.exit p.exit_at p.wanted ++ (block_words p.block p.entry_at p.entry ++ tail_words p.exit)))

-- the names that a proof gives are free to be chosen, and its exit and block have two
pub record AreNames (p : NamedProof) : Type 0 where
  pub spec : is_free p.spec ≡ true
  pub exit : is_free p.exit ≡ true
  pub block : is_free p.block ≡ true
  pub differ : p.exit ≢ p.block
