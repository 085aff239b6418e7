use Rattle.std.proofs.Common.{◌≡◌, drop}
use Rattle.term_words.specs.Scopes as spec
use Rattle.term_words.proofs.words.sort_of.Given as goal

-- the name is looked for in what is left
abbrev pub invariant-loop-decl : goal.invariant-loop-decl
invariant-loop-decl l = spec.sort_of (drop l.decl-index l.scope) l.name ≡ spec.sort_of l.scope l.name
