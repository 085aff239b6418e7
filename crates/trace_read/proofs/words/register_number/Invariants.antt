use Rattle.std.proofs.Common.{◌≡◌, drop}
use Rattle.std.specs.Prelude.{bytes_eq}
use Rattle.std.specs.List.{position_from}
use Rattle.lex_core.specs.declared.name.RegDecl.{RegDecl}
use Rattle.trace_read.proofs.words.register_number.Given as goal

-- the name is looked for in what is left
abbrev pub invariant-loop-number : goal.invariant-loop-number
invariant-loop-number l =
    position_from (λ (d : RegDecl). bytes_eq d.name l.name) l.number (drop l.number l.registers) ≡ position_from (λ (d : RegDecl). bytes_eq d.name l.name) 0 l.registers
