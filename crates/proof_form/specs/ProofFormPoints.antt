-- An exit or a block, as the code has it and as the rules do.
use Rattle.proof_form.specs.declared.rules.Point.{Point}
use Rattle.proof_form.specs.ProofForm as spec

-- an exit or a block of the code
abbrev pub point_of : Point → spec.Point
point_of p = record { name = p.name; at = p.at; values = p.values }
