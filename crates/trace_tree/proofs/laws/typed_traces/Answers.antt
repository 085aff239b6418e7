use Rattle.term_tree.specs.Terms.{IsTyped}
use Rattle.trace_tree.proofs.KeptLemmas.{trace_stays, trace_fine}
use Rattle.trace_tree.proofs.PathLemmas.{inner_terms}
use Rattle.trace_tree.proofs.laws.typed_traces.Goals as goal

pub returns : goal.returns
returns c = record { kept = λ old new t k h. trace_stays old new k t h; fine = λ nodes t ok h. trace_fine nodes ok t h; inner = inner_terms IsTyped }
