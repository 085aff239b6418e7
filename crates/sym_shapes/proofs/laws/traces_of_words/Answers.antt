use Rattle.sym_shapes.proofs.Traced.{traces_keep_rules, traces_have_made_terms, traces_have_texts, variables_differ}
use Rattle.sym_shapes.proofs.laws.traces_of_words.Goals as goal

pub returns : goal.returns
returns c = record { rules = traces_keep_rules; terms = traces_have_made_terms; texts = traces_have_texts; names = variables_differ }
