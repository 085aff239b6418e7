-- Values stay, as the list of nodes grows.
use Rattle.std.proofs.Common.{◌≡◌, List, refl, ap, sym, subst}
use Rattle.term_tree.specs.Terms.{Tree, IsTyped, width_of}
use Rattle.term_arena.specs.Nodes.{Node, Keeps}
use Rattle.term_arena.specs.Answers.{id_term}
use Rattle.term_arena.proofs.StayLemmas.{term_stays, typed_stays}
use Rattle.sym_rules.specs.Values.{sym_truth, sym_bits}
use Rattle.sym_parts.specs.declared.values.SymValue.{SymValue}
use Rattle.sym_parts.specs.declared.values.SymValue.TheVariants as value
use Rattle.sym_parts.specs.Views.{value_in}
use Rattle.sym_parts.specs.Fits.{ValueFits}

module _ (old new : List Node) (k : Keeps old new) where
  pub value_stays : (v : SymValue) → ValueFits old v → value_in new v ≡ value_in old v
  value_stays value.Unit h = refl
  value_stays (value.Truth t) h = ap sym_truth (term_stays old new k t h.0)
  value_stays (value.Bits t) h = ap sym_bits (term_stays old new k t h)
  value_stays (value.Member e i) h = refl

  pub fits_stays : (v : SymValue) → ValueFits old v → ValueFits new v
  fits_stays value.Unit h = tt
  fits_stays (value.Truth t) h = subst (λ (u : Tree). IsTyped u × (width_of u ≡ 1)) (sym (term_stays old new k t h.0)) h
  fits_stays (value.Bits t) h = typed_stays old new k t h
  fits_stays (value.Member e i) h = tt
