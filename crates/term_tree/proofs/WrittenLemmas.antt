-- One written pair.
use Rattle.std.proofs.Common.{[]}
use Rattle.std.proofs.lemmas.List.Elements.{All-nil, All-cons}
use Rattle.bv_bits.specs.declared.Bits.{Bits}
use Rattle.bv_bits.specs.Bits.{IsBits}
use Rattle.term_tree.specs.Terms.{Text}
use Rattle.term_tree.specs.Values.{IsValues, values_of}
use Rattle.term_tree.specs.Written.{one_pair}
use Rattle.term_tree.proofs.PairLemmas.{values_are}

pub one_pair_is : (x : Text) (b : Bits) → IsBits b → IsValues (values_of (one_pair x b))
one_pair_is x b h =
    values_are (one_pair x b) (record { bits = All-cons (λ q. IsBits q.1) (x, b) [] h (All-nil (λ q. IsBits q.1)); arrays = All-nil _ })
