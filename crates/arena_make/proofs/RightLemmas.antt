-- What is made of an application: by the first rule that fits, or as it is.
use Rattle.std.proofs.Common.{◌≡◌, [], ◌∷◌, ◌++◌, map, Some, None, refl, ap, sym, ◌∙◌, subst}
use Rattle.std.specs.Prelude.{Option}
use Rattle.bv_bits.specs.declared.Op.{Op}
use Rattle.term_tree.specs.Terms.{Tree, one, two}
use Rattle.term_rules.specs.Rules.{Right, given, made_one, made_two, rule_of}
use Rattle.term_make.specs.Making.{Made, just, made_then, asks, build, make_by, make}
use Rattle.term_make.proofs.StepLemmas.{make_steps}
use Rattle.term_arena.specs.Nodes.{of_term}
use Rattle.term_arena.specs.Built.{arguments_of, built}
use Rattle.term_arena.specs.Said.{Answers, Said, single, said_of, said_then, said_right}
use Rattle.term_arena.specs.Makes.{AreLow, Covers}
use Rattle.term_arena.proofs.BuiltLemmas.{Within, within_itself, within_trans, within_left, within_right, within_both, within_join, built_first, built_second, built_then, asks_inner, asks_all, asks_arguments, asks_result}
use Rattle.term_arena.proofs.MakesLemmas.{low_both, low_less}
use Rattle.term_arena.proofs.CoverLemmas.{covers_itself, covers_trans, covers_then}

-- ---- applications

by_arguments : (t : Tree) (o : Option Right) → Within (map of_term (arguments_of t)) (built (make_by make t o))
by_arguments t (Some r) = asks_arguments t (build make r)
by_arguments t None = asks_arguments t (just t)

-- the arguments of an application that is made
make_arguments : (t : Tree) → Within (map of_term (arguments_of t)) (built (make t))
make_arguments t = subst (λ (m : Made Tree). Within (map of_term (arguments_of t)) (built m)) (sym (make_steps t)) (by_arguments t (rule_of t))

by_result : (t : Tree) (o : Option Right) → Within (of_term (make_by make t o).it ∷ []) (built (make_by make t o))
by_result t (Some r) = asks_result t (build make r)
by_result t None = asks_result t (just t)

-- what is made of it
make_result : (t : Tree) → Within (of_term (make t).it ∷ []) (built (make t))
make_result t = subst (λ (m : Made Tree). Within (of_term m.it ∷ []) (built m)) (sym (make_steps t)) (by_result t (rule_of t))

-- a term that is made, itself among the terms
abbrev with_result : {R : Type 0} → Made Tree → Said R Tree
with_result m = record { answer = Answers m.it; work = of_term m.it ∷ built m }

covers_asks : {R : Type 0} (t : Tree) (m : Made Tree) → AreLow (map of_term (arguments_of t)) → Covers {R = R} (with_result m) (said_of (asks t m))
covers_asks t m args = record {
  same = refl;
  each = (within_join (of_term m.it ∷ []) (built m) (built (asks t m)) (asks_result t m) (asks_inner t m)).each;
  low = λ l. low_less (built (asks t m)) (map of_term (arguments_of t) ++ of_term m.it ∷ built m) (asks_all t m) (low_both (map of_term (arguments_of t)) (of_term m.it ∷ built m) args l);
}

covers_call : {R : Type 0} (t : Tree) → Covers {R = R} (said_of (make t)) (with_result (make t))
covers_call t = record {
  same = refl;
  each = (within_right (of_term (make t).it ∷ []) (built (make t))).each;
  low = low_less (of_term (make t).it ∷ built (make t)) (built (make t)) (within_join (of_term (make t).it ∷ []) (built (make t)) (built (make t)) (make_result t) (within_itself (built (make t))));
}

-- ---- right sides

-- one that is made, and then another one of it
covers_first : {R : Type 0} (m : Made Tree) (f : Tree → Made Tree) → Within (of_term m.it ∷ []) (built (f m.it)) → Covers {R = R} (said_then (with_result m) (λ x. with_result (f x))) (with_result (made_then m f))
unfolding said_then
covers_first m f w =
    let n = f m.it in
    let all = built (made_then m f) in
    let last = of_term n.it ∷ [] in
    let first = within_join (of_term m.it ∷ []) (built m) all (within_trans (of_term m.it ∷ []) (built n) all w (built_second m f)) (built_first m f) in
    record {
      same = refl;
      each =
          (within_join (of_term m.it ∷ built m) (of_term n.it ∷ built n) (of_term n.it ∷ all)
          (within_trans (of_term m.it ∷ built m) all (of_term n.it ∷ all) first (within_right last all))
          (within_both last (built n) last all (within_itself last) (built_second m f))).each;
      low =
          low_less (of_term n.it ∷ all) ((of_term m.it ∷ built m) ++ (of_term n.it ∷ built n))
          (within_join last all ((of_term m.it ∷ built m) ++ (of_term n.it ∷ built n))
          (within_trans last (of_term n.it ∷ built n) ((of_term m.it ∷ built m) ++ (of_term n.it ∷ built n)) (within_left last (built n)) (within_right (of_term m.it ∷ built m) (of_term n.it ∷ built n)))
          (within_trans all (built m ++ built n) ((of_term m.it ∷ built m) ++ (of_term n.it ∷ built n)) (built_then m f)
          (within_both (built m) (built n) (of_term m.it ∷ built m) (of_term n.it ∷ built n) (within_right (of_term m.it ∷ []) (built m)) (within_right last (built n)))));
    }

-- an application of what is made
covers_next : {R : Type 0} (m : Made Tree) (f : Tree → Tree) → Within (of_term m.it ∷ []) (built (make (f m.it))) → Covers {R = R} (said_then (with_result m) (λ x. said_of (make (f x)))) (with_result (made_then m (λ x. make (f x))))
covers_next m f w =
    covers_trans (said_then (with_result m) (λ x. said_of (make (f x)))) (said_then (with_result m) (λ x. with_result (make (f x)))) (with_result (made_then m (λ x. make (f x))))
    (covers_then (with_result m) (with_result m) (λ x. said_of (make (f x))) (λ x. with_result (make (f x))) (covers_itself (with_result m)) (λ x. covers_call (f x)))
    (covers_first m (λ x. make (f x)) w)

first_argument : (op : Op) (x y : Tree) → Within (of_term x ∷ []) (built (make (two op x y)))
first_argument op x y =
    within_trans (of_term x ∷ []) (of_term x ∷ of_term y ∷ []) (built (make (two op x y))) (within_left (of_term x ∷ []) (of_term y ∷ [])) (make_arguments (two op x y))

second_argument : (op : Op) (x y : Tree) → Within (of_term y ∷ []) (built (make (two op x y)))
second_argument op x y =
    within_trans (of_term y ∷ []) (of_term x ∷ of_term y ∷ []) (built (make (two op x y))) (within_right (of_term x ∷ []) (of_term y ∷ [])) (make_arguments (two op x y))

covers_right : {R : Type 0} (r : Right) → Covers {R = R} (said_right r) (with_result (build make r))
covers_right (given t) = covers_itself (single t)
covers_right (made_one op r) =
    let m = build make r in
    covers_trans (said_right (made_one op r)) (said_then (with_result m) (λ x. said_of (make (one op x)))) (with_result (build make (made_one op r)))
    (covers_then (said_right r) (with_result m) (λ x. said_of (make (one op x))) (λ x. said_of (make (one op x))) (covers_right r) (λ x. covers_itself (said_of (make (one op x)))))
    (covers_next m (one op) (make_arguments (one op m.it)))
covers_right (made_two op r s) =
    let m = build make r in
    let n = build make s in
    covers_trans (said_right (made_two op r s)) (said_then (with_result m) (λ x. with_result (made_then n (λ y. make (two op x y))))) (with_result (build make (made_two op r s)))
    (covers_then (said_right r) (with_result m) (λ x. said_then (said_right s) (λ y. said_of (make (two op x y)))) (λ x. with_result (made_then n (λ y. make (two op x y)))) (covers_right r)
    (λ x.
    covers_trans (said_then (said_right s) (λ y. said_of (make (two op x y)))) (said_then (with_result n) (λ y. said_of (make (two op x y)))) (with_result (made_then n (λ y. make (two op x y))))
    (covers_then (said_right s) (with_result n) (λ y. said_of (make (two op x y))) (λ y. said_of (make (two op x y))) (covers_right s) (λ y. covers_itself (said_of (make (two op x y)))))
    (covers_next n (two op x) (second_argument op x n.it))))
    (covers_first m (λ x. made_then n (λ y. make (two op x y)))
    (within_trans (of_term m.it ∷ []) (built (make (two op m.it n.it))) (built (made_then n (λ y. make (two op m.it y)))) (first_argument op m.it n.it) (built_second n (λ y. make (two op m.it y)))))

-- by the first rule that fits
pub covers_ruled : {R : Type 0} (t : Tree) (r : Right) → rule_of t ≡ Some r → AreLow (map of_term (arguments_of t)) → Covers {R = R} (said_right r) (said_of (make t))
covers_ruled {R} t r e args =
    covers_trans (said_right r) (with_result (build make r)) (said_of (make t)) (covers_right r)
    (subst (λ (m : Made Tree). Covers {R = R} (with_result (build make r)) (said_of m)) (sym (make_steps t ∙ ap (make_by make t) e)) (covers_asks t (build make r) args))

-- as it is
pub covers_plain : {R : Type 0} (t : Tree) → AreLow (map of_term (arguments_of t)) → Covers {R = R} (single t) (said_of (asks t (just t)))
covers_plain t args = covers_asks t (just t) args

pub covers_unruled : {R : Type 0} (t : Tree) → rule_of t ≡ None → AreLow (map of_term (arguments_of t)) → Covers {R = R} (single t) (said_of (make t))
covers_unruled {R} t e args =
    subst (λ (m : Made Tree). Covers {R = R} (single t) (said_of m)) (sym (make_steps t ∙ ap (make_by make t) e)) (covers_plain t args)
