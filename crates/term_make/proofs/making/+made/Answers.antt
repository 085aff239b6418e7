use Rattle.std.proofs.Common.{◌≡◌, ◌∙◌, [], ◌∷◌, map, ap, sym, Some, arith}
use Rattle.bv_bits.specs.declared.Op.TheVariants.{Add}
use Rattle.term_tree.specs.Terms.{lit, applied}
use Rattle.term_rules.specs.Rules.{given, made_one, made_two, rule_of}
use Rattle.term_tree.specs.View.{tree}
use Rattle.term_make.proofs.AnswerLemmas.{answers_plain}
use Rattle.term_tree.proofs.ViewLemmas.{tree_lit}
use Rattle.term_make.proofs.MakeLemmas.{parts_low, given_arm, one_arm, two_arm, plus_arm, call_one, call_two, call_inner, call_outer, answer_one, answer_two, answer_outer, answer_fault}
use Rattle.term_make.proofs.making.+made.Goals as goal

pub returns-in-Plain-clause-answer : goal.returns-in-Plain-clause-answer
returns-in-Plain-clause-answer t c =
    answers_plain tree (applied c.args.op (map tree c.args.args)) c.plain.result (sym c.right_side.ensures.value ∙ c.in-Plain.ensures.step) c.plain.ensures.answer

pub copy-requires : goal.copy-requires
copy-requires t c =
    let e : rule_of (applied c.args.op (map tree c.args.args)) ≡ Some (given (tree c.in-Given.t.now)) = sym c.right_side.ensures.value ∙ c.in-Given.ensures.step in
    let arm = given_arm (applied c.args.op (map tree c.args.args)) (tree c.in-Given.t.now) c.requires.typed (parts_low c.args.op (map tree c.args.args) c.requires.low) e in
    record { typed = arm.typed }

pub returns-in-Given-clause-answer : goal.returns-in-Given-clause-answer
returns-in-Given-clause-answer t c =
    let e : rule_of (applied c.args.op (map tree c.args.args)) ≡ Some (given (tree c.in-Given.t.now)) = sym c.right_side.ensures.value ∙ c.in-Given.ensures.step in
    let arm = given_arm (applied c.args.op (map tree c.args.args)) (tree c.in-Given.t.now) c.requires.typed (parts_low c.args.op (map tree c.args.args) c.requires.low) e in
    arm.answer ∙ ap Some (sym c.in_ok-copy-in-Given.ensures.same)

pub returns-in-Given-clause-low : goal.returns-in-Given-clause-low
returns-in-Given-clause-low t c =
    let e : rule_of (applied c.args.op (map tree c.args.args)) ≡ Some (given (tree c.in-Given.t.now)) = sym c.right_side.ensures.value ∙ c.in-Given.ensures.step in
    let arm = given_arm (applied c.args.op (map tree c.args.args)) (tree c.in-Given.t.now) c.requires.typed (parts_low c.args.op (map tree c.args.args) c.requires.low) e in
    rw c.in_ok-copy-in-Given.ensures.same arm.low

pub returns-in-Literal-clause-answer : goal.returns-in-Literal-clause-answer
returns-in-Literal-clause-answer t c =
    let e : rule_of (applied c.args.op (map tree c.args.args)) ≡ Some (given (lit c.in-Literal.b)) = sym c.right_side.ensures.value ∙ c.in-Literal.ensures.step in
    let arm = given_arm (applied c.args.op (map tree c.args.args)) (lit c.in-Literal.b) c.requires.typed (parts_low c.args.op (map tree c.args.args) c.requires.low) e in
    arm.answer ∙ ap Some (sym (tree_lit c.in-Literal.b))

pub copies_of_one-requires : goal.copies_of_one-requires
copies_of_one-requires t c =
    let e : rule_of (applied c.args.op (map tree c.args.args)) ≡ Some (made_one c.in-One.op (given (tree c.in-One.a.now))) = sym c.right_side.ensures.value ∙ c.in-One.ensures.step in
    let arm = one_arm (applied c.args.op (map tree c.args.args)) c.in-One.op (tree c.in-One.a.now) c.requires.typed (parts_low c.args.op (map tree c.args.args) c.requires.low) e in
    record { typed = arm.typed.1 }

pub made-requires : goal.made-requires
made-requires t c =
    let e : rule_of (applied c.args.op (map tree c.args.args)) ≡ Some (made_one c.in-One.op (given (tree c.in-One.a.now))) = sym c.right_side.ensures.value ∙ c.in-One.ensures.step in
    let arm = one_arm (applied c.args.op (map tree c.args.args)) c.in-One.op (tree c.in-One.a.now) c.requires.typed (parts_low c.args.op (map tree c.args.args) c.requires.low) e in
    let call = call_one (applied c.args.op (map tree c.args.args)) c.in-One.op (tree c.in-One.a.now) (map tree c.in_ok-copies_of_one-in-One.field-0) c.in_ok-copies_of_one-in-One.ensures.list arm in
    (omega (arith, call.0, c.decreases), call.1)

pub returns-in-One-clause-answer : goal.returns-in-One-clause-answer
returns-in-One-clause-answer t c =
    let e : rule_of (applied c.args.op (map tree c.args.args)) ≡ Some (made_one c.in-One.op (given (tree c.in-One.a.now))) = sym c.right_side.ensures.value ∙ c.in-One.ensures.step in
    let arm = one_arm (applied c.args.op (map tree c.args.args)) c.in-One.op (tree c.in-One.a.now) c.requires.typed (parts_low c.args.op (map tree c.args.args) c.requires.low) e in
    answer_one (applied c.args.op (map tree c.args.args)) c.in-One.op (tree c.in-One.a.now) (map tree c.in_ok-copies_of_one-in-One.field-0) c.made.result c.in_ok-copies_of_one-in-One.ensures.list arm c.made.ensures.answer c.made.ensures.low

pub copies_of_two-requires-clause-a_typed : goal.copies_of_two-requires-clause-a_typed
copies_of_two-requires-clause-a_typed t c =
    let e : rule_of (applied c.args.op (map tree c.args.args)) ≡ Some (made_two c.in-Two.op (given (tree c.in-Two.a.now)) (given (tree c.in-Two.b.now))) = sym c.right_side.ensures.value ∙ c.in-Two.ensures.step in
    let arm = two_arm (applied c.args.op (map tree c.args.args)) c.in-Two.op (tree c.in-Two.a.now) (tree c.in-Two.b.now) c.requires.typed (parts_low c.args.op (map tree c.args.args) c.requires.low) e in
    arm.typed.1

pub copies_of_two-requires-clause-b_typed : goal.copies_of_two-requires-clause-b_typed
copies_of_two-requires-clause-b_typed t c =
    let e : rule_of (applied c.args.op (map tree c.args.args)) ≡ Some (made_two c.in-Two.op (given (tree c.in-Two.a.now)) (given (tree c.in-Two.b.now))) = sym c.right_side.ensures.value ∙ c.in-Two.ensures.step in
    let arm = two_arm (applied c.args.op (map tree c.args.args)) c.in-Two.op (tree c.in-Two.a.now) (tree c.in-Two.b.now) c.requires.typed (parts_low c.args.op (map tree c.args.args) c.requires.low) e in
    arm.typed.2

pub made-requires-in-Two : goal.made-requires-in-Two
made-requires-in-Two t c =
    let e : rule_of (applied c.args.op (map tree c.args.args)) ≡ Some (made_two c.in-Two.op (given (tree c.in-Two.a.now)) (given (tree c.in-Two.b.now))) = sym c.right_side.ensures.value ∙ c.in-Two.ensures.step in
    let arm = two_arm (applied c.args.op (map tree c.args.args)) c.in-Two.op (tree c.in-Two.a.now) (tree c.in-Two.b.now) c.requires.typed (parts_low c.args.op (map tree c.args.args) c.requires.low) e in
    let call = call_two (applied c.args.op (map tree c.args.args)) c.in-Two.op (tree c.in-Two.a.now) (tree c.in-Two.b.now) (map tree c.in_ok-copies_of_two-in-Two.field-0) c.in_ok-copies_of_two-in-Two.ensures.list arm in
    (omega (arith, call.0, c.decreases), call.1)

pub returns-in-Two-clause-answer : goal.returns-in-Two-clause-answer
returns-in-Two-clause-answer t c =
    let e : rule_of (applied c.args.op (map tree c.args.args)) ≡ Some (made_two c.in-Two.op (given (tree c.in-Two.a.now)) (given (tree c.in-Two.b.now))) = sym c.right_side.ensures.value ∙ c.in-Two.ensures.step in
    let arm = two_arm (applied c.args.op (map tree c.args.args)) c.in-Two.op (tree c.in-Two.a.now) (tree c.in-Two.b.now) c.requires.typed (parts_low c.args.op (map tree c.args.args) c.requires.low) e in
    answer_two (applied c.args.op (map tree c.args.args)) c.in-Two.op (tree c.in-Two.a.now) (tree c.in-Two.b.now) (map tree c.in_ok-copies_of_two-in-Two.field-0) c.made-in-Two.result c.in_ok-copies_of_two-in-Two.ensures.list arm c.made-in-Two.ensures.answer c.made-in-Two.ensures.low

pub copy_and_literal-requires : goal.copy_and_literal-requires
copy_and_literal-requires t c =
    let e : rule_of (applied c.args.op (map tree c.args.args)) ≡ Some (made_two c.in-WithLiteral.op (given (tree c.in-WithLiteral.a.now)) (given (lit c.in-WithLiteral.c))) = sym c.right_side.ensures.value ∙ c.in-WithLiteral.ensures.step in
    let arm = two_arm (applied c.args.op (map tree c.args.args)) c.in-WithLiteral.op (tree c.in-WithLiteral.a.now) (lit c.in-WithLiteral.c) c.requires.typed (parts_low c.args.op (map tree c.args.args) c.requires.low) e in
    record { typed = arm.typed.1 }

pub made-requires-in-WithLiteral : goal.made-requires-in-WithLiteral
made-requires-in-WithLiteral t c =
    let e : rule_of (applied c.args.op (map tree c.args.args)) ≡ Some (made_two c.in-WithLiteral.op (given (tree c.in-WithLiteral.a.now)) (given (lit c.in-WithLiteral.c))) = sym c.right_side.ensures.value ∙ c.in-WithLiteral.ensures.step in
    let arm = two_arm (applied c.args.op (map tree c.args.args)) c.in-WithLiteral.op (tree c.in-WithLiteral.a.now) (lit c.in-WithLiteral.c) c.requires.typed (parts_low c.args.op (map tree c.args.args) c.requires.low) e in
    let call = call_two (applied c.args.op (map tree c.args.args)) c.in-WithLiteral.op (tree c.in-WithLiteral.a.now) (lit c.in-WithLiteral.c) (map tree c.in_ok-copy_and_literal-in-WithLiteral.field-0) c.in_ok-copy_and_literal-in-WithLiteral.ensures.list arm in
    (omega (arith, call.0, c.decreases), call.1)

pub returns-in-WithLiteral-clause-answer : goal.returns-in-WithLiteral-clause-answer
returns-in-WithLiteral-clause-answer t c =
    let e : rule_of (applied c.args.op (map tree c.args.args)) ≡ Some (made_two c.in-WithLiteral.op (given (tree c.in-WithLiteral.a.now)) (given (lit c.in-WithLiteral.c))) = sym c.right_side.ensures.value ∙ c.in-WithLiteral.ensures.step in
    let arm = two_arm (applied c.args.op (map tree c.args.args)) c.in-WithLiteral.op (tree c.in-WithLiteral.a.now) (lit c.in-WithLiteral.c) c.requires.typed (parts_low c.args.op (map tree c.args.args) c.requires.low) e in
    answer_two (applied c.args.op (map tree c.args.args)) c.in-WithLiteral.op (tree c.in-WithLiteral.a.now) (lit c.in-WithLiteral.c) (map tree c.in_ok-copy_and_literal-in-WithLiteral.field-0) c.made-in-WithLiteral.result c.in_ok-copy_and_literal-in-WithLiteral.ensures.list arm c.made-in-WithLiteral.ensures.answer c.made-in-WithLiteral.ensures.low

pub copies_of_two-requires-in-PlusLiteral-clause-a_typed : goal.copies_of_two-requires-in-PlusLiteral-clause-a_typed
copies_of_two-requires-in-PlusLiteral-clause-a_typed t c =
    let e : rule_of (applied c.args.op (map tree c.args.args)) ≡ Some (made_two Add (made_two c.in-PlusLiteral.op (given (tree c.in-PlusLiteral.a.now)) (given (tree c.in-PlusLiteral.b.now))) (given (lit c.in-PlusLiteral.c))) = sym c.right_side.ensures.value ∙ c.in-PlusLiteral.ensures.step in
    let arm = plus_arm (applied c.args.op (map tree c.args.args)) c.in-PlusLiteral.op (tree c.in-PlusLiteral.a.now) (tree c.in-PlusLiteral.b.now) c.in-PlusLiteral.c c.requires.typed (parts_low c.args.op (map tree c.args.args) c.requires.low) e in
    arm.typed.1

pub copies_of_two-requires-in-PlusLiteral-clause-b_typed : goal.copies_of_two-requires-in-PlusLiteral-clause-b_typed
copies_of_two-requires-in-PlusLiteral-clause-b_typed t c =
    let e : rule_of (applied c.args.op (map tree c.args.args)) ≡ Some (made_two Add (made_two c.in-PlusLiteral.op (given (tree c.in-PlusLiteral.a.now)) (given (tree c.in-PlusLiteral.b.now))) (given (lit c.in-PlusLiteral.c))) = sym c.right_side.ensures.value ∙ c.in-PlusLiteral.ensures.step in
    let arm = plus_arm (applied c.args.op (map tree c.args.args)) c.in-PlusLiteral.op (tree c.in-PlusLiteral.a.now) (tree c.in-PlusLiteral.b.now) c.in-PlusLiteral.c c.requires.typed (parts_low c.args.op (map tree c.args.args) c.requires.low) e in
    arm.typed.2

pub made-requires-in-PlusLiteral : goal.made-requires-in-PlusLiteral
made-requires-in-PlusLiteral t c =
    let e : rule_of (applied c.args.op (map tree c.args.args)) ≡ Some (made_two Add (made_two c.in-PlusLiteral.op (given (tree c.in-PlusLiteral.a.now)) (given (tree c.in-PlusLiteral.b.now))) (given (lit c.in-PlusLiteral.c))) = sym c.right_side.ensures.value ∙ c.in-PlusLiteral.ensures.step in
    let arm = plus_arm (applied c.args.op (map tree c.args.args)) c.in-PlusLiteral.op (tree c.in-PlusLiteral.a.now) (tree c.in-PlusLiteral.b.now) c.in-PlusLiteral.c c.requires.typed (parts_low c.args.op (map tree c.args.args) c.requires.low) e in
    let call = call_inner (applied c.args.op (map tree c.args.args)) c.in-PlusLiteral.op (tree c.in-PlusLiteral.a.now) (tree c.in-PlusLiteral.b.now) c.in-PlusLiteral.c (map tree c.in_ok-copies_of_two-in-PlusLiteral.field-0) c.in_ok-copies_of_two-in-PlusLiteral.ensures.list arm in
    (omega (arith, call.0, c.decreases), call.1)

pub made-requires-in-Ok : goal.made-requires-in-Ok
made-requires-in-Ok t c =
    let e : rule_of (applied c.args.op (map tree c.args.args)) ≡ Some (made_two Add (made_two c.in-PlusLiteral.op (given (tree c.in-PlusLiteral.a.now)) (given (tree c.in-PlusLiteral.b.now))) (given (lit c.in-PlusLiteral.c))) = sym c.right_side.ensures.value ∙ c.in-PlusLiteral.ensures.step in
    let arm = plus_arm (applied c.args.op (map tree c.args.args)) c.in-PlusLiteral.op (tree c.in-PlusLiteral.a.now) (tree c.in-PlusLiteral.b.now) c.in-PlusLiteral.c c.requires.typed (parts_low c.args.op (map tree c.args.args) c.requires.low) e in
    let list : map tree c.in_ok-list_of_two-in-Ok.field-0 ≡ tree c.in-Ok.sum ∷ lit c.in-PlusLiteral.c ∷ [] = ap (map tree) c.in_ok-list_of_two-in-Ok.ensures.list ∙ ap (λ x. tree c.in-Ok.sum ∷ x ∷ []) (tree_lit c.in-PlusLiteral.c) in
    let call = call_outer (applied c.args.op (map tree c.args.args)) c.in-PlusLiteral.op (tree c.in-PlusLiteral.a.now) (tree c.in-PlusLiteral.b.now) c.in-PlusLiteral.c (map tree c.in_ok-copies_of_two-in-PlusLiteral.field-0) (map tree c.in_ok-list_of_two-in-Ok.field-0) c.in-Ok.sum c.in_ok-copies_of_two-in-PlusLiteral.ensures.list list arm c.in-Ok.ensures.answer c.in-Ok.ensures.low in
    (omega (arith, call.0, c.decreases), call.1)

pub returns-in-Ok-clause-answer : goal.returns-in-Ok-clause-answer
returns-in-Ok-clause-answer t c =
    let e : rule_of (applied c.args.op (map tree c.args.args)) ≡ Some (made_two Add (made_two c.in-PlusLiteral.op (given (tree c.in-PlusLiteral.a.now)) (given (tree c.in-PlusLiteral.b.now))) (given (lit c.in-PlusLiteral.c))) = sym c.right_side.ensures.value ∙ c.in-PlusLiteral.ensures.step in
    let arm = plus_arm (applied c.args.op (map tree c.args.args)) c.in-PlusLiteral.op (tree c.in-PlusLiteral.a.now) (tree c.in-PlusLiteral.b.now) c.in-PlusLiteral.c c.requires.typed (parts_low c.args.op (map tree c.args.args) c.requires.low) e in
    let list : map tree c.in_ok-list_of_two-in-Ok.field-0 ≡ tree c.in-Ok.sum ∷ lit c.in-PlusLiteral.c ∷ [] = ap (map tree) c.in_ok-list_of_two-in-Ok.ensures.list ∙ ap (λ x. tree c.in-Ok.sum ∷ x ∷ []) (tree_lit c.in-PlusLiteral.c) in
    answer_outer (applied c.args.op (map tree c.args.args)) c.in-PlusLiteral.op (tree c.in-PlusLiteral.a.now) (tree c.in-PlusLiteral.b.now) c.in-PlusLiteral.c (map tree c.in_ok-copies_of_two-in-PlusLiteral.field-0) (map tree c.in_ok-list_of_two-in-Ok.field-0) c.in-Ok.sum c.made-in-Ok.result c.in_ok-copies_of_two-in-PlusLiteral.ensures.list list arm c.in-Ok.ensures.answer c.made-in-Ok.ensures.answer c.made-in-Ok.ensures.low

pub returns-clause-answer : goal.returns-clause-answer
returns-clause-answer t c =
    let e : rule_of (applied c.args.op (map tree c.args.args)) ≡ Some (made_two Add (made_two c.in-PlusLiteral.op (given (tree c.in-PlusLiteral.a.now)) (given (tree c.in-PlusLiteral.b.now))) (given (lit c.in-PlusLiteral.c))) = sym c.right_side.ensures.value ∙ c.in-PlusLiteral.ensures.step in
    let arm = plus_arm (applied c.args.op (map tree c.args.args)) c.in-PlusLiteral.op (tree c.in-PlusLiteral.a.now) (tree c.in-PlusLiteral.b.now) c.in-PlusLiteral.c c.requires.typed (parts_low c.args.op (map tree c.args.args) c.requires.low) e in
    answer_fault (applied c.args.op (map tree c.args.args)) c.in-PlusLiteral.op (tree c.in-PlusLiteral.a.now) (tree c.in-PlusLiteral.b.now) c.in-PlusLiteral.c (map tree c.in_ok-copies_of_two-in-PlusLiteral.field-0) c.in-Err.fault c.in_ok-copies_of_two-in-PlusLiteral.ensures.list arm c.in-Err.ensures.answer
