use Rattle.std.proofs.Common.{List, map, arith, subst}
use Rattle.term_tree.specs.Terms.{IsTyped, applied}
use Rattle.term_arena.specs.declared.node.TermId.{TermId}
use Rattle.term_arena.specs.Answers.{id_term}
use Rattle.term_arena.proofs.ArgsLemmas.{three_of, few_args}
use Rattle.arena_make.proofs.making.right_side.Goals as goal
use Rattle.arena_make.proofs.making.right_side.Goals.{in_default-via-then-args-lt1, in_default-via-else-args-lt1+else-args-lt2+else-args-lt3+else-args-lt4}

pub unreachable-requires : goal.unreachable-requires
unreachable-requires c =
    let few = few_args c.args.op (id_term c.args.terms.now) c.args.args.now c.requires.typed in
    elim c.in_default.branch [ in_default-via-then-args-lt1 w ↦ (let a = few.0 in let b = few.1 in grind arith) | in_default-via-else-args-lt1+else-args-lt2+else-args-lt3+else-args-lt4 w ↦ (let a = few.0 in let b = few.1 in grind arith) ]

pub three_rule-requires : goal.three_rule-requires
three_rule-requires c =
    let e = three_of c.args.args.now (record { number = 0 }) c.in-len3.len_at_least c.in-len3.len_below in
    record { typed = subst (λ (l : List TermId). IsTyped (applied c.args.op (map (id_term c.args.terms.now) l))) e c.requires.typed }
