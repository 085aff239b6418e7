use Rattle.std.proofs.Common.{ap, sym, ◌∙◌, subst}
use Rattle.term_tree.specs.Terms.{Tree, ArrayTree, array, IsTypedArray}
use Rattle.term_select.specs.Selecting.{select}
use Rattle.term_replace.proofs.ReplaceLemmas.{substitute_array_typed}
use Rattle.term_arena.specs.Nodes.{array_at}
use Rattle.term_arena.specs.Answers.{id_term}
use Rattle.term_arena.specs.Said.{Said, said_of}
use Rattle.term_arena.proofs.MeaningLemmas.{keeps_trans}
use Rattle.term_arena.proofs.MakesLemmas.{makes_as}
use Rattle.term_arena.proofs.StayLemmas.{array_stays}
use Rattle.arena_replace.proofs.KnownLemmas.{array_stands, array_not_replaced}
use Rattle.arena_replace.proofs.replacing.byte_of.Goals as goal

pub select-requires-clause-array : goal.select-requires-clause-array
select-requires-clause-array c =
    let o = c.args.terms.now in
    let by = c.requires.known.0 in
    let f = c.requires.is.0 in
    let s = array_stands o by c.args.known.now c.requires.known.1 f c.in-Some.array.number c.laws.ensures.equal_arrays (c.in-Some.ensures f c.requires.is.1 c.requires.is.2) in
    subst IsTypedArray (sym (ap (array_at o) c.array_for-of.ensures ∙ s)) (substitute_array_typed by (array f) c.requires.known.1.typed tt tt)

pub returns-in-Some-clause-makes : goal.returns-in-Some-clause-makes
returns-in-Some-clause-makes c by f i k e =
    let o = c.args.terms.now in
    let m = c.select.ensures.makes in
    let s = ap (array_at o) c.array_for-of.ensures ∙ array_stands o by c.args.known.now k f c.in-Some.array.number c.laws.ensures.equal_arrays (c.in-Some.ensures f i e) in
    let typed = subst IsTypedArray (sym s) (substitute_array_typed by (array f) k.typed tt tt) in
    makes_as m
    (λ last h.
    ap (λ (g : ArrayTree). let q : Said ⊥ Tree = said_of (select g (id_term last c.args.at)) in q) (array_stays o last (keeps_trans o _ last m.kept h) c.array_for-of.result typed ∙ s))

pub returns-in-None-clause-makes : goal.returns-in-None-clause-makes
returns-in-None-clause-makes c by f i k e =
    let kept = array_not_replaced c.args.terms.now by c.args.known.now k f (λ n r q s. c.in-None.ensures f i e n q) in
    makes_as (c.plain_byte.ensures.makes f i e) (λ last h. ap (λ (g : ArrayTree). let q : Said ⊥ Tree = said_of (select g (id_term last c.args.at)) in q) (sym kept))
