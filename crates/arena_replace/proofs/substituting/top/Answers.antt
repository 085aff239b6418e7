use Rattle.std.proofs.Common.{get_or}
use Rattle.term_arena.proofs.TopLemmas.{none, one_args, two_args, three_args, sel_at}
use Rattle.term_arena.proofs.StayLemmas.{one_top, two_top, three_top, sel_top}
use Rattle.arena_replace.proofs.substituting.top.Goals as goal

pub returns-in-len1 : goal.returns-in-len1
returns-in-len1 c =
    let args = c.in-App.args.now in
    let p = one_args c.args.terms.now c.laws.ensures.arena c.args.term.number c.requires.term c.in-App.op args c.in-App.ensures.node c.in-len1.len_at_least c.in-len1.len_below in
    (one_top c.args.terms.now c.args.term.number c.requires.term c.in-App.op (get_or args 0 none) p.2, p.0)

pub returns-in-len2 : goal.returns-in-len2
returns-in-len2 c =
    let args = c.in-App.args.now in
    let p = two_args c.args.terms.now c.laws.ensures.arena c.args.term.number c.requires.term c.in-App.op args c.in-App.ensures.node c.in-len2.len_at_least c.in-len2.len_below in
    (two_top c.args.terms.now c.args.term.number c.requires.term c.in-App.op (get_or args 0 none) (get_or args 1 none) p.2, p.0.0, p.0.1)

pub returns-in-len3 : goal.returns-in-len3
returns-in-len3 c =
    let args = c.in-App.args.now in
    let p = three_args c.args.terms.now c.laws.ensures.arena c.args.term.number c.requires.term c.in-App.op args c.in-App.ensures.node c.in-len3.len_at_least c.in-len3.len_below in
    (three_top c.args.terms.now c.args.term.number c.requires.term c.in-App.op (get_or args 0 none) (get_or args 1 none) (get_or args 2 none) p.2, p.0.0, p.0.1, p.0.2)

pub returns-in-Sel : goal.returns-in-Sel
returns-in-Sel c =
    let p = sel_at c.args.terms.now c.laws.ensures.arena c.args.term.number c.requires.term c.in-Sel.of.now c.in-Sel.at c.in-Sel.ensures.node in
    (c.in-Sel.of.now, sel_top c.args.terms.now c.args.term.number c.requires.term c.in-Sel.of.now c.in-Sel.at p.2, p.0)
