use Rattle.std.proofs.Common.{◌≡◌, sym, ◌∙◌, subst}
use Rattle.bv_bits.specs.declared.Op.TheVariants.{ULt}
use Rattle.term_tree.specs.Terms.{Tree, two, IsTyped, IsTerm}
use Rattle.term_arena.specs.Answers.{id_term, id_array}
use Rattle.term_arena.proofs.MeaningLemmas.{keeps_itself, keeps_trans}
use Rattle.term_arena.proofs.MakesLemmas.{reaches_start, reaches_step, reaches_stop, reaches_done, makes_stop}
use Rattle.term_arena.proofs.AnswerLemmas.{answer_is}
use Rattle.term_arena.proofs.StayLemmas.{term_stays, typed_array_stays, index_stays, byte_stays}
use Rattle.array_terms.specs.SameArrays.{index, same_terms}
use Rattle.array_terms.proofs.AgreeLemmas.{order_typed, equal_typed, said_answers}
use Rattle.array_terms.proofs.same.same_array.Goals as goal

pub returns-in-Err-clause-makes : goal.returns-in-Err-clause-makes
returns-in-Err-clause-makes c = makes_stop _ c.in-Err.ensures.makes

pub make-requires : goal.make-requires
make-requires c =
    let o = c.args.terms.now in
    let n = c.add_term.new.self in
    let m = c.in-Ok.ensures.makes in
    let is : index ≡ id_term n c.in-Ok.index = (let t = (m.tells n (keeps_itself n)).0 in cc) in
    record { typed = subst (λ (t : Tree). IsTyped (two ULt t (id_term n c.args.len))) is (order_typed (id_term n c.args.len) (index_stays o n m.kept c.args.len c.requires.length)) }

pub returns-in-Err-make-clause-makes : goal.returns-in-Err-make-clause-makes
returns-in-Err-make-clause-makes c = reaches_stop _ (reaches_step _ reaches_start c.in-Ok.ensures.makes) c.in-Err-make.ensures.makes

pub select-requires-clause-array : goal.select-requires-clause-array
select-requires-clause-array c =
    let o = c.args.terms.now in
    let k = keeps_trans o _ _ c.in-Ok.ensures.makes.kept c.in-Ok-make.ensures.makes.kept in
    typed_array_stays o _ k c.args.one c.requires.one

pub returns-in-Err-select-clause-makes : goal.returns-in-Err-select-clause-makes
returns-in-Err-select-clause-makes c = reaches_stop _ (reaches_step _ (reaches_step _ reaches_start c.in-Ok.ensures.makes) c.in-Ok-make.ensures.makes) c.in-Err-select.ensures.makes

pub select-requires-2-clause-array : goal.select-requires-2-clause-array
select-requires-2-clause-array c =
    let o = c.args.terms.now in
    let k = keeps_trans o _ _ c.in-Ok.ensures.makes.kept (keeps_trans _ _ _ c.in-Ok-make.ensures.makes.kept c.in-Ok-select.ensures.makes.kept) in
    typed_array_stays o _ k c.args.two c.requires.two

pub returns-in-Err-select-2-clause-makes : goal.returns-in-Err-select-2-clause-makes
returns-in-Err-select-2-clause-makes c =
    reaches_stop _ (reaches_step _ (reaches_step _ (reaches_step _ reaches_start c.in-Ok.ensures.makes) c.in-Ok-make.ensures.makes) c.in-Ok-select.ensures.makes) c.in-Err-select-2.ensures.makes

pub make-requires-2 : goal.make-requires-2
make-requires-2 c =
    let n = c.select-2.new.terms in
    let k = c.in-Ok-select-2.ensures.makes.kept in
    let x = c.in-Ok-select.ensures in
    let first = byte_stays c.select.new.terms n k c.in-Ok-select.x (x.wide, x.term.typed) in
    let y = c.in-Ok-select-2.ensures in
    record { typed = equal_typed (id_term n c.in-Ok-select.x) (id_term n c.in-Ok-select-2.y) (first.1, first.0) (y.term.typed, y.wide) }

pub returns-in-Ok-make-2-clause-makes : goal.returns-in-Ok-make-2-clause-makes
returns-in-Ok-make-2-clause-makes c =
    reaches_done (reaches_step _ (reaches_step _ (reaches_step _ (reaches_step _ (reaches_step _ reaches_start c.in-Ok.ensures.makes) c.in-Ok-make.ensures.makes) c.in-Ok-select.ensures.makes) c.in-Ok-select-2.ensures.makes)
    c.in-Ok-make-2.ensures.makes)

pub returns-in-Ok-make-2-clause-fact : goal.returns-in-Ok-make-2-clause-fact
returns-in-Ok-make-2-clause-fact c =
    let m = c.make.new.terms in
    let n = c.make-2.new.terms in
    let k = keeps_trans m _ n c.in-Ok-select.ensures.makes.kept (keeps_trans _ _ n c.in-Ok-select-2.ensures.makes.kept c.in-Ok-make-2.ensures.makes.kept) in
    let fact = c.in-Ok-make.ensures.term in
    subst IsTerm (sym (term_stays m n k c.in-Ok-make.fact fact.typed)) fact

pub returns-in-Err-make-2-clause-makes : goal.returns-in-Err-make-2-clause-makes
returns-in-Err-make-2-clause-makes c =
    reaches_stop _ (reaches_step _ (reaches_step _ (reaches_step _ (reaches_step _ reaches_start c.in-Ok.ensures.makes) c.in-Ok-make.ensures.makes) c.in-Ok-select.ensures.makes) c.in-Ok-select-2.ensures.makes)
    c.in-Err-make-2.ensures.makes

pub returns-in-Ok-make-2-clause-says : goal.returns-in-Ok-make-2-clause-says
returns-in-Ok-make-2-clause-says c =
    let n = c.make-2.new.terms in
    let said = said_answers (id_array n c.args.one) (id_array n c.args.two) (id_term n c.args.len) in
    sym (answer_is (same_terms (id_array n c.args.one) (id_array n c.args.two) (id_term n c.args.len)) (id_term n c.in-Ok-make.fact, id_term n c.in-Ok-make-2.goal)
    (sym said ∙ ((returns-in-Ok-make-2-clause-makes c).tells n (keeps_itself n)).0))
