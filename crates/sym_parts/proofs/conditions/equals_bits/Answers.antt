use Rattle.std.specs.Prelude.{Result, Ok, Err, IfOk}
use Rattle.term_arena.specs.declared.node.TermId.{TermId}
use Rattle.term_arena.specs.Nodes.{Node}
use Rattle.sym_parts.specs.declared.faults.StepFault.{StepFault}
use Rattle.sym_parts.specs.Fits.{IsBit}
use Rattle.std.proofs.Common.{List, ◌≡◌, ap, sym, ◌∙◌, subst}
use Rattle.bv_bits.specs.declared.Op.TheVariants as op
use Rattle.term_tree.specs.Terms.{Tree, IsTyped, lit, two, width_of}
use Rattle.term_arena.specs.Answers.{id_term}
use Rattle.term_arena.proofs.StayLemmas.{term_stays}
use Rattle.term_arena.proofs.MakesLemmas.{makes_stop, reaches_start, reaches_step, reaches_end}
use Rattle.sym_rules.specs.Trees.{making}
use Rattle.sym_parts.proofs.ConditionLemmas.{eq_typed, eq_wide}
use Rattle.sym_parts.proofs.conditions.equals_bits.Goals as goal

-- both terms have one width where the literal is made
same_wide : (b t u l : Tree) → width_of b ≡ width_of t → u ≡ t → l ≡ b → width_of u ≡ width_of l
same_wide b t u l e s m = ap width_of s ∙ sym e ∙ ap width_of (sym m)

pub make_term-requires : goal.make_term-requires
make_term-requires c =
    let n = c.literal_term.new.terms in
    let s = term_stays c.args.terms.now n c.in-Ok.ensures.makes.kept c.args.id c.requires.id in
    record {
      typed = eq_typed (id_term n c.args.id) (id_term n c.in-Ok.literal) (subst IsTyped (sym s) c.requires.id) (subst IsTyped (sym c.in-Ok.ensures.is) c.requires.bits)
          (same_wide (lit c.args.bits) (id_term c.args.terms.now c.args.id) (id_term n c.args.id) (id_term n c.in-Ok.literal) c.requires.wide s c.in-Ok.ensures.is);
    }

pub returns-in-Ok-clause-makes : goal.returns-in-Ok-clause-makes
returns-in-Ok-clause-makes c =
    reaches_end (reaches_step (λ last l. making (two op.Eq (id_term last c.args.id) l)) reaches_start c.in-Ok.ensures.makes) c.make_term.ensures.makes

-- what is made has one bit
has_bit : (old new : List Node) (a b : TermId) (r : Result TermId StepFault) → width_of (id_term old a) ≡ width_of (id_term old b) → IfOk r (λ id. IsTyped (id_term new id))
    → IfOk r (λ id. width_of (id_term new id) ≡ width_of (two op.Eq (id_term old a) (id_term old b))) → IfOk r (λ id. IsBit new id)
has_bit old new a b (Ok id) e typed wide = (typed, wide ∙ eq_wide (id_term old a) (id_term old b) e)
has_bit old new a b (Err f) e typed wide = tt

pub returns-in-Ok-clause-bit : goal.returns-in-Ok-clause-bit
returns-in-Ok-clause-bit c =
    let n = c.literal_term.new.terms in
    let s = term_stays c.args.terms.now n c.in-Ok.ensures.makes.kept c.args.id c.requires.id in
    has_bit n c.make_term.new.terms c.args.id c.in-Ok.literal c.make_term.result
    (same_wide (lit c.args.bits) (id_term c.args.terms.now c.args.id) (id_term n c.args.id) (id_term n c.in-Ok.literal) c.requires.wide s c.in-Ok.ensures.is) c.make_term.ensures.typed c.make_term.ensures.wide

pub returns-in-Err-clause-makes : goal.returns-in-Err-clause-makes
returns-in-Err-clause-makes c = makes_stop (λ last l. making (two op.Eq (id_term last c.args.id) l)) c.in-Err.ensures.makes
