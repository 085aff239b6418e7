-- What is made of terms without divisions holds none.
use Rattle.std.proofs.Common.{◌≡◌, false, Option, Some, None, refl, subst}
use Rattle.bv_bits.specs.declared.Op.{Op}
use Rattle.bv_bits.specs.declared.Op.TheVariants.{Eq, Ne, ULt, ULe, UGt, UGe, SLt, SLe, SGt, SGe}
use Rattle.term_tree.specs.Terms.{Tree, lit, var, one, two, three, sel}
use Rattle.term_tree.specs.Divisions.{is_division, HasNoDivision}
use Rattle.term_rules.specs.Rules.{opposite, rule_of}
use Rattle.term_make.specs.Making.{IsMade, make}
use Rattle.term_make.proofs.KeptLemmas.{HasParts, IsOfParts, made_has}
use Rattle.term_make.proofs.StepLemmas.{is_made}

-- an operator that is no division
abbrev IsWhole : Op → Type 0
IsWhole op = is_division op ≡ false

pub same_op_whole : (p q : Op) → ◌≡◌ {A = Option Op} (Some p) (Some q) → is_division p ≡ false → is_division q ≡ false
same_op_whole p q e h = let f : p ≡ q = cc in subst (λ (o : Op). is_division o ≡ false) f h

pub no_op : (q : Op) → ◌≡◌ {A = Option Op} None (Some q) → ⊥
no_op q e = cc

-- the opposite of a relation is none
opposite_whole : (op p : Op) → opposite op ≡ Some p → is_division p ≡ false
opposite_whole Eq p e = same_op_whole Ne p e refl
opposite_whole Ne p e = same_op_whole Eq p e refl
opposite_whole ULt p e = same_op_whole UGe p e refl
opposite_whole UGe p e = same_op_whole ULt p e refl
opposite_whole ULe p e = same_op_whole UGt p e refl
opposite_whole UGt p e = same_op_whole ULe p e refl
opposite_whole SLt p e = same_op_whole SGe p e refl
opposite_whole SGe p e = same_op_whole SLt p e refl
opposite_whole SLe p e = same_op_whole SGt p e refl
opposite_whole SGt p e = same_op_whole SLe p e refl
opposite_whole op p e = absurd (no_op p e)

stays : (t : Tree) → rule_of t ≡ None → HasParts HasNoDivision IsWhole t → HasNoDivision t
stays (lit b) e h = tt
stays (var x w) e h = tt
stays (one op a) e h = h
stays (two op a b) e h = h
stays (three op a b c) e h = h
stays (sel f i) e h = h

whole_of_parts : IsOfParts HasNoDivision IsWhole
whole_of_parts = record {
  literals = λ b. tt;
  add = refl;
  sub = refl;
  extract = λ hi lo. refl;
  opposites = opposite_whole;
  of_one = λ op a h. h.1;
  of_two = λ op a b h. (h.1, h.2);
  stays = stays;
}

has_parts : (t : Tree) → HasNoDivision t → HasParts HasNoDivision IsWhole t
has_parts (lit b) h = tt
has_parts (var x w) h = tt
has_parts (one op a) h = h
has_parts (two op a b) h = h
has_parts (three op a b c) h = h
has_parts (sel f i) h = h

pub made_whole : {t u : Tree} → IsMade t u → HasNoDivision t → HasNoDivision u
made_whole {t = t} m h = made_has HasNoDivision IsWhole whole_of_parts m (has_parts t h)

pub make_whole : (t : Tree) → HasNoDivision t → HasNoDivision (make t).it
make_whole t h = made_whole (is_made t) h
