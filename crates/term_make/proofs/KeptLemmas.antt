-- What a term has through its parts, what is made of an application has too.
use Rattle.std.proofs.Common.{◌≡◌, Bool, true, false, cond, eqb, Some, None}
use Rattle.std.specs.Prelude.{⊤}
use Rattle.bv_bits.specs.declared.Bits.{Bits}
use Rattle.bv_bits.specs.declared.Op.{Op}
use Rattle.bv_bits.specs.declared.Op.TheVariants.{Add, Sub, Extract}
use Rattle.term_tree.specs.Terms.{Tree, lit, var, one, two, three, sel}
use Rattle.term_rules.specs.Rules.{Right, given, made_one, made_two, opposite, rule_of}
use Rattle.term_make.specs.Making.{IsMade, IsBuilt, plain, ruled, stands, builds_one, builds_two, make}
use Rattle.term_rules.proofs.Rewrites as rewrite
use Rattle.term_rules.proofs.Rewrites.{Rewrites}
use Rattle.term_rules.proofs.RewriteLemmas.{rewrites}
use Rattle.term_make.proofs.StepLemmas.{is_made}

-- what holds of terms, and of operators
module _ (P : Tree → Type 0) (O : Op → Type 0) where
  -- an application whose operator and arguments have it, or another term that has it
  abbrev pub HasParts : Tree → Type 0
  HasParts (lit b) = ⊤
  HasParts (var x w) = P (var x w)
  HasParts (one op a) = O op × P a
  HasParts (two op a b) = O op × P a × P b
  HasParts (three op a b c) = O op × P a × P b × P c
  HasParts (sel f i) = P (sel f i)

  -- literals have it, its operators are the rules' too, an application with it has it in its parts, and has it by its parts
  -- where no rule fits
  pub record IsOfParts : Type 0 where
    pub literals : (b : Bits) → P (lit b)
    pub add : O Add
    pub sub : O Sub
    pub extract : (hi lo : _) → O (Extract hi lo)
    pub opposites : (op p : Op) → opposite op ≡ Some p → O p
    pub of_one : (op : Op) (a : Tree) → P (one op a) → P a
    pub of_two : (op : Op) (a b : Tree) → P (two op a b) → P a × P b
    pub stays : (t : Tree) → rule_of t ≡ None → HasParts t → P t

  -- a right side whose operators and terms have it
  abbrev RightHas : Right → Type 0
  RightHas (given t) = P t
  RightHas (made_one op r) = O op × RightHas r
  RightHas (made_two op r s) = O op × RightHas r × RightHas s

  either : (b : Bool) (x y : Tree) → P x → P y → P (cond b x y)
  either true x y h k = h
  either false x y h k = k

  module _ (is : IsOfParts) where
    -- the parts of a sum or difference x and y, a literal beside them
    moved : (op p : Op) (x y : Tree) (c d : Bits) → O op → P x → P (two p y (lit d)) → RightHas (made_two Add (made_two op (given x) (given y)) (given (lit c)))
    moved op p x y c d o h k = (is.add, (o, h, (is.of_two p y (lit d) k).0), is.literals c)

    moved_first : (op p : Op) (x y : Tree) (c d : Bits) → O op → P (two p x (lit d)) → P y → RightHas (made_two Add (made_two op (given x) (given y)) (given (lit c)))
    moved_first op p x y c d o h k = (is.add, (o, (is.of_two p x (lit d) h).0, k), is.literals c)

    rewrites_has : {t : Tree} {r : Right} → Rewrites t r → HasParts t → RightHas r
    rewrites_has (rewrite.one_literal op a) h = is.literals _
    rewrites_has (rewrite.two_literals op a b) h = is.literals _
    rewrites_has (rewrite.three_literals op a b c) h = is.literals _
    rewrites_has (rewrite.not_not x) h = is.of_one _ x h.1
    rewrites_has (rewrite.not_relation op p x y e) h = let k = is.of_two op x y h.1 in (is.opposites op p e, k.0, k.1)
    rewrites_has (rewrite.zero_and x y e) h = h.1
    rewrites_has (rewrite.and_zero x y e) h = h.2
    rewrites_has (rewrite.ones_and x y e) h = h.2
    rewrites_has (rewrite.and_ones x y e) h = h.1
    rewrites_has (rewrite.and_same x y e) h = h.1
    rewrites_has (rewrite.or_same x y e) h = h.1
    rewrites_has (rewrite.zero_or x y e) h = h.2
    rewrites_has (rewrite.or_zero x y e) h = h.1
    rewrites_has (rewrite.ones_or x y e) h = h.1
    rewrites_has (rewrite.or_ones x y e) h = h.2
    rewrites_has (rewrite.zero_xor x y e) h = h.2
    rewrites_has (rewrite.xor_zero x y e) h = h.1
    rewrites_has (rewrite.xor_same x y e) h = is.literals _
    rewrites_has (rewrite.add_turned x y e f) h = (is.add, h.2, h.1)
    rewrites_has (rewrite.add_zero x y e) h = h.1
    rewrites_has (rewrite.add_literals x c d) h = (is.add, (is.of_two Add x (lit c) h.1).0, is.literals _)
    rewrites_has (rewrite.add_out_of_second x y c) h = moved Add Add x y c c is.add h.1 h.2
    rewrites_has (rewrite.add_out_of_first x y c e) h = moved_first Add Add x y c c is.add h.1 h.2
    rewrites_has (rewrite.sub_literal x c) h = (is.add, h.1, is.literals _)
    rewrites_has (rewrite.sub_same x y e) h = is.literals _
    rewrites_has (rewrite.sub_left x y z e) h = (is.of_two Add x y h.1).1
    rewrites_has (rewrite.sub_out_of_second x y c) h = moved Sub Add x y _ c is.sub h.1 h.2
    rewrites_has (rewrite.sub_out_of_first x y c e) h = moved_first Sub Add x y c c is.sub h.1 h.2
    rewrites_has (rewrite.zero_mul x y e) h = h.1
    rewrites_has (rewrite.mul_zero x y e) h = h.2
    rewrites_has (rewrite.one_mul x y e) h = h.2
    rewrites_has (rewrite.mul_one x y e) h = h.1
    rewrites_has (rewrite.shl_zero x y e) h = h.1
    rewrites_has (rewrite.lshr_zero x y e) h = h.1
    rewrites_has (rewrite.ashr_zero x y e) h = h.1
    rewrites_has (rewrite.relation_same op b x y e f) h = is.literals _
    rewrites_has (rewrite.below_zero x y e) h = is.literals _
    rewrites_has (rewrite.zero_above x y e) h = is.literals _
    rewrites_has (rewrite.at_least_zero x y e) h = is.literals _
    rewrites_has (rewrite.zero_at_most x y e) h = is.literals _
    rewrites_has (rewrite.extract_all hi lo x e f) h = h.1
    rewrites_has (rewrite.extract_extract hi lo i l x) h = (is.extract _ _, is.of_one _ x h.1)
    rewrites_has (rewrite.extract_low hi lo x y e) h = (is.extract _ _, (is.of_two _ x y h.1).1)
    rewrites_has (rewrite.extract_high hi lo x y e) h = (is.extract _ _, (is.of_two _ x y h.1).0)
    rewrites_has (rewrite.extract_zext hi lo to x e) h = (is.extract _ _, is.of_one _ x h.1)
    rewrites_has (rewrite.zext_own to x e) h = h.1
    rewrites_has (rewrite.sext_own to x e) h = h.1
    rewrites_has (rewrite.ite_literal t x y) h = either (eqb t.value 1) x y h.2 h.3
    rewrites_has (rewrite.ite_same t x y e) h = h.2

    mutual
      pub made_has : {t u : Tree} → IsMade t u → HasParts t → P u
      made_has (plain {t = t} e) h = is.stays t e h
      made_has (ruled {t = t} {r = r} e b) h = built_has b (rewrites_has (rewrites t r e) h)

      built_has : {r : Right} {u : Tree} → IsBuilt r u → RightHas r → P u
      built_has stands h = h
      built_has (builds_one b m) h = made_has m (h.0, built_has b h.1)
      built_has (builds_two b c m) h = made_has m (h.0, built_has b h.1, built_has c h.2)

    pub make_has : (t : Tree) → HasParts t → P (make t).it
    make_has t h = made_has (is_made t) h
