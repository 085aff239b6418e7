-- What is made of normal terms is normal.
use Rattle.std.proofs.Common.{◌≡◌, ◌≤◌, Some, None, refl, ap, ◌∙◌}
use Rattle.std.proofs.lemmas.Bool.{le-ltb}
use Rattle.std.specs.Prelude.{⊤}
use Rattle.bv_bits.specs.declared.Op.{Op}
use Rattle.term_tree.specs.Terms.{Tree, lit, var, one, two, three, sel, height, HIGHEST}
use Rattle.term_rules.specs.Rules.{rule_of}
use Rattle.term_make.specs.Making.{IsMade, Made, just, asks, make_by, make, within_height}
use Rattle.term_make.specs.Normal.{IsNormal, normal_literal, normal_variable, normal_one, normal_two, normal_three, normal_selection, HasNormalParts}
use Rattle.term_make.proofs.KeptLemmas.{HasParts, IsOfParts, made_has}
use Rattle.term_make.proofs.StepLemmas.{make_steps, is_made}

-- ---- parts of normal terms

of_one : (op : Op) (a : Tree) → IsNormal (one op a) → IsNormal a
of_one op a (normal_one e h) = h

of_two : (op : Op) (a b : Tree) → IsNormal (two op a b) → IsNormal a × IsNormal b
of_two op a b (normal_two e h k) = (h, k)

-- an application that no rule fits
stays : (t : Tree) → rule_of t ≡ None → HasParts IsNormal (λ op. ⊤) t → IsNormal t
stays (lit b) e h = normal_literal
stays (var x w) e h = h
stays (one op a) e h = normal_one e h.1
stays (two op a b) e h = normal_two e h.1 h.2
stays (three op a b c) e h = normal_three e h.1 h.2 h.3
stays (sel f i) e h = h

normal_of_parts : IsOfParts IsNormal (λ op. ⊤)
normal_of_parts = record {
  literals = λ b. normal_literal;
  add = tt;
  sub = tt;
  extract = λ hi lo. tt;
  opposites = λ op p e. tt;
  of_one = of_one;
  of_two = of_two;
  stays = stays;
}

has_parts : (t : Tree) → HasNormalParts t → HasParts IsNormal (λ op. ⊤) t
has_parts (lit b) h = tt
has_parts (var x w) h = normal_variable
has_parts (one op a) h = (tt, h)
has_parts (two op a b) h = (tt, h.0, h.1)
has_parts (three op a b c) h = (tt, h.0, h.1, h.2)
has_parts (sel f i) h = normal_selection h

-- ---- what is made

pub made_is_normal : (t u : Tree) → HasNormalParts t → IsMade t u → IsNormal u
made_is_normal t u h m = made_has IsNormal (λ op. ⊤) normal_of_parts m (has_parts t h)

-- what make gives
pub make_normal : (t : Tree) → HasNormalParts t → IsNormal (make t).it
make_normal t h = made_is_normal t (make t).it h (is_made t)

-- ---- normal terms are made of themselves

normal_rule : (t : Tree) → IsNormal t → rule_of t ≡ None
normal_rule t normal_literal = refl
normal_rule t normal_variable = refl
normal_rule t (normal_one e a) = e
normal_rule t (normal_two e a b) = e
normal_rule t (normal_three e a b c) = e
normal_rule t (normal_selection i) = refl

alone_within : (t : Tree) → height t ≤ HIGHEST → within_height (asks t (just t)) ≡ Some t
alone_within t low = rw (le-ltb HIGHEST (height t) low) refl

pub normal_made : (t : Tree) → IsNormal t → height t ≤ HIGHEST → within_height (make t) ≡ Some t
normal_made t n low = ap (λ (m : Made Tree). within_height m) (make_steps t ∙ ap (make_by make t) (normal_rule t n)) ∙ alone_within t low
