-- What is spelled is normal.
use Rattle.std.proofs.Common.{ℕ, List, [], ◌∷◌, subst}
use Rattle.bv_bits.specs.declared.Op.{Op}
use Rattle.std.specs.Prelude.{⊤}
use Rattle.term_tree.specs.Terms.{Tree, ArrayTree, array, applied}
use Rattle.term_make.specs.Making.{make}
use Rattle.term_select.specs.Selecting.{select}
use Rattle.term_words.specs.Scopes.{Scope}
use Rattle.term_read.specs.Spelling.{Words, Spells, ArraySpells}
use Rattle.term_make.specs.Normal.{IsNormal, normal_literal, normal_variable, normal_selection, HasNormalParts, IsNormalArray}
use Rattle.term_make.proofs.AnswerLemmas.{within_is}
use Rattle.term_read.proofs.SpelledPartLemmas.{OfTerms, any_words, IsSpelledSo, ArrayIsSpelledSo, spelled_so, array_spelled_so}
use Rattle.term_make.proofs.NormalLemmas.{make_normal}

-- ---- what is spelled is normal

parts_normal : (op : Op) (ts : List Tree) → OfTerms IsNormal ts → HasNormalParts (applied op ts)
parts_normal op [] h = tt
parts_normal op (a ∷ []) h = h.0
parts_normal op (a ∷ b ∷ []) h = (h.0, h.1.0)
parts_normal op (a ∷ b ∷ c ∷ []) h = (h.0, h.1.0, h.1.1.0)
parts_normal op (a ∷ b ∷ c ∷ d ∷ ts) h = tt

module _ (scope : Scope) where
  normal_spelled : IsSpelledSo scope (λ w. ⊤) IsNormal
  normal_spelled = record {
    of_literal = λ b h. normal_literal;
    of_variable = λ x w h e. normal_variable;
    of_application = λ op ws r ts t heads h fits made. subst IsNormal (within_is (make (applied op ts)) t made).1 (make_normal (applied op ts) (parts_normal op ts h));
    of_selection = λ f i t h e inner wide made. subst IsNormal (within_is (select (array f) i) t made).1 (normal_selection inner);
  }

  normal_array_spelled : ArrayIsSpelledSo scope (λ w. ⊤) IsNormal IsNormalArray
  normal_array_spelled = record {
    of_array = λ f h e. tt;
    of_update = λ f i e h k l wide byte low. (h, k, l);
    of_splice = λ f g i h k l wide low. (h, k, l);
  }

pub spelled_normal : (scope : Scope) (n : ℕ) (ws r : Words) (t : Tree) → Spells scope n ws t r → IsNormal t
spelled_normal scope n ws r t s = (spelled_so scope (λ w. ⊤) IsNormal (normal_spelled scope) n ws r t s (any_words ws)).0

-- so are the terms in an array term that is spelled
pub array_spelled_normal : (scope : Scope) (n : ℕ) (ws r : Words) (f : ArrayTree) → ArraySpells scope n ws f r → IsNormalArray f
array_spelled_normal scope n ws r f s =
    (array_spelled_so scope (λ w. ⊤) IsNormal (normal_spelled scope) IsNormalArray (normal_array_spelled scope) n ws r f s (any_words ws)).0
