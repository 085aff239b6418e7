-- A term or an array term whose variables are replaced by normal ones is normal.
use Rattle.std.proofs.Common.{ℕ}
use Rattle.std.specs.Prelude.{bytes_eq}
use Rattle.term_tree.specs.Terms.{Text, Tree, lit, var, one, two, three, sel, ArrayTree, array, upd, splice}
use Rattle.term_tree.proofs.FoundLemmas.{found, always}
use Rattle.term_make.specs.Normal.{IsNormal, normal_literal, normal_variable, IsNormalArray}
use Rattle.term_make.proofs.NormalLemmas.{make_normal}
use Rattle.term_select.proofs.SelectedNormalLemmas.{selected_normal}
use Rattle.term_replace.specs.Replacing.{Replacements, replaced_var, replaced_array, substitute, substitute_array}
use Rattle.term_replace.specs.NormalLaws.{AreNormal as NormalReplacements}

replaced_normal : (by : Replacements) (x : Text) (w : ℕ) → NormalReplacements by → IsNormal (replaced_var by x w)
replaced_normal by x w n =
    found IsNormal (λ p. bytes_eq p.0 x) (λ p. p.1) by.terms (var x w) (always (λ p. IsNormal p.1) (λ p. bytes_eq p.0 x) by.terms n.terms) normal_variable

replaced_array_normal : (by : Replacements) (f : Text) → NormalReplacements by → IsNormalArray (replaced_array by f)
replaced_array_normal by f n =
    found IsNormalArray (λ p. bytes_eq p.0 f) (λ p. p.1) by.arrays (array f) (always (λ p. IsNormalArray p.1) (λ p. bytes_eq p.0 f) by.arrays n.arrays) tt

pub substituted_normal : (by : Replacements) (t : Tree) → NormalReplacements by → IsNormal (substitute by t).it
substituted_normal by (lit b) n = normal_literal
substituted_normal by (var x w) n = replaced_normal by x w n
substituted_normal by (one op a) n = make_normal (one op (substitute by a).it) (substituted_normal by a n)
substituted_normal by (two op a b) n = make_normal (two op (substitute by a).it (substitute by b).it) (substituted_normal by a n, substituted_normal by b n)
substituted_normal by (three op a b c) n =
    make_normal (three op (substitute by a).it (substitute by b).it (substitute by c).it) (substituted_normal by a n, substituted_normal by b n, substituted_normal by c n)
substituted_normal by (sel f i) n = selected_normal (replaced_array by f) (substitute by i).it (replaced_array_normal by f n) (substituted_normal by i n)

pub substituted_array_normal : (by : Replacements) (f : ArrayTree) → NormalReplacements by → IsNormalArray (substitute_array by f).it
substituted_array_normal by (array f) n = replaced_array_normal by f n
substituted_array_normal by (upd of i e) n = (substituted_array_normal by of n, substituted_normal by i n, substituted_normal by e n)
substituted_array_normal by (splice of below i) n = (substituted_array_normal by of n, substituted_array_normal by below n, substituted_normal by i n)
