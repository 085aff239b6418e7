-- Types, indices and patterns that are spelled are read.
use Rattle.std.proofs.Common.{◌≡◌, ℕ, zero, suc, ◌+◌, ◌≤◌, ◌<◌, Bool, true, false, List, [], ◌∷◌, ◌++◌, Option, Some, None, Result, Ok, Err, refl, sym, ap, ◌∙◌, append_assoc, arith}
use Rattle.std.specs.Prelude.{⊤, if◌then◌else◌, nat_le}
use Rattle.std.proofs.lemmas.Bool.{le-leb}
use Rattle.bv_bits.specs.Bits.{IsWidth}
use Rattle.sail_syntax.specs.Tree.{Text, Tree, Case}
use Rattle.sail_syntax.specs.declared.tree.Index.{Index}
use Rattle.sail_syntax.specs.declared.tree.Infix.TheVariants as between
use Rattle.sail_syntax.specs.declared.types.Ty.{Ty}
use Rattle.sail_syntax.specs.declared.types.Ty.TheVariants as ty
use Rattle.sail_syntax.specs.declared.patterns.Part.{Part}
use Rattle.sail_syntax.specs.declared.patterns.Part.TheVariants as part
use Rattle.sail_syntax.specs.declared.patterns.Pattern.{Pattern}
use Rattle.sail_syntax.specs.declared.patterns.Pattern.TheVariants as pattern
use Rattle.sail_grammar.specs.declared.keyword.Keyword.TheVariants as kw
use Rattle.sail_grammar.specs.declared.mark.Mark.TheVariants as m
use Rattle.sail_grammar.specs.Words as words
use Rattle.sail_grammar.specs.Words.{Words, the, its, named, joining}
use Rattle.sail_grammar.specs.Expressions.{SpellsType, bits_type, bool_type, unit_type, enum_type, SpellsIndex, at_number, at_name, at_sum, SpellsPart, part_value, part_name, part_any, SpellsParts, last_part, more_parts, SpellsPattern, any_value, a_name, a_value, if_true, if_false, in_parts}
use Rattle.sail_machine.specs.declared.awaited.Await.TheVariants as a
use Rattle.sail_machine.specs.declared.awaited.Fixed.{Fixed}
use Rattle.sail_machine.specs.declared.awaited.Fixed.TheVariants as fixed
use Rattle.sail_machine.specs.declared.awaited.Counting.TheVariants as counting
use Rattle.sail_machine.specs.declared.awaited.Sized.{Sized}
use Rattle.sail_machine.specs.declared.awaited.Sized.TheVariants as sized
use Rattle.sail_machine.specs.declared.awaited.TypeUse.{TypeUse}
use Rattle.sail_machine.specs.declared.awaited.IndexUse.{IndexUse}
use Rattle.sail_machine.specs.declared.awaited.IndexUse.TheVariants as index
use Rattle.sail_machine.specs.Frames.{Frame, Frames, Mode, awaits, nest, arms, armed}
use Rattle.sail_machine.specs.Turns.{Turn, fixes, unexpected}
use Rattle.sail_machine.specs.Headers.{typed, sized_by, width_end, indexed, index_end}
use Rattle.sail_machine.specs.Machine.{parts_alone}
use Rattle.sail_machine.specs.Run.{run}
use Rattle.sail_machine.proofs.Steps.{go, goes_shallow, goes_if, width_ok}

module _ (end : ℕ) where
  -- a width in brackets
  pub reads_width : (k : Frames) (z : Sized) (w q s e : ℕ) (r : Words) → IsWidth w → nest k + 1 ≤ 128 → width_end z w ≡ fixed.BitsClose z w
      → run end k (awaits (a.Fixed (fixed.BitsOpen z))) (its m.Open q ∷ words.counted w s ∷ its m.Close e ∷ r) ≡ go end (sized_by k z w) r
  unfolding run
  reads_width k z w q s e r is h closes =
      goes_shallow end k (a.Number (counting.Width z)) q (words.counted w s ∷ its m.Close e ∷ r) h
      ∙ goes_if end _ (fixes k (width_end z w)) (unexpected s) (its m.Close e ∷ r) (width_ok w is)
      ∙ ap (λ (f : Fixed). run end k (awaits (a.Fixed f)) (its m.Close e ∷ r)) closes

  pub reads_type : {n : ℕ} {ts r : Words} {t : Ty} → SpellsType n ts t r → (k : Frames) (u : TypeUse) → nest k + n ≤ 128 → run end k (awaits (a.Type u)) ts ≡ go end (typed k u t) r
  unfolding run
  reads_type (bits_type {n = n} {w = w} {q = q} {s = s} {e = e} {r = r} is) k u deep = reads_width k (sized.Type u) w q s e r is (omega arith) refl
  reads_type bool_type k u deep = refl
  reads_type unit_type k u deep = refl
  reads_type enum_type k u deep = refl

  -- an index, and the word that ends it
  pub reads_index : {ts r : Words} {i : Index} {at : ℕ} (u : IndexUse) → SpellsIndex ts i (record { sign = index_end u; at = at } ∷ r) → (k : Frames) → run end k (awaits (a.Index u)) ts ≡ go end (indexed k u i at) r
  unfolding run
  reads_index index.High (at_number {i = i} {p = p} {r = r} h) k = goes_if end _ _ _ r (le-leb i 127 h)
  reads_index (index.Low hi) (at_number {i = i} {p = p} {r = r} h) k = goes_if end _ _ _ r (le-leb i 127 h)
  reads_index index.WithHigh (at_number {i = i} {p = p} {r = r} h) k = goes_if end _ _ _ r (le-leb i 127 h)
  reads_index (index.WithLow hi) (at_number {i = i} {p = p} {r = r} h) k = goes_if end _ _ _ r (le-leb i 127 h)
  reads_index index.High at_name k = refl
  reads_index (index.Low hi) at_name k = refl
  reads_index index.WithHigh at_name k = refl
  reads_index (index.WithLow hi) at_name k = refl
  reads_index index.High (at_sum {i = i} {r = r} h) k = goes_if end _ _ _ r (le-leb i 127 h)
  reads_index (index.Low hi) (at_sum {i = i} {r = r} h) k = goes_if end _ _ _ r (le-leb i 127 h)
  reads_index index.WithHigh (at_sum {i = i} {r = r} h) k = goes_if end _ _ _ r (le-leb i 127 h)
  reads_index (index.WithLow hi) (at_sum {i = i} {r = r} h) k = goes_if end _ _ _ r (le-leb i 127 h)

  pub reads_part : {n : ℕ} {ts r : Words} {p : Part} → SpellsPart n ts p r → (k : Frames) (ps : List Part) → nest k + n ≤ 128 → run end k (awaits (a.Part ps)) ts ≡ run end k (awaits (a.MoreParts (ps ++ p ∷ []))) r
  unfolding run
  reads_part part_value k ps deep = refl
  reads_part (part_name {n = n} {w = w} {t = t} {e = e} {e' = e'} {x = x} {r = r} is) k ps deep = reads_width k (sized.Part ps (Some x)) w t e e' r is (omega arith) refl
  reads_part (part_any {n = n} {w = w} {t = t} {e = e} {e' = e'} {r = r} is) k ps deep = reads_width k (sized.Part ps None) w t e e' r is (omega arith) refl

  -- two parts or more are a pattern
  two_parts : (k : Frames) (x : Tree) (cs : List Case) (p : ℕ) (b : Part) (ps : List Part) (c : Part) (at : ℕ) → parts_alone (arms x cs p ∷ k) (b ∷ (ps ++ c ∷ [])) at ≡ Ok (armed x cs (pattern.Parts (b ∷ (ps ++ c ∷ []))) p ∷ k, awaits a.Want)
  two_parts k x cs p b [] c at = refl
  two_parts k x cs p b (d ∷ ps) c at = refl

  pub reads_parts : {n : ℕ} {ts r : Words} {all : List Part} {at : ℕ} → SpellsParts n ts all (its m.FatArrow at ∷ r) → (k : Frames) (x : Tree) (cs : List Case) (p : ℕ) (b : Part) (ps : List Part)
      → nest (arms x cs p ∷ k) + n ≤ 128 → run end (arms x cs p ∷ k) (awaits (a.Part (b ∷ ps))) ts ≡ run end (armed x cs (pattern.Parts (b ∷ (ps ++ all))) p ∷ k) (awaits a.Want) r
  unfolding run
  reads_parts {r = r} {at = at} (last_part {a = c} d) k x cs p b ps deep = reads_part d (arms x cs p ∷ k) (b ∷ ps) deep ∙ ap (λ (t : Turn). go end t r) (two_parts k x cs p b ps c at)
  reads_parts {r = r} {at = at} (more_parts {a = c} {all = all} d ds) k x cs p b ps deep =
      reads_part d (arms x cs p ∷ k) (b ∷ ps) deep ∙ reads_parts ds k x cs p b (ps ++ c ∷ []) deep
      ∙ ap (λ (qs : List Part). run end (armed x cs (pattern.Parts (b ∷ qs)) p ∷ k) (awaits a.Want) r) (append_assoc ps (c ∷ []) all)

  pub reads_pattern : {n : ℕ} {ts r : Words} {pt : Pattern} {at : ℕ} → SpellsPattern n ts pt (its m.FatArrow at ∷ r) → (k : Frames) (x : Tree) (cs : List Case) (p : ℕ)
      → nest (arms x cs p ∷ k) + n ≤ 128 → run end (arms x cs p ∷ k) (awaits (a.Part [])) ts ≡ run end (armed x cs pt p ∷ k) (awaits a.Want) r
  unfolding run
  reads_pattern any_value k x cs p deep = refl
  reads_pattern a_name k x cs p deep = refl
  reads_pattern a_value k x cs p deep = refl
  reads_pattern if_true k x cs p deep = refl
  reads_pattern if_false k x cs p deep = refl
  reads_pattern (in_parts {a = b} d ds) k x cs p deep = reads_part d (arms x cs p ∷ k) [] deep ∙ reads_parts ds k x cs p b [] deep
