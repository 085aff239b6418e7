-- Patterns, against what the judgement says of them.
use Rattle.std.proofs.Common.{◌≡◌, ℕ, ◌+◌, ◌<◌, ◌≤◌, Bool, true, false, List, [], ◌∷◌, Option, Some, None, refl, sym, ap, ◌∙◌, subst, arith, nat_eq, nat_lt}
use Rattle.std.specs.Prelude.{⊤, ◌&&◌, nat_le, if◌then◌else◌}
use Rattle.bv_bits.specs.declared.Bits.{Bits}
use Rattle.bv_bits.specs.Bits.{IsBits}
use Rattle.sail_syntax.specs.Tree.{Text}
use Rattle.sail_syntax.specs.Types.{is_same_type}
use Rattle.sail_syntax.specs.declared.types.Ty.{Ty}
use Rattle.sail_syntax.specs.declared.types.Ty.TheVariants as ty
use Rattle.sail_syntax.specs.declared.patterns.Pattern.{Pattern}
use Rattle.sail_syntax.specs.declared.patterns.Pattern.TheVariants as pattern
use Rattle.sail_syntax.specs.declared.patterns.Part.{Part}
use Rattle.sail_syntax.specs.declared.patterns.Part.TheVariants as part
use Rattle.type_rules.specs.declared.scope.Entry.{Entry}
use Rattle.type_rules.specs.declared.scope.Item.{Item}
use Rattle.type_rules.specs.declared.scope.Item.TheVariants as item
use Rattle.type_rules.specs.declared.scope.Local.{Local}
use Rattle.type_rules.specs.Faults.{Clean}
use Rattle.type_rules.specs.Names.{find}
use Rattle.type_rules.specs.Rules.{is, differs, is_value, pattern_fits, literal_fits, bad_pattern, parts_fit, part_width, is_part, widened}
use Rattle.type_rules.specs.Judge.{part_taken, judge_parts, name_pattern, judge_pattern, entered_part, entered_parts, entered_name, entered}
use Rattle.type_rules.specs.HasType.{IsPart, ArePartsOf, NameFits, PatternFits}
use Rattle.type_rules.specs.Laws.{Known}
use Rattle.type_rules.proofs.RuleLemmas.{same_is, same_refl, both_true, and_true, le_true, le_test, value_sound, value_complete, width_sound, width_complete, widened_is, widened_of}
use Rattle.type_rules.proofs.NameLemmas.{taken_sound, taken_complete}

pub matches_sound : (at : ℕ) (u got : Ty) → Clean (pattern_fits at (Some u) got).faults → u ≡ got
matches_sound at u got c = step (is_same_type u got) refl c
  where
    step : (b : Bool) → is_same_type u got ≡ b → Clean (if b then is None else differs u got at).faults → u ≡ got
    step true h d = same_is u got h
    step false h d = absurd d

pub matches_complete : (at : ℕ) (u got : Ty) → u ≡ got → Clean (pattern_fits at (Some u) got).faults
matches_complete at u got e = subst (λ t. Clean (pattern_fits at (Some u) t).faults) e (rw (same_refl u) tt)

literal_sound : (at : ℕ) (u : Ty) (b : Bits) → Clean (literal_fits at (Some u) b).faults → IsBits b × (u ≡ ty.Bits b.width)
literal_sound at u b c = step (is_value b) refl c
  where
    step : (v : Bool) → is_value b ≡ v → Clean (if v then pattern_fits at (Some u) (ty.Bits b.width) else bad_pattern at (Some u)).faults → IsBits b × (u ≡ ty.Bits b.width)
    step true h d = (value_sound b h, matches_sound at u (ty.Bits b.width) d)
    step false h d = absurd d

literal_complete : (at : ℕ) (u : Ty) (b : Bits) → IsBits b → u ≡ ty.Bits b.width → Clean (literal_fits at (Some u) b).faults
literal_complete at u b h e = rw (value_complete b h) (matches_complete at u (ty.Bits b.width) e)

module _ (globals : List Entry) where
  part_sound : (at : ℕ) (p : Part) → is_part p ≡ true → Clean (part_taken globals at p).faults → IsPart globals p
  part_sound at (part.Lit b) h c = value_sound b h
  part_sound at (part.Bind x w) h c = (width_sound w h, taken_sound globals x at c)
  part_sound at (part.Skip w) h c = width_sound w h

  part_complete : (at : ℕ) (p : Part) → IsPart globals p → (is_part p ≡ true) × Clean (part_taken globals at p).faults
  part_complete at (part.Lit b) h = (value_complete b h, tt)
  part_complete at (part.Bind x w) h = (width_complete w h.0, taken_complete globals x at h.1)
  part_complete at (part.Skip w) h = (width_complete w h, tt)

  parts_grow : (ps : List Part) (b n : ℕ) → ArePartsOf globals ps b n → b ≤ n
  parts_grow [] b n h = omega (arith, h)
  parts_grow (p ∷ ps) b n h = let k = parts_grow ps (b + part_width p) n h.1 in omega (arith, k)

  -- parts that fit
  record Parts (ps : List Part) (total : ℕ) (ok : Bool) (u : Ty) : Type 0 where
    pub are : ok ≡ true
    pub width : ℕ
    pub have : ArePartsOf globals ps total width
    pub at_most : width ≤ 128
    pub is : u ≡ ty.Bits width

  fit_sound : (at : ℕ) (u : Ty) (total : ℕ) (ok : Bool) → Clean (parts_fit at (Some u) total ok).faults → Parts [] total ok u
  fit_sound at u total ok c = step (ok && nat_le total 128) refl c
    where
      step : (b : Bool) → ok && nat_le total 128 ≡ b → Clean (if b then pattern_fits at (Some u) (ty.Bits total) else bad_pattern at (Some u)).faults → Parts [] total ok u
      step true h d =
          let p = both_true ok (nat_le total 128) h in
          record { are = p.0; width = total; have = refl; at_most = le_true total 128 p.1; is = matches_sound at u (ty.Bits total) d }
      step false h d = absurd d

  parts_sound : (ps : List Part) (total : ℕ) (ok : Bool) (at : ℕ) (u : Ty) → Clean (judge_parts globals ps total ok at (Some u)).faults → Parts ps total ok u
  parts_sound [] total ok at u c = fit_sound at u total ok c
  parts_sound (p ∷ rest) total ok at u c =
      let m = parts_sound rest (widened total (part_width p)) (ok && is_part p) at u c.1 in
      let b = both_true ok (is_part p) m.are in
      let e = widened_is total (part_width p) m.width (parts_grow rest (widened total (part_width p)) m.width m.have) m.at_most in
      record { are = b.0; width = m.width; have = (part_sound at p b.1 c.0, subst (λ k. ArePartsOf globals rest k m.width) e m.have); at_most = m.at_most; is = m.is }

  parts_complete : (ps : List Part) (total : ℕ) (ok : Bool) (at n : ℕ) (u : Ty) → ok ≡ true → ArePartsOf globals ps total n → n ≤ 128 → u ≡ ty.Bits n
      → Clean (judge_parts globals ps total ok at (Some u)).faults
  parts_complete [] total ok at n u h a k e =
      rw (and_true ok (nat_le total 128) h (le_test total 128 (subst (λ m. m ≤ 128) (sym a) k))) (matches_complete at u (ty.Bits total) (e ∙ ap ty.Bits (sym a)))
  parts_complete (p ∷ rest) total ok at n u h a k e =
      let q = part_complete at p a.0 in
      let w = widened_of total (part_width p) n (parts_grow rest (total + part_width p) n a.1) k in
      (q.1, parts_complete rest (widened total (part_width p)) (ok && is_part p) at n u (and_true ok (is_part p) h q.0) (subst (λ m. ArePartsOf globals rest m n) (sym w) a.1) k e)

  name_sound : (x : Text) (at : ℕ) (u : Ty) (i : Option Item) → Clean (name_pattern x at (Some u) i).faults → NameFits i u
  name_sound x at u (Some (item.Member e)) c = matches_sound at u (ty.Enum e) c
  name_sound x at u (Some (item.Register w)) c = absurd c
  name_sound x at u (Some item.Enum) c = absurd c
  name_sound x at u (Some (item.Function ps r after)) c = absurd c
  name_sound x at u None c = tt

  name_complete : (x : Text) (at : ℕ) (u : Ty) (i : Option Item) → NameFits i u → Clean (name_pattern x at (Some u) i).faults
  name_complete x at u (Some (item.Member e)) h = matches_complete at u (ty.Enum e) h
  name_complete x at u (Some (item.Register w)) h = absurd h
  name_complete x at u (Some item.Enum) h = absurd h
  name_complete x at u (Some (item.Function ps r after)) h = absurd h
  name_complete x at u None h = tt

  pub pattern_sound : (p : Pattern) (at : ℕ) (u : Ty) → Clean (judge_pattern globals p at (Some u)).faults → PatternFits globals p u
  pattern_sound pattern.Any at u c = tt
  pattern_sound (pattern.Name x) at u c = name_sound x at u (find x globals) c
  pattern_sound (pattern.Lit b) at u c = literal_sound at u b c
  pattern_sound (pattern.Truth b) at u c = matches_sound at u ty.Bool c
  pattern_sound (pattern.Parts ps) at u c = let m = parts_sound ps 0 true at u c in (m.width, (m.have, m.at_most, m.is))

  pub pattern_complete : (p : Pattern) (at : ℕ) (u : Ty) → PatternFits globals p u → Clean (judge_pattern globals p at (Some u)).faults
  pattern_complete pattern.Any at u h = tt
  pattern_complete (pattern.Name x) at u h = name_complete x at u (find x globals) h
  pattern_complete (pattern.Lit b) at u h = literal_complete at u b h.0 h.1
  pattern_complete (pattern.Truth b) at u h = matches_complete at u ty.Bool h
  pattern_complete (pattern.Parts ps) at u h = parts_complete ps 0 true at h.0 u refl h.1.0 h.1.1 h.1.2

  -- ---- the locals that a pattern binds have known types

  parts_known : (ps : List Part) (scope : List Local) → Known scope → Known (entered_parts ps scope)
  parts_known [] scope h = h
  parts_known (part.Lit b ∷ rest) scope h = parts_known rest scope h
  parts_known (part.Bind x w ∷ rest) scope h = parts_known rest (entered_part (part.Bind x w) scope) (tt, h)
  parts_known (part.Skip w ∷ rest) scope h = parts_known rest scope h

  name_known : (i : Option Item) (x : Text) (u : Ty) (scope : List Local) → Known scope → Known (entered_name i x (Some u) scope)
  name_known (Some (item.Member e)) x u scope h = h
  name_known (Some (item.Register w)) x u scope h = (tt, h)
  name_known (Some item.Enum) x u scope h = (tt, h)
  name_known (Some (item.Function ps r after)) x u scope h = (tt, h)
  name_known None x u scope h = (tt, h)

  pub entered_known : (p : Pattern) (u : Ty) (scope : List Local) → Known scope → Known (entered globals p (Some u) scope)
  entered_known pattern.Any u scope h = h
  entered_known (pattern.Name x) u scope h = name_known (find x globals) x u scope h
  entered_known (pattern.Lit b) u scope h = h
  entered_known (pattern.Truth b) u scope h = h
  entered_known (pattern.Parts ps) u scope h = parts_known ps scope h
