-- Words that lead on to a program, from expressions, indices, patterns and definitions.
use Rattle.std.proofs.Common.{◌≡◌, ℕ, suc, ◌+◌, ◌≤◌, true, List, [], ◌∷◌, ◌++◌, Option, Some, None, refl, ◌∙◌, arith}
use Rattle.sail_syntax.specs.Tree.{Text, Tree, node, name, slice}
use Rattle.sail_syntax.specs.Program.{Definition, enumeration, signature}
use Rattle.sail_syntax.specs.declared.tree.Infix.TheVariants as between
use Rattle.sail_syntax.specs.declared.tree.Index.{Index}
use Rattle.sail_syntax.specs.declared.types.Ty.{Ty}
use Rattle.sail_syntax.specs.declared.types.Ty.TheVariants as ty
use Rattle.sail_syntax.specs.declared.patterns.Part.{Part}
use Rattle.sail_syntax.specs.declared.patterns.Part.TheVariants as part
use Rattle.sail_syntax.specs.declared.patterns.Pattern.{Pattern}
use Rattle.sail_syntax.specs.declared.patterns.Pattern.TheVariants as pattern
use Rattle.sail_grammar.specs.declared.keyword.Keyword.TheVariants as kw
use Rattle.sail_grammar.specs.declared.mark.Mark.TheVariants as m
use Rattle.sail_grammar.specs.Words as words
use Rattle.sail_grammar.specs.Words.{Words, the, its, named, joining, valued}
use Rattle.sail_machine.specs.declared.heads.Binder.{Binder}
use Rattle.sail_machine.specs.declared.heads.EnumHead.{EnumHead}
use Rattle.sail_machine.specs.declared.heads.ValHead.{ValHead}
use Rattle.sail_machine.specs.declared.heads.FunctionHead.{FunctionHead}
use Rattle.sail_machine.specs.declared.awaited.Await.TheVariants as a
use Rattle.sail_machine.specs.declared.awaited.Fixed.TheVariants as fixed
use Rattle.sail_machine.specs.declared.awaited.TypeUse.TheVariants as typing
use Rattle.sail_machine.specs.declared.awaited.IndexUse.{IndexUse}
use Rattle.sail_machine.specs.declared.awaited.IndexUse.TheVariants as index
use Rattle.sail_machine.specs.Frames as f
use Rattle.sail_machine.specs.Frames.{Frame, Frames, Mode, awaits, have, whole, nest, weight, program}
use Rattle.sail_machine.specs.Turns.{Turn}
use Rattle.sail_machine.specs.Headers.{indexed}
use Rattle.sail_machine.specs.Run.{run}
use Rattle.sail_machine.proofs.Steps.{go, after_end}
use Rattle.sail_machine.proofs.Complete.{run-settles, run-whole, run-name}
use Rattle.sail_machine.proofs.Closing.{IsText, closing, closing_ends, outcome, a_truth, settles}
use Rattle.sail_machine.proofs.Reached.{IsOpen, InBlock, InArms, InSlice, InUpdate, AtIndex}

module _ (end : ℕ) where
  -- some words lead to a program
  abbrev pub Goes : Frames → Mode → Type 0
  Goes k m = (us : Words) × (ds : List Definition) × (run end k m us ≡ outcome ds)

  -- behind a turn
  abbrev pub GoesBehind : Turn → Type 0
  GoesBehind t = (us : Words) × (ds : List Definition) × (go end t us ≡ outcome ds)

  pub goes_have : (k : Frames) (x : Tree) (c p : ℕ) → IsOpen k → nest k + 1 ≤ 128 → Goes k (have x c p)
  goes_have k x c p h room = let z = settles end k x h.0 h.1 room in (closing k, z.0, run-settles end k x c p true (closing k) (closing_ends k) ∙ z.1)

  pub goes_whole : (k : Frames) (x : Tree) → IsOpen k → nest k + 1 ≤ 128 → Goes k (whole x)
  goes_whole k x h room = let z = settles end k x h.0 h.1 room in (closing k, z.0, run-whole end k x (closing k) ∙ z.1)

  pub goes_want : (k : Frames) → IsOpen k → nest k + 1 ≤ 128 → Goes k (awaits a.Want)
  unfolding run
  goes_want k h room = let z = goes_have k a_truth 0 0 h room in (the kw.True 0 ∷ z.0, z.1, z.2)

  pub goes_operand : (k : Frames) → IsOpen k → nest k + 1 ≤ 128 → Goes k (awaits a.Operand)
  unfolding run
  goes_operand k h room = let z = goes_have k a_truth 0 0 h room in (the kw.True 0 ∷ z.0, z.1, z.2)

  pub goes_inside : (k : Frames) → IsOpen k → nest k + 1 ≤ 128 → Goes k (awaits a.Inside)
  unfolding run
  goes_inside k h room = let z = goes_have k a_truth 0 0 h room in (the kw.True 0 ∷ z.0, z.1, z.2)

  pub goes_statement : (k : Frames) (before : Option ℕ) → IsOpen k → nest k + 1 ≤ 128 → Goes k (awaits (a.Statement before))
  unfolding run
  goes_statement k before h room = let z = goes_have k a_truth 0 0 h room in (the kw.True 0 ∷ z.0, z.1, z.2)

  pub goes_named : (k : Frames) (x : Text) (p : ℕ) → IsOpen k → nest k + 1 ≤ 128 → Goes k (awaits (a.Named x p))
  goes_named k x p h room =
      let z = settles end k (node p (name x)) h.0 h.1 room in
      (closing k, z.0, run-name end k x p (closing k) (after_end true (closing k) (closing_ends k)) ∙ run-settles end k (node p (name x)) 0 p true (closing k) (closing_ends k) ∙ z.1)

  -- ---- definitions

  pub goes_answer : (k : Frames) (h : ValHead) → IsText k → Goes k (awaits (a.Type (typing.Answer h)))
  unfolding run
  goes_answer (f.program ds ∷ []) h is = (the kw.Bool 0 ∷ [], ds ++ signature h.name h.args ty.Bool h.at ∷ [], refl)
  goes_answer [] h is = absurd is
  goes_answer (f.program ds ∷ g ∷ k) h is = absurd is
  goes_answer (g ∷ k) h is = absurd is

  pub goes_val_arrow : (k : Frames) (h : ValHead) → IsText k → Goes k (awaits (a.Fixed (fixed.ValArrow h)))
  unfolding run
  goes_val_arrow k h is = let z = goes_answer k h is in (its m.Arrow 0 ∷ z.0, z.1, z.2)

  pub goes_body : (k : Frames) (h : FunctionHead) (t : Ty) → IsText k → Goes (f.body h t ∷ k) (awaits a.Want)
  unfolding run
  goes_body (f.program ds ∷ []) h t is = goes_want (f.body h t ∷ f.program ds ∷ []) (tt, tt) (omega arith)
  goes_body [] h t is = absurd is
  goes_body (f.program ds ∷ g ∷ k) h t is = absurd is
  goes_body (g ∷ k) h t is = absurd is

  pub goes_equals : (k : Frames) (h : FunctionHead) (t : Ty) → IsText k → Goes k (awaits (a.Fixed (fixed.FunctionEquals h t)))
  unfolding run
  goes_equals k h t is = let z = goes_body k h t is in (its m.Equals 0 ∷ z.0, z.1, z.2)

  pub goes_function_arrow : (k : Frames) (h : FunctionHead) → IsText k → Goes k (awaits (a.Fixed (fixed.FunctionArrow h)))
  unfolding run
  goes_function_arrow k h is = let z = goes_equals k h ty.Bool is in (its m.Arrow 0 ∷ the kw.Bool 0 ∷ z.0, z.1, z.2)

  -- the end of a definition whose type or members were read
  pub goes_definition : (k : Frames) → IsText k → Goes k (awaits a.Definition)
  unfolding run
  goes_definition (f.program ds ∷ []) is = ([], ds, refl)
  goes_definition [] is = absurd is
  goes_definition (f.program ds ∷ g ∷ k) is = absurd is
  goes_definition (g ∷ k) is = absurd is

  pub goes_members : (k : Frames) (h : EnumHead) → IsText k → Goes k (awaits (a.MoreMembers h))
  unfolding run
  goes_members (f.program ds ∷ []) h is = (its m.CloseBrace 0 ∷ [], ds ++ enumeration h.name h.members h.at ∷ [], refl)
  goes_members [] h is = absurd is
  goes_members (f.program ds ∷ g ∷ k) h is = absurd is
  goes_members (g ∷ k) h is = absurd is

  -- ---- locals, arms, indices

  pub goes_local : (k : Frames) (b : Binder) (x : Text) (t : Ty) → InBlock k → nest k + 1 ≤ 128 → Goes k (awaits (a.Fixed (fixed.LocalEquals b x t)))
  unfolding run
  goes_local (f.statements ss p ∷ k) b x t h room = let z = goes_want (f.binding ss b x (Some t) p ∷ k) (tt, h) room in (its m.Equals 0 ∷ z.0, z.1, z.2)
  goes_local [] b x t h room = absurd h
  goes_local (g ∷ k) b x t h room = absurd h

  pub goes_local_more : (k : Frames) (b : Binder) (x : Text) → InBlock k → nest k + 1 ≤ 128 → Goes k (awaits (a.LocalMore b x))
  unfolding run
  goes_local_more (f.statements ss p ∷ k) b x h room = let z = goes_want (f.binding ss b x None p ∷ k) (tt, h) room in (its m.Equals 0 ∷ z.0, z.1, z.2)
  goes_local_more [] b x h room = absurd h
  goes_local_more (g ∷ k) b x h room = absurd h

  pub goes_arrow : (k : Frames) (pt : Pattern) → InArms k → nest k + 1 ≤ 128 → Goes k (awaits (a.Fixed (fixed.Arrow pt)))
  unfolding run
  goes_arrow (f.arms x cs p ∷ k) pt h room = let z = goes_want (f.armed x cs pt p ∷ k) (tt, h) room in (its m.FatArrow 0 ∷ z.0, z.1, z.2)
  goes_arrow [] pt h room = absurd h
  goes_arrow (g ∷ k) pt h room = absurd h

  -- behind one more literal, parts are a pattern
  pub goes_literal : (k : Frames) (ps : List Part) → InArms k → nest k + 1 ≤ 128 → Goes k (awaits (a.Part ps))
  unfolding run
  goes_literal (f.arms x cs p ∷ k) [] h room =
      let z = goes_want (f.armed x cs (pattern.Lit (record { width = 1; value = 0 })) p ∷ k) (tt, h) room in (valued (record { width = 1; value = 0 }) 0 ∷ its m.FatArrow 0 ∷ z.0, z.1, z.2)
  goes_literal (f.arms x cs p ∷ k) (b ∷ []) h room =
      let z = goes_want (f.armed x cs (pattern.Parts (b ∷ part.Lit (record { width = 1; value = 0 }) ∷ [])) p ∷ k) (tt, h) room in (valued (record { width = 1; value = 0 }) 0 ∷ its m.FatArrow 0 ∷ z.0, z.1, z.2)
  goes_literal (f.arms x cs p ∷ k) (b ∷ c ∷ ps) h room =
      let z = goes_want (f.armed x cs (pattern.Parts (b ∷ c ∷ (ps ++ part.Lit (record { width = 1; value = 0 }) ∷ []))) p ∷ k) (tt, h) room in (valued (record { width = 1; value = 0 }) 0 ∷ its m.FatArrow 0 ∷ z.0, z.1, z.2)
  goes_literal [] ps h room = absurd h
  goes_literal (g ∷ k) ps h room = absurd h

  pub goes_parts : (k : Frames) (ps : List Part) → InArms k → nest k + 1 ≤ 128 → Goes k (awaits (a.MoreParts ps))
  unfolding run
  goes_parts k ps h room = let z = goes_literal k ps h room in (joining between.Join 0 ∷ z.0, z.1, z.2)

  pub goes_arm : (k : Frames) → InArms k → nest k + 1 ≤ 128 → Goes k (awaits a.ArmOrEnd)
  unfolding run
  goes_arm k h room = let z = goes_parts k (part.Lit (record { width = 1; value = 0 }) ∷ []) h room in (valued (record { width = 1; value = 0 }) 0 ∷ z.0, z.1, z.2)

  slices_on : (k : Frames) (hi lo : Index) (at : ℕ) → InSlice k → nest k + 1 ≤ 128 → GoesBehind (indexed k (index.Low hi) lo at)
  slices_on (f.slicing x c p ∷ k) hi lo at h room = goes_have k (node p (slice x hi lo)) (suc c) p h (omega (arith, room))
  slices_on [] hi lo at h room = absurd h
  slices_on (g ∷ k) hi lo at h room = absurd h

  replaces_on : (k : Frames) (hi lo : Index) (at : ℕ) → InUpdate k → nest k + 1 ≤ 128 → GoesBehind (indexed k (index.WithLow hi) lo at)
  replaces_on (f.indexing x p ∷ k) hi lo at h room = goes_want (f.replacing x hi lo p ∷ k) (tt, h) room
  replaces_on [] hi lo at h room = absurd h
  replaces_on (g ∷ k) hi lo at h room = absurd h

  pub indexed_on : (k : Frames) (u : IndexUse) (i : Index) (at : ℕ) → AtIndex k u → nest k + 1 ≤ 128 → GoesBehind (indexed k u i at)
  unfolding run
  indexed_on k index.High i at h room = let z = slices_on k i (record { var = None; plus = 0 }) 0 h room in (words.counted 0 0 ∷ its m.CloseSquare 0 ∷ z.0, z.1, z.2)
  indexed_on k (index.Low hi) i at h room = slices_on k hi i at h room
  indexed_on k index.WithHigh i at h room = let z = replaces_on k i (record { var = None; plus = 0 }) 0 h room in (words.counted 0 0 ∷ its m.Equals 0 ∷ z.0, z.1, z.2)
  indexed_on k (index.WithLow hi) i at h room = replaces_on k hi i at h room

  pub goes_index_end : (k : Frames) (u : IndexUse) (i : Index) → AtIndex k u → nest k + 1 ≤ 128 → Goes k (awaits (a.Fixed (fixed.IndexEnd u i)))
  unfolding run
  goes_index_end k index.High i h room = let z = indexed_on k index.High i 0 h room in (its m.Dots 0 ∷ z.0, z.1, z.2)
  goes_index_end k (index.Low hi) i h room = let z = indexed_on k (index.Low hi) i 0 h room in (its m.CloseSquare 0 ∷ z.0, z.1, z.2)
  goes_index_end k index.WithHigh i h room = let z = indexed_on k index.WithHigh i 0 h room in (its m.Dots 0 ∷ z.0, z.1, z.2)
  goes_index_end k (index.WithLow hi) i h room = let z = indexed_on k (index.WithLow hi) i 0 h room in (its m.Equals 0 ∷ z.0, z.1, z.2)

  -- the word that ends an index follows its name at once
  pub goes_index_name : (k : Frames) (u : IndexUse) (x : Text) → AtIndex k u → nest k + 1 ≤ 128 → Goes k (awaits (a.IndexName u x))
  unfolding run
  goes_index_name k index.High x h room = let z = indexed_on k index.High (record { var = Some x; plus = 0 }) 0 h room in (its m.Dots 0 ∷ z.0, z.1, z.2)
  goes_index_name k (index.Low hi) x h room = let z = indexed_on k (index.Low hi) (record { var = Some x; plus = 0 }) 0 h room in (its m.CloseSquare 0 ∷ z.0, z.1, z.2)
  goes_index_name k index.WithHigh x h room = let z = indexed_on k index.WithHigh (record { var = Some x; plus = 0 }) 0 h room in (its m.Dots 0 ∷ z.0, z.1, z.2)
  goes_index_name k (index.WithLow hi) x h room = let z = indexed_on k (index.WithLow hi) (record { var = Some x; plus = 0 }) 0 h room in (its m.Equals 0 ∷ z.0, z.1, z.2)
