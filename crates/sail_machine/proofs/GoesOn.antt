-- Wherever the machine comes to, some words lead on to a program, as long as a level of nesting is left.
use Rattle.std.proofs.Common.{◌≡◌, ℕ, ◌+◌, ◌≤◌, ◌<◌, Bool, [], ◌∷◌, ◌++◌, Some, None, Ok, Err, refl, ap, ◌∙◌, arith}
use Rattle.sail_syntax.specs.Tree.{Text, node, foreach, block, done, widen, check, exit, flip}
use Rattle.sail_syntax.specs.Program.{order, register, signature}
use Rattle.sail_syntax.specs.declared.types.Ty.{Ty}
use Rattle.sail_syntax.specs.declared.types.Ty.TheVariants as ty
use Rattle.sail_syntax.specs.declared.patterns.Part.TheVariants as part
use Rattle.sail_grammar.specs.declared.keyword.Keyword.TheVariants as kw
use Rattle.sail_grammar.specs.declared.mark.Mark.TheVariants as m
use Rattle.sail_grammar.specs.Words as words
use Rattle.sail_grammar.specs.Words.{Words, the, its, named, joining, valued}
use Rattle.sail_grammar.specs.Spelling.{Continues}
use Rattle.sail_machine.specs.declared.awaited.Await.{Await}
use Rattle.sail_machine.specs.declared.awaited.Await.TheVariants as a
use Rattle.sail_machine.specs.declared.awaited.Fixed.{Fixed}
use Rattle.sail_machine.specs.declared.awaited.Fixed.TheVariants as fixed
use Rattle.sail_machine.specs.declared.awaited.Naming.{Naming}
use Rattle.sail_machine.specs.declared.awaited.Naming.TheVariants as naming
use Rattle.sail_machine.specs.declared.awaited.Counting.{Counting}
use Rattle.sail_machine.specs.declared.awaited.Counting.TheVariants as counting
use Rattle.sail_machine.specs.declared.awaited.Sized.{Sized}
use Rattle.sail_machine.specs.declared.awaited.Sized.TheVariants as sized
use Rattle.sail_machine.specs.declared.awaited.TypeUse.{TypeUse}
use Rattle.sail_machine.specs.declared.awaited.TypeUse.TheVariants as typing
use Rattle.sail_machine.specs.Frames as f
use Rattle.sail_machine.specs.Frames.{Frame, Frames, Mode, awaits, have, whole, nest, weight, program}
use Rattle.sail_machine.specs.Turns.{Turn, goes, defined, ends, ends_in}
use Rattle.sail_machine.specs.Headers.{typed, with_type, with_param, with_member, sized_by}
use Rattle.sail_machine.specs.Machine.{step}
use Rattle.sail_machine.specs.Run.{run, passes, pass, passed, and_then}
use Rattle.sail_machine.proofs.Steps.{go, goes_in, goes_shallow}
use Rattle.sail_machine.proofs.FoundTexts.{program_is_spelled}
use Rattle.sail_machine.proofs.Closing.{IsText, a_truth}
use Rattle.sail_machine.proofs.Reached.{IsOpen, InWidening, InAssert, AtType, AtWidth, AtName, AtNumber, AtFixed, AtAwait, IsReached, open_block}
use Rattle.sail_machine.proofs.Kept.{passed_reached}
use Rattle.sail_machine.proofs.Leading.{Goes, GoesBehind, goes_have, goes_whole, goes_want, goes_operand, goes_inside, goes_statement, goes_named, goes_val_arrow, goes_equals, goes_function_arrow, goes_definition, goes_members, goes_local, goes_local_more, goes_arrow, goes_literal, goes_parts, goes_arm, goes_index_end, goes_index_name}

module _ (end : ℕ) where
  -- ---- types and widths

  typed_on : (k : Frames) (u : TypeUse) (t : Ty) → AtType k u → nest k + 1 ≤ 128 → GoesBehind end (typed k u t)
  unfolding run
  typed_on k (typing.Argument h) t is room = let z = goes_val_arrow end k (with_type h t) is in (its m.Close 0 ∷ z.0, z.1, z.2)
  typed_on (f.program ds ∷ []) (typing.Answer h) t is room = ([], ds ++ signature h.name h.args t h.at ∷ [], refl)
  typed_on [] (typing.Answer h) t is room = absurd is
  typed_on (f.program ds ∷ g ∷ k) (typing.Answer h) t is room = absurd is
  typed_on (g ∷ k) (typing.Answer h) t is room = absurd is
  typed_on k (typing.Param h x) t is room = let z = goes_function_arrow end k (with_param h x t) is in (its m.Close 0 ∷ z.0, z.1, z.2)
  typed_on k (typing.Returned h) t is room = goes_equals end k h t is
  typed_on k (typing.Local b x) t is room = goes_local end k b x t is room

  goes_type : (k : Frames) (u : TypeUse) → AtType k u → nest k + 1 ≤ 128 → Goes end k (awaits (a.Type u))
  unfolding run
  goes_type k u is room = let z = typed_on k u ty.Bool is room in (the kw.Bool 0 ∷ z.0, z.1, z.2)

  widens_on : (k : Frames) (w : ℕ) → InWidening k → nest k + 1 ≤ 128 → Goes end k (awaits (a.Fixed (fixed.WidenComma w)))
  unfolding run
  widens_on (f.widening signed p ∷ k) w h room = let z = goes_want end (f.widened signed w p ∷ k) (tt, h) room in (its m.Comma 0 ∷ z.0, z.1, z.2)
  widens_on [] w h room = absurd h
  widens_on (g ∷ k) w h room = absurd h

  register_on : (k : Frames) (x : Text) (p w : ℕ) → IsText k → GoesBehind end (sized_by k (sized.Register x p) w)
  unfolding run
  register_on (f.program ds ∷ []) x p w is = ([], ds ++ register x w p ∷ [], refl)
  register_on [] x p w is = absurd is
  register_on (f.program ds ∷ g ∷ k) x p w is = absurd is
  register_on (g ∷ k) x p w is = absurd is

  sized_on : (k : Frames) (z : Sized) (w : ℕ) → AtWidth k z → nest k + 1 ≤ 128 → GoesBehind end (sized_by k z w)
  sized_on k (sized.Register x p) w h room = register_on k x p w h
  sized_on k (sized.Type u) w h room = typed_on k u (ty.Bits w) h room
  sized_on k (sized.Part ps (Some x)) w h room = goes_parts end k (ps ++ part.Bind x w ∷ []) h room
  sized_on k (sized.Part ps None) w h room = goes_parts end k (ps ++ part.Skip w ∷ []) h room
  sized_on k sized.Widening w h room = widens_on k w h room

  goes_width : (k : Frames) (z : Sized) → AtWidth k z → nest k + 1 ≤ 128 → Goes end k (awaits (a.Number (counting.Width z)))
  unfolding run
  goes_width k (sized.Register x p) h room = let z = sized_on k (sized.Register x p) 1 h room in (words.counted 1 0 ∷ its m.Close 0 ∷ z.0, z.1, z.2)
  goes_width k (sized.Type u) h room = let z = sized_on k (sized.Type u) 1 h room in (words.counted 1 0 ∷ its m.Close 0 ∷ z.0, z.1, z.2)
  goes_width k (sized.Part ps who) h room = let z = sized_on k (sized.Part ps who) 1 h room in (words.counted 1 0 ∷ its m.Close 0 ∷ z.0, z.1, z.2)
  goes_width k sized.Widening h room = let z = widens_on k 1 h room in (words.counted 1 0 ∷ z.0, z.1, z.2)

  goes_bits_open : (k : Frames) (z : Sized) → AtWidth k z → nest k + 1 ≤ 128 → Goes end k (awaits (a.Fixed (fixed.BitsOpen z)))
  unfolding run
  goes_bits_open k z h room = let c = goes_width k z h room in (its m.Open 0 ∷ c.0, c.1, goes_shallow end k (a.Number (counting.Width z)) 0 c.0 room ∙ c.2)

  goes_bits : (k : Frames) (z : Sized) → AtWidth k z → nest k + 1 ≤ 128 → Goes end k (awaits (a.Fixed (fixed.BitsWord z)))
  unfolding run
  goes_bits k z h room = let c = goes_bits_open k z h room in (the kw.Bits 0 ∷ c.0, c.1, c.2)

  -- ---- a foreach

  each_on : (k : Frames) (x : Text) (i j p : ℕ) → IsOpen k → nest k + 1 ≤ 128 → Goes end k (awaits (a.Fixed (fixed.EachBlock x i j p)))
  unfolding run
  each_on k x i j p h room =
      let z = goes_whole end k (node p (foreach x i j (node 0 (block done)))) h room in
      (its m.OpenBrace 0 ∷ its m.CloseBrace 0 ∷ z.0, z.1, goes_in end (f.looping x i j p ∷ k) (f.statements [] 0) (awaits (a.Statement None)) 0 (its m.CloseBrace 0 ∷ z.0) (omega (arith, room)) ∙ z.2)

  goes_close : (k : Frames) (x : Text) (i j p : ℕ) → IsOpen k → nest k + 1 ≤ 128 → Goes end k (awaits (a.Fixed (fixed.EachClose x i j p)))
  unfolding run
  goes_close k x i j p h room = let z = each_on k x i j p h room in (its m.Close 0 ∷ z.0, z.1, z.2)

  goes_last : (k : Frames) (x : Text) (i p : ℕ) → IsOpen k → nest k + 1 ≤ 128 → Goes end k (awaits (a.Number (counting.Last x i p)))
  unfolding run
  goes_last k x i p h room = let z = goes_close k x i 0 p h room in (words.counted 0 0 ∷ z.0, z.1, z.2)

  goes_first : (k : Frames) (x : Text) (p : ℕ) → IsOpen k → nest k + 1 ≤ 128 → Goes end k (awaits (a.Number (counting.First x p)))
  unfolding run
  goes_first k x p h room = let z = goes_last k x 0 p h room in (words.counted 0 0 ∷ the kw.To 0 ∷ z.0, z.1, z.2)

  goes_each : (k : Frames) (p : ℕ) → IsOpen k → nest k + 1 ≤ 128 → Goes end k (awaits (a.Name (naming.Each p)))
  unfolding run
  goes_each k p h room = let z = goes_first k [] p h room in (named [] 0 ∷ the kw.From 0 ∷ z.0, z.1, z.2)

  -- ---- fixed words, names, numbers

  goes_assert : (k : Frames) (z : Text) → InAssert k → nest k + 1 ≤ 128 → Goes end k (awaits (a.Fixed (fixed.AssertClose z)))
  unfolding run
  goes_assert (f.asserted x p ∷ k) z h room = let c = goes_have end k (node p (check x z)) 0 p h (omega (arith, room)) in (its m.Close 0 ∷ c.0, c.1, c.2)
  goes_assert [] z h room = absurd h
  goes_assert (g ∷ k) z h room = absurd h

  order_on : (k : Frames) → IsText k → GoesBehind end (goes (defined k order) a.Definition)
  unfolding run
  order_on (f.program ds ∷ []) is = ([], ds ++ order ∷ [], refl)
  order_on [] is = absurd is
  order_on (f.program ds ∷ g ∷ k) is = absurd is
  order_on (g ∷ k) is = absurd is

  goes_flip : (k : Frames) (p : ℕ) → IsOpen k → nest k + 1 ≤ 128 → Goes end k (awaits (a.Fixed (fixed.FlipOpen p)))
  unfolding run ends ends_in
  goes_flip k p h room =
      let z = goes_have end k (node p (flip a_truth)) 0 p h room in
      (its m.Open 0 ∷ the kw.True 0 ∷ its m.Close 0 ∷ z.0, z.1, goes_in end k (f.flipping p) (awaits a.Want) 0 (the kw.True 0 ∷ its m.Close 0 ∷ z.0) room ∙ z.2)

  goes_widen : (k : Frames) (signed : Bool) (p : ℕ) → IsOpen k → nest k + 1 ≤ 128 → Goes end k (awaits (a.Fixed (fixed.WidenOpen signed p)))
  unfolding run ends ends_in
  goes_widen k signed p h room =
      let z = goes_have end k (node p (widen signed 1 a_truth)) 0 p h room in (
        its m.Open 0 ∷ words.counted 1 0 ∷ its m.Comma 0 ∷ the kw.True 0 ∷ its m.Close 0 ∷ z.0,
        z.1,
        goes_in end k (f.widening signed p) (awaits (a.Number (counting.Width sized.Widening))) 0 (words.counted 1 0 ∷ its m.Comma 0 ∷ the kw.True 0 ∷ its m.Close 0 ∷ z.0) room ∙ z.2,
      )

  goes_check : (k : Frames) (p : ℕ) → IsOpen k → nest k + 1 ≤ 128 → Goes end k (awaits (a.Fixed (fixed.AssertOpen p)))
  unfolding run ends ends_in
  goes_check k p h room =
      let z = goes_have end k (node p (check a_truth [])) 0 p h room in (
        its m.Open 0 ∷ the kw.True 0 ∷ its m.Comma 0 ∷ words.quoted [] 0 ∷ its m.Close 0 ∷ z.0,
        z.1,
        goes_in end k (f.asserting p) (awaits a.Want) 0 (the kw.True 0 ∷ its m.Comma 0 ∷ words.quoted [] 0 ∷ its m.Close 0 ∷ z.0) room ∙ z.2,
      )

  goes_fixed : (k : Frames) (w : Fixed) → AtFixed k w → nest k + 1 ≤ 128 → Goes end k (awaits (a.Fixed w))
  unfolding run
  goes_fixed k fixed.OrderWord h room = let z = order_on k h in (the kw.Order 0 ∷ the kw.Dec 0 ∷ z.0, z.1, z.2)
  goes_fixed k fixed.OrderEnd h room = let z = order_on k h in (the kw.Dec 0 ∷ z.0, z.1, z.2)
  goes_fixed k (fixed.RegisterColon x p) h room = let z = goes_bits k (sized.Register x p) h room in (its m.Colon 0 ∷ z.0, z.1, z.2)
  goes_fixed k (fixed.BitsWord z) h room = goes_bits k z h room
  goes_fixed k (fixed.BitsOpen z) h room = goes_bits_open k z h room
  goes_fixed k (fixed.BitsClose z w) h room = let c = sized_on k z w h room in (its m.Close 0 ∷ c.0, c.1, c.2)
  goes_fixed k (fixed.EnumEquals x p) h room = let z = goes_members end k (record { name = x; members = [] ∷ []; at = p }) h in (its m.Equals 0 ∷ its m.OpenBrace 0 ∷ named [] 0 ∷ z.0, z.1, z.2)
  goes_fixed k (fixed.EnumOpen x p) h room = let z = goes_members end k (record { name = x; members = [] ∷ []; at = p }) h in (its m.OpenBrace 0 ∷ named [] 0 ∷ z.0, z.1, z.2)
  goes_fixed k (fixed.ValColon x p) h room = let z = goes_val_arrow end k (record { name = x; args = []; at = p }) h in (its m.Colon 0 ∷ its m.Open 0 ∷ its m.Close 0 ∷ z.0, z.1, z.2)
  goes_fixed k (fixed.ValOpen x p) h room = let z = goes_val_arrow end k (record { name = x; args = []; at = p }) h in (its m.Open 0 ∷ its m.Close 0 ∷ z.0, z.1, z.2)
  goes_fixed k (fixed.ValArrow e) h room = goes_val_arrow end k e h
  goes_fixed k (fixed.FunctionOpen x p) h room = let z = goes_function_arrow end k (record { name = x; params = []; at = p }) h in (its m.Open 0 ∷ its m.Close 0 ∷ z.0, z.1, z.2)
  goes_fixed k (fixed.ParamColon e x) h room = let z = goes_type k (typing.Param e x) h room in (its m.Colon 0 ∷ z.0, z.1, z.2)
  goes_fixed k (fixed.FunctionArrow e) h room = goes_function_arrow end k e h
  goes_fixed k (fixed.FunctionEquals e t) h room = goes_equals end k e t h
  goes_fixed k (fixed.FlipOpen p) h room = goes_flip k p h room
  goes_fixed k (fixed.WidenOpen signed p) h room = goes_widen k signed p h room
  goes_fixed k (fixed.WidenComma w) h room = widens_on k w h room
  goes_fixed k (fixed.AssertOpen p) h room = goes_check k p h room
  goes_fixed k (fixed.AssertClose z) h room = goes_assert k z h room
  goes_fixed k (fixed.ExitOpen p) h room =
      let z = goes_have end k (node p exit) 0 p h room in (its m.Open 0 ∷ its m.Close 0 ∷ z.0, z.1, goes_shallow end k (a.Fixed (fixed.ExitClose p)) 0 (its m.Close 0 ∷ z.0) room ∙ z.2)
  goes_fixed k (fixed.ExitClose p) h room = let z = goes_have end k (node p exit) 0 p h room in (its m.Close 0 ∷ z.0, z.1, z.2)
  goes_fixed k (fixed.EachOpen p) h room = let z = goes_each k p h room in (its m.Open 0 ∷ z.0, z.1, goes_shallow end k (a.Name (naming.Each p)) 0 z.0 room ∙ z.2)
  goes_fixed k (fixed.EachFrom x p) h room = let z = goes_first k x p h room in (the kw.From 0 ∷ z.0, z.1, z.2)
  goes_fixed k (fixed.EachTo x i p) h room = let z = goes_last k x i p h room in (the kw.To 0 ∷ z.0, z.1, z.2)
  goes_fixed k (fixed.EachClose x i j p) h room = goes_close k x i j p h room
  goes_fixed k (fixed.EachBlock x i j p) h room = each_on k x i j p h room
  goes_fixed k (fixed.LocalEquals b x t) h room = goes_local end k b x t h room
  goes_fixed k (fixed.Arrow pt) h room = goes_arrow end k pt h room
  goes_fixed k (fixed.IndexEnd u i) h room = goes_index_end end k u i h room

  goes_name : (k : Frames) (u : Naming) → AtName k u → nest k + 1 ≤ 128 → Goes end k (awaits (a.Name u))
  unfolding run
  goes_name k (naming.Register p) h room = let z = goes_fixed k (fixed.RegisterColon [] p) h room in (named [] 0 ∷ z.0, z.1, z.2)
  goes_name k (naming.Enum p) h room = let z = goes_fixed k (fixed.EnumEquals [] p) h room in (named [] 0 ∷ z.0, z.1, z.2)
  goes_name k (naming.Val p) h room = let z = goes_fixed k (fixed.ValColon [] p) h room in (named [] 0 ∷ z.0, z.1, z.2)
  goes_name k (naming.Function p) h room = let z = goes_fixed k (fixed.FunctionOpen [] p) h room in (named [] 0 ∷ z.0, z.1, z.2)
  goes_name k (naming.Member e) h room = let z = goes_members end k (with_member e []) h in (named [] 0 ∷ z.0, z.1, z.2)
  goes_name k (naming.Param e) h room = let z = goes_fixed k (fixed.ParamColon e []) h room in (named [] 0 ∷ z.0, z.1, z.2)
  goes_name k (naming.Each p) h room = goes_each k p h room
  goes_name k (naming.Local b) h room = let z = goes_local_more end k b [] h room in (named [] 0 ∷ z.0, z.1, z.2)

  goes_number : (k : Frames) (c : Counting) → AtNumber k c → nest k + 1 ≤ 128 → Goes end k (awaits (a.Number c))
  unfolding run
  goes_number k (counting.Width z) h room = goes_width k z h room
  goes_number k (counting.First x p) h room = goes_first k x p h room
  goes_number k (counting.Last x i p) h room = goes_last k x i p h room
  goes_number k (counting.Plus u x) h room = let z = goes_index_end end k u (record { var = Some x; plus = 0 }) h room in (words.counted 0 0 ∷ z.0, z.1, z.2)

  goes_await : (k : Frames) (await : Await) → AtAwait k await → nest k + 1 ≤ 128 → Goes end k (awaits await)
  unfolding run
  goes_await (f.program ds ∷ []) a.Begin h room = ([], ds, refl)
  goes_await [] a.Begin h room = absurd h
  goes_await (f.program ds ∷ g ∷ k) a.Begin h room = absurd h
  goes_await (g ∷ k) a.Begin h room = absurd h
  goes_await k a.Definition h room = goes_definition end k h
  goes_await k (a.Fixed w) h room = goes_fixed k w h room
  goes_await k (a.Name u) h room = goes_name k u h room
  goes_await k (a.Number c) h room = goes_number k c h room
  goes_await k (a.Type u) h room = goes_type k u h room
  goes_await k (a.MemberOrEnd e) h room = let z = goes_members end k (with_member e []) h in (named [] 0 ∷ z.0, z.1, z.2)
  goes_await k (a.MoreMembers e) h room = goes_members end k e h
  goes_await k (a.TypeOrEnd e) h room = let z = goes_val_arrow end k e h in (its m.Close 0 ∷ z.0, z.1, z.2)
  goes_await k (a.MoreTypes e) h room = let z = goes_val_arrow end k e h in (its m.Close 0 ∷ z.0, z.1, z.2)
  goes_await k (a.ParamOrEnd e) h room = let z = goes_function_arrow end k e h in (its m.Close 0 ∷ z.0, z.1, z.2)
  goes_await k (a.MoreParams e) h room = let z = goes_function_arrow end k e h in (its m.Close 0 ∷ z.0, z.1, z.2)
  goes_await k a.Want h room = goes_want end k h room
  goes_await k a.Operand h room = goes_operand end k h room
  goes_await k a.Inside h room = goes_inside end k h room
  goes_await k (a.Statement before) h room = goes_statement end k before (open_block k h) room
  goes_await k (a.Named x p) h room = goes_named end k x p h room
  goes_await k (a.Index u) h room = let z = goes_index_end end k u (record { var = None; plus = 0 }) h room in (words.counted 0 0 ∷ z.0, z.1, z.2)
  goes_await k (a.IndexName u x) h room = goes_index_name end k u x h room
  goes_await k (a.LocalMore b x) h room = goes_local_more end k b x h room
  goes_await k a.Text h room = let z = goes_assert k [] h room in (words.quoted [] 0 ∷ z.0, z.1, z.2)
  goes_await k (a.Part ps) h room = goes_literal end k ps h room
  goes_await k (a.PartNamed ps who) h room = let z = goes_bits k (sized.Part ps who) h room in (its m.Colon 0 ∷ z.0, z.1, z.2)
  goes_await k (a.MoreParts ps) h room = goes_parts end k ps h room
  goes_await k a.ArmOrEnd h room = goes_arm end k h room

  goes_on_from : (k : Frames) (m : Mode) → IsReached k m → nest k + 1 ≤ 128 → Goes end k m
  goes_on_from k (awaits await) h room = goes_await k await h room
  goes_on_from k (have x c p) h room = goes_have end k x c p h room
  goes_on_from k (whole x) h room = goes_whole end k x h room

-- ---- the words in front

abbrev came : Frames → Mode → Turn
came k m = Ok (k, m)

passes_on : (ws us : Words) (t : Turn) (k : Frames) (m : Mode) → ((k' : Frames) (m' : Mode) → pass k' m' ws ≡ came k m → run 0 k' m' (ws ++ us) ≡ run 0 k m us) → passes t (λ k' m'. pass k' m' ws) ≡ came k m
    → and_then t (λ k' m'. run 0 k' m' (ws ++ us)) ≡ run 0 k m us
passes_on ws us (Ok s) k m on h = on s.0 s.1 h
passes_on ws us (Err e) k m on h = absurd cc

same_run : (us : Words) (k' : Frames) (m' : Mode) (k : Frames) (m : Mode) → came k' m' ≡ came k m → run 0 k' m' us ≡ run 0 k m us
same_run us k' m' k m h = ap (λ (t : Turn). go 0 t us) h

pass_runs : (ws us : Words) (k' : Frames) (m' : Mode) (k : Frames) (m : Mode) → pass k' m' ws ≡ came k m → run 0 k' m' (ws ++ us) ≡ run 0 k m us
unfolding pass run
pass_runs [] us k' m' k m h = same_run us k' m' k m h
pass_runs (w ∷ ws) us k' m' k m h = passes_on ws us (step k' m' w) k m (λ k'' m'' h'. pass_runs ws us k'' m'' k m h') h

pub words_go_on : (ws : Words) (k : Frames) (m : Mode) → passed ws ≡ Ok (k, m) → nest k < 128 → Continues ws
words_go_on ws k m h room =
    let z = goes_on_from 0 k m (passed_reached ws k m h) (omega (arith, room)) in
    record { more = z.0; defs = z.1; is = program_is_spelled 0 (ws ++ z.0) z.1 (pass_runs ws z.0 (program [] ∷ []) (awaits a.Begin) k m h ∙ z.2) }
