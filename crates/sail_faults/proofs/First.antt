-- The fault of words is the first one.
use Rattle.std.proofs.Common.{◌≡◌, ◌<◌, ◌⊎◌, inl, inr, refl, sym, ap, ◌∙◌, ℕ, Bool, true, false, List, [], ◌∷◌, ◌++◌, Option, Some, None, Result, Ok, Err, subst, append-nil, append_assoc}
use Rattle.std.specs.Prelude.{⊤}
use Rattle.sail_syntax.specs.Tree.{Text, Tree, node, name, chain, when, choose, assign}
use Rattle.sail_syntax.specs.View.{trees}
use Rattle.sail_syntax.specs.Program.{Definition}
use Rattle.sail_grammar.specs.Spelling.{Continues, IsProgram}
use Rattle.sail_grammar.specs.Words.{Words}
use Rattle.sail_grammar.specs.declared.word.Word.{Word}
use Rattle.sail_machine.specs.declared.fault.Fault.{Fault}
use Rattle.sail_machine.specs.declared.fault.Flaw.TheVariants as flaw
use Rattle.sail_machine.specs.declared.awaited.Await.{Await}
use Rattle.sail_machine.specs.declared.awaited.Await.TheVariants as a
use Rattle.sail_machine.specs.Frames as f
use Rattle.sail_machine.specs.Frames.{Frames, Mode, awaits, have, whole, nest, program}
use Rattle.sail_machine.specs.Signs.{at_end}
use Rattle.sail_machine.specs.Turns.{Turn, ends, ends_in}
use Rattle.sail_machine.specs.Machine.{step}
use Rattle.sail_machine.specs.Run.{Outcome, last_await, last, given, ended, and_then, run, read, passes, pass, passed}
use Rattle.sail_machine.proofs.Programs.{program_is_read}
use Rattle.sail_faults.specs.Places.{IsHere, IsThat, name_place, IsBeginning, IsDeepName, IsFirst, IsUnended, last_place}
use Rattle.sail_faults.proofs.Places.{Stands, StandsBy, StandsNamed, IsDeep, step_stands}

abbrev at_the_end : ℕ → Fault
at_the_end end = record { flaw = flaw.Unexpected; at = end }

-- ---- the end of the text

abbrev Ends : ℕ → Turn → Type 0
Ends end (Ok s) = ⊤
Ends end (Err e) = e ≡ at_the_end end

ends_end : (k : Frames) (x : Tree) (end : ℕ) → Ends end (ends k x (at_end end))
unfolding ends ends_in
ends_end [] x end = refl
ends_end (f.program ds ∷ k) x end = refl
ends_end (f.body h t ∷ k) x end = tt
ends_end (f.paren p ∷ k) x end = refl
ends_end (f.args c xs p ∷ k) x end = refl
ends_end (f.testing p ∷ k) x end = refl
ends_end (f.choosing t p ∷ k) x end = ends_end k (node p (when t x)) end
ends_end (f.otherwise t y p ∷ k) x end = ends_end k (node p (choose t y x)) end
ends_end (f.subject p ∷ k) x end = refl
ends_end (f.arms y cs p ∷ k) x end = refl
ends_end (f.armed y cs pt p ∷ k) x end = refl
ends_end (f.chained op xs p ∷ k) x end = ends_end k (node p (chain op (trees (xs ++ x ∷ [])))) end
ends_end (f.assigning y p ∷ k) x end = ends_end k (node p (assign y x)) end
ends_end (f.flipping p ∷ k) x end = refl
ends_end (f.slicing y c p ∷ k) x end = refl
ends_end (f.updating p ∷ k) x end = refl
ends_end (f.indexing y p ∷ k) x end = refl
ends_end (f.replacing y hi lo p ∷ k) x end = refl
ends_end (f.widening signed p ∷ k) x end = refl
ends_end (f.widened signed w p ∷ k) x end = refl
ends_end (f.asserting p ∷ k) x end = refl
ends_end (f.asserted y p ∷ k) x end = refl
ends_end (f.looping y i j p ∷ k) x end = refl
ends_end (f.statements ss p ∷ k) x end = refl
ends_end (f.binding ss b y t p ∷ k) x end = refl

last_await_ends : (k : Frames) (await : Await) (end : ℕ) → Ends end (last_await k await end)
last_await_ends k a.Begin end = tt
last_await_ends k a.Definition end = tt
last_await_ends k (a.Named x p) end = ends_end k (node p (name x)) end
last_await_ends k (a.Fixed e) end = refl
last_await_ends k (a.Name u) end = refl
last_await_ends k (a.Number c) end = refl
last_await_ends k (a.Type u) end = refl
last_await_ends k (a.MemberOrEnd e) end = refl
last_await_ends k (a.MoreMembers e) end = refl
last_await_ends k (a.TypeOrEnd e) end = refl
last_await_ends k (a.MoreTypes e) end = refl
last_await_ends k (a.ParamOrEnd e) end = refl
last_await_ends k (a.MoreParams e) end = refl
last_await_ends k a.Want end = refl
last_await_ends k a.Operand end = refl
last_await_ends k a.Inside end = refl
last_await_ends k (a.Statement before) end = refl
last_await_ends k (a.Index u) end = refl
last_await_ends k (a.IndexName u x) end = refl
last_await_ends k (a.LocalMore b x) end = refl
last_await_ends k a.Text end = refl
last_await_ends k (a.Part ps) end = refl
last_await_ends k (a.PartNamed ps who) end = refl
last_await_ends k (a.MoreParts ps) end = refl
last_await_ends k a.ArmOrEnd end = refl

last_ends : (k : Frames) (mode : Mode) (end : ℕ) → Ends end (last k mode end)
last_ends k (awaits await) end = last_await_ends k await end
last_ends k (have x c p) end = ends_end k x end
last_ends k (whole x) end = ends_end k x end

abbrev failed : Fault → Outcome
failed e = Err e

abbrev fault_of : Outcome → Fault → Fault
fault_of (Ok ds) other = other
fault_of (Err e) other = e

given_ends : (k : Frames) (end : ℕ) (e : Fault) → given k end ≡ failed e → e ≡ at_the_end end
given_ends [] end e h = sym (ap (λ o. fault_of o e) h)
given_ends (f.program ds ∷ []) end e h = absurd cc
given_ends (f.program ds ∷ g ∷ k) end e h = sym (ap (λ o. fault_of o e) h)
given_ends (g ∷ k) end e h = sym (ap (λ o. fault_of o e) h)

ended_ends : (t : Turn) (end : ℕ) (e : Fault) → Ends end t → ended t end ≡ failed e → e ≡ at_the_end end
ended_ends (Ok s) end e is h = given_ends s.0 end e h
ended_ends (Err g) end e is h = sym (ap (λ o. fault_of o e) h) ∙ is

-- ---- the words up to the fault

abbrev came : Frames → Mode → Turn
came k mode = Ok (k, mode)

abbrev fails : Fault → Turn
fails e = Err e

last_of : (front : Words) (w : Word) → last_place (front ++ w ∷ []) ≡ w.at
last_of [] w = refl
last_of (v ∷ []) w = refl
last_of (v ∷ u ∷ front) w = last_of (u ∷ front) w

-- one word more
one_word : (t : Turn) → passes t (λ k m. Ok (k, m)) ≡ t
one_word (Ok s) = refl
one_word (Err e) = refl

abbrev state_of : Turn → Frames × Mode → Frames × Mode
state_of (Ok s) other = s
state_of (Err e) other = other

same_step : (k k' : Frames) (mode mode' : Mode) (w : Word) → came k mode ≡ came k' mode' → step k mode w ≡ step k' mode' w
same_step k k' mode mode' w h = ap (λ s. step s.0 s.1 w) (ap (λ t. state_of t (k, mode)) h)

more_by : (front : Words) (w : Word) (k' : Frames) (mode' : Mode) → ((k : Frames) (mode : Mode) → pass k mode front ≡ came k' mode' → pass k mode (front ++ w ∷ []) ≡ step k' mode' w)
    → (t : Turn) → passes t (λ k mode. pass k mode front) ≡ came k' mode' → passes t (λ k mode. pass k mode (front ++ w ∷ [])) ≡ step k' mode' w
more_by front w k' mode' go (Ok s) h = go s.0 s.1 h
more_by front w k' mode' go (Err e) h = absurd cc

pass_more : (front : Words) (w : Word) (k k' : Frames) (mode mode' : Mode) → pass k mode front ≡ came k' mode' → pass k mode (front ++ w ∷ []) ≡ step k' mode' w
unfolding pass
pass_more [] w k k' mode mode' h = one_word (step k mode w) ∙ same_step k k' mode mode' w h
pass_more (v ∷ front) w k k' mode mode' h = more_by front w k' mode' (λ k mode h. pass_more front w k k' mode mode' h) (step k mode v) h

-- what is known of a fault at a word, and of words that are passed
abbrev pub Stops : Type 0
Stops = (ws : Words) (e : Fault) → passed ws ≡ Err e → ¬ Continues ws

abbrev pub GoesOn : Type 0
GoesOn = (ws : Words) (k : Frames) (mode : Mode) → passed ws ≡ Ok (k, mode) → nest k < 128 → Continues ws

beginning_of : GoesOn → (ws : Words) (k : Frames) (mode : Mode) → passed ws ≡ Ok (k, mode) → IsBeginning ws
beginning_of go ws k mode h = record { frames = k; mode = mode; passed = h; goes_on = go ws k mode h }

both : (o : Outcome) (ds : List Definition) (e : Fault) → o ≡ Ok ds → o ≡ Err e → ⊥
both o ds e h g = cc

-- where the step behind a name, or behind none, is a fault, and where what comes next begins
place_of : (o : Option ℕ) (front : Words) (w : Word) (e : Fault) → IsThat o (last_place front) → StandsBy o w (Err e) → (e.at ≡ w.at) ⊎ IsDeepName front w e
place_of None front w e here h = inl h
place_of (Some p) front w e here (inl h) = inl h
place_of (Some p) front w e here (inr h) = inr (record { deep = h.deep; equals = h.equals; place = h.place ∙ here })

here_of : (o : Option ℕ) (w : Word) (k : Frames) (mode : Mode) → StandsBy o w (Ok (k, mode)) → IsHere mode w.at
here_of None w k mode h = h
here_of (Some p) w k mode h = h

abbrev pub Answer : ℕ → Words → Fault → Type 0
Answer end all e = IsFirst all e ⊎ IsUnended end all e

-- the words end with this fault
at_end_of : GoesOn → (end : ℕ) (all front : Words) (k : Frames) (mode : Mode) (e : Fault) → all ≡ front → read end all ≡ failed e → passed front ≡ came k mode → ended (last k mode end) end ≡ failed e → Answer end all e
at_end_of go end all front k mode e is wrong came h =
    inr (record { beginning = beginning_of go all k mode (ap passed is ∙ came); unended = λ ds is. both (read end all) ds e (program_is_read end all ds is) wrong; fault = ended_ends (last k mode end) end e (last_ends k mode end) h })

-- the step at a word is a fault, or the words behind it are read with this fault
at_word : Stops → GoesOn → (end : ℕ) (all front : Words) (w : Word) (ws : Words) (k : Frames) (mode : Mode) (e : Fault) → all ≡ front ++ w ∷ ws → passed front ≡ came k mode → IsHere mode (last_place front)
    → ((s : Frames × Mode) → passed (front ++ w ∷ []) ≡ Ok s → IsHere s.1 (last_place (front ++ w ∷ [])) → run end s.0 s.1 ws ≡ failed e → Answer end all e)
    → (t : Turn) → step k mode w ≡ t → and_then t (λ k' mode'. run end k' mode' ws) ≡ failed e → Answer end all e
at_word stop go end all front w ws k mode e same front_came here more (Ok s) turn h =
    let next : IsHere s.1 w.at = here_of (name_place mode) w s.0 s.1 (subst (StandsBy (name_place mode) w) turn (step_stands k mode w)) in
    more s (pass_more front w (program [] ∷ []) k (awaits a.Begin) mode front_came ∙ turn) (subst (IsHere s.1) (sym (last_of front w)) next) h
at_word stop go end all front w ws k mode e same front_came here more (Err g) turn h =
    let is : g ≡ e = ap (λ o. fault_of o g) h in
    let last : step k mode w ≡ fails e = turn ∙ ap fails is in
    inl (record {
      before = front;
      word = w;
      behind = ws;
      all = same;
      beginning = beginning_of go front k mode front_came;
      stops = λ goes. stop (front ++ w ∷ []) e (pass_more front w (program [] ∷ []) k (awaits a.Begin) mode front_came ∙ last) goes;
      place = place_of (name_place mode) front w e here (subst (StandsBy (name_place mode) w) last (step_stands k mode w));
    })

-- the words behind those in front are read with this fault
walk : Stops → GoesOn → (end : ℕ) (all front ws : Words) (k : Frames) (mode : Mode) (e : Fault) → all ≡ front ++ ws → read end all ≡ failed e → passed front ≡ came k mode → IsHere mode (last_place front)
    → run end k mode ws ≡ failed e → Answer end all e
unfolding run
walk stop go end all front [] k mode e same wrong front_came here h = at_end_of go end all front k mode e (same ∙ append-nil front) wrong front_came h
walk stop go end all front (w ∷ ws) k mode e same wrong front_came here h =
    at_word stop go end all front w ws k mode e same front_came here
    (λ s came here h. walk stop go end all (front ++ w ∷ []) ws s.0 s.1 e (same ∙ sym (append_assoc front (w ∷ []) ws)) wrong came here h)
    (step k mode w) refl h

pub first_fault_is : Stops → GoesOn → (end : ℕ) (ws : Words) (e : Fault) → read end ws ≡ Err e → Answer end ws e
unfolding pass
first_fault_is stop go end ws e h = walk stop go end ws [] ws (program [] ∷ []) (awaits a.Begin) e refl h refl tt h
