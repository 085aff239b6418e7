-- A run that touches comes to an instruction that accesses memory or a device.
use Rattle.std.proofs.Common.{◌≡◌, ℕ, zero, suc, ◌+◌, List, [], refl, sym, ap, ◌∙◌, arith, Bool, true, false, Some, None, ◌⊎◌, inl, inr}
use Rattle.std.specs.Prelude.{if◌then◌else◌, ◌&&◌, nat_eq, nat_le}
use Rattle.std.specs.Option.{option_map}
use Rattle.std.specs.declared.option.Option.{Option}
use Rattle.sail_syntax.specs.Program.{Definition}
use Rattle.state_core.specs.World.{World, gets}
use Rattle.state_core.specs.declared.word.Word.{Word}
use Rattle.eval_uses.specs.Uses.{has_access}
use Rattle.eval_words.specs.Instr.{Ended, whole, cut, moments_of_instr}
use Rattle.machine_run.specs.Words.{fetch_word}
use Rattle.machine_run.specs.Machine.{Machine, pc_of, step, step_uses, at_count, stepped, run}
use Rattle.machine_run.specs.Program.{machine_of}
use Rattle.machine_safe.specs.First.{Constants, end_of, is_inside, size_at, has_touched, Walked, left, outside, touches, fails, too_many, next_of, walk_from}
use Rattle.machine_safe.proofs.Endings.{walked_number}
use Rattle.machine_safe.proofs.Touches.{touch_fetched}
use Rattle.constants_walk.specs.declared.failure.Failure.{Failure}
use Rattle.constants_walk.specs.declared.run_form.RunEnd.TheVariants as run_end
use Rattle.constants_walk.specs.Failing.{failure_of}
use Rattle.constants_walk.specs.RunForm.{has_values, ended_at, most_instructions, run_end_of}
use Rattle.constants_check.specs.Told.{first_world, TouchesAt}
use Rattle.constants_check.proofs.FirstPath.{end_number}
use Rattle.constants_check.proofs.Failures.{pc_in, left_number}

-- ---- how a walk goes on that ends by a touch

by_tests : (b d : Bool) (at count last pc : ℕ) (w e : World) (further : Walked × World)
    → (if b then (if d then further else (outside at, w)) else (left count last, w)) ≡ (touches pc, e) → further ≡ (touches pc, e)
by_tests true true at count last pc w e further is = is
by_tests true false at count last pc w e further is = let h : 1 ≡ 4 = ap (λ r. walked_number r.0) is in absurd (omega (arith, h))
by_tests false d at count last pc w e further is = let h : 0 ≡ 4 = ap (λ r. walked_number r.0) is in absurd (omega (arith, h))

place_of : Walked → ℕ
place_of (left k l) = 0
place_of (outside pc) = 0
place_of (touches pc) = pc
place_of (fails e pc) = 0
place_of (too_many pc) = 0

by_next : (t : Bool) (f : Ended) (at pc : ℕ) (x e : World) (rest : Walked × World) → next_of t f at x rest ≡ (touches pc, e)
    → ((t ≡ true) × (at ≡ pc)) ⊎ ((f ≡ whole) × (rest ≡ (touches pc, e)))
unfolding place_of
by_next true f at pc x e rest is = inl (refl, ap (λ r. place_of r.0) is)
by_next false whole at pc x e rest is = inr (refl, is)
by_next false (cut why) at pc x e rest is = let h : 2 ≡ 4 = ap (λ r. walked_number r.0) is in absurd (omega (arith, h))

module _ (defs : List Definition) (c : Constants) (pc : ℕ) where
  abbrev m : Machine
  m = machine_of defs

  -- after so many instructions from a world, all of them whole, a word is fetched at pc that accesses memory or a device
  record Touching (w : World) : Type 0 where
    pub done : ℕ
    pub world : World
    pub whole : (run m [] [] done w).stop ≡ at_count
    pub reached : (run m [] [] done w).world ≡ world
    pub there : pc_of m world.state ≡ pc
    pub word : Word
    pub behind : World
    pub fetched : fetch_word m.short [] pc world ≡ gets word behind
    pub accesses : has_access (moments_of_instr defs [] word behind) ≡ true

  touches_here : (w : World) → has_touched w (step m [] w).1 ≡ true → pc_of m w.state ≡ pc → Touching w
  touches_here w touched at =
      let f = touch_fetched defs w touched in
      record {
        done = 0;
        world = w;
        whole = refl;
        reached = refl;
        there = at;
        word = f.word;
        behind = f.behind;
        fetched = ap (λ n. fetch_word m.short [] n w) (sym at) ∙ f.is;
        accesses = f.accesses;
      }

  touches_behind : (w : World) → (step m [] w).0 ≡ whole → Touching (step m [] w).1 → Touching w
  touches_behind w is more =
      let rest = run m [] [] more.done (step m [] w).1 in
      record {
        done = suc more.done;
        world = more.world;
        whole = ap (λ f. (stepped f (step m [] w).1 (step_uses m [] w) None rest).stop) is ∙ more.whole;
        reached = ap (λ f. (stepped f (step m [] w).1 (step_uses m [] w) None rest).world) is ∙ more.reached;
        there = more.there;
        word = more.word;
        behind = more.behind;
        fetched = more.fetched;
        accesses = more.accesses;
      }

  touching_by : (count room : ℕ) (w e : World) → (walk_from m c (suc count) (pc_of m w.state) room (step m [] w).1 ≡ (touches pc, e) → Touching (step m [] w).1)
      → ((has_touched w (step m [] w).1 ≡ true) × (pc_of m w.state ≡ pc))
      ⊎ (((step m [] w).0 ≡ whole) × (walk_from m c (suc count) (pc_of m w.state) room (step m [] w).1 ≡ (touches pc, e))) → Touching w
  touching_by count room w e more (inl here) = touches_here w here.0 here.1
  touching_by count room w e more (inr behind) = touches_behind w behind.0 (more behind.1)

  touching : (count last room : ℕ) (w e : World) → walk_from m c count last room w ≡ (touches pc, e) → Touching w
  touching count last zero w e is =
      let h : 3 ≡ 4 = ap (λ r. walked_number r.0) (by_tests (is_inside c (pc_of m w.state)) (nat_le (pc_of m w.state + size_at m c (pc_of m w.state)) (end_of c))
      (pc_of m w.state) count last pc w e (too_many (pc_of m w.state), w) is) in absurd (omega (arith, h))
  touching count last (suc room) w e is =
      let s = step m [] w in
      let rest = walk_from m c (suc count) (pc_of m w.state) room s.1 in
      touching_by count room w e (λ walked. touching (suc count) (pc_of m w.state) room s.1 e walked)
      (by_next (has_touched w s.1) s.0 (pc_of m w.state) pc s.1 e rest
      (by_tests (is_inside c (pc_of m w.state)) (nat_le (pc_of m w.state + size_at m c (pc_of m w.state)) (end_of c)) (pc_of m w.state) count last pc w e
      (next_of (has_touched w s.1) s.0 (pc_of m w.state) s.1 rest) is))

  never_touched : (at : ℕ) (o : Option Failure) → option_map (λ why. run_end.Fails why at) o ≡ Some (run_end.Touches pc) → ⊥
  never_touched at None is = let n : 6 ≡ 3 = ap end_number is in omega (arith, n)
  never_touched at (Some why) is = let n : 4 ≡ 3 = ap end_number is in omega (arith, n)

  by_walk : (walked : Walked) (w : World) → walk_from m c 0 c.entry_at most_instructions (first_world defs c) ≡ (walked, w)
      → ended_at m c walked w ≡ Some (run_end.Touches pc) → Touching (first_world defs c)
  by_walk (left count last) w is e = absurd (left_number (nat_eq (pc_of m w.state) c.exit_at && has_values w.state c.exit) count last 1 (ap end_number e))
  by_walk (outside at) w is e = let n : 2 ≡ 3 = ap end_number e in absurd (omega (arith, n))
  by_walk (fails ended at) w is e = absurd (never_touched at (failure_of ended) e)
  by_walk (too_many at) w is e = let n : 5 ≡ 3 = ap end_number e in absurd (omega (arith, n))
  by_walk (touches at) w is e = touching 0 c.entry_at most_instructions (first_world defs c) w (is ∙ ap (λ n. (touches n, w)) (ap pc_in e))

  pub touches_at : run_end_of m c ≡ Some (run_end.Touches pc) → TouchesAt defs c pc
  unfolding run_end_of
  touches_at e =
      let walked = walk_from m c 0 c.entry_at most_instructions (first_world defs c) in
      let t = by_walk walked.0 walked.1 refl e in
      record {
        done = t.done;
        world = t.world;
        whole = t.whole;
        reached = t.reached;
        there = t.there;
        word = t.word;
        behind = t.behind;
        fetched = t.fetched;
        accesses = t.accesses;
      }
