-- What is left of fetches, steps and runs after want of memory.
use Rattle.std.proofs.Common.{◌≡◌, ℕ, zero, suc, ◌+◌, ◌<◌, ◌++◌, Bool, List, Some, None, refl, sym, ap, ◌∙◌, subst, arith}
use Rattle.std.specs.declared.option.Option.{Option}
use Rattle.sail_syntax.specs.Program.{Definition}
use Rattle.state_core.specs.declared.kinds.Range.{Range}
use Rattle.state_core.specs.declared.word.Word.{Word}
use Rattle.state_core.specs.World.{World, Got, gets, fault, lacks_answer}
use Rattle.sail_values.specs.declared.value.Outcome.{Outcome}
use Rattle.sail_values.specs.declared.value.Outcome.TheVariants as outcome
use Rattle.eval_rules.specs.Moments.{Moment, IsPassed}
use Rattle.eval_rules.proofs.Passed.{IsPart, part_first, passed_second}
use Rattle.eval_words.specs.Agrees.{EndsPassed}
use Rattle.eval_words.specs.Instr.{Ended, whole, cut, moments_of_instr}
use Rattle.machine_run.specs.Words.{fetch_word}
use Rattle.machine_run.specs.Machine.{Machine, Ran, at_count, run, step, exit_of, pc_of}
use Rattle.machine_run.specs.Program.{machine_of, has_short}
use Rattle.machine_run.specs.Passed.{behind_fetch, word_moments, step_moments, IsLeft}
use Rattle.machine_run.proofs.Runs.{more}

-- what comes after a fetch
pub part_behind : {X : Type 0} (w v : World) (ms : List Moment) (f : X → World → List Moment) (x : X) (got : Got X) → got ≡ gets x v → IsPart v (f x v) w (ms ++ behind_fetch got f)
part_behind w v ms f x got is = subst (λ g. IsPart v (f x v) w (ms ++ behind_fetch g f)) (sym is) (record { passed = λ y p. passed_second ms (f x v) w v y p })

-- what a part leaves, the whole does
pub ends_passed : {start before : World} {ms all : List Moment} (o : Outcome) (world : World) → IsPart start ms before all → EndsPassed o world start ms → EndsPassed o world before all
ends_passed (outcome.Value v) world part h = tt
ends_passed (outcome.Fault kind at) world part h = tt
ends_passed outcome.NoAnswer world part h = tt
ends_passed outcome.NoMemory world part h = part.passed world h

-- ---- steps

module _ (defs : List Definition) (ranges : List Range) (w : World) (short : Bool) (pc : ℕ) (is_short : short ≡ has_short defs) (there : pc ≡ pc_of (machine_of defs) w.state) where
  moments_are : step_moments defs ranges w ≡ word_moments short ranges pc w ++ behind_fetch (fetch_word short ranges pc w) (moments_of_instr defs ranges)
  unfolding step_moments
  moments_are =
      ap (λ b. word_moments b ranges (pc_of (machine_of defs) w.state) w ++ behind_fetch (fetch_word b ranges (pc_of (machine_of defs) w.state) w) (moments_of_instr defs ranges)) (sym is_short)
      ∙ ap (λ a. word_moments short ranges a w ++ behind_fetch (fetch_word short ranges a w) (moments_of_instr defs ranges)) (sym there)

  -- the fetch
  pub step_fetch : IsPart w (word_moments short ranges pc w) w (step_moments defs ranges w)
  step_fetch = subst (λ ms. IsPart w (word_moments short ranges pc w) w ms) (sym moments_are)
      (part_first w (word_moments short ranges pc w) (behind_fetch (fetch_word short ranges pc w) (moments_of_instr defs ranges)))

  -- what the word does
  pub step_word : (x : World) (word : Word) → fetch_word short ranges pc w ≡ gets word x → IsPart x (moments_of_instr defs ranges word x) w (step_moments defs ranges w)
  step_word x word is = subst (λ ms. IsPart x (moments_of_instr defs ranges word x) w ms) (sym moments_are)
      (part_behind w x (word_moments short ranges pc w) (moments_of_instr defs ranges) word (fetch_word short ranges pc w) is)

-- ---- runs

-- so many steps of a run are whole, come to no exit, and reach this world
pub record IsBegun (m : Machine) (ranges : List Range) (exits : List ℕ) (done : ℕ) (start world : World) : Type 0 where
  pub stop_is : (run m ranges exits done start).stop ≡ at_count
  pub world_is : (run m ranges exits done start).world ≡ world

module _ (m : Machine) (ranges : List Range) (exits : List ℕ) where
  pub begun_first : (w : World) → IsBegun m ranges exits 0 w w
  begun_first w = record { stop_is = refl; world_is = refl }

  -- a first step, and the others
  begun_behind : (k : ℕ) (start y w : World) → step m ranges start ≡ (whole, y) → exit_of m exits y ≡ None → IsBegun m ranges exits k y w → IsBegun m ranges exits (suc k) start w
  begun_behind k start y w is out b =
      let r = more m ranges exits k start y whole None is out in
      record {
        stop_is = ap (λ (q : Ran). q.stop) r ∙ b.stop_is;
        world_is = ap (λ (q : Ran). q.world) r ∙ b.world_is;
      }

  -- one more
  begun_more : (k : ℕ) (start w x : World) → IsBegun m ranges exits k start w → step m ranges w ≡ (whole, x) → exit_of m exits x ≡ None → IsBegun m ranges exits (suc k) start x
  begun_more zero start w x b is out = begun_behind 0 start x x (ap (step m ranges) b.world_is ∙ is) out (begun_first x)
  begun_more (suc k) start w x b is out =
      split (step m ranges start).0 (step m ranges start).1 (exit_of m exits (step m ranges start).1) refl refl (λ y c. begun_more k y w x c is out)
    where
      split : (e : Ended) (y : World) (o : Option ℕ) → step m ranges start ≡ (e, y) → exit_of m exits y ≡ o
          → ((y : World) → IsBegun m ranges exits k y w → IsBegun m ranges exits (suc k) y x) → IsBegun m ranges exits (suc (suc k)) start x
      split whole y None first none ih =
          let r = more m ranges exits k start y whole None first none in
          begun_behind (suc k) start y x first none
          (ih y (record {
            stop_is = sym (ap (λ (q : Ran). q.stop) r) ∙ b.stop_is;
            world_is = sym (ap (λ (q : Ran). q.world) r) ∙ b.world_is;
          }))
      split whole y (Some i) first at ih =
          let wrong = sym (ap (λ (q : Ran). q.stop) (more m ranges exits k start y whole (Some i) first at)) ∙ b.stop_is in absurd (cc)
      split (cut (fault kind place)) y o first at ih =
          let wrong = sym (ap (λ (q : Ran). q.stop) (more m ranges exits k start y (cut (fault kind place)) o first at)) ∙ b.stop_is in absurd (cc)
      split (cut lacks_answer) y o first at ih =
          let wrong = sym (ap (λ (q : Ran). q.stop) (more m ranges exits k start y (cut lacks_answer) o first at)) ∙ b.stop_is in absurd (cc)

  pub begun_next : (k : ℕ) (start w x : World) → IsBegun m ranges exits k start w → step m ranges w ≡ (whole, x) → exit_of m exits x ≡ None → IsBegun m ranges exits (k + 1) start x
  begun_next k start w x b is out =
      let e : k + 1 ≡ suc k = omega arith in subst (λ n. IsBegun m ranges exits n start x) (sym e) (begun_more k start w x b is out)

-- the world that a next step passes
pub run_left : (defs : List Definition) (ranges : List Range) (exits : List ℕ) (n done : ℕ) (start w x : World) → done < n → IsBegun (machine_of defs) ranges exits done start w
    → IsPassed x w (step_moments defs ranges w) → IsLeft defs ranges exits n done start x
run_left defs ranges exits n done start w x below b passed = record {
  fewer = below;
  whole = b.stop_is;
  passed = subst (λ u. IsPassed x u (step_moments defs ranges u)) (sym b.world_is) passed;
}
