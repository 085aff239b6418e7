-- A run, one whole step after the other.
use Rattle.std.proofs.Common.{◌≡◌, ℕ, suc, ◌+◌, ◌-◌, ◌<◌, List, Some, None, refl, sym, ap, ◌∙◌, subst, arith}
use Rattle.std.specs.declared.option.Option.{Option}
use Rattle.state_core.specs.declared.kinds.FaultKind.{FaultKind}
use Rattle.state_core.specs.declared.kinds.Range.{Range}
use Rattle.state_core.specs.World.{World, fault, lacks_answer}
use Rattle.eval_words.specs.Instr.{Ended, whole, cut}
use Rattle.machine_run.specs.Machine.{Machine, Stop, at_count, at_exit, at_fault, at_answer, Ran, exit_of, stepped, step, step_uses, run}
use Rattle.machine_run.specs.Answers.{Comes}

-- a run is so many whole steps and the rest
pub record IsRest (all : Ran) (done : ℕ) (rest : Ran) : Type 0 where
  pub done_is : all.done ≡ done + rest.done
  pub stop_is : all.stop ≡ rest.stop
  pub world_is : all.world ≡ rest.world

module _ (m : Machine) (ranges : List Range) (exits : List ℕ) where
  pub rest_first : (n : ℕ) (w : World) → IsRest (run m ranges exits n w) 0 (run m ranges exits (n - 0) w)
  rest_first n w =
      let e : n - 0 ≡ n = omega arith in
      subst (λ k. IsRest (run m ranges exits n w) 0 (run m ranges exits k w)) (sym e) (record { done_is = (omega arith); stop_is = refl; world_is = refl })

  -- a run by its first step
  pub more : (n : ℕ) (w x : World) (e : Ended) (o : Option ℕ) → step m ranges w ≡ (e, x) → exit_of m exits x ≡ o
      → run m ranges exits (suc n) w ≡ stepped e x (step_uses m ranges w) o (run m ranges exits n x)
  more n w x e o is out =
      ap (λ (s : Ended × World). stepped s.0 s.1 (step_uses m ranges w) (exit_of m exits s.1) (run m ranges exits n s.1)) is
      ∙ ap (λ p. stepped e x (step_uses m ranges w) p (run m ranges exits n x)) out

  pub rest_next : (n done : ℕ) (all : Ran) (w x : World) → done < n → IsRest all done (run m ranges exits (n - done) w)
      → step m ranges w ≡ (whole, x) → exit_of m exits x ≡ None → IsRest all (done + 1) (run m ranges exits (n - (done + 1)) x)
  rest_next n done all w x below rest is out =
      let e : n - done ≡ suc (n - (done + 1)) = omega (arith, below) in
      let r : run m ranges exits (n - done) w ≡ stepped whole x (step_uses m ranges w) None (run m ranges exits (n - (done + 1)) x) =
      ap (λ k. run m ranges exits k w) e ∙ more (n - (done + 1)) w x whole None is out in
      let d = rest.done_is ∙ ap (λ (q : Ran). done + q.done) r in
      record {
        done_is = d ∙ (let f : done + suc (run m ranges exits (n - (done + 1)) x).done ≡ (done + 1) + (run m ranges exits (n - (done + 1)) x).done = omega arith in f);
        stop_is = rest.stop_is ∙ ap (λ (q : Ran). q.stop) r;
        world_is = rest.world_is ∙ ap (λ (q : Ran). q.world) r;
      }

  comes : (all q : Ran) (done k : ℕ) (why : Stop) (x : World) → IsRest all done q → q.done ≡ k → q.stop ≡ why → q.world ≡ x → Comes (done + k) why x all
  comes all q done k why x rest d s w = record {
    done_is = sym (rest.done_is ∙ ap (λ n. done + n) d);
    stop_is = rest.stop_is ∙ s;
    world_is = rest.world_is ∙ w;
  }

  pub ends_at_exit : (n done index : ℕ) (all : Ran) (w x : World) → done < n → IsRest all done (run m ranges exits (n - done) w)
      → step m ranges w ≡ (whole, x) → exit_of m exits x ≡ Some index → Comes (done + 1) (at_exit index) x all
  ends_at_exit n done index all w x below rest is out =
      let e : n - done ≡ suc (n - (done + 1)) = omega (arith, below) in
      let r = ap (λ k. run m ranges exits k w) e ∙ more (n - (done + 1)) w x whole (Some index) is out in
      comes all (run m ranges exits (n - done) w) done 1 (at_exit index) x rest (ap (λ (q : Ran). q.done) r) (ap (λ (q : Ran). q.stop) r) (ap (λ (q : Ran). q.world) r)

  pub ends_at_fault : (n done : ℕ) (all : Ran) (w x : World) (kind : FaultKind) (at : ℕ) → done < n → IsRest all done (run m ranges exits (n - done) w)
      → step m ranges w ≡ (cut (fault kind at), x) → Comes done (at_fault kind at) x all
  ends_at_fault n done all w x kind at below rest is =
      let e : n - done ≡ suc (n - (done + 1)) = omega (arith, below) in
      let r = ap (λ k. run m ranges exits k w) e ∙ more (n - (done + 1)) w x (cut (fault kind at)) (exit_of m exits x) is refl in
      let z : done + 0 ≡ done = omega arith in
      subst (λ d. Comes d (at_fault kind at) x all) z
      (comes all (run m ranges exits (n - done) w) done 0 (at_fault kind at) x rest (ap (λ (q : Ran). q.done) r) (ap (λ (q : Ran). q.stop) r) (ap (λ (q : Ran). q.world) r))

  pub ends_at_answer : (n done : ℕ) (all : Ran) (w x : World) → done < n → IsRest all done (run m ranges exits (n - done) w)
      → step m ranges w ≡ (cut lacks_answer, x) → Comes done at_answer x all
  ends_at_answer n done all w x below rest is =
      let e : n - done ≡ suc (n - (done + 1)) = omega (arith, below) in
      let r = ap (λ k. run m ranges exits k w) e ∙ more (n - (done + 1)) w x (cut lacks_answer) (exit_of m exits x) is refl in
      let z : done + 0 ≡ done = omega arith in
      subst (λ d. Comes d at_answer x all) z
      (comes all (run m ranges exits (n - done) w) done 0 at_answer x rest (ap (λ (q : Ran). q.done) r) (ap (λ (q : Ran). q.stop) r) (ap (λ (q : Ran). q.world) r))

  pub ends_at_count : (n done : ℕ) (all : Ran) (w : World) → n - done ≡ 0 → done ≡ n → IsRest all done (run m ranges exits (n - done) w) → Comes n at_count w all
  ends_at_count n done all w none same rest =
      let r = ap (λ k. run m ranges exits k w) none in
      let z : done + 0 ≡ n = omega (arith, same) in
      subst (λ d. Comes d at_count w all) z
      (comes all (run m ranges exits (n - done) w) done 0 at_count w rest (ap (λ (q : Ran). q.done) r) (ap (λ (q : Ran). q.stop) r) (ap (λ (q : Ran). q.world) r))
