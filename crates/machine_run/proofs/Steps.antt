-- A step by what the fetch gives.
use Rattle.std.proofs.Common.{◌≡◌, ℕ, Bool, List, sym, ap, ◌∙◌, subst}
use Rattle.std.specs.Prelude.{Err}
use Rattle.state_core.specs.declared.kinds.Range.{Range}
use Rattle.state_core.specs.declared.word.Word.{Word}
use Rattle.state_core.specs.World.{World, gets, fault}
use Rattle.sail_values.specs.declared.value.Outcome.{Outcome}
use Rattle.sail_values.specs.declared.value.Stop.{Stop}
use Rattle.sail_values.specs.declared.value.Stop.TheVariants as stop
use Rattle.eval_parts.specs.Worlds.{Accesses}
use Rattle.eval_words.specs.Agrees.{Ends, outcome_of}
use Rattle.eval_words.specs.Instr.{cut}
use Rattle.machine_run.specs.Words.{fetch_word}
use Rattle.machine_run.specs.Machine.{Machine, pc_of, executed, step}

module _ (m : Machine) (ranges : List Range) (w : World) (short : Bool) (pc : ℕ) (is_short : short ≡ m.short) (there : pc ≡ pc_of m w.state) where
  fetched : step m ranges w ≡ executed m ranges (fetch_word short ranges pc w)
  unfolding step
  fetched =
      ap (λ b. executed m ranges (fetch_word b ranges (pc_of m w.state) w)) (sym is_short)
      ∙ ap (λ a. executed m ranges (fetch_word short ranges a w)) (sym there)

  -- the word is there
  pub ends_gets : (x y : World) (r : Outcome) (word : Word) → fetch_word short ranges pc w ≡ gets word x → Ends r y (m.instr ranges word x) → Ends r y (step m ranges w)
  ends_gets x y r word is h = subst (Ends r y) (sym (fetched ∙ ap (executed m ranges) is)) h

  -- it isn't
  pub ends_stops : (x : World) (at : ℕ) (why : Stop) (o : Outcome) → at ≡ m.instr_at → o ≡ outcome_of (Err why)
      → Accesses (λ v. v) at (Err why) x (fetch_word short ranges pc w) → Ends o x (step m ranges w)
  ends_stops x at (stop.Fault kind place) o same is h =
      subst (λ p. Ends p x (step m ranges w)) (sym is)
      (fetched ∙ ap (executed m ranges) h.1 ∙ ap (λ k. (cut (fault kind k), x)) (sym same ∙ sym h.0))
  ends_stops x at stop.NoAnswer o same is h = subst (λ p. Ends p x (step m ranges w)) (sym is) (fetched ∙ ap (executed m ranges) h)
  ends_stops x at stop.NoMemory o same is h = subst (λ p. Ends p x (step m ranges w)) (sym is) tt
