-- A fault at a word doesn't depend on what stands behind it.
use Rattle.std.proofs.Common.{◌≡◌, ℕ, List, [], ◌∷◌, ◌++◌, Result, Ok, Err, refl, sym, ap, ◌∙◌}
use Rattle.sail_syntax.specs.Program.{Definition}
use Rattle.sail_grammar.specs.Words.{Words}
use Rattle.sail_grammar.specs.Spelling.{Continues}
use Rattle.sail_machine.specs.declared.fault.Fault.{Fault}
use Rattle.sail_machine.specs.declared.awaited.Await.TheVariants as a
use Rattle.sail_machine.specs.Frames.{Frames, Mode, awaits, program}
use Rattle.sail_machine.specs.Turns.{Turn}
use Rattle.sail_machine.specs.Machine.{step}
use Rattle.sail_machine.specs.Run.{Outcome, and_then, run, read, passes, pass, passed}
use Rattle.sail_machine.proofs.Programs.{program_is_read}

abbrev wrong_turn : Fault → Turn
wrong_turn f = Err f

abbrev wrong : Fault → Outcome
wrong f = Err f

same_fault : (f g : Fault) → wrong_turn f ≡ wrong_turn g → f ≡ g
same_fault f g h = cc

no_fault : (k : Frames) (m : Mode) (f : Fault) (X : Type 0) → Ok (k, m) ≡ wrong_turn f → X
no_fault k m f X h = absurd cc

turn_fails : (end : ℕ) (ws more : Words) (f : Fault) (t : Turn) → ((k : Frames) (m : Mode) → pass k m ws ≡ Err f → run end k m (ws ++ more) ≡ Err f)
    → passes t (λ k m. pass k m ws) ≡ Err f → and_then t (λ k m. run end k m (ws ++ more)) ≡ Err f
turn_fails end ws more f (Ok s) go h = go s.0 s.1 h
turn_fails end ws more f (Err g) go h = ap wrong (same_fault g f h)

pass_fails : (end : ℕ) (ws more : Words) (k : Frames) (m : Mode) (f : Fault) → pass k m ws ≡ Err f → run end k m (ws ++ more) ≡ Err f
unfolding pass run
pass_fails end [] more k m f h = no_fault k m f (run end k m more ≡ Err f) h
pass_fails end (w ∷ ws) more k m f h = turn_fails end ws more f (step k m w) (λ k' m' h'. pass_fails end ws more k' m' f h') h

pub fault_is : (end : ℕ) (ws more : Words) (f : Fault) → passed ws ≡ Err f → read end (ws ++ more) ≡ Err f
fault_is end ws more f h = pass_fails end ws more (program [] ∷ []) (awaits a.Begin) f h

both : (o : Outcome) (ds : List Definition) (f : Fault) → o ≡ Ok ds → o ≡ Err f → ⊥
both o ds f h g = cc

pub no_more : (ws : Words) (f : Fault) → passed ws ≡ Err f → Continues ws → ⊥
no_more ws f h goes = both (read 0 (ws ++ goes.more)) goes.defs f (program_is_read 0 (ws ++ goes.more) goes.defs goes.is) (fault_is 0 ws goes.more f h)
