-- What is read is spelled: from the end of the text to its beginning, the words that are left are what the machine has need of.
use Rattle.std.proofs.Common.{◌≡◌, ℕ, false, List, [], ◌∷◌, Ok, Err, refl}
use Rattle.sail_syntax.specs.Tree.{node, name}
use Rattle.sail_syntax.specs.Program.{Definition}
use Rattle.sail_grammar.specs.declared.word.Word.{Word}
use Rattle.sail_grammar.specs.Words.{Words, named}
use Rattle.sail_grammar.specs.Expressions as g
use Rattle.sail_grammar.specs.Spelling.{IsProgram}
use Rattle.sail_machine.specs.declared.fault.Flaw.TheVariants as flaw
use Rattle.sail_machine.specs.declared.awaited.Await.TheVariants as a
use Rattle.sail_machine.specs.Frames.{Frames, Mode, awaits, have, whole, program}
use Rattle.sail_machine.specs.Turns.{Turn}
use Rattle.sail_machine.specs.Machine.{step}
use Rattle.sail_machine.specs.Run.{last, ended, and_then, run, read}
use Rattle.sail_machine.proofs.Awaiting.{Left, Turned}
use Rattle.sail_machine.proofs.Found.{lost}
use Rattle.sail_machine.proofs.FoundDefinitions.{definition_found}
use Rattle.sail_machine.proofs.FoundEnds.{shut_ends, end_found}
use Rattle.sail_machine.proofs.FoundOperands.{operand_found, after_found}
use Rattle.sail_machine.proofs.FoundWords.{without_order, await_found}

module _ (D : List Definition) (end : ℕ) where
  step_found : (k : Frames) (m : Mode) (w : Word) (ws : Words) → Turned D (step k m w) ws → Left D k m (w ∷ ws)
  step_found k (awaits await) w ws h = await_found D end k await w ws h
  step_found k (have x c p) w ws h = after_found D end k x c p w ws h
  step_found k (whole x) w ws h = end_found D end k x false (w ∷ ws) (shut_ends (w ∷ ws)) h

  -- the end of the text
  last_found : (k : Frames) (m : Mode) → ended (last k m end) end ≡ Ok D → Left D k m []
  last_found k (awaits a.Begin) h = without_order D k [] (definition_found D end k [] h)
  last_found k (awaits a.Definition) h = definition_found D end k [] h
  last_found k (awaits (a.Named x p)) h = operand_found D end k (node p (name x)) 0 p [] h (named x p ∷ []) refl (g.unsliced g.a_local)
  last_found k (awaits await) h = lost D end [] (record { flaw = flaw.Unexpected; at = end }) h
  last_found k (have x c p) h = operand_found D end k x c p [] h
  last_found k (whole x) h = end_found D end k x false [] tt h

  turned : (ws : Words) (t : Turn) → ((k : Frames) (m : Mode) → run end k m ws ≡ Ok D → Left D k m ws) → and_then t (λ k m. run end k m ws) ≡ Ok D → Turned D t ws
  turned ws (Ok s) go h = go s.0 s.1 h
  turned ws (Err e) go h = lost D end [] e h

  found : (ws : Words) (k : Frames) (m : Mode) → run end k m ws ≡ Ok D → Left D k m ws
  unfolding run
  found [] k m h = last_found k m h
  found (w ∷ ws) k m h = step_found k m w ws (turned ws (step k m w) (found ws) h)

pub program_is_spelled : (end : ℕ) (ws : Words) (ds : List Definition) → read end ws ≡ Ok ds → IsProgram ws ds
program_is_spelled end ws ds h = found ds end ws (program [] ∷ []) (awaits a.Begin) h
