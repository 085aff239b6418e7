-- What acceptance promises.
use Rattle.std.specs.Prelude.{◌≡◌, ℕ, List, [], Some, Ok}
use Rattle.state_core.specs.Claims.{HasBytes}
use Rattle.elf_image.specs.Image.{Image, image_of}
use Rattle.sail_syntax.specs.Program.{Definition}
use Rattle.machine_run.specs.Program.{machine_of}
use Rattle.machine_safe.specs.Safe.{IsSafe}
use Rattle.machine_safe.specs.First.{Constants, spec_of, no_transitions, no_variables}
use Rattle.lex_core.specs.Classes.{Text}
use Rattle.proof_form.specs.declared.form.NamedProof.{NamedProof}
use Rattle.proof_form.specs.declared.form.ReadProof.TheVariants as read
use Rattle.proof_form.specs.ProofForm.{proof_form}
use Rattle.constants_walk.specs.RunForm.{run_end_of}
use Rattle.constants_walk.specs.declared.run_form.RunEnd.TheVariants as run_end
use Rattle.sail_verdict.specs.Verdict.{IsTyped}
use Rattle.constants_check.specs.Verdict.{constants_for, report_of}

-- the Sail text spells a program that types, the image file has an image, the proof file says a specification over constants, its code is what the image
-- has at the code's addresses, its run is accepted, this report tells of it and of the run's count, and it is safe: from every state that meets its entry,
-- for every n, n instructions of the program have no fault and access no byte that isn't owned, and where they come to the exit its values are there
pub record IsAccepted (sail image proof report : Text) : Type 0 where
  pub defs : List Definition
  pub loaded : Image
  pub says : NamedProof
  pub constants : Constants
  pub count : ℕ
  pub program_is : IsTyped sail defs
  pub image_is : image_of image ≡ Ok loaded
  pub proof_is : proof_form proof ≡ read.Read says
  pub constants_are : constants_for defs says loaded.memory ≡ Some constants
  pub code_is : HasBytes loaded.memory constants.lo constants.code
  pub run_is : run_end_of (machine_of defs) constants ≡ Some (run_end.Accepted count)
  pub report_is : report ≡ report_of says count
  pub safe : IsSafe no_variables no_variables no_variables (machine_of defs) no_transitions [] (spec_of constants)
