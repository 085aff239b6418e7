-- Something is said of each three texts, and with which status.
use Rattle.std.proofs.Common.{◌≡◌, ◌≢◌, ℕ, List, Some, None, refl, sym, subst, arith, inl, inr, ap, ◌∙◌}
use Rattle.std.specs.Prelude.{Result, Ok, Err}
use Rattle.std.specs.Option.{option_map}
use Rattle.std.specs.declared.option.Option.{Option}
use Rattle.lex_core.specs.Classes.{Text}
use Rattle.sail_syntax.specs.Program.{Definition}
use Rattle.state_core.specs.State.{Memory}
use Rattle.machine_run.specs.Program.{machine_of}
use Rattle.machine_safe.specs.First.{Constants}
use Rattle.elf_image.specs.declared.fault.ImageFault.{ImageFault}
use Rattle.elf_image.specs.declared.fault.ImageFault.TheVariants as fault
use Rattle.elf_image.specs.Image.{Image, image_of}
use Rattle.report_text.specs.Names.{Row}
use Rattle.report_text.specs.Outcome.{Said, status_number}
use Rattle.proof_form.specs.declared.form.NamedProof.{NamedProof}
use Rattle.proof_form.specs.declared.form.ReadProof.{ReadProof}
use Rattle.proof_form.specs.declared.form.ReadProof.TheVariants as read
use Rattle.proof_form.specs.ProofForm.{proof_form}
use Rattle.constants_walk.specs.declared.run_form.RunEnd.{RunEnd}
use Rattle.constants_walk.specs.declared.run_form.RunEnd.TheVariants as run_end
use Rattle.constants_walk.specs.RunForm.{run_end_of}
use Rattle.sail_verdict.specs.Verdict.{sail_verdict}
use Rattle.sail_verdict.specs.Verdict as sail
use Rattle.sail_verdict.proofs.Statuses as texts
use Rattle.constants_check.specs.Told.{IsTold}
use Rattle.constants_check.specs.Verdict.{no_image, on_end, constants_for, on_constants, on_proof, on_image, on_sail, verdict}
use Rattle.constants_check.proofs.Failures.{ends_somehow}

of_end : (p : NamedProof) (end : RunEnd) → IsTold (Some (on_end p end))
of_end p (run_end.Accepted count) = inl refl
of_end p (run_end.Wrong at) = inr (inl refl)
of_end p (run_end.Outside at) = inr (inl refl)
of_end p (run_end.Touches at) = inr (inl refl)
of_end p (run_end.Fails why at) = inr (inl refl)
of_end p (run_end.TooMany at) = inr (inr (inr refl))

of_run : (p : NamedProof) (o : Option RunEnd) → (o ≡ None → ⊥) → IsTold (option_map (on_end p) o)
of_run p None there = there refl
of_run p (Some end) there = of_end p end

of_constants : (row : Row) (defs : List Definition) (p : NamedProof) (memory : Memory) (o : Option Constants) → constants_for defs p memory ≡ o → IsTold (on_constants row defs p o)
of_constants row defs p memory None is = inr (inr (inl refl))
of_constants row defs p memory (Some c) is = of_run p (run_end_of (machine_of defs) c) (ends_somehow defs memory p c is)

of_proof : (row : Row) (defs : List Definition) (memory : Memory) (r : ReadProof) → IsTold (on_proof row defs memory r)
of_proof row defs memory (read.NoProof at) = inr (inr (inl refl))
of_proof row defs memory read.Outside = inr (inr (inl refl))
of_proof row defs memory (read.Read p) = of_constants row defs p memory (constants_for defs p memory) refl

of_fault : (name : Text) (f : ImageFault) → IsTold (Some (no_image name f))
of_fault name (fault.Truncated at) = inr (inr (inl refl))
of_fault name fault.Class = inr (inr (inl refl))
of_fault name fault.Order = inr (inr (inl refl))
of_fault name fault.Kind = inr (inr (inl refl))
of_fault name (fault.Overlap i j) = inr (inr (inl refl))
of_fault name (fault.Range i) = inr (inr (inl refl))
of_fault name fault.TooLarge = inr (inr (inr refl))
of_fault name fault.NoMemory = inr (inr (inr refl))

of_image : (row : Row) (defs : List Definition) (proof : Text) (r : Result Image ImageFault) → IsTold (on_image row defs proof r)
of_image row defs proof (Err f) = of_fault row.image f
of_image row defs proof (Ok i) = of_proof row defs i.memory (proof_form proof)

of_sail : (row : Row) (text image proof : Text) (r : Result (List Definition) (Option Said)) → sail.IsTold text r → IsTold (on_sail row image proof r)
of_sail row text image proof (Ok defs) told = of_image row defs proof (image_of image)
of_sail row text image proof (Err None) told = told
of_sail row text image proof (Err (Some said)) (inl input, none) = inr (inr (inl input))
of_sail row text image proof (Err (Some said)) (inr limit, none) = inr (inr (inr limit))

pub told_of_each : (row : Row) (sail image proof : Text) → IsTold (verdict row sail image proof)
unfolding verdict
told_of_each row text image proof = of_sail row text image proof (sail_verdict row.sail text) (texts.told_of_each row.sail text)

-- ---- what the statuses aren't

-- neither words that are no command, nor a file that is missing or can't be read
pub record IsOfTexts (said : Said) : Type 0 where
  pub not_words : status_number said.status ≢ 2
  pub not_missing : status_number said.status ≢ 4
  pub not_read_fault : status_number said.status ≢ 5

of_number : (said : Said) (n : ℕ) → status_number said.status ≡ n → n ≢ 2 → n ≢ 4 → n ≢ 5 → IsOfTexts said
of_number said n is a b c = record {
  not_words = λ h. a (sym is ∙ h);
  not_missing = λ h. b (sym is ∙ h);
  not_read_fault = λ h. c (sym is ∙ h);
}

of_told : (said : Said) → IsTold (Some said) → IsOfTexts said
of_told said (inl e) = of_number said 0 (ap status_number e) (omega arith) (omega arith) (omega arith)
of_told said (inr (inl e)) = of_number said 1 (ap status_number e) (omega arith) (omega arith) (omega arith)
of_told said (inr (inr (inl e))) = of_number said 3 (ap status_number e) (omega arith) (omega arith) (omega arith)
of_told said (inr (inr (inr e))) = of_number said 7 (ap status_number e) (omega arith) (omega arith) (omega arith)

-- what the verdict says tells of the texts alone
pub judged_status : (row : Row) (sail image proof : Text) (said : Said) → verdict row sail image proof ≡ Some said → IsOfTexts said
judged_status row text image proof said is = of_told said (subst IsTold is (told_of_each row text image proof))
