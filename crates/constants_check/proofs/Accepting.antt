-- Where the verdict accepts, the specification is safe.
use Rattle.std.proofs.Common.{◌≡◌, ℕ, suc, List, [], refl, sym, ap, arith, Some, None, inl, inr}
use Rattle.std.specs.Prelude.{Result, Ok, Err}
use Rattle.std.specs.Option.{option_map}
use Rattle.std.specs.declared.option.Option.{Option}
use Rattle.sail_syntax.specs.Program.{Definition}
use Rattle.machine_run.specs.Program.{machine_of}
use Rattle.machine_safe.specs.First.{Constants}
use Rattle.elf_image.specs.declared.fault.ImageFault.{ImageFault}
use Rattle.elf_image.specs.declared.fault.ImageFault.TheVariants as fault
use Rattle.elf_image.specs.Image.{Image, image_of}
use Rattle.proof_form.specs.declared.form.NamedProof.{NamedProof}
use Rattle.proof_form.specs.declared.form.ReadProof.{ReadProof}
use Rattle.proof_form.specs.declared.form.ReadProof.TheVariants as read
use Rattle.proof_form.specs.ProofForm.{proof_form}
use Rattle.constants_walk.specs.declared.run_form.RunEnd.{RunEnd}
use Rattle.constants_walk.specs.declared.run_form.RunEnd.TheVariants as run_end
use Rattle.constants_walk.specs.RunForm.{run_end_of}
use Rattle.lex_core.specs.Classes.{Text}
use Rattle.sail_verdict.specs.Verdict.{IsTyped, sail_verdict}
use Rattle.sail_verdict.specs.Verdict as sail
use Rattle.sail_verdict.proofs.Statuses.{told_of_each}
use Rattle.report_text.specs.Outcome.{Said, accept, status_number}
use Rattle.report_text.specs.Names.{Row}
use Rattle.constants_check.specs.Verdict.{no_image, on_end, constants_for, on_constants, on_proof, on_image, on_sail, verdict}
use Rattle.constants_check.specs.Accepted.{IsAccepted}
use Rattle.constants_check.proofs.FirstPath.{accepted_safe}
use Rattle.constants_check.proofs.Fitting.{has_pc, for_constants}

-- ---- an outcome of another status is no acceptance

abbrev number_in : Option Said → ℕ
number_in (Some said) = status_number said.status
number_in None = 8

other : (o : Option Said) (report : Text) (n : ℕ) → number_in o ≡ suc n → o ≡ Some (accept report) → ⊥
other o report n is e = let h : number_in o ≡ 0 = ap number_in e in omega (arith, h, is)

abbrev text_in : Option Said → Text
text_in (Some said) = said.text
text_in None = []

-- ---- the verdict

module _ (row : Row) (sail image proof report : Text) (defs : List Definition) (program_is : IsTyped sail defs) (loaded : Image) (image_is : image_of image ≡ Ok loaded) where
  by_end : (p : NamedProof) (k : Constants) (end : Option RunEnd) → proof_form proof ≡ read.Read p → constants_for defs p loaded.memory ≡ Some k → run_end_of (machine_of defs) k ≡ end
      → option_map (on_end p) end ≡ Some (accept report) → IsAccepted sail image proof report
  by_end p k (Some (run_end.Accepted count)) proof_is constants_are ends says_so =
      let f = for_constants defs p loaded.memory k (has_pc defs program_is.typed) constants_are in
      record {
        defs = defs;
        loaded = loaded;
        says = p;
        constants = k;
        count = count;
        program_is = program_is;
        image_is = image_is;
        proof_is = proof_is;
        constants_are = constants_are;
        code_is = f.1;
        run_is = ends;
        report_is = sym (ap text_in says_so);
        safe = accepted_safe defs k count f.0.fits f.0.wide f.0.each f.0.differ ends;
      }
  by_end p k None proof_is constants_are ends says_so = absurd (other None report 7 refl says_so)
  by_end p k (Some (run_end.Wrong at)) proof_is constants_are ends says_so = absurd (other (Some (on_end p (run_end.Wrong at))) report 0 refl says_so)
  by_end p k (Some (run_end.Outside at)) proof_is constants_are ends says_so = absurd (other (Some (on_end p (run_end.Outside at))) report 0 refl says_so)
  by_end p k (Some (run_end.Touches at)) proof_is constants_are ends says_so = absurd (other (Some (on_end p (run_end.Touches at))) report 0 refl says_so)
  by_end p k (Some (run_end.Fails why at)) proof_is constants_are ends says_so = absurd (other (Some (on_end p (run_end.Fails why at))) report 0 refl says_so)
  by_end p k (Some (run_end.TooMany at)) proof_is constants_are ends says_so = absurd (other (Some (on_end p (run_end.TooMany at))) report 6 refl says_so)

  by_constants : (p : NamedProof) (o : Option Constants) → proof_form proof ≡ read.Read p → constants_for defs p loaded.memory ≡ o
      → on_constants row defs p o ≡ Some (accept report) → IsAccepted sail image proof report
  by_constants p None proof_is constants_are says_so = absurd (other (on_constants row defs p None) report 2 refl says_so)
  by_constants p (Some k) proof_is constants_are says_so = by_end p k (run_end_of (machine_of defs) k) proof_is constants_are refl says_so

  by_proof : (r : ReadProof) → proof_form proof ≡ r → on_proof row defs loaded.memory r ≡ Some (accept report) → IsAccepted sail image proof report
  by_proof (read.NoProof at) proof_is says_so = absurd (other (on_proof row defs loaded.memory (read.NoProof at)) report 2 refl says_so)
  by_proof read.Outside proof_is says_so = absurd (other (on_proof row defs loaded.memory read.Outside) report 2 refl says_so)
  by_proof (read.Read p) proof_is says_so = by_constants p (constants_for defs p loaded.memory) proof_is refl says_so

-- a refusal of an image is no acceptance
never_accepts : (name report : Text) (f : ImageFault) → Some (no_image name f) ≡ Some (accept report) → ⊥
never_accepts name report (fault.Truncated at) e = other (Some (no_image name (fault.Truncated at))) report 2 refl e
never_accepts name report fault.Class e = other (Some (no_image name fault.Class)) report 2 refl e
never_accepts name report fault.Order e = other (Some (no_image name fault.Order)) report 2 refl e
never_accepts name report fault.Kind e = other (Some (no_image name fault.Kind)) report 2 refl e
never_accepts name report (fault.Overlap i j) e = other (Some (no_image name (fault.Overlap i j))) report 2 refl e
never_accepts name report (fault.Range i) e = other (Some (no_image name (fault.Range i))) report 2 refl e
never_accepts name report fault.TooLarge e = other (Some (no_image name fault.TooLarge)) report 6 refl e
never_accepts name report fault.NoMemory e = other (Some (no_image name fault.NoMemory)) report 6 refl e

by_image : (row : Row) (sail image proof report : Text) (defs : List Definition) (r : Result Image ImageFault) → IsTyped sail defs → image_of image ≡ r
    → on_image row defs proof r ≡ Some (accept report) → IsAccepted sail image proof report
by_image row sail image proof report defs (Err f) program_is is says_so = absurd (never_accepts row.image report f says_so)
by_image row sail image proof report defs (Ok i) program_is is says_so = by_proof row sail image proof report defs program_is i is (proof_form proof) refl says_so

by_sail : (row : Row) (text image proof report : Text) (r : Result (List Definition) (Option Said)) → sail.IsTold text r → on_sail row image proof r ≡ Some (accept report)
    → IsAccepted text image proof report
by_sail row text image proof report (Ok defs) told says_so = by_image row text image proof report defs (image_of image) told refl says_so
by_sail row text image proof report (Err None) told says_so = absurd told
by_sail row text image proof report (Err (Some said)) (inl input, none) says_so = absurd (other (Some said) report 2 (ap status_number input) says_so)
by_sail row text image proof report (Err (Some said)) (inr limit, none) says_so = absurd (other (Some said) report 6 (ap status_number limit) says_so)

pub accepting : (row : Row) (sail image proof report : Text) → verdict row sail image proof ≡ Some (accept report) → IsAccepted sail image proof report
unfolding verdict
accepting row text image proof report says_so = by_sail row text image proof report (sail_verdict row.sail text) (told_of_each row.sail text) says_so
