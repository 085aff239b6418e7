-- What a check says of three texts: the one answer that they have.
use Rattle.std.specs.Prelude.{ℕ, ◌++◌, List, [], ◌∷◌, codes, length, Option, Some, None, Result, Ok, Err}
use Rattle.std.specs.Option.{option_map}
use Rattle.std.specs.Fmt.{decimal}
use Rattle.std.specs.List.{concat}
use Rattle.state_core.specs.State.{Memory}
use Rattle.elf_image.specs.declared.fault.ImageFault.{ImageFault}
use Rattle.elf_image.specs.declared.fault.ImageFault.TheVariants as fault
use Rattle.elf_image.specs.Image.{Image, image_of}
use Rattle.sail_syntax.specs.Program.{Definition, registers_of}
use Rattle.machine_run.specs.Program.{machine_of}
use Rattle.machine_safe.specs.First.{Constants}
use Rattle.constants_text.specs.Texts.{address_text, report_text, on_file_text, on_run_text}
use Rattle.lex_core.specs.Classes.{Text}
use Rattle.report_text.specs.Names.{Row}
use Rattle.report_text.specs.Outcome.{Said, accept, refuse, bad_input, beyond}
use Rattle.report_text.specs.declared.numbers.TheConstants.{TRUNCATED, CLASS, ORDER, KIND, OVERLAP, RANGE, TOO_LARGE, NO_PROOF, TOUCHES, WRONG_END, TOO_MANY, FAILS, OUTSIDE, NOT_YET}
use Rattle.proof_form.specs.declared.form.NamedProof.{NamedProof}
use Rattle.proof_form.specs.declared.form.ReadProof.{ReadProof}
use Rattle.proof_form.specs.declared.form.ReadProof.TheVariants as read
use Rattle.constants_walk.specs.declared.failure.Failure.{Failure}
use Rattle.constants_walk.specs.declared.failure.Failure.TheVariants as failure
use Rattle.constants_walk.specs.declared.run_form.RunEnd.{RunEnd}
use Rattle.constants_walk.specs.declared.run_form.RunEnd.TheVariants as run_end
use Rattle.sail_verdict.specs.Verdict.{sail_verdict}
use Rattle.read_rules.specs.Binding.{◌>>=◌}
use Rattle.proof_form.specs.ProofForm.{proof_form}
use Rattle.constants_walk.specs.RegisterPlaces.{places}
use Rattle.constants_walk.specs.Conditions.{code_in, constants, constants_of}
use Rattle.constants_walk.specs.RunForm.{run_end_of}

-- ---- what is said of inputs

-- the input has a form that isn't read yet
abbrev pub not_yet : Text → Said
not_yet name = bad_input (on_file_text (codes "input") NOT_YET name (codes "0"))

-- the file is no image, by this number and with these fields
abbrev pub bad_image : Text → ℕ → Text → Said
bad_image name number fields = bad_input (on_file_text (codes "input") number name fields)

-- the segments of the file have too many bytes
abbrev pub too_large : Text → Said
too_large name = beyond (on_file_text (codes "limit") TOO_LARGE name [])

-- the file is no image, by its first refusal; want of memory is none that a file has
abbrev pub no_image : Text → ImageFault → Said
no_image name (fault.Truncated at) = bad_image name TRUNCATED (decimal at)
no_image name fault.Class = bad_image name CLASS []
no_image name fault.Order = bad_image name ORDER []
no_image name fault.Kind = bad_image name KIND []
no_image name (fault.Overlap i j) = bad_image name OVERLAP (concat (decimal i ∷ codes " " ∷ decimal j ∷ []))
no_image name (fault.Range i) = bad_image name RANGE (decimal i)
no_image name fault.TooLarge = too_large name
no_image name fault.NoMemory = too_large name

-- the text is no proof file, which shows at this place
abbrev pub no_proof : Text → ℕ → Said
no_proof name at = bad_input (on_file_text (codes "input") NO_PROOF name (decimal at))

-- ---- what is said of a run

-- the report of a specification over constants that is accepted after so many instructions
abbrev pub report_of : NamedProof → ℕ → Text
report_of p count = report_text (record {
  name = p.spec;
  exits = record { name = p.exit; address = p.exit_at } ∷ [];
  blocks = record { name = p.block; address = p.entry_at; instructions = count; certificates = 0 } ∷ [];
} ∷ [])

-- the word for a failure
abbrev pub failure_text : Failure → Text
failure_text failure.Match = codes "match"
failure_text failure.Assert = codes "assert"
failure_text failure.Exit = codes "exit"

-- what is said of the end of a run
abbrev pub on_end : NamedProof → RunEnd → Said
on_end p (run_end.Accepted count) = accept (report_of p count)
on_end p (run_end.Wrong at) = refuse (on_run_text (codes "refused") WRONG_END p.spec p.block (Some at) (codes "condition 0 goal 0b0 why false"))
on_end p (run_end.Outside pc) = refuse (on_run_text (codes "refused") OUTSIDE p.spec p.block (Some pc) (codes "pc " ++ address_text pc))
on_end p (run_end.Touches pc) = refuse (on_run_text (codes "refused") TOUCHES p.spec p.block (Some pc) (codes "nouse"))
on_end p (run_end.Fails why pc) = refuse (on_run_text (codes "refused") FAILS p.spec p.block (Some pc) (codes "fail " ++ failure_text why))
on_end p (run_end.TooMany pc) = beyond (on_run_text (codes "limit") TOO_MANY p.spec p.block (Some pc) [])

-- ---- the check

-- the constants of a proof over a program and the memory of an image, where its conditions hold
unfoldable pub constants_for : List Definition → NamedProof → Memory → Option Constants
constants_for defs p memory =
    places (registers_of defs) (machine_of defs).pc p.entry >>= λ entry.
    places (registers_of defs) (machine_of defs).pc p.wanted >>= λ wanted.
    constants p entry wanted (length (registers_of defs)) (machine_of defs).pc >>= λ c.
    option_map (constants_of c) (code_in memory c.lo c.hi)

-- with the constants, or without
abbrev pub on_constants : Row → List Definition → NamedProof → Option Constants → Option Said
on_constants row defs p None = Some (not_yet row.proof)
on_constants row defs p (Some c) = option_map (on_end p) (run_end_of (machine_of defs) c)

-- with what the proof file is
abbrev pub on_proof : Row → List Definition → Memory → ReadProof → Option Said
on_proof row defs memory (read.NoProof at) = Some (no_proof row.proof at)
on_proof row defs memory read.Outside = Some (not_yet row.proof)
on_proof row defs memory (read.Read p) = on_constants row defs p (constants_for defs p memory)

-- with a program that types, and what the image is
abbrev pub on_image : Row → List Definition → Text → Result Image ImageFault → Option Said
on_image row defs proof (Err f) = Some (no_image row.image f)
on_image row defs proof (Ok i) = on_proof row defs i.memory (proof_form proof)

-- with the program of a Sail text that types, or what is said of the text's first fault
abbrev pub on_sail : Row → Text → Text → Result (List Definition) (Option Said) → Option Said
on_sail row image proof (Ok defs) = on_image row defs proof (image_of image)
on_sail row image proof (Err said) = said

-- what is said of the three texts in files of these names; nothing only of want of memory, which no texts have
unfoldable pub verdict : Row → Text → Text → Text → Option Said
verdict row sail image proof = on_sail row image proof (sail_verdict row.sail sail)
