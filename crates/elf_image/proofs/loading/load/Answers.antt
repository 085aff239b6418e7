use Rattle.std.proofs.Common.{◌≡◌, ◌∙◌, List, ℕ, Result, sym, subst, ap, arith}
use Rattle.std.specs.Prelude.{IfErr}
use Rattle.elf_image.specs.declared.fault.ImageFault.{ImageFault}
use Rattle.elf_image.specs.Image.{Image, IsRefusal, placed}
use Rattle.elf_image.proofs.LoadLemmas.{image_is}
use Rattle.elf_image.proofs.loading.load.Goals as goal

pub returns-in-Ok-clause-err : goal.returns-in-Ok-clause-err
returns-in-Ok-clause-err c =
    let file = c.args.bytes.now in
    let is = image_is file c.in-Ok.segments.items (omega (arith, c.if-bytes-gt-IMAGE_LIMIT.false)) (sym c.if-not-has_magic.ensures) (sym c.header_fault.ensures ∙ c.in_default.is) c.in-Ok.ensures.ok in
    let parts = ap (placed file) c.deref.ensures.value in
    subst (λ (a : Result Image ImageFault). IfErr c.place.result (IsRefusal a)) (parts ∙ sym is) c.place.ensures.err
