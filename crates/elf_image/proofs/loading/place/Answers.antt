use Rattle.std.proofs.Common.{◌≡◌, ◌∙◌, ◌<◌, List, ℕ, Ok, sym, subst, ap, arith}
use Rattle.std.specs.List.{flat_map}
use Rattle.std.proofs.lemmas.List.Elements.{All-weaker}
use Rattle.elf_image.specs.declared.segment.Segment.{Segment}
use Rattle.elf_image.specs.declared.symbols.Table.{Table}
use Rattle.elf_image.specs.Fields.{e_phnum}
use Rattle.elf_image.specs.Segments.{memory_of}
use Rattle.elf_image.specs.Symbols.{symbols_in, tables_of}
use Rattle.elf_image.specs.Image.{Image, IsSound, IsLaidOut}
use Rattle.elf_image.proofs.HeaderLemmas.{numbered}
use Rattle.elf_image.proofs.LoadLemmas.{laid_out, placed_is}
use Rattle.elf_image.proofs.loading.place.Goals as goal

pub sorted-requires-clause-numbers : goal.sorted-requires-clause-numbers
sorted-requires-clause-numbers c = (numbered c.args.file.now 0 (e_phnum c.args.file.now) c.args.segments.now c.requires.segments).rising

pub sorted-requires-clause-some : goal.sorted-requires-clause-some
sorted-requires-clause-some c = All-weaker (IsSound c.args.file.now) (λ (s : Segment). 0 < s.size) (λ s h. h.some) c.args.segments.now (numbered c.args.file.now 0 (e_phnum c.args.file.now) c.args.segments.now c.requires.segments).sound

pub new-requires : goal.new-requires
new-requires c =
    let file = c.args.file.now in let xs = c.args.segments.now in let ys = c.in-Ok.sorted.items in
    let sound = (numbered file 0 (e_phnum file) xs c.requires.segments).sound in
    let copied = c.in_ok-to_vec-in-Ok.ensures.items_if_clones_equal (λ x y e. e) in
    subst (λ (ts : List Table). IsLaidOut c.in_ok-to_vec-in-Ok.field-0.items ys ts) (sym c.in_ok-tables-in-Ok.ensures.ok)
    (subst (λ (f : List ℕ). IsLaidOut f ys (tables_of file)) (sym copied) (laid_out file xs ys c.in-Ok.ensures.permutation sound c.in-Ok.ensures.apart))

pub returns-in_ok-to_vec-in-Ok-clause-ok : goal.returns-in_ok-to_vec-in-Ok-clause-ok
returns-in_ok-to_vec-in-Ok-clause-ok c =
    let file = c.args.file.now in let xs = c.args.segments.now in let ys = c.in-Ok.sorted.items in
    let sound = (numbered file 0 (e_phnum file) xs c.requires.segments).sound in
    let copied = c.in_ok-to_vec-in-Ok.ensures.items_if_clones_equal (λ x y e. e) in
    placed_is file xs ys c.in-Ok.ensures.permutation sound c.in-Ok.ensures.apart (sym c.if-exceed_limit.ensures) c.in-Ok.ensures.ok
    ∙ ap (λ (f : List ℕ). Ok (record { memory = memory_of f ys; symbols = flat_map (symbols_in f) (tables_of file) })) (sym copied)
    ∙ ap (λ (ts : List Table). Ok (record { memory = memory_of c.in_ok-to_vec-in-Ok.field-0.items ys; symbols = flat_map (symbols_in c.in_ok-to_vec-in-Ok.field-0.items) ts })) (sym c.in_ok-tables-in-Ok.ensures.ok)
    ∙ ap (λ (i : Image). Ok i) (sym c.new.ensures)
