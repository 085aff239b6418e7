-- An image from its parts.
use Rattle.std.proofs.Common.{◌≡◌, ℕ, ◌+◌, ◌*◌, ◌/◌, ◌<◌, ◌≤◌, Bool, true, false, not, ◌&&◌, cond, ltb, List, [], ◌∷◌, ◌++◌, length, take, drop, replicate, refl, sym, ap, ◌∙◌, subst, arith, Some, None, Ok, Option}
use Rattle.std.specs.Prelude.{All, option_and_then}
use Rattle.std.specs.List.{filter_map, range_with_len, flat_map, cons_option}
use Rattle.std.specs.List.Sorted.{IsPermutation}
use Rattle.std.proofs.lemmas.Bool.{cond_both, cond-true, cond-false, and_parts, leb-true, le-ltb}
use Rattle.std.proofs.lemmas.List.Elements.{All-nil, All-cons}
use Rattle.std.proofs.lemmas.List.Sorted.{All-permutation}
use Rattle.elf_image.specs.declared.TheConstants.{IMAGE_LIMIT}
use Rattle.elf_image.specs.declared.fault.ImageFault.{ImageFault}
use Rattle.elf_image.specs.declared.segment.Segment.{Segment}
use Rattle.elf_image.specs.declared.symbols.Table.{Table}
use Rattle.elf_image.specs.Fields.{has_magic, sh_offset, sh_size, sh_link}
use Rattle.elf_image.specs.Segments.{header_fault, segments_of, memory_of}
use Rattle.elf_image.specs.Overlaps.{least_overlap}
use Rattle.elf_image.specs.Symbols.{has_bytes, is_symbol_table, section_at, section_count, table_by, table_at, table_of, tables_of, symbols_in, symbols_of}
use Rattle.elf_image.specs.Image.{Image, IsSound, HoldsTable, IsLaidOut, image_of, placed, unless_overlap, unless_fault, all_placed, memory_size}
use Rattle.elf_image.proofs.SegmentLemmas.{IsRow, row_apart, same_memory}
use Rattle.elf_image.proofs.OverlapLemmas.{apart_permuted}

-- ---- symbol tables lie in the file

abbrev OfTable : List ℕ → Option Table → Type 0
OfTable file None = Unit {0}
OfTable file (Some t) = HoldsTable file t

of_next : (file : List ℕ) (f : ℕ → Option Table) (o : Option ℕ) → ((x : ℕ) → OfTable file (f x)) → OfTable file (option_and_then f o)
of_next file f None h = tt
of_next file f (Some x) h = h x

of_table_by : (file : List ℕ) (at names : ℕ) → OfTable file (table_by file at names)
of_table_by file at names =
    cond_both (has_bytes file at && has_bytes file names) _ _ (OfTable file)
    (λ b.
    let p = and_parts (has_bytes file at) (has_bytes file names) b in
    let s = leb-true (sh_offset file at + sh_size file at) (length file) p.0 in
    record { symbols = omega (arith, s); names = leb-true (sh_offset file names + sh_size file names) (length file) p.1 })
    (λ _. tt)

of_table_at : (file : List ℕ) (at : ℕ) → OfTable file (table_at file at)
of_table_at file at =
    cond_both (is_symbol_table file at) _ _ (OfTable file)
    (λ _. of_next file (table_by file at) (section_at file (sh_link file at)) (of_table_by file at))
    (λ _. tt)

of_table : (file : List ℕ) (k : ℕ) → OfTable file (table_of file k)
of_table file k = of_next file (table_at file) (section_at file k) (of_table_at file)

all_cons : (file : List ℕ) (o : Option Table) (ts : List Table) → OfTable file o → All (HoldsTable file) ts → All (HoldsTable file) (cons_option o ts)
all_cons file None ts h all = all
all_cons file (Some t) ts h all = All-cons (HoldsTable file) t ts h all

all_tables : (file : List ℕ) (ks : List ℕ) → All (HoldsTable file) (filter_map (table_of file) ks)
all_tables file [] = All-nil (HoldsTable file)
all_tables file (k ∷ ks) = all_cons file (table_of file k) (filter_map (table_of file) ks) (of_table file k) (all_tables file ks)

pub tables_held : (file : List ℕ) → All (HoldsTable file) (tables_of file)
tables_held file = all_tables file (range_with_len 0 (section_count file))

-- ---- the image

pub laid_out : (file : List ℕ) (xs ys : List Segment) → IsPermutation xs ys → All (IsSound file) xs → IsRow ys → IsLaidOut file ys (tables_of file)
laid_out file xs ys p sound row = record { sound = All-permutation (IsSound file) xs ys p sound; apart = row; held = tables_held file }

pub placed_is : (file : List ℕ) (xs ys : List Segment) → IsPermutation xs ys → All (IsSound file) xs → IsRow ys → ltb IMAGE_LIMIT (memory_size xs) ≡ false → least_overlap xs ≡ None → placed file xs ≡ Ok (record { memory = memory_of file ys; symbols = symbols_of file })
placed_is file xs ys p sound row small none =
    cond-false (ltb IMAGE_LIMIT (memory_size xs)) _ (unless_overlap file xs (least_overlap xs)) small
    ∙ ap (unless_overlap file xs) none
    ∙ ap (λ m. Ok (record { memory = m; symbols = symbols_of file })) (same_memory file xs ys p sound (apart_permuted xs ys p (row_apart ys row)))

pub image_is : (file : List ℕ) (ss : List Segment) → length file ≤ IMAGE_LIMIT → has_magic file ≡ true → header_fault file ≡ None → segments_of file ≡ Ok ss → image_of file ≡ placed file ss
image_is file ss small magic none is =
    cond-false (ltb IMAGE_LIMIT (length file)) _ _ (le-ltb IMAGE_LIMIT (length file) small)
    ∙ cond-true (has_magic file) (unless_fault file (header_fault file)) _ magic
    ∙ ap (unless_fault file) none
    ∙ ap (all_placed file) is
