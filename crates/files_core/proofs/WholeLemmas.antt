-- The steps of reading and writing a whole text.
use Rattle.std.proofs.Common.{◌≡◌, ℕ, suc, ◌+◌, ◌-◌, ◌<◌, ◌≤◌, List, [], ◌∷◌, ◌++◌, length, take, drop, refl, sym, ap, ◌∙◌, subst, arith, append_assoc, length-append, length-drop, Some, None, unwrap_or, Bool, true, cond}
use Rattle.std.proofs.lemmas.List.{take-append-drop}
use Rattle.std.proofs.Math.Seq.{drop-append_seam, take-append_seam, take-length}
use Rattle.std.specs.declared.option.Option.{Option}
use Rattle.files_core.specs.Store.{Store, file_of}
use Rattle.files_core.specs.Reads.{IsPiece, ToldFile}
use Rattle.files_core.specs.Writes.{Grows, IsWrittenUpTo}

-- the text is the first bytes of a told file, which is there as soon as something was read
abbrev pub IsReadSoFar : Option Store → List ℕ → List ℕ → Type 0
IsReadSoFar store name text = 0 < length text → ToldFile store name (λ file. (rest : List ℕ) × (text ++ rest ≡ file))

append_nil : (xs : List ℕ) → xs ++ [] ≡ xs
append_nil [] = refl
append_nil (x ∷ xs) = ap (λ t. x ∷ t) (append_nil xs)

one_file : (o : Option (List ℕ)) (a b : List ℕ) → o ≡ Some a → o ≡ Some b → a ≡ b
one_file o a b e f = ap (λ v. unwrap_or v a) (sym e ∙ f)

-- what was read begins the file
read_before : (store : Option Store) (name text file : List ℕ) (files : Store) → store ≡ Some files
    → file_of files name ≡ Some file → IsReadSoFar store name text → (rest : List ℕ) × (text ++ rest ≡ file)
read_before store name [] file files told is so_far = (file, refl)
read_before None name (b ∷ text) file files told is so_far = absurd (cc)
read_before (Some own) name (b ∷ text) file files told is so_far =
    let had = so_far (omega arith) in
    let same : own ≡ files = ap (λ v. unwrap_or v own) told in
    let is' : file_of own name ≡ Some file = ap (λ f. file_of f name) same ∙ is in
    (had.2.0, had.2.1 ∙ one_file (file_of own name) had.0 file had.1 is')

more : (text rest file buffer : List ℕ) (n : ℕ) → text ++ rest ≡ file → take n buffer ≡ take n (drop (length text) file)
    → (text ++ take n buffer) ++ drop n rest ≡ file
more text rest file buffer n split bytes =
    let seam : drop (length text) file ≡ rest = ap (drop (length text)) (sym split) ∙ drop-append_seam text rest in
    let piece : take n buffer ≡ take n rest = bytes ∙ ap (take n) seam in
    ap (λ p. (text ++ p) ++ drop n rest) piece ∙ append_assoc text (take n rest) (drop n rest)
    ∙ ap (λ t. text ++ t) (take-append-drop n rest) ∙ split

pub read_more : (store : Option Store) (name text buffer : List ℕ) (n : ℕ) → IsReadSoFar store name text
    → ToldFile store name (λ file. IsPiece file (length text) n buffer) → IsReadSoFar store name (text ++ take n buffer)
read_more None name text buffer n so_far piece = λ _. tt
read_more (Some files) name text buffer n so_far piece = λ _.
    let before = read_before (Some files) name text piece.0 files refl piece.1 so_far in
    (piece.0, piece.1, (drop n before.0, more text before.0 piece.0 buffer n before.1 piece.2.bytes))

all_read : (text rest file : List ℕ) → text ++ rest ≡ file → length file ≤ length text → text ≡ file
all_read text [] file split at_end = sym (append_nil text) ∙ split
all_read text (b ∷ rest) file split at_end =
    absurd (let e : length text + suc (length rest) ≡ length file = sym (length-append text (b ∷ rest)) ∙ ap length split in omega (arith, e, at_end))

pub read_whole : (store : Option Store) (name text buffer : List ℕ) → IsReadSoFar store name text → 0 < length buffer
    → ToldFile store name (λ file. IsPiece file (length text) 0 buffer) → ToldFile store name (λ file. text ≡ file)
read_whole None name text buffer so_far room piece = tt
read_whole (Some files) name text buffer so_far room piece =
    let before = read_before (Some files) name text piece.0 files refl piece.1 so_far in
    (piece.0, piece.1, all_read text before.0 piece.0 before.1 (piece.2.none_at_end refl room))

longer : (text rest file : List ℕ) (limit : ℕ) → text ++ rest ≡ file → limit < length text → limit < length file
longer text rest file limit split past =
    let e : length text + length rest ≡ length file = sym (length-append text rest) ∙ ap length split in omega (arith, e, past)

pub read_past : (store : Option Store) (name text : List ℕ) (limit : ℕ) → IsReadSoFar store name text → limit < length text
    → ToldFile store name (λ file. limit < length file)
read_past None name text limit so_far past = tt
read_past (Some files) name text limit so_far past =
    let had = so_far (omega (arith, past)) in (had.0, had.1, longer text had.2.0 had.0 limit had.2.1 past)

grown_more : (before mid after : Option (List ℕ)) (a b : List ℕ) → Grows before a mid → Grows mid b after → Grows before (a ++ b) after
grown_more None None after a b g h = h
grown_more None (Some m) after a b g h = absurd (cc)
grown_more (Some x) None after a b g h = absurd (cc)
grown_more (Some x) (Some m) after a b g h =
    h ∙ ap Some (ap (λ t. t ++ b) (ap (λ v. unwrap_or v []) g) ∙ append_assoc x a b)

tail_whole : (n : ℕ) (xs : List ℕ) → take (length xs - n) (drop n xs) ≡ drop n xs
tail_whole n xs = subst (λ (k : ℕ). take k (drop n xs) ≡ drop n xs) (length-drop n xs) (take-length (drop n xs))

pub written_more : (before mid after : Option (List ℕ)) (text rest : List ℕ) (n : ℕ) → IsWrittenUpTo before text rest mid
    → Grows mid (take n rest) after → IsWrittenUpTo before text (take (length rest - n) (drop n rest)) after
written_more before mid after text rest n so_far grown = record {
  written = so_far.written ++ take n rest;
  split = ap (λ r. (so_far.written ++ take n rest) ++ r) (tail_whole n rest)
      ∙ append_assoc so_far.written (take n rest) (drop n rest) ∙ ap (λ t. so_far.written ++ t) (take-append-drop n rest) ∙ so_far.split;
  grown = grown_more before mid after so_far.written (take n rest) so_far.grown grown;
}

-- the same over the values of a turn of the loop
pub piece_more : (store now : Option Store) (name text text' buffer piece : List ℕ) (at n : ℕ) → now ≡ store → at ≡ length text
    → piece ≡ take n buffer → text' ≡ text ++ piece → IsReadSoFar store name text
    → ToldFile now name (λ file. IsPiece file at n buffer) → IsReadSoFar store name text'
piece_more store now name text text' buffer piece at n same is_at is_piece grown so_far told =
    subst (λ (t : List ℕ). IsReadSoFar store name t) (sym (grown ∙ ap (λ p. text ++ p) is_piece))
    (read_more store name text buffer n so_far
    (subst (λ (a : ℕ). ToldFile store name (λ file. IsPiece file a n buffer)) is_at
    (subst (λ (s : Option Store). ToldFile s name (λ file. IsPiece file at n buffer)) same told)))

pub whole_now : (store now : Option Store) (name text buffer : List ℕ) (at n : ℕ) → now ≡ store → at ≡ length text → n ≡ 0
    → length buffer ≡ 65536 → IsReadSoFar store name text
    → ToldFile now name (λ file. IsPiece file at n buffer) → ToldFile store name (λ file. text ≡ file)
whole_now store now name text buffer at n same is_at none room so_far told =
    read_whole store name text buffer so_far (omega (arith, room))
    (subst (λ (k : ℕ). ToldFile store name (λ file. IsPiece file (length text) k buffer)) none
    (subst (λ (a : ℕ). ToldFile store name (λ file. IsPiece file a n buffer)) is_at
    (subst (λ (s : Option Store). ToldFile s name (λ file. IsPiece file at n buffer)) same told)))

-- what a buffer holds after a read was written back to it
pub written_back : (room n : ℕ) (buffer old after : List ℕ) → room ≡ length buffer
    → after ≡ take room (buffer ++ drop (length buffer) old) → take n after ≡ take n buffer
written_back room n buffer old after fits is =
    ap (take n) (is ∙ ap (λ k. take k (buffer ++ drop (length buffer) old)) fits ∙ take-append_seam buffer (drop (length buffer) old))

pub taken : {A : Type 0} (b : Bool) (new p q : A) → new ≡ cond b p q → b ≡ true → new ≡ p
taken b new p q is holds = is ∙ ap (λ v. cond v p q) holds
