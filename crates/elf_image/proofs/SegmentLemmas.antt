-- The bytes of segments of which no two share an address.
use Rattle.std.proofs.Common.{◌≡◌, ◌≢◌, ℕ, zero, suc, ◌+◌, ◌-◌, ◌<◌, ◌≤◌, ◌⊎◌, inl, inr, ⊎_elim, List, [], ◌∷◌, ◌++◌, length, get_or, take, drop, replicate, refl, sym, ap, ◌∙◌, arith, subst, Some, None, Option, min, Bool, true, false, leb}
use Rattle.std.specs.Prelude.{All, AllPairs, Contains}
use Rattle.std.specs.Ordering.{nat_cmp}
use Rattle.std.specs.FinMap.{FinMap, get, empty, get-empty, same_map, nat_cmp-IsAntisymmetric}
use Rattle.std.specs.List.Sorted.{IsPermutation, IsNonDecreasingBy, IsPartitionPoint}
use Rattle.std.proofs.lemmas.Cmp.{nat_cmp_total}
use Rattle.std.proofs.lemmas.Bool.{cases_lt, cases_order, cases_eq, leb-true, leb-false}
use Rattle.std.proofs.lemmas.List.{length-append, length-take-le, length-drop, length-replicate, get_or_append_left, get_or-append_right, get_or-take, get_or-drop, get_or-replicate, get_or_default}
use Rattle.std.proofs.lemmas.List.Elements.{All-head, All-tail, All-cons, All-nil, All-contains, Contains-get_or}
use Rattle.std.proofs.lemmas.List.Sorted.{Contains-permutation, All-permutation, IsPermutation-sym}
use Rattle.state_core.specs.State.{Memory}
use Rattle.elf_image.specs.declared.segment.Segment.{Segment}
use Rattle.elf_image.specs.Segments.{end, Covers, bytes_of, with_bytes, memory_of}
use Rattle.elf_image.specs.Image.{IsSound}
use Rattle.elf_image.proofs.MemoryLemmas.{inside, before, behind}

pub length_bytes : (file : List ℕ) (s : Segment) → IsSound file s → length (bytes_of file s) ≡ s.size
length_bytes file s h =
    let d = length-drop s.offset file in
    let t = length-take-le s.file_size (drop s.offset file) (omega (arith, d, h.there)) in
    let r = length-replicate {A = ℕ} (s.size - s.file_size) 0 in
    let a = length-append (take s.file_size (drop s.offset file)) (replicate (s.size - s.file_size) 0) in
    omega (arith, a, t, r, h.enough)

length_stored : (file : List ℕ) (s : Segment) → IsSound file s → length (take s.file_size (drop s.offset file)) ≡ s.file_size
length_stored file s h = length-take-le s.file_size (drop s.offset file) (let d = length-drop s.offset file in omega (arith, d, h.there))

-- a byte that stands in the file
pub stored_byte : (file : List ℕ) (s : Segment) (i : ℕ) → IsSound file s → i < s.file_size → get_or (bytes_of file s) i 0 ≡ get_or file (s.offset + i) 0
stored_byte file s i h l =
    get_or_append_left (take s.file_size (drop s.offset file)) (replicate (s.size - s.file_size) 0) 0 i (let e = length_stored file s h in omega (arith, e, l))
    ∙ get_or-take s.file_size (drop s.offset file) i 0 l ∙ get_or-drop s.offset file i 0

-- a byte behind those
pub zero_byte : (file : List ℕ) (s : Segment) (i : ℕ) → IsSound file s → s.file_size ≤ i → i < s.size → get_or (bytes_of file s) i 0 ≡ 0
zero_byte file s i h l b =
    get_or-append_right (take s.file_size (drop s.offset file)) (replicate (s.size - s.file_size) 0) s.file_size i 0 (length_stored file s h) l
    ∙ get_or-replicate (s.size - s.file_size) (i - s.file_size) 0 0 (omega (arith, l, b))

-- two segments with one address are one
abbrev pub IsApart : List Segment → Type 0
IsApart ss = (s t : Segment) (q : ℕ) → Contains ss s → Contains ss t → Covers s q → Covers t q → s ≡ t

-- a segment with the address, or none
abbrev pub Found : List Segment → ℕ → Type 0
Found ss q = ((s : Segment) × Contains ss s × Covers s q) ⊎ All (λ s. ¬ Covers s q) ss

covers_or_not : (s : Segment) (q : ℕ) → Covers s q ⊎ ((q < s.addr) ⊎ (end s ≤ q))
covers_or_not s q =
    ⊎_elim (λ l. inr (inl l)) (λ l. ⊎_elim (λ m. inl (l, m)) (λ m. inr (inr m)) (cases_lt q (end s))) (cases_lt q s.addr)

at_head : (s : Segment) (ss : List Segment) → Contains (s ∷ ss) s
at_head s ss = (0, omega arith, refl)

at_tail : (s t : Segment) (ss : List Segment) → Contains ss t → Contains (s ∷ ss) t
at_tail s t ss c = (suc c.0, let h = c.1 in omega (arith, h), c.2)

not_covers : (s : Segment) (q : ℕ) → (q < s.addr) ⊎ (end s ≤ q) → ¬ Covers s q
not_covers s q away c = ⊎_elim (λ l. absurd (let h = c.0 in omega (arith, l, h))) (λ l. absurd (let h = c.1 in omega (arith, l, h))) away

pub find : (ss : List Segment) (q : ℕ) → Found ss q
find [] q = inr (All-nil _)
find (s ∷ ss) q =
    ⊎_elim (λ c. inl (s, at_head s ss, c))
    (λ away. ⊎_elim (λ f. inl (f.0, at_tail s f.0 ss f.1, f.2)) (λ none. inr (All-cons (λ s. ¬ Covers s q) s ss (not_covers s q away) none)) (find ss q))
    (covers_or_not s q)

-- past one segment
passed : (file : List ℕ) (s : Segment) (ss : List Segment) (q : ℕ) → IsSound file s → ¬ Covers s q → get (memory_of file (s ∷ ss)) q ≡ get (memory_of file ss) q
passed file s ss q h none =
    ⊎_elim (λ c. absurd (none c))
    (λ away. ⊎_elim (λ l. before (memory_of file ss) s.addr q (bytes_of file s) l) (λ l. behind (memory_of file ss) s.addr q (bytes_of file s) (let e = length_bytes file s h in omega (arith, e, l))) away)
    (covers_or_not s q)

-- an address that no segment has
pub nothing : (file : List ℕ) (ss : List Segment) (q : ℕ) → All (IsSound file) ss → All (λ s. ¬ Covers s q) ss → get (memory_of file ss) q ≡ None
nothing file [] q sound none = get-empty nat_cmp q
nothing file (s ∷ ss) q sound none =
    passed file s ss q (All-head (IsSound file) s ss sound) (All-head (λ s. ¬ Covers s q) s ss none)
    ∙ nothing file ss q (All-tail (IsSound file) s ss sound) (All-tail (λ s. ¬ Covers s q) s ss none)

-- the byte of a segment at an address
abbrev pub byte_of : List ℕ → Segment → ℕ → ℕ
byte_of file s q = get_or (bytes_of file s) (q - s.addr) 0

-- an address that the first segment has
first : (file : List ℕ) (s : Segment) (ss : List Segment) (q : ℕ) → IsSound file s → Covers s q → get (memory_of file (s ∷ ss)) q ≡ Some (byte_of file s q)
first file s ss q h c = inside (memory_of file ss) s.addr q (bytes_of file s) c.0 (let e = length_bytes file s h in let l = c.1 in omega (arith, e, l))

rest_apart : (s : Segment) (ss : List Segment) → IsApart (s ∷ ss) → IsApart ss
rest_apart s ss apart = λ x y q a b k l. apart x y q (at_tail s x ss a) (at_tail s y ss b) k l

in_rest : (s t : Segment) (ss : List Segment) → Contains (s ∷ ss) t → (s ≡ t) ⊎ Contains ss t
in_rest s t ss (zero, below, is) = inl is
in_rest s t ss (suc k, below, is) = inr (k, omega (arith, below), is)

-- an address that a segment has
pub something : (file : List ℕ) (ss : List Segment) (t : Segment) (q : ℕ) → All (IsSound file) ss → IsApart ss → Contains ss t → Covers t q → get (memory_of file ss) q ≡ Some (byte_of file t q)
something file [] t q sound apart at c = absurd (let h = at.1 in omega (arith, h))
something file (s ∷ ss) t q sound apart at c =
    ⊎_elim (λ d. first file s ss q (All-head (IsSound file) s ss sound) d ∙ ap (λ (x : Segment). Some (byte_of file x q)) (apart s t q (at_head s ss) at d c))
    (λ away. passed file s ss q (All-head (IsSound file) s ss sound) (not_covers s q away)
    ∙ ⊎_elim (λ e. absurd (not_covers s q away (subst (λ (x : Segment). Covers x q) (sym e) c)))
    (λ r. something file ss t q (All-tail (IsSound file) s ss sound) (rest_apart s ss apart) r c)
    (in_rest s t ss at))
    (covers_or_not s q)

-- the order of the segments doesn't matter
pub same_memory : (file : List ℕ) (xs ys : List Segment) → IsPermutation xs ys → All (IsSound file) xs → IsApart xs → memory_of file xs ≡ memory_of file ys
same_memory file xs ys p sound apart =
    same_map nat_cmp_total nat_cmp-IsAntisymmetric (memory_of file xs) (memory_of file ys) (λ q.
    let back = IsPermutation-sym xs ys p in
    let others = All-permutation (IsSound file) xs ys p sound in
    ⊎_elim (λ f. something file xs f.0 q sound apart f.1 f.2
    ∙ sym (something file ys f.0 q others (λ s t a c d k l. apart s t a (Contains-permutation ys xs s back c) (Contains-permutation ys xs t back d) k l) (Contains-permutation xs ys f.0 p f.1) f.2))
    (λ none. nothing file xs q sound none ∙ sym (nothing file ys q others (All-permutation (λ s. ¬ Covers s q) xs ys p none)))
    (find xs q))

-- ---- segments by rising addresses

abbrev pub IsRow : List Segment → Type 0
IsRow ss = AllPairs (λ s t. end s ≤ t.addr) ss

-- of two places in a row, the first ends before the second begins
pub in_row : (ss : List Segment) (i j : ℕ) (s t : Segment) → IsRow ss → i < j → j < length ss → get_or ss i s ≡ s → get_or ss j t ≡ t → end s ≤ t.addr
in_row ss i j s t row h m e f =
    subst (λ (x : Segment). end x ≤ t.addr) e
    (subst (λ (x : Segment). end (get_or ss i s) ≤ x.addr) (get_or_default ss j s t m ∙ f) (row i j s h m))

clash : (s t : Segment) (q : ℕ) → Covers s q → Covers t q → end s ≤ t.addr → ⊥
clash s t q c d r = let a = c.1 in let b = d.0 in omega (arith, a, b, r)

pub row_apart : (ss : List Segment) → IsRow ss → IsApart ss
row_apart ss row s t q a b c d =
    ⊎_elim (λ same. sym a.2 ∙ ap (λ (k : ℕ). get_or ss k s) same ∙ get_or_default ss b.0 s t b.1 ∙ b.2)
    (λ other. ⊎_elim
    (λ h. absurd (clash s t q c d (in_row ss a.0 b.0 s t row h b.1 a.2 b.2)))
    (λ h. absurd (clash t s q d c (in_row ss b.0 a.0 t s row h a.1 b.2 a.2)))
    other)
    (cases_order a.0 b.0)

-- they rise
pub row_rises : (file : List ℕ) (ss : List Segment) → All (IsSound file) ss → IsRow ss → IsNonDecreasingBy (λ (s : Segment). s.addr) ss
row_rises file ss sound row i j d h m =
    ⊎_elim (λ e. let same : (get_or ss i d).addr ≡ (get_or ss j d).addr = ap (λ (k : ℕ). (get_or ss k d).addr) e in omega (arith, same))
    (λ n. let r = row i j d (omega (arith, n, h)) m in omega (arith, r))
    (cases_eq i j)

-- the first n segments, and no others, begin at an address or before it
abbrev pub IsPoint : List Segment → ℕ → ℕ → Type 0
IsPoint ss q n = IsPartitionPoint (λ (s : Segment). leb s.addr q ≡ true) (λ (s : Segment). leb s.addr q ≡ false) ss n

-- none begins so early
pub none_begun : (ss : List Segment) (q n : ℕ) → IsPoint ss q n → n ≡ 0 → All (λ s. ¬ Covers s q) ss
none_begun ss q n point e k d h c =
    let later = leb-false (get_or ss k d).addr q (point.1 k d (omega (arith, e)) h) in let early = c.0 in omega (arith, later, early)

-- the last one that does
pub last_begun : (ss : List Segment) (q n : ℕ) (d : Segment) → IsPoint ss q n → 0 < n → (get_or ss (n - 1) d).addr ≤ q
last_begun ss q n d point h = leb-true (get_or ss (n - 1) d).addr q (point.0 (n - 1) d (omega arith) (omega (arith, h)))

-- it ends too early
pub ended : (ss : List Segment) (q n : ℕ) (d : Segment) → IsRow ss → IsPoint ss q n → 0 < n → n ≤ length ss → (get_or ss (n - 1) d).addr ≤ q → (get_or ss (n - 1) d).size ≤ q - (get_or ss (n - 1) d).addr → All (λ s. ¬ Covers s q) ss
ended ss q n d row point some within begun over k e h c =
    let s = get_or ss (n - 1) d in
    let last : end s ≤ q = omega (arith, begun, over) in
    ⊎_elim (λ l.
    let r = row k (n - 1) e l (omega (arith, some, within)) in
    let same : (get_or ss (n - 1) e).addr ≡ s.addr = ap (λ (x : Segment). x.addr) (get_or_default ss (n - 1) e d (omega (arith, some, within))) in
    let stop = c.1 in omega (arith, r, same, stop, begun))
    (λ m. ⊎_elim
    (λ f.
    let stop = c.1 in
    let same : end (get_or ss k e) ≡ end s = ap (λ (i : ℕ). end (get_or ss i e)) f ∙ ap (λ (x : Segment). end x) (get_or_default ss (n - 1) e d (omega (arith, some, within))) in
    omega (arith, same, stop, last))
    (λ f.
    let later = leb-false (get_or ss k e).addr q (point.1 k e (omega (arith, m, f)) h) in let early = c.0 in omega (arith, later, early))
    (cases_eq k (n - 1)))
    (cases_lt k (n - 1))

-- it has the address
pub held : (file : List ℕ) (ss : List Segment) (q n : ℕ) (d : Segment) → All (IsSound file) ss → IsRow ss → 0 < n → n ≤ length ss → (get_or ss (n - 1) d).addr ≤ q → q - (get_or ss (n - 1) d).addr < (get_or ss (n - 1) d).size → get (memory_of file ss) q ≡ Some (byte_of file (get_or ss (n - 1) d) q)
held file ss q n d sound row some within begun inside =
    something file ss (get_or ss (n - 1) d) q sound (row_apart ss row) (Contains-get_or ss (n - 1) d (omega (arith, some, within))) (begun, omega (arith, begun, inside))
