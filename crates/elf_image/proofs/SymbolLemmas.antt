-- Names and symbols.
use Rattle.std.proofs.Common.{◌≡◌, ◌≢◌, ℕ, zero, suc, ◌+◌, ◌-◌, ◌*◌, ◌<◌, ◌≤◌, ◌⊎◌, inl, inr, ⊎_elim, Bool, true, false, ◌&&◌, cond, eqb, List, [], ◌∷◌, ◌++◌, length, get_or, take, drop, refl, sym, ap, ◌∙◌, arith, subst, Some, None, Option, append_assoc}
use Rattle.std.specs.Prelude.{All, bytes_eq, option_map}
use Rattle.std.specs.List.{filter_map, range_with_len, flat_map, cons_option}
use Rattle.std.proofs.lemmas.Bool.{cases_Bool, cond-true, cond-false, and_left, and_right, ne_eqb, eqb-true, eqb-false}
use Rattle.std.proofs.lemmas.List.Elements.{All-head, All-tail}
use Rattle.elf_image.specs.declared.symbols.Table.{Table}
use Rattle.elf_image.specs.Fields.{st_name, st_value}
use Rattle.elf_image.specs.Symbols.{Symbol, name_in, names_of, symbol_at, symbols_in, table_of, value_of, is_name}

-- ---- names

abbrev pub IsWhole : List ℕ → Type 0
IsWhole name = All (λ b. b ≢ 0) name

more_name : (a : ℕ) (name : List ℕ) (b : ℕ) (o : Option (List ℕ)) → is_name (a ∷ name) (option_map (λ found. b ∷ found) o) ≡ (eqb a b && is_name name o)
more_name a name b None = sym (and_right (eqb a b) false refl)
more_name a name b (Some found) = refl

-- what is found begins with the first byte that isn't zero
step : (name : List ℕ) (b : ℕ) (bytes : List ℕ) → eqb b 0 ≡ false → is_name name (name_in (b ∷ bytes)) ≡ is_name name (option_map (λ found. b ∷ found) (name_in bytes))
step name b bytes h = ap (is_name name) (cond-false (eqb b 0) (Some []) (option_map (λ found. b ∷ found) (name_in bytes)) h)

stop : (name : List ℕ) (b : ℕ) (bytes : List ℕ) → eqb b 0 ≡ true → is_name name (name_in (b ∷ bytes)) ≡ bytes_eq name []
stop name b bytes h = ap (is_name name) (cond-true (eqb b 0) (Some []) (option_map (λ found. b ∷ found) (name_in bytes)) h)

begins : (b : ℕ) (o : Option (List ℕ)) → is_name [] (option_map (λ found. b ∷ found) o) ≡ false
begins b None = refl
begins b (Some found) = refl

-- too few bytes
pub too_few : (name rest : List ℕ) → length rest ≤ length name → is_name name (name_in rest) ≡ false
too_few name [] h = refl
too_few [] (b ∷ bytes) h = absurd (omega (arith, h))
too_few (a ∷ name) (b ∷ bytes) h =
    ⊎_elim (λ z. stop (a ∷ name) b bytes z)
    (λ n. step (a ∷ name) b bytes n ∙ more_name a name b (name_in bytes) ∙ and_right (eqb a b) _ (too_few name bytes (omega (arith, h))))
    (cases_Bool (eqb b 0))

-- the byte behind isn't zero
pub goes_on : (name rest : List ℕ) → IsWhole name → length name < length rest → get_or rest (length name) 0 ≢ 0 → is_name name (name_in rest) ≡ false
goes_on name [] whole h n = absurd (omega (arith, h))
goes_on [] (b ∷ bytes) whole h n = step [] b bytes (ne_eqb b 0 n) ∙ begins b (name_in bytes)
goes_on (a ∷ name) (b ∷ bytes) whole h n =
    ⊎_elim (λ z. stop (a ∷ name) b bytes z)
    (λ m. step (a ∷ name) b bytes m ∙ more_name a name b (name_in bytes) ∙ and_right (eqb a b) _ (goes_on name bytes (All-tail (λ x. x ≢ 0) a name whole) (omega (arith, h)) n))
    (cases_Bool (eqb b 0))

-- the byte behind is zero
pub ends : (name rest : List ℕ) → IsWhole name → length name < length rest → get_or rest (length name) 0 ≡ 0 → is_name name (name_in rest) ≡ bytes_eq name (take (length name) rest)
ends name [] whole h n = absurd (omega (arith, h))
ends [] (b ∷ bytes) whole h n = ap (λ (x : ℕ). is_name [] (name_in (x ∷ bytes))) n
ends (a ∷ name) (b ∷ bytes) whole h n =
    ⊎_elim
    (λ z.
    let is = eqb-true b 0 z in
    let first = All-head (λ x. x ≢ 0) a name whole in
    stop (a ∷ name) b bytes z ∙ sym (and_left (eqb a b) (bytes_eq name (take (length name) bytes)) (ne_eqb a b (λ e. first (e ∙ is)))))
    (λ m. step (a ∷ name) b bytes m ∙ more_name a name b (name_in bytes) ∙ ap (λ (t : Bool). eqb a b && t) (ends name bytes (All-tail (λ x. x ≢ 0) a name whole) (omega (arith, h)) n))
    (cases_Bool (eqb b 0))

-- a text with a zero is no name
pub never : (name rest : List ℕ) (k : ℕ) → get_or name k 1 ≡ 0 → is_name name (name_in rest) ≡ false
never [] rest k h = absurd (omega (arith, h))
never (a ∷ name) [] k h = refl
never (a ∷ name) (b ∷ bytes) zero h =
    ⊎_elim (λ z. stop (a ∷ name) b bytes z)
    (λ m. step (a ∷ name) b bytes m ∙ more_name a name b (name_in bytes)
    ∙ and_left (eqb a b) _ (ne_eqb a b (λ e. eqb-false b 0 m (sym e ∙ h))))
    (cases_Bool (eqb b 0))
never (a ∷ name) (b ∷ bytes) (suc k) h =
    ⊎_elim (λ z. stop (a ∷ name) b bytes z)
    (λ m. step (a ∷ name) b bytes m ∙ more_name a name b (name_in bytes) ∙ and_right (eqb a b) _ (never name bytes k h))
    (cases_Bool (eqb b 0))

-- ---- symbols

-- where symbol number i of a table stands
abbrev pub place : Table → ℕ → ℕ
place t i = t.at + 24 * i

-- the bytes in which the name of symbol number i of a table is looked for
abbrev pub name_bytes : List ℕ → Table → ℕ → List ℕ
name_bytes file t i = drop (st_name file (place t i)) (names_of file t)

first_value : (name : List ℕ) (v : ℕ) (o : Option (List ℕ)) (ss : List Symbol) → value_of name (cons_option (option_map (λ found. (found, v)) o) ss) ≡ cond (is_name name o) (Some v) (value_of name ss)
first_value name v None ss = refl
first_value name v (Some found) ss = refl

pub value_cons : (file : List ℕ) (t : Table) (name : List ℕ) (i : ℕ) (ks : List ℕ) → value_of name (filter_map (symbol_at file t) (i ∷ ks)) ≡ cond (is_name name (name_in (name_bytes file t i))) (Some (st_value file (place t i))) (value_of name (filter_map (symbol_at file t) ks))
value_cons file t name i ks = first_value name (st_value file (place t i)) (name_in (name_bytes file t i)) (filter_map (symbol_at file t) ks)

pub range_more : (i n : ℕ) → i < n → range_with_len i (n - i) ≡ i ∷ range_with_len (i + 1) (n - (i + 1))
range_more i n h = let e : n - i ≡ suc (n - (i + 1)) = omega arith in ap (range_with_len i) e

pub value_more : (file : List ℕ) (t : Table) (name : List ℕ) (i n : ℕ) → i < n → value_of name (filter_map (symbol_at file t) (range_with_len i (n - i))) ≡ cond (is_name name (name_in (name_bytes file t i))) (Some (st_value file (place t i))) (value_of name (filter_map (symbol_at file t) (range_with_len (i + 1) (n - (i + 1)))))
value_more file t name i n h = ap (λ (ks : List ℕ). value_of name (filter_map (symbol_at file t) ks)) (range_more i n h) ∙ value_cons file t name i (range_with_len (i + 1) (n - (i + 1)))

-- a text with a zero has no value
never_among : (file : List ℕ) (t : Table) (name : List ℕ) (k : ℕ) (ks : List ℕ) → get_or name k 1 ≡ 0 → value_of name (filter_map (symbol_at file t) ks) ≡ None
never_among file t name k [] h = refl
never_among file t name k (i ∷ ks) h = value_cons file t name i ks ∙ cond-false _ _ _ (never name (name_bytes file t i) k h) ∙ never_among file t name k ks h

-- of two lists, the first has none
pub value_later : (name : List ℕ) (xs ys : List Symbol) → value_of name xs ≡ None → value_of name (xs ++ ys) ≡ value_of name ys
value_later name [] ys h = refl
value_later name (s ∷ xs) ys h =
    ⊎_elim (λ b. let is = sym (cond-true (bytes_eq name s.0) (Some s.1) (value_of name xs) b) ∙ h in cc)
    (λ b. cond-false (bytes_eq name s.0) (Some s.1) (value_of name (xs ++ ys)) b ∙ value_later name xs ys (sym (cond-false (bytes_eq name s.0) (Some s.1) (value_of name xs) b) ∙ h))
    (cases_Bool (bytes_eq name s.0))

-- of two lists, the first has one
pub value_earlier : (name : List ℕ) (v : ℕ) (xs ys : List Symbol) → value_of name xs ≡ Some v → value_of name (xs ++ ys) ≡ Some v
value_earlier name v [] ys h = cc
value_earlier name v (s ∷ xs) ys h =
    ⊎_elim (λ b. cond-true (bytes_eq name s.0) (Some s.1) (value_of name (xs ++ ys)) b ∙ sym (cond-true (bytes_eq name s.0) (Some s.1) (value_of name xs) b) ∙ h)
    (λ b. cond-false (bytes_eq name s.0) (Some s.1) (value_of name (xs ++ ys)) b ∙ value_earlier name v xs ys (sym (cond-false (bytes_eq name s.0) (Some s.1) (value_of name xs) b) ∙ h))
    (cases_Bool (bytes_eq name s.0))

pub never_valued : (file : List ℕ) (ts : List Table) (name : List ℕ) (k : ℕ) → get_or name k 1 ≡ 0 → value_of name (flat_map (symbols_in file) ts) ≡ None
never_valued file [] name k h = refl
never_valued file (t ∷ ts) name k h = value_later name (symbols_in file t) (flat_map (symbols_in file) ts) (never_among file t name k (range_with_len 0 t.count) h) ∙ never_valued file ts name k h

-- ---- tables

pub table_none : (file : List ℕ) (xs : List Table) (i n : ℕ) → i < n → table_of file i ≡ None → xs ++ filter_map (table_of file) (range_with_len (i + 1) (n - (i + 1))) ≡ xs ++ filter_map (table_of file) (range_with_len i (n - i))
table_none file xs i n h e =
    sym (ap (λ (ks : List ℕ). xs ++ filter_map (table_of file) ks) (range_more i n h) ∙ ap (λ (o : Option Table). xs ++ cons_option o (filter_map (table_of file) (range_with_len (i + 1) (n - (i + 1))))) e)

pub table_some : (file : List ℕ) (xs : List Table) (t : Table) (i n : ℕ) → i < n → table_of file i ≡ Some t → (xs ++ t ∷ []) ++ filter_map (table_of file) (range_with_len (i + 1) (n - (i + 1))) ≡ xs ++ filter_map (table_of file) (range_with_len i (n - i))
table_some file xs t i n h e =
    append_assoc xs (t ∷ []) (filter_map (table_of file) (range_with_len (i + 1) (n - (i + 1))))
    ∙ sym (ap (λ (ks : List ℕ). xs ++ filter_map (table_of file) ks) (range_more i n h) ∙ ap (λ (o : Option Table). xs ++ cons_option o (filter_map (table_of file) (range_with_len (i + 1) (n - (i + 1))))) e)
