-- The test says what it is to say.
use Rattle.std.proofs.Common.{◌≡◌, ◌≢◌, ◌↔◌, ℕ, zero, suc, ◌+◌, ◌%◌, ◌<◌, ◌==◌, Bool, true, false, ◌&&◌, ◌||◌, not, List, [], ◌∷◌, All, AllPairs, Contains, length, refl, ap, sym, ◌∙◌, subst, inl, inr, arith, codes, bytes_eq, nat_eq, is_some, Option, Some, None, map, drop, get_or, drop-cons, add-one}
use Rattle.std.specs.Prelude.{if◌then◌else◌}
use Rattle.std.specs.Option.{option_map_or}
use Rattle.std.specs.List.{cons_option, list_any, slice_index_or}
use Rattle.std.proofs.lemmas.Bool.{false≢true, and_parts, and_from, eqb-true, eq-eqb, ne_eqb, not-true, not_from_false}
use Rattle.std.proofs.lemmas.List.Folds.{list_any_at, list_any_none}
use Rattle.std.proofs.lemmas.List.Kept.{AllPairs-cons}
use Rattle.std.proofs.lemmas.Slice.Eq.{bytes_eq-Decides}
use Rattle.lex_core.specs.declared.name.RegDecl.{RegDecl}
use Rattle.sail_syntax.specs.Program.{Definition, register_of, registers_of}
use Rattle.sail_syntax.specs.View.{definition_of}
use Rattle.sail_syntax.specs.declared.definitions.Def.{Def}
use Rattle.state_core.specs.declared.word.Word.{Word}
use Rattle.trace_words.specs.Given.{GivenSaid}
use Rattle.trace_words.specs.Trace.{TraceSaid}
use Rattle.type_rules.specs.Program.{instr16_of}
use Rattle.trace_answer.specs.Fits.{Fits, IsFetched, given_fits, givens_fit, is_declared, is_fetched, same_register, wanted, words_fit}

-- ---- the word

fetched_by : (short : Bool) (w : Word) (two four long : Bool) → (w.bytes == 2) ≡ two → (w.bytes == 4) ≡ four → (w.bits % 4 == 3) ≡ long
    → (if two then short && not long else (four && (not short || long))) ≡ true → IsFetched short w
fetched_by true w true four false p q r h = inl (eqb-true w.bytes 2 p, λ e. false≢true (sym r ∙ eq-eqb (w.bits % 4) 3 e))
fetched_by true w true four true p q r h = absurd (cc)
fetched_by true w false true true p q r h = inr (eqb-true w.bytes 4 q, eqb-true (w.bits % 4) 3 r)
fetched_by true w false true false p q r h = absurd (cc)
fetched_by true w false false long p q r h = absurd (cc)
fetched_by false w true four long p q r h = absurd (cc)
fetched_by false w false true long p q r h = eqb-true w.bytes 4 q
fetched_by false w false false long p q r h = absurd (cc)

fetched_sound : (short : Bool) (w : Word) → is_fetched short w ≡ true → IsFetched short w
fetched_sound short w h = fetched_by short w (w.bytes == 2) (w.bytes == 4) (w.bits % 4 == 3) refl refl refl h

abbrev test : Bool → ℕ → Bool → Bool
test short n long = if n == 2 then short && not long else (n == 4 && (not short || long))

fetched_complete : (short : Bool) (w : Word) → IsFetched short w → is_fetched short w ≡ true
fetched_complete false w h = ap (λ n. test false n (w.bits % 4 == 3)) h
fetched_complete true w (inl h) = ap (λ n. test true n (w.bits % 4 == 3)) h.0 ∙ ap not (ne_eqb (w.bits % 4) 3 h.1)
fetched_complete true w (inr h) = ap (λ n. test true n (w.bits % 4 == 3)) h.0 ∙ eq-eqb (w.bits % 4) 3 h.1

-- ---- one register

same_sound : (g : GivenSaid) (r : RegDecl) → same_register g r ≡ true → r ≡ wanted g
same_sound g r h =
    let parts = and_parts (bytes_eq r.name g.name) (nat_eq r.width g.bits.width) h in
    ap (λ (x : List ℕ). record { name = x; width = r.width }) ((bytes_eq-Decides r.name g.name).0 parts.0)
    ∙ ap (λ (w : ℕ). record { name = g.name; width = w }) (eqb-true r.width g.bits.width parts.1)

same_wanted : (g : GivenSaid) → same_register g (wanted g) ≡ true
same_wanted g = and_from _ _ ((bytes_eq-Decides g.name g.name).1 refl) (eq-eqb g.bits.width g.bits.width refl)

-- a declaration that the test finds is there
declared_by : (regs : List RegDecl) (g : GivenSaid) (r : RegDecl) (found : Bool) → same_register g r ≡ found → (is_declared regs g ≡ true → Contains regs (wanted g))
    → (found || is_declared regs g) ≡ true → Contains (r ∷ regs) (wanted g)
declared_by regs g r true is rest h = (0, omega arith, same_sound g r is)
declared_by regs g r false is rest h = let k = rest h in (suc k.0, omega (arith, k.1), k.2)

declared_sound : (regs : List RegDecl) (g : GivenSaid) → is_declared regs g ≡ true → Contains regs (wanted g)
declared_sound [] g h = absurd (false≢true h)
declared_sound (r ∷ regs) g h = declared_by regs g r (same_register g r) refl (declared_sound regs g) h

declared_complete : (regs : List RegDecl) (g : GivenSaid) → Contains regs (wanted g) → is_declared regs g ≡ true
declared_complete regs g h = list_any_at (same_register g) regs h.0 (wanted g) h.1 (ap (same_register g) h.2 ∙ same_wanted g)

-- what is assumed of one register fits
record GivenFits (regs : List RegDecl) (g : GivenSaid) (rest : List GivenSaid) : Type 0 where
  no_pc : g.name ≢ codes "PC"
  declared : Contains regs (wanted g)
  alone : All (λ h. h.name ≢ g.name) rest

-- two names differ
differ : (x y : List ℕ) → x ≢ y → not (bytes_eq x y) ≡ true
differ x y apart = by (bytes_eq x y) refl
  where
    by : (b : Bool) → bytes_eq x y ≡ b → not b ≡ true
    by true e = absurd (apart ((bytes_eq-Decides x y).0 e))
    by false e = refl

-- none of these names it
alone_sound : (g : GivenSaid) (rest : List GivenSaid) → list_any (λ h. bytes_eq h.name g.name) rest ≡ false → All (λ h. h.name ≢ g.name) rest
alone_sound g rest none = λ k d lt e.
    false≢true (sym none ∙ list_any_at (λ h. bytes_eq h.name g.name) rest k d lt ((bytes_eq-Decides (slice_index_or rest k d).name g.name).1 e))

alone_complete : (g : GivenSaid) (rest : List GivenSaid) → All (λ h. h.name ≢ g.name) rest → list_any (λ h. bytes_eq h.name g.name) rest ≡ false
alone_complete g rest all = list_any_none (λ h. bytes_eq h.name g.name) rest (λ k d lt. not-true _ (differ (slice_index_or rest k d).name g.name (all k d lt)))

given_sound : (regs : List RegDecl) (g : GivenSaid) (rest : List GivenSaid) → given_fits regs g rest ≡ true → GivenFits regs g rest
given_sound regs g rest h =
    let upper = and_parts (not (bytes_eq g.name (codes "PC")) && is_declared regs g) (not (list_any (λ h. bytes_eq h.name g.name) rest)) h in
    let lower = and_parts (not (bytes_eq g.name (codes "PC"))) (is_declared regs g) upper.0 in
    record {
      no_pc = λ e. false≢true (sym (not-true (bytes_eq g.name (codes "PC")) lower.0) ∙ (bytes_eq-Decides g.name (codes "PC")).1 e);
      declared = declared_sound regs g lower.1;
      alone = alone_sound g rest (not-true (list_any (λ h. bytes_eq h.name g.name) rest) upper.1);
    }

given_complete : (regs : List RegDecl) (g : GivenSaid) (rest : List GivenSaid) → GivenFits regs g rest → given_fits regs g rest ≡ true
given_complete regs g rest h =
    and_from _ _ (and_from _ _ (differ g.name (codes "PC") h.no_pc) (declared_complete regs g h.declared)) (not_from_false _ (alone_complete g rest h.alone))

-- ---- all of them

record GivensFit (regs : List RegDecl) (given : List GivenSaid) : Type 0 where
  no_pc : All (λ g. g.name ≢ codes "PC") given
  declared : All (λ g. Contains regs (wanted g)) given
  once : AllPairs (λ g h. h.name ≢ g.name) given

All-from_parts : {X : Type 0} (P : X → Type 0) (x : X) (xs : List X) → P x → All P xs → All P (x ∷ xs)
All-from_parts P x xs p all zero d lt = p
All-from_parts P x xs p all (suc k) d lt = all k d (omega arith)

givens_sound : (regs : List RegDecl) (given : List GivenSaid) → givens_fit regs given ≡ true → GivensFit regs given
givens_sound regs [] h = record { no_pc = λ k d lt. absurd (omega arith); declared = λ k d lt. absurd (omega arith); once = λ i j d lt in_list. absurd (omega arith) }
givens_sound regs (g ∷ rest) h =
    let parts = and_parts (given_fits regs g rest) (givens_fit regs rest) h in
    let one = given_sound regs g rest parts.0 in
    let others = givens_sound regs rest parts.1 in
    record {
      no_pc = All-from_parts (λ g. g.name ≢ codes "PC") g rest one.no_pc others.no_pc;
      declared = All-from_parts (λ g. Contains regs (wanted g)) g rest one.declared others.declared;
      once = AllPairs-cons (λ g h. h.name ≢ g.name) g rest one.alone others.once;
    }

givens_complete : (regs : List RegDecl) (given : List GivenSaid) → GivensFit regs given → givens_fit regs given ≡ true
givens_complete regs [] h = refl
givens_complete regs (g ∷ rest) h =
    and_from _ _
    (given_complete regs g rest (record {
      no_pc = h.no_pc 0 g (omega arith);
      declared = h.declared 0 g (omega arith);
      alone = λ k d lt. h.once 0 (suc k) d (omega arith) (omega arith);
    }))
    (givens_complete regs rest (record {
      no_pc = λ k d lt. h.no_pc (suc k) d (omega arith);
      declared = λ k d lt. h.declared (suc k) d (omega arith);
      once = λ i j d lt in_list. h.once (suc i) (suc j) d (omega arith) (omega arith);
    }))

-- ---- the words

fits_sound : (defs : List Definition) (said : TraceSaid) → words_fit defs said ≡ true → Fits defs said
fits_sound defs said h =
    let parts = and_parts (is_fetched (is_some (instr16_of defs)) said.opcode) (givens_fit (registers_of defs) said.given) h in
    let given = givens_sound (registers_of defs) said.given parts.1 in
    record { fetched = fetched_sound (is_some (instr16_of defs)) said.opcode parts.0; declared = given.declared; no_pc = given.no_pc; once = given.once }

fits_complete : (defs : List Definition) (said : TraceSaid) → Fits defs said → words_fit defs said ≡ true
fits_complete defs said h =
    and_from _ _ (fetched_complete (is_some (instr16_of defs)) said.opcode h.fetched)
    (givens_complete (registers_of defs) said.given (record { no_pc = h.no_pc; declared = h.declared; once = h.once }))

-- the same of what the code answers
pub answer_fits : (b : Bool) (defs : List Definition) (said : TraceSaid) → b ≡ words_fit defs said → (b ≡ true) ↔ Fits defs said
answer_fits b defs said is = (λ t. fits_sound defs said (sym is ∙ t), λ h. is ∙ fits_complete defs said h)

-- ---- one step of a search

any_cons : (p : RegDecl → Bool) (o : Option RegDecl) (rest : List RegDecl) → list_any p (cons_option o rest) ≡ (option_map_or p o false || list_any p rest)
any_cons p None rest = refl
any_cons p (Some r) rest = refl

-- the definition at a place, and those behind it
pub from_place : (defs : List Def) (i : ℕ) (d : Def) (g : GivenSaid) → i < length defs → d ≡ get_or defs i d
    → is_declared (registers_of (map definition_of (drop i defs))) g ≡ (option_map_or (same_register g) (register_of (definition_of d)) false || is_declared (registers_of (map definition_of (drop (i + 1) defs))) g)
from_place defs i d g inside is =
    ap (λ ds. is_declared (registers_of (map definition_of ds)) g) (drop-cons defs i d inside ∙ ap (λ h. h ∷ drop (suc i) defs) (sym is))
    ∙ any_cons (same_register g) (register_of (definition_of d)) (registers_of (map definition_of (drop (suc i) defs)))
    ∙ ap (λ k. option_map_or (same_register g) (register_of (definition_of d)) false || is_declared (registers_of (map definition_of (drop k defs))) g) (sym (add-one i))
