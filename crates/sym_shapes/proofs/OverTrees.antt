-- Trees whose events keep the rules: joining, forks, names, memory and the prelude.
use Rattle.std.proofs.Common.{◌≡◌, ◌≢◌, ◌⊎◌, ℕ, zero, suc, ◌+◌, ◌*◌, ◌<◌, ◌≤◌, Bool, true, false, ◌&&◌, List, [], ◌∷◌, ◌++◌, length, get_or, Option, Some, None, nat_eq, eqb-true, refl, sym, ap, ◌∙◌, subst, inl, inr, arith, Contains, length-append}
use Rattle.std.specs.Prelude.{⊤, if◌then◌else◌, slice_get, is_some}
use Rattle.std.proofs.lemmas.Bool.{and_parts}
use Rattle.bv_bits.specs.declared.Bits.{Bits}
use Rattle.bv_bits.specs.declared.Op.TheVariants as op
use Rattle.bv_bits.specs.Bits.{IsBits, IsWidth}
use Rattle.lex_core.specs.declared.name.RegDecl.{RegDecl}
use Rattle.sail_syntax.specs.Tree.{Text}
use Rattle.sail_names.specs.declared.things.Given.{Given}
use Rattle.sail_names.specs.declared.things.Given.TheVariants as given
use Rattle.sail_names.specs.declared.things.Thing.{Thing}
use Rattle.sail_names.specs.declared.things.Thing.TheVariants as thing
use Rattle.term_tree.specs.Terms.{Tree, lit, var, one, two, three, sel, width_of}
use Rattle.term_rules.specs.Shapes.{literal_of}
use Rattle.term_make.specs.Making.{make}
use Rattle.term_arena.specs.Said.{Answer, Answers, Refuses}
use Rattle.trace_plain.specs.declared.trace.FailKind.{FailKind}
use Rattle.trace_plain.specs.declared.trace.FailKind.TheVariants as failure
use Rattle.trace_plain.specs.Trace.{Event, read_reg, write_reg, read_mem, write_mem, assume, need, assume_reg}
use Rattle.trace_plain.specs.Terms.{OfEvent}
use Rattle.trace_plain.specs.Rules.{var_name, IsByteCount, register_width, IsBound, KeepsRules, bound_behind}
use Rattle.sym_rules.specs.Values.{SymValue, sym_unit, sym_truth, sym_bits, sym_member, SymLocal, sym_is, SymSlot, SymPath, SymSetting, entry_of, sym_look, sym_has, sym_put}
use Rattle.sym_rules.specs.Trees.{SymTree, leaf, naming, on, split, fails, onto, Leaf, SymMeaning, sym_pure, sym_fails, with_locals, Telling, told_answer, told, both, forked, fork}
use Rattle.sym_rules.specs.Operators.{sym_nth, known_truth, sym_operate, sym_choose}
use Rattle.sym_rules.specs.Names.{sym_value_of, knows, next_variable, counts_on, width_at, bits_leaf, first_read, known_read, register_read, thing_read, name_read, sym_read, register_written, term_written, value_written, thing_written, name_written, sym_write}
use Rattle.sym_rules.specs.Prelude.{is_access, is_address_term, bytes_read, sym_read_bytes, bytes_written, vector_written, sym_write_bytes, sym_given_on, sym_compared, opposite_of}
use Rattle.sym_rules.specs.Sym.{needs, asserted_bit, asserted}
use Rattle.sail_names.specs.Things.{find_thing}
use Rattle.sym_follows.proofs.Agree.{entry_cases}
use Rattle.sym_follows.proofs.Things.{IfProper, AreProper, found_proper}
use Rattle.sym_shapes.specs.Shapes.{AreAssumptions, IsMadeTerm}
use Rattle.sym_shapes.proofs.Over.{IsOver, IsBitOver, IsValueOver, Says, Extends, extends_none, extends_trans, extends_one, over_more, value_more, fits_of, literal_over, operate_over, known_over, opposite_made_over, opposite_over, compared_over}
use Rattle.sym_shapes.proofs.OverParts.{AreOver, are_more, IsOverIf, look_over, put_over, value_of_over}

-- ---- paths

-- a path whose terms are over bound variables, of which it has as many
pub record IsPathOver (bound : List ℕ) (p : SymPath) : Type 0 where
  pub locals : AreOver bound p.locals
  pub known : (r : ℕ) (t : Tree) → entry_of r p.known ≡ Some t → IsOver bound t
  pub counted : p.count ≡ length bound

pub path_locals : {bound : List ℕ} {p : SymPath} (ss : List SymSlot) → AreOver bound ss → IsPathOver bound p → IsPathOver bound (with_locals ss p)
path_locals ss h k = record { locals = h; known = k.known; counted = k.counted }

path_knows : {bound : List ℕ} {p : SymPath} (r : ℕ) (t : Tree) → IsOver bound t → IsPathOver bound p → IsPathOver bound (knows r t p)
path_knows {bound} {p} r t h k = record { locals = k.locals; known = λ i u e. step i u (entry_cases r i t u p.known e); counted = k.counted }
  where
    step : (i : ℕ) (u : Tree) → ((r ≡ i) × (t ≡ u)) ⊎ ((r ≢ i) × (entry_of i p.known ≡ Some u)) → IsOver bound u
    step i u (inl y) = subst (IsOver bound) y.1 h
    step i u (inr n) = k.known i u n.1

-- one variable more
path_more : {bound : List ℕ} {p : SymPath} (w : ℕ) → IsPathOver bound p → IsPathOver (bound ++ w ∷ []) (counts_on p)
path_more {bound} {p} w k = record {
  locals = are_more (extends_one bound w) p.locals k.locals;
  known = λ r t e. over_more (extends_one bound w) t (k.known r t e);
  counted = omega (arith, k.counted, length-append bound (w ∷ []));
}

-- what a leaf carries, where further variables are bound
pub record IsLeafOver {S : Type 0} (V : List ℕ → S → Type 0) (bound more : List ℕ) (l : Leaf S) : Type 0 where
  pub extends : Extends bound more
  pub path : IsPathOver more l.path
  pub value : V more l.value

-- a function of the prelude whose access is of some bytes
abbrev pub IsHandled : Given → Type 0
IsHandled (given.Read n) = IsByteCount n
IsHandled (given.Write n) = IsByteCount n
IsHandled g = ⊤

-- the bits of so many bytes
pub bytes_wide : (n : ℕ) → IsByteCount n → IsWidth (8 * n)
bytes_wide n h = step h.0 h.1 h.2
  where
    step : (k : ℕ) → k < 5 → get_or (1 ∷ 2 ∷ 4 ∷ 8 ∷ 16 ∷ []) k n ≡ n → IsWidth (8 * n)
    step zero l e = record { positive = omega (arith, e); at_most = omega (arith, e) }
    step (suc zero) l e = record { positive = omega (arith, e); at_most = omega (arith, e) }
    step (suc (suc zero)) l e = record { positive = omega (arith, e); at_most = omega (arith, e) }
    step (suc (suc (suc zero))) l e = record { positive = omega (arith, e); at_most = omega (arith, e) }
    step (suc (suc (suc (suc zero)))) l e = record { positive = omega (arith, e); at_most = omega (arith, e) }
    step (suc (suc (suc (suc (suc k))))) l e = absurd (omega (arith, l))

-- ---- trees

module _ (registers : List RegDecl) where
  -- each event keeps the rules, and so it is of what paths come to, with the variables that are bound there
  abbrev pub KeepsTo : {L : Type 0} → (List ℕ → L → Type 0) → SymTree L → List ℕ → Type 0
  KeepsTo P (leaf l) bound = P bound l
  KeepsTo P (naming ms t) bound = KeepsTo P t bound
  KeepsTo P (on e t) bound = KeepsRules registers bound e × OfEvent IsMadeTerm e × KeepsTo P t (bound_behind registers bound e)
  KeepsTo P (split a b) bound = KeepsTo P a bound × KeepsTo P b bound
  KeepsTo P (fails k) bound = ⊤

  keeps_onto : {L M : Type 0} (P : List ℕ → L → Type 0) (Q : List ℕ → M → Type 0) (f : L → SymTree M) → ((bound : List ℕ) (l : L) → P bound l → KeepsTo Q (f l) bound)
      → (t : SymTree L) (bound : List ℕ) → KeepsTo P t bound → KeepsTo Q (onto t f) bound
  unfolding onto
  keeps_onto P Q f each (leaf l) bound h = each bound l h
  keeps_onto P Q f each (naming ms t) bound h = keeps_onto P Q f each t bound h
  keeps_onto P Q f each (on e t) bound h = (h.0, h.1, keeps_onto P Q f each t (bound_behind registers bound e) h.2)
  keeps_onto P Q f each (split a b) bound h = (keeps_onto P Q f each a bound h.0, keeps_onto P Q f each b bound h.1)
  keeps_onto P Q f each (fails k) bound h = tt

  keeps_map : {L : Type 0} (P Q : List ℕ → L → Type 0) → ((bound : List ℕ) (l : L) → P bound l → Q bound l) → (t : SymTree L) (bound : List ℕ) → KeepsTo P t bound → KeepsTo Q t bound
  keeps_map P Q each (leaf l) bound h = each bound l h
  keeps_map P Q each (naming ms t) bound h = keeps_map P Q each t bound h
  keeps_map P Q each (on e t) bound h = (h.0, h.1, keeps_map P Q each t (bound_behind registers bound e) h.2)
  keeps_map P Q each (split a b) bound h = (keeps_map P Q each a bound h.0, keeps_map P Q each b bound h.1)
  keeps_map P Q each (fails k) bound h = tt

  -- a tree keeps the rules where these variables are bound, and so it is of what its leaves carry
  pub record IsTreeOver {S : Type 0} (V : List ℕ → S → Type 0) (bound : List ℕ) (t : SymTree (Leaf S)) : Type 0 where
    pub is : KeepsTo (IsLeafOver V bound) t bound

  -- one tree after another
  pub on_over : {S T : Type 0} {V : List ℕ → S → Type 0} {W : List ℕ → T → Type 0} {bound : List ℕ} {t : SymTree (Leaf S)} {f : Leaf S → SymTree (Leaf T)} → IsTreeOver V bound t
      → ((more : List ℕ) (m : Leaf S) → Extends bound more → IsPathOver more m.path → V more m.value → IsTreeOver W more (f m)) → IsTreeOver W bound (onto t f)
  on_over {V} {W} {bound} {t} {f} h each = record {
    is = keeps_onto (IsLeafOver V bound) (IsLeafOver W bound) f
        (λ more m k. keeps_map (IsLeafOver W more) (IsLeafOver W bound) (λ last l q. record { extends = extends_trans k.extends q.extends; path = q.path; value = q.value }) (f m) more ((each more m k.extends k.path k.value).is))
        t bound h.is;
  }

  pub leaf_over : {S : Type 0} {V : List ℕ → S → Type 0} {bound : List ℕ} {s : S} {p : SymPath} → IsPathOver bound p → V bound s → IsTreeOver V bound (leaf (record { value = s; path = p }))
  leaf_over {bound} h k = record { is = record { extends = extends_none bound; path = h; value = k } }

  pub fails_over : {S : Type 0} {V : List ℕ → S → Type 0} {bound : List ℕ} (k : FailKind) → IsTreeOver V bound (fails k)
  fails_over k = record { is = tt }

  pub told_over : {S : Type 0} {V : List ℕ → S → Type 0} {bound : List ℕ} {p : SymPath} (s : Telling S) → IsPathOver bound p → Says (V bound) s.answer → IsTreeOver V bound (told s p)
  told_over {S} {V} {bound} {p} s h k = record { is = step s.answer k }
    where
      step : (r : Answer FailKind S) → Says (V bound) r → KeepsTo (IsLeafOver V bound) (told_answer r p) bound
      step (Answers y) k = record { extends = extends_none bound; path = h; value = k }
      step (Refuses why) k = tt

  -- a tree behind an event that binds nothing
  behind_event : {S : Type 0} {V : List ℕ → S → Type 0} {bound : List ℕ} {t : SymTree (Leaf S)} (e : Event) → KeepsRules registers bound e → OfEvent IsMadeTerm e → bound_behind registers bound e ≡ bound
      → IsTreeOver V bound t → IsTreeOver V bound (on e t)
  behind_event {V} {bound} {t} e h k same r = record { is = (h, k, subst (KeepsTo (IsLeafOver V bound) t) (sym same) r.is) }

  -- a tree behind an event that binds a variable
  behind_binding : {S : Type 0} {V : List ℕ → S → Type 0} {bound : List ℕ} {t : SymTree (Leaf S)} (e : Event) (w : ℕ) → KeepsRules registers bound e → OfEvent IsMadeTerm e → bound_behind registers bound e ≡ bound ++ w ∷ []
      → IsTreeOver V (bound ++ w ∷ []) t → IsTreeOver V bound (on e t)
  behind_binding {V} {bound} {t} e w h k same r = record {
    is = (
      h,
      k,
      subst (KeepsTo (IsLeafOver V bound) t) (sym same)
          (keeps_map (IsLeafOver V (bound ++ w ∷ [])) (IsLeafOver V bound) (λ last l q. record { extends = extends_trans (extends_one bound w) q.extends; path = q.path; value = q.value }) t (bound ++ w ∷ []) r.is),
    );
  }

  pub if_over : {S : Type 0} {V : List ℕ → S → Type 0} {bound : List ℕ} {p : SymPath} (c : Bool) (a b : SymMeaning S) → (c ≡ true → IsTreeOver V bound (a p)) → (c ≡ false → IsTreeOver V bound (b p)) → IsTreeOver V bound ((if c then a else b) p)
  if_over true a b h k = h refl
  if_over false a b h k = k refl

  made_term : {bound : List ℕ} {t : Tree} → IsOver bound t → IsMadeTerm t
  made_term h = record { typed = h.typed; no_division = h.whole }

  -- ---- forks

  pub fork_over : {S : Type 0} {V : List ℕ → S → Type 0} {bound : List ℕ} (t : Tree) (a b : SymTree (Leaf S)) → IsBitOver bound t → IsTreeOver V bound a → IsTreeOver V bound b → IsTreeOver V bound (forked (literal_of t) t a b)
  fork_over {S} {V} {bound} t a b h k m = step t h
    where
      taken : (c : Bool) → IsTreeOver V bound (if c then a else b)
      taken true = k
      taken false = m

      behind : (t : Tree) → IsBitOver bound t → IsTreeOver V bound (both t a b)
      behind t h =
          let o = opposite_made_over bound t h in
          record {
            is = (
              (behind_event (assume t) (fits_of bound 1 t h.over h.width) (made_term h.over) refl k).is,
              (behind_event (assume (make (one op.Not t)).it) (fits_of bound 1 (make (one op.Not t)).it o.over o.width) (made_term o.over) refl m).is,
            );
          }

      step : (t : Tree) → IsBitOver bound t → IsTreeOver V bound (forked (literal_of t) t a b)
      step (lit q) h = taken (nat_eq q.value 1)
      step (var y w) h = behind (var y w) h
      step (one f u) h = behind (one f u) h
      step (two f u v) h = behind (two f u v) h
      step (three f u v w) h = behind (three f u v w) h
      step (sel f u) h = behind (sel f u) h

  pub choose_over : {V : List ℕ → SymValue → Type 0} {bound : List ℕ} {p : SymPath} (s : SymValue) (a b : SymMeaning SymValue) → IsValueOver bound s → IsTreeOver V bound (a p) → IsTreeOver V bound (b p) → IsTreeOver V bound (sym_choose s a b p)
  choose_over {p} (sym_truth t) a b h k m = fork_over t (a p) (b p) h k m
  choose_over sym_unit a b h k m = m
  choose_over (sym_bits t) a b h k m = m
  choose_over (sym_member e i) a b h k m = m

  -- ---- asserts

  asserted_bit_over : {bound : List ℕ} {p : SymPath} (t : Tree) → IsPathOver bound p → IsBitOver bound t → IsTreeOver IsValueOver bound (asserted_bit (literal_of t) t p)
  asserted_bit_over {bound} {p} t h k = step t k
    where
      needed : (t : Tree) → IsBitOver bound t → IsTreeOver IsValueOver bound (needs t p)
      needed t k = behind_event (need t) (fits_of bound 1 t k.over k.width) (made_term k.over) refl (leaf_over h tt)

      step : (t : Tree) → IsBitOver bound t → IsTreeOver IsValueOver bound (asserted_bit (literal_of t) t p)
      step (lit q) k = if_over (nat_eq q.value 1) (sym_pure sym_unit) (sym_fails failure.Assert) (λ e. leaf_over h tt) (λ e. fails_over failure.Assert)
      step (var y w) k = needed (var y w) k
      step (one f u) k = needed (one f u) k
      step (two f u v) k = needed (two f u v) k
      step (three f u v w) k = needed (three f u v w) k
      step (sel f u) k = needed (sel f u) k

  pub asserted_over : {bound : List ℕ} {p : SymPath} (s : SymValue) → IsPathOver bound p → IsValueOver bound s → IsTreeOver IsValueOver bound (asserted s p)
  asserted_over (sym_truth t) h k = asserted_bit_over t h k
  asserted_over sym_unit h k = fails_over failure.Assert
  asserted_over (sym_bits t) h k = fails_over failure.Assert
  asserted_over (sym_member e i) h k = fails_over failure.Assert

  -- ---- variables

  last_found : (bound : List ℕ) (n w : ℕ) → n ≡ length bound → slice_get (bound ++ w ∷ []) n ≡ Some w
  last_found bound n w e = ap (slice_get (bound ++ w ∷ [])) e ∙ seam bound
    where
      seam : (xs : List ℕ) → slice_get (xs ++ w ∷ []) (length xs) ≡ Some w
      seam [] = refl
      seam (x ∷ xs) = seam xs

  variable_over : {bound : List ℕ} {p : SymPath} (w : ℕ) → IsWidth w → IsPathOver bound p → IsOver (bound ++ w ∷ []) (next_variable w p)
  variable_over {bound} {p} w h k = record { typed = h; whole = tt; variables = record { number = p.count; name = refl; width = last_found bound p.count w k.counted } }

  -- ---- registers

  -- the registers of a setting are these, and their widths are ones that there are
  pub record AreRegistersOf (here : SymSetting) : Type 0 where
    pub there : (r : ℕ) → r < length here.widths → register_width registers r ≡ Some (width_at here r)
    pub wide : (r : ℕ) → r < length here.widths → IsWidth (width_at here r)
    pub given : AreAssumptions registers here.given

  found_given : (given : List (ℕ × Bits)) (r : ℕ) (b : Bits) → AreAssumptions registers given → entry_of r given ≡ Some b → (register_width registers r ≡ Some b.width) × IsBits b
  found_given [] r b h e = absurd cc
  found_given (a ∷ rest) r b h e = step (nat_eq a.0 r) refl (found_given rest r b h.1) e
    where
      some_is : (a b : Bits) → Some a ≡ Some b → a ≡ b
      some_is a b e = cc

      step : (c : Bool) → nat_eq a.0 r ≡ c → (entry_of r rest ≡ Some b → (register_width registers r ≡ Some b.width) × IsBits b) → (if c then Some a.1 else entry_of r rest) ≡ Some b
          → (register_width registers r ≡ Some b.width) × IsBits b
      step true q other e =
          subst (λ b. (register_width registers r ≡ Some b.width) × IsBits b) (some_is a.1 b e) (subst (λ r. register_width registers r ≡ Some a.1.width) (eqb-true a.0 r q) h.0.0, h.0.1)
      step false q other e = other e

  module _ (here : SymSetting) (are : AreRegistersOf here) where
    assumed_over : {bound : List ℕ} {p : SymPath} (r : ℕ) (b : Bits) → entry_of r here.given ≡ Some b → IsPathOver bound p → IsTreeOver IsValueOver bound (first_read here r (Some b) p)
    assumed_over {bound} {p} r b e h =
        let k = found_given here.given r b are.given e in
        record { is = (behind_event {V = IsValueOver} {t = bits_leaf (lit b) (knows r (lit b) p)} (assume_reg r b) k tt refl (leaf_over (path_knows r (lit b) (literal_over bound b k.1) h) (literal_over bound b k.1))).is }

    -- what stands behind a read of a register
    behind_read : (bound : List ℕ) (r n w : ℕ) → register_width registers r ≡ Some w → bound_behind registers bound (read_reg r n) ≡ bound ++ w ∷ []
    behind_read bound r n w e = rw e refl

    fresh_over : {bound : List ℕ} {p : SymPath} (r : ℕ) → r < length here.widths → IsPathOver bound p → IsTreeOver IsValueOver bound (first_read here r None p)
    fresh_over {bound} {p} r low h =
        let w = width_at here r in
        let v = variable_over w (are.wide r low) h in
        record {
          is = (behind_binding {V = IsValueOver} {t = bits_leaf (next_variable w p) (knows r (next_variable w p) (counts_on p))} (read_reg r p.count) w (record { width = w; register = are.there r low; next = h.counted }) tt
              (behind_read bound r p.count w (are.there r low)) (leaf_over (path_knows r (next_variable w p) v (path_more w h)) v)).is;
        }

    first_over : {bound : List ℕ} {p : SymPath} (r : ℕ) (o : Option Bits) → entry_of r here.given ≡ o → r < length here.widths → IsPathOver bound p → IsTreeOver IsValueOver bound (first_read here r o p)
    first_over r (Some b) e low h = assumed_over r b e h
    first_over r None e low h = fresh_over r low h

    known_read_over : {bound : List ℕ} {p : SymPath} (r : ℕ) (o : Option Tree) → entry_of r p.known ≡ o → r < length here.widths → IsPathOver bound p → IsTreeOver IsValueOver bound (known_read here r o p)
    known_read_over r (Some t) e low h = leaf_over h (h.known r t e)
    known_read_over r None e low h = first_over r (entry_of r here.given) refl low h

    -- ---- reading

    thing_over : {bound : List ℕ} {p : SymPath} (o : Option Thing) → IfProper (length here.widths) o → IsPathOver bound p → IsTreeOver IsValueOver bound (thing_read here o p)
    thing_over {p} (Some (thing.Register r)) k h = known_read_over r (entry_of r p.known) refl k h
    thing_over (Some (thing.Member e i)) k h = leaf_over h tt
    thing_over (Some (thing.Given g)) k h = leaf_over h tt
    thing_over (Some (thing.Function i)) k h = leaf_over h tt
    thing_over None k h = leaf_over h tt

    pub read_over : {bound : List ℕ} {p : SymPath} (x : Text) → AreProper (length here.widths) here.things → IsPathOver bound p → IsTreeOver IsValueOver bound (sym_read here x p)
    read_over {bound} {p} x proper h = step (sym_look x p.locals) (look_over bound x p.locals h.locals)
      where
        step : (o : Option SymLocal) → IsOverIf bound o → IsTreeOver IsValueOver bound (name_read here o x p)
        step (Some l) k = leaf_over h (value_of_over bound l k)
        step None k = thing_over (find_thing x here.things) (found_proper (length here.widths) x here.things proper) h

    -- ---- writing

    written_over : {bound : List ℕ} {p : SymPath} (r : ℕ) (t : Tree) (o : Option Bits) → r < length here.widths → width_of t ≡ width_at here r → IsOver bound t → IsPathOver bound p → IsTreeOver IsValueOver bound (register_written r t o p)
    written_over r t (Some b) low e k h = fails_over failure.AssumedWritten
    written_over {bound} r t None low e k h =
        behind_event (write_reg r t) (record { width = width_at here r; register = are.there r low; term = fits_of bound (width_at here r) t k e }) (made_term k) refl (leaf_over (path_knows r t k h) tt)

    register_over : {bound : List ℕ} {p : SymPath} (r : ℕ) (s : SymValue) → r < length here.widths → IsValueOver bound s → IsPathOver bound p → IsTreeOver IsValueOver bound (value_written here r s p)
    register_over r (sym_bits t) low k h =
        if_over (nat_eq (width_of t) (width_at here r)) (register_written r t (entry_of r here.given)) (sym_pure sym_unit)
        (λ e. written_over r t (entry_of r here.given) low (eqb-true (width_of t) (width_at here r) e) k h) (λ e. leaf_over h tt)
    register_over r sym_unit low k h = leaf_over h tt
    register_over r (sym_truth t) low k h = leaf_over h tt
    register_over r (sym_member e i) low k h = leaf_over h tt

    assigned_over : {bound : List ℕ} {p : SymPath} (o : Option Thing) (s : SymValue) → IfProper (length here.widths) o → IsValueOver bound s → IsPathOver bound p → IsTreeOver IsValueOver bound (thing_written here o s p)
    assigned_over (Some (thing.Register r)) s low k h = register_over r s low k h
    assigned_over (Some (thing.Member e i)) s low k h = leaf_over h tt
    assigned_over (Some (thing.Given g)) s low k h = leaf_over h tt
    assigned_over (Some (thing.Function i)) s low k h = leaf_over h tt
    assigned_over None s low k h = leaf_over h tt

    pub write_over : {bound : List ℕ} {p : SymPath} (x : Text) (s : SymValue) → AreProper (length here.widths) here.things → IsValueOver bound s → IsPathOver bound p → IsTreeOver IsValueOver bound (sym_write here x s p)
    write_over {bound} {p} x s proper k h = step (sym_has x p.locals)
      where
        step : (c : Bool) → IsTreeOver IsValueOver bound (name_written here c x s p)
        step true = leaf_over (path_locals (sym_put x (sym_is s) p.locals) (put_over bound x s p.locals k h.locals) h) tt
        step false = assigned_over (find_thing x here.things) s (found_proper (length here.widths) x here.things proper) k h

  -- ---- memory

  bytes_read_over : {bound : List ℕ} {p : SymPath} (n : ℕ) (t : Tree) → IsByteCount n → width_of t ≡ 64 → IsOver bound t → IsPathOver bound p → IsTreeOver IsValueOver bound (bytes_read n t p)
  bytes_read_over {bound} {p} n t count e k h =
      let v = variable_over (8 * n) (bytes_wide n count) h in
      record {
        is = (behind_binding {V = IsValueOver} {t = bits_leaf (next_variable (8 * n) p) (counts_on p)} (read_mem p.count t n) (8 * n) (h.counted, fits_of bound 64 t k e, count) (made_term k) refl
            (leaf_over (path_more (8 * n) h) v)).is;
      }

  reads_over : {bound : List ℕ} {p : SymPath} (n : ℕ) (s : SymValue) → IsByteCount n → IsValueOver bound s → IsPathOver bound p → IsTreeOver IsValueOver bound (sym_read_bytes n s p)
  reads_over n (sym_bits t) count k h =
      if_over (is_access n && is_address_term t) (bytes_read n t) (sym_pure sym_unit)
      (λ e. bytes_read_over n t count (eqb-true (width_of t) 64 ((and_parts (is_access n) (is_address_term t) e).1)) k h) (λ e. leaf_over h tt)
  reads_over n sym_unit count k h = leaf_over h tt
  reads_over n (sym_truth t) count k h = leaf_over h tt
  reads_over n (sym_member e i) count k h = leaf_over h tt

  vector_over : {bound : List ℕ} {p : SymPath} (n : ℕ) (t : Tree) (s : SymValue) → IsByteCount n → IsOver bound t → IsValueOver bound s → IsPathOver bound p → IsTreeOver IsValueOver bound (vector_written n t s p)
  vector_over {bound} n t (sym_bits u) count j k h =
      if_over (is_access n && is_address_term t && nat_eq (width_of u) (8 * n)) (bytes_written n t u) (sym_pure sym_unit)
      (λ e. let q = and_parts (is_access n && is_address_term t) (nat_eq (width_of u) (8 * n)) e in
      behind_event (write_mem t u n) (fits_of bound 64 t j (eqb-true (width_of t) 64 ((and_parts (is_access n) (is_address_term t) q.0).1)), fits_of bound (8 * n) u k (eqb-true (width_of u) (8 * n) q.1), count)
      (made_term j, made_term k) refl (leaf_over h tt))
      (λ e. leaf_over h tt)
  vector_over n t sym_unit count j k h = leaf_over h tt
  vector_over n t (sym_truth u) count j k h = leaf_over h tt
  vector_over n t (sym_member e i) count j k h = leaf_over h tt

  writes_over : {bound : List ℕ} {p : SymPath} (n : ℕ) (s t : SymValue) → IsByteCount n → IsValueOver bound s → IsValueOver bound t → IsPathOver bound p → IsTreeOver IsValueOver bound (sym_write_bytes n s t p)
  writes_over n (sym_bits u) t count j k h = vector_over n u t count j k h
  writes_over n sym_unit t count j k h = leaf_over h tt
  writes_over n (sym_truth u) t count j k h = leaf_over h tt
  writes_over n (sym_member e i) t count j k h = leaf_over h tt

  -- ---- the prelude

  pub given_over : {bound : List ℕ} {p : SymPath} (g : Given) (s t : SymValue) → IsHandled g → IsValueOver bound s → IsValueOver bound t → IsPathOver bound p → IsTreeOver IsValueOver bound (sym_given_on g s t p)
  given_over (given.Read n) s t count j k h = reads_over n s count j h
  given_over (given.Write n) s t count j k h = writes_over n s t count j k h
  given_over {bound} given.Not s t count j k h = told_over (opposite_of s) h (opposite_over bound s j)
  given_over {bound} given.LtU s t count j k h = told_over (sym_compared op.ULt s t) h (compared_over bound op.ULt (λ m n. refl) refl s t j k)
  given_over {bound} given.LtS s t count j k h = told_over (sym_compared op.SLt s t) h (compared_over bound op.SLt (λ m n. refl) refl s t j k)
  given_over {bound} given.ShiftLeft s t count j k h = told_over (sym_operate op.Shl s t) h (operate_over bound op.Shl s t j k)
  given_over {bound} given.ShiftRight s t count j k h = told_over (sym_operate op.LShr s t) h (operate_over bound op.LShr s t j k)
  given_over {bound} given.ShiftRightArith s t count j k h = told_over (sym_operate op.AShr s t) h (operate_over bound op.AShr s t j k)
  given_over {bound} given.DivU s t count j k h = told_over (sym_operate op.UDiv s t) h (operate_over bound op.UDiv s t j k)
  given_over {bound} given.RemU s t count j k h = told_over (sym_operate op.URem s t) h (operate_over bound op.URem s t j k)
  given_over {bound} given.DivS s t count j k h = told_over (sym_operate op.SDiv s t) h (operate_over bound op.SDiv s t j k)
  given_over {bound} given.RemS s t count j k h = told_over (sym_operate op.SRem s t) h (operate_over bound op.SRem s t j k)
