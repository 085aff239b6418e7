-- A path agrees with locals and a state, now and however many variables come behind.
use Rattle.std.proofs.Common.{◌≡◌, ℕ, ◌+◌, ◌^◌, ◌<◌, ◌≤◌, ◌≢◌, Bool, true, false, ◌&&◌, List, [], ◌∷◌, ◌++◌, length, get_or, All, Option, Some, None, unwrap_or, nat_eq, bytes_eq, codes, eqb-true, eq-eqb, get_or-set_same, get_or-set_other, refl, sym, ap, ap₂, ◌∙◌, subst, arith, inl, inr, ⊎_elim, true≢false}
use Rattle.std.specs.Prelude.{◌⊎◌, if◌then◌else◌, map, find, slice_set, slice_index_or}
use Rattle.std.specs.Fmt.{decimal}
use Rattle.std.specs.Option.{option_map}
use Rattle.std.proofs.lemmas.Fmt.{decimal_injective}
use Rattle.std.proofs.lemmas.Bool.Decides.{eqb_tells}
use Rattle.std.proofs.lemmas.Bool.{and_parts}
use Rattle.std.proofs.lemmas.List.Elements.{All-set}
use Rattle.std.proofs.Math.Seq.{map-set_same}
use Rattle.bv_bits.specs.declared.Bits.{Bits}
use Rattle.bv_bits.specs.Bits.{IsBits, IsWidth, width_of as width_of_bits}
use Rattle.state_core.specs.State.{State, IsState, register_of, widths_of}
use Rattle.state_core.specs.World.{World}
use Rattle.term_tree.specs.Terms.{Text, Tree, lit, var, width_of, IsTyped}
use Rattle.term_tree.specs.Values.{Values, IsValues, value, first_bits, values_of}
use Rattle.term_tree.proofs.SameLemmas.{same_text, text_itself}
use Rattle.trace_plain.specs.Rules.{var_name}
use Rattle.trace_plain.specs.Following.{with_register}
use Rattle.sail_values.specs.declared.value.Slot.{Slot}
use Rattle.sym_rules.specs.Values.{SymSlot, SymPath, SymSetting, entry_of}
use Rattle.sym_rules.specs.Trees.{with_locals}
use Rattle.sym_rules.specs.Names.{knows, counts_on}
use Rattle.sym_follows.proofs.Parts.{slots_at, AreTypedSlots, SlotsAre}

-- what stands for bits
pub record TermIs (v : Values) (t : Tree) (b : Bits) : Type 0 where
  pub typed : IsTyped t
  pub same : value v t ≡ b

-- ---- values of variables

-- the values that a path has bound
abbrev pub values_at : List (Text × Bits) → Values
values_at vars = values_of (record { bits = vars; arrays = [] })

-- values that are the same at the first so many variables
pub record Later (count : ℕ) (u v : Values) : Type 0 where
  pub same : (i w : ℕ) → i < count → v.bits_of (var_name i) w ≡ u.bits_of (var_name i) w
  pub valid : IsValues v

pub later_refl : (n : ℕ) (u : Values) → IsValues u → Later n u u
later_refl n u h = record { same = λ i w k. refl; valid = h }

pub later_trans : {m n : ℕ} {u v w : Values} → Later m u v → m ≤ n → Later n v w → Later m u w
later_trans a le b = record { same = λ i k h. b.same i k (omega (arith, le, h)) ∙ a.same i k h; valid = b.valid }

-- the names of different variables differ
drop_v : (xs ys : List ℕ) → codes "v" ++ xs ≡ codes "v" ++ ys → xs ≡ ys
drop_v xs ys h = cc

names_differ : (i n : ℕ) → i < n → n < 2 ^ 64 → bytes_eq (var_name n) (var_name i) ≡ false
names_differ i n h k = step (bytes_eq (var_name n) (var_name i)) refl
  where
    step : (b : Bool) → bytes_eq (var_name n) (var_name i) ≡ b → b ≡ false
    step false e = refl
    step true e =
        let same : n ≡ i = decimal_injective n i k (omega (arith, h, k)) (drop_v (decimal n) (decimal i) (same_text (var_name n) (var_name i) e)) in
        absurd (omega (arith, h, same))

-- a list of values with one more in front
module _ (vars : List (Text × Bits)) (n : ℕ) (b : Bits) where
  abbrev bound : List (Text × Bits)
  bound = (var_name n, b) ∷ vars

  abbrev found_if : Bool → Text → ℕ → Bits
  found_if c x w =
      unwrap_or (option_map (λ q. q.1) (if c then Some (var_name n, b) else find (λ q. bytes_eq q.0 x && nat_eq q.1.width w) vars)) (record { width = w; value = 0 })

  bound_other : (i w : ℕ) → i < n → n < 2 ^ 64 → first_bits bound (var_name i) w ≡ first_bits vars (var_name i) w
  bound_other i w h k = ap (λ c. found_if (c && nat_eq b.width w) (var_name i) w) (names_differ i n h k)

  pub bound_here : first_bits bound (var_name n) b.width ≡ b
  bound_here = ap₂ (λ c d. found_if (c && d) (var_name n) b.width) (text_itself (var_name n)) (eq-eqb b.width b.width refl)

  pub bound_valid : IsBits b → IsValues (values_at vars) → IsValues (values_at bound)
  bound_valid hb h = record { bits = λ x w k. step x w (bytes_eq (var_name n) x && nat_eq b.width w) refl k; bytes = h.bytes }
    where
      step : (x : Text) (w : ℕ) (c : Bool) → bytes_eq (var_name n) x && nat_eq b.width w ≡ c → IsWidth w → IsBits (found_if c x w) × ((found_if c x w).width ≡ w)
      step x w true e k = (hb, eqb-true b.width w ((and_parts (bytes_eq (var_name n) x) (nat_eq b.width w) e).1))
      step x w false e k = h.bits x w k

  -- one variable more
  pub later_bound : n < 2 ^ 64 → IsBits b → IsValues (values_at vars) → Later n (values_at vars) (values_at bound)
  later_bound k hb h = record { same = λ i w l. bound_other i w l k; valid = bound_valid hb h }

  -- its term has the value, now and later
  pub fresh_is : (v : Values) (w : ℕ) → b.width ≡ w → Later (n + 1) (values_at bound) v → value v (var (var_name n) w) ≡ b
  fresh_is v w e h =
      h.same n w (omega (arith)) ∙ subst (λ w. first_bits bound (var_name n) w ≡ b) e bound_here

-- ---- known registers

-- what stands for a number in a list with one more in front
pub entry_cases : {A : Type 0} (r k : ℕ) (a t : A) (rest : List (ℕ × A)) → entry_of k ((r, a) ∷ rest) ≡ Some t
    → ((r ≡ k) × (a ≡ t)) ⊎ ((r ≢ k) × (entry_of k rest ≡ Some t))
entry_cases {A} r k a t rest h = step (eqb_tells r k) h
  where
    step : ((nat_eq r k ≡ true) × (r ≡ k)) ⊎ ((nat_eq r k ≡ false) × (r ≢ k)) → entry_of k ((r, a) ∷ rest) ≡ Some t
        → ((r ≡ k) × (a ≡ t)) ⊎ ((r ≢ k) × (entry_of k rest ≡ Some t))
    step (inl y) e = let f : Some a ≡ Some t = ap (λ c. if c then Some a else entry_of k rest) (sym y.0) ∙ e in inl (y.1, cc)
    step (inr n) e = inr (n.1, ap (λ c. if c then Some a else entry_of k rest) (sym n.0) ∙ e)

-- ---- from one point of a path to another

-- the variables so far are as they were, and there are no fewer
pub record Comes (p : SymPath) (vars : List (Text × Bits)) (q : SymPath) (more : List (Text × Bits)) : Type 0 where
  pub later : Later p.count (values_at vars) (values_at more)
  pub count : p.count ≤ q.count

-- something is so now, and in all values that come later
pub record Always {S A : Type 0} (P : Values → S → A → Type 0) (p : SymPath) (vars : List (Text × Bits)) (s : S) (a : A) : Type 0 where
  pub is : (v : Values) → Later p.count (values_at vars) v → P v s a

pub comes_trans : {p q r : SymPath} {us vs ws : List (Text × Bits)} → Comes p us q vs → Comes q vs r ws → Comes p us r ws
comes_trans a b = record { later = later_trans a.later a.count b.later; count = omega (arith, a.count, b.count) }

pub always_on : {S A : Type 0} {P : Values → S → A → Type 0} {p q : SymPath} {vars more : List (Text × Bits)} {s : S} {a : A}
    → Comes p vars q more → Always P p vars s a → Always P q more s a
always_on c h = record { is = λ v k. h.is v (later_trans c.later c.count k) }

-- ---- agreement

module _ (here : SymSetting) where
  pub record Agrees (p : SymPath) (vars : List (Text × Bits)) (w : World) (l : List Slot) : Type 0 where
    -- what stands for the locals
    pub locals : Always SlotsAre p vars p.locals l
    -- known registers have their terms' values
    pub known : (r : ℕ) (t : Tree) → entry_of r p.known ≡ Some t → Always TermIs p vars t (register_of w.state r)
    -- assumed registers have their values
    pub assumed : (r : ℕ) (b : Bits) → entry_of r here.given ≡ Some b → register_of w.state r ≡ b
    pub state : IsState w.state
    pub widths : widths_of w.state ≡ here.widths
    pub valid : IsValues (values_at vars)
    pub counted : p.count ≤ length vars

  pub comes_here : {p : SymPath} {vars : List (Text × Bits)} {w : World} {l : List Slot} → Agrees p vars w l → Comes p vars p vars
  comes_here {p} {vars} ag = record { later = later_refl p.count (values_at vars) ag.valid; count = omega (arith) }

  -- what is so always is so now
  pub now : {S A : Type 0} {P : Values → S → A → Type 0} {p : SymPath} {vars : List (Text × Bits)} {w : World} {l : List Slot} {s : S} {a : A}
      → Agrees p vars w l → Always P p vars s a → P (values_at vars) s a
  now {p} {vars} ag h = h.is (values_at vars) (later_refl p.count (values_at vars) ag.valid)

  -- other locals
  pub agrees_locals : {p : SymPath} {vars : List (Text × Bits)} {w : World} {l : List Slot} (ss : List SymSlot) (m : List Slot)
      → Always SlotsAre p vars ss m → Agrees p vars w l → Agrees (with_locals ss p) vars w m
  agrees_locals ss m h ag = record {
    locals = record { is = h.is };
    known = λ r t e. record { is = (ag.known r t e).is };
    assumed = ag.assumed;
    state = ag.state;
    widths = ag.widths;
    valid = ag.valid;
    counted = ag.counted;
  }

  -- a register whose term is known from here on
  pub agrees_knows : {p : SymPath} {vars : List (Text × Bits)} {w : World} {l : List Slot} (r : ℕ) (t : Tree)
      → Always TermIs p vars t (register_of w.state r) → Agrees p vars w l → Agrees (knows r t p) vars w l
  agrees_knows {p} {vars} {w} r t h ag = record {
    locals = record { is = ag.locals.is };
    known = λ k u e. step k u (entry_cases r k t u p.known e);
    assumed = ag.assumed;
    state = ag.state;
    widths = ag.widths;
    valid = ag.valid;
    counted = ag.counted;
  }
    where
      step : (k : ℕ) (u : Tree) → ((r ≡ k) × (t ≡ u)) ⊎ ((r ≢ k) × (entry_of k p.known ≡ Some u)) → Always TermIs (knows r t p) vars u (register_of w.state k)
      step k u (inl y) = subst (λ u. Always TermIs (knows r t p) vars u (register_of w.state k)) y.1 (record { is = λ v m. subst (λ k. TermIs v t (register_of w.state k)) y.0 (h.is v m) })
      step k u (inr n) = record { is = (ag.known k u n.1).is }

  -- one variable more
  pub agrees_more : {p : SymPath} {vars : List (Text × Bits)} {w : World} {l : List Slot} (b : Bits) → IsBits b → length vars < 2 ^ 64
      → Agrees p vars w l → Agrees (counts_on p) ((var_name p.count, b) ∷ vars) w l
  agrees_more {p} {vars} {w} b hb short ag = record {
    locals = record { is = λ v h. ag.locals.is v (old v h) };
    known = λ r t e. record { is = λ v h. (ag.known r t e).is v (old v h) };
    assumed = ag.assumed;
    state = ag.state;
    widths = ag.widths;
    valid = bound_valid vars p.count b hb ag.valid;
    counted = omega (arith, ag.counted);
  }
    where
      old : (v : Values) → Later (p.count + 1) (values_at ((var_name p.count, b) ∷ vars)) v → Later p.count (values_at vars) v
      old v h = later_trans (later_bound vars p.count b (omega (arith, short, ag.counted)) hb ag.valid) (omega (arith)) h

  pub comes_more : {p : SymPath} {vars : List (Text × Bits)} {w : World} {l : List Slot} (b : Bits) → IsBits b → length vars < 2 ^ 64
      → Agrees p vars w l → Comes p vars (counts_on p) ((var_name p.count, b) ∷ vars)
  comes_more {p} {vars} b hb short ag = record { later = later_bound vars p.count b (omega (arith, short, ag.counted)) hb ag.valid; count = omega (arith) }

  -- a world with the same registers
  pub agrees_world : {p : SymPath} {vars : List (Text × Bits)} {w : World} {l : List Slot} (z : World) → z.state.registers ≡ w.state.registers → IsState z.state
      → Agrees p vars w l → Agrees p vars z l
  agrees_world {p} {vars} {w} z same valid ag = record {
    locals = ag.locals;
    known = λ r t e. subst (Always TermIs p vars t) (at r) (ag.known r t e);
    assumed = λ r b e. sym (at r) ∙ ag.assumed r b e;
    state = valid;
    widths = ap (map width_of_bits) same ∙ ag.widths;
    valid = ag.valid;
    counted = ag.counted;
  }
    where
      at : (r : ℕ) → register_of w.state r ≡ register_of z.state r
      at r = ap (λ rs. slice_index_or rs r (record { width = 0; value = 0 })) (sym same)

  -- a register that is written
  pub agrees_write : {p : SymPath} {vars : List (Text × Bits)} {w : World} {l : List Slot} (r : ℕ) (b : Bits) (t : Tree) → r < length w.state.registers
      → entry_of r here.given ≡ None → IsBits b → b.width ≡ (register_of w.state r).width → Always TermIs p vars t b
      → Agrees p vars w l → Agrees (knows r t p) vars (with_register r b w) l
  agrees_write {p} {vars} {w} r b t within free hb wide h ag = record {
    locals = record { is = ag.locals.is };
    known = λ k u e. step k u (entry_cases r k t u p.known e);
    assumed = λ k c e. other k (λ s. absurd (impossible k c s e)) ∙ ag.assumed k c e;
    state = record { registers = All-set IsBits w.state.registers r b hb ag.state.registers; memory = ag.state.memory };
    widths = map-set_same width_of_bits w.state.registers r b (record { width = 0; value = 0 }) wide ∙ ag.widths;
    valid = ag.valid;
    counted = ag.counted;
  }
    where
      same : register_of (with_register r b w).state r ≡ b
      same = get_or-set_same w.state.registers r b (record { width = 0; value = 0 }) within

      other : (k : ℕ) → r ≢ k → register_of (with_register r b w).state k ≡ register_of w.state k
      other k n = get_or-set_other w.state.registers r k b (record { width = 0; value = 0 }) (λ e. n (sym e))

      impossible : (k : ℕ) (c : Bits) → r ≡ k → entry_of k here.given ≡ Some c → ⊥
      impossible k c e f = let g : None ≡ Some c = sym free ∙ ap (λ r. entry_of r here.given) e ∙ f in cc

      step : (k : ℕ) (u : Tree) → ((r ≡ k) × (t ≡ u)) ⊎ ((r ≢ k) × (entry_of k p.known ≡ Some u)) → Always TermIs (knows r t p) vars u (register_of (with_register r b w).state k)
      step k u (inl y) =
          subst (λ u. Always TermIs (knows r t p) vars u (register_of (with_register r b w).state k)) y.1
          (record { is = λ v m. subst (TermIs v t) (sym same ∙ ap (register_of (with_register r b w).state) y.0) (h.is v m) })
      step k u (inr n) = record { is = λ v m. subst (TermIs v u) (sym (other k n.0)) ((ag.known k u n.1).is v m) }
