-- The uses of small steps are seen: names, the prelude, asserts.
use Rattle.std.proofs.Common.{◌≡◌, ◌⊎◌, ℕ, zero, suc, ◌+◌, ◌*◌, ◌<◌, Bool, true, false, ◌&&◌, List, [], ◌∷◌, ◌++◌, length, Option, Some, None, Contains, nat_eq, nat_le, eq-eqb, refl, sym, ap, ap₂, ◌∙◌, subst, inl, inr}
use Rattle.std.specs.Prelude.{⊤, is_some, map, option_map, slice_get, slice_index_or, if◌then◌else◌}
use Rattle.std.proofs.lemmas.List.Elements.{Contains-push, Contains-append_left}
use Rattle.bv_bits.specs.declared.Bits.{Bits}
use Rattle.sail_syntax.specs.Tree.{Text}
use Rattle.sail_syntax.specs.Program.{Definition, registers_of}
use Rattle.sail_syntax.specs.declared.types.Ty.{Ty}
use Rattle.sail_syntax.specs.declared.types.Ty.TheVariants as ty
use Rattle.state_core.specs.declared.kinds.FaultKind.TheVariants as kind
use Rattle.state_core.specs.declared.kinds.Range.{Range}
use Rattle.state_core.specs.World.{World, Got, gets, faults, lacks}
use Rattle.state_core.specs.Memory.{Nothing, load, store}
use Rattle.state_core.specs.State.{register_of}
use Rattle.term_tree.specs.Terms.{Tree, lit, var, one, two, three, sel, width_of, same_bits}
use Rattle.term_tree.specs.Values.{Values, value}
use Rattle.term_rules.specs.Shapes.{literal_of}
use Rattle.trace_plain.specs.declared.trace.FailKind.TheVariants as failure
use Rattle.trace_plain.specs.Rules.{var_name}
use Rattle.trace_plain.specs.Following.{Seen, Path, failed, faulted, ended, goes, halts, blocked, step_if, is_one, value_on, saw_read, saw_assumed, saw_written, binds_read, goes_behind}
use Rattle.sail_values.specs.declared.value.Slot.{Slot}
use Rattle.sail_values.specs.declared.value.Local.{Local}
use Rattle.sail_values.specs.declared.value.Value.{Value}
use Rattle.sail_values.specs.declared.value.Value.TheVariants as concrete
use Rattle.sail_values.specs.Slots.{look, has}
use Rattle.sail_names.specs.declared.things.Given.{Given}
use Rattle.sail_names.specs.declared.things.Given.TheVariants as given
use Rattle.sail_names.specs.declared.things.Thing.{Thing}
use Rattle.sail_names.specs.declared.things.Thing.TheVariants as thing
use Rattle.sail_names.specs.Things.{find_thing}
use Rattle.type_rules.specs.declared.scope.Entry.{Entry}
use Rattle.type_rules.specs.declared.scope.Item.{Item}
use Rattle.type_rules.specs.declared.scope.Item.TheVariants as item
use Rattle.type_rules.specs.declared.scope.Sort.{Sort}
use Rattle.type_rules.specs.declared.scope.Local.{Local as Typed}
use Rattle.type_rules.specs.declared.scope.Target.TheVariants as target
use Rattle.type_rules.specs.Names.{find, look as look_type}
use Rattle.type_rules.specs.Rules.{global_target, target_of}
use Rattle.eval_rules.specs.Prelude.{is_address, is_of_bytes}
use Rattle.eval_rules.specs.Moments.{Use, use_reads, use_writes, Moment, uses_in, thing_read as moments_read, name_read as moments_name, thing_written as moments_written, name_written as moments_assigned, access_moments, read_moments, vector_moments, write_moments, given_moments}
use Rattle.eval_types.specs.Types.{IsOfType, LocalsFit, declared_width}
use Rattle.eval_types.proofs.ValueLemmas.{as_bits}
use Rattle.eval_types.proofs.LocalLemmas.{LookFits, look_fits, has_is}
use Rattle.eval_types.proofs.ThingLemmas.{AsFound}
use Rattle.sym_rules.specs.Values.{SymValue, sym_unit, sym_truth, sym_bits, sym_member, SymLocal, sym_is, SymPath, SymSetting, entry_of, sym_look, sym_has, sym_put}
use Rattle.sym_rules.specs.Trees.{SymTree, leaf, Leaf, sym_pure, sym_fails}
use Rattle.sym_rules.specs.Names.{knows, counts_on, next_variable, width_at as width_here, bits_leaf, first_read, known_read, thing_read, name_read, sym_read, register_written, term_written, value_written, thing_written, name_written, sym_write}
use Rattle.sym_rules.specs.Prelude.{is_access, is_address_term, bytes_read, sym_read_bytes, bytes_written, vector_written, sym_write_bytes, sym_given_on}
use Rattle.sym_rules.specs.Sym.{needs, asserted_bit, asserted}
use Rattle.sym_follows.proofs.Trees.{Arrival, behind_step, arrivals}
use Rattle.sym_follows.proofs.Values.{value_at, Is, width_at}
use Rattle.sym_follows.proofs.Parts.{local_at, SlotsAre, look_at, has_at}
use Rattle.sym_follows.proofs.Agree.{values_at, Always, Agrees, now}
use Rattle.sym_follows.proofs.Things.{IfProper, AreProper, found_proper}
use Rattle.sym_uses.specs.Uses.{Knows}
use Rattle.sym_uses.proofs.Covers.{More, more_none, KnownSeen, known_more, AllCovered, Covers, covers_leaf, covers_fails, covers_told, seen_to_none}

-- ---- one register more

more_read : (s : Seen) (r : ℕ) → More s (record s { read = s.read ++ r ∷ [] })
more_read s r = record { read = λ i h. Contains-append_left s.read (r ∷ []) i h; assumed = λ i h. h; written = λ i h. h }

more_assumed : (s : Seen) (r : ℕ) → More s (record s { assumed = s.assumed ++ r ∷ [] })
more_assumed s r = record { read = λ i h. h; assumed = λ i h. Contains-append_left s.assumed (r ∷ []) i h; written = λ i h. h }

more_written : (s : Seen) (r : ℕ) → More s (record s { written = s.written ++ r ∷ [] })
more_written s r = record { read = λ i h. h; assumed = λ i h. h; written = λ i h. Contains-append_left s.written (r ∷ []) i h }

-- more of what is known, and no register more
counts_known : {p : SymPath} {s : Seen} → KnownSeen p s → KnownSeen (counts_on p) s
counts_known k = record { each = k.each }

module _ (here : SymSetting) (ranges : List Range) (p : SymPath) (x : Path) (l : List Slot) (ag : Agrees here p x.vars x.world l) (known : KnownSeen p x.seen) where
  -- ---- reads of registers

  assumed_covers : (r : ℕ) (b : Bits) → entry_of r here.given ≡ Some b → Covers ranges x (first_read here r (Some b) p) (use_reads r ∷ [])
  assumed_covers r b e =
      let seen : Seen = (saw_assumed r x).seen in
      let knows_it : Knows seen r = inr (inl (Contains-push x.seen.assumed r)) in
      record {
        is = λ short.
            subst (λ c. AllCovered (use_reads r ∷ []) x.seen (behind_step (step_if c (goes (saw_assumed r x)) blocked) (arrivals ranges (bits_leaf (lit b) (knows r (lit b) p)))))
            (sym (ap (λ a. same_bits a b) (ag.assumed r b e) ∙ same_itself b))
            ((more_assumed x.seen r, known_more r (lit b) (more_assumed x.seen r) knows_it known, (knows_it, tt)), tt);
      }
    where
      same_itself : (b : Bits) → same_bits b b ≡ true
      same_itself b = ap₂ (λ c d. c && d) (eq-eqb b.width b.width refl) (eq-eqb b.value b.value refl)

  fresh_covers : (r : ℕ) → Covers ranges x (first_read here r None p) (use_reads r ∷ [])
  fresh_covers r =
      let seen : Seen = (saw_read r x).seen in
      let knows_it : Knows seen r = inl (Contains-push x.seen.read r) in
      record { is = λ short. ((more_read x.seen r, known_more r (next_variable (width_here here r) p) (more_read x.seen r) knows_it (counts_known known), (knows_it, tt)), tt) }

  first_covers : (r : ℕ) (o : Option Bits) → entry_of r here.given ≡ o → r < length here.widths → Covers ranges x (first_read here r o p) (use_reads r ∷ [])
  first_covers r (Some b) e low = assumed_covers r b e
  first_covers r None e low = fresh_covers r

  register_covers : (r : ℕ) (o : Option Tree) → entry_of r p.known ≡ o → r < length here.widths → Covers ranges x (known_read here r o p) (use_reads r ∷ [])
  register_covers r (Some t) e low = record { is = λ short. ((more_none x.seen, known, (known.each r t e, tt)), tt) }
  register_covers r None e low = first_covers r (entry_of r here.given) refl low

  thing_covers : (o : Option Thing) → IfProper (length here.widths) o → Covers ranges x (thing_read here o p) (uses_in (moments_read o x.world))
  thing_covers (Some (thing.Register r)) h = register_covers r (entry_of r p.known) refl h
  thing_covers (Some (thing.Member e i)) h = covers_leaf here ranges known
  thing_covers (Some (thing.Given g)) h = covers_leaf here ranges known
  thing_covers (Some (thing.Function i)) h = covers_leaf here ranges known
  thing_covers None h = covers_leaf here ranges known

  pub read_covers : (y : Text) → AreProper (length here.widths) here.things → Covers ranges x (sym_read here y p) (uses_in (moments_name here.things (look y l) y x.world))
  read_covers y proper =
      let e : look y l ≡ option_map (local_at (values_at x.vars)) (sym_look y p.locals) = ap (look y) (sym ((now here ag ag.locals).same)) ∙ look_at (values_at x.vars) y p.locals in
      subst (λ o. Covers ranges x (sym_read here y p) (uses_in (moments_name here.things o y x.world))) (sym e) (step (sym_look y p.locals))
    where
      step : (o : Option SymLocal) → Covers ranges x (name_read here o y p) (uses_in (moments_name here.things (option_map (local_at (values_at x.vars)) o) y x.world))
      step (Some s) = covers_leaf here ranges known
      step None = thing_covers (find_thing y here.things) (found_proper (length here.widths) y here.things proper)

  -- ---- writes of registers

  written_covers : (r : ℕ) (t : Tree) (o : Option Bits) → Covers ranges x (register_written r t o p) (use_writes r ∷ [])
  written_covers r t (Some b) = record { is = λ short. ((more_none x.seen, tt), tt) }
  written_covers r t None =
      let writes : Contains (x.seen.written ++ r ∷ []) r = Contains-push x.seen.written r in
      record { is = λ short. ((more_written x.seen r, known_more r t (more_written x.seen r) (inr (inr writes)) known, (writes, tt)), tt) }

  -- what is written is as wide as the register
  value_covers : (r w : ℕ) (s : SymValue) → Is (values_at x.vars) s (value_at (values_at x.vars) s) → width_here here r ≡ w → (b : Bits) → value_at (values_at x.vars) s ≡ concrete.Bits b → b.width ≡ w
      → Covers ranges x (value_written here r s p) (use_writes r ∷ [])
  value_covers r w (sym_bits t) h e b k m =
      let wide : width_of t ≡ width_here here r = sym (width_at (values_at x.vars) ag.valid t h.typed) ∙ ap (λ c. c.width) (bits_whole (value (values_at x.vars) t) b k) ∙ m ∙ sym e in
      subst (λ c. Covers ranges x ((if c then register_written r t (entry_of r here.given) else sym_pure sym_unit) p) (use_writes r ∷ [])) (sym (eq-eqb (width_of t) (width_here here r) wide))
      (written_covers r t (entry_of r here.given))
    where
      bits_whole : (a b : Bits) → ◌≡◌ {A = Value} (concrete.Bits a) (concrete.Bits b) → a ≡ b
      bits_whole a b h = cc
  value_covers r w sym_unit h e b k m = absurd cc
  value_covers r w (sym_truth t) h e b k m = absurd cc
  value_covers r w (sym_member f i) h e b k m = absurd cc

  module _ (defs : List Definition) (widths : here.widths ≡ map declared_width (registers_of defs)) (globals : List Entry) (found : (y : Text) → AsFound defs (find y globals) (find_thing y here.things)) where
    some_at : (ws : List ℕ) (r w : ℕ) → slice_get ws r ≡ Some w → slice_index_or ws r 0 ≡ w
    some_at [] r w e = absurd cc
    some_at (v ∷ ws) zero w e = some_width v w e
      where
        some_width : (v w : ℕ) → Some v ≡ Some w → v ≡ w
        some_width v w h = cc
    some_at (v ∷ ws) (suc r) w e = some_at ws r w e

    takes_bits : (w : ℕ) (u : Ty) → target.Takes (Some (ty.Bits w)) ≡ target.Takes (Some u) → u ≡ ty.Bits w
    takes_bits w u h = cc

    assigned_covers : (s : SymValue) (a : Value) (u : Ty) (i : Option Item) (o : Option Thing) → AsFound defs i o → global_target i ≡ target.Takes (Some u) → IsOfType defs a u → Is (values_at x.vars) s a
        → Covers ranges x (thing_written here o s p) (uses_in (moments_written o a x.world))
    assigned_covers s a u (Some (item.Register w)) (Some (thing.Register r)) f e h k =
        let t = as_bits defs a w (subst (IsOfType defs a) (takes_bits w u e) h) in
        value_covers r w s (record { typed = k.typed; same = refl }) (ap (λ ws. slice_index_or ws r 0) widths ∙ some_at (map declared_width (registers_of defs)) r w f) t.bits (k.same ∙ t.is) t.width
    assigned_covers s a u (Some (item.Register w)) (Some (thing.Member n i)) f e h k = absurd f
    assigned_covers s a u (Some (item.Register w)) (Some (thing.Given g)) f e h k = absurd f
    assigned_covers s a u (Some (item.Register w)) (Some (thing.Function i)) f e h k = absurd f
    assigned_covers s a u (Some (item.Register w)) None f e h k = absurd f
    assigned_covers s a u (Some (item.Member n)) o f e h k = absurd cc
    assigned_covers s a u (Some item.Enum) o f e h k = absurd cc
    assigned_covers s a u (Some (item.Function ps r after)) o f e h k = absurd cc
    assigned_covers s a u None o f e h k = absurd cc

    -- a name that is no local has the type of the whole text
    global_name : (y : Text) (scope : List Typed) (u : Ty) (o : Option Local) (k : Option Sort) → is_some o ≡ false → LookFits defs o k → target_of globals k y ≡ target.Takes (Some u)
        → global_target (find y globals) ≡ target.Takes (Some u)
    global_name y scope u None None e f t = t
    global_name y scope u None (Some k) e f t = absurd f
    global_name y scope u (Some o) k e f t = absurd cc

    pub write_covers : (y : Text) (s : SymValue) (a : Value) (u : Ty) (scope : List Typed) → LocalsFit defs l scope → target_of globals (look_type y scope) y ≡ target.Takes (Some u) → IsOfType defs a u
        → Always Is p x.vars s a → Covers ranges x (sym_write here y s p) (uses_in (moments_assigned here.things y a l x.world))
    write_covers y s a u scope fit e h k =
        let same : has y l ≡ sym_has y p.locals = ap (has y) (sym ((now here ag ag.locals).same)) ∙ has_at (values_at x.vars) y p.locals in
        subst (λ c. Covers ranges x (name_written here c y s p) (uses_in (moments_assigned here.things y a l x.world))) same (step (has y l) refl)
      where
        step : (c : Bool) → has y l ≡ c → Covers ranges x (name_written here c y s p) (uses_in (if c then [] else moments_written (find_thing y here.things) a x.world))
        step true q = record { is = λ short. ((more_none x.seen, record { each = known.each }, tt), tt) }
        step false q =
            assigned_covers s a u (find y globals) (find_thing y here.things) (found y)
            (global_name y scope u (look y l) (look_type y scope) (sym (has_is defs y l) ∙ q) (look_fits defs y l scope fit) e) h (now here ag k)

  -- ---- asserts

  known_asserted : (c : Bool) → Covers ranges x ((if c then sym_pure sym_unit else sym_fails failure.Assert) p) []
  known_asserted true = covers_leaf here ranges known
  known_asserted false = covers_fails here ranges failure.Assert

  needed : (t : Tree) → Covers ranges x (needs t p) []
  needed t = record { is = λ short. step (is_one (value_on x t)) }
    where
      step : (c : Bool) → AllCovered [] x.seen (behind_step (step_if c (goes x) (halts (ended (faulted kind.AssertFail) x))) (arrivals ranges {L = Leaf SymValue} (leaf (record { value = sym_unit; path = p }))))
      step true = ((more_none x.seen, known, tt), tt)
      step false = ((more_none x.seen, tt), tt)

  bit_asserted : (t : Tree) → Covers ranges x (asserted_bit (literal_of t) t p) []
  bit_asserted (lit q) = known_asserted (nat_eq q.value 1)
  bit_asserted (var y w) = needed (var y w)
  bit_asserted (one f u) = needed (one f u)
  bit_asserted (two f u v) = needed (two f u v)
  bit_asserted (three f u v w) = needed (three f u v w)
  bit_asserted (sel f u) = needed (sel f u)

  pub asserted_covers : (s : SymValue) → Covers ranges x (asserted s p) []
  asserted_covers (sym_truth t) = bit_asserted t
  asserted_covers sym_unit = covers_fails here ranges failure.Assert
  asserted_covers (sym_bits t) = covers_fails here ranges failure.Assert
  asserted_covers (sym_member e i) = covers_fails here ranges failure.Assert

  -- ---- the prelude

  got_read : (n : ℕ) (g : Got ℕ) → AllCovered [] x.seen (behind_step (binds_read p.count n x g) (arrivals ranges (bits_leaf (var (var_name p.count) (8 * n)) (counts_on p))))
  got_read n (gets y w) = ((more_none x.seen, counts_known known, tt), tt)
  got_read n (faults k w) = ((more_none x.seen, tt), tt)
  got_read n (lacks w) = ((more_none x.seen, tt), tt)

  got_written : (g : Got Nothing) → AllCovered [] x.seen (behind_step (goes_behind x g) (arrivals ranges {L = Leaf SymValue} (leaf (record { value = sym_unit; path = p }))))
  got_written (gets y w) = ((more_none x.seen, known, tt), tt)
  got_written (faults k w) = ((more_none x.seen, tt), tt)
  got_written (lacks w) = ((more_none x.seen, tt), tt)

  reads_if : (n : ℕ) (t : Tree) (c : Bool) → Covers ranges x ((if c then bytes_read n t else sym_pure sym_unit) p) []
  reads_if n t true = record { is = λ short. got_read n (load ranges (value_on x t).value n x.world) }
  reads_if n t false = covers_leaf here ranges known

  writes_if : (n : ℕ) (t u : Tree) (c : Bool) → Covers ranges x ((if c then bytes_written n t u else sym_pure sym_unit) p) []
  writes_if n t u true = record { is = λ short. got_written (store ranges (value_on x t).value n (value_on x u).value x.world) }
  writes_if n t u false = covers_leaf here ranges known

  reads_cover : (n : ℕ) (s : SymValue) → Covers ranges x (sym_read_bytes n s p) []
  reads_cover n (sym_bits t) = reads_if n t (is_access n && is_address_term t)
  reads_cover n sym_unit = covers_leaf here ranges known
  reads_cover n (sym_truth t) = covers_leaf here ranges known
  reads_cover n (sym_member e i) = covers_leaf here ranges known

  vector_covers : (n : ℕ) (t : Tree) (s : SymValue) → Covers ranges x (vector_written n t s p) []
  vector_covers n t (sym_bits u) = writes_if n t u (is_access n && is_address_term t && nat_eq (width_of u) (8 * n))
  vector_covers n t sym_unit = covers_leaf here ranges known
  vector_covers n t (sym_truth u) = covers_leaf here ranges known
  vector_covers n t (sym_member e i) = covers_leaf here ranges known

  writes_cover : (n : ℕ) (s t : SymValue) → Covers ranges x (sym_write_bytes n s t p) []
  writes_cover n (sym_bits u) t = vector_covers n u t
  writes_cover n sym_unit t = covers_leaf here ranges known
  writes_cover n (sym_truth u) t = covers_leaf here ranges known
  writes_cover n (sym_member e i) t = covers_leaf here ranges known

  given_covers_none : (g : Given) (s t : SymValue) → Covers ranges x (sym_given_on g s t p) []
  given_covers_none (given.Read n) s t = reads_cover n s
  given_covers_none (given.Write n) s t = writes_cover n s t
  given_covers_none given.Not s t = covers_told here ranges _ known
  given_covers_none given.LtU s t = covers_told here ranges _ known
  given_covers_none given.LtS s t = covers_told here ranges _ known
  given_covers_none given.ShiftLeft s t = covers_told here ranges _ known
  given_covers_none given.ShiftRight s t = covers_told here ranges _ known
  given_covers_none given.ShiftRightArith s t = covers_told here ranges _ known
  given_covers_none given.DivU s t = covers_told here ranges _ known
  given_covers_none given.RemU s t = covers_told here ranges _ known
  given_covers_none given.DivS s t = covers_told here ranges _ known
  given_covers_none given.RemS s t = covers_told here ranges _ known

  -- the prelude uses no register
  uses_if : (c : Bool) (ms : List Moment) → uses_in ms ≡ [] → uses_in (if c then ms else []) ≡ []
  uses_if true ms h = h
  uses_if false ms h = refl

  reads_use : (n : ℕ) (a : Value) (w : World) → uses_in (read_moments ranges n a w) ≡ []
  reads_use n (concrete.Bits a) w = uses_if (nat_le n 16 && is_address a) _ refl
  reads_use n concrete.Unit w = refl
  reads_use n (concrete.Truth b) w = refl
  reads_use n (concrete.Member e i) w = refl

  vector_use : (n : ℕ) (a : Bits) (b : Value) (w : World) → uses_in (vector_moments ranges n a b w) ≡ []
  vector_use n a (concrete.Bits b) w = uses_if (nat_le n 16 && is_address a && is_of_bytes n b) _ refl
  vector_use n a concrete.Unit w = refl
  vector_use n a (concrete.Truth b) w = refl
  vector_use n a (concrete.Member e i) w = refl

  writes_use : (n : ℕ) (a b : Value) (w : World) → uses_in (write_moments ranges n a b w) ≡ []
  writes_use n (concrete.Bits a) b w = vector_use n a b w
  writes_use n concrete.Unit b w = refl
  writes_use n (concrete.Truth a) b w = refl
  writes_use n (concrete.Member e i) b w = refl

  given_use : (g : Given) (a b : Value) (w : World) → uses_in (given_moments ranges g a b w) ≡ []
  given_use (given.Read n) a b w = reads_use n a w
  given_use (given.Write n) a b w = writes_use n a b w
  given_use g a b w = refl

  pub given_covers : (g : Given) (s t : SymValue) (a b : Value) → Covers ranges x (sym_given_on g s t p) (uses_in (given_moments ranges g a b x.world))
  given_covers g s t a b = subst (Covers ranges x (sym_given_on g s t p)) (sym (given_use g a b x.world)) (given_covers_none g s t)
