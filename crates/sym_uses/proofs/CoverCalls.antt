-- The uses of calls are seen, and the law.
use Rattle.std.proofs.Common.{◌≡◌, ℕ, zero, suc, ◌+◌, ◌≤◌, Bool, true, false, List, [], ◌∷◌, ◌++◌, length, reverse, map, Option, Some, None, nat_eq, refl, sym, ap, ◌∙◌, subst, arith}
use Rattle.std.specs.Prelude.{◌≢◌, if◌then◌else◌, slice_get, codes}
use Rattle.std.proofs.lemmas.Bool.{and_parts, eqb-true, eqb-false, false≢true}
use Rattle.std.proofs.lemmas.List.{append-nil, reverse-reverse, length-reverse}
use Rattle.std.proofs.lemmas.Option.{slice_get_within}
use Rattle.bv_bits.specs.Bits.{IsBits}
use Rattle.bv_bits.specs.declared.Bits.{Bits}
use Rattle.sail_syntax.specs.Tree.{Text, Tree}
use Rattle.sail_syntax.specs.Types.{is_same_type}
use Rattle.sail_syntax.specs.Program.{Definition, Function, order, register, enumeration, signature, function, function_of}
use Rattle.sail_syntax.specs.declared.types.Ty.TheVariants as ty
use Rattle.sail_syntax.specs.declared.types.Param.{Param}
use Rattle.state_core.specs.declared.kinds.Range.{Range}
use Rattle.state_core.specs.World.{World}
use Rattle.term_tree.specs.Terms as term
use Rattle.term_arena.specs.Said.{single}
use Rattle.trace_plain.specs.Following.{Path, path_from, whole, Outcome, ended, outcomes}
use Rattle.trace_plain.specs.Laws.{FollowsTheList}
use Rattle.sail_values.specs.declared.value.Slot.{Slot}
use Rattle.sail_values.specs.declared.value.Value.{Value}
use Rattle.sail_values.specs.declared.value.Value.TheVariants as concrete
use Rattle.sail_names.specs.declared.things.Thing.{Thing}
use Rattle.sail_names.specs.declared.things.Thing.TheVariants as thing
use Rattle.sail_names.specs.Things.{find_thing, things_of}
use Rattle.type_rules.specs.Names.{globals_of}
use Rattle.type_rules.specs.Program.{takes_word, is_of_word, has_word, may_have_word, instr_of}
use Rattle.type_rules.specs.IsTyped.{locals_of, AreTypedDefinitions, IsTypedProgram}
use Rattle.eval_rules.specs.Flow.{gives, Meaning}
use Rattle.eval_rules.specs.Names.{Setting}
use Rattle.eval_rules.specs.Eval.{eval, bound, calls_of}
use Rattle.eval_rules.specs.Moments.{Use, Passing, uses_in, called_moments, moments, moments_of_calls, moments_of}
use Rattle.eval_types.specs.Types.{AreOfTypes}
use Rattle.eval_types.proofs.GivenLemmas.{Accesses}
use Rattle.eval_types.proofs.ThingLemmas.{AsFound, from_none, found}
use Rattle.eval_types.proofs.KeepLemmas.{CallsKeep}
use Rattle.eval_types.proofs.ProgramLemmas.{TypedAt, typed_at, reverse_cons, bound_fits, in_front, last_is, calls_kept, some_function}
use Rattle.eval_types.proofs.CallLemmas.{function_item, function_found, numbered, word_fits}
use Rattle.sym_rules.specs.Values.{SymValue, SymPath, SymSetting}
use Rattle.sym_rules.specs.Trees.{Leaf, SymTree, SymMeaning, with_locals}
use Rattle.sym_rules.specs.Operators.{as_bits}
use Rattle.sym_rules.specs.Sym.{sym_called, sym_calls, sym_bound, sym_entered, sym_setting, fresh_path, sym_of, trace_of}
use Rattle.sym_follows.specs.Follows.{Meets, IsNamed}
use Rattle.sym_follows.proofs.Trees.{Arrival, comes_to, ends_at, arrivals}
use Rattle.sym_follows.proofs.Bridge.{final, outcomes_traced, short_of_size}
use Rattle.sym_follows.proofs.Sound.{AreSoundDefinitions}
use Rattle.sym_follows.proofs.Typed.{tree_sound, sound_program}
use Rattle.sym_follows.proofs.Values.{Is}
use Rattle.sym_follows.proofs.Agree.{Comes, Always, Agrees, agrees_locals}
use Rattle.sym_follows.proofs.Does.{Does, does_told}
use Rattle.sym_follows.proofs.Things.{things_proper}
use Rattle.sym_follows.proofs.Calls.{AreAll, all_one, bound_are}
use Rattle.sym_follows.proofs.Simulate.{CallsFollow, tree_does, literal_is}
use Rattle.sym_follows.proofs.Program.{calls_follow, start, evaluation_follows}
use Rattle.sym_uses.specs.Uses.{SeenTo, CallFollows, FunctionsFollow, InstrFollows, Instr16Follows}
use Rattle.sym_uses.proofs.Covers.{KnownSeen, Covers, AllCovered, on_covers, on_last, covers_leaf, covers_told}
use Rattle.sym_uses.proofs.CoverParts.{Has}
use Rattle.sym_uses.proofs.CoverTrees.{here, set, CallsCover, tree_covers, covers_locals}

-- ---- the functions of a text

module _ (defs : List Definition) (given : List (ℕ × Bits)) (ranges : List Range) (accesses : Accesses ranges) (program : IsTypedProgram defs) where
  abbrev at_hand : SymSetting
  at_hand = here defs given ranges accesses 0 []

  abbrev setting : Setting
  setting = set defs given ranges accesses 0 []

  -- the moments of the functions of definitions, the last one first
  abbrev passing_of : List Definition → ℕ → List Value → Passing
  passing_of ds = moments_of_calls setting ds

  if_covers : (c : Bool) (a b : SymMeaning SymValue) (m n : Passing) (p : SymPath) (x : Path) (l : List Slot) → (c ≡ true → Covers ranges x (a p) (uses_in (m l x.world))) → (c ≡ false → Covers ranges x (b p) (uses_in (n l x.world)))
      → Covers ranges x ((if c then a else b) p) (uses_in ((if c then m else n) l x.world))
  if_covers true a b m n p x l h k = h refl
  if_covers false a b m n p x l h k = k refl

  -- the last of some functions, where the uses of those above it are seen
  entered_covers : (rev : List Definition) (d : Function) {ss : List SymValue} {vs : List Value} {p : SymPath} {x : Path} {l : List Slot} → CallsKeep defs (length rev) (calls_of setting rev)
      → CallsFollow at_hand ranges accesses (things_proper defs) rev (sym_calls at_hand rev) → CallsCover defs given ranges accesses (length rev) rev → slice_get defs (length rev) ≡ Some (function d) → AreOfTypes defs vs d.params
      → Agrees at_hand p x.vars x.world l → Always AreAll p x.vars ss vs → KnownSeen p x.seen
      → Covers ranges x (sym_entered at_hand (sym_calls at_hand rev) d.params d.body ss p) (uses_in (moments setting (calls_of setting rev) (passing_of rev) d.body (bound d.params vs 0 []) x.world))
  entered_covers rev d {ss} {vs} {p} {x} {l} kept follow cover e types ag all known =
      let z : 0 + length rev ≡ length rev = omega arith in
      let u = subst (TypedAt (globals_of defs) d) z (typed_at (globals_of defs) defs [] 0 (length rev) d program.definitions e) in
      let h : Has defs (length rev) d.body (locals_of d.params []) = record { want = Some d.result; type = d.result; has = u.typed.body } in
      let inside : Agrees at_hand (with_locals (sym_bound d.params ss 0 []) p) x.vars x.world (bound d.params vs 0 []) =
      agrees_locals at_hand (sym_bound d.params ss 0 []) (bound d.params vs 0 []) (record { is = λ v i. bound_are v d.params 0 (all.is v i) (record { typed = tt; same = refl }) }) ag in
      on_last at_hand ranges {P = Is} {p = with_locals (sym_bound d.params ss 0 []) p}
      (tree_does at_hand ranges accesses (things_proper defs) rev (sym_calls at_hand rev) follow d.body (tree_sound (globals_of defs) (length rev) d.body (Some d.result) (locals_of d.params []) d.result u.typed.body) inside)
      (tree_covers defs given ranges accesses (length rev) rev kept follow cover d.body (locals_of d.params []) h (bound_fits defs d.params vs vs 0 [] [] (from_none defs vs) types tt) inside (record { each = known.each }))
      (λ m y a k more is seen. covers_locals at_hand ranges p.locals seen)

  calls_cover : (rev rest : List Definition) → defs ≡ reverse rev ++ rest → AreSoundDefinitions rev → CallsCover defs given ranges accesses (length rev) rev
  calls_cover [] rest e sound = record { each = λ i f low g types ag all known. absurd (omega (arith, low)) }
  calls_cover (order ∷ rev) rest e sound = record {
    each = λ i f low g types ag all known.
        (calls_cover rev (order ∷ rest) (e ∙ reverse_cons order rev rest) sound.1).each i f
        (in_front defs (length rev) i order f low (last_is defs ranges accesses (globals_of defs) (things_of defs) (found defs) program.definitions order rev rest e) g (λ k. cc)) g types ag all known;
  }
  calls_cover (register x w at ∷ rev) rest e sound = record {
    each = λ i f low g types ag all known.
        (calls_cover rev (register x w at ∷ rest) (e ∙ reverse_cons (register x w at) rev rest) sound.1).each i f
        (in_front defs (length rev) i (register x w at) f low (last_is defs ranges accesses (globals_of defs) (things_of defs) (found defs) program.definitions (register x w at) rev rest e) g (λ k. cc)) g types ag all known;
  }
  calls_cover (enumeration x ms at ∷ rev) rest e sound = record {
    each = λ i f low g types ag all known.
        (calls_cover rev (enumeration x ms at ∷ rest) (e ∙ reverse_cons (enumeration x ms at) rev rest) sound.1).each i f
        (in_front defs (length rev) i (enumeration x ms at) f low (last_is defs ranges accesses (globals_of defs) (things_of defs) (found defs) program.definitions (enumeration x ms at) rev rest e) g (λ k. cc)) g types ag all known;
  }
  calls_cover (signature x args result at ∷ rev) rest e sound = record {
    each = λ i f low g types ag all known.
        (calls_cover rev (signature x args result at ∷ rest) (e ∙ reverse_cons (signature x args result at) rev rest) sound.1).each i f
        (in_front defs (length rev) i (signature x args result at) f low (last_is defs ranges accesses (globals_of defs) (things_of defs) (found defs) program.definitions (signature x args result at) rev rest e) g (λ k. cc)) g types ag all known;
  }
  calls_cover (function d ∷ rev) rest e sound = record {
    each = λ i f {ss} {vs} {p} {x} {l} low g types ag all known.
        let n = last_is defs ranges accesses (globals_of defs) (things_of defs) (found defs) program.definitions (function d) rev rest e in
        let above = calls_cover rev (function d ∷ rest) (e ∙ reverse_cons (function d) rev rest) sound.1 in
        let kept = calls_kept defs ranges accesses (globals_of defs) (things_of defs) (found defs) program.definitions rev (function d ∷ rest) (e ∙ reverse_cons (function d) rev rest) in
        let follow = calls_follow at_hand ranges accesses (things_proper defs) rev sound.1 in
        if_covers (nat_eq i (length rev)) (sym_entered at_hand (sym_calls at_hand rev) d.params d.body ss) (sym_calls at_hand rev i ss)
        (λ l w. moments setting (calls_of setting rev) (passing_of rev) d.body (bound d.params vs 0 []) w) (passing_of rev i vs) p x l
        (λ q. let k : i ≡ length rev = eqb-true i (length rev) q in
        let same : f ≡ d = some_function f d (sym g ∙ ap (slice_get defs) k ∙ n) in
        entered_covers rev d kept follow above n (subst (λ f. AreOfTypes defs vs f.params) same types) ag all known)
        (λ q. let k : i ≢ length rev = eqb-false i (length rev) q in above.each i f (omega (arith, k, low)) g types ag all known);
  }

  -- a call of the name of a function of the program
  named_covers : (rev : List Definition) → CallsCover defs given ranges accesses (length rev) rev → length rev ≡ length defs → (i : ℕ) (f : Function) (o : Option Thing) {ss : List SymValue} {vs : List Value} {p : SymPath} {x : Path} {l : List Slot}
      → slice_get defs i ≡ Some (function f) → AsFound defs (function_item f i) o → AreOfTypes defs vs f.params → Agrees at_hand p x.vars x.world l → Always AreAll p x.vars ss vs → KnownSeen p x.seen
      → Covers ranges x (sym_called (sym_calls at_hand rev) o ss p) (uses_in (called_moments setting (passing_of rev) o vs l x.world))
  named_covers rev cover same i f (Some (thing.Function n)) e k types ag all known =
      let j : n ≡ i = let b = k.behind in omega (arith, b) in
      let g : slice_get defs n ≡ Some (function f) = ap (slice_get defs) j ∙ e in
      cover.each n f (let w = slice_get_within defs n (function f) g in omega (arith, w, same)) g types ag all known
  named_covers rev cover same i f (Some (thing.Given g)) e k types ag all known = let b = k.first in absurd (omega (arith, b))
  named_covers rev cover same i f (Some (thing.Register r)) e k types ag all known = absurd k
  named_covers rev cover same i f (Some (thing.Member of n)) e k types ag all known = absurd k
  named_covers rev cover same i f None e k types ag all known = absurd k

  -- the uses of a call of a function at a word are seen
  call_covers : (i : ℕ) (f : Function) (b : Bits) (w : World) → slice_get defs i ≡ Some (function f) → AreOfTypes defs (concrete.Bits b ∷ []) f.params → IsBits b → Meets defs given w
      → Covers ranges (path_from [] w) (sym_of defs given f.name b) (uses_in (moments_of defs ranges f.name (concrete.Bits b ∷ []) w))
  call_covers i f b w e types bits meets =
      let back : defs ≡ reverse (reverse defs) ++ [] = sym (append-nil (reverse (reverse defs)) ∙ reverse-reverse defs) in
      let cover = calls_cover (reverse defs) [] back (sound_program defs program) in
      on_covers at_hand ranges {P = Is} {p = fresh_path} {x = path_from [] w} {o = gives (concrete.Bits b) [] w} {us = []}
      (λ v l w. uses_in (called_moments setting (passing_of (reverse defs)) (find_thing f.name (things_of defs)) (v ∷ []) l w)) (λ v l w. v ≡ concrete.Bits b)
      (does_told at_hand ranges {P = Is} (as_bits (single (term.lit b))) (concrete.Bits b) (start defs given w meets) (λ v k. literal_is v b bits))
      (covers_told at_hand ranges {p = fresh_path} {x = path_from [] w} (as_bits (single (term.lit b))) (record { each = λ r t e. absurd cc })) refl
      (λ m y v l come more is seen same. named_covers (reverse defs) cover (length-reverse defs) i f (find_thing f.name (things_of defs)) e (function_found defs i f program e)
      (subst (λ v. AreOfTypes defs (v ∷ []) f.params) (sym same) types) more (record { is = λ u k. all_one u m.value v (is.is u k) }) seen)

-- ---- the law

-- what the one outcome has seen
seen_at : {S : Type 0} (us : List Use) (out : Outcome) (x : Path) (found : List (Arrival (Leaf S))) → map final found ≡ out ∷ [] → AllCovered us x.seen found → SeenTo out.ending out.seen us
seen_at us out x [] e h = absurd cc
seen_at us out x (comes_to m y ∷ rest) e h = let same : ended whole y ≡ out = cc in subst (λ out. SeenTo out.ending out.seen us) same h.0.2
seen_at us out x (ends_at z ∷ rest) e h = let same : z ≡ out = cc in subst (λ out. SeenTo out.ending out.seen us) same h.0.1

pub functions_follow : FollowsTheList → ((ranges : List Range) → Accesses ranges) → FunctionsFollow
functions_follow list accesses defs given ranges i f at b w program is types meets named =
    let bits : IsBits b = word_bits f.params types in
    let one = evaluation_follows list accesses defs given ranges f.name at b w program bits meets named in
    let x : Path = path_from [] w in
    let tree = sym_of defs given f.name b in
    let cover = call_covers defs given ranges (accesses ranges) program i f b w is types bits meets in
    record {
      alone = one;
      sees = seen_at (uses_in (moments_of defs ranges f.name (concrete.Bits b ∷ []) w)) one.outcome x (arrivals ranges tree x) (sym (outcomes_traced ranges tree x) ∙ one.once) (cover.is (short_of_size ranges tree x (omega (arith, named))));
    }
  where
    word_bits : (ps : List Param) → AreOfTypes defs (concrete.Bits b ∷ []) ps → IsBits b
    word_bits [] h = absurd h
    word_bits (p ∷ ps) h = h.0.0

-- a function that takes a word of a width
word_follows : FollowsTheList → ((ranges : List Range) → Accesses ranges) → (defs : List Definition) (given : List (ℕ × Bits)) (ranges : List Range) (y : Text) (n : ℕ) (f : Function) (at : ℕ) (b : Bits) (w : World) → IsTypedProgram defs
    → function_of defs y ≡ Some f → is_of_word n f ≡ true → IsBits b → b.width ≡ n → Meets defs given w → IsNamed (trace_of defs given y b) → CallFollows defs given ranges y at b w
word_follows list accesses defs given ranges y n f at b w program h k bits e meets named =
    let there = numbered defs y f h in
    let q = and_parts (takes_word n f.params) (is_same_type f.result ty.Unit) k in
    subst (λ y. IsNamed (trace_of defs given y b) → CallFollows defs given ranges y at b w) there.name
    (λ named. functions_follow list accesses defs given ranges there.number f at b w program there.is (word_fits defs n b f.params q.0 bits e) meets named) named

pub instr_follows : FollowsTheList → ((ranges : List Range) → Accesses ranges) → InstrFollows
instr_follows list accesses defs given ranges at b w program bits e meets named = step (instr_of defs) refl program.instr
  where
    step : (o : Option Function) → instr_of defs ≡ o → has_word 32 o ≡ true → CallFollows defs given ranges (codes "instr") at b w
    step (Some f) h k = word_follows list accesses defs given ranges (codes "instr") 32 f at b w program h k bits e meets named
    step None h k = absurd (false≢true k)

pub instr16_follows : FollowsTheList → ((ranges : List Range) → Accesses ranges) → Instr16Follows
instr16_follows list accesses defs given ranges f at b w program h bits e meets named =
    word_follows list accesses defs given ranges (codes "instr16") 16 f at b w program h (subst (λ o. may_have_word 16 o ≡ true) h program.instr16) bits e meets named
