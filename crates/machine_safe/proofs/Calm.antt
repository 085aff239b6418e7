-- A word that accesses nothing depends on the registers alone and leaves the rest of the world.
use Rattle.std.proofs.Common.{◌≡◌, ℕ, ◌<◌, Bool, true, false, List, [], ◌∷◌, ◌++◌, length, drop, All, refl, sym, ap, ◌∙◌, subst, true≢false}
use Rattle.std.specs.List.{list_any}
use Rattle.std.proofs.lemmas.List.Elements.{All-nil, All-cons, All-head, All-tail}
use Rattle.sail_syntax.specs.Program.{Definition, registers_of}
use Rattle.state_core.specs.declared.word.Word.{Word}
use Rattle.state_core.specs.declared.kinds.Access.{Access}
use Rattle.state_core.specs.World.{World}
use Rattle.eval_rules.specs.Flow.{Out, gives, stops}
use Rattle.eval_rules.specs.Eval.{call_of}
use Rattle.eval_rules.specs.Moments.{Did, reads, writes, accesses, passes, Moment, Use, use_reads, use_writes, used_at, uses_in}
use Rattle.eval_words.specs.Instr.{Ended, whole, cut, end_of, name_of_word, word_value, instr_of, moments_of_instr, uses_of_instr}
use Rattle.eval_uses.specs.Uses.{has_access, world_in, SameRest, with_registers, with_rest_of}
use Rattle.eval_uses.proofs.EachLemmas.{each_kept, each_quiet}
use Rattle.machine_safe.specs.First.{is_data, has_touched, IsPlainCut}
use Rattle.machine_safe.proofs.Seen.{Adds, AddsData, IsPlainEnd, IsBelow, MomentBelow, data_second}
use Rattle.machine_safe.proofs.SeenTrees.{seen_call}
use Rattle.machine_safe.proofs.Declared.{names_below}

-- the register of a use
abbrev pub register_in : Use → ℕ
register_in (use_reads r) = r
register_in (use_writes r) = r

-- it is among so many
abbrev pub UseBelow : ℕ → Use → Type 0
UseBelow n u = register_in u < n

used_below : (n : ℕ) (d : Did) (us : List Use) → IsBelow n d → All (UseBelow n) us → All (UseBelow n) (used_at d us)
used_below n (reads r) us b each = All-cons (UseBelow n) (use_reads r) us b each
used_below n (writes r) us b each = All-cons (UseBelow n) (use_writes r) us b each
used_below n accesses us b each = each
used_below n passes us b each = each

uses_below : (n : ℕ) (ms : List Moment) → All (MomentBelow n) ms → All (UseBelow n) (uses_in ms)
uses_below n [] each = All-nil (UseBelow n)
uses_below n (m ∷ ms) each = used_below n m.did (uses_in ms) (All-head (MomentBelow n) m ms each) (uses_below n ms (All-tail (MomentBelow n) m ms each))

-- ---- an instruction

end_world : {X : Type 0} (o : Out X) → (end_of o).1 ≡ world_in o
end_world (gives x l w) = refl
end_world (stops why w) = refl

end_rest : {X : Type 0} (v : World) (o : Out X) → end_of (with_rest_of v o) ≡ ((end_of o).0, with_registers (end_of o).1.state.registers v)
end_rest v (gives x l w) = refl
end_rest v (stops why w) = refl

-- an instruction that ends as a whole or by a fault of the text
abbrev pub IsPlainEnded : Ended → Type 0
IsPlainEnded whole = Unit {0}
IsPlainEnded (cut why) = IsPlainCut (cut why)

end_plain : {X : Type 0} (o : Out X) → IsPlainEnd o → IsPlainEnded (end_of o).0
end_plain (gives x l w) p = tt
end_plain (stops why w) p = (p.0, p.1, ap cut p.2, p.3)

-- how an instruction goes from a world where it accesses nothing
pub record IsCalm (defs : List Definition) (word : Word) (w : World) : Type 0 where
  pub does : (v : World) → v.state.registers ≡ w.state.registers
      → instr_of defs [] word v ≡ ((instr_of defs [] word w).0, with_registers (instr_of defs [] word w).1.state.registers v)
  pub used : (v : World) → v.state.registers ≡ w.state.registers → uses_of_instr defs [] word v ≡ uses_of_instr defs [] word w
  pub below : All (UseBelow (length (registers_of defs))) (uses_of_instr defs [] word w)
  pub rest : SameRest w (instr_of defs [] word w).1
  pub plain : IsPlainEnded (instr_of defs [] word w).0

pub calm_by : (defs : List Definition) (word : Word) (w : World) → has_access (moments_of_instr defs [] word w) ≡ false → IsCalm defs word w
unfolding instr_of moments_of_instr
calm_by defs word w calm =
    let law = each_quiet.names defs [] (name_of_word word) 0 (word_value word ∷ []) in
    let kept = each_kept.names defs [] (name_of_word word) 0 (word_value word ∷ []) w in
    let seen = seen_call (length (registers_of defs)) defs (names_below defs) [] (name_of_word word) 0 (word_value word ∷ []) in
    record {
      does = λ v same. ap end_of (law w v calm same).ends ∙ end_rest v _;
      used = λ v same. (law w v calm same).uses;
      below = uses_below (length (registers_of defs)) _ (seen.below w);
      rest = subst (SameRest w) (sym (end_world (call_of defs [] (name_of_word word) 0 (word_value word ∷ []) w))) (kept.rest calm);
      plain = end_plain _ (seen.plain w calm);
    }

-- an access is noted
pub notes : (defs : List Definition) (word : Word) (w : World) → has_access (moments_of_instr defs [] word w) ≡ true → AddsData w (instr_of defs [] word w).1
unfolding instr_of moments_of_instr
notes defs word w loud =
    let seen = seen_call (length (registers_of defs)) defs (names_below defs) [] (name_of_word word) 0 (word_value word ∷ []) in
    subst (AddsData w) (sym (end_world (call_of defs [] (name_of_word word) 0 (word_value word ∷ []) w))) (seen.noted w loud)

-- ---- what the log tells

drop_all_of : (l m : List Access) → drop (length l) (l ++ m) ≡ m
drop_all_of [] m = refl
drop_all_of (a ∷ l) m = drop_all_of l m

-- what was added
pub added_by : (old new more : List Access) → new ≡ old ++ more → drop (length old) new ≡ more
added_by old new more is = ap (drop (length old)) is ∙ drop_all_of old more

touched_by : (w x : World) → AddsData w x → has_touched w x ≡ true
touched_by w x a = ap (list_any is_data) (added_by w.accesses x.accesses a.0 a.1) ∙ a.2

-- where nothing but fetches is noted, the word accesses nothing
pub calm_untouched : (defs : List Definition) (word : Word) (w x : World) → Adds w x → has_touched w (instr_of defs [] word x).1 ≡ false
    → has_access (moments_of_instr defs [] word x) ≡ false
calm_untouched defs word w x adds quiet = by (has_access (moments_of_instr defs [] word x)) refl
  where
    by : (b : Bool) → has_access (moments_of_instr defs [] word x) ≡ b → b ≡ false
    by false is = refl
    by true is =
        absurd (true≢false (sym (touched_by w (instr_of defs [] word x).1 (data_second w x (instr_of defs [] word x).1 adds (notes defs word x is))) ∙ quiet))
