-- The type of an expression and all its faults, by cases on it: each fault is said as if the others weren't there.
use Rattle.std.specs.Prelude.{ℕ, ◌+◌, ◌&&◌, Bool, true, false, List, [], ◌∷◌, length, Option, Some, None, nat_eq, nat_le, if◌then◌else◌}
use Rattle.sail_syntax.specs.Tree.{Text, Tree, node, Form, unit, lit, truth, name, chain, flip, slice, update, call, widen, choose, when, cases, foreach, check, exit, assign, block, Trees, none, some, Case, arm, Cases, no_case, case, Step, binds, holds, does, Steps, done, next}
use Rattle.sail_syntax.specs.declared.tree.Infix.{Infix}
use Rattle.sail_syntax.specs.declared.types.Ty.{Ty}
use Rattle.sail_syntax.specs.declared.types.Ty.TheVariants as ty
use Rattle.sail_syntax.specs.declared.patterns.Pattern.{Pattern}
use Rattle.sail_syntax.specs.declared.patterns.Pattern.TheVariants as pattern
use Rattle.sail_syntax.specs.declared.patterns.Part.{Part}
use Rattle.sail_syntax.specs.declared.patterns.Part.TheVariants as part
use Rattle.type_rules.specs.declared.fault.Why.TheVariants.{Unknown, Twice}
use Rattle.type_rules.specs.declared.scope.Entry.{Entry}
use Rattle.type_rules.specs.declared.scope.Item.{Item}
use Rattle.type_rules.specs.declared.scope.Item.TheVariants as item
use Rattle.type_rules.specs.declared.scope.Slot.{Slot}
use Rattle.type_rules.specs.declared.scope.Sort.TheVariants.{Holds, Counts}
use Rattle.type_rules.specs.declared.scope.Local.{Local}
use Rattle.type_rules.specs.declared.scope.Ending.{Ending}
use Rattle.type_rules.specs.declared.scope.Ending.TheVariants as ending
use Rattle.type_rules.specs.Faults.{Faults, fine, both}
use Rattle.type_rules.specs.Names.{find, look}
use Rattle.type_rules.specs.Rules.{Judged, is, says, bind, or_else, or_type, place_of, fits, no_type, where_holds, bits_only, is_value, is_join, heads, chain_type, is_chain_of, count, widened, least_width, is_known, joined, between, indexed, widens, pattern_fits, literal_fits, part_width, is_part, parts_fit, has_arm, asked_of, assigned, slot_of, slots_after, narrowed, finished, counted, local_type, is_done, step_want, ended, read_name, taken, target_of, maybe_written, asked_slot, given_type}

-- after a statement: how the block has ended so far, the names, and the faults
pub record Stepped : Type 0 where
  pub ending : Ending
  pub scope : List Local
  pub faults : Faults

-- a new local
abbrev pub opens : Text → Bool → List Local → Judged → Stepped
opens x assigned scope j = record { ending = ending.Open; scope = record { name = x; sort = Holds j.type assigned } ∷ scope; faults = j.faults }

-- an expression
abbrev pub gives : List Local → Judged → Stepped
gives scope j = record { ending = ending.Value j.type; scope = scope; faults = j.faults }

-- a statement, and those after it
abbrev pub onward : Stepped → (Ending → List Local → Judged) → Judged
onward s f = record { type = (f s.ending s.scope).type; faults = both s.faults (f s.ending s.scope).faults }

-- a name: a member fits values of its enum, any other name is a new local
abbrev pub name_pattern : Text → ℕ → Option Ty → Option Item → Judged
name_pattern x at on (Some (item.Member e)) = pattern_fits at on (ty.Enum e)
name_pattern x at on (Some (item.Register w)) = says at (Twice x)
name_pattern x at on (Some item.Enum) = says at (Twice x)
name_pattern x at on (Some (item.Function ps r after)) = says at (Twice x)
name_pattern x at on None = is None

-- the locals that a part binds
abbrev pub entered_part : Part → List Local → List Local
entered_part (part.Lit b) scope = scope
entered_part (part.Bind x w) scope = record { name = x; sort = Holds (Some (ty.Bits w)) false } ∷ scope
entered_part (part.Skip w) scope = scope

-- those that parts bind
abbrev pub entered_parts : List Part → List Local → List Local
entered_parts [] scope = scope
entered_parts (p ∷ rest) scope = entered_parts rest (entered_part p scope)

-- those that a name binds: a member none, any other name itself
abbrev pub entered_name : Option Item → Text → Option Ty → List Local → List Local
entered_name (Some (item.Member e)) x on scope = scope
entered_name (Some (item.Register w)) x on scope = record { name = x; sort = Holds on false } ∷ scope
entered_name (Some item.Enum) x on scope = record { name = x; sort = Holds on false } ∷ scope
entered_name (Some (item.Function ps r after)) x on scope = record { name = x; sort = Holds on false } ∷ scope
entered_name None x on scope = record { name = x; sort = Holds on false } ∷ scope

module _ (globals : List Entry) where
  -- ---- patterns, where a value of a type is matched; the place is that of the arm's body

  -- the name of a part
  abbrev pub part_taken : ℕ → Part → Judged
  part_taken at (part.Lit b) = is None
  part_taken at (part.Bind x w) = taken globals x at
  part_taken at (part.Skip w) = is None

  -- parts, behind others that have so many bits in all
  abbrev pub judge_parts : List Part → ℕ → Bool → ℕ → Option Ty → Judged
  judge_parts [] total are_parts at on = parts_fit at on total are_parts
  judge_parts (p ∷ rest) total are_parts at on = bind (part_taken at p) (λ _. judge_parts rest (widened total (part_width p)) (are_parts && is_part p) at on)

  -- a pattern
  abbrev pub judge_pattern : Pattern → ℕ → Option Ty → Judged
  judge_pattern pattern.Any at on = is None
  judge_pattern (pattern.Name x) at on = name_pattern x at on (find x globals)
  judge_pattern (pattern.Lit b) at on = literal_fits at on b
  judge_pattern (pattern.Truth b) at on = pattern_fits at on ty.Bool
  judge_pattern (pattern.Parts ps) at on = judge_parts ps 0 true at on

  -- those that a pattern binds, where the matched value has the type
  abbrev pub entered : Pattern → Option Ty → List Local → List Local
  entered pattern.Any on scope = scope
  entered (pattern.Name x) on scope = entered_name (find x globals) x on scope
  entered (pattern.Lit b) on scope = scope
  entered (pattern.Truth b) on scope = scope
  entered (pattern.Parts ps) on scope = entered_parts ps scope

  -- ---- declarations

  -- the type of a new local, which may be written; the place is that of its value
  abbrev pub local : Text → Option Ty → ℕ → (Option Ty → Judged) → Judged
  local x t at value =
      bind (maybe_written globals at t) (λ asked. bind (taken globals x at) (λ _. bind (value asked) (λ got. is (local_type t asked got))))

  -- ---- expressions in the definition in front of which so many stand

  module _ (here : ℕ) where
    -- a call of a name, whose arguments are judged against what is asked of them; their type is that of the first one
    abbrev pub called : Text → ℕ → Option Ty → ℕ → (List Slot → Judged) → Option Item → Judged
    called f at want n args (Some (item.Function ps r after)) =
        bind (finished (nat_le after here) f at) (λ _.
        bind (args ps) (λ one. counted (nat_eq (length ps) n) at want (given_type globals r one)))
    called f at want n args (Some (item.Register w)) = bind (says at (Unknown f)) (λ _. bind (args []) (λ _. is None))
    called f at want n args (Some (item.Member e)) = bind (says at (Unknown f)) (λ _. bind (args []) (λ _. is None))
    called f at want n args (Some item.Enum) = bind (says at (Unknown f)) (λ _. bind (args []) (λ _. is None))
    called f at want n args None = bind (says at (Unknown f)) (λ _. bind (args []) (λ _. is None))

    abbrev mutual
      -- an expression, where its place asks for the type or for none
      pub judge : Tree → Option Ty → List Local → Judged
      judge (node at form) want scope = judge_form form at want scope

      -- what an expression is
      pub judge_form : Form → ℕ → Option Ty → List Local → Judged
      judge_form unit at want scope = fits at want (Some ty.Unit)
      judge_form (lit b) at want scope = where_holds (is_value b) at want (Some (ty.Bits b.width))
      judge_form (truth b) at want scope = fits at want (Some ty.Bool)
      judge_form (name x) at want scope = bind (read_name globals x at (look x scope)) (fits at want)
      judge_form (chain op parts) at want scope =
          if is_chain_of op (count parts)
          then (if is_join op then judge_joins parts 0 true at want scope else judge_chain parts op at want scope)
          else no_type at want
      judge_form (flip of) at want scope = bind (bind (judge of None scope) (bits_only (place_of of))) (fits at want)
      judge_form (slice of hi lo) at want scope =
          bind (bind (judge of None scope) (bits_only (place_of of))) (λ w. indexed at want hi lo scope w (Some (ty.Bits (between hi lo))))
      judge_form (update of hi lo by) at want scope =
          bind (bind (judge of None scope) (bits_only (place_of of))) (λ w.
          bind (indexed at want hi lo scope w w) (λ t.
          bind (judge by (Some (ty.Bits (between hi lo))) scope) (λ _. is t)))
      judge_form (call f args) at want scope = called f at want (count args) (λ params. judge_args args params scope) (find f globals)
      judge_form (widen signed to of) at want scope =
          bind (bind (judge of None scope) (bits_only (place_of of))) (λ w. where_holds (widens to w) at want (Some (ty.Bits to)))
      judge_form (choose test one other) at want scope =
          bind (judge test (Some ty.Bool) scope) (λ _.
          bind (judge one want scope) (λ t.
          bind (judge other (or_else want t) scope) (λ u. is (or_else (or_else want t) u))))
      judge_form (when test one) at want scope =
          bind (judge test (Some ty.Bool) scope) (λ _.
          bind (judge one (Some ty.Unit) scope) (λ _. fits at want (Some ty.Unit)))
      judge_form (cases on arms) at want scope =
          bind (judge on None scope) (λ t. if has_arm arms then judge_arms arms t want scope else no_type at want)
      judge_form (foreach x from to body) at want scope =
          bind (taken globals x at) (λ _.
          bind (judge body (Some ty.Unit) (record { name = x; sort = Counts from to } ∷ scope)) (λ _. fits at want (Some ty.Unit)))
      judge_form (check test text) at want scope = bind (judge test (Some ty.Bool) scope) (λ _. fits at want (Some ty.Unit))
      judge_form exit at want scope = is (Some (or_type want ty.Unit))
      judge_form (assign x by) at want scope =
          bind (judge by (asked_of (target_of globals (look x scope) x)) scope) (λ _. assigned x at want (target_of globals (look x scope) x))
      judge_form (block steps) at want scope = judge_steps steps ending.Open at want scope

      -- a chain of an operator that doesn't join
      pub judge_chain : Trees → Infix → ℕ → Option Ty → List Local → Judged
      judge_chain none op at want scope = no_type at want
      judge_chain (some t rest) op at want scope =
          bind (bind (judge t None scope) (heads op (place_of t))) (λ one.
          bind (judge_rest rest one scope) (λ _. fits at want (chain_type op one)))

      -- the parts of a chain behind the first one, each asked for its type
      pub judge_rest : Trees → Option Ty → List Local → Judged
      judge_rest none want scope = is None
      judge_rest (some t rest) want scope = bind (judge t want scope) (λ _. judge_rest rest want scope)

      -- bits that are joined, behind others that have so many in all
      pub judge_joins : Trees → ℕ → Bool → ℕ → Option Ty → List Local → Judged
      judge_joins none total all_known at want scope = joined at want total all_known
      judge_joins (some t rest) total all_known at want scope =
          bind (bind (judge t None scope) (bits_only (place_of t))) (λ w.
          judge_joins rest (widened total (least_width w)) (all_known && is_known w) at want scope)

      -- arguments, and the type of the first one; of those that are too many nothing is asked
      pub judge_args : Trees → List Slot → List Local → Judged
      judge_args none params scope = is None
      judge_args (some t rest) params scope =
          bind (bind (judge t (asked_slot globals (slot_of params) None) scope) (narrowed (slot_of params) (place_of t))) (λ one.
          bind (judge_others rest (slots_after params) one scope) (λ _. is one))

      -- the other arguments, where the first one has the type
      pub judge_others : Trees → List Slot → Option Ty → List Local → Judged
      judge_others none params one scope = is None
      judge_others (some t rest) params one scope =
          bind (bind (judge t (asked_slot globals (slot_of params) one) scope) (narrowed (slot_of params) (place_of t))) (λ _.
          judge_others rest (slots_after params) one scope)

      -- arms: the type that is asked for, or that of the first, is asked of each
      pub judge_arms : Cases → Option Ty → Option Ty → List Local → Judged
      judge_arms no_case on fixed scope = is fixed
      judge_arms (case (arm p body) rest) on fixed scope =
          bind (judge_pattern p (place_of body) on) (λ _.
          bind (judge body fixed (entered p on scope)) (λ t. judge_arms rest on (or_else fixed t) scope))

      -- statements, where the block has ended so far in this way
      pub judge_steps : Steps → Ending → ℕ → Option Ty → List Local → Judged
      judge_steps done last at want scope = ended at want last
      judge_steps (next s rest) last at want scope = onward (judge_step s (is_done rest) want scope) (λ last' scope'. judge_steps rest last' at want scope')

      -- a statement, the last one or not
      pub judge_step : Step → Bool → Option Ty → List Local → Stepped
      judge_step (does e) is_last want scope = gives scope (judge e (step_want is_last want) scope)
      judge_step (binds x t by) is_last want scope = opens x false scope (local x t (place_of by) (λ asked. judge by asked scope))
      judge_step (holds x t by) is_last want scope = opens x true scope (local x t (place_of by) (λ asked. judge by asked scope))
