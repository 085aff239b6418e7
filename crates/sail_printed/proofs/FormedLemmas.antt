-- What words of a text spell has the form that the law of printing asks for: expressions and what they hold.
use Rattle.std.proofs.Common.{◌≡◌, ◌≤◌, ℕ, Bool, true, false, List, [], ◌∷◌, Option, Some, None, arith}
use Rattle.std.specs.Bool.{⊤}
use Rattle.sail_syntax.specs.Tree.{Tree, node, block, Trees, none, some, Case, arm, Cases, no_case, case, Step, Steps}
use Rattle.sail_syntax.specs.declared.tree.Infix.{Infix}
use Rattle.sail_syntax.specs.declared.tree.Index.{Index}
use Rattle.sail_syntax.specs.declared.patterns.Pattern.{Pattern}
use Rattle.sail_syntax.specs.declared.patterns.Part.{Part}
use Rattle.sail_syntax.specs.declared.types.Ty.{Ty}
use Rattle.sail_grammar.specs.Words.{Words}
use Rattle.sail_grammar.specs.Expressions.{repeats, SpellsType, bits_type, bool_type, unit_type, enum_type, SpellsWritten, no_type, a_type, SpellsIndex, at_number, at_name, at_sum, SpellsPart, part_value, part_name, part_any, SpellsParts, last_part, more_parts, SpellsPattern, any_value, a_name, a_value, if_true, if_false, in_parts, Spells, alone, in_chain, if_then, if_else, by_cases, for_each, assigned, SpellsOperand, unsliced, sliced, SpellsRest, last_operand, more_operands, SpellsAtom, a_literal, is_true, is_false, nothing, inside, braces, flipped, updated, by_zeros, by_sign, asserted, exits, called_alone, called, a_local, SpellsArguments, last_argument, more_arguments, SpellsBlock, no_statement, statements, SpellsStatements, last_statement, one_more, more_statements, SpellsStatement, let_it_be, var_it_is, done_alone, SpellsArm, in_case, SpellsArms, last_arm, last_comma, more_arms}
use Rattle.sail_printed.specs.Forms.{IsFormedType, IsFormedWritten, IsFormedIndex, IsFormedPart, AreFormedParts, IsFormedPattern, IsBlock, IsFormed, AreFormed, IsFormedRest, IsFormedCase, AreFormedCases, IsFormedStep, AreFormedSteps}
use Rattle.sail_printed.proofs.WordLemmas.{HaveSigns}

-- ---- what holds no expression

pub type_formed : {n : ℕ} {ts r : Words} {t : Ty} → SpellsType n ts t r → HaveSigns ts → IsFormedType t × HaveSigns r
type_formed (bits_type w) h = (w, h.1.1.1.1)
type_formed bool_type h = (tt, h.1)
type_formed unit_type h = (tt, h.1)
type_formed enum_type h = (h.0, h.1)

written_formed : {n : ℕ} {ts r : Words} {t : Option Ty} → SpellsWritten n ts t r → HaveSigns ts → IsFormedWritten t × HaveSigns r
written_formed no_type h = (tt, h)
written_formed (a_type d) h = type_formed d h.1

index_formed : {ts r : Words} {i : Index} → SpellsIndex ts i r → HaveSigns ts → IsFormedIndex i × HaveSigns r
index_formed (at_number l) h = ((tt, l), h.1)
index_formed at_name h = ((h.0, omega arith), h.1)
index_formed (at_sum l) h = ((h.0, l), h.1.1.1)

part_formed : {n : ℕ} {ts r : Words} {p : Part} → SpellsPart n ts p r → HaveSigns ts → IsFormedPart p × HaveSigns r
part_formed part_value h = (h.0, h.1)
part_formed (part_name w) h = ((h.0, w), h.1.1.1.1.1.1)
part_formed (part_any w) h = (w, h.1.1.1.1.1.1)

one_part_more : (p : Part) (ps : List Part) → IsFormedPart p → AreFormedParts ps → AreFormedParts (p ∷ ps)
one_part_more p [] a b = absurd b
one_part_more p (q ∷ ps) a b = (a, b)

parts_formed : {n : ℕ} {ts r : Words} {ps : List Part} → SpellsParts n ts ps r → HaveSigns ts → AreFormedParts ps × HaveSigns r
parts_formed (last_part d) h = part_formed d h
parts_formed (more_parts {a = p} {all = ps} d e) h =
    let a = part_formed d h in
    let b = parts_formed e a.1.1 in
    (one_part_more p ps a.0 b.0, b.1)

pattern_formed : {n : ℕ} {ts r : Words} {p : Pattern} → SpellsPattern n ts p r → HaveSigns ts → IsFormedPattern p × HaveSigns r
pattern_formed any_value h = (tt, h.1)
pattern_formed a_name h = (h.0, h.1)
pattern_formed a_value h = (h.0, h.1)
pattern_formed if_true h = (tt, h.1)
pattern_formed if_false h = (tt, h.1)
pattern_formed (in_parts d e) h =
    let a = part_formed d h in
    let b = parts_formed e a.1.1 in
    ((a.0, b.0), b.1)

-- ---- expressions

one_operand_more : (op : Infix) (t : Tree) (ts : Trees) → IsFormed t → repeats op ≡ true → IsFormedRest op ts → IsFormedRest op (some t ts)
one_operand_more op t none a b c = absurd c
one_operand_more op t (some u us) a b c = (a, b, c)

one_arm_more : (c : Case) (cs : Cases) → IsFormedCase c → AreFormedCases cs → AreFormedCases (case c cs)
one_arm_more c no_case a b = absurd b
one_arm_more c (case d rest) a b = (a, b)

is_block : {n : ℕ} {ts r : Words} {x : Tree} → SpellsBlock n ts x r → IsBlock x
is_block no_statement = tt
is_block (statements d) = tt

mutual
  pub tree_formed : {n : ℕ} {o : Bool} {ts r : Words} {x : Tree} → Spells n o ts x r → HaveSigns ts → IsFormed x × HaveSigns r
  tree_formed (alone d) h = operand_formed d h
  tree_formed (in_chain d e) h =
      let a = operand_formed d h in
      let b = rest_formed e a.1.1 in
      ((a.0, b.0), b.1)
  tree_formed (if_then d e) h =
      let a = tree_formed d h.1 in
      let b = tree_formed e a.1.1 in
      ((a.0, b.0), b.1)
  tree_formed (if_else d e g) h =
      let a = tree_formed d h.1 in
      let b = tree_formed e a.1.1 in
      let c = tree_formed g b.1.1 in
      ((a.0, b.0, c.0), c.1)
  tree_formed (by_cases d e) h =
      let a = tree_formed d h.1 in
      let b = arms_formed e a.1.1 in
      ((a.0, b.0), b.1)
  tree_formed (for_each i j d) h =
      let a = block_formed d h.1.1.1.1.1.1.1.1 in
      ((h.1.1.0, i, j, is_block d, a.0), a.1)
  tree_formed (assigned d) h =
      let a = tree_formed d h.1.1 in
      ((h.0, a.0), a.1)

  operand_formed : {n c : ℕ} {ts r : Words} {x : Tree} → SpellsOperand n c ts x r → HaveSigns ts → IsFormed x × HaveSigns r
  operand_formed (unsliced d) h = atom_formed d h
  operand_formed (sliced d l i j) h =
      let a = operand_formed d h in
      let b = index_formed i a.1.1 in
      let c = index_formed j b.1.1 in
      ((a.0, b.0, c.0), c.1.1)

  rest_formed : {n : ℕ} {op : Infix} {ts r : Words} {xs : Trees} → SpellsRest n op ts xs r → HaveSigns ts → IsFormedRest op xs × HaveSigns r
  rest_formed (last_operand d) h = operand_formed d h
  rest_formed (more_operands {op = op} {x = x} {xs = xs} d repeated e) h =
      let a = operand_formed d h in
      let b = rest_formed e a.1.1 in
      (one_operand_more op x xs a.0 repeated b.0, b.1)

  atom_formed : {n : ℕ} {ts r : Words} {x : Tree} → SpellsAtom n ts x r → HaveSigns ts → IsFormed x × HaveSigns r
  atom_formed a_literal h = (h.0, h.1)
  atom_formed is_true h = (tt, h.1)
  atom_formed is_false h = (tt, h.1)
  atom_formed nothing h = (tt, h.1.1)
  atom_formed (inside d) h = let a = tree_formed d h.1 in (a.0, a.1.1)
  atom_formed (braces d) h = block_formed d h
  atom_formed (flipped d) h = let a = tree_formed d h.1.1 in (a.0, a.1.1)
  atom_formed (updated d i j e) h =
      let a = tree_formed d h.1 in
      let b = index_formed i a.1.1 in
      let c = index_formed j b.1.1 in
      let f = tree_formed e c.1.1 in
      ((a.0, b.0, c.0, f.0), f.1.1)
  atom_formed (by_zeros w d) h = let a = tree_formed d h.1.1.1.1 in ((w, a.0), a.1.1)
  atom_formed (by_sign w d) h = let a = tree_formed d h.1.1.1.1 in ((w, a.0), a.1.1)
  atom_formed (asserted d) h = let a = tree_formed d h.1.1 in ((a.0, a.1.1.0), a.1.1.1.1)
  atom_formed exits h = (tt, h.1.1.1)
  atom_formed called_alone h = ((h.0, tt), h.1.1.1)
  atom_formed (called d) h = let a = arguments_formed d h.1.1 in ((h.0, a.0), a.1)
  atom_formed a_local h = (h.0, h.1)

  arguments_formed : {n : ℕ} {ts r : Words} {xs : Trees} → SpellsArguments n ts xs r → HaveSigns ts → AreFormed xs × HaveSigns r
  arguments_formed (last_argument d) h = let a = tree_formed d h in ((a.0, tt), a.1.1)
  arguments_formed (more_arguments d e) h =
      let a = tree_formed d h in
      let b = arguments_formed e a.1.1 in
      ((a.0, b.0), b.1)

  block_formed : {n : ℕ} {ts r : Words} {x : Tree} → SpellsBlock n ts x r → HaveSigns ts → IsFormed x × HaveSigns r
  block_formed no_statement h = (tt, h.1.1)
  block_formed (statements d) h = steps_formed d h.1

  steps_formed : {n : ℕ} {ts r : Words} {ss : Steps} → SpellsStatements n ts ss r → HaveSigns ts → AreFormedSteps ss × HaveSigns r
  steps_formed (last_statement d) h = let a = step_formed d h in ((a.0, tt), a.1.1)
  steps_formed (one_more d) h = let a = step_formed d h in ((a.0, (tt, tt)), a.1.1.1)
  steps_formed (more_statements d e) h =
      let a = step_formed d h in
      let b = steps_formed e a.1.1 in
      ((a.0, b.0), b.1)

  step_formed : {n : ℕ} {ts r : Words} {s : Step} → SpellsStatement n ts s r → HaveSigns ts → IsFormedStep s × HaveSigns r
  step_formed (let_it_be d e) h =
      let a = written_formed d h.1.1 in
      let b = tree_formed e a.1.1 in
      ((h.1.0, a.0, b.0), b.1)
  step_formed (var_it_is d e) h =
      let a = written_formed d h.1.1 in
      let b = tree_formed e a.1.1 in
      ((h.1.0, a.0, b.0), b.1)
  step_formed (done_alone d) h = tree_formed d h

  arm_formed : {n : ℕ} {ts r : Words} {c : Case} → SpellsArm n ts c r → HaveSigns ts → IsFormedCase c × HaveSigns r
  arm_formed (in_case d e) h =
      let a = pattern_formed d h in
      let b = tree_formed e a.1.1 in
      ((a.0, b.0), b.1)

  arms_formed : {n : ℕ} {ts r : Words} {cs : Cases} → SpellsArms n ts cs r → HaveSigns ts → AreFormedCases cs × HaveSigns r
  arms_formed (last_arm d) h = let a = arm_formed d h in (a.0, a.1.1)
  arms_formed (last_comma d) h = let a = arm_formed d h in (a.0, a.1.1.1)
  arms_formed (more_arms {c = c} {all = cs} d e) h =
      let a = arm_formed d h in
      let b = arms_formed e a.1.1 in
      (one_arm_more c cs a.0 b.0, b.1)
