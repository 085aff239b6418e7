-- Expressions whose literals are bit vectors.
use Rattle.std.specs.Prelude.{⊤, List, [], ◌∷◌}
use Rattle.bv_bits.specs.Bits.{IsBits}
use Rattle.sail_syntax.specs.Tree.{Tree, node, Form, unit, lit, truth, name, chain, flip, slice, update, call, widen, choose, when, cases, foreach, check, exit, assign, block, Trees, none, some, arm, Cases, no_case, case, Step, binds, holds, does, Steps, done, next}
use Rattle.sail_syntax.specs.Program.{Definition, order, register, enumeration, signature, function}
use Rattle.sail_syntax.specs.declared.patterns.Pattern.{Pattern}
use Rattle.sail_syntax.specs.declared.patterns.Pattern.TheVariants as pattern
use Rattle.sail_syntax.specs.declared.patterns.Part.{Part}
use Rattle.sail_syntax.specs.declared.patterns.Part.TheVariants as part

-- ---- patterns

abbrev pub IsSoundPart : Part → Type 0
IsSoundPart (part.Lit b) = IsBits b
IsSoundPart (part.Bind x w) = ⊤
IsSoundPart (part.Skip w) = ⊤

abbrev pub AreSoundParts : List Part → Type 0
AreSoundParts [] = ⊤
AreSoundParts (p ∷ ps) = IsSoundPart p × AreSoundParts ps

abbrev pub IsSoundPattern : Pattern → Type 0
IsSoundPattern pattern.Any = ⊤
IsSoundPattern (pattern.Name x) = ⊤
IsSoundPattern (pattern.Lit b) = IsBits b
IsSoundPattern (pattern.Truth b) = ⊤
IsSoundPattern (pattern.Parts ps) = AreSoundParts ps

-- ---- expressions

abbrev mutual
  pub IsSound : Tree → Type 0
  IsSound (node at form) = IsSoundForm form

  pub IsSoundForm : Form → Type 0
  IsSoundForm unit = ⊤
  IsSoundForm (lit b) = IsBits b
  IsSoundForm (truth b) = ⊤
  IsSoundForm (name x) = ⊤
  IsSoundForm (chain op parts) = AreSound parts
  IsSoundForm (flip of) = IsSound of
  IsSoundForm (slice of hi lo) = IsSound of
  IsSoundForm (update of hi lo by) = IsSound of × IsSound by
  IsSoundForm (call f args) = AreSound args
  IsSoundForm (widen signed to of) = IsSound of
  IsSoundForm (choose test one other) = IsSound test × IsSound one × IsSound other
  IsSoundForm (when test one) = IsSound test × IsSound one
  IsSoundForm (cases of arms) = IsSound of × AreSoundArms arms
  IsSoundForm (foreach x from to body) = IsSound body
  IsSoundForm (check test text) = IsSound test
  IsSoundForm exit = ⊤
  IsSoundForm (assign x by) = IsSound by
  IsSoundForm (block steps) = AreSoundSteps steps

  pub AreSound : Trees → Type 0
  AreSound none = ⊤
  AreSound (some t rest) = IsSound t × AreSound rest

  pub AreSoundArms : Cases → Type 0
  AreSoundArms no_case = ⊤
  AreSoundArms (case (arm p body) rest) = IsSoundPattern p × IsSound body × AreSoundArms rest

  pub IsSoundStep : Step → Type 0
  IsSoundStep (binds x ty by) = IsSound by
  IsSoundStep (holds x ty by) = IsSound by
  IsSoundStep (does e) = IsSound e

  pub AreSoundSteps : Steps → Type 0
  AreSoundSteps done = ⊤
  AreSoundSteps (next s rest) = IsSoundStep s × AreSoundSteps rest

-- ---- definitions

abbrev pub IsSoundDefinition : Definition → Type 0
IsSoundDefinition order = ⊤
IsSoundDefinition (register x width at) = ⊤
IsSoundDefinition (enumeration x members at) = ⊤
IsSoundDefinition (signature x args result at) = ⊤
IsSoundDefinition (function f) = IsSound f.body

abbrev pub AreSoundDefinitions : List Definition → Type 0
AreSoundDefinitions [] = ⊤
AreSoundDefinitions (d ∷ ds) = IsSoundDefinition d × AreSoundDefinitions ds
