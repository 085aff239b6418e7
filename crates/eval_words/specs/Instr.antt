-- What an instruction's word does: the call of `instr` on a word of four bytes, and of `instr16` on one of two.
use Rattle.std.specs.Prelude.{◌*◌, nat_eq, if◌then◌else◌, codes, List, [], ◌∷◌}
use Rattle.sail_syntax.specs.Tree.{Text}
use Rattle.sail_syntax.specs.Program.{Definition}
use Rattle.state_core.specs.World.{World, Halt}
use Rattle.state_core.specs.declared.kinds.Range.{Range}
use Rattle.state_core.specs.declared.word.Word.{Word}
use Rattle.sail_values.specs.declared.value.Value.{Value}
use Rattle.sail_values.specs.declared.value.Value.TheVariants as value
use Rattle.eval_rules.specs.Flow.{Out, gives, stops}
use Rattle.eval_rules.specs.Eval.{call_of}
use Rattle.eval_rules.specs.Moments.{Moment, Use, moments_of, uses_in}

-- an instruction ends as a whole, or early
pub data Ended : Type 0 where
  -- as a whole
  whole : Ended
  -- by a fault or for want of an answer
  cut : (why : Halt) → Ended

-- how an evaluation ends, and the world that it reaches
abbrev pub end_of : {X : Type 0} → Out X → Ended × World
end_of (gives x locals world) = (whole, world)
end_of (stops why world) = (cut why, world)

-- the function that a word is given to
abbrev pub name_of_word : Word → Text
name_of_word w = if nat_eq w.bytes 2 then codes "instr16" else codes "instr"

-- the argument that a word is
abbrev pub word_value : Word → Value
word_value w = value.Bits (record { width = 8 * w.bytes; value = w.bits })

-- what the word does
unfoldable pub instr_of : List Definition → List Range → Word → World → Ended × World
instr_of defs ranges w world = end_of (call_of defs ranges (name_of_word w) 0 (word_value w ∷ []) world)

-- the moments that it passes
unfoldable pub moments_of_instr : List Definition → List Range → Word → World → List Moment
moments_of_instr defs ranges w world = moments_of defs ranges (name_of_word w) (word_value w ∷ []) world

-- the registers that it uses
abbrev pub uses_of_instr : List Definition → List Range → Word → World → List Use
uses_of_instr defs ranges w world = uses_in (moments_of_instr defs ranges w world)
