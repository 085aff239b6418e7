-- The words of instructions.
use Rattle.std.specs.Prelude.{◌≡◌, ◌<◌, ◌⊎◌, ◌*◌, ◌^◌}
use Rattle.state_core.specs.declared.word.Word.{Word}

-- a word of two or four bytes, and a number that fits in them
pub record IsWord (w : Word) : Type 0 where
  pub size : (w.bytes ≡ 2) ⊎ (w.bytes ≡ 4)
  pub fits : w.bits < 2 ^ (8 * w.bytes)
