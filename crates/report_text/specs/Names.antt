-- The names of the files of a check.
use Rattle.lex_core.specs.Classes.{Text}
use Rattle.report_text.specs.declared.names.Names.{Names}

-- the names of the Sail text, the image and the proof file
pub record Row : Type 0 where
  pub sail : Text
  pub image : Text
  pub proof : Text

-- the names as the code has them
abbrev pub row_named : Names → Row
row_named names = record { sail = names.sail.now; image = names.image.now; proof = names.proof.now }
