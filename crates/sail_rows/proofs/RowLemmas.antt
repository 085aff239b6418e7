-- A match with one arm more, as the machine's frame.
use Rattle.std.proofs.Common.{◌≡◌, ℕ, List, [], ◌∷◌, ◌++◌, map, sym, ap, ◌∙◌}
use Rattle.std.proofs.lemmas.List.{map_push}
use Rattle.sail_syntax.specs.View.{choice_of, tree}
use Rattle.sail_syntax.specs.declared.tree.Arm.{Arm}
use Rattle.sail_syntax.specs.declared.tree.Expr.{Expr}
use Rattle.sail_machine.specs.Frames as m
use Rattle.sail_frames.specs.declared.frame.Frame.{Frame}
use Rattle.sail_frames.specs.declared.frame.Frame.TheVariants as frame
use Rattle.sail_frames.specs.View.{frames_of}

pub more_arms : (k k' : List Frame) (on : Expr) (cs cs' : List Arm) (c : Arm) (at : ℕ) → cs' ≡ cs ++ c ∷ [] → k' ≡ frame.Arms on cs' at ∷ k → m.arms (tree on) (map choice_of cs ++ choice_of c ∷ []) at ∷ frames_of k ≡ frames_of k'
more_arms k k' on cs cs' c at more pushed =
    ap (λ xs. m.arms (tree on) xs at ∷ frames_of k) (sym (map_push choice_of cs c) ∙ ap (map choice_of) (sym more)) ∙ sym (ap frames_of pushed)
