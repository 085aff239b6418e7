-- The code's array terms, one form at a time.
use Rattle.std.specs.Prelude.{◌≡◌}
use Rattle.term_tree.specs.declared.trees.ArrayForm.{ArrayForm}
use Rattle.term_tree.specs.declared.trees.ArrayForm.TheVariants as form
use Rattle.term_tree.specs.Terms.{ArrayTree, array, upd, splice}
use Rattle.term_tree.specs.View.{tree, array_tree}

-- the form of an array term, and its parts
abbrev pub IsArrayForm : ArrayTree → ArrayForm → Type 0
IsArrayForm t (form.Var f) = t ≡ array f.now
IsArrayForm t (form.Upd of i e) = t ≡ upd (array_tree of.now) (tree i.now) (tree e.now)
IsArrayForm t (form.Splice of below i) = t ≡ splice (array_tree of.now) (array_tree below.now) (tree i.now)
