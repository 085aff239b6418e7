-- The code's terms, one form at a time.
use Rattle.std.specs.Prelude.{◌≡◌}
use Rattle.term_tree.specs.declared.trees.Form.{Form}
use Rattle.term_tree.specs.declared.trees.Form.TheVariants as form
use Rattle.term_tree.specs.Terms.{Tree, lit, var, one, two, three, sel}
use Rattle.term_tree.specs.View.{tree}

-- the form of a term, and its parts
abbrev pub IsForm : Tree → Form → Type 0
IsForm t (form.Lit b) = t ≡ lit b
IsForm t (form.Var x w) = t ≡ var x.now w
IsForm t (form.One op a) = t ≡ one op (tree a.now)
IsForm t (form.Two op a b) = t ≡ two op (tree a.now) (tree b.now)
IsForm t (form.Three op a b c) = t ≡ three op (tree a.now) (tree b.now) (tree c.now)
IsForm t (form.Sel f i) = t ≡ sel f.now (tree i.now)
