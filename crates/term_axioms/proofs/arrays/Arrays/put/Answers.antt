use Rattle.std.proofs.Common.{◌≡◌, ℕ, ap, ◌∙◌, rules}
use Rattle.std.specs.Prelude.{bytes_eq}
use Rattle.std.specs.Global.{Vec}
use Rattle.std.specs.Map.{lookup}
use Rattle.indexmap.specs.IndexMap.{get_by}
use Rattle.indexmap.proofs.CallerLemmas.{insert_entry-new}
use Rattle.term_arena.proofs.NameLemmas.{same_key}
use Rattle.term_tree.specs.Terms.{Text}
use Rattle.term_axioms.proofs.ArrayLemmas.{lookup_last}
use Rattle.term_axioms.proofs.arrays.Arrays.put.Goals as goal

pub returns : goal.returns
returns c = λ f.
    let key = c.extend_from_slice.new.self in
    let old = c.args.self.now.numbers in
    let items : key.items ≡ c.args.name.now = search rules in
    let absent = ap (λ (t : Text). get_by (λ (k : Vec ℕ). bytes_eq t k.items) old) items ∙ c.requires in
    let entries = c.in_ok-insert.ensures.entries ∙ insert_entry-new same_key old key c.args.number absent in
    ap (lookup (λ (k : Vec ℕ). bytes_eq f k.items)) entries ∙ lookup_last old.entries key c.args.number c.args.name.now f items c.requires
