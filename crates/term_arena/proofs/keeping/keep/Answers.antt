use Rattle.std.proofs.Common.{◌≡◌, false, Some, ap, sym, ◌∙◌}
use Rattle.std.specs.List.{list_any}
use Rattle.term_arena.specs.contracts.node.KeyPartialEq.TheImpl as key_eq
use Rattle.term_arena.proofs.KeyLemmas.{key_decides, distinct_keys, not_kept}
use Rattle.term_arena.proofs.keeping.keep.Goals as goal

pub returns-then-not-contains-clause-full : goal.returns-then-not-contains-clause-full
returns-then-not-contains-clause-full c e =
    let h : list_any (key_eq.eq-value.it c.args.key) c.args.keys.now.keys ≡ false = sym c.contains.ensures ∙ c.if-not-contains.true in
    (sym c.len-count.ensures.len ∙ c.if-count-eq-LIMIT.true, not_kept c.args.key c.args.keys.now.keys h)

pub returns-then-len-count-clause-stored : goal.returns-then-len-count-clause-stored
returns-then-len-count-clause-stored c =
    let s = c.in-Ok-insert_full.ensures.stored in
    s.1 ∙ ap Some (sym ((key_decides c.args.key s.0).0 s.2))

pub returns-then-len-count-clause-once : goal.returns-then-len-count-clause-once
returns-then-len-count-clause-once c = distinct_keys c.insert_full.new.self.keys c.in-Ok-insert_full.ensures.unique

pub returns-else-len-count-clause-stored : goal.returns-else-len-count-clause-stored
returns-else-len-count-clause-stored c =
    let s = c.in-Ok-insert_full.ensures.stored in
    s.1 ∙ ap Some (sym ((key_decides c.args.key s.0).0 s.2))

pub returns-else-len-count-clause-once : goal.returns-else-len-count-clause-once
returns-else-len-count-clause-once c = distinct_keys c.insert_full.new.self.keys c.in-Ok-insert_full.ensures.unique
