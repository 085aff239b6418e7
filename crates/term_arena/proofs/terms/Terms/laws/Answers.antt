use Rattle.term_arena.proofs.ViewLemmas.{arena_now}
use Rattle.term_arena.proofs.EqualLemmas.{typed_named, typed_arrays_named, equal_terms, equal_arrays}
use Rattle.term_arena.proofs.terms.Terms.laws.Goals as goal

pub returns : goal.returns
returns c = record {
  arena = arena_now c.self.inside.names c.self.inside.keys.keys c.self.inside.facts.items c.self.invariant c.args.self.now c.self.view_is;
  terms = typed_named c.args.self.now (arena_now c.self.inside.names c.self.inside.keys.keys c.self.inside.facts.items c.self.invariant c.args.self.now c.self.view_is);
  arrays = typed_arrays_named c.args.self.now (arena_now c.self.inside.names c.self.inside.keys.keys c.self.inside.facts.items c.self.invariant c.args.self.now c.self.view_is);
  equal = equal_terms c.args.self.now (arena_now c.self.inside.names c.self.inside.keys.keys c.self.inside.facts.items c.self.invariant c.args.self.now c.self.view_is);
  equal_arrays = equal_arrays c.args.self.now (arena_now c.self.inside.names c.self.inside.keys.keys c.self.inside.facts.items c.self.invariant c.args.self.now c.self.view_is);
}
