-- Expressions are accepted exactly by the judgement, and have one type.
use Rattle.std.proofs.Common.{◌≡◌, ℕ, List, Option, Some, refl, sym, ap, ◌∙◌}
use Rattle.sail_syntax.specs.Tree.{Tree}
use Rattle.sail_syntax.specs.declared.types.Ty.{Ty}
use Rattle.type_rules.specs.declared.scope.Entry.{Entry}
use Rattle.type_rules.specs.declared.scope.Local.{Local}
use Rattle.type_rules.specs.HasType.{HasType}
use Rattle.type_rules.specs.Judge.{judge}
use Rattle.type_rules.specs.Laws.{Known, AllHaveTypes, Exact, TypingIsExact, TypesAreOne}
use Rattle.type_rules.proofs.SoundLemmas.{sound}
use Rattle.type_rules.proofs.CompleteLemmas.{complete}

pub exact : TypingIsExact
exact globals here e want scope types known = record {
  sound = λ c. let r = sound globals types here e want scope known c in (r.type, (r.is, r.has));
  complete = λ t h. complete globals types here e want scope t h;
}

some_is : (t u : Ty) → Some t ≡ Some u → t ≡ u
some_is t u h = cc

pub one_type : TypesAreOne
one_type globals here e want scope t u types h k =
    some_is t u (sym (complete globals types here e want scope t h).0 ∙ (complete globals types here e want scope u k).0)
