-- What a call that made a term answers.
use Rattle.std.proofs.Common.{◌≡◌, List, subst}
use Rattle.std.specs.Prelude.{Result, Ok, Err, IfOk}
use Rattle.term_tree.specs.declared.term.TermFault.{TermFault}
use Rattle.term_make.specs.Making.{Made}
use Rattle.term_arena.specs.Nodes.{Node, Keeps}
use Rattle.term_arena.specs.Said.{Answer, Answers, said_of}
use Rattle.term_arena.specs.Makes.{Makes}
use Rattle.term_arena.proofs.MeaningLemmas.{keeps_itself}

pub answer_is : {A : Type 0} (x y : A) → (let a : Answer ⊥ A = Answers x in a) ≡ Answers y → x ≡ y
answer_is x y h = cc

-- what is made is what its number stands for
pub makes_it : {T A : Type 0} (old new : List Node) (view : List Node → T → A) (x : T) (m : List Node → Made A) → Makes old new view (Ok x) (λ last. said_of (m last)) → (last : List Node) → Keeps new last → (m last).it ≡ view last x
makes_it old new view x m h last k = answer_is (m last).it (view last x) (h.tells last k).0

-- and so what holds of it holds of the term of its number
pub makes_has : {T A : Type 0} (P : A → Type 0) (old new : List Node) (view : List Node → T → A) (r : Result T TermFault) (m : List Node → Made A) → Makes old new view r (λ last. said_of (m last)) → P (m new).it → IfOk r (λ x. P (view new x))
makes_has P old new view (Ok x) m h p = subst P (makes_it old new view x m h new (keeps_itself new)) p
makes_has P old new view (Err e) m h p = tt
