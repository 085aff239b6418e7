-- The first fault of many.
use Rattle.std.proofs.Common.{◌≡◌, ℕ, ◌<◌, ◌≤◌, Bool, true, false, Option, Some, None, refl, sym, ap, ◌∙◌, subst, arith, inl, inr, nat_eq, nat_lt}
use Rattle.std.proofs.lemmas.Bool.Decides.{nat_tests}
use Rattle.std.specs.Prelude.{◌⊎◌, ⊤, ◌&&◌, ◌||◌, if◌then◌else◌, ◌↔◌}
use Rattle.type_rules.specs.declared.fault.Fault.{Fault}
use Rattle.type_rules.specs.Faults.{Faults, fine, fault, both, number, sooner, better, first_from, first, Clean, IsSaid}
use Rattle.type_rules.specs.Laws.{FirstOf}

-- nearer to the front, or at the same place with a lower number
abbrev before : ℕ → ℕ → ℕ → ℕ → Bool
before at n at' n' = nat_lt at at' || (nat_eq at at' && nat_lt n n')

-- g isn't before f
abbrev Behind : Fault → Option Fault → Type 0
Behind g None = ⊥
Behind g (Some f) = sooner g f ≡ false

before_refl : (a n : ℕ) → before a n a n ≡ false
before_refl a n = grind (arith, nat_tests)

-- c before b, and a not before b: a isn't before c
before_chain : (a n b m c k : ℕ) → before a n b m ≡ false → before c k b m ≡ true → before a n c k ≡ false
before_chain a n b m c k p q = grind (arith, nat_tests)

better_is : (best : Option Fault) (f : Fault) → Behind f (better best f)
better_is None f = before_refl f.at (number f.why)
better_is (Some b) f = step (sooner f b) refl
  where
    step : (t : Bool) → sooner f b ≡ t → Behind f (if t then Some f else Some b)
    step true e = before_refl f.at (number f.why)
    step false e = e

better_keeps : (best : Option Fault) (f g : Fault) → Behind g best → Behind g (better best f)
better_keeps None f g h = absurd h
better_keeps (Some b) f g h = step (sooner f b) refl
  where
    step : (t : Bool) → sooner f b ≡ t → Behind g (if t then Some f else Some b)
    step true e = before_chain g.at (number g.why) b.at (number b.why) f.at (number f.why) h e
    step false e = h

keeps : (fs : Faults) (best : Option Fault) (g : Fault) → Behind g best → Behind g (first_from best fs)
keeps fine best g h = h
keeps (fault f) best g h = better_keeps best f g h
keeps (both a b) best g h = keeps b (first_from best a) g (keeps a best g h)

said_behind : (fs : Faults) (best : Option Fault) (g : Fault) → IsSaid g fs → Behind g (first_from best fs)
said_behind fine best g h = absurd h
said_behind (fault f) best g h = subst (λ k. Behind k (better best f)) (sym h) (better_is best f)
said_behind (both a b) best g (inl h) = keeps b (first_from best a) g (said_behind a best g h)
said_behind (both a b) best g (inr h) = said_behind b (first_from best a) g h

-- the better one is the old one or the new one
better_from : (best : Option Fault) (g f : Fault) → better best g ≡ Some f → (best ≡ Some f) ⊎ (f ≡ g)
better_from None g f e = let h : f ≡ g = cc in inr h
better_from (Some b) g f e = step (sooner g b) e
  where
    step : (t : Bool) → (if t then Some g else Some b) ≡ Some f → (Some b ≡ Some f) ⊎ (f ≡ g)
    step true e' = let h : f ≡ g = cc in inr h
    step false e' = inl e'

-- where the first one comes from
from : (fs : Faults) (best : Option Fault) (f : Fault) → first_from best fs ≡ Some f → (best ≡ Some f) ⊎ IsSaid f fs
from fine best f e = inl e
from (fault g) best f e = better_from best g f e
from (both a b) best f e = elim (from b (first_from best a) f e) [ inl h ↦ (elim (from a best f h) [ inl k ↦ inl k | inr k ↦ inr (inl k) ]) | inr h ↦ inr (inr h) ]

clean_first : (fs : Faults) (best : Option Fault) → Clean fs → first_from best fs ≡ best
clean_first fine best h = refl
clean_first (fault f) best h = absurd h
clean_first (both a b) best h = clean_first b (first_from best a) h.1 ∙ clean_first a best h.0

-- nothing said is clean
unsaid_clean : (fs : Faults) → ((g : Fault) → IsSaid g fs → ⊥) → Clean fs
unsaid_clean fine h = tt
unsaid_clean (fault f) h = h f refl
unsaid_clean (both a b) h = (unsaid_clean a (λ g k. h g (inl k)), unsaid_clean b (λ g k. h g (inr k)))

pub first_of : (fs : Faults) → FirstOf fs
first_of fs = record {
  clean = ((λ e. unsaid_clean fs (λ g k. subst (Behind g) e (said_behind fs None g k))), clean_first fs None);
  said = λ f e. elim (from fs None f e) [ inl h ↦ absurd cc | inr h ↦ h ];
  least = λ f g e h. subst (Behind g) e (said_behind fs None g h);
}
