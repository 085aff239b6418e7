-- What the parts of an evaluation pass is passed by the whole.
use Rattle.std.proofs.Common.{◌≡◌, suc, List, [], ◌∷◌, ◌++◌, refl, sym, subst, ◌∙◌, inl, inr, arith}
use Rattle.std.specs.Prelude.{Any}
use Rattle.std.proofs.lemmas.List.{get_or_append_left, length-append}
use Rattle.state_core.specs.World.{World}
use Rattle.sail_values.specs.declared.value.Slot.{Slot}
use Rattle.eval_rules.specs.Flow.{Out, gives}
use Rattle.eval_rules.specs.Moments.{passes, Moment, Passing, IsPassed, following}

any_there : {X : Type 0} (P : X → Type 0) (y : X) (l : List X) → Any P l → Any P (y ∷ l)
any_there P y l a = (suc a.0, a.1, omega (arith, a.2), a.3, a.4)

any_second : {X : Type 0} (P : X → Type 0) (l m : List X) → Any P m → Any P (l ++ m)
any_second P [] m a = a
any_second P (x ∷ l) m a = any_there P x (l ++ m) (any_second P l m a)

any_first : {X : Type 0} (P : X → Type 0) (l m : List X) → Any P l → Any P (l ++ m)
any_first P l m a = (a.0, a.1, omega (arith, a.2, length-append l m), get_or_append_left l m a.1 a.0 a.2 ∙ a.3, a.4)

-- a moment at which one part is done
abbrev pub passed_at : World → Moment
passed_at w = record { did = passes; world = w }

-- what the first moments pass
pub passed_first : (ms ns : List Moment) (w x : World) → IsPassed x w ms → IsPassed x w (ms ++ ns)
passed_first ms ns w x (inl e) = inl e
passed_first ms ns w x (inr a) = inr (any_first (λ m. m.world ≡ x) ms ns a)

-- what the last moments pass, and the world in which they begin
pub passed_second : (ms ns : List Moment) (w x y : World) → IsPassed y x ns → IsPassed y w (ms ++ passed_at x ∷ ns)
passed_second ms ns w x y (inl e) = inr (any_second (λ m. m.world ≡ y) ms (passed_at x ∷ ns) (0, passed_at x, omega arith, refl, sym e))
passed_second ms ns w x y (inr a) =
    inr (any_second (λ m. m.world ≡ y) ms (passed_at x ∷ ns) (any_there (λ m. m.world ≡ y) (passed_at x) ns a))

-- ---- parts

-- what is passed from this world on, by these moments, the whole passes from where it begins
pub record IsPart (start : World) (ms : List Moment) (before : World) (all : List Moment) : Type 0 where
  pub passed : (x : World) → IsPassed x start ms → IsPassed x before all

-- the whole
pub part_whole : (w : World) (ms : List Moment) → IsPart w ms w ms
part_whole w ms = record { passed = λ x p. p }

-- a part of a part
pub part_of_part : {v x w : World} {ms ns all : List Moment} → IsPart v ms x ns → IsPart x ns w all → IsPart v ms w all
part_of_part h k = record { passed = λ y p. k.passed y (h.passed y p) }

-- what is done first
pub part_first : (w : World) (ms ns : List Moment) → IsPart w ms w (ms ++ ns)
part_first w ms ns = record { passed = λ x p. passed_first ms ns w x p }

-- what follows an outcome
pub part_after : {X : Type 0} (w v : World) (ms : List Moment) (f : X → Passing) (x : X) (l : List Slot) (out : Out X)
    → out ≡ gives x l v → IsPart v (f x l v) w (ms ++ following out f)
part_after w v ms f x l out e =
    subst (λ o. IsPart v (f x l v) w (ms ++ following o f)) (sym e) (record { passed = λ y p. passed_second ms (f x l v) w v y p })
