-- The outcomes that follow a trace are those of its list.
use Rattle.std.proofs.Common.{◌≡◌, ◌⊎◌, ◌↔◌, List, [], ◌∷◌, ◌++◌, Contains, inl, inr, sym, subst, arith}
use Rattle.std.proofs.lemmas.List.Elements.{Contains-push, Contains-push_cases, Contains-append_left, Contains-append_right, Contains-append_cases}
use Rattle.state_core.specs.declared.kinds.Range.{Range}
use Rattle.trace_plain.specs.Trace.{Event, trace, End, done, fail, cases, Traces, none, some}
use Rattle.trace_plain.specs.Following.{Path, Outcome, whole, failed, ended, Step, goes, halts, blocked, act, AfterStep, AfterEvents, Follows, FollowsEnd, FollowsAny, after_step, after_events, outcomes, end_outcomes, all_outcomes}
use Rattle.trace_plain.specs.Laws.{FollowsTheList}

-- what comes after, as a relation and as a list
Agree : (Path → Outcome → Type 0) → (Path → List Outcome) → Type 0
Agree rest list = (p : Path) (out : Outcome) → rest p out ↔ Contains (list p) out

of_none : (out : Outcome) → Contains [] out → ⊥
of_none out h = omega (arith, h.1)

one_of : (end out : Outcome) → Contains (end ∷ []) out → out ≡ end
one_of end out h = either (Contains-push_cases [] end out h)
  where
    either : Contains [] out ⊎ (end ≡ out) → out ≡ end
    either (inl k) = absurd (of_none out k)
    either (inr e) = sym e

alone : (end out : Outcome) → (out ≡ end) ↔ Contains (end ∷ []) out
alone end out = (λ e. subst (Contains (end ∷ [])) (sym e) (Contains-push [] end), one_of end out)

step_agrees : (s : Step) (rest : Path → Outcome → Type 0) (list : Path → List Outcome) → Agree rest list → (out : Outcome) → AfterStep s rest out ↔ Contains (after_step s list) out
unfolding Agree
step_agrees (goes p) rest list h out = h p out
step_agrees (halts end) rest list h out = alone end out
step_agrees blocked rest list h out = (λ a. absurd a, of_none out)

events_agree : (ranges : List Range) (es : List Event) (rest : Path → Outcome → Type 0) (list : Path → List Outcome) → Agree rest list → Agree (AfterEvents ranges es rest) (after_events ranges es list)
unfolding Agree
events_agree ranges [] rest list h p out = h p out
events_agree ranges (e ∷ es) rest list h p out = step_agrees (act ranges e p) (AfterEvents ranges es rest) (after_events ranges es list) (events_agree ranges es rest list h) out

any_agree : (xs ys : List Outcome) (A B : Type 0) (out : Outcome) → A ↔ Contains xs out → B ↔ Contains ys out → (A ⊎ B) ↔ Contains (xs ++ ys) out
any_agree xs ys A B out a b = (to, λ h. from (Contains-append_cases xs ys out h))
  where
    to : A ⊎ B → Contains (xs ++ ys) out
    to (inl h) = Contains-append_left xs ys out (a.0 h)
    to (inr h) = Contains-append_right xs ys out (b.0 h)

    from : Contains xs out ⊎ Contains ys out → A ⊎ B
    from (inl h) = inl (a.1 h)
    from (inr h) = inr (b.1 h)

mutual
  unfolding Agree

  pub follows_list : FollowsTheList
  follows_list ranges (trace events end) p out = events_agree ranges events (FollowsEnd ranges end) (end_outcomes ranges end) (end_list ranges end) p out

  end_list : (ranges : List Range) (end : End) → Agree (FollowsEnd ranges end) (end_outcomes ranges end)
  end_list ranges done p out = alone (ended whole p) out
  end_list ranges (fail kind) p out = alone (ended (failed kind) p) out
  end_list ranges (cases ts) p out = any_list ranges ts p out

  any_list : (ranges : List Range) (ts : Traces) → Agree (FollowsAny ranges ts) (all_outcomes ranges ts)
  any_list ranges none p out = (λ a. absurd a, of_none out)
  any_list ranges (some t ts) p out =
      any_agree (outcomes ranges t p) (all_outcomes ranges ts p) (Follows ranges t p out) (FollowsAny ranges ts p out) out (follows_list ranges t p out) (any_list ranges ts p out)
