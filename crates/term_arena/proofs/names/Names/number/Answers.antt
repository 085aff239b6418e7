use Rattle.std.proofs.Common.{◌≡◌, ◌++◌, [], ◌∷◌, List, length, Option, None, Some, is_some, eqb, ap, sym, ◌∙◌, subst, rules, ℕ, refl, true≢false}
use Rattle.std.specs.Prelude.{slice_get}
use Rattle.std.specs.Global.{Vec}
use Rattle.indexmap.proofs.CallerLemmas.{insert_entry-new}
use Rattle.indexmap.specs.IndexMap.{get_by}
use Rattle.std.specs.Cmp.Lexicographic.{pointwise}
use Rattle.std.proofs.lemmas.List.{length-map, map-append}
use Rattle.term_tree.specs.Terms.{Text}
use Rattle.term_arena.specs.Texts.{AreTexts}
use Rattle.term_arena.proofs.NameLemmas.{names_once, found, pushed_texts, same_key, texts, last}
use Rattle.term_arena.proofs.names.Names.number.Goals as goal

pub returns-in-Some-clause-there : goal.returns-in-Some-clause-there
returns-in-Some-clause-there c =
    rw (← c.self.view_is) (found c.self.inside.texts.entries c.args.text.now c.in-Some.i c.self.invariant (sym c.in-Some.ensures.index))

pub returns-in-Some-clause-once : goal.returns-in-Some-clause-once
returns-in-Some-clause-once c =
    rw (← c.self.view_is) (names_once c.self.inside.texts.entries c.self.invariant c.in-Some.ensures.unique)

pub returns-in_err-extend_from_slice-clause-once : goal.returns-in_err-extend_from_slice-clause-once
returns-in_err-extend_from_slice-clause-once c =
    rw (← c.self.view_is) (names_once c.self.inside.texts.entries c.self.invariant c.len-i.ensures.unique)

pub returns-in_err-name-clause-once : goal.returns-in_err-name-clause-once
returns-in_err-name-clause-once c =
    rw (← c.self.view_is) (names_once c.self.inside.texts.entries c.self.invariant c.len-i.ensures.unique)

pub returns-in_err-insert-clause-once : goal.returns-in_err-insert-clause-once
returns-in_err-insert-clause-once c =
    names_once c.insert.new.self.entries (subst AreTexts (sym c.in_err-insert.ensures.err) c.self.invariant) c.in_err-insert.ensures.unique

none_of : {A B : Type 0} (r : Option A) (o : Option B) → ((x : A) → r ≡ Some x → ⊥) → is_some r ≡ is_some o → o ≡ None
none_of None None n e = refl
none_of None (Some y) n e = absurd (true≢false (sym e))
none_of (Some x) o n e = absurd (n x refl)

-- a name that isn't there goes last
entries : (c : goal.Joined-branch-4) → c.insert.new.self.entries ≡ c.self.inside.texts.entries ++ (c.extend_from_slice.new.self, c.in_ok-name.name) ∷ []
entries c =
    let items : c.extend_from_slice.new.self.items ≡ c.args.text.now = search rules in
    let none : get_by (λ k. pointwise eqb c.args.text.now k.items) c.self.inside.texts ≡ None = none_of c.get_index_of.result _ (search rules) c.get_index_of.ensures.found in
    let absent = subst (λ (t : Text). get_by (λ k. pointwise eqb t k.items) c.self.inside.texts ≡ None) (sym items) none in
    c.in_ok-insert.ensures.entries ∙ insert_entry-new same_key c.self.inside.texts c.extend_from_slice.new.self c.in_ok-name.name absent

pub invariant_of-self-2 : goal.invariant_of-self-2
invariant_of-self-2 c =
    let items : c.extend_from_slice.new.self.items ≡ c.args.text.now = search rules in
    let name : c.in_ok-name.name ≡ c.args.text.now = search rules in
    subst AreTexts (sym (entries c)) (pushed_texts c.self.inside.texts.entries c.extend_from_slice.new.self c.in_ok-name.name c.self.invariant (items ∙ sym name))

views : (c : goal.Joined-branch-4) → texts c.insert.new.self.entries ≡ c.args.self.now ++ c.in_ok-name.name ∷ []
views c = ap texts (entries c) ∙ map-append (λ (e : Vec ℕ × Text). e.1) c.self.inside.texts.entries ((c.extend_from_slice.new.self, c.in_ok-name.name) ∷ []) ∙ ap (λ (l : List Text). l ++ c.in_ok-name.name ∷ []) c.self.view_is

pub returns-clause-there : goal.returns-clause-there
returns-clause-there c =
    let name : c.in_ok-name.name ≡ c.args.text.now = search rules in
    let long : c.len-i.result ≡ length (texts c.self.inside.texts.entries) = c.len-i.ensures.len ∙ sym (length-map c.self.inside.texts.entries (λ (e : Vec ℕ × Text). e.1)) in
    let same : c.len-i.result ≡ length c.args.self.now = long ∙ ap length c.self.view_is in
    ap (λ (l : List Text). slice_get l c.len-i.result) (views c)
    ∙ ap (slice_get (c.args.self.now ++ c.in_ok-name.name ∷ [])) same
    ∙ last c.args.self.now c.in_ok-name.name ∙ ap Some name

pub returns-clause-grows : goal.returns-clause-grows
returns-clause-grows c = record { more = c.in_ok-name.name ∷ []; is = views c }

pub returns-clause-once : goal.returns-clause-once
returns-clause-once c = names_once c.insert.new.self.entries (invariant_of-self-2 c) c.in_ok-insert.ensures.unique
