-- Items: each takes five lexemes.
use Rattle.std.proofs.Common.{◌≡◌, ◌<◌, List, [], ◌∷◌, ◌++◌, Option, Some, None, length, refl, sym, ap, ◌∙◌, Err, append_assoc, append-nil, codes, arith}
use Rattle.std.proofs.lemmas.List.Elements.{All-push}
use Rattle.bv_bits.specs.declared.Bits.{Bits}
use Rattle.bv_bits.specs.Bits.{IsBits}
use Rattle.lex_core.specs.Classes.{Text}
use Rattle.proof_form.specs.declared.form.NamedValue.{NamedValue}
use Rattle.proof_words.specs.declared.rest.Stop.{Stop}
use Rattle.proof_words.specs.declared.rest.Stop.TheVariants as stop
use Rattle.proof_words.specs.declared.rest.Rest.{Rest}
use Rattle.proof_words.specs.ProofFormReaders.{Gives}
use Rattle.proof_words.specs.ProofFormWords.{Lexeme, the_name, the_mark, name_of, literal_of}
use Rattle.read_rules.specs.Binding.{◌>>=◌}
use Rattle.proof_words.specs.ProofFormTaking.{Reading, one, over}
use Rattle.proof_form.specs.ProofForm.{item, items, AreBits}

-- what stands behind a choice, case by case
pub on_bind : {A B : Type 0} (o : Option A) (f g : A → Option B) → ((x : A) → f x ≡ g x) → (o >>= f) ≡ (o >>= g)
on_bind None f g h = refl
on_bind (Some x) f g h = h x

-- nothing behind a choice
pub dead : {A B : Type 0} (o : Option A) (f : A → Option B) → ((x : A) → f x ≡ None) → (o >>= f) ≡ None
dead None f h = refl
dead (Some x) f h = h x

-- a lexeme that is passed over, and one that is read
abbrev pub read_one : {A : Type 0} → Option A → List Lexeme → Reading A
read_one {A} o xs = ◌>>=◌ {B = A × List Lexeme} o (λ v. Some (v, xs))

pub over_next : {A B : Type 0} (o : Option A) (xs : List Lexeme) (f : List Lexeme → Option B) → ((read_one o xs >>= λ found. Some found.1) >>= f) ≡ (o >>= λ _. f xs)
over_next None xs f = refl
over_next (Some v) xs f = refl

pub one_next : {A B : Type 0} (o : Option A) (xs : List Lexeme) (f : (A × List Lexeme) → Option B) → (read_one o xs >>= f) ≡ (o >>= λ v. f (v, xs))
one_next None xs f = refl
one_next (Some v) xs f = refl

-- a register's value, from what five lexemes stand for
abbrev pub chain : Option Text → Option Text → Option Text → Option Bits → Option Text → List Lexeme → Reading NamedValue
chain r n e l s xs = r >>= λ _. n >>= λ x. e >>= λ _. l >>= λ b. s >>= λ _. Some (record { register = x; value = b }, xs)

-- the chain of five lexemes
abbrev pub chain_of : Lexeme → Lexeme → Lexeme → Lexeme → Lexeme → List Lexeme → Reading NamedValue
chain_of r n e l s xs =
    chain (the_name (codes "reg") r.kind r.bytes) (name_of n.kind n.bytes) (the_mark (codes "=") e.kind e.bytes) (literal_of l.kind l.bytes) (the_mark (codes ";") s.kind s.bytes) xs

pub item_five : (r n e l s : Lexeme) (xs : List Lexeme) → item (r ∷ n ∷ e ∷ l ∷ s ∷ xs) ≡ chain_of r n e l s xs
unfolding item one over
item_five r n e l s xs =
    over_next (the_name (codes "reg") r.kind r.bytes) _ _
    ∙ on_bind _ _ _ (λ _. one_next (name_of n.kind n.bytes) _ _
    ∙ on_bind _ _ _ (λ x. over_next (the_mark (codes "=") e.kind e.bytes) _ _
    ∙ on_bind _ _ _ (λ _. one_next (literal_of l.kind l.bytes) _ _
    ∙ on_bind _ _ _ (λ b. over_next (the_mark (codes ";") s.kind s.bytes) xs _))))

-- fewer lexemes are no item
pub item_short : (xs : List Lexeme) → length xs < 5 → item xs ≡ None
unfolding item one over
item_short [] h = refl
item_short (r ∷ []) h = over_next (the_name (codes "reg") r.kind r.bytes) _ _ ∙ dead _ _ (λ _. refl)
item_short (r ∷ n ∷ []) h =
    over_next (the_name (codes "reg") r.kind r.bytes) _ _
    ∙ dead _ _ (λ _. one_next (name_of n.kind n.bytes) _ _ ∙ dead _ _ (λ _. refl))
item_short (r ∷ n ∷ e ∷ []) h =
    over_next (the_name (codes "reg") r.kind r.bytes) _ _
    ∙ dead _ _ (λ _. one_next (name_of n.kind n.bytes) _ _
    ∙ dead _ _ (λ _. over_next (the_mark (codes "=") e.kind e.bytes) _ _ ∙ dead _ _ (λ _. refl)))
item_short (r ∷ n ∷ e ∷ l ∷ []) h =
    over_next (the_name (codes "reg") r.kind r.bytes) _ _
    ∙ dead _ _ (λ _. one_next (name_of n.kind n.bytes) _ _
    ∙ dead _ _ (λ _. over_next (the_mark (codes "=") e.kind e.bytes) _ _
    ∙ dead _ _ (λ _. one_next (literal_of l.kind l.bytes) _ _ ∙ dead _ _ (λ _. refl))))
item_short (r ∷ n ∷ e ∷ l ∷ s ∷ xs) h = absurd (omega arith)

-- what stands behind a chain
chain_some : (r n e : Option Text) (l : Option Bits) (s : Option Text) (xs : List Lexeme) (v : NamedValue × List Lexeme) → chain r n e l s xs ≡ Some v
    → (v.1 ≡ xs) × (chain r n e l s [] ≡ Some (v.0, []))
chain_some None n e l s xs v h = absurd cc
chain_some (Some a) None e l s xs v h = absurd cc
chain_some (Some a) (Some x) None l s xs v h = absurd cc
chain_some (Some a) (Some x) (Some b) None s xs v h = absurd cc
chain_some (Some a) (Some x) (Some b) (Some y) None xs v h = absurd cc
chain_some (Some a) (Some x) (Some b) (Some y) (Some c) xs v h = (cc, cc)

chain_none : (r n e : Option Text) (l : Option Bits) (s : Option Text) (xs : List Lexeme) → chain r n e l s xs ≡ None → chain r n e l s [] ≡ None
chain_none None n e l s xs h = refl
chain_none (Some a) None e l s xs h = refl
chain_none (Some a) (Some x) None l s xs h = refl
chain_none (Some a) (Some x) (Some b) None s xs h = refl
chain_none (Some a) (Some x) (Some b) (Some y) None xs h = refl
chain_none (Some a) (Some x) (Some b) (Some y) (Some c) xs h = absurd cc

-- the same of five lexemes
pub five_some : (r n e l s : Lexeme) (xs : List Lexeme) (v : NamedValue × List Lexeme) → chain_of r n e l s xs ≡ Some v
    → (v.1 ≡ xs) × (chain_of r n e l s [] ≡ Some (v.0, []))
five_some r n e l s xs v h =
    chain_some (the_name (codes "reg") r.kind r.bytes) (name_of n.kind n.bytes) (the_mark (codes "=") e.kind e.bytes) (literal_of l.kind l.bytes) (the_mark (codes ";") s.kind s.bytes) xs v h

pub five_none : (r n e l s : Lexeme) (xs : List Lexeme) → chain_of r n e l s xs ≡ None → chain_of r n e l s [] ≡ None
five_none r n e l s xs h =
    chain_none (the_name (codes "reg") r.kind r.bytes) (name_of n.kind n.bytes) (the_mark (codes "=") e.kind e.bytes) (literal_of l.kind l.bytes) (the_mark (codes ";") s.kind s.bytes) xs h

-- a first item that goes to the end of those before it
moved : (o : Option (List NamedValue)) (front values : List NamedValue) (v : NamedValue) → values ≡ front ++ v ∷ []
    → (o >>= λ rest. Some (values ++ rest)) ≡ ((o >>= λ rest. Some (v ∷ rest)) >>= λ rest. Some (front ++ rest))
moved None front values v more = refl
moved (Some rest) front values v more = ap Some (ap (λ vs. vs ++ rest) more ∙ append_assoc front (v ∷ []) rest)

-- where an item is read, the items are that one and those behind it
pub items_on : (xs : List Lexeme) (v : NamedValue × List Lexeme) → item xs ≡ Some v → (items xs ≡ (items v.1 >>= λ rest. Some (v.0 ∷ rest))) × (length v.1 < length xs)
unfolding items
items_on [] v h = absurd (cc (item_short [] (omega arith), h))
items_on (r ∷ []) v h = absurd (cc (item_short (r ∷ []) (omega arith), h))
items_on (r ∷ n ∷ []) v h = absurd (cc (item_short (r ∷ n ∷ []) (omega arith), h))
items_on (r ∷ n ∷ e ∷ []) v h = absurd (cc (item_short (r ∷ n ∷ e ∷ []) (omega arith), h))
items_on (r ∷ n ∷ e ∷ l ∷ []) v h = absurd (cc (item_short (r ∷ n ∷ e ∷ l ∷ []) (omega arith), h))
items_on (r ∷ n ∷ e ∷ l ∷ s ∷ xs) v h =
    let both = five_some r n e l s xs v (sym (item_five r n e l s xs) ∙ h) in
    let alone : item (r ∷ n ∷ e ∷ l ∷ s ∷ []) ≡ Some (v.0, []) = item_five r n e l s [] ∙ both.1 in
    (rw (alone, both.0) refl, omega (arith, ap length both.0))

-- where none is read, there are none but the empty ones
pub items_off : (xs : List Lexeme) → 0 < length xs → item xs ≡ None → items xs ≡ None
unfolding items
items_off [] some h = absurd (omega arith)
items_off (r ∷ []) some h = refl
items_off (r ∷ n ∷ []) some h = refl
items_off (r ∷ n ∷ e ∷ []) some h = refl
items_off (r ∷ n ∷ e ∷ l ∷ []) some h = refl
items_off (r ∷ n ∷ e ∷ l ∷ s ∷ xs) some h =
    let alone : item (r ∷ n ∷ e ∷ l ∷ s ∷ []) ≡ None = item_five r n e l s [] ∙ five_none r n e l s xs (sym (item_five r n e l s xs) ∙ h) in
    rw alone refl

-- the first item goes to the end of those so far
pub items_more : (xs : List Lexeme) (front values : List NamedValue) (v : NamedValue × List Lexeme) (all : Option (List NamedValue)) → item xs ≡ Some v → values ≡ front ++ v.0 ∷ []
    → (items xs >>= λ rest. Some (front ++ rest)) ≡ all → (items v.1 >>= λ rest. Some (values ++ rest)) ≡ all
items_more xs front values v all one more h = moved (items v.1) front values v.0 more ∙ sym (ap (λ o. o >>= λ rest. Some (front ++ rest)) (items_on xs v one).0) ∙ h

-- where the next one is no item, there are none
pub items_stop : (view : NamedValue × Rest → NamedValue × List Lexeme) (xs : List Lexeme) (front : List NamedValue) (all : Option (List NamedValue)) (s : Stop) → 0 < length xs
    → Gives {Y = NamedValue × List Lexeme} view (Err s) (item xs) → (items xs >>= λ rest. Some (front ++ rest)) ≡ all → Gives {X = List NamedValue} (λ x. x) (Err s) all
items_stop view xs front all stop.Outside some none h = sym h ∙ ap (λ o. o >>= λ rest. Some (front ++ rest)) (items_off xs some none)
items_stop view xs front all stop.NoMemory some none h = tt

-- with no lexeme left, those so far are all
pub items_end : (xs : List Lexeme) (front : List NamedValue) (all : Option (List NamedValue)) → length xs ≡ 0 → (items xs >>= λ rest. Some (front ++ rest)) ≡ all → all ≡ Some front
unfolding items
items_end [] front all none h = sym h ∙ ap Some (append-nil front)
items_end (x ∷ xs) front all none h = absurd (omega arith)

-- one value more that fits
pub items_fit : (front values : List NamedValue) (v : NamedValue) → values ≡ front ++ v ∷ [] → AreBits front → IsBits v.value → AreBits values
items_fit front values v more all one = rw more (All-push (λ v. IsBits v.value) front v all one)
