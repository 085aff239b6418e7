-- The grammar of terms: which words spell which term or array term, in a scope.
use Rattle.std.specs.Prelude.{◌≡◌, ◌≤◌, ℕ, zero, suc, List, [], ◌∷◌, map, codes, Some, IsSome}
use Rattle.bv_bits.specs.declared.Bits.{Bits}
use Rattle.bv_bits.specs.declared.Op.{Op}
use Rattle.bv_bits.specs.declared.Op.TheVariants.{Extract, ZExt, SExt}
use Rattle.bv_bits.specs.Bits.{result_width_of}
use Rattle.term_tree.specs.declared.term.Sort.TheVariants as sort
use Rattle.term_tree.specs.Terms.{Text, Tree, lit, var, ArrayTree, array, upd, splice, applied, width_of, array_height, HIGHEST}
use Rattle.term_make.specs.Making.{make, within_height}
use Rattle.term_select.specs.Selecting.{select}
use Rattle.term_print.specs.Words.{Word, opens, closes, name, number, literal, Lexeme}
use Rattle.term_words.specs.Operators.{arity, operator_of}
use Rattle.term_words.specs.Scopes.{Scope, sort_of}

-- words in a row
abbrev pub Words : Type 0
Words = List Lexeme

-- a word at a place
abbrev pub placed : Word → ℕ → Lexeme
placed w at = record { word = w; at = at }

-- the words of an operator and its numbers, in front of more
pub data Heads : Op → Words → Words → Type 0 where
  -- an operator without numbers
  plain : {op : Op} {x : Text} {p : ℕ} {r : Words} → operator_of x ≡ Some op → Heads op (placed (name x) p ∷ r) r
  extracting : {hi lo p q s : ℕ} {r : Words} → Heads (Extract hi lo) (placed (name (codes "extract")) p ∷ placed (number hi) q ∷ placed (number lo) s ∷ r) r
  zero_extending : {to p q : ℕ} {r : Words} → Heads (ZExt to) (placed (name (codes "zext")) p ∷ placed (number to) q ∷ r) r
  sign_extending : {to p q : ℕ} {r : Words} → Heads (SExt to) (placed (name (codes "sext")) p ∷ placed (number to) q ∷ r) r

mutual
  -- the words up to others spell a term, with brackets at most so deep
  pub data Spells : Scope → ℕ → Words → Tree → Words → Type 0 where
    -- a literal
    a_literal : {scope : Scope} {n p : ℕ} {b : Bits} {r : Words} → Spells scope n (placed (literal b) p ∷ r) (lit b) r
    -- a declared variable
    a_variable : {scope : Scope} {n p w : ℕ} {x : Text} {r : Words} → sort_of scope x ≡ Some (sort.Bits w) → Spells scope n (placed (name x) p ∷ r) (var x w) r
    -- in brackets an operator at as many arguments as it has, which fit: what is made of it, within the height
    an_application : {scope : Scope} {n p q : ℕ} {op : Op} {ws ws' r : Words} {ts : List Tree} {t : Tree} → Heads op ws ws'
        → Arguments scope n (arity op) ws' ts (placed closes q ∷ r) → IsSome (result_width_of op (map width_of ts))
        → within_height (make (applied op ts)) ≡ Some t → Spells scope (suc n) (placed opens p ∷ ws) t r
    -- in brackets `sel`, a declared array variable and an index: what is selected, within the height
    a_selection : {scope : Scope} {n p q s v : ℕ} {f : Text} {ws r : Words} {i t : Tree} → sort_of scope f ≡ Some sort.Array
        → Spells scope n ws i (placed closes q ∷ r) → width_of i ≡ 64 → within_height (select (array f) i) ≡ Some t
        → Spells scope (suc n) (placed opens p ∷ placed (name (codes "sel")) s ∷ placed (name f) v ∷ ws) t r

  -- the words up to others spell so many terms in a row
  pub data Arguments : Scope → ℕ → ℕ → Words → List Tree → Words → Type 0 where
    no_more : {scope : Scope} {n : ℕ} {r : Words} → Arguments scope n zero r [] r
    one_more : {scope : Scope} {n c : ℕ} {ws r r' : Words} {t : Tree} {ts : List Tree} → Spells scope n ws t r → Arguments scope n c r ts r'
        → Arguments scope n (suc c) ws (t ∷ ts) r'

-- ---- array terms

-- the words up to others spell an array term, with brackets at most so deep
pub data ArraySpells : Scope → ℕ → Words → ArrayTree → Words → Type 0 where
  -- a declared array variable
  an_array : {scope : Scope} {n p : ℕ} {f : Text} {r : Words} → sort_of scope f ≡ Some sort.Array → ArraySpells scope n (placed (name f) p ∷ r) (array f) r
  -- in brackets `upd`, an array term, an index and a byte, within the height
  an_update : {scope : Scope} {n p q s : ℕ} {ws ws' ws'' r : Words} {f : ArrayTree} {i b : Tree} → ArraySpells scope n ws f ws' → Spells scope n ws' i ws''
      → Spells scope n ws'' b (placed closes q ∷ r) → width_of i ≡ 64 → width_of b ≡ 8 → array_height (upd f i b) ≤ HIGHEST
      → ArraySpells scope (suc n) (placed opens p ∷ placed (name (codes "upd")) s ∷ ws) (upd f i b) r
  -- in brackets `splice`, the array term from an index on, the one below it, and the index, within the height
  a_splice : {scope : Scope} {n p q s : ℕ} {ws ws' ws'' r : Words} {f g : ArrayTree} {i : Tree} → ArraySpells scope n ws f ws' → ArraySpells scope n ws' g ws''
      → Spells scope n ws'' i (placed closes q ∷ r) → width_of i ≡ 64 → array_height (splice f g i) ≤ HIGHEST
      → ArraySpells scope (suc n) (placed opens p ∷ placed (name (codes "splice")) s ∷ ws) (splice f g i) r
