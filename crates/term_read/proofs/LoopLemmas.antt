-- What one turn of the reading loops does to the answer.
use Rattle.std.proofs.Common.{◌≡◌, ℕ, zero, suc, ◌+◌, ◌-◌, ◌≤◌, ◌<◌, List, [], ◌∷◌, length, get_or, drop, Result, Ok, Err, refl, sym, ap, subst, ◌∙◌, arith}
use Rattle.std.proofs.lemmas.List.{drop_all, length-drop, length-map}
use Rattle.lex_core.specs.declared.token.Token.{Token}
use Rattle.lex_core.specs.Forms.{bytes_of}
use Rattle.term_tree.specs.declared.term.Term.{Term}
use Rattle.term_tree.specs.declared.term.ArrayTerm.{ArrayTerm}
use Rattle.term_tree.specs.declared.term.TermFault.TheVariants as limit
use Rattle.term_read.specs.declared.reading.TermReadFault.{TermReadFault}
use Rattle.term_read.specs.declared.reading.TermReadFault.TheVariants as fault
use Rattle.term_read.specs.declared.term_reading.Mode as code_mode
use Rattle.term_read.specs.declared.term_reading.Turn as code_turn
use Rattle.term_read.specs.declared.term_reading.Turn.TheVariants as own_turn
use Rattle.term_read.specs.declared.array_reading.ArrayMode as code_array_mode
use Rattle.term_read.specs.declared.array_reading.ArrayTurn as code_array_turn
use Rattle.term_read.specs.declared.array_reading.ArrayTurn.TheVariants as own_array_turn
use Rattle.term_tree.specs.Terms.{Text, Tree, ArrayTree}
use Rattle.term_tree.specs.View.{tree, array_tree}
use Rattle.term_print.specs.Words.{Word, word_of, Lexeme, lexeme, lexemes}
use Rattle.term_words.specs.Scopes.{Scope}
use Rattle.term_read.specs.Reading.{Frame, Mode, wanted, Turn, fails, step, go_on, run, Outcome, numbered, term_from, ArrayFrame, ArrayMode, array_wanted, ArrayTurn, array_fails, array_step, array_go_on, array_run, array_from}
use Rattle.term_read.specs.ReadingView.{mode_view, Turns, FailsBy, Faults, HoldTerms, IsFine, GoesFine, array_mode_view, ArrayTurns, ArrayFailsBy, HoldArrays, IsFineArrayMode, ArrayGoesFine}

-- the word at a place, and those behind it
pub cell : (text : Text) (ts : List Token) (i : ℕ) (d : Token) → i < length ts → drop i (lexemes text ts) ≡ lexeme text (get_or ts i d) ∷ drop (i + 1) (lexemes text ts)
cell text [] i d l = absurd (omega arith)
cell text (t ∷ ts) zero d l = refl
cell text (t ∷ ts) (suc i) d l =
    let more : suc (i + 1) ≡ suc i + 1 = omega arith in
    cell text ts i d (omega arith) ∙ ap (λ j. lexeme text (get_or ts i d) ∷ drop j (lexeme text t ∷ lexemes text ts)) more

-- how many words are left
pub left_over : (text : Text) (ts : List Token) (i : ℕ) → i ≤ length ts → length ts - length (drop i (lexemes text ts)) ≡ i
left_over text ts i l =
    let some = length-map ts (lexeme text) in
    let less = length-drop i (lexemes text ts) in
    omega (arith, some, less)

-- ---- terms

module _ (text : Text) (ts : List Token) (from : ℕ) (scope : Scope) (k : List Frame) (m : Mode) (i : ℕ) (d : Token) where
  -- the whole outcome
  abbrev pub whole : Outcome Tree
  whole = run scope (length text) [] wanted (drop from (lexemes text ts))

  -- the words behind
  abbrev behind : List Lexeme
  behind = drop (i + 1) (lexemes text ts)

  -- what a turn leads to
  abbrev led : Turn → Outcome Tree
  led t = go_on t behind (λ k' m'. run scope (length text) k' m' behind)

  -- the code's word is the token's
  abbrev pub IsWord : Word → Type 0
  IsWord w = w ≡ word_of (get_or ts i d).kind (bytes_of text (get_or ts i d))

  -- the turn of the code's word
  abbrev pub its_turn : Word → Turn
  its_turn w = step scope 0 k m (record { word = w; at = (get_or ts i d).from })

  -- what is left leads to the whole outcome
  abbrev pub Leads : Type 0
  Leads = run scope (length text) k m (drop i (lexemes text ts)) ≡ whole

  one_step : (w : Word) → i < length ts → IsWord w → Leads → whole ≡ led (its_turn w)
  unfolding run
  one_step w l e so_far =
      sym so_far ∙ ap (run scope (length text) k m) (cell text ts i d l)
      ∙ ap (λ v. led (step scope 0 k m (record { word = v; at = (get_or ts i d).from }))) (sym e)

  pub goes_on : (w : Word) (m' : code_mode.Mode) (k' : List Frame) (r : Result code_turn.Turn TermReadFault) → i < length ts → IsWord w → r ≡ Ok (own_turn.Goes m') → Turns (its_turn w) r k' → GoesFine r k' → Leads
      → HoldTerms k' × IsFine (mode_view m') × (run scope (length text) k' (mode_view m') behind ≡ whole)
  goes_on w m' k' r l e is turn fine so_far =
      let turned : Turns (its_turn w) (Ok (own_turn.Goes m')) k' = subst (λ (q : Result code_turn.Turn TermReadFault). Turns (its_turn w) q k') is turn in
      let both : GoesFine (Ok (own_turn.Goes m')) k' = subst (λ (q : Result code_turn.Turn TermReadFault). GoesFine q k') is fine in
      (both.1, both.0, sym (one_step w l e so_far ∙ ap led turned))

  pub ends_here : (w : Word) (t : Term) (k' : List Frame) (r : Result code_turn.Turn TermReadFault) → i < length ts → IsWord w → r ≡ Ok (own_turn.Ends t) → Turns (its_turn w) r k' → Leads
      → term_from text ts from scope ≡ Ok (tree t, i + 1)
  unfolding term_from
  ends_here w t k' r l e is turn so_far =
      let turned : Turns (its_turn w) (Ok (own_turn.Ends t)) k' = subst (λ (q : Result code_turn.Turn TermReadFault). Turns (its_turn w) q k') is turn in
      ap (numbered (length ts)) (one_step w l e so_far ∙ ap led turned) ∙ ap (λ n. Ok (tree t, n)) (left_over text ts (i + 1) (omega arith))

  fails_by : (w : Word) (f : TermReadFault) → i < length ts → IsWord w → its_turn w ≡ fails f → Leads → term_from text ts from scope ≡ Err f
  unfolding term_from
  fails_by w f l e turn so_far = ap (numbered (length ts)) (one_step w l e so_far ∙ ap led turn)

  fails_with : (w : Word) (f : TermReadFault) → i < length ts → IsWord w → FailsBy (its_turn w) f → Leads → Faults (term_from text ts from scope) f
  fails_with w (fault.Form at) l e turn so_far = fails_by w _ l e turn so_far
  fails_with w (fault.Unbound at) l e turn so_far = fails_by w _ l e turn so_far
  fails_with w (fault.WidthDiffers at) l e turn so_far = fails_by w _ l e turn so_far
  fails_with w (fault.Term limit.TooManyTerms) l e turn so_far = turn
  fails_with w (fault.Term limit.TermTooHigh) l e turn so_far = fails_by w _ l e turn so_far
  fails_with w (fault.Term limit.NoMemory) l e turn so_far = tt

  pub fails_here : (w : Word) (f : TermReadFault) (k' : List Frame) (r : Result code_turn.Turn TermReadFault) → i < length ts → IsWord w → r ≡ Err f → Turns (its_turn w) r k' → Leads → Faults (term_from text ts from scope) f
  fails_here w f k' r l e is turn so_far = fails_with w f l e (subst (λ (q : Result code_turn.Turn TermReadFault). Turns (its_turn w) q k') is turn) so_far

  pub stops_here : length ts ≤ i → Leads → term_from text ts from scope ≡ Err (fault.Form (length text))
  unfolding run term_from
  stops_here l so_far =
      let some = length-map ts (lexeme text) in
      ap (numbered (length ts)) (sym so_far ∙ ap (run scope (length text) k m) (drop_all i (lexemes text ts) (omega (arith, some))))

-- ---- array terms

module _ (text : Text) (ts : List Token) (from : ℕ) (scope : Scope) (k : List ArrayFrame) (m : ArrayMode) (i : ℕ) (d : Token) where
  -- the whole outcome
  abbrev pub array_whole : Outcome ArrayTree
  array_whole = array_run scope (length text) [] array_wanted (drop from (lexemes text ts))

  -- the words behind
  abbrev array_behind : List Lexeme
  array_behind = drop (i + 1) (lexemes text ts)

  -- what a turn leads to
  abbrev array_led : ArrayTurn → Outcome ArrayTree
  array_led t = array_go_on t array_behind (λ k' m'. array_run scope (length text) k' m' array_behind)

  -- the code's word is the token's
  abbrev pub array_IsWord : Word → Type 0
  array_IsWord w = w ≡ word_of (get_or ts i d).kind (bytes_of text (get_or ts i d))

  -- the turn of the code's word
  abbrev pub array_its_turn : Word → ArrayTurn
  array_its_turn w = array_step scope k m (record { word = w; at = (get_or ts i d).from })

  -- what is left leads to the whole outcome
  abbrev pub array_Leads : Type 0
  array_Leads = array_run scope (length text) k m (drop i (lexemes text ts)) ≡ array_whole

  array_one_step : (w : Word) → i < length ts → array_IsWord w → array_Leads → array_whole ≡ array_led (array_its_turn w)
  unfolding array_run
  array_one_step w l e so_far =
      sym so_far ∙ ap (array_run scope (length text) k m) (cell text ts i d l)
      ∙ ap (λ v. array_led (array_step scope k m (record { word = v; at = (get_or ts i d).from }))) (sym e)

  pub array_goes_on : (w : Word) (m' : code_array_mode.ArrayMode) (k' : List ArrayFrame) (r : Result code_array_turn.ArrayTurn TermReadFault) → i < length ts → array_IsWord w → r ≡ Ok (own_array_turn.Goes m') → ArrayTurns (array_its_turn w) r k' → ArrayGoesFine r k' → array_Leads
      → HoldArrays k' × IsFineArrayMode (array_mode_view m') × (array_run scope (length text) k' (array_mode_view m') array_behind ≡ array_whole)
  array_goes_on w m' k' r l e is turn fine so_far =
      let turned : ArrayTurns (array_its_turn w) (Ok (own_array_turn.Goes m')) k' = subst (λ (q : Result code_array_turn.ArrayTurn TermReadFault). ArrayTurns (array_its_turn w) q k') is turn in
      let both : ArrayGoesFine (Ok (own_array_turn.Goes m')) k' = subst (λ (q : Result code_array_turn.ArrayTurn TermReadFault). ArrayGoesFine q k') is fine in
      (both.1, both.0, sym (array_one_step w l e so_far ∙ ap array_led turned))

  pub array_ends_here : (w : Word) (t : ArrayTerm) (k' : List ArrayFrame) (r : Result code_array_turn.ArrayTurn TermReadFault) → i < length ts → array_IsWord w → r ≡ Ok (own_array_turn.Ends t) → ArrayTurns (array_its_turn w) r k' → array_Leads
      → array_from text ts from scope ≡ Ok (array_tree t, i + 1)
  unfolding array_from
  array_ends_here w t k' r l e is turn so_far =
      let turned : ArrayTurns (array_its_turn w) (Ok (own_array_turn.Ends t)) k' = subst (λ (q : Result code_array_turn.ArrayTurn TermReadFault). ArrayTurns (array_its_turn w) q k') is turn in
      ap (numbered (length ts)) (array_one_step w l e so_far ∙ ap array_led turned) ∙ ap (λ n. Ok (array_tree t, n)) (left_over text ts (i + 1) (omega arith))

  array_fails_by : (w : Word) (f : TermReadFault) → i < length ts → array_IsWord w → array_its_turn w ≡ array_fails f → array_Leads → array_from text ts from scope ≡ Err f
  unfolding array_from
  array_fails_by w f l e turn so_far = ap (numbered (length ts)) (array_one_step w l e so_far ∙ ap array_led turn)

  array_fails_with : (w : Word) (f : TermReadFault) → i < length ts → array_IsWord w → ArrayFailsBy (array_its_turn w) f → array_Leads → Faults (array_from text ts from scope) f
  array_fails_with w (fault.Form at) l e turn so_far = array_fails_by w _ l e turn so_far
  array_fails_with w (fault.Unbound at) l e turn so_far = array_fails_by w _ l e turn so_far
  array_fails_with w (fault.WidthDiffers at) l e turn so_far = array_fails_by w _ l e turn so_far
  array_fails_with w (fault.Term limit.TooManyTerms) l e turn so_far = turn
  array_fails_with w (fault.Term limit.TermTooHigh) l e turn so_far = array_fails_by w _ l e turn so_far
  array_fails_with w (fault.Term limit.NoMemory) l e turn so_far = tt

  pub array_fails_here : (w : Word) (f : TermReadFault) (k' : List ArrayFrame) (r : Result code_array_turn.ArrayTurn TermReadFault) → i < length ts → array_IsWord w → r ≡ Err f → ArrayTurns (array_its_turn w) r k' → array_Leads → Faults (array_from text ts from scope) f
  array_fails_here w f k' r l e is turn so_far = array_fails_with w f l e (subst (λ (q : Result code_array_turn.ArrayTurn TermReadFault). ArrayTurns (array_its_turn w) q k') is turn) so_far

  pub array_stops_here : length ts ≤ i → array_Leads → array_from text ts from scope ≡ Err (fault.Form (length text))
  unfolding array_run array_from
  array_stops_here l so_far =
      let some = length-map ts (lexeme text) in
      ap (numbered (length ts)) (sym so_far ∙ ap (array_run scope (length text) k m) (drop_all i (lexemes text ts) (omega (arith, some))))
