-- Reading words: one more word, and the end of the text.
use Rattle.std.proofs.Common.{◌≡◌, ℕ, zero, suc, ◌+◌, ◌≤◌, ◌<◌, true, false, List, [], ◌∷◌, length, map, drop, get_or, Result, Ok, Err, refl, sym, ap, subst, ◌∙◌, arith}
use Rattle.std.specs.Prelude.{⊤}
use Rattle.std.specs.Result.{IsErr, IsErrAnd}
use Rattle.lex_core.specs.declared.token.Kind.{Kind}
use Rattle.lex_core.specs.declared.token.Token.{Token}
use Rattle.lex_core.specs.Forms.{bytes_of}
use Rattle.lex_core.specs.Want.{Gives}
use Rattle.sail_syntax.specs.Tree.{Text}
use Rattle.sail_syntax.specs.View.{definition_of}
use Rattle.sail_syntax.specs.declared.definitions.Def.{Def}
use Rattle.sail_grammar.specs.Words.{Words, word_of, words_of}
use Rattle.sail_grammar.specs.declared.word.Word.{Word}
use Rattle.sail_machine.specs.Machine.{step}
use Rattle.sail_machine.specs.Run.{Outcome, and_then, ended, given, last, run}
use Rattle.sail_frames.specs.declared.stop.Stop.{Stop}
use Rattle.sail_frames.specs.declared.stop.Stop.TheVariants as stop
use Rattle.sail_frames.specs.declared.frame.Frame.{Frame}
use Rattle.sail_frames.specs.declared.mode.Mode.{Mode}
use Rattle.sail_reader.specs.Reading.{is_stop, stopped}
use Rattle.sail_frames.specs.Turning.{Turns}
use Rattle.sail_frames.specs.View.{frames_of, mode_of}

next_word : (z : Text) (ts : List Token) (i : ℕ) (d : Token) → i < length ts → words_of z (drop i ts) ≡ word_of (get_or ts i d).kind (bytes_of z (get_or ts i d)) (get_or ts i d).from ∷ words_of z (drop (i + 1) ts)
next_word z [] i d h = absurd (omega (arith, h))
next_word z (t ∷ ts) zero d h = refl
next_word z (t ∷ ts) (suc i) d h =
    let same : suc (i + 1) ≡ suc i + 1 = omega arith in
    next_word z ts i d (omega (arith, h)) ∙ ap (λ n. word_of (get_or ts i d).kind (bytes_of z (get_or ts i d)) (get_or ts i d).from ∷ words_of z (drop n (t ∷ ts))) same

no_word : (z : Text) (ts : List Token) (i : ℕ) → length ts ≤ i → words_of z (drop i ts) ≡ []
no_word z [] zero h = refl
no_word z [] (suc i) h = refl
no_word z (t ∷ ts) zero h = absurd (omega (arith, h))
no_word z (t ∷ ts) (suc i) h = no_word z ts i (omega (arith, h))

-- what comes of a stop
abbrev pub Stops : Outcome → Stop → Type 0
Stops o (stop.Fault f) = o ≡ Err f
Stops o stop.NoMemory = ⊤

step_on : (end : ℕ) (k k' : List Frame) (m m' : Mode) (w : Word) (ws : Words) (r : Result Mode Stop) → Turns (step (frames_of k) (mode_of m) w) r k' → r ≡ Ok m' → run end (frames_of k) (mode_of m) (w ∷ ws) ≡ run end (frames_of k') (mode_of m') ws
unfolding run
step_on end k k' m m' w ws r t is = ap (λ o. and_then o (λ k'' m''. run end k'' m'' ws)) (subst (λ a. Turns (step (frames_of k) (mode_of m) w) a k') is t)

step_off : (end : ℕ) (k k' : List Frame) (m : Mode) (w : Word) (ws : Words) (s : Stop) → Turns (step (frames_of k) (mode_of m) w) (Err s) k' → Stops (run end (frames_of k) (mode_of m) (w ∷ ws)) s
unfolding run
step_off end k k' m w ws (stop.Fault f) t = ap (λ o. and_then o (λ k'' m''. run end k'' m'' ws)) t
step_off end k k' m w ws stop.NoMemory t = t

end_on : (end : ℕ) (k k' : List Frame) (m m' : Mode) → Turns (last (frames_of k) (mode_of m) end) (Ok m') k' → run end (frames_of k) (mode_of m) [] ≡ given (frames_of k') end
unfolding run
end_on end k k' m m' t = ap (λ o. ended o end) t

end_off : (end : ℕ) (k k' : List Frame) (m : Mode) (s : Stop) → Turns (last (frames_of k) (mode_of m) end) (Err s) k' → Stops (run end (frames_of k) (mode_of m) []) s
unfolding run
end_off end k k' m (stop.Fault f) t = ap (λ o. ended o end) t
end_off end k k' m stop.NoMemory t = t

-- the word at a place
abbrev pub word_at : Text → List Token → ℕ → Token → Word
word_at z ts i d = word_of (get_or ts i d).kind (bytes_of z (get_or ts i d)) (get_or ts i d).from

pub word_is : (z : Text) (ts : List Token) (i : ℕ) (d : Token) (w : Word) (kd : Kind) (x : Text) (at : ℕ) → w ≡ word_of kd x at → kd ≡ (get_or ts i d).kind → x ≡ bytes_of z (get_or ts i d) → at ≡ (get_or ts i d).from → w ≡ word_at z ts i d
word_is z ts i d w kd x at is a b e =
    is ∙ ap (λ v. word_of v x at) a ∙ ap (λ v. word_of (get_or ts i d).kind v at) b ∙ ap (word_of (get_or ts i d).kind (bytes_of z (get_or ts i d))) e

pub goes_on : (z : Text) (ts : List Token) (i : ℕ) (d : Token) (end : ℕ) (k k' : List Frame) (m m' : Mode) (w : Word) (r : Result Mode Stop) → i < length ts → w ≡ word_at z ts i d → Turns (step (frames_of k) (mode_of m) w) r k' → r ≡ Ok m' → run end (frames_of k') (mode_of m') (words_of z (drop (i + 1) ts)) ≡ run end (frames_of k) (mode_of m) (words_of z (drop i ts))
goes_on z ts i d end k k' m m' w r h is t ok =
    sym (step_on end k k' m m' w (words_of z (drop (i + 1) ts)) r t ok)
    ∙ ap (λ v. run end (frames_of k) (mode_of m) (v ∷ words_of z (drop (i + 1) ts))) is
    ∙ ap (run end (frames_of k) (mode_of m)) (sym (next_word z ts i d h))

pub stops_at : (z : Text) (ts : List Token) (i : ℕ) (d : Token) (end : ℕ) (k k' : List Frame) (m : Mode) (w : Word) (r : Result Mode Stop) (s : Stop) → i < length ts → w ≡ word_at z ts i d → Turns (step (frames_of k) (mode_of m) w) r k' → r ≡ Err s → Stops (run end (frames_of k) (mode_of m) (words_of z (drop i ts))) s
stops_at z ts i d end k k' m w r s h is t err =
    subst (λ ws. Stops (run end (frames_of k) (mode_of m) ws) s) (ap (λ v. v ∷ words_of z (drop (i + 1) ts)) is ∙ sym (next_word z ts i d h))
    (step_off end k k' m w (words_of z (drop (i + 1) ts)) s (subst (λ a. Turns (step (frames_of k) (mode_of m) w) a k') err t))

pub ends_as : (z : Text) (ts : List Token) (i : ℕ) (end : ℕ) (k k' : List Frame) (m m' : Mode) (r : Result Mode Stop) → length ts ≤ i → Turns (last (frames_of k) (mode_of m) end) r k' → r ≡ Ok m' → given (frames_of k') end ≡ run end (frames_of k) (mode_of m) (words_of z (drop i ts))
ends_as z ts i end k k' m m' r h t ok =
    sym (end_on end k k' m m' (subst (λ a. Turns (last (frames_of k) (mode_of m) end) a k') ok t)) ∙ ap (run end (frames_of k) (mode_of m)) (sym (no_word z ts i h))

pub stops_behind : (z : Text) (ts : List Token) (i : ℕ) (end : ℕ) (k k' : List Frame) (m : Mode) (r : Result Mode Stop) (s : Stop) → length ts ≤ i → Turns (last (frames_of k) (mode_of m) end) r k' → r ≡ Err s → Stops (run end (frames_of k) (mode_of m) (words_of z (drop i ts))) s
stops_behind z ts i end k k' m r s h t err =
    subst (λ ws. Stops (run end (frames_of k) (mode_of m) ws) s) (sym (no_word z ts i h)) (end_off end k k' m s (subst (λ a. Turns (last (frames_of k) (mode_of m) end) a k') err t))

told : (o : Outcome) (s : Stop) → Stops o s → Gives is_stop (map definition_of) (stopped o) (Err s)
told o (stop.Fault f) h = ap stopped h
told o stop.NoMemory h = h

pub tells : (o : Outcome) (r : Result (List Def) Stop) (s : Stop) → IsErr r × IsErrAnd r (λ e. e ≡ s) → Stops o s → Gives is_stop (map definition_of) (stopped o) r
tells o (Ok ds) s is h = absurd (let wrong : false ≡ true = is.0 in cc)
tells o (Err e) s is h = subst (λ x. Gives is_stop (map definition_of) (stopped o) (Err x)) (sym is.1) (told o s h)
