-- The text of signs is cut into the tokens that they are, and these are read as the signs.
use Rattle.std.proofs.Common.{◌≡◌, ℕ, ◌+◌, ◌-◌, Bool, true, List, [], ◌∷◌, ◌++◌, length, map, take, drop, Ok, append_assoc, refl, sym, ap, ◌∙◌, arith}
use Rattle.std.proofs.lemmas.List.{drop_at, take_at, length-append}
use Rattle.lex_core.specs.declared.token.Kind.{Kind}
use Rattle.lex_core.specs.declared.token.Token.{Token}
use Rattle.lex_core.specs.Classes.{is_blank}
use Rattle.lex_core.specs.Forms.{bytes_of}
use Rattle.lex_core.specs.Lexing.{with_front, cut_at, cut}
use Rattle.lex_core.specs.Spelling.{ends_token}
use Rattle.lex_core.proofs.LexingLemmas.{cut_at-nil, cut_is}
use Rattle.lex_core.proofs.LawLemmas.{token-goes, blank-goes}
use Rattle.sail_syntax.specs.Tree.{Text}
use Rattle.sail_grammar.specs.declared.keyword.Keyword.{Keyword}
use Rattle.sail_grammar.specs.declared.keyword.Keyword.TheVariants as k
use Rattle.sail_grammar.specs.declared.word.Sign.{Sign}
use Rattle.sail_grammar.specs.declared.word.Sign.TheVariants as sign
use Rattle.sail_grammar.specs.declared.word.Word.{Word}
use Rattle.sail_grammar.specs.Words.{Words, word_of, words_of}
use Rattle.sail_printed.proofs.Signs.{sign_text, kind_of, IsSign, AreSigns, sign_form, sign_read}
use Rattle.sail_printed.proofs.Shown.{Signs, keyword_gap, gap, behind, placed}

-- the token of a sign
abbrev token : ℕ → Sign → Token
token at s = record { kind = kind_of s; from = at; to = at + length (sign_text s) }

-- the tokens of signs, from a place on
abbrev pub tokens_of : ℕ → Signs → List Token
tokens_of at [] = []
tokens_of at (s ∷ ss) = token at s ∷ tokens_of (at + length (sign_text s) + 1) ss

-- ---- what stands in front of a sign

keyword_blank : (w : Keyword) → is_blank (keyword_gap w) ≡ true
keyword_blank k.Default = refl
keyword_blank w = refl

keyword_ends : (w : Keyword) → ends_token (keyword_gap w) ≡ true
keyword_ends k.Default = refl
keyword_ends w = refl

gap_blank : (s : Sign) → is_blank (gap s) ≡ true
gap_blank (sign.Keyword w) = keyword_blank w
gap_blank (sign.Name x) = refl
gap_blank (sign.Number n) = refl
gap_blank (sign.Literal b) = refl
gap_blank (sign.Text z) = refl
gap_blank (sign.Operator op) = refl
gap_blank (sign.Mark w) = refl

gap_ends : (s : Sign) → ends_token (gap s) ≡ true
gap_ends (sign.Keyword w) = keyword_ends w
gap_ends (sign.Name x) = refl
gap_ends (sign.Number n) = refl
gap_ends (sign.Literal b) = refl
gap_ends (sign.Text z) = refl
gap_ends (sign.Operator op) = refl
gap_ends (sign.Mark w) = refl

-- ---- cutting

-- a sign in front of others is cut off
sign_goes : (at : ℕ) (s : Sign) (ss : Signs) → IsSign s → cut_at at (sign_text s ++ behind ss) ≡ with_front (token at s) (cut_at (at + length (sign_text s)) (behind ss))
sign_goes at s [] h = token-goes at (kind_of s) (sign_text s) 10 [] (sign_form s h) refl
sign_goes at s (t ∷ ss) h = token-goes at (kind_of s) (sign_text s) (gap t) (sign_text t ++ behind ss) (sign_form s h) (gap_ends t)

behind_cut : (at : ℕ) (ss : Signs) → AreSigns ss → cut_at at (behind ss) ≡ Ok (tokens_of (at + 1) ss)
behind_cut at [] g = blank-goes at 10 [] refl ∙ cut_at-nil (at + 1)
behind_cut at (s ∷ ss) g =
    blank-goes at (gap s) (sign_text s ++ behind ss) (gap_blank s) ∙ sign_goes (at + 1) s ss g.0
    ∙ ap (with_front (token (at + 1) s)) (behind_cut (at + 1 + length (sign_text s)) ss g.1)

pub signs_cut : (s : Sign) (ss : Signs) → AreSigns (s ∷ ss) → cut (sign_text s ++ behind ss) ≡ Ok (tokens_of 0 (s ∷ ss))
signs_cut s ss g = cut_is (sign_text s ++ behind ss) ∙ sign_goes 0 s ss g.0 ∙ ap (with_front (token 0 s)) (behind_cut (0 + length (sign_text s)) ss g.1)

-- ---- words

-- the bytes of a token that stands behind others
bytes_are : (front w z : Text) (k : Kind) (at : ℕ) → at ≡ length front → bytes_of (front ++ (w ++ z)) (record { kind = k; from = at; to = at + length w }) ≡ w
bytes_are front w z k at e =
    let size : (at + length w) - at ≡ length w = omega arith in
    ap (λ n. take n (drop at (front ++ (w ++ z)))) size ∙ ap (take (length w)) (drop_at front (w ++ z) at (sym e)) ∙ take_at w z (length w) refl

-- the word of a token of a sign
word_is : (front z : Text) (s : Sign) (at : ℕ) → IsSign s → at ≡ length front
    → word_of (kind_of s) (bytes_of (front ++ (sign_text s ++ z)) (token at s)) at ≡ record { sign = s; at = at }
word_is front z s at h e =
    ap (λ w. word_of (kind_of s) w at) (bytes_are front (sign_text s) z (kind_of s) at e) ∙ ap (λ (x : Sign). record { sign = x; at = at }) (sign_read s h)

behind_words : (front : Text) (ss : Signs) (at : ℕ) → AreSigns ss → at ≡ length front → words_of (front ++ behind ss) (tokens_of (at + 1) ss) ≡ placed (at + 1) ss
behind_words front [] at g e = refl
behind_words front (s ∷ ss) at g e =
    let fore = front ++ gap s ∷ [] in
    let next = at + 1 + length (sign_text s) in
    let start : at + 1 ≡ length fore = omega (arith, e, length-append front (gap s ∷ [])) in
    let first : front ++ behind (s ∷ ss) ≡ fore ++ (sign_text s ++ behind ss) = sym (append_assoc front (gap s ∷ []) (sign_text s ++ behind ss)) in
    let second : front ++ behind (s ∷ ss) ≡ (fore ++ sign_text s) ++ behind ss = first ∙ sym (append_assoc fore (sign_text s) (behind ss)) in
    let long : next ≡ length (fore ++ sign_text s) = omega (arith, start, length-append fore (sign_text s)) in
    ap (λ z. word_of (kind_of s) (bytes_of z (token (at + 1) s)) (at + 1) ∷ words_of z (tokens_of (next + 1) ss)) first
    ∙ ap (λ (w : Word). w ∷ words_of (fore ++ (sign_text s ++ behind ss)) (tokens_of (next + 1) ss)) (word_is fore (behind ss) s (at + 1) g.0 start)
    ∙ ap (λ (ws : Words). record { sign = s; at = at + 1 } ∷ ws) (ap (λ z. words_of z (tokens_of (next + 1) ss)) (sym first ∙ second) ∙ behind_words (fore ++ sign_text s) ss next g.1 long)

pub signs_words : (s : Sign) (ss : Signs) → AreSigns (s ∷ ss) → words_of (sign_text s ++ behind ss) (tokens_of 0 (s ∷ ss)) ≡ placed 0 (s ∷ ss)
signs_words s ss g =
    ap (λ (w : Word). w ∷ words_of (sign_text s ++ behind ss) (tokens_of (0 + length (sign_text s) + 1) ss)) (word_is [] (behind ss) s 0 g.0 refl)
    ∙ ap (λ (ws : Words). record { sign = s; at = 0 } ∷ ws) (behind_words (sign_text s) ss (0 + length (sign_text s)) g.1 (omega arith))
