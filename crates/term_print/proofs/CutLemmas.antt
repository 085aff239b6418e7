-- Bytes that stand between others are cut into tokens with their words, part by part.
use Rattle.std.proofs.Common.{◌≡◌, ◌+◌, ◌-◌, true, List, [], ◌∷◌, ◌++◌, length, drop, take, Ok, Err, append_assoc, append-nil, add-zero, refl, sym, ap, ◌∙◌, arith}
use Rattle.std.proofs.lemmas.List.{drop_at, take_at, length-append}
use Rattle.lex_core.specs.declared.token.Kind.{Kind}
use Rattle.lex_core.specs.declared.token.Kind.TheVariants as kind
use Rattle.lex_core.specs.declared.token.Token.{Token}
use Rattle.lex_core.specs.Forms.{has_form, bytes_of}
use Rattle.lex_core.specs.Lexing.{Outcome, with_front, with_all, cut_at}
use Rattle.lex_core.proofs.LexingLemmas.{cut_at-nil, cut_is, with_all-none}
use Rattle.lex_core.proofs.LawLemmas.{whole-goes, token-goes, blank-goes, open-goes, close-goes}
use Rattle.term_tree.specs.Terms.{Text}
use Rattle.term_print.specs.Words.{Word, opens, closes, word_of}
use Rattle.term_print.specs.Cutting.{words_of, IsCutInto, Ends, IsCutBetween, IsCutAs}

-- bytes that end the token in front of them, if they or what stands behind them does
pub record IsTail (w : Text) (ws : List Word) : Type 0 where
  pub ends : (behind : Text) → Ends behind → Ends (w ++ behind)
  pub cut : IsCutAs w ws

-- ---- outcomes

front_all : (t : Token) (o : Outcome) → with_front t o ≡ with_all (t ∷ []) o
front_all t (Ok ts) = refl
front_all t (Err f) = refl

all_both : (ts us : List Token) (o : Outcome) → with_all ts (with_all us o) ≡ with_all (ts ++ us) o
all_both ts us (Ok vs) = ap (λ (x : List Token). Ok x) (sym (append_assoc ts us vs))
all_both ts us (Err f) = refl

-- ---- one token

abbrev token_between : Text → Kind → Text → Token
token_between front k w = record { kind = k; from = length front; to = length front + length w }

bytes_between : (front w behind : Text) (k : Kind) → bytes_of (front ++ (w ++ behind)) (token_between front k w) ≡ w
bytes_between front w behind k =
    let size : (length front + length w) - length front ≡ length w = omega arith in
    ap (λ n. take n (drop (length front) (front ++ (w ++ behind)))) size ∙ ap (take (length w)) (drop_at front (w ++ behind) (length front) refl) ∙ take_at w behind (length w) refl

one_between : (k : Kind) (front w behind : Text) → cut_at (length front) (w ++ behind) ≡ with_front (token_between front k w) (cut_at (length front + length w) behind)
    → IsCutBetween front w behind (word_of k w ∷ [])
one_between k front w behind e =
    record {
      tokens = token_between front k w ∷ [];
      cuts = e ∙ front_all (token_between front k w) (cut_at (length front + length w) behind);
      words = ap (λ (z : Text). word_of k z ∷ []) (bytes_between front w behind k);
    }

-- a token of a kind
pub token_cut : (k : Kind) (w : Text) → has_form k w ≡ true → IsCutAs w (word_of k w ∷ [])
token_cut k w form front [] h = one_between k front w [] (whole-goes (length front) k w [] (record { form = form; ends = refl }))
token_cut k w form front (b ∷ z) h = one_between k front w (b ∷ z) (token-goes (length front) k w b z form h)

opening : (front behind : Text) → IsCutBetween front (40 ∷ []) behind (opens ∷ [])
opening front behind = one_between kind.Mark front (40 ∷ []) behind (open-goes (length front) behind)

closing : (front behind : Text) → IsCutBetween front (41 ∷ []) behind (closes ∷ [])
closing front behind = one_between kind.Mark front (41 ∷ []) behind (close-goes (length front) behind)

space : (front behind : Text) → IsCutBetween front (32 ∷ []) behind []
space front behind = record { tokens = []; cuts = blank-goes (length front) 32 behind refl ∙ sym (with_all-none (cut_at (length front + 1) behind)); words = refl }

-- ---- one after the other

words_both : (text : Text) (ts us : List Token) → words_of text (ts ++ us) ≡ words_of text ts ++ words_of text us
words_both text [] us = refl
words_both text (t ∷ ts) us = ap (λ (ws : List Word). word_of t.kind (bytes_of text t) ∷ ws) (words_both text ts us)

pub both : (front v w behind : Text) (vs ws : List Word) → IsCutBetween front v (w ++ behind) vs → IsCutBetween (front ++ v) w behind ws → IsCutBetween front (v ++ w) behind (vs ++ ws)
both front v w behind vs ws h k =
    let assoc = append_assoc v w behind in
    let first : front ++ ((v ++ w) ++ behind) ≡ front ++ (v ++ (w ++ behind)) = ap (λ z. front ++ z) assoc in
    let second : front ++ ((v ++ w) ++ behind) ≡ (front ++ v) ++ (w ++ behind) = first ∙ sym (append_assoc front v (w ++ behind)) in
    let text = front ++ ((v ++ w) ++ behind) in
    let next : length front + length v ≡ length (front ++ v) = sym (length-append front v) in
    let last : length (front ++ v) + length w ≡ length front + length (v ++ w) = omega (arith, length-append front v, length-append v w) in
    record {
      tokens = h.tokens ++ k.tokens;
      cuts = ap (cut_at (length front)) assoc ∙ h.cuts ∙ ap (λ i. with_all h.tokens (cut_at i (w ++ behind))) next ∙ ap (with_all h.tokens) k.cuts
          ∙ all_both h.tokens k.tokens (cut_at (length (front ++ v) + length w) behind) ∙ ap (λ i. with_all (h.tokens ++ k.tokens) (cut_at i behind)) last;
      words = words_both text h.tokens k.tokens ∙ ap (λ z. words_of z h.tokens ++ words_of text k.tokens) first ∙ ap (λ (x : List Word). x ++ words_of text k.tokens) h.words
          ∙ ap (λ z. vs ++ words_of z k.tokens) second ∙ ap (λ (x : List Word). vs ++ x) k.words;
    }

-- bytes and what ends them
pub joined : (v w : Text) (vs ws : List Word) → IsCutAs v vs → IsTail w ws → IsCutAs (v ++ w) (vs ++ ws)
joined v w vs ws h k front behind e = both front v w behind vs ws (h front (w ++ behind) (k.ends behind e)) (k.cut (front ++ v) behind e)

-- an opening bracket in front
pub opened : (w : Text) (ws : List Word) → IsCutAs w ws → IsCutAs (40 ∷ w) (opens ∷ ws)
opened w ws h front behind e = both front (40 ∷ []) w behind (opens ∷ []) ws (opening front (w ++ behind)) (h (front ++ 40 ∷ []) behind e)

-- nothing, a closing bracket, and a space with more behind it
pub no_tail : IsTail [] []
no_tail = record { ends = λ behind e. e; cut = λ front behind e. nothing front behind }
  where
    nothing : (front behind : Text) → IsCutBetween front [] behind []
    nothing front behind = record { tokens = []; cuts = ap (λ i. cut_at i behind) (sym (add-zero (length front))) ∙ sym (with_all-none (cut_at (length front + 0) behind)); words = refl }

pub closed : IsTail (41 ∷ []) (closes ∷ [])
closed = record { ends = λ behind e. refl; cut = λ front behind e. closing front behind }

pub spaced : (v w : Text) (vs ws : List Word) → IsCutAs v vs → IsTail w ws → IsTail (32 ∷ (v ++ w)) (vs ++ ws)
spaced v w vs ws h k =
    record {
      ends = λ behind e. refl;
      cut = λ front behind e. both front (32 ∷ []) (v ++ w) behind [] (vs ++ ws) (space front ((v ++ w) ++ behind)) (joined v w vs ws h k (front ++ 32 ∷ []) behind e);
    }

-- ---- a whole text

pub whole_cut : (w : Text) (ws : List Word) → IsCutAs w ws → IsCutInto w ws
whole_cut w ws h =
    let c = h [] [] tt in
    (c.tokens, cut_is w ∙ ap (cut_at 0) (sym (append-nil w)) ∙ c.cuts ∙ ap (with_all c.tokens) (cut_at-nil (0 + length w)) ∙ ap (λ (us : List Token). Ok us) (append-nil c.tokens), ap (λ z. words_of z c.tokens) (sym (append-nil w)) ∙ c.words)
