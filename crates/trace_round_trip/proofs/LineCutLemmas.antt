-- Lines are cut into their words, whatever stands behind them.
use Rattle.std.proofs.Common.{◌≡◌, ◌+◌, List, [], ◌∷◌, ◌++◌, length, refl, sym, ap, subst, ◌∙◌, append-nil, add-zero, arith}
use Rattle.lex_core.specs.Lexing.{with_all, cut_at}
use Rattle.lex_core.proofs.LexingLemmas.{with_all-none}
use Rattle.lex_core.proofs.LawLemmas.{blank-goes}
use Rattle.term_tree.specs.Terms.{Text}
use Rattle.term_print.specs.Words.{Word}
use Rattle.term_print.specs.Cutting.{IsCutInto, IsCutBetween, IsCutAs}
use Rattle.term_print.proofs.CutLemmas.{IsTail, both, no_tail, spaced, whole_cut}

-- bytes that are cut into these words, whatever stands before and behind them
abbrev pub IsCutAnyway : Text → List Word → Type 0
IsCutAnyway w ws = (front behind : Text) → IsCutBetween front w behind ws

newline : IsCutAnyway (10 ∷ []) []
newline front behind = record { tokens = []; cuts = blank-goes (length front) 10 behind refl ∙ sym (with_all-none (cut_at (length front + 1) behind)); words = refl }

-- nothing
pub nothing_cut : IsCutAnyway [] []
nothing_cut front behind = record { tokens = []; cuts = ap (λ i. cut_at i behind) (sym (add-zero (length front))) ∙ sym (with_all-none (cut_at (length front + 0) behind)); words = refl }

-- one after the other
pub two_cut : (v w : Text) (vs ws : List Word) → IsCutAnyway v vs → IsCutAnyway w ws → IsCutAnyway (v ++ w) (vs ++ ws)
two_cut v w vs ws h k front behind = both front v w behind vs ws (h front (w ++ behind)) (k (front ++ v) behind)

-- a line, and more behind it
pub lined : (v w : Text) (vs ws : List Word) → IsCutAs v vs → IsCutAnyway w ws → IsCutAnyway (v ++ 10 ∷ w) (vs ++ ws)
lined v w vs ws h k front behind = both front v (10 ∷ w) behind vs ws (h front ((10 ∷ w) ++ behind) refl) (two_cut (10 ∷ []) w [] ws newline k (front ++ v) behind)

-- a line alone
pub line_cut : (v : Text) (vs : List Word) → IsCutAs v vs → IsCutAnyway (v ++ 10 ∷ []) vs
line_cut v vs h = subst (λ (us : List Word). IsCutAnyway (v ++ 10 ∷ []) us) (append-nil vs) (lined v [] vs [] h nothing_cut)

-- a space and the last word of a line
pub last_word : (v : Text) (vs : List Word) → IsCutAs v vs → IsTail (32 ∷ v) vs
last_word v vs h = subst (λ (us : List Word). IsTail (32 ∷ v) us) (append-nil vs) (subst (λ (z : Text). IsTail (32 ∷ z) (vs ++ [])) (append-nil v) (spaced v [] vs [] h no_tail))

-- a whole text
pub all_cut : (w : Text) (ws : List Word) → IsCutAnyway w ws → IsCutInto w ws
all_cut w ws h = whole_cut w ws (λ front behind e. h front behind)
