-- A look-up in a list of files, front to back.
use Rattle.std.proofs.Common.{◌≡◌, ℕ, suc, ◌+◌, ◌<◌, ◌≤◌, List, ◌∷◌, length, drop, get_or, sym, ap, ◌∙◌, drop-cons, add-one, Bool, cond, Some, None}
use Rattle.std.specs.Ordering.{nat_cmp}
use Rattle.std.specs.Cmp.Lexicographic.{slice_cmp}
use Rattle.std.specs.FinMap.{get-insert, get-empty}
use Rattle.std.proofs.lemmas.Cmp.{nat_list_cmp_total}
use Rattle.std.specs.Str.{bytes_eq}
use Rattle.std.proofs.lemmas.Map.Text.{is_eq-slice_cmp}
use Rattle.std.proofs.lemmas.List.{drop_all}
use Rattle.files_core.specs.Store.{file_of, store_of}

pub first_file : (f : List ℕ × List ℕ) (rest : List (List ℕ × List ℕ)) (name : List ℕ)
    → file_of (store_of (f ∷ rest)) name ≡ cond (bytes_eq name f.0) (Some f.1) (file_of (store_of rest) name)
first_file f rest name =
    get-insert nat_list_cmp_total (store_of rest) f.0 f.1 name
    ∙ ap (λ b. cond b (Some f.1) (file_of (store_of rest) name)) (is_eq-slice_cmp name f.0)

-- at a file, and whether it has the name
pub file_at : (files : List (List ℕ × List ℕ)) (i : ℕ) (f : List ℕ × List ℕ) (name : List ℕ) (b v : Bool) → i < length files
    → f ≡ get_or files i f → b ≡ bytes_eq name f.0 → b ≡ v
    → file_of (store_of (drop i files)) name ≡ cond v (Some f.1) (file_of (store_of (drop (i + 1) files)) name)
file_at files i f name b v inside is test value =
    ap (λ fs. file_of (store_of fs) name) (drop-cons files i f inside ∙ ap (λ h. h ∷ drop (suc i) files) (sym is))
    ∙ first_file f (drop (suc i) files) name
    ∙ ap (λ t. cond t (Some f.1) (file_of (store_of (drop (suc i) files)) name)) (sym (sym value ∙ test))
    ∙ ap (λ k. cond v (Some f.1) (file_of (store_of (drop k files)) name)) (sym (add-one i))

pub none_left : (files : List (List ℕ × List ℕ)) (i : ℕ) (name : List ℕ) → length files ≤ i → file_of (store_of (drop i files)) name ≡ None
none_left files i name past = ap (λ fs. file_of (store_of fs) name) (drop_all i files past) ∙ get-empty (slice_cmp nat_cmp) name
