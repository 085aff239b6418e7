-- Definitions and programs that are spelled are read.
use Rattle.std.proofs.Common.{◌≡◌, ℕ, zero, suc, ◌+◌, ◌≤◌, ◌<◌, Bool, true, false, List, [], ◌∷◌, ◌++◌, length, Option, Some, None, Result, Ok, Err, refl, sym, ap, subst, ◌∙◌, append_assoc, append-nil, arith}
use Rattle.std.specs.Prelude.{if◌then◌else◌, nat_lt}
use Rattle.std.specs.List.{filter}
use Rattle.std.proofs.lemmas.Bool.{lt-ltb}
use Rattle.sail_syntax.specs.Tree.{Text, Tree}
use Rattle.sail_syntax.specs.Program.{Definition, Function, order, register, enumeration, signature, function}
use Rattle.sail_syntax.specs.declared.types.Ty.{Ty}
use Rattle.sail_syntax.specs.declared.types.Param.{Param}
use Rattle.sail_grammar.specs.declared.mark.Mark.TheVariants as m
use Rattle.sail_grammar.specs.declared.keyword.Keyword.TheVariants as kw
use Rattle.sail_grammar.specs.Words as words
use Rattle.sail_grammar.specs.Words.{Words, the, its, named}
use Rattle.sail_grammar.specs.Definitions.{SpellsNames, last_name, last_comma, more_names, SpellsTypes, last_type, more_types, SpellsParams, last_param, more_params, SpellsTypeList, no_types, some_types, SpellsParamList, no_params, some_params, SpellsDefinition, a_register, an_enum, a_val, a_function, SpellsDefinitions, no_definition, more_definitions, SpellsProgram, ordered, unordered, is_register, is_enum, is_a_function, most_of_a_kind, AreFew}
use Rattle.sail_grammar.specs.Expressions.{SpellsType, bits_type, bool_type, unit_type, enum_type}
use Rattle.sail_grammar.specs.Spelling.{IsProgram}
use Rattle.sail_machine.specs.declared.heads.EnumHead.{EnumHead}
use Rattle.sail_machine.specs.declared.heads.ValHead.{ValHead}
use Rattle.sail_machine.specs.declared.heads.FunctionHead.{FunctionHead}
use Rattle.sail_machine.specs.declared.awaited.Await.{Await}
use Rattle.sail_machine.specs.declared.awaited.Await.TheVariants as a
use Rattle.sail_machine.specs.declared.awaited.Fixed.TheVariants as fixed
use Rattle.sail_machine.specs.declared.awaited.Naming.TheVariants as naming
use Rattle.sail_machine.specs.declared.awaited.Sized.TheVariants as sized
use Rattle.sail_machine.specs.declared.awaited.TypeUse.TheVariants as typing
use Rattle.sail_machine.specs.Frames as f
use Rattle.sail_machine.specs.Frames.{Frames, Mode, awaits, nest}
use Rattle.sail_machine.specs.Turns.{Turn, begins, goes, ends, ends_in}
use Rattle.sail_machine.specs.Run.{Outcome, run, read}
use Rattle.sail_machine.proofs.Steps.{go, IsEnd, ends_by}
use Rattle.sail_machine.proofs.Words.{reads_type, reads_width}
use Rattle.sail_machine.proofs.Complete.{settle, reads_expr}

-- the definitions so far
abbrev text : List Definition → Frames
text ds = f.program ds ∷ []

by_kind : (b : Bool) (x : Definition) (all xs ys : List Definition) → length all ≡ length xs + length ys → length (if b then x ∷ all else all) ≡ length (if b then x ∷ xs else xs) + length ys
by_kind true x all xs ys h = omega (arith, h)
by_kind false x all xs ys h = h

pub filter_parts : (kind : Definition → Bool) (xs ys : List Definition) → length (filter kind (xs ++ ys)) ≡ length (filter kind xs) + length (filter kind ys)
filter_parts kind [] ys = omega arith
filter_parts kind (x ∷ xs) ys = by_kind (kind x) x (filter kind (xs ++ ys)) (filter kind xs) (filter kind ys) (filter_parts kind xs ys)

-- one more of a kind may begin where few are there in the end
begins_ok : (kind : Definition → Bool) (ds : List Definition) (d : Definition) (es : List Definition) (await : Await) (at : ℕ) → kind d ≡ true → length (filter kind (ds ++ d ∷ es)) ≤ 1024
    → begins kind (text ds) await at ≡ goes (text ds) await
begins_ok kind ds d es await at is few =
    let more : length (filter kind (d ∷ es)) ≡ suc (length (filter kind es)) = rw is refl in
    rw (lt-ltb (length (filter kind ds)) 1024 (omega (arith, few, filter_parts kind ds (d ∷ es), more))) refl

module _ (end : ℕ) where
  -- members, and the brace behind them
  reads_names : {ts r : Words} {xs : List Text} → SpellsNames ts xs r → (x : Text) (ys : List Text) (p : ℕ) (ds : List Definition)
      → run end (text ds) (awaits (a.MemberOrEnd (record { name = x; members = ys; at = p }))) ts ≡ run end (text (ds ++ enumeration x (ys ++ xs) p ∷ [])) (awaits a.Definition) r
  unfolding run
  reads_names last_name x ys p ds = refl
  reads_names last_comma x ys p ds = refl
  reads_names {r = r'} (more_names {x = y} {xs = xs} d) x ys p ds =
      reads_names d x (ys ++ y ∷ []) p ds ∙ ap (λ (l : List Text). run end (text (ds ++ enumeration x l p ∷ [])) (awaits a.Definition) r') (append_assoc ys (y ∷ []) xs)

  -- the first member stands where no brace does
  starts_names : {ts r : Words} {xs : List Text} → SpellsNames ts xs r → (k : Frames) (h : EnumHead) → run end k (awaits (a.Name (naming.Member h))) ts ≡ run end k (awaits (a.MemberOrEnd h)) ts
  unfolding run
  starts_names last_name k h = refl
  starts_names last_comma k h = refl
  starts_names (more_names d) k h = refl

  -- argument types, and the bracket behind them
  reads_types : {n : ℕ} {ts r : Words} {all : List Ty} → SpellsTypes n ts all r → (k : Frames) (x : Text) (ys : List Ty) (p : ℕ) → nest k + n ≤ 128
      → run end k (awaits (a.Type (typing.Argument (record { name = x; args = ys; at = p })))) ts ≡ run end k (awaits (a.Fixed (fixed.ValArrow (record { name = x; args = ys ++ all; at = p })))) r
  unfolding run
  reads_types (last_type d) k x ys p deep = reads_type end d k (typing.Argument (record { name = x; args = ys; at = p })) deep
  reads_types {r = r'} (more_types {t = t} {all = all} d ds) k x ys p deep =
      reads_type end d k (typing.Argument (record { name = x; args = ys; at = p })) deep ∙ reads_types ds k x (ys ++ t ∷ []) p deep
      ∙ ap (λ (l : List Ty). run end k (awaits (a.Fixed (fixed.ValArrow (record { name = x; args = l; at = p })))) r') (append_assoc ys (t ∷ []) all)

  starts_type : {n : ℕ} {ts r : Words} {t : Ty} → SpellsType n ts t r → (k : Frames) (h : ValHead) → run end k (awaits (a.TypeOrEnd h)) ts ≡ run end k (awaits (a.Type (typing.Argument h))) ts
  unfolding run
  starts_type (bits_type is) k h = refl
  starts_type bool_type k h = refl
  starts_type unit_type k h = refl
  starts_type enum_type k h = refl

  starts_types : {n : ℕ} {ts r : Words} {all : List Ty} → SpellsTypes n ts all r → (k : Frames) (h : ValHead) → run end k (awaits (a.TypeOrEnd h)) ts ≡ run end k (awaits (a.Type (typing.Argument h))) ts
  starts_types (last_type d) k h = starts_type d k h
  starts_types (more_types d ds) k h = starts_type d k h

  reads_type_list : {n : ℕ} {ts r : Words} {all : List Ty} → SpellsTypeList n ts all r → (k : Frames) (x : Text) (p : ℕ) → nest k + n ≤ 128
      → run end k (awaits (a.Fixed (fixed.ValOpen x p))) ts ≡ run end k (awaits (a.Fixed (fixed.ValArrow (record { name = x; args = all; at = p })))) r
  unfolding run
  reads_type_list no_types k x p deep = refl
  reads_type_list (some_types {n = n} d) k x p deep = starts_types d k (record { name = x; args = []; at = p }) ∙ reads_types d k x [] p (omega arith)

  -- parameters, and the bracket behind them
  reads_params : {n : ℕ} {ts r : Words} {all : List Param} → SpellsParams n ts all r → (k : Frames) (x : Text) (ys : List Param) (p : ℕ) → nest k + n ≤ 128
      → run end k (awaits (a.Name (naming.Param (record { name = x; params = ys; at = p })))) ts ≡ run end k (awaits (a.Fixed (fixed.FunctionArrow (record { name = x; params = ys ++ all; at = p })))) r
  unfolding run
  reads_params (last_param {x = y} d) k x ys p deep = reads_type end d k (typing.Param (record { name = x; params = ys; at = p }) y) deep
  reads_params {r = r'} (more_params {x = y} {t = t} {all = all} d ds) k x ys p deep =
      reads_type end d k (typing.Param (record { name = x; params = ys; at = p }) y) deep ∙ reads_params ds k x (ys ++ record { name = y; ty = t } ∷ []) p deep
      ∙ ap (λ (l : List Param). run end k (awaits (a.Fixed (fixed.FunctionArrow (record { name = x; params = l; at = p })))) r') (append_assoc ys (record { name = y; ty = t } ∷ []) all)

  starts_params : {n : ℕ} {ts r : Words} {all : List Param} → SpellsParams n ts all r → (k : Frames) (h : FunctionHead) → run end k (awaits (a.ParamOrEnd h)) ts ≡ run end k (awaits (a.Name (naming.Param h))) ts
  unfolding run
  starts_params (last_param d) k h = refl
  starts_params (more_params d ds) k h = refl

  reads_param_list : {n : ℕ} {ts r : Words} {all : List Param} → SpellsParamList n ts all r → (k : Frames) (x : Text) (p : ℕ) → nest k + n ≤ 128
      → run end k (awaits (a.Fixed (fixed.FunctionOpen x p))) ts ≡ run end k (awaits (a.Fixed (fixed.FunctionArrow (record { name = x; params = all; at = p })))) r
  unfolding run
  reads_param_list no_params k x p deep = refl
  reads_param_list (some_params {n = n} d) k x p deep = starts_params d k (record { name = x; params = []; at = p }) ∙ reads_params d k x [] p (omega arith)

  -- a definition ends where the next one begins, or the text ends
  ends_definition : {n : ℕ} {ts r : Words} {d : Definition} → SpellsDefinition n ts d r → (o : Bool) → IsEnd o ts
  ends_definition (a_register is) o = ends_by o _ refl refl refl refl refl
  ends_definition (an_enum d) o = ends_by o _ refl refl refl refl refl
  ends_definition (a_val d e) o = ends_by o _ refl refl refl refl refl
  ends_definition (a_function d e g) o = ends_by o _ refl refl refl refl refl

  ends_definitions : {n : ℕ} {ts : Words} {ds : List Definition} → SpellsDefinitions n ts ds → (o : Bool) → IsEnd o ts
  ends_definitions no_definition o = tt
  ends_definitions (more_definitions d ds) o = ends_definition d o

  -- what follows a function is read as what follows any definition
  body_ends : (ds : List Definition) (h : FunctionHead) (t : Ty) (e : Tree) (r : Words)
      → settle end (f.body h t ∷ text ds) e r ≡ run end (text (ds ++ function (record { name = h.name; params = h.params; result = t; body = e; at = h.at }) ∷ [])) (awaits a.Definition) r
  unfolding run ends ends_in
  body_ends ds h t e [] = refl
  body_ends ds h t e (v ∷ r) = refl

  reads_definition : {ts r : Words} {d : Definition} → SpellsDefinition 128 ts d r → (ds es : List Definition) → AreFew (ds ++ d ∷ es) → ((o : Bool) → IsEnd o r)
      → run end (text ds) (awaits a.Definition) ts ≡ run end (text (ds ++ d ∷ [])) (awaits a.Definition) r
  unfolding run
  reads_definition (a_register {w = width} {p = p} {q = q} {s = s} {t = t} {e = e} {u = u} {v = v} {x = x} {r = r} is) ds es few h =
      ap (λ (t' : Turn). go end t' (named x q ∷ its m.Colon s ∷ the kw.Bits t ∷ its m.Open e ∷ words.counted width u ∷ its m.Close v ∷ r)) (begins_ok is_register ds (register x width p) es (a.Name (naming.Register p)) p refl few.registers)
      ∙ reads_width end (text ds) (sized.Register x p) width e u v r is (omega arith) refl
  reads_definition (an_enum {p = p} {q = q} {s = s} {t = t} {x = x} {xs = xs} {ts = ts} {r = r} d) ds es few h =
      ap (λ (t' : Turn). go end t' (named x q ∷ its m.Equals s ∷ its m.OpenBrace t ∷ ts)) (begins_ok is_enum ds (enumeration x xs p) es (a.Name (naming.Enum p)) p refl few.enums)
      ∙ starts_names d (text ds) (record { name = x; members = []; at = p }) ∙ reads_names d x [] p ds
  reads_definition (a_val {p = p} {x = x} {args = args} d e) ds es few h =
      reads_type_list d (text ds) x p (omega arith) ∙ reads_type end e (text ds) (typing.Answer (record { name = x; args = args; at = p })) (omega arith)
  reads_definition (a_function {p = p} {q = q} {o = o} {x = x} {params = params} {result = result} {body = body} {ts = ts} {r'' = r''} d e g) ds es few h =
      ap (λ (t' : Turn). go end t' (named x q ∷ ts)) (begins_ok is_a_function ds (function (record { name = x; params = params; result = result; body = body; at = p })) es (a.Name (naming.Function p)) p refl few.functions)
      ∙ reads_param_list d (text ds) x p (omega arith)
      ∙ reads_type end e (text ds) (typing.Returned (record { name = x; params = params; at = p })) (omega arith)
      ∙ reads_expr end g (f.body (record { name = x; params = params; at = p }) result ∷ text ds) (omega arith) tt tt (h o)
      ∙ body_ends ds (record { name = x; params = params; at = p }) result body r''

  reads_definitions : {ts : Words} {es : List Definition} → SpellsDefinitions 128 ts es → (ds : List Definition) → AreFew (ds ++ es) → run end (text ds) (awaits a.Definition) ts ≡ Ok (ds ++ es)
  unfolding run
  reads_definitions no_definition ds few = ap (λ (l : List Definition). Ok l) (sym (append-nil ds))
  reads_definitions (more_definitions {d = d} {ds = es} one more) ds few =
      let same : (ds ++ d ∷ []) ++ es ≡ ds ++ d ∷ es = append_assoc ds (d ∷ []) es in
      reads_definition one ds es few (ends_definitions more) ∙ reads_definitions more (ds ++ d ∷ []) (subst AreFew (sym same) few) ∙ ap (λ (l : List Definition). Ok l) same

  -- a first definition is no order of bits
  begins_definitions : {n : ℕ} {ts : Words} {es : List Definition} → SpellsDefinitions n ts es → run end (text []) (awaits a.Begin) ts ≡ run end (text []) (awaits a.Definition) ts
  unfolding run
  begins_definitions no_definition = refl
  begins_definitions (more_definitions (a_register is) ds) = refl
  begins_definitions (more_definitions (an_enum d) ds) = refl
  begins_definitions (more_definitions (a_val d e) ds) = refl
  begins_definitions (more_definitions (a_function d e g) ds) = refl

  reads_program : {ws : Words} {ds : List Definition} → SpellsProgram 128 ws ds → AreFew ds → run end (text []) (awaits a.Begin) ws ≡ Ok ds
  unfolding run
  reads_program (ordered d) few = reads_definitions d (order ∷ []) few
  reads_program (unordered d) few = begins_definitions d ∙ reads_definitions d [] few

pub program_is_read : (end : ℕ) (ws : Words) (ds : List Definition) → IsProgram ws ds → read end ws ≡ Ok ds
program_is_read end ws ds is = reads_program end is.spelled is.few

abbrev given : List Definition → Outcome
given ds = Ok ds

same_given : (ds es : List Definition) → given ds ≡ given es → ds ≡ es
same_given ds es h = cc

pub one_program : (ws : Words) (ds es : List Definition) → IsProgram ws ds → IsProgram ws es → ds ≡ es
one_program ws ds es is other = same_given ds es (sym (program_is_read 0 ws ds is) ∙ program_is_read 0 ws es other)
