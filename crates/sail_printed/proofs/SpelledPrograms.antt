-- A program is spelled by its signs, and so by its text.
use Rattle.std.proofs.Common.{◌≡◌, ℕ, zero, suc, max, ◌≤◌, Bool, true, false, List, [], ◌∷◌, ◌++◌, length, Ok, refl, sym, ap, subst, ◌∙◌, arith}
use Rattle.std.specs.Prelude.{if◌then◌else◌}
use Rattle.std.specs.List.{filter}
use Rattle.lex_core.specs.declared.token.Token.{Token}
use Rattle.lex_core.specs.Lexing.{cut}
use Rattle.lex_core.proofs.LexingLemmas.{cut_at-nil, cut_is}
use Rattle.sail_syntax.specs.Tree.{Text, Tree}
use Rattle.sail_syntax.specs.Program.{Definition, Function, order, register, enumeration, signature, function}
use Rattle.sail_grammar.specs.declared.keyword.Keyword.TheVariants as k
use Rattle.sail_grammar.specs.declared.mark.Mark.TheVariants as m
use Rattle.sail_grammar.specs.declared.word.Sign.TheVariants as sign
use Rattle.sail_grammar.specs.Words.{Words, words_of}
use Rattle.sail_grammar.specs.Definitions.{SpellsDefinition, a_register, an_enum, a_val, a_function, SpellsDefinitions, no_definition, more_definitions, SpellsProgram, ordered, unordered, max_nesting, is_register, is_enum, is_a_function, AreFew, most_of_a_kind}
use Rattle.sail_text.specs.Definitions.{printed}
use Rattle.sail_printed.specs.Places.{unplaced, unplaced_definition, unplaced_program}
use Rattle.sail_printed.specs.Forms.{IsFormedDefinition, AreFormedDefinitions, IsFormedProgram}
use Rattle.sail_printed.specs.Levels.{definition_levels, program_levels}
use Rattle.sail_printed.specs.PrintedLaws.{IsReadBack, HasShortText}
use Rattle.sail_printed.proofs.Signs.{sign_text, AreSigns}
use Rattle.sail_printed.proofs.Shown.{Signs, kw, mk, past, behind, placed, type_signs, signs, definition_signs, program_signs}
use Rattle.sail_printed.proofs.SignLemmas.{program_good}
use Rattle.sail_printed.proofs.TextLemmas.{program_is}
use Rattle.sail_printed.proofs.CutLemmas.{tokens_of, signs_cut, signs_words}
use Rattle.sail_printed.proofs.SpelledParts.{type_spelled, type_list_spelled, param_list_spelled, names_spelled}
use Rattle.sail_printed.proofs.Spelled.{Made}
use Rattle.sail_printed.proofs.SpelledTrees.{tree_full}

-- ---- definitions

definition_made : (d : Definition) → IsFormedDefinition d → (n : ℕ) → definition_levels d ≤ n → (at : ℕ) (r : Signs)
    → Made Definition unplaced_definition (SpellsDefinition n) d at (definition_signs d r) r
definition_made order f n l at r = absurd f
definition_made (register x w p) f zero l at r = absurd (omega (arith, l))
definition_made (register x w p) f (suc n) l at r = record { to = _; new = register x w at; same = refl; holds = a_register f.1 }
definition_made (enumeration x members p) f zero l at r = absurd (omega (arith, l))
definition_made (enumeration x members p) f (suc n) l at r =
    let a = names_spelled members f.1 (past (past (past (past at (kw k.Enum)) (sign.Name x)) (mk m.Equals)) (mk m.OpenBrace)) r in
    record { to = a.to; new = enumeration x members at; same = refl; holds = an_enum a.holds }
definition_made (signature x args result p) f n l at r =
    let a = type_list_spelled args n f.1 (omega (arith, l)) (past (past (past at (kw k.Val)) (sign.Name x)) (mk m.Colon)) (mk m.Arrow ∷ type_signs result r) in
    let b = type_spelled result n f.2 (omega (arith, l)) (past a.to (mk m.Arrow)) r in
    record { to = b.to; new = signature x args result at; same = refl; holds = a_val a.holds b.holds }
definition_made (function g) f n l at r =
    let behind_type = mk m.Equals ∷ signs g.body r in
    let a = param_list_spelled g.params n f.1 (omega (arith, l)) (past (past at (kw k.Function)) (sign.Name g.name)) (mk m.Arrow ∷ type_signs g.result behind_type) in
    let b = type_spelled g.result n f.2 (omega (arith, l)) (past a.to (mk m.Arrow)) behind_type in
    let c = tree_full g.body f.3 n (omega (arith, l)) (past b.to (mk m.Equals)) r in
    record {
      to = c.to;
      new = function (record { name = g.name; params = g.params; result = g.result; body = c.new; at = at });
      same = ap (λ (x : Tree). function (record { name = g.name; params = g.params; result = g.result; body = x; at = 0 })) c.same;
      holds = a_function a.holds b.holds c.bare;
    }

-- ---- programs

-- all signs from a place on spell definitions that differ in places alone
record MadeAll (is : Words → List Definition → Type 0) (ds : List Definition) (at : ℕ) (ss : Signs) : Type 0 where
  new : List Definition
  same : unplaced_program new ≡ unplaced_program ds
  holds : is (placed at ss) new

definitions_made : (ds : List Definition) → AreFormedDefinitions ds → (n : ℕ) → program_levels ds ≤ n → (at : ℕ) → MadeAll (SpellsDefinitions n) ds at (program_signs ds)
definitions_made [] f n l at = record { new = []; same = refl; holds = no_definition }
definitions_made (d ∷ ds) f n l at =
    let a = definition_made d f.0 n (omega (arith, l)) at (program_signs ds) in
    let b = definitions_made ds f.1 n (omega (arith, l)) a.to in
    record {
      new = a.new ∷ b.new;
      same = ap (λ (x : Definition). x ∷ unplaced_program b.new) a.same ∙ ap (λ (xs : List Definition). unplaced_definition d ∷ xs) b.same;
      holds = more_definitions a.holds b.holds;
    }

without_order : (ds : List Definition) → AreFormedDefinitions ds → (n : ℕ) → program_levels ds ≤ n → MadeAll (SpellsProgram n) ds 0 (program_signs ds)
without_order ds f n l = let a = definitions_made ds f n l 0 in record { new = a.new; same = a.same; holds = unordered a.holds }

program_made : (ds : List Definition) → IsFormedProgram ds → (n : ℕ) → program_levels ds ≤ n → MadeAll (SpellsProgram n) ds 0 (program_signs ds)
program_made [] f n l = record { new = []; same = refl; holds = unordered no_definition }
program_made (order ∷ ds) f n l =
    let a = definitions_made ds f n (omega (arith, l)) (past (past (past 0 (kw k.Default)) (kw k.Order)) (kw k.Dec)) in
    record { new = order ∷ a.new; same = ap (λ (xs : List Definition). order ∷ xs) a.same; holds = ordered a.holds }
program_made (register x w p ∷ ds) f n l = without_order (register x w p ∷ ds) f n l
program_made (enumeration x members p ∷ ds) f n l = without_order (enumeration x members p ∷ ds) f n l
program_made (signature x args result p ∷ ds) f n l = without_order (signature x args result p ∷ ds) f n l
program_made (function g ∷ ds) f n l = without_order (function g ∷ ds) f n l

-- ---- how many there are of a kind

one_longer : (b : Bool) (x y : Definition) (xs ys : List Definition) → length xs ≡ length ys → length (if b then x ∷ xs else xs) ≡ length (if b then y ∷ ys else ys)
one_longer true x y xs ys h = ap suc h
one_longer false x y xs ys h = h

as_many : (p : Definition → Bool) → ((d : Definition) → p (unplaced_definition d) ≡ p d) → (ds : List Definition) → length (filter p (unplaced_program ds)) ≡ length (filter p ds)
as_many p h [] = refl
as_many p h (d ∷ ds) =
    ap (λ b. length (if b then unplaced_definition d ∷ filter p (unplaced_program ds) else filter p (unplaced_program ds))) (h d)
    ∙ one_longer (p d) (unplaced_definition d) d (filter p (unplaced_program ds)) (filter p ds) (as_many p h ds)

same_count : (p : Definition → Bool) → ((d : Definition) → p (unplaced_definition d) ≡ p d) → (ds es : List Definition) → unplaced_program es ≡ unplaced_program ds → length (filter p es) ≡ length (filter p ds)
same_count p h ds es same = sym (as_many p h es) ∙ ap (λ xs. length (filter p xs)) same ∙ as_many p h ds

register_kept : (d : Definition) → is_register (unplaced_definition d) ≡ is_register d
register_kept order = refl
register_kept d = refl

enum_kept : (d : Definition) → is_enum (unplaced_definition d) ≡ is_enum d
enum_kept order = refl
enum_kept d = refl

function_kept : (d : Definition) → is_a_function (unplaced_definition d) ≡ is_a_function d
function_kept order = refl
function_kept d = refl

few_kept : (ds es : List Definition) → unplaced_program es ≡ unplaced_program ds → AreFew ds → AreFew es
few_kept ds es same few = record {
  registers = omega (arith, few.registers, same_count is_register register_kept ds es same);
  enums = omega (arith, few.enums, same_count is_enum enum_kept ds es same);
  functions = omega (arith, few.functions, same_count is_a_function function_kept ds es same);
}

-- ---- the text

behind_first : Text → Text
behind_first [] = []
behind_first (b ∷ z) = z

-- a text is cut into the words of signs
record IsCut (z : Text) (ss : Signs) : Type 0 where
  tokens : List Token
  cuts : cut z ≡ Ok tokens
  words : words_of z tokens ≡ placed 0 ss

text_cut : (z : Text) (ss : Signs) → AreSigns ss → 10 ∷ z ≡ behind ss → IsCut z ss
unfolding behind_first
text_cut z [] g e =
    let none : z ≡ [] = ap behind_first e in
    record { tokens = []; cuts = ap cut none ∙ cut_is [] ∙ cut_at-nil 0; words = refl }
text_cut z (s ∷ ss) g e =
    let same : z ≡ sign_text s ++ behind ss = ap behind_first e in
    record {
      tokens = tokens_of 0 (s ∷ ss);
      cuts = ap cut same ∙ signs_cut s ss g;
      words = ap (λ y. words_of y (tokens_of 0 (s ∷ ss))) same ∙ signs_words s ss g;
    }

pub printed_read_back : (ds : List Definition) → IsFormedProgram ds → AreFew ds → HasShortText ds → IsReadBack ds
printed_read_back ds formed few short =
    let a = program_made ds formed max_nesting short.levels in
    let c = text_cut (printed ds) (program_signs ds) (program_good ds formed) (program_is ds) in
    record {
      again = a.new;
      spelled = record {
        short = short.bytes;
        tokens = c.tokens;
        cut = c.cuts;
        program = record { spelled = subst (λ (ws : Words). SpellsProgram max_nesting ws a.new) (sym c.words) a.holds; few = few_kept ds a.new a.same few };
      };
      same = a.same;
    }
