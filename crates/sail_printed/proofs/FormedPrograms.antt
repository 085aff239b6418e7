-- What a text spells has the form that the law of printing asks for: programs.
use Rattle.std.proofs.Common.{◌≡◌, ℕ, List, [], ◌∷◌, Ok, sym, ◌∙◌}
use Rattle.std.specs.Bool.{⊤}
use Rattle.lex_core.proofs.LexingLemmas.{cut_is}
use Rattle.lex_core.proofs.CuttingLemmas.{tokens-each}
use Rattle.sail_syntax.specs.Tree.{Text}
use Rattle.sail_syntax.specs.Program.{Definition, Function, order, register, enumeration, signature, function}
use Rattle.sail_syntax.specs.declared.types.Ty.{Ty}
use Rattle.sail_syntax.specs.declared.types.Param.{Param}
use Rattle.sail_grammar.specs.Words.{Words}
use Rattle.sail_grammar.specs.Definitions.{SpellsNames, last_name, last_comma, more_names, SpellsTypes, last_type, more_types, SpellsParams, last_param, more_params, SpellsTypeList, no_types, some_types, SpellsParamList, no_params, some_params, SpellsDefinition, a_register, an_enum, a_val, a_function, SpellsDefinitions, no_definition, more_definitions, SpellsProgram, ordered, unordered}
use Rattle.sail_grammar.specs.Spelling.{IsSpelling}
use Rattle.sail_printed.specs.Forms.{IsName, AreNames, AreFormedTypes, AreFormedParams, IsFormedDefinition, AreFormedDefinitions, IsFormedProgram}
use Rattle.sail_printed.specs.PrintedLaws.{HasShortText, IsReadBack}
use Rattle.sail_printed.proofs.WordLemmas.{HaveSigns, words_have_signs}
use Rattle.sail_printed.proofs.FormedLemmas.{type_formed, tree_formed}
use Rattle.sail_printed.proofs.SpelledPrograms.{printed_read_back}

-- ---- definitions

one_name_more : (x : Text) (xs : List Text) → IsName x → AreNames xs → AreNames (x ∷ xs)
one_name_more x [] a b = absurd b
one_name_more x (y ∷ xs) a b = (a, b)

names_formed : {ts r : Words} {xs : List Text} → SpellsNames ts xs r → HaveSigns ts → AreNames xs × HaveSigns r
names_formed last_name h = (h.0, h.1.1)
names_formed last_comma h = (h.0, h.1.1.1)
names_formed (more_names {x = x} {xs = xs} d) h = let a = names_formed d h.1.1 in (one_name_more x xs h.0 a.0, a.1)

types_formed : {n : ℕ} {ts r : Words} {all : List Ty} → SpellsTypes n ts all r → HaveSigns ts → AreFormedTypes all × HaveSigns r
types_formed (last_type d) h = let a = type_formed d h in ((a.0, tt), a.1.1)
types_formed (more_types d e) h =
    let a = type_formed d h in
    let b = types_formed e a.1.1 in
    ((a.0, b.0), b.1)

params_formed : {n : ℕ} {ts r : Words} {all : List Param} → SpellsParams n ts all r → HaveSigns ts → AreFormedParams all × HaveSigns r
params_formed (last_param d) h = let a = type_formed d h.1.1 in ((h.0, a.0, tt), a.1.1)
params_formed (more_params d e) h =
    let a = type_formed d h.1.1 in
    let b = params_formed e a.1.1 in
    ((h.0, a.0, b.0), b.1)

type_list_formed : {n : ℕ} {ts r : Words} {all : List Ty} → SpellsTypeList n ts all r → HaveSigns ts → AreFormedTypes all × HaveSigns r
type_list_formed no_types h = (tt, h.1.1)
type_list_formed (some_types d) h = types_formed d h.1

param_list_formed : {n : ℕ} {ts r : Words} {all : List Param} → SpellsParamList n ts all r → HaveSigns ts → AreFormedParams all × HaveSigns r
param_list_formed no_params h = (tt, h.1.1)
param_list_formed (some_params d) h = params_formed d h.1

definition_formed : {n : ℕ} {ts r : Words} {d : Definition} → SpellsDefinition n ts d r → HaveSigns ts → IsFormedDefinition d × HaveSigns r
definition_formed (a_register w) h = ((h.1.0, w), h.1.1.1.1.1.1.1)
definition_formed (an_enum d) h = let a = names_formed d h.1.1.1.1 in ((h.1.0, a.0), a.1)
definition_formed (a_val d e) h =
    let a = type_list_formed d h.1.1.1 in
    let b = type_formed e a.1.1 in
    ((h.1.0, a.0, b.0), b.1)
definition_formed (a_function d e g) h =
    let a = param_list_formed d h.1.1 in
    let b = type_formed e a.1.1 in
    let c = tree_formed g b.1.1 in
    ((h.1.0, a.0, b.0, c.0), c.1)

definitions_formed : {n : ℕ} {ts : Words} {ds : List Definition} → SpellsDefinitions n ts ds → HaveSigns ts → AreFormedDefinitions ds
definitions_formed no_definition h = tt
definitions_formed (more_definitions d e) h = let a = definition_formed d h in (a.0, definitions_formed e a.1)

-- ---- programs

all_formed : (ds : List Definition) → AreFormedDefinitions ds → IsFormedProgram ds
all_formed [] h = tt
all_formed (order ∷ ds) h = absurd h.0
all_formed (register x w p ∷ ds) h = h
all_formed (enumeration x members p ∷ ds) h = h
all_formed (signature x args result p ∷ ds) h = h
all_formed (function g ∷ ds) h = h

program_formed : {n : ℕ} {ts : Words} {ds : List Definition} → SpellsProgram n ts ds → HaveSigns ts → IsFormedProgram ds
program_formed (ordered d) h = definitions_formed d h.1.1.1
program_formed (unordered {ds = ds} d) h = all_formed ds (definitions_formed d h)

pub spelled_formed : (text : Text) (ds : List Definition) → IsSpelling text ds → IsFormedProgram ds
spelled_formed text ds s = program_formed s.program.spelled (words_have_signs text s.tokens (tokens-each text s.tokens (sym (cut_is text) ∙ s.cut)))

pub spelled_read_back : (text : Text) (ds : List Definition) → IsSpelling text ds → HasShortText ds → IsReadBack ds
spelled_read_back text ds s short = printed_read_back ds (spelled_formed text ds s) s.program.few short
