-- Names, members, argument types, parameters; statements and arms.
use Rattle.std.proofs.Common.{◌≡◌, ℕ, List, [], ◌∷◌, ◌++◌, Option, Some, None, refl, sym, subst, append_assoc}
use Rattle.std.specs.Prelude.{if◌then◌else◌}
use Rattle.sail_syntax.specs.Tree.{Text, node, unit, Case, Cases, no_case, case, Step, does, Steps, done, next}
use Rattle.sail_syntax.specs.View.{cases_of}
use Rattle.sail_syntax.specs.Program.{Definition, enumeration}
use Rattle.sail_syntax.specs.declared.types.Ty.{Ty}
use Rattle.sail_syntax.specs.declared.types.Param.{Param}
use Rattle.sail_grammar.specs.declared.keyword.Keyword.TheVariants as kw
use Rattle.sail_grammar.specs.declared.mark.Mark.TheVariants as m
use Rattle.sail_grammar.specs.declared.word.Sign.{Sign}
use Rattle.sail_grammar.specs.declared.word.Sign.TheVariants as sign
use Rattle.sail_grammar.specs.declared.word.Word.{Word}
use Rattle.sail_grammar.specs.Words.{Words, the, its, named}
use Rattle.sail_grammar.specs.Expressions as g
use Rattle.sail_grammar.specs.Expressions.{SpellsStatement, SpellsStatements, SpellsArm, SpellsArms}
use Rattle.sail_grammar.specs.Definitions as d
use Rattle.sail_grammar.specs.Definitions.{is_enum, SpellsNames, SpellsTypes, SpellsParams, SpellsTypeList, SpellsParamList}
use Rattle.sail_machine.specs.declared.heads.Binder.{Binder}
use Rattle.sail_machine.specs.declared.heads.Binder.TheVariants as binder
use Rattle.sail_machine.specs.declared.heads.EnumHead.{EnumHead}
use Rattle.sail_machine.specs.declared.heads.ValHead.{ValHead}
use Rattle.sail_machine.specs.declared.heads.FunctionHead.{FunctionHead}
use Rattle.sail_machine.specs.declared.awaited.Await.TheVariants as a
use Rattle.sail_machine.specs.declared.awaited.Fixed.TheVariants as fixed
use Rattle.sail_machine.specs.declared.awaited.Naming.{Naming}
use Rattle.sail_machine.specs.declared.awaited.Naming.TheVariants as naming
use Rattle.sail_machine.specs.declared.awaited.TypeUse.TheVariants as typing
use Rattle.sail_machine.specs.Frames as f
use Rattle.sail_machine.specs.Frames.{Frames, awaits}
use Rattle.sail_machine.specs.Signs.{is_keyword, is_mark}
use Rattle.sail_machine.specs.Turns.{unexpected, fixes, goes, closed}
use Rattle.sail_machine.specs.Headers.{called, name_word, binds_local}
use Rattle.sail_machine.specs.Machine.{enum_ends, member_or_end, more_members, type_or_end, more_types, param_or_end, more_params, want, block_closes, statement, local_more, arms_close, arm_or_end}
use Rattle.sail_machine.proofs.Steps.{before_cases, before_steps, cases_last, cases_more, steps_last, steps_more}
use Rattle.sail_machine.proofs.Rests.{below, HasPlace, Definitions, Fits}
use Rattle.sail_machine.proofs.Awaiting.{Members, Written, AwaitsName, Statements, Arms, Awaits, Turned}
use Rattle.sail_machine.proofs.Found.{keyworded, marked, up_block}
use Rattle.sail_machine.proofs.FoundDefinitions.{adds}
use Rattle.sail_machine.proofs.FoundEnds.{closed_found, matches}
use Rattle.sail_machine.proofs.FoundOperands.{want_found}
use Rattle.sail_machine.proofs.FoundForms.{type_found, part_found}

module _ (D : List Definition) where
  -- ---- names

  called_found : (k : Frames) (u : Naming) (x : Text) (at : ℕ) (ws : Words) → Turned D (called k u x) ws → AwaitsName D k u (named x at ∷ ws)
  called_found k (naming.Register p) x at ws h = λ place. h place at
  called_found k (naming.Enum p) x at ws h = λ place. h place at
  called_found k (naming.Val p) x at ws h = h at
  called_found k (naming.Function p) x at ws h = λ place. h place at
  called_found k (naming.Member e) x at ws h = h e.members x at refl
  called_found k (naming.Param e) x at ws h = h at
  called_found k (naming.Each p) x at ws h = λ free room q. h free room q at
  called_found k (naming.Local b) x at ws h = λ p. h p at

  pub name_found : (k : Frames) (u : Naming) (s : Sign) (at : ℕ) (ws : Words) → Turned D (name_word k u s at) ws → AwaitsName D k u (record { sign = s; at = at } ∷ ws)
  name_found k u (sign.Name x) at ws h = called_found k u x at ws h
  name_found k u (sign.Keyword word) at ws h = absurd h
  name_found k u (sign.Number n) at ws h = absurd h
  name_found k u (sign.Literal b) at ws h = absurd h
  name_found k u (sign.Text z) at ws h = absurd h
  name_found k u (sign.Operator op) at ws h = absurd h
  name_found k u (sign.Mark which) at ws h = absurd h

  -- ---- members

  -- an enum ends
  enum_found : (k : Frames) (x : Text) (xs : List Text) (at : ℕ) (ws : Words) → Turned D (enum_ends k (record { name = x; members = xs; at = at })) ws
      → (us : Words) (q s t : ℕ) → SpellsNames us xs ws → HasPlace is_enum k → Definitions D k (the kw.Enum at ∷ named x q ∷ its m.Equals s ∷ its m.OpenBrace t ∷ us)
  enum_found k x xs at ws h us q s t names place = adds D k (enumeration x xs at) (d.an_enum names) (λ e. absurd cc) (λ e. place) (λ e. absurd cc) h

  -- one member more stands behind a last one and a `,`
  next_member : (k : Frames) (h : EnumHead) (xs : List Text) (x : Text) (p c : ℕ) (ts : Words) → h.members ≡ xs ++ x ∷ [] → Members D k h ts
      → Members D k (record { name = h.name; members = xs; at = h.at }) (named x p ∷ its m.Comma c ∷ ts)
  next_member k h xs x p c ts e more = λ place us q s t front. more place us q s t
      (λ ys r names. subst (λ (l : List Text). SpellsNames us (l ++ ys) r) (sym e) (subst (λ (l : List Text). SpellsNames us l r) (sym (append_assoc xs (x ∷ []) ys)) (front (x ∷ ys) r (d.more_names names))))

  pub member_or_end_found : (k : Frames) (h : EnumHead) (w : Word) (ws : Words) → Turned D (member_or_end k h w) ws → Awaits D k (a.MemberOrEnd h) (w ∷ ws)
  member_or_end_found k h w ws t =
      marked D m.CloseBrace w.sign w.at (λ r. Awaits D k (a.MemberOrEnd h) r) ws (enum_ends k h) (name_word k (naming.Member h) w.sign w.at)
      (λ more xs x p c e place us q s u front. enum_found k h.name h.members h.at ws more us q s u (subst (λ (l : List Text). SpellsNames us l ws) (sym e) (front (x ∷ []) ws d.last_comma)) place)
      (λ t' xs x p c e. next_member k h xs x p c (w ∷ ws) e (name_found k (naming.Member h) w.sign w.at ws t')) t

  pub more_members_found : (k : Frames) (h : EnumHead) (w : Word) (ws : Words) → Turned D (more_members k h w) ws → Awaits D k (a.MoreMembers h) (w ∷ ws)
  more_members_found k h w ws t =
      marked D m.Comma w.sign w.at (λ r. Awaits D k (a.MoreMembers h) r) ws (goes k (a.MemberOrEnd h)) (if is_mark m.CloseBrace w.sign then enum_ends k h else unexpected w.at)
      (λ more xs x p e. more xs x p w.at e)
      (marked D m.CloseBrace w.sign w.at (λ r. Awaits D k (a.MoreMembers h) r) ws (enum_ends k h) (unexpected w.at)
      (λ more xs x p e place us q s u front. enum_found k h.name h.members h.at ws more us q s u (subst (λ (l : List Text). SpellsNames us l ws) (sym e) (front (x ∷ []) ws d.last_name)) place)
      (λ g'. absurd g')) t

  -- ---- argument types

  pub type_or_end_found : (k : Frames) (h : ValHead) (w : Word) (ws : Words) → Turned D (type_or_end k h w) ws → Awaits D k (a.TypeOrEnd h) (w ∷ ws)
  type_or_end_found k h w ws t =
      marked D m.Close w.sign w.at (λ r. Awaits D k (a.TypeOrEnd h) r) ws (fixes k (fixed.ValArrow h)) _
      (λ more e q s o. more (its m.Open o ∷ its m.Close w.at ∷ ws) q s (subst (λ (l : List Ty). SpellsTypeList 128 (its m.Open o ∷ its m.Close w.at ∷ ws) l ws) (sym e) d.no_types))
      (λ t' e q s o. type_found D k (typing.Argument h) w.sign w.at ws t' (w ∷ ws) q s o (λ all r types. subst (λ (l : List Ty). SpellsTypes 127 (w ∷ ws) (l ++ all) r) (sym e) types)) t

  pub more_types_found : (k : Frames) (h : ValHead) (w : Word) (ws : Words) → Turned D (more_types k h w) ws → Awaits D k (a.MoreTypes h) (w ∷ ws)
  more_types_found k h w ws t =
      marked D m.Comma w.sign w.at (λ r. Awaits D k (a.MoreTypes h) r) ws (goes k (a.Type (typing.Argument h))) (if is_mark m.Close w.sign then fixes k (fixed.ValArrow h) else unexpected w.at)
      (λ more xs x us e each vs q s o front. more vs q s o
      (λ ys r types. subst (λ (l : List Ty). SpellsTypes 127 vs (l ++ ys) r) (sym e) (subst (λ (l : List Ty). SpellsTypes 127 vs l r) (sym (append_assoc xs (x ∷ []) ys)) (front (x ∷ ys) r (d.more_types (each 126) types)))))
      (marked D m.Close w.sign w.at (λ r. Awaits D k (a.MoreTypes h) r) ws (fixes k (fixed.ValArrow h)) (unexpected w.at)
      (λ more xs x us e each vs q s o front. more (its m.Open o ∷ vs) q s
      (subst (λ (l : List Ty). SpellsTypeList 128 (its m.Open o ∷ vs) l ws) (sym e) (d.some_types (front (x ∷ []) ws (d.last_type (each 126))))))
      (λ g'. absurd g')) t

  -- ---- parameters

  pub param_or_end_found : (k : Frames) (h : FunctionHead) (w : Word) (ws : Words) → Turned D (param_or_end k h w) ws → Awaits D k (a.ParamOrEnd h) (w ∷ ws)
  param_or_end_found k h w ws t =
      marked D m.Close w.sign w.at (λ r. Awaits D k (a.ParamOrEnd h) r) ws (fixes k (fixed.FunctionArrow h)) (name_word k (naming.Param h) w.sign w.at)
      (λ more e place q o. more place (its m.Open o ∷ its m.Close w.at ∷ ws) q (subst (λ (l : List Param). SpellsParamList 128 (its m.Open o ∷ its m.Close w.at ∷ ws) l ws) (sym e) d.no_params))
      (λ t' e place q o. name_found k (naming.Param h) w.sign w.at ws t' place (w ∷ ws) q o (λ all r params. subst (λ (l : List Param). SpellsParams 127 (w ∷ ws) (l ++ all) r) (sym e) params)) t

  pub more_params_found : (k : Frames) (h : FunctionHead) (w : Word) (ws : Words) → Turned D (more_params k h w) ws → Awaits D k (a.MoreParams h) (w ∷ ws)
  more_params_found k h w ws t =
      marked D m.Comma w.sign w.at (λ r. Awaits D k (a.MoreParams h) r) ws (goes k (a.Name (naming.Param h))) (if is_mark m.Close w.sign then fixes k (fixed.FunctionArrow h) else unexpected w.at)
      (λ more xs y x us p c e each place vs q o front. more place vs q o
      (λ ys r params. subst (λ (l : List Param). SpellsParams 127 vs (l ++ ys) r) (sym e)
      (subst (λ (l : List Param). SpellsParams 127 vs l r) (sym (append_assoc xs (record { name = y; ty = x } ∷ []) ys)) (front (record { name = y; ty = x } ∷ ys) r (d.more_params (each 126) params)))))
      (marked D m.Close w.sign w.at (λ r. Awaits D k (a.MoreParams h) r) ws (fixes k (fixed.FunctionArrow h)) (unexpected w.at)
      (λ more xs y x us p c e each place vs q o front. more place (its m.Open o ∷ vs) q
      (subst (λ (l : List Param). SpellsParamList 128 (its m.Open o ∷ vs) l ws) (sym e) (d.some_params (front (record { name = y; ty = x } ∷ []) ws (d.last_param (each 126))))))
      (λ g'. absurd g')) t

  -- ---- statements

  -- the value of a local comes next
  pub binds_found : (k : Frames) (b : Binder) (x : Text) (t : Option Ty) (at : ℕ) (ws : Words) → Turned D (binds_local k b x t at) ws → Written D k b x t (its m.Equals at ∷ ws)
  binds_found (f.statements ss p ∷ k) b x t at ws h = λ us p' q written. h tt us p' q at written
  binds_found [] b x t at ws h = absurd h
  binds_found (g' ∷ k) b x t at ws h = absurd h

  pub local_found : (k : Frames) (b : Binder) (x : Text) (w : Word) (ws : Words) → Turned D (local_more k b x w) ws → Awaits D k (a.LocalMore b x) (w ∷ ws)
  local_found k b x w ws h =
      marked D m.Colon w.sign w.at (λ r. Awaits D k (a.LocalMore b x) r) ws (goes k (a.Type (typing.Local b x))) (if is_mark m.Equals w.sign then binds_local k b x None w.at else unexpected w.at)
      (λ more at q. more at q w.at)
      (marked D m.Equals w.sign w.at (λ r. Awaits D k (a.LocalMore b x) r) ws (binds_local k b x None w.at) (unexpected w.at)
      (λ more at q. binds_found k b x None w.at ws more (its m.Equals w.at ∷ ws) at q g.no_type) (λ g'. absurd g')) h

  -- no brace, but a statement
  statement_begins : (k : Frames) (ss : List Step) (p : ℕ) (w : Word) (ws : Words)
      → Turned D (if is_keyword kw.Let w.sign then goes (f.statements ss p ∷ k) (a.Name (naming.Local binder.Let)) else if is_keyword kw.Var w.sign then goes (f.statements ss p ∷ k) (a.Name (naming.Local binder.Var)) else want (f.statements ss p ∷ k) w) ws
      → Fits D (f.statements ss p ∷ k) (w ∷ ws)
  statement_begins k ss p w ws h =
      keyworded D kw.Let w.sign w.at (λ r. Fits D (f.statements ss p ∷ k) r) ws _ _ (λ more. more w.at)
      (keyworded D kw.Var w.sign w.at (λ r. Fits D (f.statements ss p ∷ k) r) ws _ _ (λ more. more w.at) (λ h'. want_found D (f.statements ss p ∷ k) w ws h' tt)) h

  -- one statement more stands behind one and a `;`
  next_statement : (k : Frames) (ss xs : List Step) (x : Step) (us ts : Words) (p q : ℕ) → ss ≡ xs ++ x ∷ [] → SpellsStatement (below k 1) us x (its m.Semicolon q ∷ ts) → Fits D (f.statements ss p ∷ k) ts
      → Fits D (f.statements xs p ∷ k) us
  next_statement k ss xs x us ts p q e s more = λ room vs front. more room vs
      (λ ys r all. subst (λ (l : List Step). SpellsStatements (below k 1) vs (before_steps l ys) r) (sym e)
      (subst (λ (l : Steps). SpellsStatements (below k 1) vs l r) (sym (steps_more xs x ys)) (front (next x ys) r (g.more_statements s all))))

  block_found : (k : Frames) (ss : List Step) (p : ℕ) (before : Option ℕ) (at : ℕ) (ws : Words) → Turned D (block_closes (f.statements ss p ∷ k) before at) ws
      → Statements D (f.statements ss p ∷ k) before (its m.CloseBrace at ∷ ws)
  block_found k ss p None at ws h = λ e room.
      closed_found D k [] p (subst (λ (l : List Step). Turned D (closed k (l ++ []) p) ws) e h) (its m.OpenBrace p ∷ its m.CloseBrace at ∷ ws) refl (up_block k room g.no_statement)
  block_found k ss p (Some q) at ws h = λ xs x us e s room vs front.
      closed_found D k ((xs ++ x ∷ []) ++ does (node q unit) ∷ []) p (subst (λ (l : List Step). Turned D (closed k (l ++ does (node q unit) ∷ []) p) ws) e h) (its m.OpenBrace p ∷ vs) refl
      (up_block k room (g.statements (subst (λ (l : Steps). SpellsStatements (below k 1) vs l ws) (sym (steps_last (xs ++ x ∷ []) (does (node q unit))))
      (subst (λ (l : Steps). SpellsStatements (below k 1) vs l ws) (sym (steps_more xs x (next (does (node q unit)) done))) (front (next x (next (does (node q unit)) done)) ws (g.one_more s))))))

  -- a statement or the brace, in a block
  in_block : (k : Frames) (ss : List Step) (p : ℕ) (before : Option ℕ) (w : Word) (ws : Words) → (Fits D (f.statements ss p ∷ k) (w ∷ ws) → Statements D (f.statements ss p ∷ k) before (w ∷ ws))
      → Turned D (statement (f.statements ss p ∷ k) before w) ws → Statements D (f.statements ss p ∷ k) before (w ∷ ws)
  in_block k ss p before w ws other h =
      marked D m.CloseBrace w.sign w.at (λ r. Statements D (f.statements ss p ∷ k) before r) ws (block_closes (f.statements ss p ∷ k) before w.at) _
      (block_found k ss p before w.at ws) (λ h'. other (statement_begins k ss p w ws h')) h

  pub statement_word_found : (k : Frames) (before : Option ℕ) (w : Word) (ws : Words) → Turned D (statement k before w) ws → Statements D k before (w ∷ ws)
  statement_word_found (f.statements ss p ∷ k) None w ws h =
      in_block k ss p None w ws (λ more e room. more room (w ∷ ws) (λ ys r all. subst (λ (l : List Step). SpellsStatements (below k 1) (w ∷ ws) (before_steps l ys) r) (sym e) all)) h
  statement_word_found (f.statements ss p ∷ k) (Some q) w ws h =
      in_block k ss p (Some q) w ws (λ more xs x us e s. next_statement k ss xs x us (w ∷ ws) p q e s more) h
  statement_word_found [] before w ws h = tt
  statement_word_found (g' ∷ k) before w ws h = tt

  -- ---- arms

  pub arm_found : (k : Frames) (w : Word) (ws : Words) → Turned D (arm_or_end k w) ws → Arms D k (w ∷ ws)
  arm_found (f.arms x cs p ∷ k) w ws h =
      marked D m.CloseBrace w.sign w.at (λ r. Arms D (f.arms x cs p ∷ k) r) ws (arms_close (f.arms x cs p ∷ k) w.at) _
      (λ more xs c us q e one free room vs vs' o q' on front. more free (the kw.Match p ∷ vs)
      (matches k room on (subst (λ (l : List Case). SpellsArms (below k 2) vs' (cases_of l) ws) (sym e)
      (subst (λ (l : Cases). SpellsArms (below k 2) vs' l ws) (sym (cases_last xs c)) (front (case c no_case) ws (g.last_comma one))))))
      (λ h' xs c us q e one free room vs vs' o q' on front. part_found D (f.arms x cs p ∷ k) [] w.sign w.at ws h' free room vs vs' o q' on
      (λ all r more. subst (λ (l : List Case). SpellsArms (below k 2) vs' (before_cases l all) r) (sym e)
      (subst (λ (l : Cases). SpellsArms (below k 2) vs' l r) (sym (cases_more xs c all)) (front (case c all) r (g.more_arms one more))))) h
  arm_found [] w ws h = tt
  arm_found (g' ∷ k) w ws h = tt
