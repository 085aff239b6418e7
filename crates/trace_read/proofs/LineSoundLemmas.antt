-- A line that is read is spelled.
use Rattle.std.proofs.Common.{◌≡◌, ℕ, suc, ◌+◌, ◌*◌, ◌≤◌, ◌<◌, Bool, true, false, cond, List, [], ◌∷◌, length, Option, Some, Result, Ok, Err, refl, sym, ap, subst, ◌∙◌, arith}
use Rattle.std.specs.Prelude.{bytes_eq, codes, nat_eq}
use Rattle.std.specs.List.{position_from}
use Rattle.std.specs.Option.{option_map}
use Rattle.std.proofs.lemmas.Bool.{eqb-true}
use Rattle.std.proofs.lemmas.Option.{slice_get-get_or}
use Rattle.lex_core.specs.declared.name.RegDecl.{RegDecl}
use Rattle.term_tree.specs.Terms.{Text, Tree, width_of}
use Rattle.term_print.specs.Words.{Word, name, number, literal, Lexeme}
use Rattle.term_words.specs.Scopes.{Scope}
use Rattle.term_read.specs.Reading.{Outcome, run, wanted}
use Rattle.term_read.specs.Spelling.{Words, placed, Spells}
use Rattle.term_read.proofs.SoundLemmas.{read_spelled}
use Rattle.trace_plain.specs.Rules.{var_name, register_width, IsByteCount}
use Rattle.trace_plain.specs.Trace.{Event, read_reg, write_reg, read_mem, write_mem, assume, need, assume_reg}
use Rattle.trace_read.specs.declared.word_tables.Head.{Head}
use Rattle.trace_read.specs.declared.word_tables.Head.TheVariants as head
use Rattle.trace_read.specs.Lines.{Line, event, done, fail, cases, next_variable, read_reg_line, write_reg_line, read_mem_line, write_mem_line, assume_line, need_line, assume_reg_line, fail_line, cases_line, line_behind, line}
use Rattle.trace_read.specs.Paths.{width_at}
use Rattle.trace_read.specs.Spelling.{SpellsTerm, SpellsEvent, reads_register, writes_register, reads_memory, writes_memory, assumes, needs, assumes_register}
use Rattle.trace_read.specs.Taking.{Left, Answer, Reading, ◌>>=◌, place, one, term_read, term, term_of, if_fits}
use Rattle.trace_read.specs.WordTables.{failure_of}
use Rattle.trace_read.specs.Words as words
use Rattle.trace_read.specs.Words.{register_number}
use Rattle.trace_read.proofs.StepLemmas.{both, same_value, Taken, taken}
use Rattle.trace_read.proofs.WordSoundLemmas.{word_of_head, fits_is, head_sound, failure_sound, register_sound, variable_sound, byte_count_sound, child_count_sound, value_sound}

-- ---- terms

term_is : (end : ℕ) (o : Outcome Tree) (t : Tree) (rest : Left) → term_read end o ≡ Ok (t, rest) → o ≡ Ok (t, rest.words)
term_is end (Ok (u, r)) t rest e =
    let pair : ◌≡◌ {A = Tree × Left} (u, record { words = r; end = end }) (t, rest) = same_value {A = Tree × Left} _ _ e in
    ap (λ (p : Tree × Left). Ok (p.0, p.1.words)) pair
term_is end (Err f) t rest e = absurd (cc)

pub term_sound : (scope : Scope) (left : Left) (t : Tree) (rest : Left) → term scope left ≡ Ok (t, rest) → Spells scope 1024 left.words t rest.words
unfolding term
term_sound scope left t rest e = read_spelled scope left.end left.words rest.words t (term_is left.end (run scope left.end [] wanted left.words) t rest e)

pub wide_sound : (scope : Scope) (width : ℕ) (left : Left) (t : Tree) (rest : Left) → term_of scope width left ≡ Ok (t, rest) → SpellsTerm scope width left.words t rest.words
unfolding term_of
wide_sound scope width left t rest e =
    let own = both (term scope left) (λ found. if_fits (nat_eq (width_of found.0) width) (place left) found) (t, rest) e in
    let fine = fits_is (nat_eq (width_of own.0.0) width) (place left) own.0 (t, rest) own.2 in
    let same : term scope left ≡ Ok (t, rest) = own.1 ∙ ap (λ (p : Tree × Left). Ok p) fine.1 in
    record {
      spells = term_sound scope left t rest same;
      wide = ap (λ (p : Tree × Left). width_of p.0) (sym fine.1) ∙ eqb-true (width_of own.0.0) width fine.0;
    }

-- ---- words in front

-- the words that are left, where the first one is this
word_first : {A : Type 0} (f : Lexeme → Answer A) (left : Left) (v : A) (rest : Left) (w : Word) (h : Taken f left v rest) → h.word.word ≡ w → left.words ≡ placed w h.word.at ∷ rest.words
word_first f left v rest w h e = h.words ∙ ap (λ (u : Word). placed u h.word.at ∷ rest.words) e

-- ---- registers

-- where a register is found, it is one of them
pub found_within : (registers : List RegDecl) (x : Text) (i r : ℕ) → position_from (λ (d : RegDecl). bytes_eq d.name x) i registers ≡ Some r → (i ≤ r) × (r < i + length registers)
found_within [] x i r e = absurd (cc)
found_within (d ∷ ds) x i r e = go (bytes_eq d.name x) (λ h. found_within ds x (i + 1) r h) e
  where
    go : (b : Bool) → (position_from (λ (c : RegDecl). bytes_eq c.name x) (i + 1) ds ≡ Some r → (i + 1 ≤ r) × (r < i + 1 + length ds))
        → cond b (Some i) (position_from (λ (c : RegDecl). bytes_eq c.name x) (i + 1) ds) ≡ Some r → (i ≤ r) × (r < i + suc (length ds))
    go true more h = let same : i ≡ r = cc in (omega arith, omega arith)
    go false more h = let own = more h in (omega (arith, own.0), omega (arith, own.1))

-- its width is the one that is declared
pub register_is : (registers : List RegDecl) (x : Text) (r : ℕ) → register_number registers x ≡ Some r → register_width registers r ≡ Some (width_at registers r)
unfolding register_number
register_is registers x r e =
    let within = found_within registers x 0 r e in
    ap (option_map (λ (d : RegDecl). d.width)) (slice_get-get_or registers r (record { name = []; width = 0 }) (omega arith))

-- ---- lines

-- the words up to others spell a line
abbrev pub SpellsLine : List RegDecl → Scope → Words → Line → Words → Type 0
SpellsLine registers scope ws (event e) rest = SpellsEvent registers scope ws e rest
SpellsLine registers scope ws done rest = (p : ℕ) × (ws ≡ placed (name (codes "done")) p ∷ rest)
SpellsLine registers scope ws (fail kind) rest =
    (p : ℕ) × (q : ℕ) × (x : Text) × (ws ≡ placed (name (codes "fail")) p ∷ placed (name x) q ∷ rest) × (failure_of x ≡ Some kind)
SpellsLine registers scope ws (cases k) rest = (p : ℕ) × (q : ℕ) × (ws ≡ placed (name (codes "cases")) p ∷ placed (number k) q ∷ rest) × (0 < k)

module _ (registers : List RegDecl) (scope : Scope) (p : ℕ) (left : Left) (l : Line) (rest : Left) where
  -- behind this word, what is left up to the rest spells the line
  abbrev Behind : Text → Type 0
  Behind x = SpellsLine registers scope (placed (name x) p ∷ left.words) l rest.words

  -- so it does if it spells what is read
  behind : (x : Text) (m : Line) (r : Left) → ◌≡◌ {A = Answer (Line × Left)} (Ok (m, r)) (Ok (l, rest)) → SpellsLine registers scope (placed (name x) p ∷ left.words) m r.words → Behind x
  behind x m r e h = subst (λ (q : Line × Left). SpellsLine registers scope (placed (name x) p ∷ left.words) q.0 q.1.words) (same_value {A = Line × Left} _ _ e) h

  read_reg_sound : read_reg_line registers scope left ≡ Ok (l, rest) → Behind (codes "read_reg")
  unfolding read_reg_line next_variable
  read_reg_sound e =
      let a = both (one (words.register registers) left) (λ r. one (words.variable (length scope)) r.1 >>= λ x. Ok (event (read_reg r.0 x.0), x.1)) (l, rest) e in
      let b = both (one (words.variable (length scope)) a.0.1) (λ x. Ok (event (read_reg a.0.0 x.0), x.1)) (l, rest) a.2 in
      let t = taken (words.register registers) left a.0.0 a.0.1 a.1 in
      let u = taken (words.variable (length scope)) a.0.1 b.0.0 b.0.1 b.1 in
      let r = register_sound registers t.word a.0.0 t.value in
      let v = variable_sound (length scope) u.word b.0.0 u.value in
      let both_words : left.words ≡ placed (name r.0) t.word.at ∷ placed (name (var_name (length scope))) u.word.at ∷ b.0.1.words =
      word_first (words.register registers) left a.0.0 a.0.1 (name r.0) t r.1
      ∙ ap (λ (ws : Words). placed (name r.0) t.word.at ∷ ws) (word_first (words.variable (length scope)) a.0.1 b.0.0 b.0.1 (name (var_name (length scope))) u v.0) in
      behind (codes "read_reg") (event (read_reg a.0.0 b.0.0)) b.0.1 b.2
      (subst (λ (ws : Words). SpellsEvent registers scope (placed (name (codes "read_reg")) p ∷ ws) (read_reg a.0.0 b.0.0) b.0.1.words) (sym both_words)
      (subst (λ (n : ℕ). SpellsEvent registers scope (placed (name (codes "read_reg")) p ∷ placed (name r.0) t.word.at ∷ placed (name (var_name (length scope))) u.word.at ∷ b.0.1.words) (read_reg a.0.0 n) b.0.1.words) v.1
      (reads_register r.2)))

  write_reg_sound : write_reg_line registers scope left ≡ Ok (l, rest) → Behind (codes "write_reg")
  unfolding write_reg_line
  write_reg_sound e =
      let a = both (one (words.register registers) left) (λ r. term_of scope (width_at registers r.0) r.1 >>= λ t. Ok (event (write_reg r.0 t.0), t.1)) (l, rest) e in
      let b = both (term_of scope (width_at registers a.0.0) a.0.1) (λ t. Ok (event (write_reg a.0.0 t.0), t.1)) (l, rest) a.2 in
      let t = taken (words.register registers) left a.0.0 a.0.1 a.1 in
      let r = register_sound registers t.word a.0.0 t.value in
      behind (codes "write_reg") (event (write_reg a.0.0 b.0.0)) b.0.1 b.2
      (subst (λ (ws : Words). SpellsEvent registers scope (placed (name (codes "write_reg")) p ∷ ws) (write_reg a.0.0 b.0.0) b.0.1.words)
      (sym (word_first (words.register registers) left a.0.0 a.0.1 (name r.0) t r.1))
      (writes_register r.2 (register_is registers r.0 a.0.0 r.2) (wide_sound scope (width_at registers a.0.0) a.0.1 b.0.0 b.0.1 b.1)))

  read_mem_sound : read_mem_line scope left ≡ Ok (l, rest) → Behind (codes "read_mem")
  unfolding read_mem_line next_variable
  read_mem_sound e =
      let a = both (one (words.variable (length scope)) left) (λ x. term_of scope 64 x.1 >>= λ t. one words.byte_count t.1 >>= λ n. Ok (event (read_mem x.0 t.0 n.0), n.1)) (l, rest) e in
      let b = both (term_of scope 64 a.0.1) (λ t. one words.byte_count t.1 >>= λ n. Ok (event (read_mem a.0.0 t.0 n.0), n.1)) (l, rest) a.2 in
      let c = both (one words.byte_count b.0.1) (λ n. Ok (event (read_mem a.0.0 b.0.0 n.0), n.1)) (l, rest) b.2 in
      let t = taken (words.variable (length scope)) left a.0.0 a.0.1 a.1 in
      let u = taken words.byte_count b.0.1 c.0.0 c.0.1 c.1 in
      let v = variable_sound (length scope) t.word a.0.0 t.value in
      let n = byte_count_sound u.word c.0.0 u.value in
      let at = wide_sound scope 64 a.0.1 b.0.0 b.0.1 b.1 in
      behind (codes "read_mem") (event (read_mem a.0.0 b.0.0 c.0.0)) c.0.1 c.2
      (subst (λ (ws : Words). SpellsEvent registers scope (placed (name (codes "read_mem")) p ∷ ws) (read_mem a.0.0 b.0.0 c.0.0) c.0.1.words)
      (sym (word_first (words.variable (length scope)) left a.0.0 a.0.1 (name (var_name (length scope))) t v.0))
      (subst (λ (m : ℕ). SpellsEvent registers scope (placed (name (codes "read_mem")) p ∷ placed (name (var_name (length scope))) t.word.at ∷ a.0.1.words) (read_mem m b.0.0 c.0.0) c.0.1.words) v.1
      (reads_memory (subst (λ (ws : Words). SpellsTerm scope 64 a.0.1.words b.0.0 ws) (word_first words.byte_count b.0.1 c.0.0 c.0.1 (number c.0.0) u n.0) at) n.1)))

  write_mem_sound : write_mem_line scope left ≡ Ok (l, rest) → Behind (codes "write_mem")
  unfolding write_mem_line
  write_mem_sound e =
      let a = both (term_of scope 64 left) (λ a. term scope a.1 >>= λ t. one words.byte_count t.1 >>= λ n. if_fits (nat_eq (width_of t.0) (8 * n.0)) (place a.1) (event (write_mem a.0 t.0 n.0), n.1)) (l, rest) e in
      let b = both (term scope a.0.1) (λ t. one words.byte_count t.1 >>= λ n. if_fits (nat_eq (width_of t.0) (8 * n.0)) (place a.0.1) (event (write_mem a.0.0 t.0 n.0), n.1)) (l, rest) a.2 in
      let c = both (one words.byte_count b.0.1) (λ n. if_fits (nat_eq (width_of b.0.0) (8 * n.0)) (place a.0.1) (event (write_mem a.0.0 b.0.0 n.0), n.1)) (l, rest) b.2 in
      let fine = fits_is (nat_eq (width_of b.0.0) (8 * c.0.0)) (place a.0.1) (event (write_mem a.0.0 b.0.0 c.0.0), c.0.1) (l, rest) c.2 in
      let u = taken words.byte_count b.0.1 c.0.0 c.0.1 c.1 in
      let n = byte_count_sound u.word c.0.0 u.value in
      let t : SpellsTerm scope (8 * c.0.0) a.0.1.words b.0.0 b.0.1.words =
      record { spells = term_sound scope a.0.1 b.0.0 b.0.1 b.1; wide = eqb-true (width_of b.0.0) (8 * c.0.0) fine.0 } in
      behind (codes "write_mem") (event (write_mem a.0.0 b.0.0 c.0.0)) c.0.1 (ap (λ (q : Line × Left). Ok q) fine.1)
      (writes_memory (wide_sound scope 64 left a.0.0 a.0.1 a.1)
      (subst (λ (ws : Words). SpellsTerm scope (8 * c.0.0) a.0.1.words b.0.0 ws) (word_first words.byte_count b.0.1 c.0.0 c.0.1 (number c.0.0) u n.0) t) n.1)

  assume_sound : assume_line scope left ≡ Ok (l, rest) → Behind (codes "assume")
  unfolding assume_line
  assume_sound e =
      let a = both (term_of scope 1 left) (λ t. Ok (event (assume t.0), t.1)) (l, rest) e in
      behind (codes "assume") (event (assume a.0.0)) a.0.1 a.2 (assumes (wide_sound scope 1 left a.0.0 a.0.1 a.1))

  need_sound : need_line scope left ≡ Ok (l, rest) → Behind (codes "need")
  unfolding need_line
  need_sound e =
      let a = both (term_of scope 1 left) (λ t. Ok (event (need t.0), t.1)) (l, rest) e in
      behind (codes "need") (event (need a.0.0)) a.0.1 a.2 (needs (wide_sound scope 1 left a.0.0 a.0.1 a.1))

  assume_reg_sound : assume_reg_line registers left ≡ Ok (l, rest) → Behind (codes "assume_reg")
  unfolding assume_reg_line
  assume_reg_sound e =
      let a = both (one (words.register registers) left) (λ r. one (words.value (width_at registers r.0)) r.1 >>= λ b. Ok (event (assume_reg r.0 b.0), b.1)) (l, rest) e in
      let b = both (one (words.value (width_at registers a.0.0)) a.0.1) (λ b. Ok (event (assume_reg a.0.0 b.0), b.1)) (l, rest) a.2 in
      let t = taken (words.register registers) left a.0.0 a.0.1 a.1 in
      let u = taken (words.value (width_at registers a.0.0)) a.0.1 b.0.0 b.0.1 b.1 in
      let r = register_sound registers t.word a.0.0 t.value in
      let v = value_sound (width_at registers a.0.0) u.word b.0.0 u.value in
      let both_words : left.words ≡ placed (name r.0) t.word.at ∷ placed (literal b.0.0) u.word.at ∷ b.0.1.words =
      word_first (words.register registers) left a.0.0 a.0.1 (name r.0) t r.1
      ∙ ap (λ (ws : Words). placed (name r.0) t.word.at ∷ ws) (word_first (words.value (width_at registers a.0.0)) a.0.1 b.0.0 b.0.1 (literal b.0.0) u v.0) in
      behind (codes "assume_reg") (event (assume_reg a.0.0 b.0.0)) b.0.1 b.2
      (subst (λ (ws : Words). SpellsEvent registers scope (placed (name (codes "assume_reg")) p ∷ ws) (assume_reg a.0.0 b.0.0) b.0.1.words) (sym both_words)
      (assumes_register r.2 (register_is registers r.0 a.0.0 r.2 ∙ ap (λ (w : ℕ). Some w) (sym v.1))))

  fail_sound : fail_line left ≡ Ok (l, rest) → Behind (codes "fail")
  unfolding fail_line
  fail_sound e =
      let a = both (one words.failure left) (λ k. Ok (fail k.0, k.1)) (l, rest) e in
      let t = taken words.failure left a.0.0 a.0.1 a.1 in
      let k = failure_sound t.word a.0.0 t.value in
      behind (codes "fail") (fail a.0.0) a.0.1 a.2
      (p, t.word.at, k.0, ap (λ (ws : Words). placed (name (codes "fail")) p ∷ ws) (word_first words.failure left a.0.0 a.0.1 (name k.0) t k.1), k.2)

  cases_sound : cases_line left ≡ Ok (l, rest) → Behind (codes "cases")
  unfolding cases_line
  cases_sound e =
      let a = both (one words.child_count left) (λ n. Ok (cases n.0, n.1)) (l, rest) e in
      let t = taken words.child_count left a.0.0 a.0.1 a.1 in
      let n = child_count_sound t.word a.0.0 t.value in
      behind (codes "cases") (cases a.0.0) a.0.1 a.2
      (p, t.word.at, ap (λ (ws : Words). placed (name (codes "cases")) p ∷ ws) (word_first words.child_count left a.0.0 a.0.1 (number a.0.0) t n.0), n.1)

  behind_sound : (h : Head) → line_behind registers scope h left ≡ Ok (l, rest) → Behind (word_of_head h)
  behind_sound head.ReadReg e = read_reg_sound e
  behind_sound head.WriteReg e = write_reg_sound e
  behind_sound head.ReadMem e = read_mem_sound e
  behind_sound head.WriteMem e = write_mem_sound e
  behind_sound head.Assume e = assume_sound e
  behind_sound head.Need e = need_sound e
  behind_sound head.AssumeReg e = assume_reg_sound e
  behind_sound head.Done e = behind (codes "done") done left e (p, refl)
  behind_sound head.Fail e = fail_sound e
  behind_sound head.Cases e = cases_sound e

-- a line that is read is spelled
pub line_sound : (registers : List RegDecl) (scope : Scope) (left : Left) (l : Line) (rest : Left) → line registers scope left ≡ Ok (l, rest) → SpellsLine registers scope left.words l rest.words
unfolding line
line_sound registers scope left l rest e =
    let a = both (one words.head left) (λ begun. line_behind registers scope begun.0 begun.1) (l, rest) e in
    let t = taken words.head left a.0.0 a.0.1 a.1 in
    subst (λ (ws : Words). SpellsLine registers scope ws l rest.words) (sym (word_first words.head left a.0.0 a.0.1 (name (word_of_head a.0.0)) t (head_sound t.word a.0.0 t.value)))
    (behind_sound registers scope t.word.at a.0.1 l rest a.0.0 a.2)
