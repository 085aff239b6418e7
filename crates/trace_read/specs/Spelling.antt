-- The grammar of traces: which words spell which trace, over registers, where variables are bound.
use Rattle.std.specs.Prelude.{◌≡◌, ℕ, ◌*◌, List, [], ◌∷◌, length, codes, Some, Ok}
use Rattle.bv_bits.specs.declared.Bits.{Bits}
use Rattle.lex_core.specs.declared.name.RegDecl.{RegDecl}
use Rattle.lex_core.specs.declared.token.Token.{Token}
use Rattle.lex_core.specs.Lexing.{cut}
use Rattle.term_tree.specs.Terms.{Text, Tree, width_of}
use Rattle.term_print.specs.Words.{name, number, literal, lexemes}
use Rattle.term_words.specs.Scopes.{Scope}
use Rattle.term_read.specs.Reading.{DEEPEST}
use Rattle.term_read.specs.Spelling.{Words, placed, Spells}
use Rattle.trace_plain.specs.declared.trace.FailKind.{FailKind}
use Rattle.trace_plain.specs.Rules.{var_name, register_width, IsByteCount}
use Rattle.trace_plain.specs.Trace.{Event, read_reg, write_reg, read_mem, write_mem, assume, need, assume_reg, Trace, trace, End, done, fail, cases, Traces, none, some, count}
use Rattle.trace_read.specs.Paths.{scope_behind}
use Rattle.trace_read.specs.WordTables.{failure_of}
use Rattle.trace_read.specs.Words.{register_number}

-- the words up to others spell a term of this width
pub record SpellsTerm (scope : Scope) (width : ℕ) (ws : Words) (t : Tree) (rest : Words) : Type 0 where
  pub spells : Spells scope DEEPEST ws t rest
  pub wide : width_of t ≡ width

-- the words up to others spell an event
pub data SpellsEvent : List RegDecl → Scope → Words → Event → Words → Type 0 where
  -- the value of a declared register becomes that of the next variable
  reads_register : {registers : List RegDecl} {scope : Scope} {p q s r : ℕ} {x : Text} {rest : Words} → register_number registers x ≡ Some r
      → SpellsEvent registers scope (placed (name (codes "read_reg")) p ∷ placed (name x) q ∷ placed (name (var_name (length scope))) s ∷ rest) (read_reg r (length scope)) rest
  -- a declared register takes the value of a term as wide
  writes_register : {registers : List RegDecl} {scope : Scope} {p q r width : ℕ} {x : Text} {t : Tree} {ws rest : Words} → register_number registers x ≡ Some r
      → register_width registers r ≡ Some width → SpellsTerm scope width ws t rest
      → SpellsEvent registers scope (placed (name (codes "write_reg")) p ∷ placed (name x) q ∷ ws) (write_reg r t) rest
  -- bytes from an address on become the value of the next variable
  reads_memory : {registers : List RegDecl} {scope : Scope} {p q s n : ℕ} {a : Tree} {ws rest : Words} → SpellsTerm scope 64 ws a (placed (number n) s ∷ rest) → IsByteCount n
      → SpellsEvent registers scope (placed (name (codes "read_mem")) p ∷ placed (name (var_name (length scope))) q ∷ ws) (read_mem (length scope) a n) rest
  -- bytes from an address on take the value of a term as wide
  writes_memory : {registers : List RegDecl} {scope : Scope} {p s n : ℕ} {a t : Tree} {ws ws' rest : Words} → SpellsTerm scope 64 ws a ws'
      → SpellsTerm scope (8 * n) ws' t (placed (number n) s ∷ rest) → IsByteCount n
      → SpellsEvent registers scope (placed (name (codes "write_mem")) p ∷ ws) (write_mem a t n) rest
  -- the path is one on which a bit is 1
  assumes : {registers : List RegDecl} {scope : Scope} {p : ℕ} {t : Tree} {ws rest : Words} → SpellsTerm scope 1 ws t rest
      → SpellsEvent registers scope (placed (name (codes "assume")) p ∷ ws) (assume t) rest
  -- a bit has to be 1
  needs : {registers : List RegDecl} {scope : Scope} {p : ℕ} {t : Tree} {ws rest : Words} → SpellsTerm scope 1 ws t rest
      → SpellsEvent registers scope (placed (name (codes "need")) p ∷ ws) (need t) rest
  -- the path is one on which a declared register has a value as wide
  assumes_register : {registers : List RegDecl} {scope : Scope} {p q s r : ℕ} {x : Text} {b : Bits} {rest : Words} → register_number registers x ≡ Some r
      → register_width registers r ≡ Some b.width
      → SpellsEvent registers scope (placed (name (codes "assume_reg")) p ∷ placed (name x) q ∷ placed (literal b) s ∷ rest) (assume_reg r b) rest

mutual
  -- the words up to others spell a trace
  pub data SpellsTrace : List RegDecl → Scope → Words → Trace → Words → Type 0 where
    -- an event, and more of the trace behind it
    an_event : {registers : List RegDecl} {scope : Scope} {ws ws' rest : Words} {e : Event} {es : List Event} {end : End} → SpellsEvent registers scope ws e ws'
        → SpellsTrace registers (scope_behind registers scope e) ws' (trace es end) rest → SpellsTrace registers scope ws (trace (e ∷ es) end) rest
    -- the instruction is done
    a_done : {registers : List RegDecl} {scope : Scope} {p : ℕ} {rest : Words} → SpellsTrace registers scope (placed (name (codes "done")) p ∷ rest) (trace [] done) rest
    -- it fails
    a_failure : {registers : List RegDecl} {scope : Scope} {p q : ℕ} {x : Text} {kind : FailKind} {rest : Words} → failure_of x ≡ Some kind
        → SpellsTrace registers scope (placed (name (codes "fail")) p ∷ placed (name x) q ∷ rest) (trace [] (fail kind)) rest
    -- how many children there are, at least one, and the children
    a_split : {registers : List RegDecl} {scope : Scope} {p q n : ℕ} {t : Trace} {ts : Traces} {ws rest : Words} → n ≡ count (some t ts)
        → SpellsTraces registers scope ws (some t ts) rest
        → SpellsTrace registers scope (placed (name (codes "cases")) p ∷ placed (number n) q ∷ ws) (trace [] (cases (some t ts))) rest

  -- the words up to others spell traces in a row, in front of each of which the same variables are bound
  pub data SpellsTraces : List RegDecl → Scope → Words → Traces → Words → Type 0 where
    no_more : {registers : List RegDecl} {scope : Scope} {rest : Words} → SpellsTraces registers scope rest none rest
    one_more : {registers : List RegDecl} {scope : Scope} {ws ws' rest : Words} {t : Trace} {ts : Traces} → SpellsTrace registers scope ws t ws'
        → SpellsTraces registers scope ws' ts rest → SpellsTraces registers scope ws (some t ts) rest

-- a text spells a trace: it is cut into tokens whose words, all of them, spell it, where no variable is bound at first
pub record SpellsText (registers : List RegDecl) (text : Text) (t : Trace) : Type 0 where
  pub tokens : List Token
  pub cutting : cut text ≡ Ok tokens
  pub spells : SpellsTrace registers [] (lexemes text tokens) t []
