-- The code's stacks as plain data, what its answers say, and the terms that stacks hold.
use Rattle.std.specs.Prelude.{◌≡◌, ⊤, ℕ, List, [], ◌∷◌, map, reverse, IsSome, None, Result, Ok, Err}
use Rattle.bv_bits.specs.Bits.{IsWidth, result_width_of}
use Rattle.term_tree.specs.declared.term.VarDecl.{VarDecl}
use Rattle.term_tree.specs.declared.term.Sort.{Sort}
use Rattle.term_tree.specs.declared.term.Sort.TheVariants as sort
use Rattle.term_tree.specs.declared.term.TermFault.TheVariants as limit
use Rattle.term_read.specs.declared.reading.TermReadFault.{TermReadFault}
use Rattle.term_read.specs.declared.reading.TermReadFault.TheVariants as fault
use Rattle.term_read.specs.declared.term_reading.Frame as code_frame
use Rattle.term_read.specs.declared.term_reading.Frame.TheVariants as own_frame
use Rattle.term_read.specs.declared.term_reading.Whole as code_whole
use Rattle.term_read.specs.declared.term_reading.Whole.TheVariants as own_whole
use Rattle.term_read.specs.declared.term_reading.Mode as code_mode
use Rattle.term_read.specs.declared.term_reading.Mode.TheVariants as own_mode
use Rattle.term_read.specs.declared.term_reading.Turn as code_turn
use Rattle.term_read.specs.declared.term_reading.Turn.TheVariants as own_turn
use Rattle.term_tree.specs.Terms.{Tree, IsTerm, width_of, ArrayTree, array, upd, splice, IsArrayTerm}
use Rattle.term_tree.specs.View.{tree, array_tree}
use Rattle.term_read.specs.declared.reading.TermAt.{TermAt}
use Rattle.term_read.specs.declared.reading.ArrayAt.{ArrayAt}
use Rattle.term_read.specs.declared.array_reading.ArrayFrame as code_array_frame
use Rattle.term_read.specs.declared.array_reading.ArrayFrame.TheVariants as own_array_frame
use Rattle.term_read.specs.declared.array_reading.Slot as code_slot
use Rattle.term_read.specs.declared.array_reading.Slot.TheVariants as own_slot
use Rattle.term_read.specs.declared.array_reading.ArrayMode as code_array_mode
use Rattle.term_read.specs.declared.array_reading.ArrayMode.TheVariants as own_array_mode
use Rattle.term_read.specs.declared.array_reading.ArrayTurn as code_array_turn
use Rattle.term_read.specs.declared.array_reading.ArrayTurn.TheVariants as own_array_turn
use Rattle.term_words.specs.Scopes.{sort_of}
use Rattle.term_read.specs.Reading.{Answer, ArrayFrame, updated, spliced, spliced_below, Slot, updated_at, updated_by, spliced_at, ArrayMode, array_wanted, array_head, in_term, array_close, ArrayTurn, array_goes, array_ends, array_fails, Frame, arguments, index, Whole, application, selection, Mode, wanted, head, high, low, extended, of_array, close, Turn, goes, ends, fails}

-- ---- the code's values as plain data

-- a bracket that is open
abbrev pub frame_view : code_frame.Frame → Frame
frame_view (own_frame.Arguments at op terms) = arguments at op (map tree terms)
frame_view (own_frame.Index at of) = index at of

-- an application with all its parts
abbrev pub whole_view : code_whole.Whole → Whole
whole_view (own_whole.Application op terms) = application op (map tree terms)
whole_view (own_whole.Selection of i) = selection of (tree i)

-- what comes next
abbrev pub mode_view : code_mode.Mode → Mode
mode_view own_mode.Wanted = wanted
mode_view (own_mode.Head at) = head at
mode_view (own_mode.High at) = high at
mode_view (own_mode.Low at hi) = low at hi
mode_view (own_mode.Extended at signed) = extended at signed
mode_view (own_mode.OfArray at) = of_array at
mode_view (own_mode.Close w) = close (whole_view w)

-- the brackets on the code's stack, the innermost first
unfoldable pub frames_of : List code_frame.Frame → List Frame
frames_of stack = reverse (map frame_view stack)

-- a fault of a turn, unless memory ran out; there are never too many terms
abbrev pub FailsBy : Turn → TermReadFault → Type 0
FailsBy turn (fault.Form at) = turn ≡ fails (fault.Form at)
FailsBy turn (fault.Unbound at) = turn ≡ fails (fault.Unbound at)
FailsBy turn (fault.WidthDiffers at) = turn ≡ fails (fault.WidthDiffers at)
FailsBy turn (fault.Term limit.TooManyTerms) = ⊥
FailsBy turn (fault.Term limit.TermTooHigh) = turn ≡ fails (fault.Term limit.TermTooHigh)
FailsBy turn (fault.Term limit.NoMemory) = ⊤

-- the code's answer is the turn, and leaves the turn's brackets
abbrev pub Turns : Turn → Result code_turn.Turn TermReadFault → List Frame → Type 0
Turns turn (Ok (own_turn.Goes m)) k = turn ≡ goes k (mode_view m)
Turns turn (Ok (own_turn.Ends t)) k = turn ≡ ends (tree t)
Turns turn (Err f) k = FailsBy turn f

-- ---- the terms on a stack

-- terms that are typed and not too high
abbrev pub AreTerms : List Tree → Type 0
AreTerms [] = ⊤
AreTerms (t ∷ ts) = IsTerm t × AreTerms ts

-- the arguments that are read are terms
abbrev pub HoldTerms : List Frame → Type 0
HoldTerms [] = ⊤
HoldTerms (arguments at op ts ∷ k) = AreTerms ts × HoldTerms k
HoldTerms (index at f ∷ k) = HoldTerms k

-- the arguments of an application are terms, and fit
abbrev pub IsFineWhole : Whole → Type 0
IsFineWhole (application op ts) = AreTerms ts × IsSome (result_width_of op (map width_of ts))
IsFineWhole (selection f i) = IsTerm i × (width_of i ≡ 64)

-- those of an application that is closed next
abbrev pub IsFine : Mode → Type 0
IsFine wanted = ⊤
IsFine (head at) = ⊤
IsFine (high at) = ⊤
IsFine (low at hi) = ⊤
IsFine (extended at signed) = ⊤
IsFine (of_array at) = ⊤
IsFine (close w) = IsFineWhole w

-- what a turn leaves is fine
abbrev pub GoesFine : Result code_turn.Turn TermReadFault → List Frame → Type 0
GoesFine (Ok (own_turn.Goes m)) k = IsFine (mode_view m) × HoldTerms k
GoesFine (Ok (own_turn.Ends t)) k = IsTerm (tree t)
GoesFine (Err f) k = ⊤

-- a sort with a width that there is
abbrev pub HasWidth : Sort → Type 0
HasWidth (sort.Bits w) = IsWidth w
HasWidth sort.Array = ⊤

-- variables of widths that there are
abbrev pub AreWidths : List VarDecl → Type 0
AreWidths [] = ⊤
AreWidths (d ∷ ds) = HasWidth d.sort × AreWidths ds

-- ---- array terms

-- a bracket that is open, where an array term is to come
abbrev pub array_frame_view : code_array_frame.ArrayFrame → ArrayFrame
array_frame_view (own_array_frame.Updated at) = updated at
array_frame_view (own_array_frame.Spliced at) = spliced at
array_frame_view (own_array_frame.SplicedBelow at of) = spliced_below at (array_tree of)

-- the bracket in which a term is to come
abbrev pub slot_view : code_slot.Slot → Slot
slot_view (own_slot.UpdatedAt at of) = updated_at at (array_tree of)
slot_view (own_slot.UpdatedBy at of i) = updated_by at (array_tree of) (tree i)
slot_view (own_slot.SplicedAt at of below) = spliced_at at (array_tree of) (array_tree below)

-- what comes next
abbrev pub array_mode_view : code_array_mode.ArrayMode → ArrayMode
array_mode_view own_array_mode.Wanted = array_wanted
array_mode_view (own_array_mode.Head at) = array_head at
array_mode_view (own_array_mode.InTerm s stack m) = in_term (slot_view s) (frames_of stack) (mode_view m)
array_mode_view (own_array_mode.Close f) = array_close (array_tree f)

-- the brackets on the code's stack, the innermost first
unfoldable pub array_frames_of : List code_array_frame.ArrayFrame → List ArrayFrame
array_frames_of stack = reverse (map array_frame_view stack)

-- a fault of a turn, unless memory ran out; there are never too many terms
abbrev pub ArrayFailsBy : ArrayTurn → TermReadFault → Type 0
ArrayFailsBy turn (fault.Form at) = turn ≡ array_fails (fault.Form at)
ArrayFailsBy turn (fault.Unbound at) = turn ≡ array_fails (fault.Unbound at)
ArrayFailsBy turn (fault.WidthDiffers at) = turn ≡ array_fails (fault.WidthDiffers at)
ArrayFailsBy turn (fault.Term limit.TooManyTerms) = ⊥
ArrayFailsBy turn (fault.Term limit.TermTooHigh) = turn ≡ array_fails (fault.Term limit.TermTooHigh)
ArrayFailsBy turn (fault.Term limit.NoMemory) = ⊤

-- the code's answer is the turn, and leaves the turn's brackets
abbrev pub ArrayTurns : ArrayTurn → Result code_array_turn.ArrayTurn TermReadFault → List ArrayFrame → Type 0
ArrayTurns turn (Ok (own_array_turn.Goes m)) a = turn ≡ array_goes a (array_mode_view m)
ArrayTurns turn (Ok (own_array_turn.Ends f)) a = turn ≡ array_ends (array_tree f)
ArrayTurns turn (Err f) a = ArrayFailsBy turn f

-- the array terms that are read are array terms
abbrev pub HoldArrays : List ArrayFrame → Type 0
HoldArrays [] = ⊤
HoldArrays (updated at ∷ a) = HoldArrays a
HoldArrays (spliced at ∷ a) = HoldArrays a
HoldArrays (spliced_below at f ∷ a) = IsArrayTerm f × HoldArrays a

-- the parts that are read are terms
abbrev pub IsFineSlot : Slot → Type 0
IsFineSlot (updated_at at f) = IsArrayTerm f
IsFineSlot (updated_by at f i) = IsArrayTerm f × IsTerm i
IsFineSlot (spliced_at at f g) = IsArrayTerm f × IsArrayTerm g

-- an array term whose parts are terms, and fit
abbrev pub IsFineArray : ArrayTree → Type 0
IsFineArray (array f) = ⊤
IsFineArray (upd f i t) = IsArrayTerm f × IsTerm i × IsTerm t × (width_of i ≡ 64) × (width_of t ≡ 8)
IsFineArray (splice f g i) = IsArrayTerm f × IsArrayTerm g × IsTerm i × (width_of i ≡ 64)

-- what comes next is fine
abbrev pub IsFineArrayMode : ArrayMode → Type 0
IsFineArrayMode array_wanted = ⊤
IsFineArrayMode (array_head at) = ⊤
IsFineArrayMode (in_term s k m) = IsFineSlot s × HoldTerms k × IsFine m
IsFineArrayMode (array_close f) = IsFineArray f

-- what a turn leaves is fine
abbrev pub ArrayGoesFine : Result code_array_turn.ArrayTurn TermReadFault → List ArrayFrame → Type 0
ArrayGoesFine (Ok (own_array_turn.Goes m)) a = IsFineArrayMode (array_mode_view m) × HoldArrays a
ArrayGoesFine (Ok (own_array_turn.Ends f)) a = IsArrayTerm (array_tree f)
ArrayGoesFine (Err f) a = ⊤

-- ---- what the public calls answer

-- the fault is the answer's, unless memory ran out
abbrev pub Faults : {A : Type 0} → Answer A → TermReadFault → Type 0
Faults answer (fault.Form at) = answer ≡ Err (fault.Form at)
Faults answer (fault.Unbound at) = answer ≡ Err (fault.Unbound at)
Faults answer (fault.WidthDiffers at) = answer ≡ Err (fault.WidthDiffers at)
Faults answer (fault.Term limit.TooManyTerms) = ⊥
Faults answer (fault.Term limit.TermTooHigh) = answer ≡ Err (fault.Term limit.TermTooHigh)
Faults answer (fault.Term limit.NoMemory) = ⊤

-- what the code reads is the answer, as the view shows it, unless memory ran out; there are never too many terms
abbrev pub Reads : {T A : Type 0} → (T → A × ℕ) → Answer A → Result T TermReadFault → Type 0
Reads view answer (Ok t) = answer ≡ Ok (view t)
Reads view answer (Err f) = Faults answer f

-- a term that was read, and the number of the token behind it
abbrev pub term_at_view : TermAt → Tree × ℕ
term_at_view t = (tree t.term, t.next)

-- an array term that was read, and the number of the token behind it
abbrev pub array_at_view : ArrayAt → ArrayTree × ℕ
array_at_view f = (array_tree f.array, f.next)

-- the names of variables differ
abbrev pub AreDistinct : List VarDecl → Type 0
AreDistinct [] = ⊤
AreDistinct (d ∷ ds) = (sort_of ds d.name ≡ None) × AreDistinct ds
