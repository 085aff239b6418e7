use Rattle.std.proofs.Common.{rules, ◌≡◌, ◌+◌, ◌-◌, ◌∙◌, ℕ, List, leb, sym, ap, arith, Some}
use Rattle.std.proofs.lemmas.List.Sorted.{IsPartitionPoint-from_clause, IsPartitionedBy-leb}
use Rattle.std.proofs.lemmas.List.Elements.{All-get_or}
use Rattle.elf_image.specs.declared.segment.Segment.{Segment}
use Rattle.elf_image.specs.Image.{IsSound}
use Rattle.elf_image.proofs.SegmentLemmas.{IsPoint, row_rises, none_begun, last_begun, ended, held, nothing, stored_byte, zero_byte}
use Rattle.elf_image.proofs.bytes.byte_at.Goals as goal

pub returns-then-begun-eq0 : goal.returns-then-begun-eq0
returns-then-begun-eq0 c =
    let file = c.args.file.now in let ss = c.args.segments.now in let q = c.args.addr in
    let point = IsPartitionPoint-from_clause (λ (s : Segment). leb s.addr q) _ _ c.partition_point-begun.ensures.partitioned (IsPartitionedBy-leb (λ (s : Segment). s.addr) ss q (row_rises file ss c.requires.sound c.requires.apart)) (λ a r f k. search rules) in
    sym (nothing file ss q c.requires.sound (none_begun ss q _ point c.if-begun-eq0.true))

pub overflow_sub-offset : goal.overflow_sub-offset
overflow_sub-offset c =
    let file = c.args.file.now in let ss = c.args.segments.now in let q = c.args.addr in
    let point = IsPartitionPoint-from_clause (λ (s : Segment). leb s.addr q) _ _ c.partition_point-begun.ensures.partitioned (IsPartitionedBy-leb (λ (s : Segment). s.addr) ss q (row_rises file ss c.requires.sound c.requires.apart)) (λ a r f k. search rules) in
    last_begun ss q _ _ point (omega arith)

pub returns-then-offset-segment : goal.returns-then-offset-segment
returns-then-offset-segment c =
    let file = c.args.file.now in let ss = c.args.segments.now in let q = c.args.addr in
    let point = IsPartitionPoint-from_clause (λ (s : Segment). leb s.addr q) _ _ c.partition_point-begun.ensures.partitioned (IsPartitionedBy-leb (λ (s : Segment). s.addr) ss q (row_rises file ss c.requires.sound c.requires.apart)) (λ a r f k. search rules) in
    sym (nothing file ss q c.requires.sound (ended ss q _ _ c.requires.apart point (omega arith) c.partition_point-begun.ensures.bound (last_begun ss q _ _ point (omega arith)) c.if-offset-segment.true))

pub returns-then-offset-segment-2 : goal.returns-then-offset-segment-2
returns-then-offset-segment-2 c =
    let file = c.args.file.now in let ss = c.args.segments.now in let q = c.args.addr in
    let point = IsPartitionPoint-from_clause (λ (s : Segment). leb s.addr q) _ _ c.partition_point-begun.ensures.partitioned (IsPartitionedBy-leb (λ (s : Segment). s.addr) ss q (row_rises file ss c.requires.sound c.requires.apart)) (λ a r f k. search rules) in
    sym (held file ss q _ _ c.requires.sound c.requires.apart (omega arith) c.partition_point-begun.ensures.bound (last_begun ss q _ _ point (omega arith)) c.if-offset-segment.false
    ∙ ap (λ (b : ℕ). Some b) (zero_byte file _ _ (All-get_or (IsSound file) ss _ _ (let b = c.partition_point-begun.ensures.bound in omega (arith, b)) c.requires.sound) c.if-offset-segment-2.true c.if-offset-segment.false))

pub returns : goal.returns
returns c =
    let file = c.args.file.now in let ss = c.args.segments.now in let q = c.args.addr in
    let point = IsPartitionPoint-from_clause (λ (s : Segment). leb s.addr q) _ _ c.partition_point-begun.ensures.partitioned (IsPartitionedBy-leb (λ (s : Segment). s.addr) ss q (row_rises file ss c.requires.sound c.requires.apart)) (λ a r f k. search rules) in
    sym (held file ss q _ _ c.requires.sound c.requires.apart (omega arith) c.partition_point-begun.ensures.bound (last_begun ss q _ _ point (omega arith)) c.if-offset-segment.false
    ∙ ap (λ (b : ℕ). Some b) (stored_byte file _ _ (All-get_or (IsSound file) ss _ _ (let b = c.partition_point-begun.ensures.bound in omega (arith, b)) c.requires.sound) c.if-offset-segment-2.false))
