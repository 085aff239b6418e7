use Rattle.std.proofs.Common.{◌≡◌, ◌≤◌, ◌+◌, ◌-◌, vec_len}
use Rattle.files_core.proofs.WholeLemmas.{IsReadSoFar}
use Rattle.files_core.proofs.whole.read_all.Given as goal

abbrev pub invariant-loop-files : goal.invariant-loop-files
invariant-loop-files g l = record {
  start : IsReadSoFar (g.F.Files.store l.fn.files) l.name l.text.items;
  room : vec_len l.buf ≡ 65536;
  store : g.F.Files.store l.files ≡ g.F.Files.store l.fn.files;
  faults : g.F.Files.faults l.fn.files ≤ g.F.Files.faults l.files;
  missing : g.F.Files.missing l.fn.files ≤ g.F.Files.missing l.files;
}

abbrev pub decreases-loop-files : goal.decreases-loop-files
decreases-loop-files g l = l.limit + 1 - vec_len l.text
