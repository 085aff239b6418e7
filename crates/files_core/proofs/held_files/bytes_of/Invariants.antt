use Rattle.std.proofs.Common.{◌≡◌, drop}
use Rattle.files_core.specs.Store.{file_of, store_of}
use Rattle.files_core.proofs.held_files.bytes_of.Given as goal

abbrev pub invariant-loop-file : goal.invariant-loop-file
invariant-loop-file l = file_of (store_of (drop l.file-index l.files)) l.name ≡ file_of (store_of l.files) l.name
