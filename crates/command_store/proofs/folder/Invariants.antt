-- `folder` meets its contract. The loop's invariant: the folder is among the bytes that are left.
use Rattle.std.proofs.Common.{◌≡◌}
use Rattle.command_store.specs.Storing.{folder_of, folder_in}
use Rattle.command_store.proofs.folder.Given as goal

abbrev pub invariant-loop-n : goal.invariant-loop-n
invariant-loop-n l = folder_of l.path ≡ folder_in l.n l.path
