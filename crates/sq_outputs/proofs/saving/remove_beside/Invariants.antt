use Rattle.std.proofs.Common.{map, take}
use Rattle.sq_outputs.specs.Calls.{Makes, removes_beside}
use Rattle.sq_outputs.proofs.saving.remove_beside.Given as goal

-- the files beside those so far are removed
abbrev pub invariant-loop-file : goal.invariant-loop-file
invariant-loop-file g l = Makes (g.F.Folder.calls l.initial.folder) (g.F.Folder.calls l.folder) (map removes_beside (take l.file-index l.files))
