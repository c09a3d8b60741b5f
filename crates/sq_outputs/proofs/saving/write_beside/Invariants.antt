use Rattle.std.proofs.Common.{map, take, true}
use Rattle.sq_outputs.specs.Calls.{Makes, writes_beside}
use Rattle.sq_outputs.proofs.saving.write_beside.Given as goal

-- the texts so far are written
abbrev pub invariant-loop-at : goal.invariant-loop-at
invariant-loop-at g l = Makes (g.F.Folder.calls l.initial.folder) (g.F.Folder.calls l.folder) (map (writes_beside true) (take l.at l.files))
