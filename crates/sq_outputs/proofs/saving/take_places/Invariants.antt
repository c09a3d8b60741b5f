use Rattle.std.proofs.Common.{take}
use Rattle.std.specs.List.{flat_map}
use Rattle.sq_outputs.specs.Calls.{Makes, placed_for_good}
use Rattle.sq_outputs.proofs.saving.take_places.Given as goal

-- the files so far are replaced
abbrev pub invariant-loop-at : goal.invariant-loop-at
invariant-loop-at g l = Makes (g.F.Folder.calls l.initial.folder) (g.F.Folder.calls l.folder) (flat_map placed_for_good (take l.at l.files))
