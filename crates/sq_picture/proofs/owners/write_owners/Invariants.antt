use Rattle.std.proofs.Common.{take}
use Rattle.std.specs.List.{flat_map}
use Rattle.std.specs.Io.KnownBytes.{Appends}
use Rattle.sq_picture.specs.Owners.{owner_line}
use Rattle.sq_picture.proofs.owners.write_owners.Given as goal

abbrev pub invariant-loop-key : goal.invariant-loop-key
invariant-loop-key g l = Appends (g.W.Write.contents l.initial.writer) (g.W.Write.contents l.writer) (flat_map (owner_line l.tells_leaves l.opening) (take l.key-index l.keys))
