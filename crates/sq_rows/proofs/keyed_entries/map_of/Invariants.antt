use Rattle.std.proofs.Common.{◌≡◌, take}
use Rattle.sq_rows.proofs.keyed_entries.map_of.Given as goal

abbrev pub invariant-loop-key : goal.invariant-loop-key
invariant-loop-key g l = l.map.entries ≡ take l.key-index l.list
