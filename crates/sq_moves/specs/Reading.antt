-- The reading of a node.
use Rattle.std.specs.Prelude.{Bool, true, false}
use Rattle.sq_moves.specs.declared.status.Reading.{Reading}
use Rattle.sq_moves.specs.declared.status.Reading.TheVariants.{Complete}

-- all its rows are at the destination
abbrev pub is_complete_reading : Reading → Bool
is_complete_reading Complete = true
is_complete_reading _ = false
