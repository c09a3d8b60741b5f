use Rattle.std.proofs.KnownBytes.{Appends-kept}
use Rattle.sq_live.proofs.input.live.Goals as goal

pub returns : goal.returns
returns g c = let ends = c.end_input-ending.ensures in (ends.0, ends.1, ends.2, Appends-kept _ _ _ _ c.in_ok-write_ending.ensures c.flush.ensures.bytes)
