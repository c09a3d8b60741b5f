use Rattle.sq_schema.proofs.Replay.{replayed_at}
use Rattle.sq_schema.proofs.laws.replays_by_root.Goals as goal

pub returns : goal.returns
returns c = replayed_at
