use Rattle.sq_schema.proofs.Applied.{is_rooted-replay_rows}
use Rattle.sq_schema.proofs.family.Family.rows.Goals as goal

pub returns-clause-rooted : goal.returns-clause-rooted
returns-clause-rooted c = rw (c.self.invariant.1.rows) (is_rooted-replay_rows c.self.inside.log.items c.self.inside.base.value c.self.invariant.1.rooted)
