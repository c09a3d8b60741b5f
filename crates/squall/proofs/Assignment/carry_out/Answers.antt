use Rattle.squall.proofs.Refused.{refused}
use Rattle.squall.proofs.Assignment.carry_out.Goals as goal

pub returns-in-Some : goal.returns-in-Some
returns-in-Some g c = refused c.args.self.now.task c.args.self.now.input.plans c.args.self.now.input.file _ _ _ _ c.in-Some.ensures
