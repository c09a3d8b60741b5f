use Rattle.std.proofs.Common.{◌<◌, ◌≤◌, length, arith}
use Rattle.sq_serving.proofs.desk.ServeDesk.put_back.Goals as goal

pub returns-then-number-parts : goal.returns-then-number-parts
returns-then-number-parts g c =
    let inside : c.args.job.part < length c.args.self.now.sides = omega arith in
    record { waits = λ within. c.put_before.ensures; refused = λ beyond. absurd (omega (arith, inside, beyond)) }

pub returns-else-number-parts : goal.returns-else-number-parts
returns-else-number-parts g c =
    let outside : length c.args.self.now.sides ≤ c.args.job.part = omega arith in
    record { waits = λ within. absurd (omega (arith, outside, within)); refused = λ beyond. c.refuse_returned.ensures }
