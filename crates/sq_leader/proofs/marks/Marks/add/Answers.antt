use Rattle.std.proofs.Common.{Bool, true, List, ap, ◌∙◌, arith}
use Rattle.std.proofs.Math.Seq.{take-set-lt}
use Rattle.sq_leader.specs.Marks.{with_mark}
use Rattle.sq_leader.proofs.marks.Marks.add.Goals as goal

pub returns-then-part-from : goal.returns-then-part-from
returns-then-part-from c =
    take-set-lt c.self.inside.parts c.self.inside.flags c.args.part true (omega arith)
    ∙ ap (λ (marks : List Bool). with_mark marks c.args.part) c.self.view_is
