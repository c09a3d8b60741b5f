use Rattle.std.proofs.Common.{false}
use Rattle.std.proofs.lemmas.List.{take-replicate}
use Rattle.sq_plan.specs.declared.plan.TheConstants.{MAX_PARTS}
use Rattle.sq_leader.proofs.marks.Marks.none.Goals as goal

pub returns : goal.returns
returns c = take-replicate c.args.parts MAX_PARTS false c.requires
