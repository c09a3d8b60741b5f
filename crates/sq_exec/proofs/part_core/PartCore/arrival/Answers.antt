use Rattle.std.proofs.Common.{ap, ◌∙◌}
use Rattle.sq_exec.specs.CoreValue.{PartCoreValue}
use Rattle.sq_exec.specs.Numbering.{arrival_number}
use Rattle.sq_exec.proofs.Readies.{first_number}
use Rattle.sq_exec.proofs.part_core.PartCore.arrival.Goals as goal

pub returns-clause-number : goal.returns-clause-number
returns-clause-number g c = c.arrival.ensures.number ∙ first_number c.args.root c.self.inside.waiting.arrivals ∙ ap (λ (v : PartCoreValue). arrival_number v c.args.root) c.self.view_is
