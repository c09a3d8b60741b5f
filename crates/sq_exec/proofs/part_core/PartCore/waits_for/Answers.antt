use Rattle.std.proofs.Common.{ap, ◌∙◌}
use Rattle.sq_exec.specs.CoreValue.{PartCoreValue}
use Rattle.sq_exec.specs.Location.{waits_for}
use Rattle.sq_exec.proofs.Readies.{any-txns}
use Rattle.sq_exec.proofs.part_core.PartCore.waits_for.Goals as goal

pub returns : goal.returns
returns g c = c.waits_for.ensures ∙ any-txns c.args.root c.self.inside.waiting.arrivals ∙ ap (λ (v : PartCoreValue). waits_for v.core c.args.root) c.self.view_is
