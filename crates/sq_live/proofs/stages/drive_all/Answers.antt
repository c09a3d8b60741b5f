use Rattle.std.proofs.Common.{sym, ap, ◌∙◌}
use Rattle.sq_node.specs.FabricValue.{FabricValue}
use Rattle.sq_live.proofs.stages.drive_all.Goals as goal

pub gather_from-requires : goal.gather_from-requires
gather_from-requires g c = c.requires ∙ ap (λ (fabric : FabricValue). fabric.receipts) (sym c.drive-end.ensures.fabric)

pub returns-clause-ran : goal.returns-clause-ran
returns-clause-ran g c = λ o began is run. c.in_ok-gathered.ensures.ran o began is (c.drive-end.ensures.stays o began is run)
