use Rattle.std.proofs.Common.{subst}
use Rattle.sq_schema.specs.Table.{TableValue}
use Rattle.sq_node_model.specs.Gathered.{GatheredValue}
use Rattle.sq_node_model.specs.Folded.{folded_opening}
use Rattle.sq_node.specs.Opened.{IsReopened, AllHoldAsBegun}
use Rattle.sq_gather.proofs.AllOf.{all_of_new}
use Rattle.sq_gather.proofs.reopened.resume.Goals as goal

pub returns-in-Ok-clause-run : goal.returns-in-Ok-clause-run
returns-in-Ok-clause-run c =
    subst (λ (g : GatheredValue). IsReopened c.args.opening.now c.args.stage g.stores g.receipts c.args.pumps c.in-Ok.opened.fabric c.in-Ok.opened.nodes.items c.in-Ok.opened.pumps.items) c.g.view_is c.in-Ok.ensures.run

pub returns-in-Ok-clause-holds : goal.returns-in-Ok-clause-holds
returns-in-Ok-clause-holds c =
    subst (λ (g : GatheredValue). (table : TableValue) → AllHoldAsBegun (folded_opening c.args.opening.now table) c.in-Ok.opened.fabric g.stores c.in-Ok.opened.nodes.items) c.g.view_is c.in-Ok.ensures.holds

pub returns-in-Ok-clause-all : goal.returns-in-Ok-clause-all
returns-in-Ok-clause-all c =
    let run = c.in-Ok.ensures.run in
    all_of_new c.args.opening.now c.args.pumps _ c.in-Ok.opened.fabric c.in-Ok.opened.nodes.items c.in-Ok.opened.pumps.items run.shared
    c.in-Ok.ensures.fits.0 run.seats run.each_node run.each_pump
