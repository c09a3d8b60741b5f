use Rattle.sq_node.proofs.Settles.{still_node}
use Rattle.std.proofs.Common.{refl, rules}
use Rattle.sq_node.specs.declared.stepped.Stepped.TheVariants.{Did}
use Rattle.sq_node.proofs.Keeps.{cut_keeps}
use Rattle.sq_node.proofs.node.Node.step_cut.Goals as goal

pub invariant_of-self : goal.invariant_of-self
invariant_of-self c =
    let inside = c.self.inside in
    still_node _ inside.core.core c.cut.new.self.core _ inside.seats.items inside.to_complete.items inside.complete.items c.in-Ok.ensures.ok.after refl refl refl c.self.invariant

pub invariant_of-self-in-Ok : goal.invariant_of-self-in-Ok
invariant_of-self-in-Ok c =
    let inside = c.self.inside in
    still_node _ inside.core.core c.cut.new.self.core _ inside.seats.items inside.to_complete.items inside.complete.items c.in-Ok.ensures.ok.after refl refl refl c.self.invariant

pub returns-in-Ok-clause-step : goal.returns-in-Ok-clause-step
returns-in-Ok-clause-step c = search rules

pub returns-in-Ok-clause-holds : goal.returns-in-Ok-clause-holds
returns-in-Ok-clause-holds c = cut_keeps c.args.self.now Did _ (returns-in-Ok-clause-step c)
