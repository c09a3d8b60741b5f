use Rattle.std.proofs.Common.{subst, sym, ◌∷◌}
use Rattle.sq_model.specs.Leader.{phase}
use Rattle.sq_model.proofs.Ended.{ended_place}
use Rattle.sq_transition.specs.Holds.{Holds}
use Rattle.sq_transition.proofs.Facts.{headline}
use Rattle.sq_world.proofs.Sound.{sound}
use Rattle.sq_world.proofs.world.World.step.Goals as goal

-- src/world.rt:48:9
pub step-requires : goal.step-requires
step-requires c = let some = c.self.invariant in sound some.0 some.1 c.self.inside.state some.2 some.3 some.4

-- src/world.rt:44:5
pub invariant_of-self : goal.invariant_of-self
invariant_of-self c =
    let some = c.self.invariant in
    let goes = headline some.0 some.1 c.self.inside.state c.step.new.self c.args.step.now c.step.result some.2 some.3 some.4 c.step.ensures in
    (some.0, (c.args.step.now, c.step.result) ∷ some.1, some.2, goes.legal, goes.holds)

-- src/world.rt:44:5
pub returns-clause-headline : goal.returns-clause-headline
returns-clause-headline c = λ o t is legal holds.
    headline o t c.self.inside.state c.step.new.self c.args.step.now c.step.result is legal (subst (Holds o t) (sym c.self.view_is) holds) c.step.ensures

pub returns-clause-finished : goal.returns-clause-finished
returns-clause-finished c = λ o t is legal holds asked went.
    let goes = headline o t c.self.inside.state c.step.new.self c.args.step.now c.step.result is legal (subst (Holds o t) (sym c.self.view_is) holds) c.step.ensures in
    ended_place o is ((c.args.step.now, c.step.result) ∷ t) goes.legal (λ i. phase ((asked i, went i) ∷ t))
