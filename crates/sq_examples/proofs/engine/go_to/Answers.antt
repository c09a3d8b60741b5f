use Rattle.sq_engine.specs.Engine.{HasBegunMove}
use Rattle.sq_examples.proofs.Coming.{from_ok, begun_goes, goes_on}
use Rattle.sq_examples.proofs.engine.go_to.Goals as goal

pub loop-stage-init : goal.loop-stage-init
loop-stage-init g c =
    begun_goes (from_ok (λ _. HasBegunMove c.args.plan c.of-limit.result c.args.engine.now c.move_to.new.self) c.move_to.result _ c.in_ok-ok.ensures.value c.move_to.ensures.begun)

pub loop-stage-preserved : goal.loop-stage-preserved
loop-stage-preserved g c = goes_on c.loop-stage.invariant c.in_ok-serve_until.ensures
