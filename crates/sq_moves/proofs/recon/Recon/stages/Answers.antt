-- There is a stage at least.
use Rattle.std.proofs.Common.{◌≡◌, ap, ◌∙◌, arith}
use Rattle.sq_moves.specs.ReconValue.{ReconValue, stages_in, stages}
use Rattle.sq_moves.proofs.Stages.{some_stage}
use Rattle.sq_moves.proofs.recon.Recon.stages.Goals as goal

pub loop-range-init : goal.loop-range-init
loop-range-init c =
    let all : stages_in c.args.self.now c.as_slice-range-items.result.now ≡ stages c.args.self.now
    = ap (stages_in c.args.self.now) (c.as_slice-range-items.ensures.value ∙ ap (λ (r : ReconValue). r.ranges) c.self.view_is) in
    let some = some_stage c.args.self.now in
    record {
      told = omega (arith, all, some);
      some = omega arith;
      few = omega arith;
    }
