use Rattle.std.proofs.Common.{refl}
use Rattle.sq_moves.proofs.Sweeps.{runs_whole}
use Rattle.sq_moves.proofs.sweep.Sweep.new.Goals as goal

pub returns-clause-moves : goal.returns-clause-moves
returns-clause-moves c =
    runs_whole c.args.old.now c.args.new.now (record { at = 0; olds = c.ranges-2.result; news = c.ranges-3.result }) c.ranges-2.ensures.plan c.ranges-3.ensures.plan refl c.ranges-2.ensures.ranges c.ranges-3.ensures.ranges
