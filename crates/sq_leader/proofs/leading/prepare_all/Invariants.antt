use Rattle.std.proofs.Common.{◌≡◌}
use Rattle.sq_leader.proofs.LedStages.{ArePrepared}
use Rattle.sq_leader.proofs.leading.prepare_all.Given as goal

-- the partitions so far have prepared
abbrev pub invariant-loop-part : goal.invariant-loop-part
invariant-loop-part l = ArePrepared l.parts l.part l.preparing.prepared × (l.preparing.recon ≡ l.initial.preparing.recon)
