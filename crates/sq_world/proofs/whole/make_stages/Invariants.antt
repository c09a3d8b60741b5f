use Rattle.sq_world.specs.Drafts.{DraftGoesOn}
use Rattle.sq_world.proofs.whole.make_stages.Given as goal

abbrev pub invariant-loop-stage : goal.invariant-loop-stage
invariant-loop-stage l = DraftGoesOn l.initial.draft l.draft
