use Rattle.sq_world.specs.Drafts.{DraftGoesOn}
use Rattle.sq_world.proofs.whole.move_segments.Given as goal

abbrev pub invariant-loop-moving : goal.invariant-loop-moving
invariant-loop-moving l = DraftGoesOn l.initial.draft l.draft
