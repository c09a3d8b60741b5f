use Rattle.sq_world.specs.Drafts.{DraftGoesOn}
use Rattle.sq_world.proofs.whole.move_chunks.Given as goal

abbrev pub invariant-loop : goal.invariant-loop
invariant-loop l = DraftGoesOn l.initial.draft l.draft

abbrev pub decreases-loop : goal.decreases-loop
decreases-loop l = l.draft.room
