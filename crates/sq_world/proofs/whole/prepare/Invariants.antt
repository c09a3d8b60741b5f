use Rattle.sq_world.specs.Drafts.{DraftGoesOn}
use Rattle.sq_world.proofs.whole.prepare.Given as goal

abbrev pub invariant-loop-part : goal.invariant-loop-part
invariant-loop-part l = DraftGoesOn l.initial.draft l.draft
