use Rattle.std.proofs.Common.{◌≡◌, ◌≤◌, length, take, vec_capacity}
use Rattle.sq_transition.specs.Headline.{KeepsHeadline}
use Rattle.sq_world.specs.History.{history_of}
use Rattle.sq_world.proofs.whole_run.run_world.Given as goal

-- each step so far has an answer, there is room for all, and the world is the one that they lead to
abbrev pub invariant-loop-step : goal.invariant-loop-step
invariant-loop-step l = record {
  count : length l.answers.items ≡ l.step-index;
  room : length l.steps ≤ vec_capacity l.answers;
  goes : KeepsHeadline l.fn.opening (history_of (take l.step-index l.steps) l.answers.items) l.world;
}
