use Rattle.std.proofs.Common.{◌≡◌, ◌≤◌, ◌++◌, true, vec_len}
use Rattle.std.specs.Prelude.{vec_capacity}
use Rattle.crossbeam_queue.specs.Passes.{view, IsPassOf}
use Rattle.sq_shared.specs.Order.{ends}
use Rattle.sq_shared.proofs.link.SharedLink.close.Given as goal

-- the chunks that were popped so far follow those that were received before
abbrev pub invariant-loop : goal.invariant-loop
invariant-loop g l = record {
  of_queue : IsPassOf l.queue l.both;
  knows : view l.both ≡ ends true true l.fn.sender.chunks (l.fn.receiver.chunks ++ l.rest.items);
  long : vec_len l.rest ≡ l.counter;
  roomy : l.count ≤ vec_capacity l.rest;
}
