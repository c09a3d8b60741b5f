use Rattle.std.proofs.Common.{◌≡◌, ◌<◌, ◌^◌, take}
use Rattle.std.specs.Prelude.{sum_by}
use Rattle.sq_engine.specs.Ending.{logged_in}
use Rattle.sq_serving.proofs.closing.count_logged.Given as goal

abbrev pub invariant-loop-store : goal.invariant-loop-store
invariant-loop-store l = sum_by logged_in (take l.store-index l.stores) < 2 ^ 64 → l.count ≡ sum_by logged_in (take l.store-index l.stores)
