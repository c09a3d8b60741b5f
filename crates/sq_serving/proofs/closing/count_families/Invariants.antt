use Rattle.std.proofs.Common.{◌≡◌, ◌<◌, ◌^◌, take}
use Rattle.std.specs.Prelude.{sum_by}
use Rattle.sq_serving.specs.Ends.{families_with_rows}
use Rattle.sq_serving.proofs.closing.count_families.Given as goal

abbrev pub invariant-loop-store : goal.invariant-loop-store
invariant-loop-store l = sum_by families_with_rows (take l.store-index l.stores) < 2 ^ 64 → l.count ≡ sum_by families_with_rows (take l.store-index l.stores)
