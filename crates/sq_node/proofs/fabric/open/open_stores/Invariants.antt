use Rattle.std.proofs.Common.{◌≡◌, ℕ, ◌<◌, map}
use Rattle.std.specs.List.{range_with_len}
use Rattle.sq_exec.specs.Opened.{opened_part, HasOwned}
use Rattle.sq_node.proofs.fabric.open.open_stores.Given as goal

-- the families of the partitions so far are there
abbrev pub invariant-loop-number : goal.invariant-loop-number
invariant-loop-number l = record {
  stores : l.stores.items ≡ map (λ part. (opened_part l.opening part).store) (range_with_len 0 l.number);
  owned : (part : ℕ) → part < l.number → HasOwned l.opening part (opened_part l.opening part).store;
}
