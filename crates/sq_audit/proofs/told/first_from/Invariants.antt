use Rattle.std.proofs.Common.{◌≡◌, ℕ, ◌-◌, ◌<◌, ◌≤◌, length, slice_get, Some}
use Rattle.sq_gather.specs.Prelude.{ReceiptValue}
use Rattle.sq_audit.specs.Told.{values_of}
use Rattle.sq_audit.proofs.told.first_from.Given as goal

-- those from the first place to here are below the root key
abbrev pub invariant-loop-at : goal.invariant-loop-at
invariant-loop-at l = record {
  from : l.from ≤ l.at;
  within : l.at ≤ length l.sorted;
  below : (k : ℕ) (receipt : ReceiptValue) → l.from ≤ k → k < l.at → slice_get (values_of l.sorted) k ≡ Some receipt → receipt.txn.root < l.root;
}

abbrev pub decreases-loop-at : goal.decreases-loop-at
decreases-loop-at l = length l.sorted - l.at
