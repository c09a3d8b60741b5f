use Rattle.std.proofs.Common.{◌≡◌, ℕ, ◌<◌, ◌≤◌, length, slice_get, Some}
use Rattle.std.specs.Bool.{Decides}
use Rattle.sq_gather.specs.Prelude.{rows_in, ReceiptValue}
use Rattle.sq_audit.specs.Located.{Entry, entries_in}
use Rattle.sq_audit.specs.Told.{values_of, StartsEntry, TellsEntry}
use Rattle.sq_audit.proofs.Each.{EachTo}
use Rattle.sq_audit.proofs.told.find_logs.Given as goal

-- this was found of the families so far, and the receipts before a place are of root keys below those of the families that are left
abbrev pub invariant-loop-located : goal.invariant-loop-located
invariant-loop-located l = record {
  start : Decides l.found.start (EachTo (StartsEntry (rows_in l.table) (values_of l.sorted)) (entries_in l.all) l.located-index);
  known : Decides l.found.known (EachTo (TellsEntry (rows_in l.table) (values_of l.sorted)) (entries_in l.all) l.located-index);
  within : l.from ≤ length l.sorted;
  below : (k i : ℕ) (receipt : ReceiptValue) (entry : Entry) → k < l.from → slice_get (values_of l.sorted) k ≡ Some receipt → l.located-index ≤ i → slice_get (entries_in l.all) i ≡ Some entry → receipt.txn.root < entry.1.root;
}
