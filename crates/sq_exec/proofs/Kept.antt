-- A partition that continues as it is set up.
use Rattle.std.proofs.Common.{◌≡◌, Bool, true, List}
use Rattle.std.specs.Prelude.{is_some}
use Rattle.std.specs.List.{list_all}
use Rattle.sq_schema.specs.TxnValue.{TxnValue}
use Rattle.sq_moves.specs.ReconValue.{leaf_at}
use Rattle.sq_store.specs.StoreValue.{StoreValue}
use Rattle.sq_exec.specs.Waiting.{Arrival}
use Rattle.sq_exec.specs.CoreValue.{CoreValue}
use Rattle.sq_exec.specs.Kept.{is_due_here, IsCore}

-- only whether the move has started, the families and what waits are others: all that waits moves, and is due unless its rows are on their way
pub still_core : {core : CoreValue} {old : List Arrival} → IsCore core old → (started : Bool) (store : StoreValue) (waiting : List TxnValue) (new : List Arrival) → list_all (λ txn. is_some (leaf_at core.recon txn.root)) waiting ≡ true
    → list_all (is_due_here (record core { started = started; store = store; waiting = waiting })) new ≡ true → IsCore (record core { started = started; store = store; waiting = waiting }) new
still_core is started store waiting new moving due = record {
  outs = is.outs;
  inboxes = is.inboxes;
  given_up = is.given_up;
  loaded = is.loaded;
  ends = is.ends;
  moving = moving;
  due = due;
}
