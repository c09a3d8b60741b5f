-- The law is the theorem on transactions that wait.
use Rattle.std.proofs.Common.{◌==◌, refl}
use Rattle.std.proofs.lemmas.Bool.{eq-eqb}
use Rattle.sq_schema.specs.TxnValue.{TxnValue}
use Rattle.sq_model.specs.Waiting.{waiting}
use Rattle.sq_model.proofs.Lists.{list_any-Contains}
use Rattle.sq_model.proofs.Waiters.{waits_for, waits-runner}
use Rattle.sq_model.proofs.laws.runs_waiters_where_they_wait.Goals as goal

pub returns : goal.returns
returns c = λ o t part txn is legal has gone.
    waits-runner o is t legal part txn.root
    (waits_for o t legal part txn.root (list_any-Contains (λ (other : TxnValue). other.root == txn.root) (waiting o t part) txn has (eq-eqb txn.root txn.root refl))) gone
