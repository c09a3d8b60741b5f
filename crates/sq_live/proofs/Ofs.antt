-- Receipts with the id and the root key of a transaction.
use Rattle.std.proofs.Common.{◌≡◌, ◌==◌, true, sym, ap, eqb-true, eq-eqb}
use Rattle.std.proofs.lemmas.Bool.{and_parts, and_from}
use Rattle.sq_schema.specs.TxnValue.{TxnValue}
use Rattle.sq_node_model.specs.NodeValue.{ReceiptValue}
use Rattle.sq_audit.specs.Answers.{is_of}

-- the receipt has the id and the root key of the transaction
pub of_from : (txn : TxnValue) (receipt : ReceiptValue) → receipt.txn.id ≡ txn.id → receipt.txn.root ≡ txn.root → is_of txn receipt ≡ true
of_from txn receipt id root =
    and_from (receipt.txn.id == txn.id) (receipt.txn.root == txn.root) (eq-eqb receipt.txn.id txn.id id) (eq-eqb receipt.txn.root txn.root root)

-- as the transaction's own receipt does
pub of_same : (txn : TxnValue) (receipt : ReceiptValue) → txn ≡ receipt.txn → is_of txn receipt ≡ true
of_same txn receipt is = of_from txn receipt (ap (λ (t : TxnValue). t.id) (sym is)) (ap (λ (t : TxnValue). t.root) (sym is))

-- what a receipt has of the transaction that it is of
pub record IsOf (txn : TxnValue) (receipt : ReceiptValue) : Type 0 where
  pub id : receipt.txn.id ≡ txn.id
  pub root : receipt.txn.root ≡ txn.root

pub of_parts : (txn : TxnValue) (receipt : ReceiptValue) → is_of txn receipt ≡ true → IsOf txn receipt
of_parts txn receipt is =
    let parts = and_parts (receipt.txn.id == txn.id) (receipt.txn.root == txn.root) is in
    record { id = eqb-true receipt.txn.id txn.id parts.0; root = eqb-true receipt.txn.root txn.root parts.1 }
