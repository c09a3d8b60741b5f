-- What receipts record of a family.
use Rattle.std.specs.Prelude.{◌≡◌, ◌≤◌, ℕ, Bool, true, false, ◌==◌, ◌&&◌, List, length, take, slice_get, Some, count_by}
use Rattle.sq_schema.specs.declared.txn.Reply.{Reply}
use Rattle.sq_schema.specs.declared.txn.Reply.TheVariants.{Committed, Aborted}
use Rattle.sq_schema.specs.Effect.{replay_rows, reply}
use Rattle.sq_schema.specs.Family.{FamilyValue}
use Rattle.sq_node_model.specs.NodeValue.{ReceiptValue}

abbrev pub is_commit : Reply → Bool
is_commit (Committed answers) = true
is_commit (Aborted at cause) = false

-- the receipt is of a commit on this root key, at this position of its log
abbrev pub names : ℕ → ℕ → ReceiptValue → Bool
names root position receipt = is_commit receipt.reply && ((receipt.txn.root == root) && (receipt.position == position))

-- how many receipts name this position of the root key's log
abbrev pub times_named : ℕ → ℕ → List ReceiptValue → ℕ
times_named root position receipts = count_by (names root position) receipts

-- the reply is that of the receipt's transaction on the rows that the log before its position leaves
pub record IsReplyIn (family : FamilyValue) (receipt : ReceiptValue) : Type 0 where
  pub within : receipt.position ≤ length family.log
  pub told : receipt.reply ≡ reply (replay_rows family.base (take receipt.position family.log)) receipt.txn

-- the family's log has the receipt's transaction at its position, and the log before it determines
-- the reply
pub record IsToldBy (family : FamilyValue) (receipt : ReceiptValue) : Type 0 where
  pub there : slice_get family.log receipt.position ≡ Some receipt.txn
  pub told : receipt.reply ≡ reply (replay_rows family.base (take receipt.position family.log)) receipt.txn
