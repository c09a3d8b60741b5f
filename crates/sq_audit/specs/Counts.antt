-- Receipts by id and root key.
use Rattle.std.specs.Prelude.{ℕ, Bool, ◌==◌, ◌&&◌}
use Rattle.std.specs.declared.cmp.Ordering.{Ordering}
use Rattle.std.specs.Ordering.{nat_cmp, ordering_then}
use Rattle.sq_gather.specs.Prelude.{ReceiptValue}

-- the order of pairs of an id and a root key
abbrev pub key_order : ℕ × ℕ → ℕ × ℕ → Ordering
key_order one other = ordering_then (nat_cmp one.0 other.0) (nat_cmp one.1 other.1)

-- the receipt has this id and this root key
abbrev pub has_id_and_root : ℕ → ℕ → ReceiptValue → Bool
has_id_and_root id root receipt = (receipt.txn.id == id) && (receipt.txn.root == root)
