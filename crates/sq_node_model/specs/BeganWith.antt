-- What a stage of a move begins with: the families of the partitions, with logs that may have
-- transactions, and the receipts that were written before.
use Rattle.std.specs.Prelude.{◌≡◌, ℕ, Bool, true, false, ◌++◌, ◌==◌, not, nat_lt, if◌then◌else◌, List, [], length, All, Contains, Option, Some, None, is_some, unwrap_or}
use Rattle.sq_schema.specs.TxnValue.{TxnValue}
use Rattle.sq_schema.specs.Family.{FamilyValue}
use Rattle.sq_store.specs.StoreValue.{absent}
use Rattle.sq_moves.specs.OpeningValue.{OpeningValue}
use Rattle.sq_model.specs.Tables.{opening_rows}
use Rattle.sq_shared.specs.View.{one_if}
use Rattle.sq_node_model.specs.NodeValue.{ReceiptValue}
use Rattle.sq_node_model.specs.Receipts.{is_commit, times_named, IsToldBy, IsReplyIn}

-- the stage, the family that each root key began with, if it had one, and the receipts so far
pub record BeganWith : Type 0 where
  pub stage : ℕ
  pub families : ℕ → Option FamilyValue
  pub receipts : List ReceiptValue

-- the root key began with a family
abbrev pub is_given : BeganWith → ℕ → Bool
is_given began root = is_some (began.families root)

-- the family that a root key began with; an empty one if it had none
abbrev pub given_family : BeganWith → ℕ → FamilyValue
given_family began root = unwrap_or (began.families root) (absent root)

-- the root key has opening rows
abbrev pub is_opened : OpeningValue → ℕ → Bool
is_opened o root = not (length (opening_rows o root) == 0)

-- the family of a root key before the move
abbrev pub opening_family : OpeningValue → ℕ → FamilyValue
opening_family o root = record { root = root; base = opening_rows o root; log = [] }

-- the first stage begins with the families of the opening rows, and with no receipts
abbrev pub first_began : OpeningValue → BeganWith
first_began o = record { stage = 0; families = λ root. if is_opened o root then Some (opening_family o root) else None; receipts = [] }

-- the first transactions of a log are these
abbrev pub BeginsWith : List TxnValue → List TxnValue → Type 0
BeginsWith front log = (more : List TxnValue) × (log ≡ front ++ more)

-- the family and its log are the root key's
pub record IsOf (root : ℕ) (family : FamilyValue) : Type 0 where
  pub same_root : family.root ≡ root
  pub own_log : All (λ txn. txn.root ≡ root) family.log

-- the family has the base of the other, and a log that continues the other's
pub record GrowsFrom (first family : FamilyValue) : Type 0 where
  pub base : family.base ≡ first.base
  pub log : BeginsWith first.log family.log

-- what a stage may begin with: each family is its root key's and starts from the opening rows; each
-- opening root key has one; the committed receipts so far name each position of these logs once, and
-- no other, and record what was done there; and those of aborts have the replies of their positions
pub record CanBegin (o : OpeningValue) (began : BeganWith) : Type 0 where
  pub keyed : (root : ℕ) (family : FamilyValue) → began.families root ≡ Some family → IsOf root family
  pub base : (root : ℕ) (family : FamilyValue) → began.families root ≡ Some family → family.base ≡ opening_rows o root
  pub opening : (root : ℕ) → is_opened o root ≡ true → is_given began root ≡ true
  pub named : (root : ℕ) (family : FamilyValue) → began.families root ≡ Some family → (position : ℕ)
      → times_named root position began.receipts ≡ one_if (nat_lt position (length family.log))
  pub told : (receipt : ReceiptValue) → Contains began.receipts receipt → is_commit receipt.reply ≡ true
      → (family : FamilyValue) × (began.families receipt.txn.root ≡ Some family) × IsToldBy family receipt
  pub aborted : (receipt : ReceiptValue) → Contains began.receipts receipt → is_commit receipt.reply ≡ false
      → IsReplyIn (given_family began receipt.txn.root) receipt
