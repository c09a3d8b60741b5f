-- The invariant of the families of a partition: which root keys have one, what each starts from,
-- and which receipts were written for its log.
use Rattle.std.specs.Prelude.{◌≡◌, ◌⊎◌, ℕ, true, false, ◌&&◌, nat_lt, nat_le, List, length, Contains, Some, None, unwrap_or}
use Rattle.std.specs.FinMap.{get}
use Rattle.sq_schema.specs.Family.{FamilyValue}
use Rattle.sq_store.specs.StoreValue.{StoreValue, absent, family_in}
use Rattle.sq_store.specs.ChunkValue.{ChunkValue, covers}
use Rattle.sq_moves.specs.OpeningValue.{OpeningValue}
use Rattle.sq_model.specs.Staged.{owner_in}
use Rattle.sq_shared.specs.View.{one_if}
use Rattle.sq_node_model.specs.NodeValue.{ReceiptValue}
use Rattle.sq_node_model.specs.Chunks.{IsCovered}
use Rattle.sq_node_model.specs.Receipts.{is_commit, times_named, IsToldBy, IsReplyIn}
pub use Rattle.sq_node_model.specs.BeganWith.{BeganWith, is_given, given_family, BeginsWith, IsOf, GrowsFrom}

-- the root key is where it was as the stage began: the partition owned it, and no chunk that was
-- cut covers it
pub record IsHome (o : OpeningValue) (i part : ℕ) (cut : ChunkValue → Type 0) (root : ℕ) : Type 0 where
  pub owned : owner_in o i root ≡ part
  pub uncut : (chunk : ChunkValue) → cut chunk → covers chunk.note root ≡ false

-- the store has this family for the root key
abbrev pub IsStored : StoreValue → ℕ → FamilyValue → Type 0
IsStored store root family = get store root ≡ Some family

-- the chunk has this family for the root key
abbrev pub IsCarried : ChunkValue → ℕ → FamilyValue → Type 0
IsCarried chunk root family = family_in chunk.families root ≡ Some family

-- the family is in the store, or went with a chunk that was cut
abbrev pub IsStoredOrCut : (ChunkValue → Type 0) → StoreValue → ℕ → FamilyValue → Type 0
IsStoredOrCut cut store root family = IsStored store root family ⊎ ((chunk : ChunkValue) × cut chunk × IsCarried chunk root family)

-- the family as the chunk brought it; an empty one if the chunk has none
abbrev pub brought : ChunkValue → ℕ → FamilyValue
brought chunk root = unwrap_or (family_in chunk.families root) (absent root)

-- a root key with a family is at home or was loaded; each root key at home that began with a family
-- has one, and so does each root key of a loaded chunk
pub record StoreHolds (o : OpeningValue) (began : BeganWith) (part : ℕ) (cut loaded : ChunkValue → Type 0)
    (store : StoreValue) : Type 0 where
  pub stored : (root : ℕ) (family : FamilyValue) → IsStored store root family
      → IsHome o began.stage part cut root ⊎ IsCovered loaded root
  pub home : (root : ℕ) → IsHome o began.stage part cut root → is_given began root ≡ true
      → (family : FamilyValue) × IsStored store root family
  pub came : (root : ℕ) (chunk : ChunkValue) (family : FamilyValue) → loaded chunk → IsCarried chunk root family
      → (now : FamilyValue) × IsStored store root now

-- each family here is its root key's; one that is at home, or was, continues what the root key
-- began with; and one that was loaded continues what was brought
pub record FamiliesHold (o : OpeningValue) (began : BeganWith) (part : ℕ) (cut loaded : ChunkValue → Type 0)
    (store : StoreValue) : Type 0 where
  pub keyed : (root : ℕ) (family : FamilyValue) → IsStoredOrCut cut store root family → IsOf root family
  pub home_grown : (root : ℕ) (family : FamilyValue) → IsHome o began.stage part cut root → IsStored store root family
      → GrowsFrom (given_family began root) family
  pub cut_grown : (root : ℕ) (chunk : ChunkValue) (family : FamilyValue) → cut chunk → IsCarried chunk root family
      → GrowsFrom (given_family began root) family
  pub grown : (root : ℕ) (chunk : ChunkValue) (family : FamilyValue) → loaded chunk → covers chunk.note root ≡ true
      → IsStored store root family → GrowsFrom (brought chunk root) family

-- the committed receipts of the root key name each position of the family's log after the first
-- one's log once, and no other
abbrev pub NameGrowth : ℕ → List ReceiptValue → FamilyValue → FamilyValue → Type 0
NameGrowth root receipts first family =
    (position : ℕ)
    → times_named root position receipts ≡ one_if (nat_le (length first.log) position && nat_lt position (length family.log))

-- nothing was here of the root key: it began without a family, or the chunk that brought it had none
abbrev pub CameWithout : BeganWith → (ChunkValue → Type 0) → ℕ → Type 0
CameWithout began loaded root =
    (began.families root ≡ None)
    ⊎ ((chunk : ChunkValue) × loaded chunk × (covers chunk.note root ≡ true) × (family_in chunk.families root ≡ None))

-- the receipt has the reply of its position, in a log that is or was here; or nothing was here of
-- its root key, and the reply is that on no rows
abbrev pub IsAbortHere : BeganWith → (ChunkValue → Type 0) → (ChunkValue → Type 0) → StoreValue → ReceiptValue → Type 0
IsAbortHere began cut loaded store receipt =
    ((family : FamilyValue) × IsStoredOrCut cut store receipt.txn.root family × IsReplyIn family receipt)
    ⊎ (CameWithout began loaded receipt.txn.root × IsReplyIn (absent receipt.txn.root) receipt)

-- the committed receipts name each position of a log that was written here once, and nothing else:
-- what came after the log that the root key began with if the partition owned it, and what came
-- after the log that was brought if it was loaded; and those of aborts have the replies of their
-- positions
pub record ReceiptsHold (o : OpeningValue) (began : BeganWith) (part : ℕ) (cut loaded : ChunkValue → Type 0)
    (store : StoreValue) (receipts : List ReceiptValue) : Type 0 where
  pub named_home : (root : ℕ) (family : FamilyValue) → IsStoredOrCut cut store root family → owner_in o began.stage root ≡ part
      → NameGrowth root receipts (given_family began root) family
  pub named_came : (root : ℕ) (chunk : ChunkValue) (family : FamilyValue) → loaded chunk → covers chunk.note root ≡ true
      → IsStored store root family → NameGrowth root receipts (brought chunk root) family
  pub told : (receipt : ReceiptValue) → Contains receipts receipt → is_commit receipt.reply ≡ true
      → (family : FamilyValue) × IsStoredOrCut cut store receipt.txn.root family × IsToldBy family receipt
  pub aborted : (receipt : ReceiptValue) → Contains receipts receipt → is_commit receipt.reply ≡ false
      → IsAbortHere began cut loaded store receipt
