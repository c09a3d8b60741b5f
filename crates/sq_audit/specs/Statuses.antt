-- What holds of the statuses of trees.
use Rattle.std.specs.Prelude.{◌≡◌, ℕ, true, false}
use Rattle.std.specs.BTreeSet.{BTreeSet, contains}
use Rattle.sq_gather.specs.Prelude.{Status, is_leaf, is_free, is_split, is_live, is_complete, has_last, GatheredValue, gathered_status, loaded_notes}
use Rattle.sq_audit.specs.Counts.{key_order}

-- the status that a node may have in a tree that grew: a node that isn't free is live, and a leaf
-- isn't split
pub record IsGrownAt (status : ℕ → Status) (n : ℕ) : Type 0 where
  pub live : is_free (status n) ≡ false → is_live status n ≡ true
  pub leaf : is_leaf n ≡ true → is_split (status n) ≡ false

-- the last note of each complete node is loaded
abbrev pub CompleteAreLoaded : GatheredValue → Type 0
CompleteAreLoaded g = (seg n : ℕ) → is_complete (gathered_status g seg n) ≡ true → has_last seg n (loaded_notes g) ≡ true

-- the node is in `ended`, if it is complete
abbrev pub IsEnded : BTreeSet (ℕ × ℕ) → ℕ → ℕ → Status → Type 0
IsEnded ended seg n status = is_complete status ≡ true → contains key_order ended (seg, n) ≡ true

-- each complete node of the tree of segment `seg` is in `ended`
abbrev pub AreEnded : BTreeSet (ℕ × ℕ) → ℕ → (ℕ → Status) → Type 0
AreEnded ended seg status = (n : ℕ) → IsEnded ended seg n (status n)
