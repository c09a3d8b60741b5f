-- The gathered families, each with its site.
use Rattle.std.specs.Prelude.{◌≡◌, ℕ, ◌+◌, ◌<◌, ◌≤◌, All, List, ◌++◌, map, slice_get, Option, Some, Contains}
use Rattle.sq_gather.specs.Prelude.{FamilyValue, ROOT_END, StoreValue, family_in, family_from, ChunkValue, IsOf, Spot, GatheredLink, GatheredValue, StandsAt}
use Rattle.sq_gather.specs.Prelude as spots
use Rattle.sq_audit.specs.declared.located.Site.{Site}
use Rattle.sq_audit.specs.declared.located.Site.TheVariants.{Store, Chunk}
use Rattle.sq_audit.specs.declared.located.Located.{Located}

abbrev pub spot_of : Site → Spot
spot_of (Store part) = spots.Store part
spot_of (Chunk link chunk) = spots.Chunk link chunk

-- a family, and its spot
abbrev pub Entry : Type 0
Entry = Spot × FamilyValue

abbrev pub entry_of : Located → Entry
entry_of located = (spot_of located.site, located.family.now)

abbrev pub entries_in : List Located → List Entry
entries_in all = map entry_of all

-- the root keys are in rising order, perhaps with repeats
abbrev pub AreByRoot : List Entry → Type 0
AreByRoot entries =
    (i j : ℕ) (one other : Entry) → i ≤ j → slice_get entries i ≡ Some one → slice_get entries j ≡ Some other
    → one.1.root ≤ other.1.root

-- the family has the least root key of at least `at` in the store, its log is of that root key, and
-- `next` is the number after it
pub record IsNextFamily (store : StoreValue) (at : ℕ) (family : FamilyValue) (next : ℕ) : Type 0 where
  pub found : family_from store at ≡ Some family
  pub behind : next ≡ family.root + 1
  pub rises : at < next
  pub bound : next ≤ ROOT_END
  pub own : All (λ txn. txn.root ≡ family.root) family.log

-- `families` are exactly the families of their root keys, and their logs are of these
pub record AreAllFamilies (family_of : ℕ → Option FamilyValue) (families : List FamilyValue) : Type 0 where
  pub here : (family : FamilyValue) → Contains families family → family_of family.root ≡ Some family
  pub each : (root : ℕ) (family : FamilyValue) → family_of root ≡ Some family → Contains families family
  pub keyed : (root : ℕ) (family : FamilyValue) → family_of root ≡ Some family → IsOf root family

-- all families of a spot were added
pub record AddsAll (spot : Spot) (family_of : ℕ → Option FamilyValue) (old new : List Entry) : Type 0 where
  pub families : List FamilyValue
  pub all : AreAllFamilies family_of families
  pub added : new ≡ old ++ map (λ family. (spot, family)) families

-- all families of the chunks of a link were added
pub record AddsLink (link : ℕ) (of : GatheredLink) (old new : List Entry) : Type 0 where
  pub entries : List Entry
  pub here : (entry : Entry) → Contains entries entry
      → (chunk : ℕ) × (found : ChunkValue) × (entry.0 ≡ spots.Chunk link chunk) × (slice_get of.under_way chunk ≡ Some found)
      × (family_in found.families entry.1.root ≡ Some entry.1)
  pub each : (chunk root : ℕ) (found : ChunkValue) (family : FamilyValue)
      → slice_get of.under_way chunk ≡ Some found → family_in found.families root ≡ Some family
      → Contains entries (spots.Chunk link chunk, family) × IsOf root family
  pub added : new ≡ old ++ entries

-- the entries are exactly the families that stand in `g`, each of its root key
pub record ListsAll (g : GatheredValue) (entries : List Entry) : Type 0 where
  pub here : (entry : Entry) → Contains entries entry → StandsAt g entry.0 entry.1.root entry.1
  pub each : (spot : Spot) (root : ℕ) (family : FamilyValue) → StandsAt g spot root family → Contains entries (spot, family)
  pub keyed : (spot : Spot) (root : ℕ) (family : FamilyValue) → StandsAt g spot root family → IsOf root family

-- the entries stand in `g`, and all families in stores are among them, each of its root key
pub record ListsStored (g : GatheredValue) (entries : List Entry) : Type 0 where
  pub here : (entry : Entry) → Contains entries entry → StandsAt g entry.0 entry.1.root entry.1
  pub each : (part root : ℕ) (family : FamilyValue) → StandsAt g (spots.Store part) root family
      → Contains entries (spots.Store part, family) × IsOf root family
