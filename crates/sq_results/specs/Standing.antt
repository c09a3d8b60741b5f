-- The families that exist when a run ends, wherever they are, and the text of their rows.
use Rattle.std.specs.Prelude.{ℕ, List, ◌++◌, length, Option}
use Rattle.std.specs.List.{flat_map, range_with_len}
use Rattle.std.specs.List.Sorted.{IsPermutation, IsNonDecreasingBy}
use Rattle.std.specs.Io.KnownBytes.{Appends}
use Rattle.sq_schema.specs.Family.{FamilyValue}
use Rattle.sq_store.specs.InOrder.{families_in}
use Rattle.sq_store.specs.ChunkValue.{ChunkValue}
use Rattle.sq_exec.specs.CoreValue.{CoreValue}
use Rattle.sq_transition.specs.WorldValue.{WorldValue, link_index}
use Rattle.sq_world.specs.Readers.{way_of}
use Rattle.sq_node_model.specs.Gathered.{GatheredLink, GatheredValue}
use Rattle.sq_results.specs.RowLines.{root_lines}

-- the families in chunks
abbrev pub carried : List ChunkValue → List FamilyValue
carried chunks = flat_map (λ (chunk : ChunkValue). chunk.families) chunks

-- the families that a run in threads left: in stores, and in chunks under way
abbrev pub gathered_families : GatheredValue → List FamilyValue
gathered_families g =
    flat_map families_in g.stores
    ++ flat_map (λ (link : GatheredLink). carried link.under_way) g.links

-- the families in the stores of a world
abbrev pub stored_families : WorldValue → List FamilyValue
stored_families w = flat_map (λ (core : CoreValue). families_in core.store) w.cores

-- the families in the chunks of a world that are under way between two partitions, and from one
-- partition to any
abbrev pub link_families : WorldValue → ℕ → ℕ → List FamilyValue
link_families w src dst = carried (way_of w (link_index w src dst))

abbrev pub source_families : WorldValue → ℕ → List FamilyValue
source_families w src = flat_map (link_families w src) (range_with_len 0 (length w.cores))

-- the families of a world: in stores, and in chunks under way
abbrev pub world_families : WorldValue → List FamilyValue
world_families w =
    stored_families w ++ flat_map (source_families w) (range_with_len 0 (length w.cores))

-- the rows of these families were written, each family once, by rising root key
pub record WritesRows (families : List FamilyValue) (before now : Option (List ℕ)) : Type 0 where
  pub sorted : List FamilyValue
  pub same : IsPermutation families sorted
  pub rise : IsNonDecreasingBy (λ (family : FamilyValue). family.root) sorted
  pub wrote : Appends before now (flat_map root_lines sorted)
