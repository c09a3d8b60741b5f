-- Where the family of a root key is, and which partition runs transactions on it.
use Rattle.std.specs.Prelude.{ℕ, Bool, ◌==◌, ◌&&◌, not, nat_le, nat_lt, if◌then◌else◌, List, find, Option, Some, None, slice_get}
use Rattle.std.specs.List.{list_any}
use Rattle.sq_plan.specs.PlanValue.{owner}
use Rattle.sq_store.specs.declared.chunk.Note.{Note}
use Rattle.sq_store.specs.ChunkValue.{covers}
use Rattle.sq_moves.specs.declared.recon.Range.{Range}
use Rattle.sq_moves.specs.declared.recon.Extent.{Extent}
use Rattle.sq_moves.specs.ReconValue.{extent, stage_on}
use Rattle.sq_moves.specs.OpeningValue.{OpeningValue}
use Rattle.sq_model.specs.Trace.{Trace, notes, loads, stage}
use Rattle.sq_model.specs.Leader.{is_started}
use Rattle.sq_model.specs.Nodes.{items}

-- the owner of a root key before the move, and its owner after
abbrev pub source : OpeningValue → ℕ → ℕ
source o root = owner o.old root

abbrev pub destination : OpeningValue → ℕ → ℕ
destination o root = owner o.new root

-- the root key moves
abbrev pub moves : OpeningValue → ℕ → Bool
moves o root = not (source o root == destination o root)

-- the root key moves in this stage
abbrev pub moves_in : OpeningValue → ℕ → ℕ → Bool
moves_in o i root = moves o root && (stage_on o.recon (source o root) (destination o root) == i)

-- one of the notes covers the root key
abbrev pub is_covered : List Note → ℕ → Bool
is_covered notes root = list_any (λ note. covers note root) notes

-- the keys of a node; none if there is no such segment
abbrev pub extent_in : ℕ → Option Range → ℕ → Extent
extent_in width None node = record { lo = 0; hi = 0 }
extent_in width (Some segment) node = extent width segment node

abbrev pub extent_of : OpeningValue → ℕ → ℕ → Extent
extent_of o seg node = extent_in o.recon.width (slice_get o.recon.segments seg) node

abbrev pub is_within : Extent → ℕ → Bool
is_within keys root = nat_le keys.lo root && nat_lt root keys.hi

-- a node that was begun covers the root key
abbrev pub is_begun_over : OpeningValue → Trace → ℕ → Bool
is_begun_over o t root = list_any (λ item. is_within (extent_of o item.seg item.node) root) (items t)

-- a place: a partition, or a chunk under way
pub data Place : Type 0 where
  At : (part : ℕ) → Place
  Under_way : (note : Note) → Place

-- a key that no note covers is where it was; a key that a note covers is under way in that chunk
-- until this is loaded
abbrev pub cut_place : ℕ → Option Note → Place
cut_place owner None = At owner
cut_place owner (Some note) = Under_way note

abbrev pub loaded_place : Place → Option Note → Place
loaded_place before None = before
loaded_place before (Some note) = At note.dst

-- the first of the notes that covers the root key
abbrev pub note_over : ℕ → List Note → Option Note
note_over root notes = find (λ note. covers note root) notes

-- where the family of a root key is, which was at this partition before chunks with these notes
-- were cut and loaded
abbrev pub place_from : ℕ → List Note → List Note → ℕ → Place
place_from owner cut loaded root = loaded_place (cut_place owner (note_over root cut)) (note_over root loaded)

-- where the family of a root key is
abbrev pub place : OpeningValue → Trace → ℕ → Place
place o t root = place_from (source o root) (notes t) (loads t) root

-- the partition that runs transactions on a root key that this one owned before these steps: this
-- one until a node over the key is begun, none from then until the key is loaded, and after that
-- the destination
abbrev pub runner_from : OpeningValue → Trace → ℕ → ℕ → Option ℕ
runner_from o t owner root =
    if is_covered (loads t) root then Some (destination o root)
    else if is_begun_over o t root then None
    else Some owner

-- the partition that runs transactions on a root key
abbrev pub runner : OpeningValue → Trace → ℕ → Option ℕ
runner o t root = runner_from o t (source o root) root

-- the root key moves to this partition in the running stage, and isn't loaded yet
abbrev pub is_coming : OpeningValue → Trace → ℕ → ℕ → Bool
is_coming o t part root =
    is_started t && (moves_in o (stage t) root && ((destination o root == part) && not (is_covered (loads t) root)))
