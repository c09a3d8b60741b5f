-- What a link carries next.
use Rattle.std.specs.Prelude.{ℕ, Bool, false, ◌-◌, ◌%◌, ◌==◌, ◌&&◌, not, List, [], ◌∷◌, find, filter, length, Option, Some, None, slice_get}
use Rattle.std.specs.List.{list_any, range_with_len}
use Rattle.sq_store.specs.declared.chunk.Note.{Note}
pub use Rattle.sq_store.specs.ChunkValue.{is_about}
use Rattle.sq_moves.specs.declared.recon.Range.{Range}
use Rattle.sq_moves.specs.CutEnd.{end_of}
use Rattle.sq_moves.specs.OpeningValue.{OpeningValue}
use Rattle.sq_model.specs.Trace.{Trace, notes, cut_count}
use Rattle.sq_model.specs.Nodes.{Item, items}
use Rattle.sq_model.specs.Tables.{stands, size_of}
use Rattle.sq_model.specs.Place.{extent_of}

-- the node has its last note among these
abbrev pub has_last : ℕ → ℕ → List Note → Bool
has_last seg node notes = list_any (λ note. is_about seg node note && note.last) notes

abbrev pub end_of_note : ℕ → Option Note → ℕ
end_of_note lo None = lo
end_of_note lo (Some note) = note.hi

-- how far these notes cover a node: to the end of its newest one, or to its low end if there is
-- none
abbrev pub reached : OpeningValue → ℕ → ℕ → List Note → ℕ
reached o seg node notes = end_of_note (extent_of o seg node).lo (find (is_about seg node) notes)

abbrev pub goes : Option Range → ℕ → ℕ → Bool
goes None src dst = false
goes (Some segment) src dst = (segment.src == src) && (segment.dst == dst)

-- the segment moves from the one partition to the other
abbrev pub is_on_link : OpeningValue → ℕ → ℕ → ℕ → Bool
is_on_link o src dst seg = goes (slice_get o.recon.segments seg) src dst

-- a begun node of the link that has no last note
abbrev pub is_open : OpeningValue → Trace → ℕ → ℕ → Item → Bool
is_open o t src dst item = is_on_link o src dst item.seg && not (has_last item.seg item.node (notes t))

abbrev pub open_items : OpeningValue → Trace → ℕ → ℕ → List Item
open_items o t src dst = filter (is_open o t src dst) (items t)

-- odd pulls are reactive
abbrev pub is_reactive : Item → Bool
is_reactive item = item.pull % 2 == 1

abbrev pub or_first : List Item → Option Item → Option Item
or_first items (Some item) = Some item
or_first [] None = None
or_first (item ∷ items) None = Some item

-- what is cut next: the first reactive item, or without one the first of all
abbrev pub next_item : List Item → Option Item
next_item items = or_first items (find is_reactive items)

-- the root keys with a family from lo up to hi, rising
abbrev pub standing : OpeningValue → Trace → ℕ → ℕ → List ℕ
standing o t lo hi = filter (stands o t) (range_with_len lo (hi - lo))

-- where a chunk ends that begins at lo: at the first family that it doesn't take, or at hi
abbrev pub cut_end : OpeningValue → Trace → ℕ → ℕ → ℕ
cut_end o t lo hi = end_of (size_of o t) hi o.config.limit (standing o t lo hi)

-- the note of the next chunk of a link, if it is cut for this item
abbrev pub next_note : OpeningValue → Trace → ℕ → ℕ → Item → Note
next_note o t src dst item =
    let lo = reached o item.seg item.node (notes t) in
    let hi = (extent_of o item.seg item.node).hi in
    let end = cut_end o t lo hi in
    record {
      src = src;
      dst = dst;
      number = cut_count t src dst;
      seg = item.seg;
      node = item.node;
      lo = lo;
      hi = end;
      last = end == hi;
    }

-- how many families a chunk with this note holds
abbrev pub family_count : OpeningValue → Trace → Note → ℕ
family_count o t note = length (standing o t note.lo note.hi)
