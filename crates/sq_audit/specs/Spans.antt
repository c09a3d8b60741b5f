-- The keys that notes cover, and where the notes place these keys.
use Rattle.std.specs.Prelude.{◌≡◌, ℕ, Bool, true, false, nat_lt, if◌then◌else◌, List, ◌++◌, map, filter, find, drop, Option, Some, None, Contains}
use Rattle.std.specs.List.Sorted.{IsNonDecreasingBy}
use Rattle.sq_gather.specs.Prelude.{Note, covers, OpeningValue, owner_in, Spot, Store, Chunk, GatheredLink, loaded_count, loads_of}
use Rattle.sq_audit.specs.declared.spans.Span.{Span}
use Rattle.sq_audit.specs.Located.{Entry}

-- a note, and whether its chunk was loaded
abbrev pub Marked : Type 0
Marked = Note × Bool

abbrev pub marked_of : Span → Marked
marked_of span = (span.note.now, span.loaded)

abbrev pub marked_in : List Span → List Marked
marked_in spans = map marked_of spans

abbrev pub has_keys : Note → Bool
has_keys note = nat_lt note.lo note.hi

-- those of these notes that cover keys
abbrev pub marked : Bool → List Note → List Marked
marked loaded notes = map (λ note. (note, loaded)) (filter has_keys notes)

-- the notes of a link that cover keys
abbrev pub notes_of : GatheredLink → List Marked
notes_of link = marked true (loads_of link) ++ marked false (drop (loaded_count link) link.notes)

abbrev pub first_key : Marked → ℕ
first_key one = one.0.lo

abbrev pub is_over : ℕ → Marked → Bool
is_over key one = covers one.0 key

-- the notes are sorted by their first keys; each covers keys, and no two cover the same key
pub record AreByKey (notes : List Marked) : Type 0 where
  pub sorted : IsNonDecreasingBy first_key notes
  pub some : (one : Marked) → Contains notes one → has_keys one.0 ≡ true
  pub apart : (one other : Marked) (key : ℕ) → Contains notes one → Contains notes other
      → is_over key one ≡ true → is_over key other ≡ true → one ≡ other

-- the partition of a root key by the note that covers it; without one, the partition that owned it
-- as the stage began
abbrev pub part_by : OpeningValue → ℕ → ℕ → Option Marked → Option ℕ
part_by o i root None = Some (owner_in o i root)
part_by o i root (Some one) = if one.1 then Some one.0.dst else None

-- a spot in a store is at the partition
abbrev pub IsAtPart : Spot → Option ℕ → Type 0
IsAtPart (Store part) at = at ≡ Some part
IsAtPart (Chunk link chunk) at = Unit {0}

-- the entry is in the place that the notes of stage `i` give its root key
abbrev pub IsPlacedBy : OpeningValue → ℕ → List Marked → Entry → Type 0
IsPlacedBy o i notes entry = IsAtPart entry.0 (part_by o i entry.1.root (find (is_over entry.1.root) notes))
