-- Marks of the partitions that have prepared, or that have reported, as a list with an entry for
-- each partition.
use Rattle.std.specs.Prelude.{ℕ, Bool, true, false, List, [], ◌∷◌, replicate, slice_set, slice_index_or}
use Rattle.std.specs.List.{list_all}

-- the marks of this many partitions, none set
abbrev pub none_marked : ℕ → List Bool
none_marked parts = replicate parts false

-- the partition with this number is marked; false if there is no such partition
abbrev pub is_marked : List Bool → ℕ → Bool
is_marked marks part = slice_index_or marks part false

-- the marks with this partition's; unchanged if there is no such partition
abbrev pub with_mark : List Bool → ℕ → List Bool
with_mark marks part = slice_set marks part true

-- every partition is marked
abbrev pub all_marked : List Bool → Bool
all_marked marks = list_all (λ mark. mark) marks

-- the marks of this many partitions once these informed the leader, the last of them first
abbrev pub marks_after : ℕ → List ℕ → List Bool
marks_after parts [] = none_marked parts
marks_after parts (part ∷ told) = with_mark (marks_after parts told) part
