-- Marks of keys that were written.
use Rattle.std.specs.Prelude.{Bool, false, ◌%◌, List, slice_index_or}
use Rattle.std.specs.List.{AllPass}
use Rattle.sq_rows.specs.declared.row.RowKey.{RowKey}
use Rattle.sq_schema.specs.declared.written_keys.TheConstants.{MARKS}
use Rattle.sq_rows.specs.Writes.{Write}

-- the key has its mark, which it may share
abbrev pub has_its_mark : List Bool → RowKey → Bool
has_its_mark marks key = slice_index_or marks (key.sub % MARKS) false

-- the key of each of these writes has its mark
abbrev pub AreMarked : List Bool → List Write → Type 0
AreMarked marks writes = AllPass (λ write. has_its_mark marks write.0) writes
