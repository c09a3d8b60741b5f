-- The rows of one root key, however they are stored.
use Rattle.std.specs.Prelude.{◌≡◌, ℕ, ◌+◌, ◌≤◌, [], ◌∷◌, vec_len, vec_capacity}
use Rattle.sq_rows.specs.declared.row.RowKey.{RowKey}
use Rattle.sq_rows.specs.declared.entry_list.EntryList.{EntryList}
use Rattle.sq_rows.specs.declared.entry_list.EntryList.TheVariants.{One, Many, Map}
use Rattle.sq_rows.specs.RowList.{RowList}

-- the rows with their keys
abbrev pub entries_of : EntryList → RowList
entries_of (One entry) = entry ∷ []
entries_of (Many entries) = entries.items
entries_of (Map entries) = entries.entries

-- one row is kept without memory of its own
abbrev pub IsOne : EntryList → Type 0
IsOne (One entry) = Unit {0}
IsOne (Many entries) = ⊥
IsOne (Map entries) = ⊥

-- the rows aren't in a map
abbrev pub IsListed : EntryList → Type 0
IsListed (One entry) = Unit {0}
IsListed (Many entries) = Unit {0}
IsListed (Map entries) = ⊥

-- there is room for this many more rows
abbrev pub HasRoom : EntryList → ℕ → Type 0
HasRoom (One entry) more = ⊥
HasRoom (Many entries) more = vec_len entries + more ≤ vec_capacity entries
HasRoom (Map entries) more = ⊥

-- there is no row except that of this key
abbrev pub StandsAlone : RowList → RowKey → Type 0
StandsAlone [] key = Unit {0}
StandsAlone (entry ∷ []) key = entry.0 ≡ key
StandsAlone (entry ∷ other ∷ entries) key = ⊥
