-- Iterators over entries by key.
use Rattle.std.specs.Prelude.{List}
use Rattle.std.specs.Slice.Iter.{iter_rest}
use Rattle.sq_rows.specs.declared.entry_iter.EntriesLeft.{EntriesLeft}
use Rattle.sq_rows.specs.declared.entry_iter.EntriesLeft.TheVariants.{Listed, Mapped, Ranged}

-- the entries that are left
abbrev pub entries_left : {K X : Type 0} → EntriesLeft K X → List (K × X)
entries_left (Listed entries) = iter_rest entries
entries_left (Mapped entries) = entries
entries_left (Ranged entries) = entries
