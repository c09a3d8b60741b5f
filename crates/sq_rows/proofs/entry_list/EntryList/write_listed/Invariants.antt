use Rattle.std.proofs.Common.{◌≡◌, true, length}
use Rattle.std.specs.FinMap.Entries.{is_sorted}
use Rattle.std.specs.Vec.Iter.{into_iter_items}
use Rattle.sq_rows.specs.EntryList.{entries_of, HasRoom}
use Rattle.sq_rows.specs.Keys.{key_cmp}
use Rattle.sq_rows.specs.Writes.{with_writes}
use Rattle.sq_rows.proofs.entry_list.EntryList.write_listed.Given as goal

-- the writes that are left lead to the rows after all of them, and there is room for each
abbrev pub invariant-loop-key : goal.invariant-loop-key
invariant-loop-key l =
    (goal.iterator-loop-key).can_next l.key-iterator ×
    (goal.iterator-loop-key).is_finite l.key-iterator ×
    (with_writes (entries_of l.self) (into_iter_items l.key-iterator) ≡ with_writes (entries_of l.fn.self) l.fn.writes.items) ×
    (is_sorted key_cmp (entries_of l.self) ≡ true) ×
    HasRoom l.self (length (into_iter_items l.key-iterator))
