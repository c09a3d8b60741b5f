use Rattle.std.proofs.Common.{◌∙◌}
use Rattle.sq_rows.specs.Keys.{key_cmp}
use Rattle.sq_rows.proofs.Entries.{find-lookup}
use Rattle.sq_rows.proofs.entry_list.EntryList.get.Goals as goal

pub returns-in-Map : goal.returns-in-Map
returns-in-Map c = rw c.in-Map.is (c.get-in-Map.ensures.value ∙ find-lookup key_cmp c.in-Map.rows.entries c.args.key)
