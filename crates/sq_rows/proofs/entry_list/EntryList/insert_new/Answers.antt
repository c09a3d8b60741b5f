use Rattle.std.proofs.Common.{is_some, refl, ap}
use Rattle.sq_rows.proofs.entry_list.EntryList.insert_new.Goals as goal

pub returns-in-Ok-clause-row_returned : goal.returns-in-Ok-clause-row_returned
returns-in-Ok-clause-row_returned c = (ap is_some (c.in-Ok.ensures.found (c.args.key, c.args.row)), refl)
