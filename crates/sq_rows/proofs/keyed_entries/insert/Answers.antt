use Rattle.std.proofs.Common.{◌∙◌}
use Rattle.sq_rows.proofs.Entries.{insert_entry-put}
use Rattle.sq_rows.proofs.keyed_entries.insert.Goals as goal

pub returns-in-Ok-clause-ok : goal.returns-in-Ok-clause-ok
returns-in-Ok-clause-ok g c = c.in-Ok.ensures.entries ∙ insert_entry-put g.K.Ord.cmp c.args.map.now.entries c.args.key c.args.value
