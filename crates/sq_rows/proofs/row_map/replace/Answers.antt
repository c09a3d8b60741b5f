use Rattle.std.proofs.Common.{◌∙◌}
use Rattle.sq_rows.specs.Keys.{key_cmp}
use Rattle.sq_rows.proofs.Entries.{insert_entry-put}
use Rattle.sq_rows.proofs.row_map.replace.Goals as goal

pub returns-in-Ok-clause-ok : goal.returns-in-Ok-clause-ok
returns-in-Ok-clause-ok c = c.in-Ok.ensures.entries ∙ insert_entry-put key_cmp c.args.rows.now.entries c.args.key c.args.row
