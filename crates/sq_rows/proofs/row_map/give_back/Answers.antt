use Rattle.std.proofs.Common.{◌∙◌}
use Rattle.sq_rows.specs.Keys.{key_cmp}
use Rattle.sq_rows.proofs.Entries.{insert_entry-put}
use Rattle.sq_rows.proofs.row_map.give_back.Goals as goal

pub returns-clause-rows : goal.returns-clause-rows
returns-clause-rows c = c.in-Ok-Some.ensures.entries ∙ insert_entry-put key_cmp c.args.rows.now.entries c.args.key c.args.old
