use Rattle.std.proofs.Common.{◌∙◌}
use Rattle.sq_rows.specs.Keys.{key_cmp}
use Rattle.sq_rows.proofs.Entries.{insert_entry-put, remove_entry-where_key}
use Rattle.sq_rows.proofs.KeyOrder.{key_cmp_total}
use Rattle.sq_rows.proofs.row_map.put_back.Goals as goal

pub returns-in_default : goal.returns-in_default
returns-in_default c = rw c.in_default.is (c.remove.ensures.entries ∙ remove_entry-where_key key_cmp key_cmp_total c.args.rows.now.entries c.args.key c.requires.rising)

pub returns : goal.returns
returns c = rw c.in-Some.is (c.in-Ok.ensures.entries ∙ insert_entry-put key_cmp c.args.rows.now.entries c.args.key c.in-Some.row)
