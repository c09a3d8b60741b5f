use Rattle.std.proofs.Common.{◌∙◌}
use Rattle.sq_rows.specs.Keys.{key_cmp}
use Rattle.sq_rows.proofs.Entries.{insert_entry-put, remove_entry-where_key}
use Rattle.sq_rows.proofs.KeyOrder.{key_cmp_total}
use Rattle.sq_rows.proofs.row_map.write.Goals as goal

pub returns-in_ok-insert-in-Some-clause-ok : goal.returns-in_ok-insert-in-Some-clause-ok
returns-in_ok-insert-in-Some-clause-ok c = rw c.in-Some.is (c.in_ok-insert-in-Some.ensures.entries ∙ insert_entry-put key_cmp c.args.rows.now.entries c.args.key c.in-Some.row)

pub returns-in-None-clause-ok : goal.returns-in-None-clause-ok
returns-in-None-clause-ok c = rw c.in-None.is (c.remove.ensures.entries ∙ remove_entry-where_key key_cmp key_cmp_total c.args.rows.now.entries c.args.key c.requires)
