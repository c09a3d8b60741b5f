use Rattle.std.proofs.Common.{◌∙◌}
use Rattle.std.specs.Ordering.{nat_cmp}
use Rattle.sq_rows.proofs.Entries.{find-lookup}
use Rattle.sq_schema.proofs.root_list.RootList.get.Goals as goal

pub returns-in-Mapped : goal.returns-in-Mapped
returns-in-Mapped c = rw c.in-Mapped.is (c.get-in-Mapped.ensures.value ∙ find-lookup nat_cmp c.in-Mapped.rows.entries c.args.root)
