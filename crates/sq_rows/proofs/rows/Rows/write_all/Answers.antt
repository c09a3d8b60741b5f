use Rattle.std.proofs.Common.{sym, ap, ◌∙◌}
use Rattle.sq_rows.specs.EntryList.{entries_of}
use Rattle.sq_rows.specs.Sizes.{rows_size}
use Rattle.sq_rows.specs.Writes.{with_writes}
use Rattle.sq_rows.specs.ShortList.{short_items}
use Rattle.sq_rows.proofs.Kept.{IsRowList-with_writes}
use Rattle.sq_rows.proofs.rows.Rows.write_all.Goals as goal

pub invariant_of-self-2 : goal.invariant_of-self-2
invariant_of-self-2 c =
    let rows = entries_of c.self.inside.rows in
    let writes = short_items c.args.writes in
    rw c.in_ok-write_all.ensures.ok (
      IsRowList-with_writes rows writes c.requires.writes c.self.invariant.0,
      c.requires.size ∙ ap (λ rows. rows_size (with_writes rows writes)) (sym c.self.view_is),
    )
