use Rattle.std.proofs.Common.{FitsSigned, w64, to_z-of_z, pos, []}
use Rattle.sq_rows.specs.declared.row.RowKey.{RowKey}
use Rattle.sq_rows.specs.Values.{RowValue}
use Rattle.sq_rows.specs.EntryList.{entries_of}
use Rattle.sq_rows.proofs.Edited.{added_there}
use Rattle.sq_rows.proofs.entry_list.EntryList.add.Goals as goal

pub returns-in-Ok : goal.returns-in-Ok
returns-in-Ok c =
    let d : RowKey × RowValue = (c.args.key, record { number = pos 0; note = [] }) in
    let fits : FitsSigned w64 c.args.by = c.ranges.by in
    let adds = simp to_z-of_z at (c.add_at.ensures d) in
    rw c.ok_or.ensures.value (added_there (entries_of c.args.self.now) (entries_of c.add_at.new.self) c.args.key c.in-Ok.at c.args.by d c.add_at.result c.in-Ok.ensures adds)
