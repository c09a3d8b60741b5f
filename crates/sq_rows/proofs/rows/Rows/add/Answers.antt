use Rattle.std.proofs.Common.{◌<◌, ◌^◌, FitsSigned, w64, to_z-of_z, sym, ◌∙◌, arith}
use Rattle.sq_rows.specs.EntryList.{entries_of}
use Rattle.sq_rows.proofs.Edited.{added_sound}
use Rattle.sq_rows.proofs.rows.Rows.add.Goals as goal

pub invariant_of-self : goal.invariant_of-self
invariant_of-self c =
    let table : c.args.key.table < 2 ^ 8 = omega arith in
    let sub : c.args.key.sub < 2 ^ 32 = omega arith in
    let fits : FitsSigned w64 c.args.by = c.ranges.by in
    let adds = simp to_z-of_z at c.add.ensures in
    let kept = added_sound (entries_of c.self.inside.rows) (entries_of c.add.new.self) c.args.key c.args.by table sub c.self.invariant.0 c.add.result adds in
    (kept.0, c.self.invariant.1 ∙ sym kept.1)
