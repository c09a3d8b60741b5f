use Rattle.std.proofs.Common.{◌≡◌, FitsSigned, w64, to_z-of_z, Some, is_some, sym, ap, ◌∙◌}
use Rattle.std.specs.BTreeMap.{is_at}
use Rattle.std.specs.Map.{lookup, set_value}
use Rattle.std.proofs.lemmas.Map.Steps.{set_value_same}
use Rattle.sq_rows.specs.Keys.{key_cmp}
use Rattle.sq_rows.specs.RowList.{row_at}
use Rattle.sq_rows.proofs.Entries.{find-lookup, set_value-put}
use Rattle.sq_rows.proofs.Edited.{added}
use Rattle.sq_rows.proofs.KeyOrder.{key_cmp_total}
use Rattle.sq_rows.proofs.row_map.add.Goals as goal

pub returns-in-Some : goal.returns-in-Some
returns-in-Some c =
    let old = c.args.rows.now.entries in
    let key = c.args.key in
    let row = c.in-Some.row.now in
    let test = is_at (key_cmp key) in
    let there : lookup test old ≡ Some row = sym (rw c.in-Some.is at c.get_mut.ensures.value) in
    let stood : row_at old key ≡ Some row = sym (find-lookup key_cmp old key) ∙ there in
    let fits : FitsSigned w64 c.args.by = c.ranges.by in
    let sum = simp to_z-of_z at c.add.ensures.sum in
    rw (stood, c.ok_or.ensures.value) (
    added old _ key c.args.by row c.add.new.self (set_value test old) (set_value_same test old row there) (c.get_mut.follows.holds c.add.new.self).0
    (λ r. set_value-put key_cmp key_cmp_total old key r c.requires (ap is_some stood)) c.add.result sum c.add.ensures.some c.add.ensures.none
    )
