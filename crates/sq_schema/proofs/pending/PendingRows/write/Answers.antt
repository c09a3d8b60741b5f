use Rattle.std.proofs.Common.{◌≡◌, ◌<◌, ◌^◌, arith, sym, ap, ◌∙◌}
use Rattle.sq_rows.specs.RowList.{row_at}
use Rattle.sq_rows.specs.Writes.{count_of_row, size_of_row}
use Rattle.sq_schema.specs.Pending.{PendingValue, pending_rows}
use Rattle.sq_rows.specs.ShortList.{short_items}
use Rattle.sq_schema.proofs.Marked.{AreMarked-push}
use Rattle.sq_schema.proofs.PendingWrites.{is_sound_from, count_fits, size_fits, size_after, IsPending-written}
use Rattle.sq_schema.proofs.pending.PendingRows.write.Goals as goal
use Rattle.sq_schema.proofs.pending.PendingRows.write.Goals.{After-weight-new_count}

-- how many rows the write puts, and their size
new_count : (c : After-weight-new_count) → c.weight-new_count.result.0 ≡ count_of_row c.args.row
new_count c = c.weight-new_count.ensures.count ∙ ap count_of_row c.as_ref.ensures.value

new_size : (c : After-weight-new_count) → c.weight-new_count.result.1 ≡ size_of_row c.args.row
new_size c = c.weight-new_count.ensures.size ∙ ap size_of_row c.as_ref.ensures.value

pub overflow_add-self : goal.overflow_add-self
overflow_add-self c =
    let pending : PendingValue = record { base = c.self.inside.rows.now; writes = short_items c.self.inside.writes } in
    let new = new_count (goal.at.overflow_add-self c).After-weight-new_count in
    omega (arith, count_fits pending c.self.inside.count c.self.inside.size c.self.invariant.0 c.args.key c.args.row)

pub overflow_add-self-2 : goal.overflow_add-self-2
overflow_add-self-2 c =
    let pending : PendingValue = record { base = c.self.inside.rows.now; writes = short_items c.self.inside.writes } in
    let new = new_size (goal.at.overflow_add-self-2 c).After-weight-new_count in
    omega (arith, size_fits pending c.self.inside.count c.self.inside.size c.self.invariant.0 c.args.key c.args.row c.requires.short)

pub overflow_sub-self-2 : goal.overflow_sub-self-2
overflow_sub-self-2 c =
    let pending : PendingValue = record { base = c.self.inside.rows.now; writes = short_items c.self.inside.writes } in
    let new = new_size (goal.at.overflow_sub-self-2 c).After-weight-new_count in
    let old = c.requires.size ∙ ap (λ (d : PendingValue). size_of_row (row_at (pending_rows d) c.args.key)) (sym c.self.view_is) in
    omega (arith, size_after pending c.self.inside.count c.self.inside.size c.self.invariant.0 c.args.key c.args.row)

pub invariant_of-self-2 : goal.invariant_of-self-2
invariant_of-self-2 c =
    let pending : PendingValue = record { base = c.self.inside.rows.now; writes = short_items c.self.inside.writes } in
    let at = (goal.at.invariant_of-self-2 c).After-weight-new_count in
    let old_count = c.requires.count ∙ ap (λ (d : PendingValue). count_of_row (row_at (pending_rows d) c.args.key)) (sym c.self.view_is) in
    let old_size = c.requires.size ∙ ap (λ (d : PendingValue). size_of_row (row_at (pending_rows d) c.args.key)) (sym c.self.view_is) in
    let table : c.args.key.table < 2 ^ 8 = omega arith in
    let sub : c.args.key.sub < 2 ^ 32 = omega arith in
    let sound = is_sound_from c.args.key c.args.row table sub c.requires.short in
    rw (c.in_ok-push.ensures.ok, new_count at, new_size at, old_count, old_size) (
      IsPending-written pending c.self.inside.count c.self.inside.size c.self.invariant.0 c.args.key c.args.row sound,
      AreMarked-push c.self.inside.written.marks c.add.new.self.marks c.args.key c.args.row (short_items c.self.inside.writes) c.self.invariant.1 c.add.ensures.kept c.add.ensures.added,
    )
