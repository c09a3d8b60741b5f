use Rattle.std.proofs.Common.{◌≡◌, true}
use Rattle.std.proofs.lemmas.List.Elements.{All-nil}
use Rattle.sq_rows.specs.Writes.{is_write}
use Rattle.sq_schema.specs.WrittenKeys.{has_its_mark}
use Rattle.sq_schema.proofs.pending.PendingRows.new.Goals as goal

pub invariant_of-result : goal.invariant_of-result
invariant_of-result c =
    rw c.new.ensures (
      record { rows = c.len.ensures.sound; writes = All-nil (λ write. is_write write ≡ true); count = c.len.ensures.count; size = c.size.ensures },
      All-nil (λ write. has_its_mark c.new-2.result.marks write.0 ≡ true),
    )
