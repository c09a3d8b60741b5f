use Rattle.std.proofs.Common.{◌≡◌, add-one, length, sym, ap, ◌∙◌, arith, rules}
use Rattle.std.specs.Vec.Iter.{into_iter_items}
use Rattle.std.proofs.lemmas.List.{nil_from_length}
use Rattle.sq_rows.specs.EntryList.{entries_of}
use Rattle.sq_rows.specs.Writes.{with_writes}
use Rattle.sq_rows.proofs.Kept.{is_sorted-with_write}
use Rattle.sq_rows.proofs.Room.{HasRoom-fewer}
use Rattle.sq_rows.proofs.entry_list.EntryList.write_listed.Goals as goal

pub loop-key-init : goal.loop-key-init
loop-key-init c =
    let kept = c.in_ok-reserve.ensures in
    let all : into_iter_items c.into_iter-key-iterator.result ≡ c.args.writes.items = search rules in
    let count : c.len.result ≡ length c.args.writes.items = search rules in (
      tt,
      tt,
      rw all (ap (λ rows. with_writes rows c.args.writes.items) kept.rows),
      rw kept.rows c.requires.rising,
      rw (all, ← count) kept.room,
    )

-- this write is the first of those that were left
pub loop-key-preserved : goal.loop-key-preserved
loop-key-preserved c =
    let key = c.in-Some.key in
    let row = c.in-Some.row in
    let first = c.in-Some.ensures.steps.0 in
    let inv = c.loop-key.invariant in (
      tt,
      tt,
      rw c.write.ensures.rows (rw first at inv.2),
      rw c.write.ensures.rows (is_sorted-with_write (entries_of c.loop-key.self) key row inv.3),
      c.write.ensures.room (length (into_iter_items c.next.new.self)) (rw add-one (rw first at inv.4)),
    )

pub write-requires-clause-rising : goal.write-requires-clause-rising
write-requires-clause-rising c = c.loop-key.invariant.3

pub write-requires-clause-room : goal.write-requires-clause-room
write-requires-clause-room c =
    let first = c.in-Some.ensures.steps.0 in
    HasRoom-fewer c.loop-key.self 1 (length (into_iter_items c.loop-key.key-iterator)) (omega (arith, ap length first)) c.loop-key.invariant.4

pub returns-clause-ok : goal.returns-clause-ok
returns-clause-ok c =
    let left = c.loop-key.key-iterator in
    let none : length (into_iter_items left) ≡ 0 = omega (arith, c.in-None.ensures.steps.0, left.rest.ok) in
    ap (λ rest. with_writes (entries_of c.loop-key.self) rest) (sym (nil_from_length (into_iter_items left) none)) ∙ c.loop-key.invariant.2
