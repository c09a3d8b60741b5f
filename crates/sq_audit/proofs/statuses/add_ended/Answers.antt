use Rattle.std.proofs.Common.{ℕ, ◌∙◌, ap, subst, true}
use Rattle.std.specs.BTreeSet.{BTreeSet, contains, Updates}
use Rattle.sq_audit.specs.Counts.{key_order}
use Rattle.sq_audit.proofs.Listing.{item_at}
use Rattle.sq_audit.proofs.Counting.{pair_is}
use Rattle.sq_audit.proofs.Ending.{not_ended, ended_next}
use Rattle.sq_audit.proofs.statuses.add_ended.Goals as goal
use Rattle.sq_audit.proofs.statuses.add_ended.Goals.{then-note+in_ok-insert, else-note}

pub loop-note-preserved : goal.loop-note-preserved
loop-note-preserved c =
    let notes = c.args.notes.now in
    let i = c.loop-note.note-index in
    let note = c.note-item.result in
    let at = item_at notes i note c.note-item.is c.loop-note-test.true in
    elim c.if-note.branch [
      | then-note+in_ok-insert w ↦
          let updates = subst (λ (key : ℕ × ℕ). Updates key_order c.loop-note.ended w.insert.new.self key true) (pair_is w.number.ensures.number w.number-then-note.ensures.number) w.in_ok-insert.ensures.updates in
          λ seg node. ap (λ (set : BTreeSet (ℕ × ℕ)). contains key_order set (seg, node)) w.ended-is
          ∙ ended_next notes i note at seg node (contains key_order c.args.ended.now (seg, node)) c.loop-note.ended (c.loop-note.invariant seg node) w.insert.new.self w.if-note.true updates
      | else-note w ↦
          λ seg node. ap (λ (set : BTreeSet (ℕ × ℕ)). contains key_order set (seg, node)) w.ended-is
          ∙ not_ended notes i note at seg node (contains key_order c.args.ended.now (seg, node)) c.loop-note.ended (c.loop-note.invariant seg node) w.if-note.false
    ]
