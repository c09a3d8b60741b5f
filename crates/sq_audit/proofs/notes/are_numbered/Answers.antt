use Rattle.sq_audit.proofs.Each.{decides_not}
use Rattle.sq_audit.proofs.Listing.{item_at}
use Rattle.sq_audit.proofs.Tiling.{number_at}
use Rattle.sq_audit.proofs.notes.are_numbered.Goals as goal

pub returns-then-note-at : goal.returns-then-note-at
returns-then-note-at c =
    let notes = c.args.notes.now in
    let at = c.loop-at.at in
    let note = c.index-notes-at.result in
    decides_not (λ numbered. c.if-note-at.true (number_at notes at note (item_at notes at note c.index-notes-at.is c.loop-at-test.true) numbered))
