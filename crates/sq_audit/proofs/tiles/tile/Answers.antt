use Rattle.std.proofs.Common.{◌≡◌, ℕ, slice_get, Option, Some, ap, ◌∙◌, subst, subst₂}
use Rattle.std.specs.Bool.{Decides}
use Rattle.std.specs.BTreeMap.{get, Updates}
use Rattle.sq_gather.specs.Prelude.{Note, Extent, ReconValue, extent_of, extent_in}
use Rattle.sq_audit.specs.Counts.{key_order}
use Rattle.sq_audit.specs.Notes.{FollowsNewest}
use Rattle.sq_audit.proofs.Counting.{pair_is}
use Rattle.sq_audit.proofs.Listing.{item_at}
use Rattle.sq_audit.proofs.Each.{decides_not, refuted, shown}
use Rattle.sq_audit.proofs.Tiling.{walked_next, walked_follows}
use Rattle.sq_audit.proofs.tiles.tile.Goals as goal
use Rattle.sq_audit.proofs.tiles.tile.Goals.{After-continues}

-- the note that is looked at
note_there : (c : After-continues) → slice_get c.args.notes.now c.loop-note.note-index ≡ Some c.note-item.result
note_there c = item_at c.args.notes.now c.loop-note.note-index c.note-item.result c.note-item.is c.loop-note-test.true

-- whether it continues where the newest one of its node ends
goes_on : (c : After-continues) → let note = c.note-item.result in Decides c.continues.result (FollowsNewest (extent_of c.args.opening.now note.seg note.node) (get key_order c.loop-note.newest (note.seg, note.node)) note)
goes_on c =
    let note = c.note-item.result in
    let node = pair_is c.number.ensures.number c.number-in-loop-note.ensures.number in
    let extent : c.extent_of-extent.result ≡ extent_of c.args.opening.now note.seg note.node = c.extent_of-extent.ensures ∙ ap (λ (r : ReconValue). extent_in r.width (slice_get r.segments note.seg) note.node) c.recon.ensures.recon in
    let newest : c.copied.result ≡ get key_order c.loop-note.newest (note.seg, note.node) = c.copied.ensures ∙ c.get.ensures.value ∙ ap (get key_order c.loop-note.newest) node in
    subst₂ (λ (k : Extent) (n : Option Note). Decides c.continues.result (FollowsNewest k n note)) extent newest c.continues.ensures

pub returns-then-not-continues : goal.returns-then-not-continues
returns-then-not-continues c =
    let at = (goal.at.returns-then-not-continues c).After-continues in
    decides_not (λ tiles.
    refuted c.continues.result (goes_on at) c.if-not-continues.true
    (walked_follows c.args.opening.now c.args.notes.now c.loop-note.note-index c.note-item.result (note_there at) c.loop-note.newest c.loop-note.invariant tiles))

pub loop-note-preserved : goal.loop-note-preserved
loop-note-preserved c =
    let at = (goal.at.loop-note-preserved c).After-continues in
    let node = pair_is c.number.ensures.number c.number-in-loop-note.ensures.number in
    let updates = subst (λ (q : ℕ × ℕ). Updates key_order c.loop-note.newest c.insert.new.self q (Some c.note-item.result)) node c.in_ok-insert.ensures.updates in
    walked_next c.args.opening.now c.args.notes.now c.loop-note.note-index c.note-item.result (note_there at) c.loop-note.newest c.loop-note.invariant c.insert.new.self
    (shown c.continues.result (goes_on at) c.if-not-continues.false) updates
