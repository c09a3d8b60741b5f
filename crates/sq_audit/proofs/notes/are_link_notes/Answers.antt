use Rattle.std.proofs.Common.{◌≡◌, ◌≤◌, List, length, ap, ◌∙◌, subst}
use Rattle.sq_gather.specs.Prelude.{Note, GatheredLink, IsLinkNote}
use Rattle.sq_audit.proofs.Listing.{item_of}
use Rattle.sq_audit.proofs.Each.{each_more, each_done, shown}
use Rattle.sq_audit.proofs.notes.are_link_notes.Goals as goal

pub loop-note-preserved : goal.loop-note-preserved
loop-note-preserved c =
    let i = c.loop-note.note-index in
    let here = c.deref-note-items.ensures.value ∙ ap (λ (l : GatheredLink). l.notes) c.link.view_is in
    let at = item_of c.deref-note-items.result.now c.args.link.now.notes i c.note-item.result here c.note-item.is c.loop-note-test.true in
    each_more (IsLinkNote c.args.opening.now c.args.g.now c.args.link.now) c.args.link.now.notes i c.note-item.result c.loop-note.invariant at
    (shown c.is_link_note.result c.is_link_note.ensures c.if-not-is_link_note.false)

pub returns : goal.returns
returns c =
    let i = c.loop-note.note-index in
    let here : c.deref-note-items.result.now ≡ c.args.link.now.notes = c.deref-note-items.ensures.value ∙ ap (λ (l : GatheredLink). l.notes) c.link.view_is in
    let whole : length c.args.link.now.notes ≤ i = subst (λ (ns : List Note). length ns ≤ i) here c.loop-note-test.false in
    each_done (IsLinkNote c.args.opening.now c.args.g.now c.args.link.now) c.args.link.now.notes i c.loop-note.invariant whole
