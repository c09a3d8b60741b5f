use Rattle.std.proofs.Common.{◌≡◌, ℕ, slice_get, Some, true, false, List, IsPermutation, sym, ap, ◌∙◌, subst}
use Rattle.std.specs.List.{flat_map}
use Rattle.std.specs.Bool.{Decides}
use Rattle.sq_gather.specs.Prelude.{GatheredLink, GatheredValue}
use Rattle.sq_audit.specs.declared.spans.Span.{Span}
use Rattle.sq_audit.specs.Located.{entry_of, entries_in}
use Rattle.sq_audit.specs.Spans.{marked_in, notes_of, AreByKey, IsPlacedBy}
use Rattle.sq_audit.proofs.Listing.{mapped_at, mapped_past}
use Rattle.sq_audit.proofs.Each.{each_more, each_done, each_fails, refuted, shown}
use Rattle.sq_audit.proofs.Placing.{are_by_key, placed_are}
use Rattle.sq_audit.proofs.placed.are_placed.Goals as goal
use Rattle.sq_audit.proofs.placed.are_placed.Goals.{In_ok-spans, After-is_placed}

-- the notes by the lowest key that each covers are those of the links
shuffled : (c : In_ok-spans) → IsPermutation (flat_map notes_of c.args.g.now.links) (marked_in c.in_ok-spans.spans.items)
shuffled c =
    let links = c.deref.ensures.value ∙ ap (λ (g : GatheredValue). g.links) c.g.view_is in
    subst (λ (ls : List GatheredLink). IsPermutation (flat_map notes_of ls) (marked_in c.in_ok-spans.spans.items)) links c.in_ok-spans.ensures.all

-- the family that is looked at
entry_there : (c : After-is_placed) → slice_get (entries_in c.args.all.now) c.loop-located.located-index ≡ Some (entry_of c.located-item.result)
entry_there c = mapped_at entry_of c.args.all.now c.loop-located.located-index c.located-item.result c.located-item.is c.loop-located-test.true

-- whether it is where the note over its root key says
stands : (c : After-is_placed) → Decides c.is_placed.result (IsPlacedBy c.args.opening.now c.args.g.now.stage (marked_in c.in_ok-spans.spans.items) (entry_of c.located-item.result))
stands c =
    let entry = entry_of c.located-item.result in
    subst (λ (i : ℕ). Decides c.is_placed.result (IsPlacedBy c.args.opening.now i (marked_in c.in_ok-spans.spans.items) entry)) (ap (λ (g : GatheredValue). g.stage) c.g.view_is)
    (subst (λ (spans : List Span). Decides c.is_placed.result (IsPlacedBy c.args.opening.now c.g.inside.stage (marked_in spans) entry)) c.deref-in-loop-located.ensures.value c.is_placed.ensures)

pub is_placed-requires : goal.is_placed-requires
is_placed-requires c =
    subst (λ (spans : List Span). AreByKey (marked_in spans)) (sym c.deref-in-loop-located.ensures.value)
    (are_by_key c.args.opening.now c.args.g.now c.requires.parts c.requires.links c.requires.apart (marked_in c.in_ok-spans.spans.items) (shuffled (goal.at.is_placed-requires c).In_ok-spans) c.in_ok-spans.ensures.sorted)

pub returns-then-not-is_placed : goal.returns-then-not-is_placed
returns-then-not-is_placed c =
    let notes = marked_in c.in_ok-spans.spans.items in
    let entries = entries_in c.args.all.now in
    let at = goal.at.returns-then-not-is_placed c in
    placed_are c.args.opening.now c.args.g.now c.requires.parts c.requires.links c.requires.apart notes (shuffled at.In_ok-spans) entries c.requires.listed false
    (each_fails (IsPlacedBy c.args.opening.now c.args.g.now.stage notes) entries c.loop-located.located-index (entry_of c.located-item.result) (entry_there at.After-is_placed)
    (refuted c.is_placed.result (stands at.After-is_placed) c.if-not-is_placed.true))

pub loop-located-preserved : goal.loop-located-preserved
loop-located-preserved c =
    let notes = marked_in c.in_ok-spans.spans.items in
    let at = (goal.at.loop-located-preserved c).After-is_placed in
    each_more (IsPlacedBy c.args.opening.now c.args.g.now.stage notes) (entries_in c.args.all.now) c.loop-located.located-index (entry_of c.located-item.result) c.loop-located.invariant
    (entry_there at) (shown c.is_placed.result (stands at) c.if-not-is_placed.false)

pub returns : goal.returns
returns c =
    let notes = marked_in c.in_ok-spans.spans.items in
    let all = c.args.all.now in
    placed_are c.args.opening.now c.args.g.now c.requires.parts c.requires.links c.requires.apart notes (shuffled (goal.at.returns c).In_ok-spans) (entries_in all) c.requires.listed true
    (each_done (IsPlacedBy c.args.opening.now c.args.g.now.stage notes) (entries_in all) c.loop-located.located-index c.loop-located.invariant
    (mapped_past entry_of all c.loop-located.located-index c.loop-located-test.false))
