use Rattle.std.proofs.Common.{◌≤◌, ◌++◌, List, length, ap, ◌∙◌, arith}
use Rattle.std.proofs.lemmas.List.{take_all}
use Rattle.sq_gather.specs.Prelude.{FamilyValue}
use Rattle.sq_audit.specs.Located.{spot_of, entries_in}
use Rattle.sq_audit.proofs.Listing.{of_spot, carried_all}
use Rattle.sq_audit.proofs.located.add_carried.Goals as goal

pub returns : goal.returns
returns c =
    let items = c.families-family-items.result.now in
    let here = c.families-family-items.ensures.families in
    let test = c.loop-family-test.false in
    let whole : length items ≤ c.loop-family.family-index = omega arith in
    let before = entries_in c.args.all.now.items in
    record {
      families = c.args.chunk.now.families;
      all = carried_all c.args.chunk.now.note.lo c.args.chunk.now.note.hi c.args.chunk.now.families c.families-family-items.ensures.within c.families-family-items.ensures.keyed;
      added = c.loop-family.invariant ∙ ap (λ (fs : List FamilyValue). before ++ of_spot (spot_of c.args.site) fs) (take_all c.loop-family.family-index items whole ∙ here);
    }
