use Rattle.std.proofs.Common.{rules, ◌≡◌, ◌+◌, true, slice_get, Some, refl, sym, ◌∙◌}
use Rattle.sq_gather.specs.Prelude.{ChunkValue, are_within}
use Rattle.sq_audit.proofs.Listing.{item_at}
use Rattle.sq_audit.proofs.Each.{decides_not, each_more, each_done}
use Rattle.sq_audit.proofs.Ways.{of_last, last_more, not_of_last}
use Rattle.sq_audit.proofs.notes.are_of_last.Goals as goal
use Rattle.sq_audit.proofs.notes.are_of_last.Goals.{After-ne}

-- the chunk that is looked at, and the note of its place
chunk_there : (c : After-ne) → slice_get c.args.chunks.now c.loop-at.at ≡ Some c.index-chunks-at.result
chunk_there c = item_at c.args.chunks.now c.loop-at.at c.index-chunks-at.result c.index-chunks-at.is c.loop-at-test.true

note_there : (c : After-ne) → slice_get c.args.notes.now (c.in-Some.loaded + c.loop-at.at) ≡ Some c.index-notes-loaded.result
note_there c = item_at c.args.notes.now (c.in-Some.loaded + c.loop-at.at) c.index-notes-loaded.result c.index-notes-loaded.is (search rules)

pub returns-then-ne-clause-last : goal.returns-then-ne-clause-last
returns-then-ne-clause-last c =
    let differ : c.note.result ≡ c.index-notes-loaded.result → ⊥ = search rules in
    let at = (goal.at.returns-then-ne-clause-last c).After-ne in
    decides_not (λ last.
    not_of_last c.args.chunks.now c.args.notes.now c.in-Some.loaded c.loop-at.at c.index-chunks-at.result c.index-notes-loaded.result c.in-Some.ensures.1 (chunk_there at) (note_there at)
    (λ same. differ (c.note.ensures ∙ same)) last)

pub loop-at-preserved : goal.loop-at-preserved
loop-at-preserved c =
    let same : c.note.result ≡ c.index-notes-loaded.result = search rules in
    let at = (goal.at.loop-at-preserved c).After-ne in
    record {
      last = last_more c.args.chunks.now c.args.notes.now c.in-Some.loaded c.loop-at.at c.index-chunks-at.result c.index-notes-loaded.result (chunk_there at) (note_there at) (sym c.note.ensures ∙ same) c.loop-at.invariant.last;
      within = each_more (λ (k : ChunkValue). are_within k.note.lo k.note.hi k.families ≡ true) c.args.chunks.now c.loop-at.at c.index-chunks-at.result c.loop-at.invariant.within (chunk_there at) c.families.ensures.within;
    }

pub returns : goal.returns
returns c =
    let chunks = c.args.chunks.now in
    let at = c.loop-at.at in
    record {
      last = ((λ e. of_last chunks c.args.notes.now c.in-Some.loaded at c.in-Some.ensures.0 c.in-Some.ensures.1 c.loop-at-test.false c.loop-at.invariant.last), (λ is. refl));
      within = (each_done (λ (k : ChunkValue). are_within k.note.lo k.note.hi k.families ≡ true) chunks at c.loop-at.invariant.within c.loop-at-test.false).0;
    }
