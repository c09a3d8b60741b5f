use Rattle.std.proofs.Common.{ap, ◌∙◌}
use Rattle.sq_store.specs.StoreValue.{roots_differ}
use Rattle.sq_store.proofs.Rising.{differ-within}
use Rattle.sq_exec.proofs.part_core.moving.give.Goals as goal

pub give-requires-clause-differ : goal.give-requires-clause-differ
give-requires-clause-differ g c =
    let chunk = c.in-Some.chunk in ap roots_differ c.into_parts-note.ensures.families ∙ differ-within chunk.note.lo chunk.note.hi chunk.families c.into_parts-note.ensures.within
