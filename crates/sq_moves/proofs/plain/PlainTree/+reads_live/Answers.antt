use Rattle.std.proofs.Common.{inl, inr, refl, ◌∙◌, sym, ap}
use Rattle.sq_moves.specs.declared.status.Status.TheVariants.{Free, Claimed, Partial, Complete}
use Rattle.sq_moves.specs.Status.{is_split}
use Rattle.sq_moves.specs.Tree.{status_at}
use Rattle.sq_moves.proofs.Covering.{inner}
use Rattle.sq_moves.proofs.Readings.{reads_split, reads_whole}
use Rattle.sq_moves.proofs.plain.PlainTree.+reads_live.Goals as goal

pub returns-in-Split-clause-reading : goal.returns-in-Split-clause-reading
returns-in-Split-clause-reading t c = λ depth deep.
    let status = status_at c.args.self.now in
    let looked = c.in-Split.ensures in
    let not_leaf = inner status looked.grown c.args.node (sym (ap is_split looked.status)) in
    c.with.ensures
    ∙ reads_split status c.args.node c.reads_live.result c.reads_live-in-Split.result looked.status not_leaf (rw c.low_half.ensures.half at c.reads_live.ensures.reading) (rw c.high_half.ensures.half at c.reads_live-in-Split.ensures.reading) depth deep

pub returns-in-Free-clause-reading : goal.returns-in-Free-clause-reading
returns-in-Free-clause-reading t c = λ depth deep.
    let status = status_at c.args.self.now in
    let looked = c.status.ensures.status in
    elim c.in-Free.is [
      | inl free ↦ reads_whole status c.args.node Free (sym free ∙ looked) refl depth
      | inr claimed ↦ reads_whole status c.args.node (Claimed claimed.0) (sym claimed.1 ∙ looked) refl depth
    ]

pub returns-in-Partial-clause-reading : goal.returns-in-Partial-clause-reading
returns-in-Partial-clause-reading t c = λ depth deep.
    reads_whole (status_at c.args.self.now) c.args.node (Partial c.in-Partial.field-0) c.in-Partial.ensures.status refl depth

pub returns-in-Complete-clause-reading : goal.returns-in-Complete-clause-reading
returns-in-Complete-clause-reading t c = λ depth deep.
    reads_whole (status_at c.args.self.now) c.args.node (Complete c.in-Complete.field-0) c.in-Complete.ensures.status refl depth
