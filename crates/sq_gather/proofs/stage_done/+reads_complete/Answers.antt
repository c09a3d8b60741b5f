use Rattle.std.proofs.Common.{inl, inr, refl, ap, ◌∙◌}
use Rattle.sq_moves.specs.declared.status.Status.TheVariants.{Free, Split, Claimed, Partial}
use Rattle.sq_moves.specs.Status.{is_split}
use Rattle.sq_moves.specs.Tree.{status_at}
use Rattle.sq_moves.proofs.Covering.{inner}
use Rattle.sq_gather.proofs.NodeReads.{reads_unsplit, reads_both, reads_no_low, stands_at}
use Rattle.sq_gather.proofs.stage_done.+reads_complete.Goals as goal

pub returns-then-reads_complete : goal.returns-then-reads_complete
returns-then-reads_complete t c =
    let status = status_at c.args.statuses.now in
    let split = stands_at c.args.statuses.now c.args.node c.index.result Split c.index.ensures.place c.in-Split.is in
    reads_both status c.args.node split (inner status c.requires c.args.node (ap is_split split)) c.reads_complete-then-reads_complete.result
    (rw c.low_half.ensures.half at c.if-reads_complete.ensures)
    (rw c.high_half.ensures.half at c.reads_complete-then-reads_complete.ensures)

pub returns-else-reads_complete : goal.returns-else-reads_complete
returns-else-reads_complete t c =
    let status = status_at c.args.statuses.now in
    let split = stands_at c.args.statuses.now c.args.node c.index.result Split c.index.ensures.place c.in-Split.is in
    λ depth deep.
    c.if-reads_complete.false ∙ reads_no_low status c.args.node split (inner status c.requires c.args.node (ap is_split split)) (rw c.low_half.ensures.half at c.if-reads_complete.ensures) depth deep

pub returns-in-Free : goal.returns-in-Free
returns-in-Free t c = λ depth deep.
    let status = status_at c.args.statuses.now in
    elim c.in-Free.is [
      | inl free ↦ reads_unsplit status c.args.node Free (stands_at c.args.statuses.now c.args.node c.index.result Free c.index.ensures.place free) refl depth
      | inr other ↦
          elim other [
            | inl claimed ↦ reads_unsplit status c.args.node (Claimed claimed.0) (stands_at c.args.statuses.now c.args.node c.index.result (Claimed claimed.0) c.index.ensures.place claimed.1) refl depth
            | inr part ↦ reads_unsplit status c.args.node (Partial part.0) (stands_at c.args.statuses.now c.args.node c.index.result (Partial part.0) c.index.ensures.place part.1) refl depth
          ]
    ]
