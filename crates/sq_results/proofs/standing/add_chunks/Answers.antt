use Rattle.std.proofs.Common.{List, ◌++◌, ap, ◌∙◌}
use Rattle.std.proofs.lemmas.List.{take_all}
use Rattle.sq_store.specs.ChunkValue.{ChunkValue}
use Rattle.sq_results.specs.RowLines.{lent_values}
use Rattle.sq_results.specs.Standing.{carried}
use Rattle.sq_results.proofs.Lent.{more_lent}
use Rattle.sq_results.proofs.standing.add_chunks.Goals as goal

pub loop-chunk-preserved : goal.loop-chunk-preserved
loop-chunk-preserved c =
    more_lent (λ (chunk : ChunkValue). chunk.families) c.args.chunks.now c.loop-chunk.chunk-index c.chunk-item.result _ _ _ c.loop-chunk-test.true c.chunk-item.is
    c.loop-chunk.invariant c.in_ok-add_chunk.ensures

pub returns : goal.returns
returns c =
    c.loop-chunk.invariant
    ∙ ap (λ (chunks : List ChunkValue). lent_values c.args.families.now.items ++ carried chunks) (take_all c.loop-chunk.chunk-index c.args.chunks.now c.loop-chunk-test.false)
