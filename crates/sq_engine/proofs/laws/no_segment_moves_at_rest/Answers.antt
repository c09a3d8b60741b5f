use Rattle.std.proofs.Common.{◌==◌, ◌∙◌, ap, List}
use Rattle.std.specs.Prelude.{count_by}
use Rattle.sq_moves.specs.declared.recon.Range.{Range}
use Rattle.sq_moves.specs.ReconValue.{segments_of, stage_in}
use Rattle.sq_engine.proofs.laws.no_segment_moves_at_rest.Goals as goal

pub returns : goal.returns
returns c = λ o run is none.
    let recon = o.recon in
    ap (λ (segments : List Range). count_by (λ (segment : Range). stage_in recon segment == run.fabric.stage) segments)
    (is.segments ∙ ap (segments_of recon.width) none)
