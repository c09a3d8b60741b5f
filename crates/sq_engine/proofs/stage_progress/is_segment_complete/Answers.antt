use Rattle.std.proofs.Common.{rules, ◌≡◌, List, [], ap, ◌∙◌, subst, arith}
use Rattle.std.specs.Prelude.{slice_index_or}
use Rattle.sq_moves.specs.declared.status.Status.{Status}
use Rattle.sq_moves.specs.Status.{reading_within}
use Rattle.sq_moves.specs.Reading.{is_complete_reading}
use Rattle.sq_moves.specs.Tree.{status_at, IsGrown}
use Rattle.sq_engine.proofs.stage_progress.is_segment_complete.Goals as goal

pub reads_complete-requires : goal.reads_complete-requires
reads_complete-requires c =
    let there : slice_index_or c.args.g.now.statuses c.args.place [] ≡ c.in-Some.statuses.now = search rules in
    subst (λ (sts : List Status). IsGrown (status_at sts)) there (c.requires c.args.place)

pub returns-in-Some : goal.returns-in-Some
returns-in-Some c =
    let there : c.in-Some.statuses.now ≡ slice_index_or c.args.g.now.statuses c.args.place [] = search rules in
    c.reads_complete.ensures 5 (omega arith) ∙ ap (λ (sts : List Status). is_complete_reading (reading_within 5 (status_at sts) 1)) there
