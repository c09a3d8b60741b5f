use Rattle.std.proofs.Common.{◌≡◌, ℕ, ◌<◌, Option, Some, None, refl}
use Rattle.sq_schema.specs.declared.root.TheConstants.{ROOT_END}
use Rattle.sq_plan.specs.PlanValue.{PlanValue}
use Rattle.sq_moves.specs.ReconValue.{ReconValue, segment_of}
use Rattle.sq_moves.specs.Between.{IsReconOf}
use Rattle.sq_moves.specs.Laws.{IsSegmentOf}
use Rattle.sq_moves.proofs.Segments.{found_owners, unfound_owner, segment_run, one_segment}
use Rattle.sq_moves.proofs.laws.each_key_that_moves_has_one_segment.Goals as goal

told : (old new : PlanValue) (width : ℕ) (recon : ReconValue) (key : ℕ) → IsReconOf old new width recon → key < ROOT_END → (found : Option ℕ) → segment_of recon.segments key ≡ found → IsSegmentOf old new recon.segments key found
told old new width recon key is within None e = unfound_owner recon is.whole old new is.moves key within e
told old new width recon key is within (Some i) e =
    let found = found_owners recon is.whole old new is.moves key i e in (
      found.0,
      record {
        holder = record { at = found.1; held = found.2 };
        src = found.3;
        dst = found.4;
        moves = (segment_run recon is.whole old new is.moves i found.0 found.1).moves;
        only = λ j other holder. one_segment recon is.whole key j i other found.0 holder.at found.1 holder.held found.2;
      },
    )

pub returns : goal.returns
returns c = λ old new width recon key is within. told old new width recon key is within (segment_of recon.segments key) refl
