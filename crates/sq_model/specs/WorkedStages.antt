-- A worked example of a move in two stages: the answers to its steps, and where two root keys are
-- at its end.
use Rattle.std.specs.Prelude.{ℕ, pos, true, List, [], ◌∷◌, ◌++◌}
use Rattle.sq_schema.specs.declared.root.TheConstants.{ROOT_END}
use Rattle.sq_store.specs.declared.chunk.Note.{Note}
use Rattle.sq_plan.specs.declared.version.Stages.TheVariants.{Auto}
use Rattle.sq_plan.specs.declared.version.Version.TheVariants.{First, Second}
use Rattle.sq_moves.specs.declared.recon.Range.{Range}
use Rattle.sq_moves.specs.OpeningValue.{OpeningValue}
use Rattle.sq_model.specs.declared.step.Step.{Step}
use Rattle.sq_model.specs.declared.step.Step.TheVariants.{Prepare, Start, Submit, Resume, Claim, Begin, Cut, Complete, Report, Next, Finish}
use Rattle.sq_model.specs.declared.answer.Answer.{Answer}
use Rattle.sq_model.specs.declared.answer.Answer.TheVariants.{Done, Moved, Waits, Resumed, Refused}
use Rattle.sq_model.specs.declared.answer.Refusal.TheVariants.{NoSuchSegment, NoSuchLink, NotFinished, LastStage}
use Rattle.sq_model.specs.Worked.{row, get_row, found, got, carried_to, carried_answers}
use Rattle.sq_moves.specs.declared.opening.TheConstants.{LOG_LIMIT}

-- partition 0 sends the keys 4 to 7 and 12 to 15 to partition 1 in the first stage, and the keys 8
-- to 11 to partition 2 in the second
abbrev pub two_stages : OpeningValue
two_stages =
    let moving : List Range = record { lo = 4; hi = 8; src = 0; dst = 1 } ∷ record { lo = 8; hi = 12; src = 0; dst = 2 }
    ∷ record { lo = 12; hi = 16; src = 0; dst = 1 } ∷ [] in
    record {
      tables = 8;
      old = record { version = First; parts = 3; ranges = record { lo = 0; hi = ROOT_END; owner = 0 } ∷ [] };
      new = record {
        version = Second Auto;
        parts = 3;
        ranges = record { lo = 0; hi = 4; owner = 0 } ∷ record { lo = 4; hi = 8; owner = 1 }
            ∷ record { lo = 8; hi = 12; owner = 2 } ∷ record { lo = 12; hi = 16; owner = 1 }
            ∷ record { lo = 16; hi = ROOT_END; owner = 0 } ∷ [];
      };
      recon = record { width = 1; ranges = moving; segments = moving; auto = true };
      config = record { width = 1; limit = 64; capacity = 1; log_limit = LOG_LIMIT };
      table = (5, row (pos 10)) ∷ (9, row (pos 20)) ∷ [];
    }

abbrev pub one_node : ℕ → ℕ → ℕ → ℕ → ℕ → Note
one_node dst number seg lo hi = record { src = 0; dst = dst; number = number; seg = seg; node = 1; lo = lo; hi = hi; last = true }

abbrev pub first_stage_steps : List Step
first_stage_steps =
    Prepare 0 ∷ Prepare 1 ∷ Prepare 2 ∷ Start ∷ Claim 0 1 2 ∷ Claim 1 1 4 ∷ Cut 0 2 ∷ Next ∷ Finish ∷ Begin 0 1 2
    ∷ carried_to 1 ++ Complete 0 1 2
    ∷ Claim 2 1 4 ∷ Begin 2 1 4 ∷ carried_to 1 ++ Complete 2 1 4 ∷ Report 1 ∷ Submit 2 (get_row 7 9) ∷ Next ∷ []

abbrev pub second_stage_steps : List Step
second_stage_steps =
    Submit 2 (get_row 8 9) ∷ Claim 0 1 6 ∷ Submit 1 (get_row 6 5) ∷ Claim 1 1 6 ∷ Begin 1 1 6 ∷ carried_to 2 ++ Complete 1 1 6
    ∷ Report 2 ∷ Next ∷ Finish ∷ Resume 2 ∷ []

abbrev pub in_stages : List Step
in_stages = first_stage_steps ++ second_stage_steps

abbrev pub in_stages_answers : List Answer
in_stages_answers =
    Done ∷ Done ∷ Done ∷ Done ∷ Done ∷ Refused NoSuchSegment ∷ Refused NoSuchLink ∷ Refused NotFinished ∷ Refused NotFinished
    ∷ Done ∷ carried_answers (one_node 1 0 0 4 8) 1 ++ Done
    ∷ Done ∷ Done ∷ carried_answers (one_node 1 1 2 12 16) 0 ++ Done ∷ Done ∷ Moved 7 0 ∷ Done
    ∷ Waits 8 1 1 ∷ Refused NoSuchSegment ∷ got 6 (pos 10) ∷ Done ∷ Done ∷ carried_answers (one_node 2 0 1 8 12) 1 ++ Done ∷ Done
    ∷ Refused LastStage ∷ Done ∷ Resumed (get_row 8 9) (found (pos 20)) ∷ []
