-- The history of a run, and why a world doesn't open.
use Rattle.std.specs.Prelude.{◌≡◌, ℕ, List, reverse, None}
use Rattle.std.specs.List.{zip}
use Rattle.sq_plan.specs.PlanValue.{PlanValue}
use Rattle.sq_moves.specs.declared.opening.Config.{Config}
use Rattle.sq_moves.specs.declared.opening.GivenRow.{GivenRow}
use Rattle.sq_moves.specs.Given.{IsOpeningOf}
use Rattle.sq_moves.specs.Refused.{early_fault, opening_fault, MayRefuse}
use Rattle.sq_model.specs.declared.step.Step.{Step}
use Rattle.sq_model.specs.declared.answer.Answer.{Answer}
use Rattle.sq_model.specs.Trace.{Trace}
use Rattle.sq_world.specs.declared.world.NotOpened.{NotOpened}
use Rattle.sq_world.specs.declared.world.NotOpened.TheVariants.{Refused, Memory}

-- the history of these steps with these answers, the newest first
abbrev pub history_of : List Step → List Answer → Trace
history_of steps answers = reverse (zip steps answers)

-- a world doesn't open if its opening is refused, and then plans and rows are returned; or else if
-- memory for it runs out, and then the opening is returned
abbrev pub IsNotOpened : ℕ → PlanValue → PlanValue → Config → List GivenRow → NotOpened → Type 0
IsNotOpened tables old new config rows (Refused refused) =
    MayRefuse (early_fault tables old new config rows) (opening_fault tables old new config rows) refused.fault
    × (refused.old ≡ old) × (refused.new ≡ new) × (refused.rows.items ≡ rows)
IsNotOpened tables old new config rows (Memory opening) =
    (opening_fault tables old new config rows ≡ None) × IsOpeningOf tables old new config rows opening
