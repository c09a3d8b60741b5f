-- A refused step keeps what holds.
use Rattle.std.proofs.Common.{◌∷◌}
use Rattle.sq_moves.specs.OpeningValue.{OpeningValue}
use Rattle.sq_model.specs.declared.step.Step.{Step}
use Rattle.sq_model.specs.declared.step.Step.TheVariants.{Prepare, Start, Submit, Resume, Split, Claim, Begin, Cut, Push, Pop, Load, Complete, Report, Next, Finish, Status, Fold}
use Rattle.sq_model.specs.declared.answer.Refusal.{Refusal}
use Rattle.sq_model.specs.declared.answer.Answer.TheVariants.{Refused}
use Rattle.sq_model.specs.Trace.{Trace}
use Rattle.sq_transition.specs.WorldValue.{WorldValue}
use Rattle.sq_transition.proofs.Changed.{PartsHold}

pub refused : (o : OpeningValue) (t : Trace) (w : WorldValue) (step : Step) (r : Refusal) → PartsHold o t w → PartsHold o ((step, Refused r) ∷ t) w
refused o t w (Prepare part) r h = h
refused o t w Start r h = h
refused o t w (Submit part txn) r h = h
refused o t w (Resume part) r h = h
refused o t w (Split seg node) r h = h
refused o t w (Claim seg node pull) r h = h
refused o t w (Begin seg node pull) r h = h
refused o t w (Cut src dst) r h = h
refused o t w (Push src dst) r h = h
refused o t w (Pop src dst) r h = h
refused o t w (Load src dst) r h = h
refused o t w (Complete seg node pull) r h = h
refused o t w (Report part) r h = h
refused o t w Next r h = h
refused o t w Finish r h = h
refused o t w (Fold part) r h = h
refused o t w (Status seg node) r h = h
