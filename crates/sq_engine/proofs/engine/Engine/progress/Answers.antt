use Rattle.std.proofs.Common.{false, true, refl, sym, ap, ◌∙◌, subst}
use Rattle.sq_moves.specs.ReconValue.{ReconValue}
use Rattle.sq_moves.specs.OpeningValue.{OpeningValue}
use Rattle.sq_node_model.specs.Gathered.{GatheredValue}
use Rattle.sq_engine.specs.declared.at.At.{At}
use Rattle.sq_engine.specs.declared.stage_progress.StageProgress.{StageProgress}
use Rattle.sq_engine.specs.Progress.{stage_segments, complete_segments_in}
use Rattle.sq_engine.specs.Values.{at_value, AtValue, Between, Changing, EngineValue}
use Rattle.sq_engine.specs.History.{Stands}
use Rattle.sq_engine.specs.Engine.{HasProgressAt, HasProgress}
use Rattle.sq_engine.proofs.Engines.{here, between_at}
use Rattle.sq_engine.proofs.engine.Engine.progress.Goals as goal

pub returns-else-is_due : goal.returns-else-is_due
returns-else-is_due c =
    let inside = c.self.inside in
    let o : OpeningValue = (here inside).opening in
    let at = c.in-Between in
    let progress : StageProgress = record { segments = c.stage_segments-else-is_due.result; complete = c.complete_segments.result; moved = 0; moved_bytes = 0 } in
    let recon = c.recon-recon.ensures.recon in
    let is : HasProgressAt o (Between at.gathered false) progress = (
      c.stage_segments-else-is_due.ensures ∙ ap (λ (r : ReconValue). stage_segments r c.gathered.inside.stage) recon
          ∙ ap (λ (g : GatheredValue). stage_segments inside.opening.recon g.stage) c.gathered.view_is,
      c.complete_segments.ensures ∙ ap (λ (r : ReconValue). complete_segments_in r at.gathered) recon,
      refl,
    ) in
    subst (λ (e : EngineValue). HasProgress e progress) c.self.view_is
    (subst (λ (a : AtValue). HasProgressAt o a progress) (sym (between_at inside at.gathered at.is_due false at.is c.if-is_due.false)) is)

pub returns-then-is_due : goal.returns-then-is_due
returns-then-is_due c =
    let inside = c.self.inside in
    let o : OpeningValue = (here inside).opening in
    let at = c.in-Between in
    let progress : StageProgress = c.at_start.result in
    let start = c.at_start.ensures in
    let is : HasProgressAt o (Between at.gathered true) progress = (
      ap (λ (p : StageProgress). p.segments) start ∙ c.stage_segments.ensures
          ∙ ap (λ (r : ReconValue). stage_segments r 0) c.recon-recon.ensures.recon,
      ap (λ (p : StageProgress). p.complete) start,
      ap (λ (p : StageProgress). p.moved) start,
    ) in
    subst (λ (e : EngineValue). HasProgress e progress) c.self.view_is
    (subst (λ (a : AtValue). HasProgressAt o a progress) (sym (between_at inside at.gathered at.is_due true at.is c.if-is_due.true)) is)

-- no engine is changing between two calls
pub returns-in-Changing : goal.returns-in-Changing
returns-in-Changing c =
    let inside = c.self.inside in
    let reached = c.self.invariant.2 in
    let none : Stands inside.first.value reached.past (here inside).opening Changing =
    subst (λ (a : At). Stands inside.first.value reached.past (here inside).opening (at_value a)) c.in-Changing.is reached.stands in
    absurd none
