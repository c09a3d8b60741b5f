use Rattle.std.proofs.Common.{◌≡◌, ℕ, ◌<◌, Bool, List, [], length, subst, sym, ap, ◌∙◌}
use Rattle.std.specs.Prelude.{slice_index_or}
use Rattle.sq_leader.specs.Segments.{is_marked_complete}
use Rattle.sq_leader.specs.Leader.{made_answer}
use Rattle.sq_leader.specs.declared.leader.Leader.TheVariants.{Moving}
use Rattle.sq_moves.specs.declared.status.Status.{Status}
use Rattle.sq_moves.specs.Status.{reading}
use Rattle.sq_moves.specs.Tree.{status_at}
use Rattle.sq_moves.specs.Reading.{is_complete_reading}
use Rattle.sq_model.specs.declared.answer.Answer.TheVariants.{Done, Refused}
use Rattle.sq_transition.specs.WorldValue.{WorldValue}
use Rattle.sq_transition.specs.LeaderResults.{is_complete_by_tree}
use Rattle.sq_world.specs.Results.{answer_of}
use Rattle.sq_world.proofs.Leading.{report_went, report_fails}
use Rattle.sq_world.proofs.state.State.report.Goals as goal
use Rattle.sq_world.proofs.state.State.report.Goals.{After-made}

-- what holds of each tree holds of each segment of the world with these trees
told_of : (w : WorldValue) (trees : List (List Status)) (whole : List Bool) → trees ≡ w.trees
    → ((seg : ℕ) → seg < length trees → is_marked_complete whole seg ≡ is_complete_reading (reading (status_at (slice_index_or trees seg [])) 1))
    → (seg : ℕ) → seg < length w.trees → is_marked_complete whole seg ≡ is_complete_by_tree w seg
told_of w trees whole same told =
    subst (λ (seen : List (List Status)). (seg : ℕ) → seg < length seen → is_marked_complete whole seg ≡ is_complete_reading (reading (status_at (slice_index_or seen seg [])) 1)) same told

told : (c : After-made) → let w = c.args.self.now in (seg : ℕ) → seg < length w.trees → is_marked_complete c.complete_by_trees-whole.result seg ≡ is_complete_by_tree w seg
told c =
    let opened = c.self.view_is ∙ c.take_leader.ensures.after in
    told_of c.args.self.now c.deref.result.now c.complete_by_trees-whole.result (c.deref.ensures.value ∙ ap (λ (v : WorldValue). v.trees) opened) c.complete_by_trees-whole.ensures

-- so the report is made of the world
made : (c : After-made) → let w = c.args.self.now in c.made.result ≡ made_answer w.old w.recon (c.in-Moving.moving).stage c.complete_by_trees-whole.result c.args.part
made c =
    c.made.ensures.answer ∙ ap (λ (v : WorldValue). made_answer v.old v.recon c.stage.result c.complete_by_trees-whole.result c.args.part) (c.self.view_is ∙ c.take_leader.ensures.after)
    ∙ ap (λ n. made_answer c.args.self.now.old c.args.self.now.recon n c.complete_by_trees-whole.result c.args.part) c.stage.ensures.stage

pub returns-in-Ok-report : goal.returns-in-Ok-report
returns-in-Ok-report c =
    let w = c.args.self.now in
    let at = (goal.at.returns-in-Ok-report c).After-made in
    (λ i. (answer_of (c.go_on.ensures.answer i), c.go_on.ensures.after i))
    ∙ ap (λ (v : WorldValue). (Done, record v { leader = Moving c.in-Ok-report.moving })) c.take_leader.ensures.after
    ∙ report_went w c.requires c.complete_by_trees-whole.result (told at) c.in-Moving.moving c.args.part c.in-Ok.report c.in-Ok-report.moving (sym c.in-Moving.ensures.leader) (sym c.in-Ok.is ∙ made at) c.in-Ok-report.ensures

pub returns-in-Err : goal.returns-in-Err
returns-in-Err c =
    let w = c.args.self.now in
    let at = (goal.at.returns-in-Err c).After-made in
    (λ i. (answer_of (c.stay.ensures.answer i), c.stay.ensures.after i))
    ∙ ap (λ (v : WorldValue). (Refused c.report_refusal.result, record v { leader = Moving c.in-Moving.moving })) c.take_leader.ensures.after
    ∙ ap (λ refusal. (Refused refusal, record w { leader = Moving c.in-Moving.moving })) c.report_refusal.ensures
    ∙ report_fails w c.requires c.complete_by_trees-whole.result (told at) c.in-Moving.moving c.args.part c.in-Err.fault (sym c.in-Moving.ensures.leader) (sym c.in-Err.is ∙ made at)
