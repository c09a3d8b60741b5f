-- The link that was found has the ends that were asked for.
use Rattle.std.proofs.Common.{◌≡◌, get_or, sym, ap, ◌∙◌}
use Rattle.std.proofs.lemmas.Bool.{eq-eqb, ne_eqb}
use Rattle.sq_moves.specs.ReconValue.{stage_on}
use Rattle.sq_transition.specs.WorldValue.{WorldValue}
use Rattle.sq_world.proofs.LinkSteps.{ends_found, link_of_stage}
use Rattle.sq_world.proofs.state.State.running_link.Goals as goal
use Rattle.sq_world.proofs.state.State.running_link.Goals.{After-stage}

-- the link has the ends that were asked for
ends : (c : After-stage) → (c.src-src.result ≡ c.args.src) × (c.dst-dst.result ≡ c.args.dst)
ends c =
    let w = c.args.self.now in
    let queue = c.index-queue.result.now in
    let found = ends_found w c.args.src c.args.dst c.in-Some.at queue c.in-Some.ensures (c.index-queue.ensures ∙ ap (λ (v : WorldValue). get_or v.queues c.in-Some.at queue) c.self.view_is) in
    (c.src-src.ensures ∙ found.0, c.dst-dst.ensures ∙ found.1)

-- the stage that was read is the link's
stage_read : (c : After-stage) → c.stage_on.result ≡ stage_on c.args.self.now.recon c.args.src c.args.dst
stage_read c =
    let opened = c.self.view_is in
    c.stage_on.ensures.stage ∙ (λ i. stage_on (opened i).recon ((ends c).0 i) ((ends c).1 i))

pub returns-then-stage_on-stage : goal.returns-then-stage_on-stage
returns-then-stage_on-stage c =
    let at = (goal.at.returns-then-stage_on-stage c).After-stage in
    link_of_stage c.args.self.now c.args.src c.args.dst (record { at = c.in-Some.at; src = c.src-src.result; dst = c.dst-dst.result }) _ (eq-eqb _ _ (sym (stage_read at) ∙ c.if-stage_on-stage.true ∙ c.stage.ensures))
    c.in-Some.ensures (ends at).0 (ends at).1

pub returns-else-stage_on-stage : goal.returns-else-stage_on-stage
returns-else-stage_on-stage c =
    let at = (goal.at.returns-else-stage_on-stage c).After-stage in
    link_of_stage c.args.self.now c.args.src c.args.dst (record { at = c.in-Some.at; src = c.src-src.result; dst = c.dst-dst.result }) _ (ne_eqb _ _ (λ same. c.if-stage_on-stage.false (stage_read at ∙ same ∙ sym c.stage.ensures)))
    c.in-Some.ensures (ends at).0 (ends at).1
