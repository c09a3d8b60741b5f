use Rattle.std.proofs.Common.{rules, ◌≡◌, ◌≤◌, length, refl, sym, ap, ◌∙◌}
use Rattle.sq_moves.specs.ReconValue.{stage_at}
use Rattle.sq_node_model.specs.Gathered.{GatheredValue}
use Rattle.sq_node_model.specs.Next.{is_complete_in}
use Rattle.sq_gather.proofs.StageDone.{one_more, all_done}
use Rattle.sq_gather.proofs.gathered.Gathered.is_stage_done.Goals as goal
use Rattle.sq_gather.proofs.gathered.Gathered.is_stage_done.Goals.{else-stage_of-self-via-then-stage_of-self+else-not-is_whole, else-stage_of-self-via-else-stage_of-self}

pub loop-place-preserved : goal.loop-place-preserved
loop-place-preserved c =
    let stage : c.stage_of.result ≡ stage_at c.args.opening.now.recon c.loop-place.place = search rules in
    let at : c.in-Some.seg ≡ c.loop-place.place = search rules in
    let own : c.self.inside.stage ≡ c.args.self.now.stage = ap (λ (g : GatheredValue). g.stage) c.self.view_is in
    one_more c.args.opening.now c.args.self.now c.loop-place.place c.loop-place.invariant
    (elim c.else-stage_of-self.branch [
      | else-stage_of-self-via-then-stage_of-self+else-not-is_whole w ↦ λ runs. ap (is_complete_in c.args.self.now) (sym at) ∙ sym w.is_whole.ensures ∙ w.if-not-is_whole.false
      | else-stage_of-self-via-else-stage_of-self w ↦ λ runs. absurd (w.if-stage_of-self.false (stage ∙ runs ∙ sym own))
    ])

pub returns : goal.returns
returns c =
    let few : length c.args.opening.now.recon.segments ≤ c.loop-place.place = search rules in
    ((λ e. all_done c.args.opening.now c.args.self.now c.loop-place.place c.loop-place.invariant few), (λ done. refl))
