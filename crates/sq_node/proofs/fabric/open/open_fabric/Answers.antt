use Rattle.std.proofs.Common.{◌≡◌, ◌+◌, ◌≤◌, List, length, sym, ap, ◌∙◌, subst, subst₂}
use Rattle.std.specs.Prelude.{◌↔◌, IsTrue}
use Rattle.sq_plan.specs.PlanValue.{PlanValue}
use Rattle.sq_moves.specs.declared.segment.TheConstants.{SEGMENT_LIMIT}
use Rattle.sq_moves.specs.declared.opening.Config.{Config}
use Rattle.sq_moves.specs.ReconValue.{ReconValue, stages}
use Rattle.sq_moves.specs.declared.recon.Link.{Link}
use Rattle.sq_shared.specs.declared.view.View.{View}
use Rattle.sq_node.specs.FabricValue.{AreStageLinks}
use Rattle.sq_node.proofs.NewLinks.{stage_links_are}
use Rattle.sq_node.proofs.fabric.open.open_fabric.Goals as goal
use Rattle.sq_node.proofs.fabric.open.open_fabric.Goals.{After-new-3}

pub invariant_of-fabric : goal.invariant_of-fabric
invariant_of-fabric c =
    let recon : c.in_ok-clone.field-0 ≡ c.args.opening.now.recon = c.in_ok-clone.ensures.cases ∙ c.recon-recon.ensures.recon in (
      record {
        few = subst (λ (r : ReconValue). length r.segments ≤ SEGMENT_LIMIT) (c.recon-recon.ensures.recon ∙ sym recon) c.segments.ensures.recon.few;
        trees = c.in_ok-trees.ensures.count ∙ ap length c.segments.ensures.segments ∙ ap (λ (r : ReconValue). length r.segments) (c.recon-recon.ensures.recon ∙ sym recon);
        seats = c.in_ok-trees.ensures.seats.of;
        first = λ seg seat there. ap (λ (v : View). v.first) (c.in_ok-trees.ensures.seats.each seg seat there);
        links = subst₂ (λ (r : ReconValue) (links : List Link). AreStageLinks r c.args.stage links) (c.recon-recon.ensures.recon ∙ sym recon) (sym (c.in_ok-links.ensures.links ∙ c.as_slice.ensures.value ∙ c.in_ok-between.ensures))
            (stage_links_are c.recon-recon.result.now c.args.stage c.links.result.now c.links.ensures);
      },
      subst (λ (r : ReconValue). IsTrue c.is_last.result ↔ (stages r ≤ c.args.stage + 1)) (c.recon-recon.ensures.recon ∙ sym recon) c.is_last.ensures,
    )

pub returns-clause-of : goal.returns-clause-of
returns-clause-of c =
    record {
      recon = c.in_ok-clone.ensures.cases ∙ c.recon-recon.ensures.recon;
      parts = c.parts-parts.ensures.parts ∙ ap (λ (p : PlanValue). p.parts) c.old_plan.ensures.plan;
      capacity = λ i link there. c.in_ok-links.ensures.capacities i link there ∙ ap (λ (f : Config). f.capacity) c.config.ensures.config;
    }

pub returns-clause-fabric : goal.returns-clause-fabric
returns-clause-fabric c =
    let made : After-new-3 = (goal.at.returns-clause-fabric c).After-new-3 in
    (invariant_of-fabric made).0
