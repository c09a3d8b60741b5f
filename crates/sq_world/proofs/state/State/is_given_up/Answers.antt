use Rattle.std.proofs.Common.{◌≡◌, get_or, ap, ◌∙◌}
use Rattle.sq_moves.specs.Status.{is_begun}
use Rattle.sq_moves.specs.ReconValue.{leaf_at}
use Rattle.sq_transition.specs.WorldValue.{WorldValue}
use Rattle.sq_transition.specs.SubmitResults.{is_root_given_up}
use Rattle.sq_world.proofs.Trees.{given_up_there, begun_status, not_begun}
use Rattle.sq_world.proofs.state.State.is_given_up.Goals as goal
use Rattle.sq_world.proofs.state.State.is_given_up.Goals.{After-status}

-- the status of the node that covers the leaf decides
told : (c : After-status) → is_begun c.status.result ≡ is_root_given_up c.args.self.now c.args.root
told c =
    let w = c.args.self.now in
    let at = c.in-Some.at in
    let tree = c.index-tree.result.now in
    let is : tree ≡ get_or w.trees at.0 tree =
    c.index-tree.ensures ∙ ap (λ i. get_or c.self.inside.trees.items i tree) c.index.ensures.place ∙ ap (λ (v : WorldValue). get_or v.trees at.0 tree) c.self.view_is in
    given_up_there w c.args.root at.0 at.1 c.covering.result tree c.status.result c.requires (c.in-Some.ensures ∙ ap (λ (v : WorldValue). leaf_at v.recon c.args.root) c.self.view_is)
    is c.covering.ensures.covering c.status.ensures.status

pub returns-in-Partial : goal.returns-in-Partial
returns-in-Partial c = begun_status c.status.result c.in-Partial.is ∙ told (goal.at.returns-in-Partial c).After-status

pub returns-in_default-matches : goal.returns-in_default-matches
returns-in_default-matches c = not_begun c.status.result c.in_default-matches.not-Partial c.in_default-matches.not-Complete ∙ told (goal.at.returns-in_default-matches c).After-status
