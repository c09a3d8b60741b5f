use Rattle.std.proofs.Common.{◌≡◌, get_or, ap, ◌∙◌}
use Rattle.sq_transition.specs.WorldValue.{WorldValue}
use Rattle.sq_world.proofs.Guards.{node_here}
use Rattle.sq_world.proofs.Trees.{status_told}
use Rattle.sq_world.proofs.state.State.status_of.Goals as goal

pub returns : goal.returns
returns c =
    let w = c.args.self.now in
    let seg = c.in_ok-seg.seg in
    let tree = c.index-tree.result.now in
    let is : tree ≡ get_or w.trees seg tree =
    c.index-tree.ensures ∙ ap (λ i. get_or c.self.inside.trees.items i tree) c.index.ensures.place ∙ ap (λ (v : WorldValue). get_or v.trees seg tree) c.self.view_is in
    status_told w c.args.seg c.args.node seg c.in_ok-node.node tree c.status.result c.reads.result c.requires
    (node_here w c.args.seg c.args.node seg c.in_ok-node.node c.in_ok-seg.ensures.named c.in_ok-node.ensures) is c.status.ensures.status c.reads.ensures.reading
