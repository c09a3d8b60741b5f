use Rattle.std.proofs.Common.{◌≡◌, List, ap, ◌∙◌, rules}
use Rattle.sq_moves.specs.declared.status.Status.{Status}
use Rattle.sq_moves.specs.declared.status.Status.TheVariants as status
use Rattle.sq_moves.specs.Tree.{status_at}
use Rattle.sq_moves.specs.Answer.{complete_answer}
use Rattle.sq_model.specs.Answers.{complete_answered}
use Rattle.sq_transition.specs.TreeResults.{is_loaded_whole}
use Rattle.sq_model.specs.declared.answer.Answer.TheVariants.{Refused}
use Rattle.sq_world.specs.Results.{answer_of}
use Rattle.sq_world.proofs.Guards.{node_here}
use Rattle.sq_world.proofs.Trees.{node_done, node_stays}
use Rattle.sq_world.proofs.state.State.complete.Goals as goal
use Rattle.sq_world.proofs.state.State.complete.Goals.{After-is_loaded_whole-loaded}

-- the tree's answer, by whether the node is loaded as a whole
told : (c : After-is_loaded_whole-loaded) (tree : List Status)
    → complete_answered c.is_loaded_whole-loaded.result (complete_answer (status_at tree) c.in_ok-node.node c.args.pull) ≡ complete_answered (is_loaded_whole c.args.self.now c.in_ok-seg.seg c.in_ok-node.node) (complete_answer (status_at tree) c.in_ok-node.node c.args.pull)
told c tree = ap (λ whole. complete_answered whole (complete_answer (status_at tree) c.in_ok-node.node c.args.pull)) c.is_loaded_whole-loaded.ensures

pub returns-in_err-complete_node : goal.returns-in_err-complete_node
returns-in_err-complete_node c =
    let w = c.args.self.now in
    let gave : answer_of c.from_residual-in_err-complete_node.result ≡ Refused (c.in_err-complete_node.field-0).0 = search rules in
    node_stays w (λ st seg n. complete_answered (is_loaded_whole w seg n) (complete_answer st n c.args.pull)) (status.Complete c.args.pull) c.self.view_is c.requires c.in_ok-check_moving.ensures
    (node_here w c.args.seg c.args.node c.in_ok-seg.seg c.in_ok-node.node c.in_ok-seg.ensures.named c.in_ok-node.ensures) c.index.ensures.place c.index_mut.ensures.value (c.in_err-complete_node.field-0).0 gave
    (c.in_err-complete_node.ensures.answer ∙ told (goal.at.returns-in_err-complete_node c).After-is_loaded_whole-loaded c.index_mut.result.now) c.in_err-complete_node.ensures.after

pub returns : goal.returns
returns c =
    let w = c.args.self.now in
    node_done w (λ st seg n. complete_answered (is_loaded_whole w seg n) (complete_answer st n c.args.pull)) (status.Complete c.args.pull) c.self.view_is c.requires c.in_ok-check_moving.ensures
    (node_here w c.args.seg c.args.node c.in_ok-seg.seg c.in_ok-node.node c.in_ok-seg.ensures.named c.in_ok-node.ensures) c.index.ensures.place c.index_mut.ensures.value (c.in_ok-complete_node.ensures.answer ∙ told (goal.at.returns c).After-is_loaded_whole-loaded c.index_mut.result.now)
    c.in_ok-complete_node.ensures.after
