use Rattle.std.proofs.Common.{◌≡◌, rules}
use Rattle.sq_moves.specs.declared.status.Status.TheVariants as status
use Rattle.sq_moves.specs.Answer.{claim_answer}
use Rattle.sq_model.specs.Answers.{claim_answered}
use Rattle.sq_model.specs.declared.answer.Answer.TheVariants.{Refused}
use Rattle.sq_world.specs.Results.{answer_of}
use Rattle.sq_world.proofs.Guards.{node_here}
use Rattle.sq_world.proofs.Trees.{node_done, node_stays}
use Rattle.sq_world.proofs.state.State.claim.Goals as goal

pub returns-in_err-claim_node : goal.returns-in_err-claim_node
returns-in_err-claim_node c =
    let w = c.args.self.now in
    let gave : answer_of c.from_residual-in_err-claim_node.result ≡ Refused (c.in_err-claim_node.field-0).0 = search rules in
    node_stays w (λ st seg n. claim_answered (claim_answer st n c.args.pull)) (status.Claimed c.args.pull) c.self.view_is c.requires c.in_ok-check_moving.ensures
    (node_here w c.args.seg c.args.node c.in_ok-seg.seg c.in_ok-node.node c.in_ok-seg.ensures.named c.in_ok-node.ensures) c.index.ensures.place c.index_mut.ensures.value (c.in_err-claim_node.field-0).0 gave
    c.in_err-claim_node.ensures.answer c.in_err-claim_node.ensures.after

pub returns : goal.returns
returns c =
    let w = c.args.self.now in
    node_done w (λ st seg n. claim_answered (claim_answer st n c.args.pull)) (status.Claimed c.args.pull) c.self.view_is c.requires c.in_ok-check_moving.ensures
    (node_here w c.args.seg c.args.node c.in_ok-seg.seg c.in_ok-node.node c.in_ok-seg.ensures.named c.in_ok-node.ensures) c.index.ensures.place c.index_mut.ensures.value c.in_ok-claim_node.ensures.answer
    c.in_ok-claim_node.ensures.after
