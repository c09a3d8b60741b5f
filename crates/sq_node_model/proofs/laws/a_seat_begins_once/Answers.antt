use Rattle.sq_node_model.proofs.Trees.{begun_stands, not_begun}
use Rattle.sq_node_model.proofs.laws.a_seat_begins_once.Goals as goal

pub returns : goal.returns
returns c = record {
  begun = λ statuses views v at n pull. begun_stands statuses views at v n pull;
  once = not_begun;
}
