use Rattle.sq_node_model.proofs.Onward.{can_onward, opens_onward}
use Rattle.sq_node_model.proofs.gathered.the_next_move_begins.Goals as goal

pub returns : goal.returns
returns c = record {
  can = λ o next g over follows. can_onward o next g over.opening over.placed over.done follows.rows;
  opens = λ o next g q store over follows there.
      opens_onward o next g q store over.opening over.placed over.done follows.last follows.plan there;
}
