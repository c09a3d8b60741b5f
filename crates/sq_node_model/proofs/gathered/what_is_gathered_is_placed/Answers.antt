use Rattle.sq_node_model.proofs.Placed.{is_placed}
use Rattle.sq_node_model.proofs.Families.{go_on}
use Rattle.sq_node_model.proofs.gathered.what_is_gathered_is_placed.Goals as goal

pub returns : goal.returns
returns c = record {
  placed = λ o began nodes g is can gathers. is_placed o began is nodes g gathers can;
  grows = λ o began nodes g is can gathers. go_on o began is nodes g gathers;
}
