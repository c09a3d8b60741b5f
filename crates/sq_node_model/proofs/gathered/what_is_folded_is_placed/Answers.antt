use Rattle.sq_node_model.proofs.Folded.{rowless_opening, folded_placed, folded_done}
use Rattle.sq_node_model.proofs.gathered.what_is_folded_is_placed.Goals as goal

pub returns : goal.returns
returns c = λ o g table stores over f. record {
  opening = rowless_opening o table over.opening;
  placed = folded_placed o over.opening g over.placed over.done table stores f;
  done = folded_done o over.opening g over.placed over.done table stores f;
}
