use Rattle.std.proofs.Common.{◌+◌}
use Rattle.sq_node_model.specs.Cores.{staged_core}
use Rattle.sq_node_model.specs.Next.{next_began}
use Rattle.sq_node_model.proofs.Made.{fresh_holds}
use Rattle.sq_node_model.proofs.Next.{can_next, holds_next}
use Rattle.sq_node_model.proofs.gathered.the_next_stage_begins.Goals as goal

pub returns : goal.returns
returns c = record {
  can = λ o g over. can_next o over.opening g over.placed over.done;
  holds = λ o g q store over there node new.
      fresh_holds o (next_began o g) (staged_core o (g.stage + 1) q store) node new
      (holds_next o over.opening g over.placed over.done q store node.views node.sent node.received there new.unused);
}
