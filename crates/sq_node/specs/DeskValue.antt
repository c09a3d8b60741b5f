-- The jobs of a node.
use Rattle.std.specs.Prelude.{Bool, List}
use Rattle.sq_node_model.specs.NodeValue.{ReceiptValue}
use Rattle.sq_node.specs.declared.desk.Post.{Post}

-- the receipts of the answered jobs, the jobs to forward, and whether there is room for one more of
-- these
pub record DeskValue : Type 0 where
  pub receipts : List ReceiptValue
  pub posts : List Post
  pub has_room : Bool
