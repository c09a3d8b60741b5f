-- The words of this crate that contracts of other crates cite, passed on from one place. Declares
-- nothing.
pub use Rattle.sq_node_model.specs.NodeValue.{ReceiptValue}
pub use Rattle.sq_node_model.specs.Receipts.{is_commit}
pub use Rattle.sq_node_model.specs.BeganWith.{BeganWith, first_began, CanBegin}
pub use Rattle.sq_node_model.specs.Gathered.{GatheredValue, GatheredLink}
pub use Rattle.sq_node_model.specs.Spots.{loaded_count, loads_of, cut_notes, AllGrown}
pub use Rattle.sq_node_model.specs.Placed.{HasEachPart, IsLinkNote, IsLinkPlaced, FitTogether, IsPlaced, GoOn}
pub use Rattle.sq_node_model.specs.Next.{is_complete_in, IsStageDone, IsStageOver, next_began, onward_began, IsNextMove}
pub use Rattle.sq_node_model.specs.Folded.{folded_opening, folded_gathered}
