-- The words of this crate that contracts of other crates cite, passed on from one place. Declares
-- nothing.
pub use Rattle.sq_moves.specs.Answer.{split_answer, claim_answer, begin_answer, complete_answer}
pub use Rattle.sq_moves.specs.Node.{is_node, is_leaf, parent, span, is_above, is_under}
pub use Rattle.sq_moves.specs.Reading.{is_complete_reading}
pub use Rattle.sq_moves.specs.Status.{word_of, before, is_begun, is_live, reading, reading_within}
pub use Rattle.sq_moves.specs.Tree.{status_at, with_status, IsGrown}
pub use Rattle.sq_moves.specs.ReconValue.{ReconValue, no_moves, IsRecon, stage_on, stage_in, stages, stage_at, moves_into}
pub use Rattle.sq_moves.specs.CutEnd.{end_within}
pub use Rattle.sq_moves.specs.OpeningValue.{OpeningValue}
pub use Rattle.sq_moves.specs.Opening.{IsOpening}
pub use Rattle.sq_moves.specs.SetUp.{IsSetUp}
pub use Rattle.sq_moves.specs.Given.{value_of, IsOpeningOf}
pub use Rattle.sq_moves.specs.Refused.{opening_fault}
