-- The words of this crate that contracts of other crates cite, passed on from one place. Declares
-- nothing.
pub use Rattle.sq_model.specs.Trace.{Trace, stage}
pub use Rattle.sq_model.specs.Leader.{phase, is_moving_phase}
pub use Rattle.sq_model.specs.Place.{extent_in}
pub use Rattle.sq_model.specs.Links.{has_last, goes}
pub use Rattle.sq_model.specs.Answers.{split_answered, claim_answered, begin_answered, complete_answered}
pub use Rattle.sq_model.specs.Legal.{IsLegal}
pub use Rattle.sq_model.specs.Orderly.{AreNumbered, Tiles, AreDisjoint}
pub use Rattle.sq_model.specs.Staged.{owner_in}
