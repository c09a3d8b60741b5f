-- The words of this crate that contracts of other crates cite, passed on from one place. Declares
-- nothing.
pub use Rattle.sq_exec.specs.Runs.{is_whole}
pub use Rattle.sq_exec.specs.OutLink.{may_cut}
pub use Rattle.sq_exec.specs.CoreValue.{CoreValue, entered_core, out_at, inbox_at, loaded_at}
pub use Rattle.sq_exec.specs.Kept.{IsCore}
pub use Rattle.sq_exec.specs.Serving.{IsTaken, IsResumed}
pub use Rattle.sq_exec.specs.Moving.{begun_core, CutsFor, may_load, LoadsFrom}
pub use Rattle.sq_exec.specs.Opened.{opened_part, blank_part, with_opened, AreBlank, HasOwned, IsOpenStore}
