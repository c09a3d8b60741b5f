-- The words of this crate that contracts of other crates cite, passed on from one place. Declares
-- nothing.
pub use Rattle.sq_transition.specs.WorldValue.{QueueValue, WorldValue, link_index, running_stage, running_range, source_of, destination_of, link_of, option_list, under_way}
pub use Rattle.sq_transition.specs.Leading.{phase_of}
pub use Rattle.sq_transition.specs.LeaderResults.{prepare_result, started_core, start_result, report_result, next_result, finish_result, fold_result}
pub use Rattle.sq_transition.specs.TreeResults.{split_result, claim_result, begin_result, is_loaded_whole, complete_result, status_result}
pub use Rattle.sq_transition.specs.LinkResults.{cut_result, push_result, pop_result, load_result}
pub use Rattle.sq_transition.specs.SubmitResults.{is_root_given_up, sent_to, submitted, submit_refused, submit_result, resume_refused, resume_result}
pub use Rattle.sq_transition.specs.Transition.{IsResult, IsTransition}
pub use Rattle.sq_transition.specs.Holds.{Holds}
pub use Rattle.sq_transition.specs.Headline.{KeepsHeadline, IsAsPlanned}
