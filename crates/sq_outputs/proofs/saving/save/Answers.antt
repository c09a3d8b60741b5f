use Rattle.sq_outputs.proofs.Made.{saved_all, gave_up, gave_up_writing}
use Rattle.sq_outputs.proofs.saving.save.Goals as goal

pub returns-clause-saved : goal.returns-clause-saved
returns-clause-saved g c = saved_all c.take_places.result _ _ _ _ c.in_ok-write_beside.ensures.saved c.take_places.ensures.saved

pub returns-clause-given_up : goal.returns-clause-given_up
returns-clause-given_up g c = gave_up c.take_places.result _ _ _ _ c.in_ok-write_beside.ensures.saved c.take_places.ensures.left

pub returns-in_err-write_beside-clause-given_up : goal.returns-in_err-write_beside-clause-given_up
returns-in_err-write_beside-clause-given_up g c = gave_up_writing c.from_residual.result _ _ _ c.in_err-write_beside.ensures.left
