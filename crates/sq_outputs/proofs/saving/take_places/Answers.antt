use Rattle.std.proofs.Common.{ap}
use Rattle.std.proofs.lemmas.List.{take_all, take_rest}
use Rattle.std.specs.Prelude.{true, false, is_ok}
use Rattle.sq_outputs.specs.Calls.{placed_for_good}
use Rattle.sq_outputs.proofs.Made.{made_none, made_both, made_some_more, renamed, leaves_rest}
use Rattle.sq_outputs.proofs.saving.take_places.Goals as goal

pub loop-at-init : goal.loop-at-init
loop-at-init g c = made_none _

pub loop-at-preserved : goal.loop-at-preserved
loop-at-preserved g c =
    let placed = renamed c.rename.result true c.index-files-at.result _ _ _ c.as_str.ensures.value (ap (λ r. is_ok r) c.in_default.is) c.rename.ensures in
    made_some_more placed_for_good _ _ _ _ _ c.index-files-at.result c.loop-at-test.true c.index-files-at.is c.loop-at.invariant (made_both _ _ _ _ _ placed c.sync_folder.ensures)

pub returns-clause-saved : goal.returns-clause-saved
returns-clause-saved g c =
    let past = c.loop-at-test.false in
    rw take_all at c.loop-at.invariant

pub returns-in-Err-clause-left : goal.returns-in-Err-clause-left
returns-in-Err-clause-left g c =
    let failed = renamed c.rename.result false c.index-files-at.result _ _ _ c.as_str.ensures.value (ap (λ r. is_ok r) c.in-Err.is) c.rename.ensures in
    leaves_rest _ _ _ _ _ _ c.index-files-at.result c.loop-at-test.true c.index-files-at.is c.loop-at.invariant failed (rw take_rest at c.remove_beside.ensures)
