use Rattle.std.proofs.Common.{ap}
use Rattle.std.proofs.lemmas.List.{take_all}
use Rattle.std.specs.Prelude.{true, false, is_ok}
use Rattle.sq_outputs.specs.Calls.{writes_beside}
use Rattle.sq_outputs.proofs.Made.{made_none, made_one_more, wrote, leaves_all}
use Rattle.sq_outputs.proofs.saving.write_beside.Goals as goal

pub loop-at-init : goal.loop-at-init
loop-at-init g c = made_none _

pub loop-at-preserved : goal.loop-at-preserved
loop-at-preserved g c =
    let written = wrote c.write.result true c.index-files-at.result _ _ _ c.as_str.ensures.value (ap (λ r. is_ok r) c.in_default.is) c.write.ensures in
    made_one_more (writes_beside true) _ _ _ _ _ c.index-files-at.result c.loop-at-test.true c.index-files-at.is c.loop-at.invariant written

pub returns-clause-saved : goal.returns-clause-saved
returns-clause-saved g c =
    let past = c.loop-at-test.false in
    rw take_all at c.loop-at.invariant

pub returns-in-Err-clause-left : goal.returns-in-Err-clause-left
returns-in-Err-clause-left g c =
    let failed = wrote c.write.result false c.index-files-at.result _ _ _ c.as_str.ensures.value (ap (λ r. is_ok r) c.in-Err.is) c.write.ensures in
    leaves_all _ _ _ _ _ _ c.index-files-at.result c.loop-at-test.true c.index-files-at.is c.loop-at.invariant failed c.remove_beside.ensures
