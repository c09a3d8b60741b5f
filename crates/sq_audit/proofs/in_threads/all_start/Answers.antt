use Rattle.std.proofs.Common.{◌≡◌, Bool, true, map, slice_get, Some, Result, Ok, refl, ap, ◌∙◌}
use Rattle.std.specs.declared.alloc.AllocError.{AllocError}
use Rattle.std.proofs.lemmas.Option.{slice_get-get_or}
use Rattle.sq_gather.proofs.Prelude.{at_map}
use Rattle.sq_audit.specs.declared.told.Found.{Found}
use Rattle.sq_audit.specs.Told.{said_by}
use Rattle.sq_audit.proofs.Listing.{mapped_past}
use Rattle.sq_audit.proofs.Each.{each_more, each_done}
use Rattle.sq_audit.proofs.in_threads.all_start.Goals as goal

abbrev said_start : Result Found AllocError → Result Bool AllocError
said_start = said_by (λ found. found.start)

abbrev holds : Result Bool AllocError → Type 0
holds one = one ≡ Ok true

pub loop-one-preserved : goal.loop-one-preserved
loop-one-preserved c =
    let said = c.args.said.now in
    let i = c.loop-one.one-index in
    let one : Result Found AllocError = Ok c.in-Ok.found in
    let at : slice_get said i ≡ Some one = slice_get-get_or said i _ c.loop-one-test.true ∙ ap Some c.in-Ok.is in
    each_more holds (map said_start said) i (said_start one) c.loop-one.invariant (at_map said_start said i one at) (ap Ok c.if-not-found.false)

pub returns : goal.returns
returns c =
    let said = c.args.said.now in
    (each_done holds (map said_start said) c.loop-one.one-index c.loop-one.invariant (mapped_past said_start said c.loop-one.one-index c.loop-one-test.false)).0 refl
