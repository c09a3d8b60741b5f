use Rattle.std.proofs.Common.{◌≡◌, sym, subst}
use Rattle.sq_gather.specs.Prelude.{OpeningValue, GatheredValue, IsStageDone}
use Rattle.sq_audit.specs.Answers.{IdsDiffer}
use Rattle.sq_refusals.proofs.two_stages.fold_twice.Goals as goal

pub fold_once-requires-in-Err-Memory-clause-done : goal.fold_once-requires-in-Err-Memory-clause-done
fold_once-requires-in-Err-Memory-clause-done g c κs region =
    let same = rw c.in-Err-Memory.field-0-is at c.in-Err-Memory.ensures in
    subst (λ (o : OpeningValue). IsStageDone o c.in-Err-Memory.back.gathered) (sym same.0)
    (subst (IsStageDone c.args.opening) (sym same.1) c.requires.done)

pub fold_once-requires-in-Err-Memory-clause-ids : goal.fold_once-requires-in-Err-Memory-clause-ids
fold_once-requires-in-Err-Memory-clause-ids g c κs region =
    let same = rw c.in-Err-Memory.field-0-is at c.in-Err-Memory.ensures in
    subst IdsDiffer (sym same.3) c.requires.ids
