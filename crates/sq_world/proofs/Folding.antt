-- The result of a fold of a partition's logs.
use Rattle.std.proofs.Common.{◌≡◌, ℕ, ◌<◌, List, map, length, get_or, set, Ok, sym, ap, ◌∙◌, arith}
use Rattle.std.specs.Prelude.{nat_le, if◌then◌else◌}
use Rattle.sq_exec.specs.CoreValue.{CoreValue, PartCoreValue, folded_core}
use Rattle.sq_model.specs.declared.step.Phase.TheVariants.{Ended}
use Rattle.sq_model.specs.declared.step.Phase.{Phase}
use Rattle.sq_model.specs.declared.answer.Answer.TheVariants.{Done}
use Rattle.sq_model.specs.declared.answer.Refusal.TheVariants.{NoSuchPartition, NotFinished}
use Rattle.sq_model.specs.Leader.{is_ended_phase}
use Rattle.sq_transition.specs.WorldValue.{WorldValue, core_at, with_core}
use Rattle.sq_transition.specs.Leading.{phase_of}
use Rattle.sq_transition.specs.LeaderResults.{StepResult, refuse, fold_result}
use Rattle.sq_world.specs.Results.{refuse_if}
use Rattle.sq_world.specs.Sound.{IsSound}
use Rattle.sq_world.proofs.Guards.{passed, part_exists}
use Rattle.sq_world.proofs.Cores.{core_of, core_read, core_written}

pub fold_done : (w : WorldValue) (parts : List PartCoreValue) (number : ℕ) (part after : PartCoreValue) (done : Unit {0}) → map core_of parts ≡ w.cores → IsSound w → Ok done ≡ refuse_if (nat_le w.old.parts number) NoSuchPartition
    → part ≡ get_or parts number part → phase_of w.leader ≡ Ended → after.core ≡ folded_core part.core → (Done, record w { cores = map core_of (set parts number after) }) ≡ fold_result w number
fold_done w parts number part after done are sound exists is ended folded =
    let lt : number < length w.cores = omega (arith, part_exists w.old.parts number NoSuchPartition done exists, sound.cores) in
    let went : StepResult = (Done, with_core w number (folded_core (core_at w number))) in
    ap (λ (cores : List CoreValue). (Done, record w { cores = cores })) (core_written w parts are number after (folded_core (core_at w number)) (folded ∙ ap folded_core (core_read w parts are number part lt is)))
    ∙ ap (λ (p : Phase). if is_ended_phase p then went else refuse w NotFinished) (sym ended)
    ∙ passed (nat_le w.old.parts number) NoSuchPartition w (if is_ended_phase (phase_of w.leader) then went else refuse w NotFinished) done exists
