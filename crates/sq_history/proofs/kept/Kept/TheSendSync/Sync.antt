-- It owns nothing, so it may be shared with another thread.
use denote.RattleType.{RattleType}
use denote.Param.Send.{IsSend, IsSync, part_keyless}
use Rattle.sq_history.specs.contracts.kept.Kept.{the_row}
use Rattle.sq_history.proofs.kept.Kept.TheSendSync.Send.{send}

pub sync : (A : RattleType) → IsSend A → IsSync A → IsSync (the_row A)
sync A s y = record { shared = λ d b o κ q. part_keyless (the_row A) (send A s) q d b o }
