use Rattle.std.proofs.Common.{◌≡◌, ℕ, [], ◌∷◌, length, List, refl, ap, subst, ◌∙◌}
use Rattle.sq_serving.specs.declared.desk.AskedTxn.{AskedTxn}
use Rattle.sq_serving.specs.Sides.{waiting_at, ChangesAt}
use Rattle.sq_serving.proofs.Desks.{quiet, stops, handles_unheard, put_back_keeps}
use Rattle.sq_serving.proofs.desk.ServeDesk.put_before.Goals as goal

pub returns-in-Ok : goal.returns-in-Ok
returns-in-Ok g c =
    let was = c.args.self.now.sides in
    let now = c.put_back.new.self in
    let place = c.args.self.now.offered_at in
    let asked : AskedTxn = record { place = place; txn = c.args.job.txn } in
    let at : c.from-at.result ≡ c.args.job.part = c.from-at.ensures ∙ c.number.ensures in
    let changes : ChangesAt c.args.job.part (asked ∷ waiting_at was c.args.job.part) was now =
    subst (λ (part : ℕ). ChangesAt part (asked ∷ waiting_at was part) was now) at c.in-Ok.ensures.ok in
    handles_unheard (c.args.job ∷ []) [] _ _ refl
    (quiet [] (c.args.job ∷ []) [] _ _ refl refl refl refl refl refl refl refl changes.count (refl, refl)
    (λ part within. put_back_keeps place c.args.job was now changes part))

pub returns-in-Err : goal.returns-in-Err
returns-in-Err g c =
    handles_unheard (c.args.job ∷ []) [] _ _ refl
    (stops [] (c.args.job ∷ []) [] _ _ refl refl refl refl (ap (λ (w : List (List AskedTxn)). length w) c.in-Err.ensures.err))
