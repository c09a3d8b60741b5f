use Rattle.std.proofs.Common.{ℕ, [], ◌∷◌, ◌++◌, length, List, refl, ap, subst}
use Rattle.sq_serving.specs.declared.desk.AskedTxn.{AskedTxn}
use Rattle.sq_serving.specs.Becoming.{desk_value}
use Rattle.sq_serving.specs.Sides.{waiting_at, ChangesAt}
use Rattle.sq_serving.proofs.Desks.{quiet, stops, job_settled, put_behind_keeps}
use Rattle.sq_serving.proofs.desk.ServeDesk.put_behind.Goals as goal

pub returns-in-Ok-clause-handles : goal.returns-in-Ok-clause-handles
returns-in-Ok-clause-handles g c =
    let was = c.args.self.now.sides in
    let now = c.put_behind.new.self in
    let changes : ChangesAt c.args.at (waiting_at was c.args.at ++ c.args.asked ∷ []) was now =
    subst (λ (at : ℕ). ChangesAt at (waiting_at was at ++ c.args.asked ∷ []) was now) c.from.ensures c.in-Ok.ensures.ok in
    quiet _ _ _ _ _ refl refl refl refl refl refl refl refl changes.count (job_settled (length was) c.args.self.now.moving (desk_value g.W.Write.contents c.args.self.now).standing c.args.at c.args.asked.place c.args.asked.txn c.requires)
    (λ part within. put_behind_keeps c.args.asked c.args.at was now changes part)

pub returns-in-Err-clause-handles : goal.returns-in-Err-clause-handles
returns-in-Err-clause-handles g c =
    stops _ _ _ _ _ refl refl refl refl (ap (λ (w : List (List AskedTxn)). length w) c.in-Err.ensures.err)
