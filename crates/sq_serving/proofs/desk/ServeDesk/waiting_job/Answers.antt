use Rattle.std.proofs.Common.{◌≡◌, ℕ, [], ◌∷◌, ◌++◌, refl, List, sym, ap, subst}
use Rattle.sq_serving.specs.declared.desk.AskedTxn.{AskedTxn}
use Rattle.sq_serving.specs.Becoming.{ServeDeskValue, desk_value, asked_at}
use Rattle.sq_serving.specs.Sides.{waiting_at, TakesFirst}
use Rattle.sq_serving.proofs.Desks.{quiet, handles_unheard, same_hears, take_keeps}
use Rattle.sq_serving.proofs.desk.ServeDesk.waiting_job.Goals as goal

pub returns-in-Some : goal.returns-in-Some
returns-in-Some g c =
    let was = c.args.self.now.sides in
    let now = c.take.new.self in
    let asked = c.in-Some.asked in
    let takes : TakesFirst c.in-Some.part asked was now = c.in-Some.ensures in
    handles_unheard [] _ _ _ refl
    (quiet [] [] _ _ _ refl refl refl refl refl refl refl refl takes.changes.count (refl, refl)
    (λ part within.
    subst (λ (at : ℕ). waiting_at was part ++ [] ≡ asked_at asked.place part (record { part = at; txn = asked.txn } ∷ []) ++ waiting_at now part)
    (sym c.new.ensures) (take_keeps asked c.in-Some.part was now takes part)))

pub returns-in-None : goal.returns-in-None
returns-in-None g c =
    let was = desk_value g.W.Write.contents c.args.self.now in
    let now : List (List AskedTxn) → ServeDeskValue = λ waiting. record was { waiting = waiting } in
    same_hears was (now c.take.new.self) (ap now c.in-None.ensures)
