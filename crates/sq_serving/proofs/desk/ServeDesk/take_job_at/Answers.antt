use Rattle.std.proofs.Common.{◌≡◌, ℕ, [], ◌∷◌, length, refl, sym, subst, ap, ◌∙◌}
use Rattle.std.specs.Prelude.{Ok}
use Rattle.sq_serving.specs.declared.serve_line.ServeLine.TheVariants as asks
use Rattle.sq_serving.specs.declared.feed.Fed.TheVariants as fed
use Rattle.sq_serving.specs.Becoming.{desk_value, Handles}
use Rattle.sq_serving.specs.Sides.{waiting_at}
use Rattle.sq_serving.proofs.Desks.{quiet, none_waits, offers_at_once, job_settled, false-not-true}
use Rattle.sq_serving.proofs.desk.ServeDesk.take_job_at.Goals as goal

pub returns-clause-handles : goal.returns-clause-handles
returns-clause-handles g c =
    let was = c.args.self.now.sides in
    let desk = desk_value g.W.Write.contents c.args.self.now in
    let now = record desk { offered_at = c.args.place } in
    let more = fed.Line c.args.place (Ok (asks.Job c.args.at c.args.txn)) ∷ [] in
    let none : waiting_at was c.args.at ≡ [] =
    ap (waiting_at was) (sym c.from.ensures)
    ∙ none_waits (waiting_at was c.from.result)
    (λ some. false-not-true (sym (c.has_jobs.ensures.1 some) ∙ c.if-has_jobs.false)) in
    subst (λ (at : ℕ). Handles more [] desk (record { part = at; txn = c.args.txn } ∷ []) now) (sym c.new.ensures)
    (quiet more [] (record { part = c.args.at; txn = c.args.txn } ∷ []) desk now refl refl refl refl refl refl refl refl refl
    (job_settled (length was) desk.moving desk.standing c.args.at c.args.place c.args.txn c.requires)
    (λ part within. offers_at_once c.args.place c.args.txn c.args.at was none part))
