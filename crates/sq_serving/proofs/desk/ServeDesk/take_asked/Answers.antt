use Rattle.std.proofs.Common.{◌+◌, inl, inr, refl}
use Rattle.std.specs.Prelude.{Ok, Some, None, sum_by, length}
use Rattle.sq_text.specs.Texts.{refused_line}
use Rattle.sq_serving.specs.declared.serve_answer.ServeAnswer.TheVariants.{Folded, Paused, Resumed}
use Rattle.sq_serving.specs.declared.serve_line.ServeLine.TheVariants as asks
use Rattle.sq_serving.specs.declared.desk.Wish.TheVariants as wish
use Rattle.sq_serving.specs.declared.feed.Fed.TheVariants as fed
use Rattle.sq_serving.specs.Saying.{Answered, PlanTold}
use Rattle.sq_serving.specs.Settling.{unanswered_jobs}
use Rattle.sq_serving.specs.Becoming.{asked_move}
use Rattle.sq_serving.proofs.Desks.{answers_one, chunk_answered, drop_answered, drop_unheard, json_answered, move_unheard, move_wanted, owner_answered, pumps_answered, pumps_unheard, status_answered, wish_unheard, wishes_one}
use Rattle.sq_serving.proofs.desk.ServeDesk.take_asked.Goals as goal

pub returns-in-Move-clause-handles : goal.returns-in-Move-clause-handles
returns-in-Move-clause-handles g c =
    rw c.in-Move.is
    (move_wanted (asked_move c.args.place c.in-Move.plan c.args.self.now.limit) (length c.args.self.now.queue + 1) _ _ c.want_move.ensures.either)

pub returns-in-Move-clause-heard : goal.returns-in-Move-clause-heard
returns-in-Move-clause-heard g c =
    move_unheard (asked_move c.args.place c.in-Move.plan c.args.self.now.limit) (length c.args.self.now.queue + 1) _ _ c.want_move.ensures.either

pub returns-in-Fold-clause-handles : goal.returns-in-Fold-clause-handles
returns-in-Fold-clause-handles g c =
    let answers = c.args.self.now.counts.answered in
    rw c.in-Fold.is
    (answers_one (fed.Line c.args.place (Ok asks.Fold)) (Answered (Folded answers)) _ _ c.say_folded.ensures (refl, refl) (λ part within. refl))

pub returns-in-Rows-clause-heard : goal.returns-in-Rows-clause-heard
returns-in-Rows-clause-heard g c = wish_unheard (wish.Rows (record { place = c.args.place; file = None })) (refused_line 217) _ _ c.want_at_rest.ensures.either

pub returns-in-Rows-clause-handles : goal.returns-in-Rows-clause-handles
returns-in-Rows-clause-handles g c =
    rw c.in-Rows.is
    (wishes_one (fed.Line c.args.place (Ok asks.Rows)) (wish.Rows (record { place = c.args.place; file = None })) _ _ (inl (refl, refl)) (inr (refl, refl)) (λ part within. refl) c.want_at_rest.ensures.either)

pub returns-in-RowsTo-clause-heard : goal.returns-in-RowsTo-clause-heard
returns-in-RowsTo-clause-heard g c = wish_unheard (wish.Rows (record { place = c.args.place; file = Some c.in-RowsTo.file })) (refused_line 217) _ _ c.want_at_rest-in-RowsTo.ensures.either

pub returns-in-RowsTo-clause-handles : goal.returns-in-RowsTo-clause-handles
returns-in-RowsTo-clause-handles g c =
    rw c.in-RowsTo.is
    (wishes_one (fed.Line c.args.place (Ok (asks.RowsTo c.in-RowsTo.file))) (wish.Rows (record { place = c.args.place; file = Some c.in-RowsTo.file })) _ _ (inl (refl, refl)) (inr (refl, refl)) (λ part within. refl) c.want_at_rest-in-RowsTo.ensures.either)

pub returns-in-Status-clause-heard : goal.returns-in-Status-clause-heard
returns-in-Status-clause-heard g c = c.say_status.ensures.4.heard

pub returns-in-Status-clause-handles : goal.returns-in-Status-clause-handles
returns-in-Status-clause-handles g c =
    let was = c.args.self.now in
    rw c.in-Status.is
    (status_answered c.args.place (unanswered_jobs was.counts (sum_by length was.sides)) _ _ c.say_status.ensures)

pub returns-in-Plan-clause-handles : goal.returns-in-Plan-clause-handles
returns-in-Plan-clause-handles g c =
    let plan = c.args.self.now.plan in
    rw c.in-Plan.is
    (answers_one (fed.Line c.args.place (Ok asks.Plan)) (PlanTold plan) _ _ c.say_plan.ensures (refl, refl) (λ part within. refl))

pub returns-in-StatusJson-clause-heard : goal.returns-in-StatusJson-clause-heard
returns-in-StatusJson-clause-heard g c = c.say_status_json.ensures.2.heard

pub returns-in-StatusJson-clause-handles : goal.returns-in-StatusJson-clause-handles
returns-in-StatusJson-clause-handles g c =
    rw c.in-StatusJson.is (json_answered c.args.place _ _ c.say_status_json.ensures)

pub returns-in-Owner-clause-heard : goal.returns-in-Owner-clause-heard
returns-in-Owner-clause-heard g c = c.say_owner.ensures.heard

pub returns-in-Owner-clause-handles : goal.returns-in-Owner-clause-handles
returns-in-Owner-clause-handles g c =
    rw c.in-Owner.is (owner_answered c.args.place c.in-Owner.root _ _ c.say_owner.ensures)

pub returns-in-Pause-clause-handles : goal.returns-in-Pause-clause-handles
returns-in-Pause-clause-handles g c =
    rw c.in-Pause.is
    (answers_one (fed.Line c.args.place (Ok asks.Pause)) (Answered Paused) _ _ c.pause.ensures.line (refl, refl) (λ part within. refl))

pub returns-in-Resume-clause-handles : goal.returns-in-Resume-clause-handles
returns-in-Resume-clause-handles g c =
    rw c.in-Resume.is
    (answers_one (fed.Line c.args.place (Ok asks.Resume)) (Answered Resumed) _ _ c.resume.ensures.line (refl, refl) (λ part within. refl))

pub returns-in-Pumps-clause-heard : goal.returns-in-Pumps-clause-heard
returns-in-Pumps-clause-heard g c =
    pumps_unheard c.args.place c.in-Pumps.count c.args.self.now.config.pumps _ _ c.set_pumps.ensures.some c.set_pumps.ensures.fault

pub returns-in-Pumps-clause-handles : goal.returns-in-Pumps-clause-handles
returns-in-Pumps-clause-handles g c =
    rw c.in-Pumps.is
    (pumps_answered c.args.place c.in-Pumps.count c.args.self.now.config.pumps _ _ c.set_pumps.ensures.some c.set_pumps.ensures.fault)

pub returns-in-Chunk-clause-heard : goal.returns-in-Chunk-clause-heard
returns-in-Chunk-clause-heard g c = c.set_limit.ensures.line.heard

pub returns-in-Chunk-clause-handles : goal.returns-in-Chunk-clause-handles
returns-in-Chunk-clause-handles g c =
    rw c.in-Chunk.is (chunk_answered c.args.place c.in-Chunk.bytes _ _ c.set_limit.ensures.line)

pub returns-in-Drop-clause-heard : goal.returns-in-Drop-clause-heard
returns-in-Drop-clause-heard g c = drop_unheard c.args.self.now.queue _ _ c.drop_last.ensures

pub returns-in-Drop-clause-handles : goal.returns-in-Drop-clause-handles
returns-in-Drop-clause-handles g c = rw c.in-Drop.is (drop_answered c.args.place c.args.self.now.queue _ _ c.drop_last.ensures)
