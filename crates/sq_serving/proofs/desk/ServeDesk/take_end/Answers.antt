use Rattle.std.proofs.Common.{[], ◌∷◌, ℕ, refl, subst}
use Rattle.std.specs.Prelude.{Option, None, Some}
use Rattle.sq_serving.specs.declared.line_place.LinePlace.{LinePlace}
use Rattle.sq_serving.specs.declared.serve_answer.ServeAnswer.TheVariants.{Fault}
use Rattle.sq_serving.specs.ServeAnswers.{serve_answer_line}
use Rattle.sq_serving.specs.declared.feed.Fed.TheVariants as fed
use Rattle.sq_serving.specs.declared.feed.InputEnd.TheVariants as end
use Rattle.sq_serving.specs.declared.ending.InputOutcome.TheVariants as outcome
use Rattle.sq_serving.specs.Saying.{Answered}
use Rattle.sq_serving.specs.Becoming.{desk_value, WritesBytes}
use Rattle.sq_serving.proofs.Desks.{answers_ended, ends_whole, stopped_handles}
use Rattle.sq_serving.proofs.desk.ServeDesk.take_end.Goals as goal

pub returns-in-Whole-clause-handles : goal.returns-in-Whole-clause-handles
returns-in-Whole-clause-handles g c =
    rw c.in-Whole.is (ends_whole _ _ refl)

pub returns-in-Broken-clause-handles : goal.returns-in-Broken-clause-handles
returns-in-Broken-clause-handles g c =
    let contents = g.W.Write.contents in
    let before = desk_value contents c.args.self.now in
    let broken = Some outcome.Broken in
    let was = record before { ended = broken } in
    let now = desk_value contents c.say_fault.new.self in
    let is = c.without_text.ensures in
    let line = c.without_text.result in
    let says : WritesBytes (serve_answer_line (Fault c.in-Broken.fault c.in-Broken.place.line None)) was now =
    subst (λ (n : ℕ). WritesBytes (serve_answer_line (Fault n c.in-Broken.place.line None)) was now) is.number
    (subst (λ (p : LinePlace). WritesBytes (serve_answer_line (Fault line.number p.line None)) was now) is.place
    (subst (λ (id : Option ℕ). WritesBytes (serve_answer_line (Fault line.number line.place.line id)) was now) is.no_id
    c.say_fault.ensures.line)) in
    rw c.in-Broken.is
    (answers_ended (fed.End (end.Broken c.in-Broken.fault c.in-Broken.place)) (Answered (Fault c.in-Broken.fault c.in-Broken.place.line None)) broken
    before now says (refl, refl) (λ part within. refl)
    (λ heard knows. (c.in-Broken.fault, c.in-Broken.place, (heard, [], refl))))

pub returns-in-Memory-clause-handles : goal.returns-in-Memory-clause-handles
returns-in-Memory-clause-handles g c = stopped_handles (fed.End c.args.end ∷ []) [] [] _ _ c.stop_for_memory.ensures
