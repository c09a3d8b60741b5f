use Rattle.std.proofs.Common.{ℕ, List, true, false, subst}
use Rattle.sq_serving.specs.declared.serve_answer.ServeAnswer.TheVariants.{Rows}
use Rattle.sq_serving.specs.ServeAnswers.{serve_answer_line}
use Rattle.sq_serving.specs.Becoming.{desk_value, WritesBytes}
use Rattle.sq_serving.proofs.Answered.{refused_told}
use Rattle.sq_serving.proofs.rows.save_rows.Goals as goal

pub returns-in-Ok : goal.returns-in-Ok
returns-in-Ok g c =
    let dv = desk_value g.W.Write.contents in (
      true,
      subst (λ (name : List ℕ). g.V.ServeWatch.Saves c.args.watch.now name c.args.lines.now true) c.name.ensures c.in-Ok.ensures,
      subst (λ (n : ℕ). WritesBytes (serve_answer_line (Rows n)) (dv c.args.desk.now) (dv c.say.new.self)) c.line_ends.ensures
          c.say.ensures.line,
    )

pub returns-in-Err : goal.returns-in-Err
returns-in-Err g c =
    let dv = desk_value g.W.Write.contents in (
      false,
      subst (λ (name : List ℕ). g.V.ServeWatch.Saves c.args.watch.now name c.args.lines.now false) c.name.ensures c.in-Err.ensures,
      refused_told _ 124 (dv c.args.desk.now) (dv c.say_refused.new.self) c.unread_refusal.ensures.number c.say_refused.ensures.line,
    )
