use Rattle.std.proofs.Common.{ℕ, ap}
use Rattle.std.specs.Prelude.{None}
use Rattle.sq_text.specs.Texts.{fault_line}
use Rattle.sq_serving.specs.declared.serve_answer.ServeAnswer.TheVariants.{Fault}
use Rattle.sq_serving.specs.ServeAnswers.{serve_answer_line}
use Rattle.sq_serving.proofs.telling.say_located.Goals as goal

pub returns-in-Some : goal.returns-in-Some
returns-in-Some g c =
    let fault = c.number-fault in
    let line = c.in-Some.place.line in (
      serve_answer_line (Fault fault.result line None),
      rw c.in-Some.is (ap (λ (n : ℕ). serve_answer_line (Fault n line None)) fault.ensures),
      c.say.ensures,
    )

pub returns-in-None : goal.returns-in-None
returns-in-None g c =
    (fault_line c.number-fault.result, rw c.in-None.is (ap fault_line c.number-fault.ensures), c.say_fault.ensures)
