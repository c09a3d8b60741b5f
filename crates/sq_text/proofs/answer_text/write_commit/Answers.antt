use Rattle.std.proofs.Common.{◌++◌, ap, ◌∙◌, append-nil}
use Rattle.std.specs.Prelude.{codes, decimal}
use Rattle.sq_text.proofs.Appending.{three, commit_line}
use Rattle.sq_text.proofs.answer_text.write_commit.Goals as goal

pub returns-in_ok-write_op_answers-in_default : goal.returns-in_ok-write_op_answers-in_default
returns-in_ok-write_op_answers-in_default g c =
    let front = c.as_bytes.ensures ∙ c.put.ensures ∙ ap (λ text. codes "commit " ++ text) (c.put_number.ensures.text ∙ ap (λ text. decimal c.args.id ++ text) c.new-text.ensures ∙ append-nil (decimal c.args.id)) in
    three c.write_bytes-in_default.result _ _ _ _ _ _ _ _ c.in_ok-write_bytes-in_default.ensures c.in_ok-write_op_answers-in_default.ensures c.write_bytes-in_default.ensures (commit_line c.args.id c.args.answers.now _ front)
