use Rattle.std.proofs.Common.{true, sym, ap, ◌∙◌}
use Rattle.std.specs.Prelude.{cond, ◌==◌}
use Rattle.sq_exec.specs.Index.{is_among}
use Rattle.sq_exec.proofs.Ranges.{set_entry, put_due, not_due, back_again}
use Rattle.sq_exec.proofs.index.enter.Goals as goal

pub returns-then-not-is_due-clause-ok : goal.returns-then-not-is_due-clause-ok
returns-then-not-is_due-clause-ok c = record {
  entries = set_entry c.args.by_root.now c.insert.new.self c.args.root c.args.number true c.in_ok-insert.ensures.updates.0;
  due = λ n. not_due c.args.due.now c.args.number c.requires.not_due n ∙ ap (λ b. cond (c.args.number == n) b (is_among c.args.due.now n)) (sym c.if-not-is_due.true);
}

pub returns-in-Ok-clause-ok : goal.returns-in-Ok-clause-ok
returns-in-Ok-clause-ok c = record {
  entries = set_entry c.args.by_root.now c.insert.new.self c.args.root c.args.number true c.in_ok-insert.ensures.updates.0;
  due = λ n. put_due c.args.due.now c.put.new.self c.args.number c.in-Ok.ensures.ok n ∙ ap (λ b. cond (c.args.number == n) b (is_among c.args.due.now n)) (sym c.if-not-is_due.false);
}

pub returns-in-Err-clause-err : goal.returns-in-Err-clause-err
returns-in-Err-clause-err c = record {
  entries = back_again c.args.by_root.now c.insert.new.self c.remove.new.self c.args.root c.args.number c.requires.new c.in_ok-insert.ensures.updates.0 c.remove.ensures.updates.0;
  due = λ n. ap (λ ns. is_among ns n) c.in-Err.ensures.err;
}
