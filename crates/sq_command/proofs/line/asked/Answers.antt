use Rattle.std.proofs.Common.{inl, inr}
use Rattle.std.specs.Prelude.{codes}
use Rattle.sq_command.proofs.Subcommands.{is_text, is_explain}
use Rattle.sq_command.proofs.line.asked.Goals as goal

pub returns-then-eq-clause-line : goal.returns-then-eq-clause-line
returns-then-eq-clause-line c = inl (is_text c.args.name.now (codes "run") c.if-eq.ensures, c.run_line.ensures.line)

pub returns-then-eq-2-clause-line : goal.returns-then-eq-2-clause-line
returns-then-eq-2-clause-line c = inr (inl (is_text c.args.name.now (codes "ranges") c.if-eq-2.ensures, c.ranges_line.ensures.line))

pub returns-then-eq-3-clause-line : goal.returns-then-eq-3-clause-line
returns-then-eq-3-clause-line c = inr (inr (inl (is_text c.args.name.now (codes "live") c.if-eq-3.ensures, c.live_line.ensures.line)))

pub returns-then-eq-4-clause-line : goal.returns-then-eq-4-clause-line
returns-then-eq-4-clause-line c = inr (inr (inr (inl (is_text c.args.name.now (codes "steps") c.if-eq-4.ensures, c.steps_line.ensures.line))))

pub returns-then-eq-5-clause-line : goal.returns-then-eq-5-clause-line
returns-then-eq-5-clause-line c = inr (inr (inr (inr (inl (is_text c.args.name.now (codes "owner") c.if-eq-5.ensures, c.owner_line.ensures.line)))))

pub returns-then-eq-6-clause-line : goal.returns-then-eq-6-clause-line
returns-then-eq-6-clause-line c = inr (inr (inr (inr (inr (inl (is_text c.args.name.now (codes "demo") c.if-eq-6.ensures, c.demo_line.ensures.line))))))

pub returns-then-eq-7-clause-line : goal.returns-then-eq-7-clause-line
returns-then-eq-7-clause-line c = inr (inr (inr (inr (inr (inr (inl (is_text c.args.name.now (codes "serve") c.if-eq-7.ensures, c.serve_line.ensures.line)))))))

pub returns-else-eq-7-clause-line : goal.returns-else-eq-7-clause-line
returns-else-eq-7-clause-line c =
    inr (inr (inr (inr (inr (inr (inr (is_explain c.args.name.now c.requires c.if-eq.ensures c.if-eq-2.ensures c.if-eq-3.ensures c.if-eq-4.ensures c.if-eq-5.ensures c.if-eq-6.ensures c.if-eq-7.ensures, c.explain_line.ensures)))))))
