use Rattle.std.proofs.Common.{true, ap, ◌∙◌}
use Rattle.clap.specs.Walk.{Rule, rule_of}
use Rattle.clap.specs.declared.builder.arg.Arg.{Arg}
use Rattle.sq_command.proofs.owner.needed_path.Goals as goal

pub returns-clause-rule : goal.returns-clause-rule
returns-clause-rule c = ap rule_of c.required.ensures ∙ ap (λ (rule : Rule). record rule { required = true }) c.path.ensures.rule

pub returns-clause-local : goal.returns-clause-local
returns-clause-local c = ap (λ (arg : Arg). arg.global) c.required.ensures ∙ c.path.ensures.local
