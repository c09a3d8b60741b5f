use Rattle.std.proofs.Common.{true, ap, ◌∙◌}
use Rattle.clap.specs.Walk.{Rule, rule_of}
use Rattle.clap.specs.declared.builder.arg.Arg.{Arg}
use Rattle.sq_command.proofs.demo.folder.Goals as goal

pub returns-clause-rule : goal.returns-clause-rule
returns-clause-rule c =
    ap rule_of c.required.ensures ∙ ap (λ (arg : Arg). record (rule_of arg) { required = true }) c.help.ensures
    ∙ ap (λ (arg : Arg). record (rule_of arg) { required = true }) c.value_name.ensures
    ∙ ap (λ (rule : Rule). record rule { value_names = 1; required = true }) c.new.ensures.rule

pub returns-clause-local : goal.returns-clause-local
returns-clause-local c =
    let global = λ (arg : Arg). arg.global in
    ap global c.required.ensures ∙ ap global c.help.ensures ∙ ap global c.value_name.ensures ∙ c.new.ensures.optional.1
