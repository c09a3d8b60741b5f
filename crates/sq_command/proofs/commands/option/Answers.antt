use Rattle.std.specs.Prelude.{Some, [], ◌∷◌}
use Rattle.std.proofs.Common.{◌≡◌, ap, ◌∙◌}
use Rattle.clap.specs.Walk.{Rule, rule_of}
use Rattle.clap.specs.declared.builder.arg.Arg.{Arg}
use Rattle.sq_command.proofs.commands.option.Goals as goal

pub returns-clause-rule : goal.returns-clause-rule
returns-clause-rule c =
    let parser : c.value_parser.result.value_parser ≡ Some c.args.parser = c.value_parser.ensures.given.1 ∙ ap Some c.value_parser.ensures.given.2 in
    let parsed = ap rule_of c.value_parser.ensures.others ∙ (λ i. record (c.valued.ensures.rule i) { parser = parser i }) in
    ap rule_of c.default_value.ensures ∙ ap (λ (rule : Rule). record rule { defaults = c.args.default.now ∷ [] }) parsed

pub returns-clause-local : goal.returns-clause-local
returns-clause-local c =
    let global = λ (arg : Arg). arg.global in
    ap global c.default_value.ensures ∙ ap global c.value_parser.ensures.others ∙ c.valued.ensures.local
