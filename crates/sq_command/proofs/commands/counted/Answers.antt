use Rattle.std.proofs.Common.{◌∙◌, ap}
use Rattle.clap.specs.declared.builder.value_parser.ValueParser.{ValueParser}
use Rattle.sq_command.specs.Commands.{option_rule}
use Rattle.sq_command.proofs.commands.counted.Goals as goal

pub returns-clause-rule : goal.returns-clause-rule
returns-clause-rule c = c.option.ensures.rule ∙ ap (λ (parser : ValueParser). option_rule c.args.name.now parser c.args.default.now) c.numbers.ensures
