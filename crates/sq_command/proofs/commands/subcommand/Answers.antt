use Rattle.std.proofs.Common.{ap, ◌∙◌}
use Rattle.clap.specs.Simple.{App, shape_of_fields}
use Rattle.clap.specs.declared.builder.command.Command.{Command}
use Rattle.clap.specs.declared.builder.command.Command.TheOpen.{Command-F}
use Rattle.sq_command.proofs.commands.subcommand.Goals as goal

pub returns-clause-shape : goal.returns-clause-shape
returns-clause-shape c =
    ap shape_of_fields c.after_help.ensures ∙ ap shape_of_fields c.about.ensures ∙ ap (λ (app : App). app.top) c.new.ensures.app

pub returns-clause-local : goal.returns-clause-local
returns-clause-local c =
    ap (λ (fields : Command-F Command). fields.has_globals) c.after_help.ensures ∙ ap (λ (fields : Command-F Command). fields.has_globals) c.about.ensures
    ∙ c.new.ensures.local
