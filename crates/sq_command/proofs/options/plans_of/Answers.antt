use Rattle.std.proofs.Common.{refl, sym, ◌∙◌}
use Rattle.clap.specs.Matches.{found_of}
use Rattle.clap.specs.Walk.{rows_of}
use Rattle.sq_command.proofs.Clashes.{new_is_missing, old_is_missing, both_are_missing}
use Rattle.sq_command.proofs.options.plans_of.Goals as goal

pub returns-in-Some-None : goal.returns-in-Some-None
returns-in-Some-None c = (refl, new_is_missing (rows_of (found_of c.args.options.now)) c.in-Some-None.field-0-0 c.in-Some-None.ensures c.in-Some-None.ensures')

pub returns-in-None-Some : goal.returns-in-None-Some
returns-in-None-Some c = (refl, old_is_missing (rows_of (found_of c.args.options.now)) c.in-None-Some.field-0-1 c.in-None-Some.ensures c.in-None-Some.ensures')

pub returns-in-None-None : goal.returns-in-None-None
returns-in-None-None c =
    (refl, both_are_missing (rows_of (found_of c.args.options.now)) c.name_of-rows.result c.in-None-None.ensures c.in-None-None.ensures' c.name_of-rows.ensures (sym c.is_some.ensures ∙ c.if-is_some.true))
