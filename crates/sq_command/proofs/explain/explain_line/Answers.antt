use Rattle.std.proofs.Common.{◌∙◌}
use Rattle.clap.specs.Matches.{found_of}
use Rattle.clap.specs.Walk.{one_of, rows_of}
use Rattle.clap.proofs.WalkLemmas.{one_text-rows}
use Rattle.std.specs.Prelude.{codes}
use Rattle.sq_command.proofs.Numbers.{short_read}
use Rattle.sq_command.proofs.explain.explain_line.Goals as goal

pub returns : goal.returns
returns c =
    let rows = one_text-rows (found_of c.args.options.now) (codes "number") in
    short_read c.get_one.result (one_of (codes "number") (rows_of (found_of c.args.options.now))) (λ none. c.get_one.ensures.none (rows ∙ none))
    (λ t n is some. let told = rw some at (c.get_one.ensures.value t (rows ∙ is)) in told.0) (λ t is none. let told = rw none at (c.get_one.ensures.value t (rows ∙ is)) in told.1.0)
