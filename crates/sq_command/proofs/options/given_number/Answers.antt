use Rattle.std.proofs.Common.{◌∙◌, arith}
use Rattle.clap.specs.Matches.{found_of}
use Rattle.clap.specs.Walk.{one_of, rows_of}
use Rattle.clap.proofs.WalkLemmas.{one_text-rows}
use Rattle.sq_command.proofs.Numbers.{ReadsNumber, number_read, number_out, number_none}
use Rattle.sq_command.proofs.options.given_number.Goals as goal
use Rattle.sq_command.proofs.options.given_number.Goals.{In-Some}

-- the number of an option that has one
reads : (c : In-Some) → ReadsNumber c.in-Some.number (one_of c.args.name.now (rows_of (found_of c.args.options.now)))
reads c =
    let rows = one_text-rows (found_of c.args.options.now) c.args.name.now in
    record {
      given = λ none. c.in-Some.ensures.none (rows ∙ none);
      spelled = λ t is. let told = c.in-Some.ensures.value t (rows ∙ is) in told.0;
    }

pub returns-in-Some-clause-number : goal.returns-in-Some-clause-number
returns-in-Some-clause-number c = number_read c.args.least c.args.most c.in-Some.number _ (reads (goal.at.returns-in-Some-clause-number c).In-Some) c.if-least-number.true c.if-number-most.true

pub returns-in_default-clause-number : goal.returns-in_default-clause-number
returns-in_default-clause-number c =
    number_out c.args.least c.args.most c.in-Some.number _ (reads (goal.at.returns-in_default-clause-number c).In-Some) (λ some within. let over = c.if-number-most.false in omega (arith, over, within))

pub returns-in_default-2-clause-number : goal.returns-in_default-2-clause-number
returns-in_default-2-clause-number c =
    number_out c.args.least c.args.most c.in-Some.number _ (reads (goal.at.returns-in_default-2-clause-number c).In-Some) (λ some within. let under = c.if-least-number.false in omega (arith, under, some))

pub returns-in_default-3-clause-number : goal.returns-in_default-3-clause-number
returns-in_default-3-clause-number c =
    let rows = one_text-rows (found_of c.args.options.now) c.args.name.now in
    number_none c.args.least c.args.most _ (λ t is. let told = c.in_default.ensures.value t (rows ∙ is) in told.1.0)
