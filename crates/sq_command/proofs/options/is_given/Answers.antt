use Rattle.std.proofs.Common.{◌∙◌}
use Rattle.clap.specs.Matches.{found_of}
use Rattle.clap.proofs.WalkLemmas.{one_text-rows}
use Rattle.sq_command.proofs.options.is_given.Goals as goal

pub returns : goal.returns
returns c =
    let rows = one_text-rows (found_of c.args.options.now) c.args.flag.now in
    record {
      given = λ is. c.get_flag.ensures.value (rows ∙ is);
      denied = λ is. c.get_flag.ensures.other (rows ∙ is);
      without = λ none. c.get_flag.ensures.none (rows ∙ none);
    }
