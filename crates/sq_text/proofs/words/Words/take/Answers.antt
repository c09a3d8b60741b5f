use Rattle.std.proofs.Common.{sym, ◌∙◌}
use Rattle.std.proofs.lemmas.List.{take_rest}
use Rattle.sq_text.proofs.Splits.{split_by-at, split_by-none}
use Rattle.sq_text.proofs.words.Words.take.Goals as goal

pub returns-in-Some : goal.returns-in-Some
returns-in-Some c = rw take_rest (split_by-at 32 c.args.bytes.now c.in-Some.at (sym c.requires ∙ c.in-Some.is))

pub returns-in-None : goal.returns-in-None
returns-in-None c = split_by-none 32 c.args.bytes.now (sym c.requires ∙ c.in-None.is)
