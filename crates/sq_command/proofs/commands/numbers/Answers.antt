use Rattle.std.proofs.Common.{◌∙◌, w64, ◌<◌, ◌^◌, arith}
use Rattle.std.proofs.Math.Facts.{to_z_pos}
use Rattle.sq_command.proofs.Numbers.{narrowed_to}
use Rattle.sq_command.proofs.commands.numbers.Goals as goal

pub returns : goal.returns
returns c =
    let low : c.args.least < 2 ^ 63 = omega arith in
    narrowed_to c.args.least c.args.most _ _ c.range.result c.requires.some c.requires.within (c.new.ensures.start ∙ to_z_pos w64 low) (c.new.ensures.end ∙ to_z_pos w64 c.requires.within)
    (rw c.value_parser.ensures at c.range.ensures)
