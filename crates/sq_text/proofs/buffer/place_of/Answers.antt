use Rattle.sq_text.proofs.Places.{first_place}
use Rattle.sq_text.proofs.buffer.place_of.Goals as goal

pub returns-in_default : goal.returns-in_default
returns-in_default c = first_place c.args.byte c.args.bytes.now c.memchr.result c.memchr.ensures
