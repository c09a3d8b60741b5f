use Rattle.std.proofs.Common.{length, ap, arith, length-append, length-drop}
use Rattle.std.proofs.lemmas.Fmt.{length-decimal-le}
use Rattle.sq_text.proofs.text.TextOf.put_number.Goals as goal

pub write_digits-self-inside-requires : goal.write_digits-self-inside-requires
write_digits-self-inside-requires g c =
    let short = length-decimal-le 20 c.args.number (omega arith) (omega arith) (omega arith) in
    let left = ap length c.self.view_is in
    let is = length-drop c.self.inside.start c.self.inside.bytes in
    (omega (arith, short, left, is, c.requires), omega (arith, c.self.invariant))

pub returns-clause-size : goal.returns-clause-size
returns-clause-size g c =
    let short = length-decimal-le 20 c.args.number (omega arith) (omega arith) (omega arith) in
    let left = ap length c.self.view_is in
    rw (c.write_digits-self-inside.ensures.written, length-append) (omega (arith, short, left))
