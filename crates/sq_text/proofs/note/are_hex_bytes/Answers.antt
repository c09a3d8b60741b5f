use Rattle.std.proofs.Common.{◌≡◌, ◌%◌, length, refl, sym, ◌∙◌, arith}
use Rattle.sq_text.proofs.HexRun.{odd_none, spelled}
use Rattle.sq_text.proofs.note.are_hex_bytes.Goals as goal

pub returns-then-digits-eq0 : goal.returns-then-digits-eq0
returns-then-digits-eq0 c = c.are_hex_digits.ensures ∙ sym (spelled c.args.digits.now c.if-digits-eq0.true)

pub returns-else-digits-eq0 : goal.returns-else-digits-eq0
returns-else-digits-eq0 c =
    let one : length c.args.digits.now % 2 ≡ 1 = omega (arith, c.if-digits-eq0.false) in
    rw (one, odd_none c.args.digits.now one) refl
