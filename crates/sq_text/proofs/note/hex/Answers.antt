use Rattle.std.proofs.Common.{rules}
use Rattle.sq_text.proofs.HexRun.{odd_none, other_none, begins, goes_on}
use Rattle.sq_text.proofs.note.hex.Goals as goal
use Rattle.sq_text.proofs.note.hex.Goals.{then-digits-eq1-via-then-digits-eq1, then-digits-eq1-via-else-digits-eq1+then-not-are_hex_digits}

pub returns-then-digits-eq1 : goal.returns-then-digits-eq1
returns-then-digits-eq1 c = elim c.then-digits-eq1.branch [
  | then-digits-eq1-via-then-digits-eq1 w ↦ odd_none c.args.digits.now (search rules)
  | then-digits-eq1-via-else-digits-eq1+then-not-are_hex_digits w ↦ other_none c.args.digits.now (search rules)
]

pub loop-at-init : goal.loop-at-init
loop-at-init c = (search rules, begins _)

pub loop-at-preserved : goal.loop-at-preserved
loop-at-preserved c = (search rules, goes_on c.loop-at.bytes.items c.args.digits.now c.loop-at.at c.hex_byte.result _ (search rules) (search rules) c.hex_byte.ensures c.loop-at.invariant.1)
