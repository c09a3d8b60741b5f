use Rattle.std.proofs.Common.{refl, arith}
use Rattle.sq_serving.specs.Receipts.{receipt_line}
use Rattle.sq_serving.specs.Settling.{Standing}
use Rattle.sq_serving.specs.Becoming.{desk_value}
use Rattle.sq_serving.proofs.Desks.{writes_bytes}
use Rattle.sq_serving.proofs.desk.ServeDesk.take.Goals as goal

pub returns : goal.returns
returns g c =
    let was = c.args.self.now in
    let contents = g.W.Write.contents in
    let before = desk_value contents was in
    let counted : Standing = record { plan = was.plan; answered = c.saturating_add-self.result } in (
      counted,
      record { plan = refl; answered = λ fits. let sum = c.saturating_add-self.ensures in omega (arith, fits, sum) },
      writes_bytes contents (receipt_line c.args.receipt) was.lacks_memory (record before { standing = counted }) was.outlet c.say_receipt.new.self
          c.say_receipt.ensures,
    )
