use Rattle.std.proofs.Common.{ℕ, List, inl, inr, sym, subst}
use Rattle.sq_schema.specs.Fault.{memory_number}
use Rattle.sq_serving.specs.Becoming.{desk_value}
use Rattle.sq_serving.specs.Rows.{IsRowsText}
use Rattle.sq_serving.proofs.Answered.{fault_told}
use Rattle.sq_serving.proofs.rows.give_engine_rows.Goals as goal

pub returns-in-Ok : goal.returns-in-Ok
returns-in-Ok g c =
    let stores = c.in-Some.stores.now in
    inl (record {
      stores = stores;
      lent = sym c.in-Some.ensures;
      lines = c.deref.result.now;
      is = subst (λ (text : List ℕ). IsRowsText stores text) (sym c.deref.ensures.value) c.in-Ok.ensures;
      gives = c.give_rows.ensures;
    })

pub returns-in-Err : goal.returns-in-Err
returns-in-Err g c =
    let dv = desk_value g.W.Write.contents in
    let made = c.unread_refusal.ensures in
    inr (fault_told _ memory_number _ c.args.asked.place _ (dv c.args.desk.now) (dv c.say_fault.new.self) made.number made.place made.no_id
    c.say_fault.ensures.line)
