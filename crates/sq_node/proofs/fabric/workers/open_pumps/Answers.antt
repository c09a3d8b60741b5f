use Rattle.std.proofs.Common.{◌≡◌, ℕ, ◌+◌, List, sym, ap, ◌∙◌, subst, arith}
use Rattle.atomic_table.specs.Seated.{TableId}
use Rattle.sq_node.specs.FabricValue.{FabricValue}
use Rattle.sq_node.specs.Opened.{AreFirstSeats, AreNewPumps}
use Rattle.sq_node.proofs.NewNodes.{alike, gave_one_more, more_pumps}
use Rattle.sq_node.proofs.fabric.workers.open_pumps.Goals as goal

pub loop-number-preserved : goal.loop-number-preserved
loop-number-preserved c =
    let old = c.loop-number.fabric in
    let new = c.open_pump.new.fabric in
    let number = c.loop-number.number in
    record {
      same = c.open_pump.ensures.same ∙ ap (λ (f : FabricValue). record f { seats = new.seats }) c.loop-number.invariant.same;
      seats = λ given first.
          let more : given + number + 1 ≡ given + (number + 1) = omega arith in
          subst (λ (n : ℕ). AreFirstSeats n new.trees new.seats) more
          (subst (λ (trees : List TableId). AreFirstSeats (given + number + 1) trees new.seats) (sym (ap (λ (f : FabricValue). f.trees) c.open_pump.ensures.same))
          (gave_one_more (given + number) old.trees old.seats new.seats (c.loop-number.invariant.seats given first) c.in_ok-open_pump.ensures.gave));
      pumps = subst (AreNewPumps new (number + 1)) (sym c.in_ok-push.ensures.items)
          (more_pumps old new number c.loop-number.pumps.items c.in_ok-open_pump.field-0 (alike old new c.open_pump.ensures.same) c.loop-number.invariant.pumps c.in_ok-open_pump.ensures.pump);
    }

pub returns-clause-seats : goal.returns-clause-seats
returns-clause-seats c = λ given first.
    let all : c.loop-number.number ≡ c.args.count = omega (arith, c.loop-number-test.false, c.loop-number.auto.number-end) in
    subst (λ (n : ℕ). AreFirstSeats (given + n) c.loop-number.fabric.trees c.loop-number.fabric.seats) all (c.loop-number.invariant.seats given first)
