-- The walk ends at the partition sought, or behind the last range.
use Rattle.std.proofs.Common.{◌≡◌, ◌<◌, ◌∷◌, ◌+◌, false, true, true≢false, get_or, set, length, drop, sym, ap, ◌∙◌, arith, get_or-set_other}
use Rattle.std.proofs.lemmas.Bool.{eq-eqb}
use Rattle.std.proofs.lemmas.List.{at_drop_more, at_drop_all, length-replicate, length-set}
use Rattle.sq_moves.specs.declared.recon.Range.{Range}
use Rattle.sq_moves.specs.declared.stage.TheConstants.{PART_NUMBERS}
use Rattle.sq_moves.proofs.Places.{ahead, ahead-first, none_seen, ahead-other, ahead-here, ahead-seen, ahead-new}
use Rattle.sq_moves.proofs.stage.place_on.Goals as goal
use Rattle.sq_moves.proofs.stage.place_on.Goals.{then-eq+else-eq-2+then-not-seen-other, then-eq+else-eq-2+else-not-seen-other, else-eq}

pub loop-range-init : goal.loop-range-init
loop-range-init c = record {
  found = ahead-first PART_NUMBERS c.args.src c.args.dst c.args.ranges.now;
  unseen = none_seen PART_NUMBERS c.args.dst;
  size = length-replicate PART_NUMBERS false;
  few = omega arith;
}

pub loop-range-preserved : goal.loop-range-preserved
loop-range-preserved c =
    let was = c.loop-range.invariant in
    let next : ahead c.loop-range.seen c.loop-range.place c.args.src c.args.dst (drop c.loop-range.range-index c.args.ranges.now)
    ≡ ahead c.loop-range.seen c.loop-range.place c.args.src c.args.dst (c.range-item.result ∷ drop (c.loop-range.range-index + 1) c.args.ranges.now)
    = at_drop_more (ahead c.loop-range.seen c.loop-range.place c.args.src c.args.dst) c.args.ranges.now c.loop-range.range-index c.range-item.result c.loop-range-test.true ∙ ap (λ (r : Range). ahead c.loop-range.seen c.loop-range.place c.args.src c.args.dst (r ∷ drop (c.loop-range.range-index + 1) c.args.ranges.now)) (sym c.range-item.is) in
    let rest = drop (c.loop-range.range-index + 1) c.args.ranges.now in
    elim c.if-eq.branch [
      | then-eq+else-eq-2+then-not-seen-other w ↦
          let other : w.from-other.result ≡ c.range-item.result.dst = w.from-other.ensures ∙ w.number.ensures in
          let fresh = ap (λ d. get_or c.loop-range.seen d false) (sym other) ∙ w.if-not-seen-other.true in
          let apart = sym w.eq-then-eq.ensures ∙ w.if-eq-2.false in
          let seen = w.seen-is ∙ ap (λ d. set c.loop-range.seen d true) other in
          let low : c.range-item.result.dst < length c.loop-range.seen = omega (arith, w.number.type_inv, w.number.ensures, was.size) in
          record {
            found = rw (seen, w.place-is) (sym (ahead-new c.loop-range.seen c.loop-range.place c.args.src c.args.dst c.range-item.result rest (sym c.eq.ensures ∙ w.if-eq.true) apart fresh low) ∙ sym next ∙ was.found);
            unseen = ap (λ marks. get_or marks c.args.dst false) seen ∙ get_or-set_other c.loop-range.seen c.range-item.result.dst c.args.dst true false (λ is. true≢false (sym (eq-eqb _ _ (sym is)) ∙ apart)) ∙ was.unseen;
            size = ap length seen ∙ length-set c.loop-range.seen c.range-item.result.dst true ∙ was.size;
            few = omega (arith, w.place-is, was.few);
          }
      | then-eq+else-eq-2+else-not-seen-other w ↦
          let other : w.from-other.result ≡ c.range-item.result.dst = w.from-other.ensures ∙ w.number.ensures in
          let passed = ap (λ d. get_or c.loop-range.seen d false) (sym other) ∙ w.if-not-seen-other.false in
          record {
            found = rw (w.seen-is, w.place-is) (sym (ahead-seen c.loop-range.seen c.loop-range.place c.args.src c.args.dst c.range-item.result rest (sym c.eq.ensures ∙ w.if-eq.true) passed) ∙ sym next ∙ was.found);
            unseen = ap (λ marks. get_or marks c.args.dst false) w.seen-is ∙ was.unseen;
            size = ap length w.seen-is ∙ was.size;
            few = omega (arith, w.place-is, was.few);
          }
      | else-eq w ↦
          record {
            found = rw (w.seen-is, w.place-is) (sym (ahead-other c.loop-range.seen c.loop-range.place c.args.src c.args.dst c.range-item.result rest (sym c.eq.ensures ∙ w.if-eq.false)) ∙ sym next ∙ was.found);
            unseen = ap (λ marks. get_or marks c.args.dst false) w.seen-is ∙ was.unseen;
            size = ap length w.seen-is ∙ was.size;
            few = omega (arith, w.place-is, was.few);
          }
    ]

pub returns-then-eq-2-clause-place : goal.returns-then-eq-2-clause-place
returns-then-eq-2-clause-place c =
    let rest = drop (c.loop-range.range-index + 1) c.args.ranges.now in
    let next = at_drop_more (ahead c.loop-range.seen c.loop-range.place c.args.src c.args.dst) c.args.ranges.now c.loop-range.range-index c.range-item.result c.loop-range-test.true ∙ ap (λ (r : Range). ahead c.loop-range.seen c.loop-range.place c.args.src c.args.dst (r ∷ rest)) (sym c.range-item.is) in
    ahead-here c.loop-range.seen c.loop-range.place c.args.src c.args.dst c.range-item.result rest (sym c.eq.ensures ∙ c.if-eq.true) (sym c.eq-then-eq.ensures ∙ c.if-eq-2.true) c.loop-range.invariant.unseen ∙ sym next ∙ c.loop-range.invariant.found

pub returns-clause-place : goal.returns-clause-place
returns-clause-place c =
    sym (at_drop_all (ahead c.loop-range.seen c.loop-range.place c.args.src c.args.dst) c.args.ranges.now c.loop-range.range-index c.loop-range-test.false) ∙ c.loop-range.invariant.found
