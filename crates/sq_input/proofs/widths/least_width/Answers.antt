use Rattle.std.proofs.Common.{◌+◌, ◌/◌, ◌<◌, refl, sym, ◌∙◌, arith}
use Rattle.std.proofs.lemmas.Bool.{false≢true}
use Rattle.sq_moves.specs.declared.recon.TheConstants.{MAX_WIDTH}
use Rattle.sq_input.proofs.WidthLemmas.{does_within, wider_does, width_from}
use Rattle.sq_input.proofs.widths.least_width.Goals as goal

pub returns-then-not-is_wide_enough : goal.returns-then-not-is_wide_enough
returns-then-not-is_wide_enough c = λ width none.
    let within = does_within c.args.old.now c.args.new.now width none in
    let does = wider_does c.args.old.now c.args.new.now width MAX_WIDTH within.1 refl none in
    false≢true (sym c.if-not-is_wide_enough.true ∙ c.is_wide_enough.ensures.1 does)

pub loop-low-preserved-then-is_wide_enough : goal.loop-low-preserved-then-is_wide_enough
loop-low-preserved-then-is_wide_enough c =
    let low = c.loop-low.low in
    let before : low < c.loop-low.high = c.loop-low-test.true in
    record {
      some = c.loop-low.invariant.some;
      ordered = omega arith;
      within = omega (arith, c.loop-low.invariant.within);
      does = c.is_wide_enough-in-loop-low.ensures.0 c.if-is_wide_enough.true;
      fails = c.loop-low.invariant.fails;
    }

pub loop-low-preserved : goal.loop-low-preserved
loop-low-preserved c =
    let old = c.args.old.now in
    let new = c.args.new.now in
    let middle = (c.loop-low.low + c.loop-low.high) / 2 in
    let before : c.loop-low.low < c.loop-low.high = c.loop-low-test.true in
    let is_width = width_from middle (omega (arith, c.loop-low.invariant.some)) (omega (arith, c.loop-low.invariant.within)) in
    record {
      some = omega arith;
      ordered = omega arith;
      within = c.loop-low.invariant.within;
      does = c.loop-low.invariant.does;
      fails = λ width less none.
          let does = wider_does old new width middle (omega (arith, less)) is_width none in
          false≢true (sym c.if-is_wide_enough.false ∙ c.is_wide_enough-in-loop-low.ensures.1 does);
    }
