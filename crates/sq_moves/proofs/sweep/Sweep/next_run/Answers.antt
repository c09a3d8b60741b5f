use Rattle.std.proofs.Common.{◌==◌, ◌<◌, sym, arith}
use Rattle.std.proofs.lemmas.Bool.{not-true, not-false, eqb-true, eqb-false}
use Rattle.sq_moves.specs.Sweep.{left}
use Rattle.sq_moves.proofs.Sweeps.{Went, runs_past, runs_first, runs_none, went_fewer}
use Rattle.sq_moves.proofs.sweep.Sweep.next_run.Goals as goal
use Rattle.sq_moves.proofs.sweep.Sweep.next_run.Goals.{After-skip_to}

-- the sweep went past a piece
piece_went : (c : After-skip_to) → Went c.loop-piece.self c.skip_to.new.self c.in-Some.piece
piece_went c = record { found = sym c.in-Some.ensures; at = c.skip_to.ensures.at; olds = c.skip_to.ensures.olds; news = c.skip_to.ensures.news }

less_left : (c : After-skip_to) → left c.skip_to.new.self < left c.loop-piece.self
less_left c = went_fewer c.loop-piece.self c.skip_to.new.self c.in-Some.piece (piece_went c)

pub returns-then-ne : goal.returns-then-ne
returns-then-ne c =
    let there = (goal.at.returns-then-ne c).After-skip_to in
    let piece = c.in-Some.piece in
    record {
      next = λ runs has.
          runs_first c.loop-piece.self c.skip_to.new.self c.extended.new.self piece c.extended.result runs (c.loop-piece.invariant.has runs has) (piece_went there)
          (eqb-false piece.src piece.dst (not-true (piece.src == piece.dst) (sym c.if-ne.ensures)))
          c.extended.ensures.whole;
      fewer = omega (arith, less_left there);
    }

pub loop-piece-preserved : goal.loop-piece-preserved
loop-piece-preserved c =
    let there = (goal.at.loop-piece-preserved c).After-skip_to in
    record {
      has = λ runs has.
          runs_past c.loop-piece.self c.skip_to.new.self c.in-Some.piece runs (c.loop-piece.invariant.has runs has) (piece_went there)
          (eqb-true c.in-Some.piece.src c.in-Some.piece.dst (not-false (c.in-Some.piece.src == c.in-Some.piece.dst) (sym c.if-ne.ensures)));
      fewer = omega (arith, less_left there);
    }

pub returns-clause-next : goal.returns-clause-next
returns-clause-next c = λ runs has. runs_none c.loop-piece.self runs (c.loop-piece.invariant.has runs has) (sym c.in_default.ensures)
