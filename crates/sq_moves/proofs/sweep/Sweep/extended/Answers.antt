use Rattle.std.proofs.Common.{◌≡◌, ◌≢◌, ℕ, ◌==◌, true, false, not, sym, arith}
use Rattle.std.proofs.lemmas.Bool.{not-true, not-false, eqb-true, eqb-false}
use Rattle.sq_moves.proofs.Sweeps.{Went, went_on, went_fewer, ends_before, ends_last}
use Rattle.sq_moves.proofs.sweep.Sweep.extended.Goals as goal
use Rattle.sq_moves.proofs.sweep.Sweep.extended.Goals.{then-ne-via-then-ne, then-ne-via-else-ne+then-ne-2}

differ : (a b : ℕ) → true ≡ not (a == b) → a ≢ b
differ a b e = eqb-false a b (not-true (a == b) (sym e))

same : (a b : ℕ) → false ≡ not (a == b) → a ≡ b
same a b e = eqb-true a b (not-false (a == b) (sym e))

pub returns-then-ne-clause-whole : goal.returns-then-ne-clause-whole
returns-then-ne-clause-whole c = λ old new from reaches.
    let run = c.loop-piece.run in
    let piece = c.in-Some.piece in
    let ends = ends_before old new from c.loop-piece.self run piece (c.loop-piece.invariant.reaches old new from reaches) (sym c.in-Some.ensures) in
    elim c.then-ne.branch [
      | then-ne-via-then-ne w ↦ ends (λ src dst. differ piece.src run.src w.if-ne.ensures src)
      | then-ne-via-else-ne+then-ne-2 w ↦ ends (λ src dst. differ piece.dst run.dst w.if-ne-2.ensures dst)
    ]

pub loop-piece-preserved : goal.loop-piece-preserved
loop-piece-preserved c =
    let run = c.loop-piece.run in
    let piece = c.in-Some.piece in
    let invariant = c.loop-piece.invariant in
    let went : Went c.loop-piece.self c.skip_to.new.self piece = record { found = sym c.in-Some.ensures; at = c.skip_to.ensures.at; olds = c.skip_to.ensures.olds; news = c.skip_to.ensures.news } in
    record {
      reaches = λ old new from reaches.
          went_on old new from c.loop-piece.self c.skip_to.new.self run piece (invariant.reaches old new from reaches) went (same piece.src run.src c.if-ne.ensures) (same piece.dst run.dst c.if-ne-2.ensures);
      fewer = omega (arith, went_fewer c.loop-piece.self c.skip_to.new.self piece went);
    }

pub returns-clause-whole : goal.returns-clause-whole
returns-clause-whole c = λ old new from reaches. ends_last old new from c.loop-piece.self c.loop-piece.run (c.loop-piece.invariant.reaches old new from reaches) (sym c.in_default.ensures)
