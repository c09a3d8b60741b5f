use Rattle.std.proofs.Common.{◌≡◌, ℕ, ◌∙◌, sym, ap, [], ◌∷◌, ◌++◌}
use Rattle.std.proofs.lemmas.Bool.{ne_eqb}
use Rattle.sq_moves.specs.ReconValue.{stage_at}
use Rattle.sq_shared.proofs.Rounds.{stage_round-kept, stage_round-left}
use Rattle.sq_shared.proofs.pump.stage_round.Goals as goal
use Rattle.sq_shared.proofs.pump.stage_round.Goals.{then-stage_of-stage+in_ok-push_back, else-stage_of-stage}

pub loop-number-preserved : goal.loop-number-preserved
loop-number-preserved c =
    let recon = c.args.recon.now in
    let stage = c.args.stage in
    let number : ℕ = c.loop-number.number in
    let is : c.in-Some.seg ≡ number = c.in-Some.ensures.1 in
    let told : c.stage_of.result ≡ stage_at recon number = c.stage_of.ensures ∙ ap (stage_at recon) is in
    elim c.if-stage_of-stage.branch [
      | then-stage_of-stage+in_ok-push_back w ↦
          ap (λ round. round.items) w.round-is ∙ w.in_ok-push_back.ensures.items
          ∙ (λ k. c.loop-number.invariant k ++ is k ∷ []) ∙ sym (stage_round-kept recon stage number (sym told ∙ w.if-stage_of-stage.true))
      | else-stage_of-stage w ↦
          ap (λ round. round.items) w.round-is ∙ c.loop-number.invariant
          ∙ sym (stage_round-left recon stage number (ne_eqb (stage_at recon number) stage (λ same. w.if-stage_of-stage.false (told ∙ same))))
    ]
