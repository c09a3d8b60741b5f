use Rattle.std.proofs.Common.{arith, ◌≡◌, ℕ, [], ap, subst}
use Rattle.std.proofs.lemmas.Grind.{common_steps}
use Rattle.sq_shared.specs.declared.tree.walks.LeafClaim.TheVariants as claim
use Rattle.sq_shared.specs.Puller.{RoomyPuller}
use Rattle.sq_shared.specs.Seats.{StepsAt, ClaimsLeaf}
use Rattle.sq_shared.specs.Wins.{WinsValue, AddsWin, Sends, AreWonClaims}
use Rattle.sq_shared.proofs.Claimed.{claims_stay, claims_added, claims_sent}
use Rattle.sq_shared.proofs.puller.Puller.reactive.Goals as goal

pub returns-in-Claimed-clause-claims : goal.returns-in-Claimed-clause-claims
returns-in-Claimed-clause-claims g c =
    λ won.
    let old : WinsValue = c.args.self.now.puller.wins in
    let seg : ℕ = c.args.seg in
    let node : ℕ = c.in-Claimed.node in
    let pull : ℕ = c.reactive_pull-pull.result in
    let step : StepsAt seg (ClaimsLeaf c.args.leaf pull (claim.Claimed node)) c.args.seats.now.items c.claim_leaf.new.seats.items = c.in-Claimed.ensures.steps in
    let same : c.self.inside.wins.wins ≡ old = ap (λ (p : RoomyPuller). p.puller.wins) c.self.view_is in
    let adds : AddsWin c.args.shared.now.recon.now seg node pull old c.add.new.self.wins =
    record { segment = c.new.ensures.0; there = c.new.ensures.1; count = grind (arith, common_steps); pending = grind (arith, common_steps) } in
    let sends : Sends c.add.new.self.wins c.send.new.self.wins = record { count = c.send.ensures.count; left = c.send.ensures.left } in
    claims_sent c.claim_leaf.new.seats.items c.add.new.self.wins c.send.new.self.wins sends
    (claims_added c.args.shared.now.recon.now seg node pull (ClaimsLeaf c.args.leaf pull (claim.Claimed node)) c.args.seats.now.items c.claim_leaf.new.seats.items step step.told.claims old c.add.new.self.wins adds won)

pub returns-in-Held-clause-claims : goal.returns-in-Held-clause-claims
returns-in-Held-clause-claims g c =
    λ won.
    let pull : ℕ = c.reactive_pull-pull.result in
    let steps = ClaimsLeaf c.args.leaf pull (claim.Held c.in-Held.node c.in-Held.status) in
    let step : StepsAt c.args.seg steps c.args.seats.now.items c.claim_leaf.new.seats.items = c.in-Held.ensures.steps in
    let same : c.args.self.now.puller.wins ≡ c.reserve.new.self.wins = grind (arith, common_steps) in
    claims_stay c.args.seg steps c.args.seats.now.items c.claim_leaf.new.seats.items step [] step.told.claims c.reserve.new.self.wins (subst (AreWonClaims c.args.seats.now.items) same won)
