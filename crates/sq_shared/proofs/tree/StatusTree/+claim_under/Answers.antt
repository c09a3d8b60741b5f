use Rattle.std.proofs.Common.{◌≡◌, ℕ, ◌-◌, ◌≢◌, ◌*◌, ◌+◌, ◌<◌, IsTrue, rules, arith}
use Rattle.std.proofs.lemmas.Bool.Decides.{nat_tests}
use Rattle.sq_moves.specs.declared.status.Status.TheVariants.{Split}
use Rattle.sq_moves.specs.Node.{is_node}
use Rattle.sq_moves.proofs.Nested.{node_bounds, node_within, Halves, halves_of}
use Rattle.sq_shared.proofs.Walking.{taken_by}
use Rattle.sq_shared.proofs.Searching.{search_here, search_taken, search_left, search_second, knows_right}
use Rattle.sq_shared.proofs.tree.StatusTree.+claim_under.Goals as goal

-- a node whose low half is a node has halves
halves_with : (n low : ℕ) → low ≡ 2 * n → IsTrue (is_node low) → Halves n
halves_with n low half node =
    let bounds = node_bounds low node in
    let inner : n < 32 = omega arith in
    halves_of n (node_within n (omega arith) (omega arith)) (grind (arith, nat_tests))

falls : (n high : ℕ) → high ≡ 2 * n + 1 → IsTrue (is_node high) → 64 - high < 64 - n
falls n high half node = let bounds = node_bounds high node in omega arith

pub claim_under-requires-in-None : goal.claim_under-requires-in-None
claim_under-requires-in-None t c =
    let found = rw c.in-Err-Split.field-0-is at c.in-Err-Split.ensures.step in
    let none = rw c.low_half.ensures.half at c.in-None.ensures.search in (
      search (rules, falls c.args.node c.high_half.result c.high_half.ensures.half c.high_half.ensures.node),
      (search rules, λ _. rw c.high_half.ensures.half (knows_right c.args.node c.args.pull c.args.seat.now.view c.advance.new.seat.view c.claim_under.new.seat.view found.1 none)),
    )

pub returns-in-Ok-clause-search : goal.returns-in-Ok-clause-search
returns-in-Ok-clause-search t c = search_here c.args.node c.args.pull c.args.seat.now.view c.advance.new.seat.view c.in-Ok.ensures.step

pub returns-in-Some-clause-search : goal.returns-in-Some-clause-search
returns-in-Some-clause-search t c =
    let half = halves_with c.args.node c.low_half.result c.low_half.ensures.half c.low_half.ensures.node in
    let found = rw c.in-Err-Split.field-0-is at c.in-Err-Split.ensures.step in
    search_left c.args.node c.args.pull c.in-Some.claimed c.args.seat.now.view c.advance.new.seat.view c.claim_under.new.seat.view half found.1 (rw c.low_half.ensures.half at c.in-Some.ensures.search)

pub returns-in-None-clause-search : goal.returns-in-None-clause-search
returns-in-None-clause-search t c =
    let half = halves_with c.args.node c.low_half.result c.low_half.ensures.half c.low_half.ensures.node in
    let found = rw c.in-Err-Split.field-0-is at c.in-Err-Split.ensures.step in
    search_second c.args.node c.args.pull c.args.seat.now.view c.advance.new.seat.view c.claim_under.new.seat.view c.claim_under-in-None.new.seat.view half found.1 (rw c.low_half.ensures.half at c.in-None.ensures.search)
    c.claim_under-in-None.result (rw c.high_half.ensures.half at c.claim_under-in-None.ensures.search)

pub returns-in-Err : goal.returns-in-Err
returns-in-Err t c =
    let other : c.in-Err.field-0 ≢ Split = search rules in
    record {
      seat = search rules;
      search = search_taken c.args.node c.args.pull c.args.seat.now.view c.advance.new.seat.view c.in-Err.field-0 (taken_by c.in-Err.field-0 c.in-Err.ensures.step.0 other) c.in-Err.ensures.step.1;
    }
