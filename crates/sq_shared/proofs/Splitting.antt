-- A seat that splits a node, or tries to, claims none.
use Rattle.std.proofs.Common.{◌≡◌, ℕ, Bool, true, false, [], ap, ◌∙◌, inl, inr, Result, Ok, Err}
use Rattle.std.specs.Prelude.{MatchBool, MatchResult, ◌==◌}
use Rattle.sq_moves.specs.declared.tree_fault.SplitFault.{SplitFault}
use Rattle.sq_moves.specs.declared.tree_fault.SplitFault.TheVariants as split
use Rattle.sq_moves.specs.declared.status.Status.{Status}
use Rattle.sq_moves.specs.declared.status.Status.TheVariants.{Split}
use Rattle.sq_moves.specs.Prelude.{parent, is_leaf}
use Rattle.sq_shared.specs.declared.view.View.{View}
use Rattle.sq_shared.specs.Plays.{Found, Won}
use Rattle.sq_shared.specs.Calls.{FoundLive, WonLive, FoundNotFree, SplitRefused}
use Rattle.sq_shared.specs.Walks.{ClaimedOnly}
use Rattle.sq_shared.specs.Seats.{TriesSplit}

-- the view is the same, or one that only looked
same_view : (v w : View) → w ≡ v → ClaimedOnly v [] w
same_view v w same = record { claimed = ap (λ (x : View). x.claimed) same; begun = ap (λ (x : View). x.begun) same; completed = ap (λ (x : View). x.completed) same }

only_found : (v : View) (n : ℕ) (st : Status) (w : View) → Found v n st w → ClaimedOnly v [] w
only_found v n st w found =
    record { claimed = ap (λ (x : View). x.claimed) found.after; begun = ap (λ (x : View). x.begun) found.after; completed = ap (λ (x : View). x.completed) found.after }

only_split : (v : View) (n : ℕ) (w : View) → Won v n Split w → ClaimedOnly v [] w
only_split v n w won =
    record { claimed = ap (λ (x : View). x.claimed) won.after; begun = ap (λ (x : View). x.begun) won.after; completed = ap (λ (x : View). x.completed) won.after }

both : (v u w : View) → ClaimedOnly v [] u → ClaimedOnly u [] w → ClaimedOnly v [] w
both v u w first then = record { claimed = then.claimed ∙ first.claimed; begun = then.begun ∙ first.begun; completed = then.completed ∙ first.completed }

live_by : (is_whole : Bool) (v : View) (n : ℕ) (w : View) → MatchBool is_whole (w ≡ v) (Found v (parent n) Split w) → ClaimedOnly v [] w
live_by true v n w same = same_view v w same
live_by false v n w found = only_found v (parent n) Split w found

-- a split that is refused claims nothing
pub refused_split : (n : ℕ) (v w : View) (fault : SplitFault) → SplitRefused n v w fault → ClaimedOnly v [] w
refused_split n v w split.IsLeaf is = same_view v w is.1
refused_split n v w split.NotLive is = only_found v (parent n) is.1.1.0 w is.1.1.2
refused_split n v w (split.NotFree found) is = both v is.1.1.0 w (live_by (n == 1) v n is.1.1.0 is.1.1.1) (only_found is.1.1.0 n found w is.1.1.2)

-- nor does one that is won
pub won_split : (n : ℕ) (v w : View) → WonLive v n Split w → ClaimedOnly v [] w
won_split n v w is = both v is.0 w (live_by (n == 1) v n is.0 is.1) (only_split is.0 n w is.2)

-- whatever the outcome of the split of a node
pub tries_split : (n : ℕ) (v w : View) (result : Result (Unit {0}) SplitFault) → MatchResult result (λ _. (is_leaf n ≡ false) × WonLive v n Split w) (SplitRefused n v w) → TriesSplit n v w
tries_split n v w (Ok u) won = record { split = inl won.1; claims = won_split n v w won.1 }
tries_split n v w (Err fault) was = record { split = inr (fault, was); claims = refused_split n v w fault was }
