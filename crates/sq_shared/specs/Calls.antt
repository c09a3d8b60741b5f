-- How each call changes its seat's view: what it won, and what each of its refusals shows.
use Rattle.std.specs.Prelude.{◌≡◌, ◌≢◌, ℕ, ◌<◌, ◌==◌, false, IsTrue, MatchBool}
use Rattle.sq_moves.specs.declared.status.Status.{Status}
use Rattle.sq_moves.specs.declared.status.Status.TheVariants.{Free, Split, Claimed, Partial}
use Rattle.sq_moves.specs.declared.tree_fault.SplitFault.{SplitFault}
use Rattle.sq_moves.specs.declared.tree_fault.SplitFault.TheVariants as split
use Rattle.sq_moves.specs.declared.tree_fault.ClaimFault.{ClaimFault}
use Rattle.sq_moves.specs.declared.tree_fault.ClaimFault.TheVariants as claim
use Rattle.sq_moves.specs.declared.tree_fault.BeginFault.{BeginFault}
use Rattle.sq_moves.specs.declared.tree_fault.BeginFault.TheVariants as begin
use Rattle.sq_moves.specs.declared.tree_fault.CompleteFault.{CompleteFault}
use Rattle.sq_moves.specs.declared.tree_fault.CompleteFault.TheVariants as complete
use Rattle.sq_moves.specs.Node.{is_leaf, parent}
use Rattle.sq_shared.specs.declared.view.View.{View}
use Rattle.sq_shared.specs.Plays.{Found, Won}

-- the seat found the node's parent split; node 1 has no parent and needs no look
abbrev pub FoundLive : View → ℕ → View → Type 0
FoundLive v n w = MatchBool (n == 1) (w ≡ v) (Found v (parent n) Split w)

-- the seat found that the node's parent isn't split
abbrev pub FoundNotLive : View → ℕ → View → Type 0
FoundNotLive v n w = (1 < n) × ((found : Status) × (found ≢ Split) × Found v (parent n) found w)

-- the seat found the node live, and then brought it to status `st`
abbrev pub WonLive : View → ℕ → Status → View → Type 0
WonLive v n st w = (u : View) × FoundLive v n u × Won u n st w

-- the seat found the node live, and then that it isn't free
abbrev pub FoundNotFree : View → ℕ → Status → View → Type 0
FoundNotFree v n found w = (found ≢ Free) × ((u : View) × FoundLive v n u × Found u n found w)

abbrev pub SplitRefused : ℕ → View → View → SplitFault → Type 0
SplitRefused n v w split.IsLeaf = IsTrue (is_leaf n) × (w ≡ v)
SplitRefused n v w split.NotLive = (is_leaf n ≡ false) × FoundNotLive v n w
SplitRefused n v w (split.NotFree found) = (is_leaf n ≡ false) × FoundNotFree v n found w

abbrev pub ClaimRefused : ℕ → View → View → ClaimFault → Type 0
ClaimRefused n v w claim.NotLive = FoundNotLive v n w
ClaimRefused n v w (claim.NotFree found) = FoundNotFree v n found w

abbrev pub BeginRefused : ℕ → ℕ → View → View → BeginFault → Type 0
BeginRefused n pull v w (begin.NotClaimed found) = ((other : ℕ) → found ≢ Claimed other) × Found v n found w
BeginRefused n pull v w begin.WrongPull = (other : ℕ) × (other ≢ pull) × Found v n (Claimed other) w

abbrev pub CompleteRefused : ℕ → ℕ → View → View → CompleteFault → Type 0
CompleteRefused n pull v w (complete.NotPartial found) = ((other : ℕ) → found ≢ Partial other) × Found v n found w
CompleteRefused n pull v w complete.WrongPull = (other : ℕ) × (other ≢ pull) × Found v n (Partial other) w
