-- The answer to each step of a tree: the first refusal that applies, or done.
use Rattle.std.specs.Prelude.{ℕ, not, ◌==◌, if◌then◌else◌, Result, Ok, Err}
use Rattle.sq_moves.specs.declared.status.Status.{Status}
use Rattle.sq_moves.specs.declared.tree_fault.SplitFault.{SplitFault}
use Rattle.sq_moves.specs.declared.tree_fault.SplitFault.TheVariants as split
use Rattle.sq_moves.specs.declared.tree_fault.ClaimFault.{ClaimFault}
use Rattle.sq_moves.specs.declared.tree_fault.ClaimFault.TheVariants as claim
use Rattle.sq_moves.specs.declared.tree_fault.BeginFault.{BeginFault}
use Rattle.sq_moves.specs.declared.tree_fault.BeginFault.TheVariants as begin
use Rattle.sq_moves.specs.declared.tree_fault.CompleteFault.{CompleteFault}
use Rattle.sq_moves.specs.declared.tree_fault.CompleteFault.TheVariants as complete
use Rattle.sq_moves.specs.Node.{is_leaf}
use Rattle.sq_moves.specs.Status.{is_free, is_claimed, is_partial, is_live, pull_of}

-- splitting node n
abbrev pub split_answer : (ℕ → Status) → ℕ → Result (Unit {0}) SplitFault
split_answer status n =
    if is_leaf n then Err split.IsLeaf
    else if not (is_live status n) then Err split.NotLive
    else if not (is_free (status n)) then Err (split.NotFree (status n))
    else Ok tt

-- claiming node n for pull p
abbrev pub claim_answer : (ℕ → Status) → ℕ → ℕ → Result (Unit {0}) ClaimFault
claim_answer status n p =
    if not (is_live status n) then Err claim.NotLive
    else if not (is_free (status n)) then Err (claim.NotFree (status n))
    else Ok tt

-- beginning node n for pull p
abbrev pub begin_answer : (ℕ → Status) → ℕ → ℕ → Result (Unit {0}) BeginFault
begin_answer status n p =
    if not (is_claimed (status n)) then Err (begin.NotClaimed (status n))
    else if not (pull_of (status n) == p) then Err begin.WrongPull
    else Ok tt

-- completing node n for pull p
abbrev pub complete_answer : (ℕ → Status) → ℕ → ℕ → Result (Unit {0}) CompleteFault
complete_answer status n p =
    if not (is_partial (status n)) then Err (complete.NotPartial (status n))
    else if not (pull_of (status n) == p) then Err complete.WrongPull
    else Ok tt
