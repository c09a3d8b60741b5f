-- The invariant of every partition.
use Rattle.std.specs.Prelude.{◌≡◌, Bool, true, ◌||◌, List, length, is_some}
use Rattle.std.specs.List.{list_all}
use Rattle.sq_moves.specs.ReconValue.{leaf_at}
use Rattle.sq_exec.specs.Waiting.{Arrival}
use Rattle.sq_exec.specs.CoreValue.{CoreValue, has_ends}
use Rattle.sq_exec.specs.Location.{is_coming_here}

-- the waiting transaction is due, or its rows are on their way here
abbrev pub is_due_here : CoreValue → Arrival → Bool
is_due_here core a = a.is_due || is_coming_here core (a.txn).root

-- each partition and each segment has its place, each segment goes from one partition to another,
-- the waiting transactions are on keys that move, and all of them whose rows aren't on their way
-- here are due
pub record IsCore (core : CoreValue) (arrivals : List Arrival) : Type 0 where
  pub outs : length core.outs ≡ core.plan.parts
  pub inboxes : length core.inboxes ≡ core.plan.parts
  pub given_up : length core.given_up ≡ length core.recon.segments
  pub loaded : length core.loaded ≡ length core.recon.segments
  pub ends : list_all (has_ends core.plan.parts) core.recon.segments ≡ true
  pub moving : list_all (λ txn. is_some (leaf_at core.recon txn.root)) core.waiting ≡ true
  pub due : list_all (is_due_here core) arrivals ≡ true
