-- Where a root key is, as far as a single partition can know.
use Rattle.std.specs.Prelude.{ℕ, Bool, false, ◌==◌, ◌&&◌, not, nat_lt, if◌then◌else◌, Option, Some, None, slice_get, option_and_then, option_map}
use Rattle.std.specs.List.{list_any}
use Rattle.sq_plan.specs.PlanValue.{owner}
use Rattle.sq_moves.specs.declared.recon.Range.{Range}
use Rattle.sq_moves.specs.ReconValue.{leaf_at, stage_in}
use Rattle.sq_exec.specs.declared.location.Location.{Location}
use Rattle.sq_exec.specs.GivenUp.{is_given_up}
use Rattle.sq_exec.specs.Runs.{is_loaded}
use Rattle.sq_exec.specs.CoreValue.{CoreValue, given_up_at, loaded_at}

abbrev pub location_in : CoreValue → ℕ → ℕ × ℕ → Range → Location
location_in core root at segment =
    record {
      seg = at.0;
      leaf = at.1;
      src = segment.src;
      dst = segment.dst;
      stage = stage_in core.recon segment;
      given_up = is_given_up (given_up_at core at.0) at.1;
      loaded = is_loaded (loaded_at core at.0) root;
    }

-- the location of a root key that moves: its segment and leaf, the ends of the segment and its
-- stage, and whether the key was given up and loaded here; none if it doesn't move
abbrev pub location : CoreValue → ℕ → Option Location
location core root =
    option_and_then (λ at. option_map (location_in core root at) (slice_get core.recon.segments at.0)) (leaf_at core.recon root)

abbrev pub is_coming_from : CoreValue → Option Location → Bool
is_coming_from core None = false
is_coming_from core (Some at) = core.started && ((at.stage == core.stage) && ((at.dst == core.part) && not at.loaded))

-- the root key moves to this partition in the running stage and isn't loaded yet
abbrev pub is_coming_here : CoreValue → ℕ → Bool
is_coming_here core root = is_coming_from core (location core root)

abbrev pub route_from : CoreValue → ℕ → Option Location → ℕ
route_from core root None = owner core.plan root
route_from core root (Some at) =
    if nat_lt at.stage core.stage then at.dst
    else if at.src == core.part then (if at.given_up then at.dst else at.src)
    else if (at.dst == core.part) && at.loaded then at.dst
    else at.src

-- the partition that transactions on the root key go to, as far as this one can know: its owner if
-- it doesn't move; the destination after its stage; and otherwise the source, until this partition
-- gave the key up as its source or loaded it as its destination, and from then on the destination
abbrev pub route : CoreValue → ℕ → ℕ
route core root = route_from core root (location core root)

-- a transaction on the root key waits
abbrev pub waits_for : CoreValue → ℕ → Bool
waits_for core root = list_any (λ txn. txn.root == root) core.waiting
