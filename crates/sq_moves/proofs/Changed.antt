-- Statuses that are looked up by node, with one changed.
use Rattle.std.specs.Prelude.{ℕ, ◌==◌, if◌then◌else◌}
use Rattle.sq_moves.specs.declared.status.Status.{Status}

-- node n has this status, and each other node the one that it had
abbrev pub set_at : (ℕ → Status) → ℕ → Status → ℕ → Status
set_at status n st m = if m == n then st else status m
