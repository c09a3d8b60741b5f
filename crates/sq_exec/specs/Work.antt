-- What the source of a link still has to cut.
use Rattle.std.specs.Prelude.{ℕ, Bool, ◌%◌, ◌==◌, ◌&&◌, if◌then◌else◌, List, [], ◌∷◌, position, remove, slice_set, slice_index_or, Option, Some, None}

-- a node that was begun and isn't cut to its end yet: its rest is from rest up to hi
pub record WorkValue : Type 0 where
  pub seg : ℕ
  pub node : ℕ
  pub pull : ℕ
  pub rest : ℕ
  pub hi : ℕ

-- the work is on this node of a segment's tree
abbrev pub is_work_on : ℕ → ℕ → WorkValue → Bool
is_work_on seg node work = (work.seg == seg) && (work.node == node)

-- its pull is odd: a transaction waits for it
abbrev pub is_reactive_work : WorkValue → Bool
is_reactive_work work = work.pull % 2 == 1

abbrev pub or_front : List WorkValue → Option ℕ → Option ℕ
or_front work (Some i) = Some i
or_front [] None = None
or_front (first ∷ rest) None = Some 0

-- the place of the next work: the first reactive one, or without one the first of all
abbrev pub next_work : List WorkValue → Option ℕ
next_work work = or_front work (position is_reactive_work work)

abbrev pub no_work : WorkValue
no_work = record { seg = 0; node = 0; pull = 0; rest = 0; hi = 0 }

abbrev pub work_at : List WorkValue → ℕ → WorkValue
work_at works i = slice_index_or works i no_work

-- the work that continues at this key
abbrev pub work_from : WorkValue → ℕ → WorkValue
work_from work key = record { seg = work.seg; node = work.node; pull = work.pull; rest = key; hi = work.hi }

-- what is left after a chunk of the work at i: that work continues where the chunk ends, and is
-- removed after its last key
abbrev pub work_after : List WorkValue → ℕ → ℕ → List WorkValue
work_after works i end =
    if end == (work_at works i).hi then remove works i else slice_set works i (work_from (work_at works i) end)
