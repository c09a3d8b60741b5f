-- A sweep over two plans from the low end of the keys to the high end.
use Rattle.std.specs.Prelude.{◌≡◌, ◌≢◌, ℕ, ◌+◌, ◌≤◌, ◌<◌, ◌==◌, min, if◌then◌else◌, List, [], ◌∷◌, length, find, true, Option, Some, None}
use Rattle.sq_plan.specs.declared.plan.PlanRange.{PlanRange}
use Rattle.sq_schema.specs.declared.root.TheConstants.{ROOT_END}
use Rattle.sq_plan.specs.PlanValue.{PlanValue, is_tiling, holds, owner, found_owner}
use Rattle.sq_moves.specs.declared.recon.Range.{Range}
use Rattle.sq_moves.specs.declared.sweep.Sweep.{Sweep}
use Rattle.sq_moves.specs.Moves.{IsMovingRun}

-- ranges without the first, if that ends at this key
abbrev pub past : List PlanRange → ℕ → List PlanRange
past [] at = []
past (range ∷ ranges) at = if range.hi == at then ranges else range ∷ ranges

-- the keys from here on that one range of each plan holds
abbrev pub piece_of : ℕ → List PlanRange → List PlanRange → Option Range
piece_of at [] news = None
piece_of at (one ∷ olds) [] = None
piece_of at (one ∷ olds) (other ∷ news) = Some (record { lo = at; hi = min one.hi other.hi; src = one.owner; dst = other.owner })

-- the first range ends after this key
abbrev pub EndsBehind : ℕ → List PlanRange → Type 0
EndsBehind at [] = Unit {0}
EndsBehind at (range ∷ ranges) = at < range.hi

-- ranges of a plan that cover its keys from this one on
pub record AreAhead (plan : PlanValue) (at : ℕ) (ranges : List PlanRange) : Type 0 where
  pub start : ℕ
  pub begun : start ≤ at
  pub tiling : is_tiling start ranges ≡ true
  pub behind : EndsBehind at ranges
  pub owners : (key : ℕ) → at ≤ key → found_owner (find (λ range. holds range key) ranges) ≡ owner plan key

-- the first run of keys that move, from this key on, as far as it goes
pub record IsNextRun (old new : PlanValue) (at : ℕ) (run : Range) : Type 0 where
  pub moves : IsMovingRun old new run
  pub from : at ≤ run.lo
  pub before : (key : ℕ) → at ≤ key → key < run.lo → owner old key ≡ owner new key
  pub after : run.hi < ROOT_END → owner old run.hi ≡ run.src → owner new run.hi ≢ run.dst

-- the runs of keys that move, from this key on
abbrev pub AreMovesFrom : PlanValue → PlanValue → ℕ → List Range → Type 0
AreMovesFrom old new at [] = (key : ℕ) → at ≤ key → key < ROOT_END → owner old key ≡ owner new key
AreMovesFrom old new at (run ∷ runs) = IsNextRun old new at run × AreMovesFrom old new run.hi runs

-- how many ranges a sweep has ahead
abbrev pub left : Sweep → ℕ
left sweep = length sweep.olds.now + length sweep.news.now

-- the plans of a sweep, and where it is in them
pub record IsSweepOf (old new : PlanValue) (sweep : Sweep) : Type 0 where
  pub within : sweep.at ≤ ROOT_END
  pub olds : AreAhead old sweep.at sweep.olds.now
  pub news : AreAhead new sweep.at sweep.news.now

-- a run that began at a key, as far as a sweep has come
pub record Reaches (old new : PlanValue) (from : ℕ) (sweep : Sweep) (run : Range) : Type 0 where
  pub sweeps : IsSweepOf old new sweep
  pub moves : IsMovingRun old new run
  pub begun : run.lo ≡ from
  pub end : run.hi ≡ sweep.at

-- and it doesn't continue
pub record EndsAt (old new : PlanValue) (from : ℕ) (sweep : Sweep) (run : Range) : Type 0 where
  pub reaches : Reaches old new from sweep run
  pub after : run.hi < ROOT_END → owner old run.hi ≡ run.src → owner new run.hi ≢ run.dst

-- the runs of keys that move which a sweep has ahead
pub record HasAhead (sweep : Sweep) (runs : List Range) : Type 0 where
  pub old : PlanValue
  pub new : PlanValue
  pub sweeps : IsSweepOf old new sweep
  pub moves : AreMovesFrom old new sweep.at runs
