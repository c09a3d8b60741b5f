-- Jobs that wait beside the queues of their partitions, a list for each partition.
use Rattle.std.specs.Prelude.{◌≡◌, ℕ, ◌<◌, List, [], ◌∷◌, length, slice_index_or}

module _ {J : Type 0} where
  -- the jobs of a partition that wait
  abbrev pub waiting_at : List (List J) → ℕ → List J
  waiting_at sides part = slice_index_or sides part []

  -- the jobs of one partition that wait are now these, and those of the others are as before
  pub record ChangesAt (part : ℕ) (now : List J) (old new : List (List J)) : Type 0 where
    pub count : length new ≡ length old
    pub here : waiting_at new part ≡ now
    pub others : (other : ℕ) → (other ≡ part → ⊥) → waiting_at new other ≡ waiting_at old other

  -- the first job of a partition was taken, and nothing else
  pub record TakesFirst (part : ℕ) (job : J) (old new : List (List J)) : Type 0 where
    pub within : part < length old
    pub changes : ChangesAt part (waiting_at new part) old new
    pub first : waiting_at old part ≡ job ∷ waiting_at new part
