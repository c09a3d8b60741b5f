-- What a reader that continues with another one has left.
use Rattle.std.specs.Prelude.{ℕ, List, Option}
use Rattle.sq_input.specs.Inserted.{ended_text}
use Rattle.sq_serving.specs.declared.following.Following.{Following}
use Rattle.sq_serving.specs.declared.following.FollowingPlace.{FollowingPlace}
use Rattle.sq_serving.specs.declared.following.FollowingPlace.TheVariants.{First, Second}

-- what is left at this place of the first reader and of the second
abbrev pub following_left : FollowingPlace → Option (List ℕ) → Option (List ℕ) → Option (List ℕ)
following_left (First at_start) first second = ended_text at_start second first
following_left Second first second = second

-- what is left, if it is known what the readers have left
abbrev pub following_remaining : {A B : Type 0} → (A → Option (List ℕ)) → (B → Option (List ℕ)) → Following A B → Option (List ℕ)
following_remaining first second r = following_left r.place (first r.first) (second r.second)
