-- What is left of one reader behind another, read by read.
use Rattle.std.proofs.Common.{◌≡◌, refl, sym, subst, ℕ, Bool, true, false, ◌==◌, ◌<◌, ◌≤◌, ◌-◌, length, List, take, slice_index_or, slice_set, Option, Result}
use Rattle.std.specs.Io.KnownBytes.{Consumes, IsAtEnd, ReadConsumes}
use Rattle.sq_input.specs.Inserted.{ended_text}
use Rattle.sq_input.specs.declared.inserting.Place.TheVariants.{Inserted}
use Rattle.sq_input.proofs.Inserts.{other_goes_on, other_ends, other_is_over}
use Rattle.sq_serving.specs.Following.{following_left}
use Rattle.sq_serving.specs.declared.following.FollowingPlace.{FollowingPlace}
use Rattle.sq_serving.specs.declared.following.FollowingPlace.TheVariants.{First}

-- a read of the first reader
pub first_goes_on : (place : FollowingPlace) (at_start : Bool) (second old new : Option (List ℕ)) (count : ℕ) (buf : List ℕ) → place ≡ First at_start → 0 < count → count ≤ length buf
    → Consumes old new (take count buf)
    → Consumes (following_left place old second) (ended_text (slice_index_or buf (count - 1) 0 == 10) second new) (take count buf) × (count ≡ 0 → 0 < length buf → IsAtEnd (ended_text (slice_index_or buf (count - 1) 0 == 10) second new))
first_goes_on place at_start second old new count buf is some within took =
    let left = ended_text (slice_index_or buf (count - 1) 0 == 10) second new in
    subst (λ (p : FollowingPlace). Consumes (following_left p old second) left (take count buf) × (count ≡ 0 → 0 < length buf → IsAtEnd left)) (sym is)
    (other_goes_on (Inserted at_start) at_start second old new count buf refl some within took)

-- the line end that is given behind it
pub first_ends : (place : FollowingPlace) (at_start : Bool) (second old new : Option (List ℕ)) (count : ℕ) (buf : List ℕ) → place ≡ First at_start → at_start ≡ false → count ≤ 0 → 0 < length buf
    → Consumes old new (take count buf) → (count ≡ 0 → 0 < length buf → IsAtEnd new)
    → Consumes (following_left place old second) (ended_text true second new) (take 1 (slice_set buf 0 10)) × (◌≡◌ {A = ℕ} 1 0 → 0 < length (slice_set buf 0 10) → IsAtEnd (ended_text true second new))
first_ends place at_start second old new count buf is within none room took ended =
    let left = ended_text true second new in
    subst (λ (p : FollowingPlace). Consumes (following_left p old second) left (take 1 (slice_set buf 0 10)) × (◌≡◌ {A = ℕ} 1 0 → 0 < length (slice_set buf 0 10) → IsAtEnd left)) (sym is)
    (other_ends (Inserted at_start) at_start second old new count buf refl within none room took ended)

-- what the second reader gives behind it
pub first_is_over : {E : Type 0} (place : FollowingPlace) (at_start : Bool) (second old new after : Option (List ℕ)) (count : ℕ) (buf : List ℕ) (result : Result ℕ E) (given : List ℕ)
    → place ≡ First at_start → at_start ≡ true → count ≤ 0 → 0 < length buf → Consumes old new (take count buf) → (count ≡ 0 → 0 < length buf → IsAtEnd new)
    → ReadConsumes second after result given → ReadConsumes (following_left place old second) after result given
first_is_over place at_start second old new after count buf result given is starts none room took ended read =
    subst (λ (p : FollowingPlace). ReadConsumes (following_left p old second) after result given) (sym is)
    (other_is_over (Inserted at_start) at_start second old new after count buf result given refl starts none room took ended read)
