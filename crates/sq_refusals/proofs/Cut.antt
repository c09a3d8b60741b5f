-- The families of a cut, which can be given back.
use Rattle.std.proofs.Common.{◌≡◌, ℕ, true, None, List, get_or, refl, ◌∙◌}
use Rattle.std.specs.Prelude.{nat_le, nat_lt}
use Rattle.std.proofs.lemmas.Bool.{le-leb, lt-ltb}
use Rattle.sq_schema.specs.Family.{FamilyValue}
use Rattle.sq_store.specs.InOrder.{are_within}
use Rattle.sq_store.specs.StoreValue.{StoreValue, without_between, has_none_of}
use Rattle.sq_store.proofs.Between.{get-without}
use Rattle.sq_store.proofs.Taken.{has_none_of-absent}
use Rattle.sq_store.proofs.Within.{within_each}

-- what is left has none of them
pub cut_absent : (store : StoreValue) (lo hi : ℕ) (families : List FamilyValue) → are_within lo hi families ≡ true → has_none_of (without_between store lo hi) families ≡ true
cut_absent store lo hi families within =
    (has_none_of-absent (without_between store lo hi) families).1 (λ k d inside.
    let root = (get_or families k d).root in
    let at = within_each lo hi families within k d inside in
    let low : nat_le lo root ≡ true = le-leb lo root at.0 in
    let high : nat_lt root hi ≡ true = lt-ltb root hi at.1 in
    get-without lo hi store root ∙ rw (low, high))
