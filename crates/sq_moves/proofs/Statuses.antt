-- What tests of a status show.
use Rattle.std.proofs.Common.{◌≡◌, ◌↔◌, Bool, true, false, IsTrue, refl}
use Rattle.std.proofs.lemmas.Bool.{false_from_ne_true}
use Rattle.sq_moves.specs.declared.status.Status.{Status}
use Rattle.sq_moves.specs.declared.status.Status.TheVariants.{Free, Split, Claimed, Partial, Complete}
use Rattle.sq_moves.specs.Status.{is_free, is_split, is_claimed, is_partial, pull_of}

pub split_is : (st : Status) → is_split st ≡ true → st ≡ Split
split_is Free e = absurd cc
split_is Split e = refl
split_is (Claimed p) e = absurd cc
split_is (Partial p) e = absurd cc
split_is (Complete p) e = absurd cc

pub free_is : (st : Status) → is_free st ≡ true → st ≡ Free
free_is Free e = refl
free_is Split e = absurd cc
free_is (Claimed p) e = absurd cc
free_is (Partial p) e = absurd cc
free_is (Complete p) e = absurd cc

-- what is split isn't free
pub split_touched : (st : Status) → is_split st ≡ true → is_free st ≡ false
split_touched Free e = absurd cc
split_touched Split e = refl
split_touched (Claimed p) e = refl
split_touched (Partial p) e = refl
split_touched (Complete p) e = refl

-- an answer that says whether a status is split is the test
pub answer_is_split : (answer : Bool) (st : Status) → (IsTrue answer ↔ (st ≡ Split)) → answer ≡ is_split st
answer_is_split answer Free tells = false_from_ne_true answer (λ e. let other = tells.0 e in absurd cc)
answer_is_split answer Split tells = tells.1 refl
answer_is_split answer (Claimed p) tells = false_from_ne_true answer (λ e. let other = tells.0 e in absurd cc)
answer_is_split answer (Partial p) tells = false_from_ne_true answer (λ e. let other = tells.0 e in absurd cc)
answer_is_split answer (Complete p) tells = false_from_ne_true answer (λ e. let other = tells.0 e in absurd cc)

pub claimed_is : (st : Status) → is_claimed st ≡ true → st ≡ Claimed (pull_of st)
claimed_is Free e = absurd cc
claimed_is Split e = absurd cc
claimed_is (Claimed p) e = refl
claimed_is (Partial p) e = absurd cc
claimed_is (Complete p) e = absurd cc

pub partial_is : (st : Status) → is_partial st ≡ true → st ≡ Partial (pull_of st)
partial_is Free e = absurd cc
partial_is Split e = absurd cc
partial_is (Claimed p) e = absurd cc
partial_is (Partial p) e = refl
partial_is (Complete p) e = absurd cc
