-- What held before a step that went.
use Rattle.std.proofs.Common.{◌≡◌, ℕ, Bool, true, false, not, ◌==◌, if◌then◌else◌, Result, Ok, Err, refl, ap, ◌∙◌}
use Rattle.std.proofs.lemmas.Bool.{eqb-true}
use Rattle.sq_moves.specs.declared.status.Status.{Status}
use Rattle.sq_moves.specs.declared.status.Status.TheVariants.{Free, Claimed, Partial}
use Rattle.sq_moves.specs.Node.{is_leaf}
use Rattle.sq_moves.specs.Status.{is_free, is_claimed, is_partial, is_live, pull_of}
use Rattle.sq_moves.specs.Answer.{split_answer, claim_answer, begin_answer, complete_answer}
use Rattle.sq_moves.proofs.Statuses.{free_is, claimed_is, partial_is}

-- done, so this refusal had no cause, and what comes after it is done
past : {F : Type 0} (cause : Bool) (fault : F) (rest : Result (Unit {0}) F) → (if cause then Err fault else rest) ≡ Ok tt → (cause ≡ false) × (rest ≡ Ok tt)
past true fault rest e = absurd cc
past false fault rest e = (refl, e)

holds : (b : Bool) → not b ≡ false → b ≡ true
holds true e = refl
holds false e = absurd cc

-- a step of a node that asks for a status, and for the pull that the node is of, went
of_pull : {F : Type 0} (is : Bool) (by p : ℕ) (other wrong : F) → ◌≡◌ {A = Result (Unit {0}) F} (if not is then Err other else if not (by == p) then Err wrong else Ok tt) (Ok tt) → (is ≡ true) × (by ≡ p)
of_pull is by p other wrong went =
    let a = past _ _ _ went in
    let b = past _ _ _ a.1 in
    (holds is a.0, eqb-true by p (holds (by == p) b.0))

-- a node was split
pub record SplitWent (status : ℕ → Status) (n : ℕ) : Type 0 where
  pub inner : is_leaf n ≡ false
  pub live : is_live status n ≡ true
  pub free : status n ≡ Free

pub split_went : (status : ℕ → Status) (n : ℕ) → split_answer status n ≡ Ok tt → SplitWent status n
split_went status n went =
    let a = past _ _ _ went in
    let b = past _ _ _ a.1 in
    let c = past _ _ _ b.1 in
    record { inner = a.0; live = holds (is_live status n) b.0; free = free_is (status n) (holds (is_free (status n)) c.0) }

-- a node was claimed
pub record ClaimWent (status : ℕ → Status) (n : ℕ) : Type 0 where
  pub live : is_live status n ≡ true
  pub free : status n ≡ Free

pub claim_went : (status : ℕ → Status) (n p : ℕ) → claim_answer status n p ≡ Ok tt → ClaimWent status n
claim_went status n p went =
    let a = past _ _ _ went in
    let b = past _ _ _ a.1 in
    record { live = holds (is_live status n) a.0; free = free_is (status n) (holds (is_free (status n)) b.0) }

-- a node was begun
pub begin_went : (status : ℕ → Status) (n p : ℕ) → begin_answer status n p ≡ Ok tt → status n ≡ Claimed p
begin_went status n p went =
    let own = of_pull (is_claimed (status n)) (pull_of (status n)) p _ _ went in
    claimed_is (status n) own.0 ∙ ap Claimed own.1

-- a node was completed
pub complete_went : (status : ℕ → Status) (n p : ℕ) → complete_answer status n p ≡ Ok tt → status n ≡ Partial p
complete_went status n p went =
    let own = of_pull (is_partial (status n)) (pull_of (status n)) p _ _ went in
    partial_is (status n) own.0 ∙ ap Partial own.1
