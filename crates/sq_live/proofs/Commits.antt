-- Where what was gathered is sound there are no more receipts than jobs, and so no more commits.
use Rattle.std.proofs.Common.{◌≡◌, inl, inr, ℕ, ◌+◌, ◌≤◌, Bool, true, List, [], ◌∷◌, length, refl, sym, ap, ◌∙◌, arith}
use Rattle.std.specs.Prelude.{Contains, count_by, sum_by, cond}
use Rattle.std.proofs.lemmas.List.Sums.{sum_by-cons, count_by-le-length}
use Rattle.sq_model.proofs.Lists.{Contains-first, Contains-later, Contains-cases, Contains-nothing}
use Rattle.sq_node_model.specs.NodeValue.{ReceiptValue}
use Rattle.sq_node_model.specs.Receipts.{is_commit}
use Rattle.sq_node_model.specs.Gathered.{GatheredValue}
use Rattle.sq_moves.specs.OpeningValue.{OpeningValue}
use Rattle.sq_audit.specs.declared.job.Job.{Job}
use Rattle.sq_audit.specs.Answers.{is_of, AreKnown, AreAnswered}
use Rattle.sq_audit.proofs.Knowing.{count_first}
use Rattle.sq_live.specs.Outcome.{commit_count}
use Rattle.sq_live.proofs.Ofs.{of_same}

-- the pairs that go together are as many by the one as by the other
module _ {X Y : Type 0} (goes : X → Y → Bool) where
  abbrev with_x : X → List Y → ℕ
  with_x x ys = count_by (λ y. goes x y) ys

  abbrev with_y : List X → Y → ℕ
  with_y xs y = count_by (λ x. goes x y) xs

  one_more : (x : X) (xs : List X) (ys : List Y) → sum_by (with_y (x ∷ xs)) ys ≡ with_x x ys + sum_by (with_y xs) ys
  one_more x xs [] = refl
  one_more x xs (y ∷ ys) =
      let both = sum_by-cons (with_y (x ∷ xs)) y ys in
      let here = count_first (λ (x : X). goes x y) x xs in
      let first = count_first (λ (y : Y). goes x y) y ys in
      let rest = sum_by-cons (with_y xs) y ys in
      let later = one_more x xs ys in
      let e : sum_by (with_y (x ∷ xs)) (y ∷ ys) ≡ with_x x (y ∷ ys) + sum_by (with_y xs) (y ∷ ys) = omega (arith, both, here, first, rest, later) in
      e

  none_at_all : (ys : List Y) → sum_by (with_y []) ys ≡ 0
  none_at_all [] = refl
  none_at_all (y ∷ ys) = omega (arith, sum_by-cons (with_y []) y ys, none_at_all ys)

  crossed : (xs : List X) (ys : List Y) → sum_by (λ x. with_x x ys) xs ≡ sum_by (with_y xs) ys
  crossed [] ys = sym (none_at_all ys)
  crossed (x ∷ xs) ys = sum_by-cons (λ x. with_x x ys) x xs ∙ ap (λ n. with_x x ys + n) (crossed xs ys) ∙ sym (one_more x xs ys)

-- what is at least one each is as much as there are
each_some : {X : Type 0} (f : X → ℕ) (xs : List X) → ((x : X) → Contains xs x → 1 ≤ f x) → length xs ≤ sum_by f xs
each_some f [] some = omega arith
each_some f (x ∷ xs) some =
    let here = some x (Contains-first x xs) in
    let rest = each_some f xs (λ y has. some y (Contains-later x xs y has)) in
    let all = sum_by-cons f x xs in
    let e : length (x ∷ xs) ≤ sum_by f (x ∷ xs) = omega (arith, here, rest, all) in
    e

each_one : {X : Type 0} (f : X → ℕ) (xs : List X) → ((x : X) → Contains xs x → f x ≡ 1) → sum_by f xs ≡ length xs
each_one f [] one = refl
each_one f (x ∷ xs) one =
    let here = one x (Contains-first x xs) in
    let rest = each_one f xs (λ y has. one y (Contains-later x xs y has)) in
    let all = sum_by-cons f x xs in
    let e : sum_by f (x ∷ xs) ≡ length (x ∷ xs) = omega (arith, here, rest, all) in
    e

some_count : {X : Type 0} (p : X → Bool) (xs : List X) (x : X) → Contains xs x → p x ≡ true → 1 ≤ count_by p xs
some_count p [] x has passes = absurd (Contains-nothing x has)
some_count p (y ∷ ys) x has passes = elim (Contains-cases y ys x has) [
  | inl here ↦
      let first = count_first p y ys ∙ ap (λ b. cond b 1 0 + count_by p ys) (ap p here ∙ passes) in
      omega (arith, first)
  | inr later ↦
      let rest = some_count p ys x later passes in
      let first = count_first p y ys in
      omega (arith, first, rest)
]

-- each receipt is of a job, and no two are of the same
pub few_receipts : (o : OpeningValue) (g : GatheredValue) (jobs : List Job) → AreKnown o g jobs → AreAnswered g jobs → length g.receipts ≤ length jobs
few_receipts o g jobs known answered =
    let goes : ReceiptValue → Job → Bool = λ receipt job. is_of job.txn receipt in
    let some = each_some (λ receipt. count_by (λ job. goes receipt job) jobs) g.receipts (λ receipt has.
    let (job, job_has, is) = known.posted receipt has in
    some_count (λ (job : Job). goes receipt job) jobs job job_has (of_same job.txn receipt is)) in
    let one = each_one (λ job. count_by (λ receipt. goes receipt job) g.receipts) jobs answered in
    let same = crossed goes g.receipts jobs in
    let few : length g.receipts ≤ length jobs = omega (arith, some, one, same) in
    few

pub few_commits : (o : OpeningValue) (g : GatheredValue) (jobs : List Job) → AreKnown o g jobs → AreAnswered g jobs → commit_count g.receipts ≤ length jobs
few_commits o g jobs known answered =
    let few = few_receipts o g jobs known answered in
    let most = count_by-le-length (λ (receipt : ReceiptValue). is_commit receipt.reply) g.receipts in
    omega (arith, few, most)
