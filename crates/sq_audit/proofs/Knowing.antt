-- What receipts say, whatever their order.
use Rattle.std.proofs.Common.{◌≡◌, inl, inr, ℕ, ◌+◌, ◌==◌, ◌&&◌, Bool, true, false, List, [], ◌∷◌, filter, IsPermutation, Result, Ok, Err, refl, sym, ap, ◌∙◌, arith}
use Rattle.std.specs.Prelude.{cond, count_by, IfOk}
use Rattle.std.specs.Bool.{Decides}
use Rattle.std.proofs.lemmas.Bool.{cases_Bool}
use Rattle.std.proofs.lemmas.Bool.Decides.{Decides-like, Decides-at, Decides-and}
use Rattle.std.proofs.lemmas.List.Sums.{sum_by-append}
use Rattle.std.proofs.lemmas.List.Sorted.{IsPermutation-sym, Contains-permutation, sum_by-IsPermutation}
use Rattle.sq_gather.specs.Prelude.{RowList, RowTable, FamilyValue, ReceiptValue}
use Rattle.sq_gather.proofs.Prelude.{Contains-filter, kept_in, filter-first, filter-other}
use Rattle.sq_audit.specs.declared.job.Job.{Job}
use Rattle.sq_audit.specs.Located.{Entry}
use Rattle.sq_audit.specs.declared.told.Found.{Found}
use Rattle.sq_audit.specs.Answers.{ArePosted, TellsLog, is_named, receipts_of, told_family, TellsFamily, StartsFrom}
use Rattle.sq_audit.specs.Told.{TellNoLog, AreFound, IsFound}

pub count_first : {X : Type 0} (p : X → Bool) (x : X) (xs : List X) → count_by p (x ∷ xs) ≡ cond (p x) 1 0 + count_by p xs
count_first p x xs = sum_by-append (λ y. cond (p y) 1 0) (x ∷ []) xs ∙ (let e : (0 + cond (p x) 1 0) + count_by p xs ≡ cond (p x) 1 0 + count_by p xs = omega arith in e)

pub count_kept : {X : Type 0} (q p : X → Bool) (xs : List X) → count_by p (filter q xs) ≡ count_by (λ x. q x && p x) xs
count_kept q p [] = refl
count_kept q p (x ∷ xs) =
    let first = count_first (λ y. q y && p y) x xs in
    elim (cases_Bool (q x)) [
      | inl passes ↦
          ap (count_by p) (filter-first q x xs passes) ∙ count_first p x (filter q xs) ∙ ap (λ n. cond (p x) 1 0 + n) (count_kept q p xs)
          ∙ ap (λ b. cond (b && p x) 1 0 + count_by (λ y. q y && p y) xs) (sym passes) ∙ sym first
      | inr fails ↦
          ap (count_by p) (filter-other q x xs fails) ∙ count_kept q p xs
          ∙ (let e : count_by (λ y. q y && p y) xs ≡ 0 + count_by (λ y. q y && p y) xs = omega arith in e)
          ∙ ap (λ b. cond (b && p x) 1 0 + count_by (λ y. q y && p y) xs) (sym fails) ∙ sym first
    ]

-- receipts in another order say the same
log_permuted : (family : FamilyValue) (root : ℕ) (xs ys : List ReceiptValue) → IsPermutation xs ys → TellsLog family (receipts_of root xs) → TellsLog family (receipts_of root ys)
log_permuted family root xs ys same tells =
    let of = λ (r : ReceiptValue). r.txn.root == root in
    record {
      known = λ r has.
          let kept = kept_in of ys r has in
          tells.known r (Contains-filter of xs r (Contains-permutation ys xs r (IsPermutation-sym xs ys same) kept.0) kept.1);
      named = λ position.
          count_kept of (is_named position) ys ∙ sum_by-IsPermutation (λ r. cond (of r && is_named position r) 1 0) xs ys same ∙ sym (count_kept of (is_named position) xs) ∙ tells.named position;
    }

pub tells_permuted : (base : RowList) (family : FamilyValue) (xs ys : List ReceiptValue) → IsPermutation xs ys
    → TellsFamily base family (receipts_of family.root xs) → TellsFamily base family (receipts_of family.root ys)
tells_permuted base family xs ys same told =
    (told.0, told.1, log_permuted (told_family family.root base told.0) family.root xs ys same told.2)

pub starts_permuted : (base : RowList) (family : FamilyValue) (xs ys : List ReceiptValue) → IsPermutation xs ys
    → StartsFrom base family (receipts_of family.root xs) → StartsFrom base family (receipts_of family.root ys)
starts_permuted base family xs ys same starts = record {
  fresh = starts.fresh;
  told = λ log long tells. starts.told log long (log_permuted (told_family family.root base log) family.root ys xs (IsPermutation-sym xs ys same) tells);
}

-- what is found of everything
pub all_found : (rows : RowTable) (entries : List Entry) (sorted receipts : List ReceiptValue) (logs told found : Found) (others posted : Bool) → IsPermutation receipts sorted
    → AreFound rows entries sorted logs → Decides others (TellNoLog rows entries receipts)
    → told.start ≡ (logs.start && true) → told.known ≡ (logs.known && others) → found.start ≡ (told.start && true) → found.known ≡ (told.known && posted)
    → (jobs : List Job) → Decides posted (ArePosted jobs receipts) → IsFound rows entries jobs receipts found
all_found rows entries sorted receipts logs told found others posted same are nothing start known starts knows jobs are_posted =
    let back = IsPermutation-sym receipts sorted same in
    record {
      start = Decides-at found.start logs.start (starts ∙ and_true told.start ∙ start ∙ and_true logs.start)
          (Decides-like logs.start
          (λ all entry has. starts_permuted (rows entry.1.root) entry.1 sorted receipts back (all entry has))
          (λ all entry has. starts_permuted (rows entry.1.root) entry.1 receipts sorted same (all entry has))
          are.start);
      known = Decides-at found.known ((logs.known && others) && posted) (knows ∙ ap (λ b. b && posted) known)
          (Decides-like ((logs.known && others) && posted)
          (λ all. record { logs = λ entry has. tells_permuted (rows entry.1.root) entry.1 sorted receipts back (all.0.0 entry has); nothing = all.0.1; posted = all.1 })
          (λ all. (((λ entry has. tells_permuted (rows entry.1.root) entry.1 receipts sorted same (all.logs entry has)), all.nothing), all.posted))
          (Decides-and (logs.known && others) posted (Decides-and logs.known others are.known nothing) are_posted));
    }
  where
    and_true : (b : Bool) → (b && true) ≡ b
    and_true true = refl
    and_true false = refl

pub ok_like : {T E : Type 0} {P Q : T → Type 0} (r : Result T E) → ((x : T) → P x → Q x) → IfOk r P → IfOk r Q
ok_like (Ok x) f is = f x is
ok_like (Err e) f is = is

-- what is found of everything, by what was found of the jobs
pub found_with : {E : Type 0} (rows : RowTable) (entries : List Entry) (jobs : List Job) (receipts : List ReceiptValue) (posted : Bool) (result : Result Found E) → Decides posted (ArePosted jobs receipts)
    → IfOk result (λ found. (jobs : List Job) → Decides posted (ArePosted jobs receipts) → IsFound rows entries jobs receipts found)
    → IfOk result (IsFound rows entries jobs receipts)
found_with rows entries jobs receipts posted (Ok found) are each = each jobs are
found_with rows entries jobs receipts posted (Err e) are each = each
