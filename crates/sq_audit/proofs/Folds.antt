-- What is folded: the jobs that have a receipt, the table and the stores of all families, and the result.
use Rattle.std.proofs.Common.{◌≡◌, ⊎_elim, ℕ, zero, suc, ◌+◌, ◌==◌, Bool, true, false, if◌then◌else◌, List, [], ◌∷◌, filter, map, length, slice_get, Contains, Option, Some, None, refl, sym, ap, ◌∙◌, subst, arith, true≢false}
use Rattle.std.specs.Prelude.{not, nat_lt, count_by, option_and_then, option_map, Result, Ok, Err, IfOk}
use Rattle.std.specs.FinMap.{get}
use Rattle.std.proofs.lemmas.List.{length-map}
use Rattle.std.proofs.lemmas.List.Elements.{filter_agree}
use Rattle.std.proofs.lemmas.List.Sums.{length-filter}
use Rattle.std.proofs.lemmas.Option.{slice_get-map}
use Rattle.sq_gather.specs.Prelude.{RowList, FamilyValue, rows_of, TableValue, rows_in, StoreValue, fold_of, folded_store, OpeningValue, IsOpening, owner_in, ReceiptValue, is_opened, Spot, Store, GatheredValue, StandsAt, FitTogether, StandOnce, IsPlaced, IsStageDone, folded_family, folded_opening, folded_gathered, IsFolded}
use Rattle.sq_gather.proofs.Prelude.{get-folded, Contains-cases, Contains-slice_get, slice_get-Contains, stands_fit, fit_folded, done_folded}
use Rattle.sq_audit.specs.declared.job.Job.{Job}
use Rattle.sq_audit.specs.declared.folded.Folded.{Folded}
use Rattle.sq_audit.specs.declared.folding.Prepared.{Prepared}
use Rattle.sq_audit.specs.declared.folding.Ready.{Ready}
use Rattle.sq_audit.specs.declared.verdict.Verdict.{Verdict}
use Rattle.sq_audit.specs.Answers.{IdsDiffer}
use Rattle.sq_audit.specs.ById.{ListsIds, is_listed}
use Rattle.sq_audit.specs.Rows.{rows_among}
use Rattle.sq_audit.specs.Defects.{IsVerdict}
use Rattle.sq_audit.specs.Folding.{has_receipt, answered_jobs, jobs_left, IsReadyToFold, IsPrepared, IsFold}
use Rattle.sq_audit.specs.Sound.{with_receipts}
use Rattle.sq_audit.proofs.Lists.{nothing_there}
use Rattle.sq_audit.proofs.Searching.{listed_count}
use Rattle.sq_audit.proofs.Among.{rows_alone, rows_stand, rows_come}

-- what a part of a list contains by a test, the whole does
in_whole : {X : Type 0} (p : X → Bool) (xs : List X) (y : X) → Contains (filter p xs) y → Contains xs y
in_whole p [] y has = has
in_whole {X} p (x ∷ xs) y has = by (in_whole p xs y) (p x) has
  where
    later : Contains xs y → Contains (x ∷ xs) y
    later there = Contains-slice_get (x ∷ xs) (suc there.0) y (slice_get-Contains xs y there)

    by : (Contains (filter p xs) y → Contains xs y) → (b : Bool) → Contains (if b then x ∷ filter p xs else filter p xs) y → Contains (x ∷ xs) y
    by rest true there = ⊎_elim (λ same. Contains-slice_get (x ∷ xs) zero y (ap Some same)) (λ more. later (rest more)) (Contains-cases x (filter p xs) y there)
    by rest false there = later (rest there)

-- jobs whose ids differ from the id of one before them
differ_behind : (one : Job) (jobs : List Job) → ((k : ℕ) (other : Job) → slice_get jobs k ≡ Some other → one.txn.id ≡ other.txn.id → ⊥) → IdsDiffer jobs → IdsDiffer (one ∷ jobs)
differ_behind one jobs apart differ zero zero a b at also same = refl
differ_behind one jobs apart differ zero (suc j) a b at also same = absurd (let first : one ≡ a = cc in apart j b also (ap (λ (job : Job). job.txn.id) first ∙ same))
differ_behind one jobs apart differ (suc i) zero a b at also same = absurd (let first : one ≡ b = cc in apart i a at (ap (λ (job : Job). job.txn.id) first ∙ sym same))
differ_behind one jobs apart differ (suc i) (suc j) a b at also same = ap suc (differ i j a b at also same)

-- the ids of some of the jobs differ as those of all do
pub some_differ : (p : Job → Bool) (jobs : List Job) → IdsDiffer jobs → IdsDiffer (filter p jobs)
some_differ p [] differ = λ i j one other at also same. absurd (nothing_there i one at)
some_differ p (job ∷ jobs) differ = by (some_differ p jobs (λ i j one other at also same. let next : suc i ≡ suc j = differ (suc i) (suc j) one other at also same in omega (arith, next))) (p job)
  where
    apart : (k : ℕ) (other : Job) → slice_get (filter p jobs) k ≡ Some other → job.txn.id ≡ other.txn.id → ⊥
    apart k other at same =
        let has = in_whole p jobs other (Contains-slice_get (filter p jobs) k other at) in
        let next : zero ≡ suc has.0 = differ zero (suc has.0) job other refl (slice_get-Contains jobs other has) same in
        omega (arith, next)

    by : IdsDiffer (filter p jobs) → (b : Bool) → IdsDiffer (if b then job ∷ filter p jobs else filter p jobs)
    by rest true = differ_behind job (filter p jobs) apart rest
    by rest false = rest

-- their ids say which jobs have a receipt
module _ (receipts : List ReceiptValue) (ids : List (ℕ × ℕ)) (lists : ListsIds receipts ids) where
  pub listed : (job : Job) → is_listed ids job ≡ has_receipt receipts job
  listed job = ap (nat_lt 0) (listed_count receipts ids lists job.txn.id job.txn.root)

  pub answered_by : (jobs : List Job) → filter (is_listed ids) jobs ≡ answered_jobs receipts jobs
  answered_by jobs = filter_agree (is_listed ids) (has_receipt receipts) listed jobs

  pub listed_are : (jobs : List Job) → count_by (is_listed ids) jobs ≡ length (answered_jobs receipts jobs)
  listed_are jobs = sym (length-filter (is_listed ids) jobs) ∙ ap length (answered_by jobs)

  pub left_by : (jobs : List Job) → filter (λ job. not (is_listed ids job)) jobs ≡ jobs_left receipts jobs
  left_by jobs = filter_agree (λ job. not (is_listed ids job)) (λ job. not (has_receipt receipts job)) (λ job. ap not (listed job)) jobs

-- a family of a folded store is the folded one of the store
fold_same : (found : Option FamilyValue) → fold_of found ≡ option_and_then folded_family found
fold_same None = refl
fold_same (Some family) = refl

store_folds : (root : ℕ) (found : Option StoreValue)
    → option_and_then (λ (store : StoreValue). get store root) (option_map folded_store found) ≡ option_and_then folded_family (option_and_then (λ (store : StoreValue). get store root) found)
store_folds root None = refl
store_folds root (Some store) = get-folded store root ∙ fold_same (get store root)

-- some rows are not none
none_opened : (rows : RowList) → rows ≡ [] → not (length rows == 0) ≡ true → ⊥
none_opened rows none opened = true≢false (sym opened ∙ ap (λ (rs : RowList). not (length rs == 0)) none)

module _ (o : OpeningValue) (is : IsOpening o) (g : GatheredValue) (fit : FitTogether o g) (once : StandOnce g) (done : IsStageDone o g) (table : TableValue) (rows : (root : ℕ) → rows_in table root ≡ rows_among [] g.stores root) where
  rows_are : (spot : Spot) (root : ℕ) (family : FamilyValue) → StandsAt g spot root family → rows_in table root ≡ rows_of family
  rows_are spot root family stands =
      let part = owner_in o (g.stage + 1) root in
      let there = subst (λ (at : Spot). StandsAt g at root family) (stands_fit o is g fit done spot root family stands) stands in
      rows root
      ∙ rows_stand g.stores root part family [] there (λ other again at. let same = once (Store other) (Store part) root again family at there in cc)
      ∙ rows_alone family

  opened : (root : ℕ) → is_opened (folded_opening o table) root ≡ true → (spot : Spot) × (family : FamilyValue) × StandsAt g spot root family
  opened root is_some =
      ⊎_elim
      (λ none. absurd (none_opened (rows_in table root) (rows root ∙ none) is_some))
      (λ one. (Store one.0, one.1, one.2))
      (rows_come g.stores root [])

  -- the stores and the table are folded
  pub folds : IsFolded o g table (map folded_store g.stores)
  folds = record {
    rows = rows_are;
    opened = opened;
    count = length-map g.stores folded_store;
    families = λ part root. ap (option_and_then (λ (store : StoreValue). get store root)) (slice_get-map folded_store g.stores part) ∙ store_folds root (slice_get g.stores part);
  }

-- what is put together of it is folded
pub is_fold : (o : OpeningValue) → IsOpening o → (g : GatheredValue) → IsStageDone o g → (jobs : List Job) → IdsDiffer jobs → (ready : Ready) → IsReadyToFold o g jobs ready → (folded : Folded)
    → folded.opening ≡ folded_opening o ready.table → folded.gathered ≡ folded_gathered g (map folded_store g.stores)
    → folded.jobs.items ≡ filter (λ job. not (is_listed ready.ids.items job)) jobs → IsFold o g jobs folded
is_fold o is g done jobs differ ready judged folded opening gathered left =
    let fit = judged.sound.fit in
    let once = judged.sound.once in
    let stores = map folded_store g.stores in
    let all = folds o is g fit once done ready.table judged.rows in
    let same_table : ready.table ≡ folded.opening.table = sym (ap (λ (v : OpeningValue). v.table) opening) in
    let same_stores : stores ≡ folded.gathered.stores = sym (ap (λ (v : GatheredValue). v.stores) gathered) in
    record {
      sound = judged.sound;
      is_folded = subst (λ (q : TableValue × List StoreValue). IsFolded o g q.0 q.1) (λ k. (same_table k, same_stores k)) all;
      opening = opening ∙ ap (folded_opening o) same_table;
      gathered = gathered ∙ ap (folded_gathered g) same_stores;
      left = left ∙ left_by g.receipts ready.ids.items judged.ids jobs;
      differ = subst IdsDiffer (sym left) (some_differ (λ job. not (is_listed ready.ids.items job)) jobs differ);
      placed = subst (λ (q : OpeningValue × GatheredValue). IsPlaced q.0 q.1) (λ k. (sym opening k, sym gathered k)) (fit_folded o is g fit once done ready.table stores all);
      done = subst (λ (q : OpeningValue × GatheredValue). IsStageDone q.0 q.1) (λ k. (sym opening k, sym gathered k)) (done_folded o is g fit once done ready.table stores all);
    }

-- what is prepared with a verdict on the jobs that have a receipt
pub prepared_of : {E : Type 0} (o : OpeningValue) (g : GatheredValue) (receipts : List ReceiptValue) (jobs : List Job) (ids : List (ℕ × ℕ)) (verdict : Verdict)
    → ListsIds receipts ids → IsVerdict o (with_receipts g receipts) (answered_jobs receipts jobs) verdict
    → (result : Result Prepared E)
    → IfOk result (λ prepared. (o : OpeningValue) (receipts : List ReceiptValue) (jobs : List Job)
    → ListsIds receipts ids → IsVerdict o (with_receipts g receipts) (answered_jobs receipts jobs) verdict → IsPrepared o (with_receipts g receipts) jobs prepared)
    → IfOk result (IsPrepared o (with_receipts g receipts) jobs)
prepared_of o g receipts jobs ids verdict lists judged (Ok prepared) each = each o receipts jobs lists judged
prepared_of o g receipts jobs ids verdict lists judged (Err e) each = each
