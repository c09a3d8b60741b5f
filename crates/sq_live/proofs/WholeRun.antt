-- A whole run, from stage to stage: its receipts answer the jobs that are no more left, and its logs have the committed ones.
use Rattle.std.proofs.Common.{◌≡◌, ⊎_elim, ◌⊎◌, inl, inr, ℕ, suc, ◌+◌, ◌<◌, ◌≤◌, ◌==◌, Bool, true, false, List, [], ◌∷◌, ◌++◌, length, take, Contains, refl, sym, ap, ◌∙◌, subst, true≢false, arith, length-append}
use Rattle.std.specs.Prelude.{not, cond, count_by, nat_lt}
use Rattle.std.proofs.lemmas.Bool.{cases_Bool, cases_lt, eqb-true}
use Rattle.std.proofs.lemmas.Bool.Decides.{nat_tests}
use Rattle.std.proofs.lemmas.List.{take-append-le}
use Rattle.std.proofs.lemmas.List.Elements.{Contains-append_left, Contains-append_right, Contains-append_cases}
use Rattle.std.proofs.lemmas.List.Sums.{sum_by-append, fold-append}
use Rattle.sq_schema.specs.TxnValue.{TxnValue}
use Rattle.sq_schema.specs.Effect.{RowList, effect, replay_rows, reply}
use Rattle.sq_schema.specs.Family.{FamilyValue, rows_of}
use Rattle.sq_schema.specs.Table.{TableValue, rows_in}
use Rattle.sq_moves.specs.OpeningValue.{OpeningValue}
use Rattle.sq_moves.specs.Opening.{IsOpening}
use Rattle.sq_model.specs.Tables.{opening_rows}
use Rattle.sq_model.proofs.Lists.{Contains-nothing, Contains-slice_get, slice_get-Contains, Contains-filter, kept_in}
use Rattle.sq_node_model.specs.NodeValue.{ReceiptValue}
use Rattle.sq_node_model.specs.BeganWith.{BeganWith}
use Rattle.sq_node_model.specs.Gathered.{GatheredValue}
use Rattle.sq_node_model.specs.Placed.{IsPlaced}
use Rattle.sq_node_model.specs.Next.{IsStageDone}
use Rattle.sq_node_model.specs.Folded.{folded_opening, IsFolded}
use Rattle.sq_node_model.proofs.Lists.{after_append}
use Rattle.sq_node_model.proofs.Members.{slice_get-front}
use Rattle.sq_audit.specs.declared.job.Job.{Job}
use Rattle.sq_audit.specs.Answers.{IsAnswerTo, IdsDiffer, is_of}
use Rattle.sq_audit.specs.Sound.{IsSoundRun}
use Rattle.sq_audit.specs.Folding.{has_receipt, answered_jobs, jobs_left}
use Rattle.sq_audit.proofs.Each.{same_of}
use Rattle.sq_audit.proofs.Lists.{counted}
use Rattle.sq_live.specs.Account.{AccountValue, first_account}
use Rattle.sq_live.specs.Outcome.{commit_count}
use Rattle.sq_live.specs.Stages.{HasFolded, HavePassed}
use Rattle.sq_live.specs.WholeRun.{receipts_over, log_over, whole_family, IsCommitted}
use Rattle.sq_live.proofs.Ofs.{of_parts}
use Rattle.sq_live.proofs.StageAdds.{stored_then, base_then, rows_then, folded_rows, told_then, logged, once_then}

count_append : {X : Type 0} (p : X → Bool) (xs ys : List X) → count_by p (xs ++ ys) ≡ count_by p xs + count_by p ys
count_append p xs ys = sum_by-append (λ x. cond (p x) 1 0) xs ys

take_behind : {X : Type 0} (xs ys : List X) (n : ℕ) → take (length xs + n) (xs ++ ys) ≡ xs ++ take n ys
take_behind [] ys n = ap (λ (k : ℕ). take k ys) (let e : 0 + n ≡ n = omega arith in e)
take_behind (x ∷ xs) ys n =
    ap (λ (k : ℕ). take k (x ∷ xs ++ ys)) (let e : length (x ∷ xs) + n ≡ suc (length xs + n) = omega arith in e) ∙ ap (λ more. x ∷ more) (take_behind xs ys n)

-- ---- an answer by a longer log

module _ (root : ℕ) (base : RowList) (front : List TxnValue) (receipt : ReceiptValue) where
  abbrev with_log : List TxnValue → FamilyValue
  with_log log = record { root = root; base = base; log = log }

  -- what follows in the log changes nothing
  longer : (back : List TxnValue) → IsAnswerTo (with_log front) receipt → IsAnswerTo (with_log (front ++ back)) receipt
  longer back answer =
      let within = answer.within in
      record {
        within = omega (arith, within, length-append front back);
        told = answer.told ∙ ap (λ (log : List TxnValue). reply (replay_rows base log) receipt.txn) (sym (take-append-le receipt.position front back within));
        there = λ commit. slice_get-front front back receipt.position receipt.txn (answer.there commit);
      }

  -- and what went before is in the rows that the log starts from
  behind : (family : FamilyValue) → family.base ≡ replay_rows base front → IsAnswerTo family receipt
      → IsAnswerTo (with_log (front ++ family.log)) (record receipt { position = length front + receipt.position })
  behind family starts answer =
      let within = answer.within in
      let first = take receipt.position family.log in
      record {
        within = omega (arith, within, length-append front family.log);
        told =
            answer.told ∙ ap (λ (rows : RowList). reply (replay_rows rows first) receipt.txn) starts
            ∙ ap (λ (rows : RowList). reply rows receipt.txn) (sym (fold-append effect base front first))
            ∙ ap (λ (log : List TxnValue). reply (replay_rows base log) receipt.txn) (sym (take_behind front family.log receipt.position));
        there = λ commit. after_append front family.log receipt.position receipt.txn (answer.there commit);
      }

-- ---- what holds of the stages so far

-- a job is left and has no receipt, or it isn't and has one
abbrev pub IsSettled : List ReceiptValue → List Job → Job → Type 0
IsSettled receipts left job =
    (Contains left job × (count_by (is_of job.txn) receipts ≡ 0)) ⊎ ((Contains left job → ⊥) × (count_by (is_of job.txn) receipts ≡ 1))

-- these stages had the answers of the jobs that are no more left, and the rows now are those of the whole logs
pub record HaveTold (o : OpeningValue) (jobs : List Job) (stages : List GatheredValue) (rows : ℕ → RowList) (left : List Job)
    (committed : ℕ) : Type 0 where
  pub rows_are : (root : ℕ) → rows root ≡ rows_of (whole_family o stages root)
  pub within : (job : Job) → Contains left job → Contains jobs job
  pub settled : (job : Job) → Contains jobs job → IsSettled (receipts_over stages) left job
  pub answers : (receipt : ReceiptValue) → Contains (receipts_over stages) receipt
      → (job : Job) × (position : ℕ) × Contains jobs job × (Contains left job → ⊥) × (job.txn ≡ receipt.txn)
      × IsAnswerTo (whole_family o stages receipt.txn.root) (record receipt { position = position })
  pub each : (root : ℕ) (txn : TxnValue) → Contains (log_over o stages root) txn
      → (job : Job) × Contains jobs job × (job.txn ≡ txn) × (txn.root ≡ root) × IsCommitted (receipts_over stages) job
  pub once : (root id : ℕ) → count_by (λ (txn : TxnValue). txn.id == id) (log_over o stages root) ≤ 1
  pub commits : committed ≡ commit_count (receipts_over stages)

-- no two jobs have one id
pub same_job : (jobs : List Job) → IdsDiffer jobs → (one other : Job) → Contains jobs one → Contains jobs other → one.txn.id ≡ other.txn.id → one ≡ other
same_job jobs differ one other has also ids =
    let at = slice_get-Contains jobs one has in
    let there = slice_get-Contains jobs other also in
    same_of jobs also.0 has.0 other one there at (differ has.0 also.0 one other at there ids)

-- of the jobs that were left these have a receipt now, and those are left still
pub record AreParted (receipts : List ReceiptValue) (left taken rest : List Job) : Type 0 where
  pub taken_of : (job : Job) → Contains taken job → Contains left job
  pub rest_of : (job : Job) → Contains rest job → Contains left job
  pub apart : (job : Job) → Contains taken job → Contains rest job → ⊥
  pub part : (job : Job) → Contains left job → Contains taken job ⊎ (Contains rest job × (count_by (is_of job.txn) receipts ≡ 0))

module _ (o : OpeningValue) (is : IsOpening o) (jobs : List Job) (differ : IdsDiffer jobs) (earlier : List GatheredValue) (table : TableValue) (left : List Job) (committed : ℕ)
    (told : HaveTold o jobs earlier (λ root. rows_in table root) left committed) (g : GatheredValue) (taken rest : List Job) (sound : IsSoundRun (folded_opening o table) g taken)
    (placed : IsPlaced (folded_opening o table) g) (done : IsStageDone (folded_opening o table) g) (parted : AreParted g.receipts left taken rest) where
  abbrev stored : ℕ → FamilyValue
  stored root = stored_then o is table g taken sound placed done root

  pub rows_more : (root : ℕ) → rows_of (stored root) ≡ rows_of (whole_family o (g ∷ earlier) root)
  rows_more root =
      rows_then o is table g taken sound placed done root ∙ ap (λ (rows : RowList). replay_rows rows (stored root).log) (told.rows_are root)
      ∙ sym (fold-append effect (opening_rows o root) (log_over o earlier root) (stored root).log)

  answers_more : (receipt : ReceiptValue) → Contains (receipts_over earlier ++ g.receipts) receipt
      → (job : Job) × (position : ℕ) × Contains jobs job × (Contains rest job → ⊥) × (job.txn ≡ receipt.txn)
      × IsAnswerTo (whole_family o (g ∷ earlier) receipt.txn.root) (record receipt { position = position })
  answers_more receipt has =
      ⊎_elim
      (λ before.
      let (job, position, among, gone, is, answer) = told.answers receipt before in
      let root = receipt.txn.root in (
        job,
        position,
        among,
        λ stays. gone (parted.rest_of job stays),
        is,
        longer root (opening_rows o root) (log_over o earlier root) (record receipt { position = position }) (stored root).log answer,
      ))
      (λ now.
      let (job, among, same, answer) = told_then o is table g taken sound placed done receipt now in
      let root = receipt.txn.root in (
        job,
        length (log_over o earlier root) + receipt.position,
        told.within job (parted.taken_of job among),
        parted.apart job among,
        same,
        behind root (opening_rows o root) (log_over o earlier root) receipt (stored root) (base_then o is table g taken sound placed done root ∙ told.rows_are root) answer,
      ))
      (Contains-append_cases (receipts_over earlier) g.receipts receipt has)

  each_more : (root : ℕ) (txn : TxnValue) → Contains (log_over o earlier root ++ (stored root).log) txn
      → (job : Job) × Contains jobs job × (job.txn ≡ txn) × (txn.root ≡ root) × IsCommitted (receipts_over earlier ++ g.receipts) job
  each_more root txn has =
      ⊎_elim
      (λ before.
      let (job, among, same, root_is, committed) = told.each root txn before in
      (job, among, same, root_is, (committed.0, Contains-append_left (receipts_over earlier) g.receipts committed.0 committed.1, committed.2, committed.3)))
      (λ now.
      let is_logged = logged o is table g taken sound placed done root now.0 txn (slice_get-Contains (stored root).log txn now) in
      let receipt = is_logged.receipt in (
        is_logged.job,
        told.within is_logged.job (parted.taken_of is_logged.job is_logged.among),
        is_logged.is,
        is_logged.root_is,
        (
          receipt,
          Contains-append_right (receipts_over earlier) g.receipts receipt (Contains-slice_get g.receipts is_logged.place receipt is_logged.there),
          subst (λ (t : TxnValue). is_of t receipt ≡ true) (sym is_logged.is) is_logged.of,
          is_logged.commit,
        ),
      ))
      (Contains-append_cases (log_over o earlier root) (stored root).log txn has)

  -- no id that was in the logs before is in one of this stage
  not_again : (root id : ℕ) → 0 < count_by (λ (txn : TxnValue). txn.id == id) (log_over o earlier root) → 0 < count_by (λ (txn : TxnValue). txn.id == id) (stored root).log → ⊥
  not_again root id some more =
      let has_id : TxnValue → Bool = λ txn. txn.id == id in
      let old = counted has_id (log_over o earlier root) some in
      let new = counted has_id (stored root).log more in
      let (was, was_among, was_is, was_root, committed) = told.each root old.one (Contains-slice_get (log_over o earlier root) old.place old.one old.there) in
      let (job, position, among, gone, same, answer) = told.answers committed.0 committed.1 in
      let now = logged o is table g taken sound placed done root new.place new.one new.there in
      let left_now = parted.taken_of now.job now.among in
      let old_id : old.one.id ≡ job.txn.id = ap (λ (t : TxnValue). t.id) (sym was_is) ∙ sym (of_parts was.txn committed.0 committed.2).id ∙ ap (λ (t : TxnValue). t.id) (sym same) in
      let ids : now.job.txn.id ≡ job.txn.id = ap (λ (t : TxnValue). t.id) now.is ∙ eqb-true new.one.id id new.passes ∙ sym (eqb-true old.one.id id old.passes) ∙ old_id in
      gone (subst (Contains left) (same_job jobs differ now.job job (told.within now.job left_now) among ids) left_now)

  once_more : (root id : ℕ) → count_by (λ (txn : TxnValue). txn.id == id) (log_over o earlier root ++ (stored root).log) ≤ 1
  once_more root id =
      let has_id : TxnValue → Bool = λ txn. txn.id == id in
      let all = count_append has_id (log_over o earlier root) (stored root).log in
      let before = told.once root id in
      let here = once_then o is table g taken sound placed done root id in
      ⊎_elim
      (λ some. ⊎_elim (λ more. absurd (not_again root id some more)) (λ none. omega (arith, all, before, none)) (cases_lt 0 (count_by has_id (stored root).log)))
      (λ none. omega (arith, all, here, none))
      (cases_lt 0 (count_by has_id (log_over o earlier root)))

  -- a job that is no more left has no receipt of this stage
  none_again : (job : Job) → Contains jobs job → (Contains left job → ⊥) → 0 < count_by (is_of job.txn) g.receipts → ⊥
  none_again job has away some =
      let found = counted (is_of job.txn) g.receipts some in
      let (other, among, same, answer) = told_then o is table g taken sound placed done found.one (Contains-slice_get g.receipts found.place found.one found.there) in
      let other_left = parted.taken_of other among in
      let ids : other.txn.id ≡ job.txn.id = ap (λ (t : TxnValue). t.id) same ∙ (of_parts job.txn found.one found.passes).id in
      away (subst (Contains left) (same_job jobs differ other job (told.within other other_left) has ids) other_left)

  settled_more : (job : Job) → Contains jobs job → IsSettled (receipts_over earlier ++ g.receipts) rest job
  settled_more job has =
      let all = count_append (is_of job.txn) (receipts_over earlier) g.receipts in
      ⊎_elim
      (λ waits.
      let none = waits.1 in
      ⊎_elim
      (λ now. let one = sound.answered job now in inr (parted.apart job now, omega (arith, all, none, one)))
      (λ stays. let still = stays.1 in inl (stays.0, omega (arith, all, none, still)))
      (parted.part job waits.0))
      (λ has_one.
      let one = has_one.1 in
      inr (
        λ stays. has_one.0 (parted.rest_of job stays),
        ⊎_elim
            (λ some. absurd (none_again job has has_one.0 some))
            (λ none. omega (arith, all, one, none))
            (cases_lt 0 (count_by (is_of job.txn) g.receipts)),
      ))
      (told.settled job has)

  -- the stage added more
  pub told_more : (rows : ℕ → RowList) → ((root : ℕ) → rows root ≡ rows_of (stored root)) → HaveTold o jobs (g ∷ earlier) rows rest (committed + commit_count g.receipts)
  told_more rows same =
      let commits = told.commits in
      let all : commit_count (receipts_over earlier ++ g.receipts) ≡ commit_count (receipts_over earlier) + commit_count g.receipts = count_append _ (receipts_over earlier) g.receipts in
      record {
        rows_are = λ root. same root ∙ rows_more root;
        within = λ job has. told.within job (parted.rest_of job has);
        settled = settled_more;
        answers = answers_more;
        each = each_more;
        once = once_more;
        commits = omega (arith, commits, all);
      }

-- ---- from stage to stage

-- so it is once a run continues with this account
pub record HaveToldTo (o : OpeningValue) (jobs : List Job) (stages : List GatheredValue) (account : AccountValue) : Type 0 where
  pub opening : account.opening ≡ folded_opening o account.opening.table
  pub told : HaveTold o jobs stages (λ root. rows_in account.opening.table root) account.jobs account.committed

-- the jobs with a receipt and those without one
receipts_part : (receipts : List ReceiptValue) (jobs : List Job) → AreParted receipts jobs (answered_jobs receipts jobs) (jobs_left receipts jobs)
receipts_part receipts jobs =
    let fails : Job → Bool = λ job. not (has_receipt receipts job) in
    record {
      taken_of = λ job has. (kept_in (has_receipt receipts) jobs job has).0;
      rest_of = λ job has. (kept_in fails jobs job has).0;
      apart = λ job has also. true≢false (sym (kept_in fails jobs job also).1 ∙ ap not (kept_in (has_receipt receipts) jobs job has).1);
      part = λ job has. elim (cases_Bool (has_receipt receipts job)) [
        | inl some ↦ inl (Contains-filter (has_receipt receipts) jobs job has some)
        | inr none ↦ inr (Contains-filter fails jobs job has (ap not none), nothing (count_by (is_of job.txn) receipts) none)
      ];
    }
  where
    nothing : (n : ℕ) → nat_lt 0 n ≡ false → n ≡ 0
    nothing n none = grind (arith, nat_tests, none)

-- all jobs have one
pub all_part : (receipts : List ReceiptValue) (jobs : List Job) → AreParted receipts jobs jobs []
all_part receipts jobs = record {
  taken_of = λ job has. has;
  rest_of = λ job has. absurd (Contains-nothing job has);
  apart = λ job has also. Contains-nothing job also;
  part = λ job has. inl has;
}

module _ (o : OpeningValue) (is : IsOpening o) (jobs : List Job) (differ : IdsDiffer jobs) where
  none_told : HaveTold o jobs [] (λ root. rows_in o.table root) jobs 0
  none_told = record {
    rows_are = λ root. refl;
    within = λ job has. has;
    settled = λ job has. inl (has, refl);
    answers = λ receipt has. absurd (Contains-nothing receipt has);
    each = λ root txn has. absurd (Contains-nothing txn has);
    once = λ root id. omega arith;
    commits = refl;
  }

  pub at_begin : (account : AccountValue) → account ≡ first_account o jobs → HaveToldTo o jobs [] account
  at_begin account first = subst (HaveToldTo o jobs []) (sym first) (record { opening = refl; told = none_told })

  module _ (earlier : List GatheredValue) (old : AccountValue) (at : HaveToldTo o jobs earlier old) (g : GatheredValue) (new : AccountValue) (next : GatheredValue)
      (placed : IsPlaced old.opening g) (done : IsStageDone old.opening g) (fold : HasFolded old g new next) where
    abbrev sound_then : IsSoundRun (folded_opening o old.opening.table) g (answered_jobs g.receipts old.jobs)
    sound_then = subst (λ (p : OpeningValue). IsSoundRun p g (answered_jobs g.receipts old.jobs)) at.opening fold.is.sound

    abbrev placed_then : IsPlaced (folded_opening o old.opening.table) g
    placed_then = subst (λ (p : OpeningValue). IsPlaced p g) at.opening placed

    abbrev done_then : IsStageDone (folded_opening o old.opening.table) g
    done_then = subst (λ (p : OpeningValue). IsStageDone p g) at.opening done

    new_opening : new.opening ≡ folded_opening o fold.folded.opening.table
    new_opening = fold.opening ∙ fold.is.opening ∙ ap (λ (p : OpeningValue). folded_opening p fold.folded.opening.table) at.opening

    new_table : new.opening.table ≡ fold.folded.opening.table
    new_table = ap (λ (p : OpeningValue). p.table) fold.opening

    new_jobs : new.jobs ≡ jobs_left g.receipts old.jobs
    new_jobs = fold.jobs ∙ fold.is.left

    at_fold : HaveTold o jobs (g ∷ earlier) (λ root. rows_in fold.folded.opening.table root) (jobs_left g.receipts old.jobs) (old.committed + commit_count g.receipts)
    at_fold =
        told_more o is jobs differ earlier old.opening.table old.jobs old.committed at.told g (answered_jobs g.receipts old.jobs) (jobs_left g.receipts old.jobs) sound_then placed_then done_then (receipts_part g.receipts old.jobs)
        (λ root. rows_in fold.folded.opening.table root)
        (folded_rows o is old.opening.table g (answered_jobs g.receipts old.jobs) sound_then placed_then done_then fold.folded.opening.table fold.folded.gathered.stores
        (subst (λ (p : OpeningValue). IsFolded p g fold.folded.opening.table fold.folded.gathered.stores) at.opening fold.is.is_folded))

    pub once_folded : HaveToldTo o jobs (g ∷ earlier) new
    once_folded = record {
      opening = new_opening ∙ ap (folded_opening o) (sym new_table);
      told = subst (λ (p : TableValue × List Job × ℕ). HaveTold o jobs (g ∷ earlier) (λ root. rows_in p.0 root) p.1 p.2) (λ i. (sym new_table i, sym new_jobs i, sym fold.committed i)) at_fold;
    }

  -- with folds each stage has its own
  pub told_by_folds : (earlier : List GatheredValue) (account : AccountValue) (began : BeganWith) → HavePassed true o jobs earlier account began → HaveToldTo o jobs earlier account
  told_by_folds [] account began passed = at_begin account passed.0
  told_by_folds (g ∷ earlier) account began passed =
      let (old, before, have, has) = passed in
      once_folded earlier old (told_by_folds earlier old before have) g account has.next has.ran.placed has.done has.continues

  -- without them the end has all
  same_account : (earlier : List GatheredValue) (account : AccountValue) (began : BeganWith) → HavePassed false o jobs earlier account began → account ≡ first_account o jobs
  same_account [] account began passed = passed.0
  same_account (g ∷ earlier) account began passed =
      let (old, before, have, has) = passed in
      has.continues.0 ∙ same_account earlier old before have

  pub told_at_once : (earlier : List GatheredValue) (account : AccountValue) (began : BeganWith) → HavePassed false o jobs earlier account began → HaveToldTo o jobs [] account
  told_at_once earlier account began passed = at_begin account (same_account earlier account began passed)
