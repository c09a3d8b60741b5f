-- The jobs of an input are those that its lines spell, or else the fault is that of the first line that spells none.
use Rattle.std.proofs.Common.{◌≡◌, ⊎_elim, ◌⊎◌, inl, inr, ℕ, zero, suc, ◌<◌, ◌≤◌, ◌==◌, Bool, true, false, List, [], ◌∷◌, ◌++◌, length, slice_get, Option, Some, None, refl, sym, ap, ◌∙◌, subst, arith}
use Rattle.std.specs.Prelude.{Result, Ok, Err, nat_lt, if◌then◌else◌, bytes_eq, codes, ok_or}
use Rattle.std.specs.List.{AllZip}
use Rattle.std.proofs.lemmas.Bool.{cases_lt, cond_both, lt-ltb, le-ltb, ltb-true, ltb-false, eqb-true, ne_eqb, false_from_ne_true}
use Rattle.std.proofs.lemmas.List.{append-nil, append_assoc, length-append}
use Rattle.std.proofs.lemmas.List.Elements.{All-append, All-nil, All-cons, All-contains}
use Rattle.sq_schema.specs.TxnValue.{TxnValue}
use Rattle.sq_schema.specs.Refusals.{txn_fault}
use Rattle.sq_schema.specs.declared.fault.TxnFault.{TxnFault}
use Rattle.sq_audit.specs.declared.job.Job.{Job}
use Rattle.sq_audit.specs.Answers.{IdsDiffer}
use Rattle.sq_text.specs.Pieces.{PieceValue, Line, Rest, Failed, Endless, TooMany as TooManyLines}
use Rattle.sq_model.specs.declared.step.Step.{Step}
use Rattle.sq_model.specs.declared.step.Step.TheVariants.{Submit}
use Rattle.sq_model.proofs.Lists.{any_in, Contains-slice_get, slice_get-Contains}
use Rattle.sq_text.specs.declared.fault.LineFault.{LineFault}
use Rattle.sq_text.specs.declared.fault.LineFault.TheVariants as line
use Rattle.sq_text.specs.declared.step.TheConstants.{MAX_LINE}
use Rattle.sq_text.specs.Words.{Word, words_of}
use Rattle.sq_text.specs.Steps.{TxnLine, step_of, step_in, txn_in, txn_step, submit_unless, verb_step}
use Rattle.sq_live.specs.declared.job_list.TheConstants.{MAX_JOBS}
use Rattle.sq_live.specs.declared.fault.JobFault.{JobFault}
use Rattle.sq_live.specs.declared.fault.JobFault.TheVariants as faults
use Rattle.sq_live.specs.declared.fault.LiveFault.{LiveFault}
use Rattle.sq_live.specs.Faults.{fault_at}
use Rattle.sq_live.specs.Jobs.{has_id, HavePartitions}
use Rattle.sq_live.specs.JobLines.{job_by, job_of, jobs_then, jobs_in}
use Rattle.sq_live.specs.SpelledJobs.{SpellsTxn, SpellsFaulty, IsJobLine, SpellJobs, SaysOfLine, IsFaultOf, EndInFault}
use Rattle.sq_live.proofs.JobIds.{differ_then, few_then, below_most}

-- ---- the words of a line

-- what a line spells isn't too long, and memory didn't run out
abbrev Plain : Result Step LineFault → Type 0
Plain (Err line.TooLong) = ⊥
Plain (Err line.Memory) = ⊥
Plain told = Unit {0}

plain_if : (test : Bool) (one other : Result Step LineFault) → Plain one → Plain other → Plain (if test then one else other)
plain_if test one other this that = cond_both test one other Plain (λ _. this) (λ _. that)

plain_unless : (fault : Option TxnFault) (txn : TxnLine) → Plain (submit_unless fault txn)
plain_unless None txn = tt
plain_unless (Some fault) txn = tt

plain_txn : (tables : ℕ) (txn : Option TxnLine) → Plain (txn_step tables txn)
plain_txn tables None = tt
plain_txn tables (Some txn) = plain_unless (txn_fault tables txn.root txn.ops) txn

plain_verb : (step : Option Step) → Plain (ok_or step line.NotAStep)
plain_verb None = tt
plain_verb (Some step) = tt

plain_in : (tables : ℕ) (words : List Word) → Plain (step_in tables words)
plain_in tables [] = tt
plain_in tables (first ∷ words) =
    plain_if (bytes_eq first (codes "txn")) (txn_step tables (txn_in words)) (ok_or (verb_step first words) line.NotAStep)
    (plain_txn tables (txn_in words)) (plain_verb (verb_step first words))

long_or_plain : (tables : ℕ) (bytes : List ℕ) → ((MAX_LINE < length bytes) × (step_of tables bytes ≡ Err line.TooLong)) ⊎ ((length bytes ≤ MAX_LINE) × Plain (step_of tables bytes))
long_or_plain tables bytes =
    let read : Result Step LineFault = step_in tables (words_of bytes) in
    ⊎_elim
    (λ long. inl (long, ap (λ b. if b then Err line.TooLong else read) (lt-ltb MAX_LINE (length bytes) long)))
    (λ short. inr (short, subst (λ b. Plain (if b then Err line.TooLong else read)) (sym (le-ltb MAX_LINE (length bytes) short)) (plain_in tables (words_of bytes))))
    (cases_lt MAX_LINE (length bytes))

-- ---- a line with a job

-- a job for which there is room, of a partition that there is, and whose id is new
record IsNew (parts : ℕ) (jobs : List Job) (job : Job) : Type 0 where
  room : (length jobs == MAX_JOBS) ≡ false
  within : nat_lt job.part parts ≡ true
  fresh : has_id job.txn.id jobs ≡ false

module _ (parts : ℕ) (jobs : List Job) where
  by_tests : (full within known : Bool) (made job : Job) → (if full then Err faults.TooMany else (if within then (if known then Err faults.RepeatedId else Ok made) else Err faults.NoSuchPartition)) ≡ Ok job → (full ≡ false) × (within ≡ true) × (known ≡ false) × (made ≡ job)
  by_tests true within known made job e = absurd cc
  by_tests false false known made job e = absurd cc
  by_tests false true true made job e = absurd cc
  by_tests false true false made job e = (refl, refl, refl, cc)

  tests_by : (full within known : Bool) (made : Job) → full ≡ false → within ≡ true → known ≡ false → (if full then Err faults.TooMany else (if within then (if known then Err faults.RepeatedId else Ok made) else Err faults.NoSuchPartition)) ≡ Ok made
  tests_by true within known made a b c = absurd cc
  tests_by false false known made a b c = absurd cc
  tests_by false true true made a b c = absurd cc
  tests_by false true false made a b c = refl

  no_job : (full : Bool) (fault : JobFault) (job : Job) → (if full then Err faults.TooMany else Err fault) ≡ Ok job → ⊥
  no_job true fault job e = cc
  no_job false fault job e = cc

  job_spelled : (spelled : Result Step LineFault) (job : Job) → job_by parts jobs spelled ≡ Ok job → (spelled ≡ Ok (Submit job.part job.txn)) × IsNew parts jobs job
  job_spelled (Ok (Submit part txn)) job e =
      let made : Job = record { part = part; txn = txn } in
      let t = by_tests (length jobs == MAX_JOBS) (nat_lt part parts) (has_id txn.id jobs) made job e in
      let is : made ≡ job = t.3 in (
        ap (λ (j : Job). Ok (Submit j.part j.txn)) is,
        record {
          room = t.0;
          within = subst (λ (j : Job). nat_lt j.part parts ≡ true) is t.1;
          fresh = subst (λ (j : Job). has_id j.txn.id jobs ≡ false) is t.2;
        },
      )
  job_spelled (Err (line.Txn fault)) job e = absurd (no_job (length jobs == MAX_JOBS) (faults.Txn fault) job e)
  job_spelled (Err line.NotAStep) job e = absurd cc
  job_spelled (Err line.TooLong) job e = absurd cc
  job_spelled (Err line.Memory) job e = absurd cc
  job_spelled (Ok _) job e = absurd cc

  spelled_job : (tables : ℕ) (bytes : List ℕ) (job : Job) → SpellsTxn tables bytes job.part job.txn → IsNew parts jobs job → job_of tables parts jobs bytes ≡ Ok job
  spelled_job tables bytes job is new =
      ap (job_by parts jobs) is
      ∙ tests_by (length jobs == MAX_JOBS) (nat_lt job.part parts) (has_id job.txn.id jobs) job new.room new.within new.fresh

-- ---- a line with a fault

module _ (tables parts : ℕ) (jobs : List Job) (few : length jobs ≤ MAX_JOBS) (bytes : List ℕ) where
  abbrev Says : JobFault → Type 0
  Says fault = SaysOfLine tables parts jobs bytes fault

  -- each test of a transaction that a schema has
  says_of_txn : (part : ℕ) (txn : TxnValue) → SpellsTxn tables bytes part txn → (full within known : Bool) (made : Job) (fault : JobFault) → (length jobs == MAX_JOBS) ≡ full → nat_lt part parts ≡ within → has_id txn.id jobs ≡ known → (if full then Err faults.TooMany else (if within then (if known then Err faults.RepeatedId else Ok made) else Err faults.NoSuchPartition)) ≡ Err fault → Says fault
  says_of_txn part txn is true within known made fault f w k e =
      subst Says (let s : faults.TooMany ≡ fault = cc in s) (inl (part, txn, is), eqb-true (length jobs) MAX_JOBS f)
  says_of_txn part txn is false false known made fault f w k e =
      subst Says (let s : faults.NoSuchPartition ≡ fault = cc in s) (part, txn, is, below_most jobs few f, ltb-false part parts w)
  says_of_txn part txn is false true true made fault f w k e =
      let one = any_in (λ (j : Job). j.txn.id == txn.id) jobs k in
      subst Says (let s : faults.RepeatedId ≡ fault = cc in s)
      (record { part = part; txn = txn }, one.0, is, below_most jobs few f, ltb-true part parts w, one.1, eqb-true one.0.txn.id txn.id one.2)
  says_of_txn part txn is false true false made fault f w k e = absurd cc

  says_of_faulty : (told : TxnFault) → SpellsFaulty tables bytes told → (full : Bool) (fault : JobFault) → (length jobs == MAX_JOBS) ≡ full → ◌≡◌ {A = Result Job JobFault} (if full then Err faults.TooMany else Err (faults.Txn told)) (Err fault) → Says fault
  says_of_faulty told is true fault f e = subst Says (let s : faults.TooMany ≡ fault = cc in s) (inr (told, is), eqb-true (length jobs) MAX_JOBS f)
  says_of_faulty told is false fault f e = subst Says (let s : faults.Txn told ≡ fault = cc in s) (is, below_most jobs few f)

  not_a_job : (spelled : Result Step LineFault) → step_of tables bytes ≡ spelled → length bytes ≤ MAX_LINE → ((part : ℕ) (txn : TxnValue) → spelled ≡ Ok (Submit part txn) → ⊥) → ((told : TxnFault) → spelled ≡ Err (line.Txn told) → ⊥) → (fault : JobFault) → ◌≡◌ {A = Result Job JobFault} (Err faults.NotAJob) (Err fault) → Says fault
  not_a_job spelled is short no_txn no_faulty fault e =
      subst Says (let s : faults.NotAJob ≡ fault = cc in s)
      (short, λ of. ⊎_elim (λ one. no_txn one.0 one.1 (sym is ∙ one.2)) (λ one. no_faulty one.0 (sym is ∙ one.1)) of)

  by_step : (spelled : Result Step LineFault) → step_of tables bytes ≡ spelled → length bytes ≤ MAX_LINE → Plain spelled → (fault : JobFault) → job_by parts jobs spelled ≡ Err fault → Says fault
  by_step (Ok (Submit part txn)) is short plain fault e =
      says_of_txn part txn is (length jobs == MAX_JOBS) (nat_lt part parts) (has_id txn.id jobs) (record { part = part; txn = txn }) fault refl refl refl e
  by_step (Err (line.Txn told)) is short plain fault e = says_of_faulty told is (length jobs == MAX_JOBS) fault refl e
  by_step (Err line.TooLong) is short plain fault e = absurd plain
  by_step (Err line.Memory) is short plain fault e = absurd plain
  by_step (Err line.NotAStep) is short plain fault e = not_a_job (Err line.NotAStep) is short (λ p t s. cc) (λ t s. cc) fault e
  by_step (Ok step) is short plain fault e = not_a_job (Ok step) is short (λ p t s. cc) (λ t s. cc) fault e

  says_of_line : (fault : JobFault) → job_of tables parts jobs bytes ≡ Err fault → Says fault
  says_of_line fault e =
      ⊎_elim
      (λ long.
      let same : ◌≡◌ {A = Result Job JobFault} (Err faults.LineTooLong) (Err fault) = sym (ap (job_by parts jobs) long.1) ∙ e in
      subst Says (let s : faults.LineTooLong ≡ fault = cc in s) long.0)
      (λ short. by_step (step_of tables bytes) refl short.0 short.1 fault e)
      (long_or_plain tables bytes)

-- ---- all lines

module _ (tables parts : ℕ) where
  record Fit (jobs : List Job) : Type 0 where
    partitions : HavePartitions parts jobs
    differ : IdsDiffer jobs
    few : length jobs ≤ MAX_JOBS

  none_fit : Fit []
  none_fit = record { partitions = All-nil (λ (j : Job). j.part < parts); differ = λ i j one other at also same. absurd cc; few = omega arith }

  one_more : (jobs : List Job) (job : Job) → Fit jobs → IsNew parts jobs job → Fit (jobs ++ job ∷ [])
  one_more jobs job fit new =
      let P : Job → Type 0 = λ j. j.part < parts in
      record {
        partitions = All-append P jobs (job ∷ []) fit.partitions (All-cons P job [] (ltb-true job.part parts new.within) (All-nil P));
        differ = differ_then jobs job new.fresh fit.differ;
        few = few_then jobs job (below_most jobs fit.few new.room);
      }

  -- the jobs behind these that pieces spell
  record Spelled (so_far : List Job) (pieces : List PieceValue) (jobs : List Job) : Type 0 where
    more : List Job
    are : jobs ≡ so_far ++ more
    lines : AllZip (IsJobLine tables) pieces more
    fit : Fit jobs

  -- the fault that ends pieces behind these jobs
  record Ended (so_far : List Job) (pieces : List PieceValue) (told : LiveFault) : Type 0 where
    before : List PieceValue
    more : List Job
    piece : PieceValue
    others : List PieceValue
    are : pieces ≡ before ++ piece ∷ others
    lines : AllZip (IsJobLine tables) before more
    fit : Fit (so_far ++ more)
    is_its : IsFaultOf tables parts (so_far ++ more) piece told

  moved : (so_far more : List Job) (job : Job) → (so_far ++ job ∷ []) ++ more ≡ so_far ++ job ∷ more
  moved so_far more job = append_assoc so_far (job ∷ []) more

  ended_here : (so_far : List Job) → Fit so_far → (piece : PieceValue) (others : List PieceValue) (told : LiveFault) → IsFaultOf tables parts so_far piece told → Ended so_far (piece ∷ others) told
  ended_here so_far fit piece others told its =
      record {
        before = [];
        more = [];
        piece = piece;
        others = others;
        are = refl;
        lines = tt;
        fit = subst Fit (sym (append-nil so_far)) fit;
        is_its = subst (λ (js : List Job). IsFaultOf tables parts js piece told) (sym (append-nil so_far)) its;
      }

  module _ (so_far : List Job) (fit : Fit so_far) (number : ℕ) (bytes : List ℕ) (pieces : List PieceValue) where
    abbrev And_then : Result Job JobFault → Result (List Job) LiveFault
    And_then made = jobs_then number so_far made (λ jobs. jobs_in tables parts jobs pieces)

    first_spelled : (made : Result Job JobFault) → job_of tables parts so_far bytes ≡ made → (jobs : List Job) → And_then made ≡ Ok jobs → ((now : List Job) → Fit now → jobs_in tables parts now pieces ≡ Ok jobs → Spelled now pieces jobs) → Spelled so_far (Line number bytes ∷ pieces) jobs
    first_spelled (Ok job) is jobs e others =
        let first = job_spelled parts so_far (step_of tables bytes) job is in
        let rest = others (so_far ++ job ∷ []) (one_more so_far job fit first.1) e in
        record { more = job ∷ rest.more; are = rest.are ∙ moved so_far rest.more job; lines = (first.0, rest.lines); fit = rest.fit }
    first_spelled (Err fault) is jobs e others = absurd cc

    first_ended : (made : Result Job JobFault) → job_of tables parts so_far bytes ≡ made → (told : LiveFault) → And_then made ≡ Err told → ((now : List Job) → Fit now → jobs_in tables parts now pieces ≡ Err told → Ended now pieces told) → Ended so_far (Line number bytes ∷ pieces) told
    first_ended (Ok job) is told e others =
        let first = job_spelled parts so_far (step_of tables bytes) job is in
        let rest = others (so_far ++ job ∷ []) (one_more so_far job fit first.1) e in
        record {
          before = Line number bytes ∷ rest.before;
          more = job ∷ rest.more;
          piece = rest.piece;
          others = rest.others;
          are = ap (λ (ps : List PieceValue). Line number bytes ∷ ps) rest.are;
          lines = (first.0, rest.lines);
          fit = subst Fit (moved so_far rest.more job) rest.fit;
          is_its = subst (λ (js : List Job). IsFaultOf tables parts js rest.piece told) (moved so_far rest.more job) rest.is_its;
        }
    first_ended (Err fault) is told e others =
        let same : told ≡ fault_at number fault = cc in
        ended_here so_far fit (Line number bytes) pieces told (fault, says_of_line tables parts so_far fit.few bytes fault is, same)

  spelled_behind : (pieces : List PieceValue) (jobs so_far : List Job) → Fit so_far → jobs_in tables parts so_far pieces ≡ Ok jobs → Spelled so_far pieces jobs
  spelled_behind [] jobs so_far fit e =
      let same : so_far ≡ jobs = cc in
      record { more = []; are = sym same ∙ sym (append-nil so_far); lines = tt; fit = subst Fit same fit }
  spelled_behind (Line number bytes ∷ pieces) jobs so_far fit e =
      first_spelled so_far fit number bytes pieces (job_of tables parts so_far bytes) refl jobs e (spelled_behind pieces jobs)
  spelled_behind (Rest number bytes ∷ pieces) jobs so_far fit e = absurd cc
  spelled_behind (Failed number bytes ∷ pieces) jobs so_far fit e = absurd cc
  spelled_behind (Endless number bytes ∷ pieces) jobs so_far fit e = absurd cc
  spelled_behind (TooManyLines ∷ pieces) jobs so_far fit e = absurd cc

  ended_behind : (pieces : List PieceValue) (told : LiveFault) (so_far : List Job) → Fit so_far → jobs_in tables parts so_far pieces ≡ Err told → Ended so_far pieces told
  ended_behind [] told so_far fit e = absurd cc
  ended_behind (Line number bytes ∷ pieces) told so_far fit e =
      first_ended so_far fit number bytes pieces (job_of tables parts so_far bytes) refl told e (ended_behind pieces told)
  ended_behind (Rest number bytes ∷ pieces) told so_far fit e = ended_here so_far fit (Rest number bytes) pieces told cc
  ended_behind (Failed number bytes ∷ pieces) told so_far fit e = ended_here so_far fit (Failed number bytes) pieces told cc
  ended_behind (Endless number bytes ∷ pieces) told so_far fit e = ended_here so_far fit (Endless number bytes) pieces told cc
  ended_behind (TooManyLines ∷ pieces) told so_far fit e = ended_here so_far fit TooManyLines pieces told cc

  -- a job among others is of a partition that there is, has a new id, and there was room for it
  at_length : (jobs more : List Job) (job : Job) → slice_get (jobs ++ job ∷ more) (length jobs) ≡ Some job
  at_length [] more job = refl
  at_length (one ∷ jobs) more job = at_length jobs more job

  still_at : (jobs more : List Job) (i : ℕ) (job : Job) → slice_get jobs i ≡ Some job → slice_get (jobs ++ more) i ≡ Some job
  still_at [] more i job at = absurd cc
  still_at (one ∷ jobs) more zero job at = at
  still_at (one ∷ jobs) more (suc i) job at = still_at jobs more i job at

  is_new : (so_far more : List Job) (job : Job) → Fit (so_far ++ job ∷ more) → IsNew parts so_far job
  is_new so_far more job fit =
      record { room = room; within = within; fresh = fresh }
    where
      few : length so_far < MAX_JOBS
      few = let grown = length-append so_far (job ∷ more) in let most = fit.few in omega (arith, grown, most)

      room : (length so_far == MAX_JOBS) ≡ false
      room = ne_eqb (length so_far) MAX_JOBS (λ same. omega (arith, same, few))

      within : nat_lt job.part parts ≡ true
      within = lt-ltb job.part parts (All-contains (λ (j : Job). j.part < parts) (so_far ++ job ∷ more) job fit.partitions (Contains-slice_get (so_far ++ job ∷ more) (length so_far) job (at_length so_far more job)))

      fresh : has_id job.txn.id so_far ≡ false
      fresh = false_from_ne_true (has_id job.txn.id so_far) (λ known.
          let one = any_in (λ (j : Job). j.txn.id == job.txn.id) so_far known in
          let at = slice_get-Contains so_far one.0 one.1 in
          let same = fit.differ one.1.0 (length so_far) one.0 job (still_at so_far (job ∷ more) one.1.0 one.0 at) (at_length so_far more job) (eqb-true one.0.txn.id job.txn.id one.2) in
          let below = one.1.1 in
          omega (arith, same, below))

  all_behind : (pieces : List PieceValue) (more so_far : List Job) → AllZip (IsJobLine tables) pieces more → Fit (so_far ++ more) → jobs_in tables parts so_far pieces ≡ Ok (so_far ++ more)
  all_behind [] [] so_far lines fit = ap Ok (sym (append-nil so_far))
  all_behind [] (job ∷ more) so_far lines fit = absurd lines
  all_behind (piece ∷ pieces) [] so_far lines fit = absurd lines
  all_behind (Line number bytes ∷ pieces) (job ∷ more) so_far lines fit =
      let first = spelled_job parts so_far tables bytes job lines.0 (is_new so_far more job fit) in
      ap (λ made. jobs_then number so_far made (λ (jobs : List Job). jobs_in tables parts jobs pieces)) first
      ∙ all_behind pieces more (so_far ++ job ∷ []) lines.1 (subst Fit (sym (moved so_far more job)) fit)
      ∙ ap Ok (moved so_far more job)
  all_behind (Rest number bytes ∷ pieces) (job ∷ more) so_far lines fit = absurd lines.0
  all_behind (Failed number bytes ∷ pieces) (job ∷ more) so_far lines fit = absurd lines.0
  all_behind (Endless number bytes ∷ pieces) (job ∷ more) so_far lines fit = absurd lines.0
  all_behind (TooManyLines ∷ pieces) (job ∷ more) so_far lines fit = absurd lines.0

-- ---- an input

pub jobs_spelled : (tables parts : ℕ) (pieces : List PieceValue) (jobs : List Job) → jobs_in tables parts [] pieces ≡ Ok jobs → SpellJobs tables parts pieces jobs
jobs_spelled tables parts pieces jobs e =
    let all = spelled_behind tables parts pieces jobs [] (none_fit tables parts) e in
    record {
      lines = subst (AllZip (IsJobLine tables) pieces) (sym all.are) all.lines;
      partitions = all.fit.partitions;
      differ = all.fit.differ;
      few = all.fit.few;
    }

pub spelled_jobs : (tables parts : ℕ) (pieces : List PieceValue) (jobs : List Job) → SpellJobs tables parts pieces jobs → jobs_in tables parts [] pieces ≡ Ok jobs
spelled_jobs tables parts pieces jobs spell =
    all_behind tables parts pieces jobs [] spell.lines (record { partitions = spell.partitions; differ = spell.differ; few = spell.few })

pub fault_told : (tables parts : ℕ) (pieces : List PieceValue) (told : LiveFault) → jobs_in tables parts [] pieces ≡ Err told → EndInFault tables parts pieces told
fault_told tables parts pieces told e =
    let end = ended_behind tables parts pieces told [] (none_fit tables parts) e in
    record {
      before = end.before;
      jobs = end.more;
      piece = end.piece;
      others = end.others;
      are = end.are;
      spell = record { lines = end.lines; partitions = end.fit.partitions; differ = end.fit.differ; few = end.fit.few };
      is_its = end.is_its;
    }
