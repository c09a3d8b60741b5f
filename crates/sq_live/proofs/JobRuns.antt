-- The jobs of lines, read one after another.
use Rattle.std.proofs.Common.{◌≡◌, ◌≢◌, ℕ, ◌+◌, ◌<◌, ◌==◌, Bool, true, false, List, [], ◌∷◌, ◌++◌, length, refl, sym, ap, ◌∙◌, subst, ltb-true, Some}
use Rattle.std.specs.Prelude.{Result, Ok, Err, All, nat_lt, if◌then◌else◌}
use Rattle.std.proofs.lemmas.List.Elements.{All-append, All-nil, All-cons}
use Rattle.sq_audit.specs.declared.job.Job.{Job}
use Rattle.sq_text.specs.declared.buffer.TheConstants.{MAX_UNENDED}
use Rattle.sq_text.specs.declared.reader.TheConstants.{MAX_LINES}
use Rattle.sq_text.specs.declared.located.InputLine.TheVariants.{Later}
use Rattle.sq_text.specs.Pieces.{next_line_number, PieceValue, Line, Rest, Failed, Endless, TooMany as TooManyLines}
use Rattle.sq_text.specs.Coming.{LinesValue, CanCome, CameBefore, IsLong, ReadsOn, Leaves}
use Rattle.sq_text.proofs.Comings.{some_pieces}
use Rattle.sq_text.proofs.Lengths.{is_endless}
use Rattle.sq_text.specs.declared.input_fault.InputFault.TheVariants as input
use Rattle.sq_text.specs.Located.{located}
use Rattle.sq_live.specs.declared.fault.JobFault.{JobFault}
use Rattle.sq_live.specs.declared.fault.JobFault.TheVariants as faults
use Rattle.sq_live.specs.declared.fault.LiveFault.{LiveFault}
use Rattle.sq_live.specs.declared.fault.LiveFault.TheVariants.{Input}
use Rattle.sq_live.specs.declared.job_list.TheConstants.{MAX_JOBS}
use Rattle.sq_live.specs.Faults.{fault_at, out_of_memory}
use Rattle.sq_live.specs.Jobs.{has_id, HavePartitions}
use Rattle.sq_live.specs.JobLines.{job_by, job_of, jobs_then, jobs_in, AddsJob, AreJobs, IsFirstFault}
use Rattle.sq_model.specs.declared.step.Step.{Step}
use Rattle.sq_model.specs.declared.step.Step.TheVariants.{Submit}
use Rattle.sq_text.specs.declared.fault.LineFault.{LineFault}
use Rattle.sq_text.specs.declared.fault.LineFault.TheVariants as line
use Rattle.sq_text.specs.Steps.{step_of}

-- ---- one line

-- the result of a job for which there is room, and which is of a partition and new
taken : (full within known : Bool) (made job : Job) → (if full then Err faults.TooMany else (if within then (if known then Err faults.RepeatedId else Ok made) else Err faults.NoSuchPartition)) ≡ Ok job → (within ≡ true) × (made ≡ job)
taken true within known made job e = absurd cc
taken false false known made job e = absurd cc
taken false true true made job e = absurd cc
taken false true false made job e = (refl, cc)

refused : (full : Bool) (fault : JobFault) (job : Job) → (if full then Err faults.TooMany else Err fault) ≡ Ok job → ⊥
refused true fault job e = cc
refused false fault job e = cc

within_by : (parts : ℕ) (jobs : List Job) (spelled : Result Step LineFault) (job : Job) → job_by parts jobs spelled ≡ Ok job → job.part < parts
within_by parts jobs (Ok (Submit part txn)) job e =
    let t = taken (length jobs == MAX_JOBS) (nat_lt part parts) (has_id txn.id jobs) (record { part = part; txn = txn }) job e in
    subst (λ (j : Job). j.part < parts) t.1 (ltb-true part parts t.0)
within_by parts jobs (Err (line.Txn fault)) job e = absurd (refused (length jobs == MAX_JOBS) (faults.Txn fault) job e)
within_by parts jobs (Err line.NotAStep) job e = absurd cc
within_by parts jobs (Err line.TooLong) job e = absurd cc
within_by parts jobs (Err line.Memory) job e = absurd cc
within_by parts jobs (Ok _) job e = absurd cc

-- ---- line by line

module _ (tables parts : ℕ) where
  -- whatever comes now, the jobs of all of it are those so far and then its own
  abbrev pub JobsSoFar : LinesValue → LinesValue → List Job → Type 0
  JobsSoFar first now jobs = Leaves first now (λ all left. jobs_in tables parts [] all ≡ jobs_in tables parts jobs left)

  module _ (first now : LinesValue) (jobs : List Job) (so_far : JobsSoFar first now jobs) where
    -- a line with a job
    pub job_more : (new : LinesValue) (number : ℕ) (bytes : List ℕ) (more : List Job) → CameBefore now (Line number bytes) new → (job : Job) × (job_of tables parts jobs bytes ≡ Ok job) × (more ≡ jobs ++ job ∷ []) → JobsSoFar first new more
    job_more new number bytes more came adds = λ end left can.
        let all = so_far end (Line number bytes ∷ left) (came end left can) in
        (all.0, all.1, all.2 ∙ ap (λ told. jobs_then number jobs told (λ others. jobs_in tables parts others left)) adds.1 ∙ ap (λ (others : List Job). jobs_in tables parts others left) (sym adds.2))

    -- the job is of a partition, as those before it
    pub parts_more : (bytes : List ℕ) (more : List Job) → HavePartitions parts jobs → (job : Job) × (job_of tables parts jobs bytes ≡ Ok job) × (more ≡ jobs ++ job ∷ []) → HavePartitions parts more
    parts_more bytes more all adds =
        let within : adds.0.part < parts = within_by parts jobs (step_of tables bytes) adds.0 adds.1 in
        let P : Job → Type 0 = λ j. j.part < parts in
        subst (All P) (sym adds.2) (All-append P jobs (adds.0 ∷ []) all (All-cons P adds.0 [] within (All-nil P)))

    -- what can come has this fault
    ends_by : (fault : LiveFault) (left : List PieceValue) → CanCome now left → (fault ≢ out_of_memory → jobs_in tables parts jobs left ≡ Err fault) → IsFirstFault tables parts first fault
    ends_by fault left can is = let all = so_far can.0 left can.1 in (all.0, (can.0, all.1), λ told. all.2 ∙ is told)

    -- a line that spells no job
    bad_line : (fault : JobFault) (number : ℕ) (bytes : List ℕ) (left : List PieceValue) (told : LiveFault) → job_of tables parts jobs bytes ≡ Err fault → told ≡ fault_at number fault → jobs_in tables parts jobs (Line number bytes ∷ left) ≡ Err told
    bad_line fault number bytes left told is says = ap (λ r. jobs_then number jobs r (λ others. jobs_in tables parts others left)) is ∙ ap Err (sym says)

    pub at_line : (fault : JobFault) (told : LiveFault) (number : ℕ) (bytes : List ℕ) (more : List Job) (left : List PieceValue) → CanCome now (Line number bytes ∷ left) → AddsJob tables parts jobs bytes (Err fault) more → told ≡ fault_at number fault → IsFirstFault tables parts first told
    at_line faults.Memory told number bytes more left can adds says = ends_by told (Line number bytes ∷ left) can (λ apart. absurd (apart says))
    at_line faults.TooMany told number bytes more left can adds says = ends_by told (Line number bytes ∷ left) can (λ apart. bad_line faults.TooMany number bytes left told adds.0 says)
    at_line faults.NotAJob told number bytes more left can adds says = ends_by told (Line number bytes ∷ left) can (λ apart. bad_line faults.NotAJob number bytes left told adds.0 says)
    at_line faults.RepeatedId told number bytes more left can adds says = ends_by told (Line number bytes ∷ left) can (λ apart. bad_line faults.RepeatedId number bytes left told adds.0 says)
    at_line (faults.Txn fault) told number bytes more left can adds says = ends_by told (Line number bytes ∷ left) can (λ apart. bad_line (faults.Txn fault) number bytes left told adds.0 says)
    at_line faults.NoSuchPartition told number bytes more left can adds says = ends_by told (Line number bytes ∷ left) can (λ apart. bad_line faults.NoSuchPartition number bytes left told adds.0 says)
    at_line faults.LineTooLong told number bytes more left can adds says = ends_by told (Line number bytes ∷ left) can (λ apart. bad_line faults.LineTooLong number bytes left told adds.0 says)

    -- the end of the input, or bytes without a line end before it
    pub at_end : CanCome now [] → AreJobs tables parts first jobs
    at_end can = let all = so_far can.0 [] can.1 in (all.0, (can.0, all.1), all.2)

    pub at_rest : (told : LiveFault) (number : ℕ) (bytes : List ℕ) → CanCome now (Rest number bytes ∷ []) → told ≡ fault_at number faults.NotAJob → IsFirstFault tables parts first told
    at_rest told number bytes can says = ends_by told (Rest number bytes ∷ []) can (λ apart. ap Err (sym says))

    pub at_failed : (told : LiveFault) (number : ℕ) (bytes : List ℕ) → CanCome now (Failed number bytes ∷ []) → told ≡ Input (located input.ReadFailed (Some (Later number))) → IsFirstFault tables parts first told
    at_failed told number bytes can says = ends_by told (Failed number bytes ∷ []) can (λ apart. ap Err (sym says))

    pub at_long : (new : LinesValue) (told : LiveFault) → ReadsOn now new → IsLong MAX_UNENDED new → told ≡ Input (located input.TooLong (Some (Later (next_line_number now.lines_left)))) → IsFirstFault tables parts first told
    at_long new told on long says =
        let some = some_pieces new in
        let endless = is_endless new long some.pieces some.can_come in
        let number = next_line_number new.lines_left in
        let came : CanCome now (Endless number endless.bytes ∷ endless.others) = subst (CanCome now) endless.are (some.can_come.0, on.0 some.can_come.0 some.pieces some.can_come.1) in
        let told_at : told ≡ Input (located input.TooLong (Some (Later number))) = says ∙ ap (λ (n : ℕ). Input (located input.TooLong (Some (Later (next_line_number n))))) (sym on.1) in
        ends_by told (Endless number endless.bytes ∷ endless.others) came (λ apart. ap Err (sym told_at))

    pub at_too_many : (told : LiveFault) → CanCome now (TooManyLines ∷ []) → told ≡ Input (located input.TooLong (Some (Later (MAX_LINES + 1)))) → IsFirstFault tables parts first told
    at_too_many told can says = ends_by told (TooManyLines ∷ []) can (λ apart. ap Err (sym says))
