-- Whole inputs of live runs.
use Rattle.std.proofs.Common.{◌≡◌, ◌⊎◌, ℕ, List, [], inl, inr, refl, subst}
use Rattle.std.specs.Prelude.{Option, None, Ok, Err}
use Rattle.sq_text.specs.declared.input_fault.InputFault.TheVariants.{Memory}
use Rattle.sq_text.specs.Located.{located}
use Rattle.sq_schema.specs.declared.schema.TheConstants.{MAX_TABLES}
use Rattle.sq_moves.specs.OpeningValue.{OpeningValue}
use Rattle.sq_text.specs.Coming.{LinesValue, Leaves}
use Rattle.sq_text.proofs.Comings.{some_more, some_pieces}
use Rattle.sq_text.specs.declared.located.LocatedFault.{LocatedFault}
use Rattle.sq_text.specs.Header.{header_of, Opens}
use Rattle.sq_audit.specs.declared.job.Job.{Job}
use Rattle.sq_live.specs.declared.fault.LiveFault.{LiveFault}
use Rattle.sq_live.specs.declared.fault.LiveFault.TheVariants.{Input}
use Rattle.sq_live.specs.JobLines.{jobs_in, AreJobs, IsFirstFault}
use Rattle.sq_live.specs.declared.fault.RunFault.{RunFault}
use Rattle.sq_live.specs.declared.fault.RunFault.TheVariants as run
use Rattle.sq_live.specs.Live.{SpellJobs, ComesToSpell, ComesToFail, HaveFault, HaveTooFewThreads}
use Rattle.sq_live.specs.Faults.{out_of_memory, live_fault}
use Rattle.sq_text.specs.declared.reader.ReadState.TheVariants.{Open}
use Rattle.sq_text.specs.Pieces.{PieceValue, pieces}
use Rattle.sq_text.specs.Given.{IsGiven}

module _ (tables parts : ℕ) (begin lines : LinesValue) (o : OpeningValue) where
  -- the header of an input, and the jobs behind it
  pub read_both : (jobs : List Job) → tables ≡ MAX_TABLES → parts ≡ o.old.parts → Leaves begin lines (λ all left. Opens tables (Ok o) left (header_of tables all)) → AreJobs tables parts lines jobs
      → ComesToSpell MAX_TABLES begin o jobs
  read_both jobs eight are opens spelled =
      let all = opens spelled.1.0 spelled.0 spelled.1.1 in (
        all.0,
        (spelled.1.0, all.1),
        record {
          left = spelled.0;
          opens = subst (λ n. Opens n (Ok o) spelled.0 (header_of n all.0)) eight all.2;
          spelled = subst (λ n. jobs_in n o.old.parts [] spelled.0 ≡ Ok jobs) eight (subst (λ n. jobs_in tables n [] spelled.0 ≡ Ok jobs) are spelled.2);
        },
      )

  -- or a fault of the jobs
  pub read_no_jobs : (fault : LiveFault) → tables ≡ MAX_TABLES → parts ≡ o.old.parts → Leaves begin lines (λ all left. Opens tables (Ok o) left (header_of tables all)) → IsFirstFault tables parts lines fault
      → ComesToFail MAX_TABLES begin fault
  read_no_jobs fault eight are opens first =
      let all = opens first.1.0 first.0 first.1.1 in (
        all.0,
        (first.1.0, all.1),
        inr (record {
          opening = o;
          left = first.0;
          opens = subst (λ n. Opens n (Ok o) first.0 (header_of n all.0)) eight all.2;
          first = λ apart. subst (λ n. jobs_in n o.old.parts [] first.0 ≡ Err fault) eight (subst (λ n. jobs_in tables n [] first.0 ≡ Err fault) are (first.2 apart));
        }),
      )

-- or a fault of the header
pub read_no_header : (tables : ℕ) (begin lines : LinesValue) (located : LocatedFault) → tables ≡ MAX_TABLES → Leaves begin lines (λ all left. Opens tables (Err located) left (header_of tables all)) → ComesToFail MAX_TABLES begin (Input located)
read_no_header tables begin lines located eight opens =
    let some = some_pieces lines in
    let all = opens some.can_come.0 some.pieces some.can_come.1 in
    (all.0, (some.can_come.0, all.1), inl (record { located = located; is = refl; left = some.pieces; opens = subst (λ n. Opens n (Err located) some.pieces (header_of n all.0)) eight all.2 }))

-- there was no memory, whatever the reader gives
pub none_read : (tables : ℕ) (known : Option (List ℕ)) → (given : List PieceValue) × IsGiven known given × HaveFault tables given out_of_memory
none_read tables known =
    let some = some_more Open known in (
      pieces some.end some.more,
      record { input = some.more; end = some.end; comes = some.comes; are = refl },
      inl (record { located = located Memory None; is = refl; left = []; opens = λ apart. absurd (apart refl) }),
    )

-- there is a fault for each reason for which a run of jobs that are spelled has no outcome
pub unfinished : (tables : ℕ) (given : List PieceValue) (o : OpeningValue) (jobs : List Job) (why : RunFault) → SpellJobs tables given o jobs
    → HaveFault tables given (live_fault why) ⊎ HaveTooFewThreads tables given (live_fault why)
unfinished tables given o jobs run.Memory spelled = inl (inr (record { opening = o; left = spelled.left; opens = spelled.opens; first = λ apart. absurd (apart refl) }))
unfinished tables given o jobs run.Threads spelled = inr (record { is = refl; opening = o; jobs = jobs; spelled = spelled })
