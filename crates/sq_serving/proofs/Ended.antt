-- What holds of an engine that was served until it ended.
use Rattle.std.proofs.Common.{◌≡◌, ⊎_elim, ℕ, ◌<◌, ◌^◌, Bool, List, [], ◌∷◌, ◌++◌, sym, ap, subst, ◌∙◌, append-nil, arith}
use Rattle.sq_moves.specs.OpeningValue.{OpeningValue}
use Rattle.sq_engine.specs.declared.event.Event.{Event}
use Rattle.sq_engine.specs.declared.event.Event.TheVariants.{MovesTo}
use Rattle.sq_engine.specs.declared.serving.EpochEnd.{EpochEnd}
use Rattle.sq_engine.specs.declared.serving.EpochEnd.TheVariants as epoch
use Rattle.sq_engine.specs.Open.{OpenJobsValue}
use Rattle.sq_store.specs.StoreValue.{StoreValue}
use Rattle.sq_audit.specs.declared.verdict.Verdict.TheVariants as verdict
use Rattle.sq_engine.specs.Events.{answers_in}
use Rattle.sq_engine.specs.Values.{AtValue, EngineValue}
use Rattle.sq_engine.specs.Engine.{IsReached, HasOpened, EndsMove, rows_at, verdict_on}
use Rattle.sq_engine.specs.Ending.{logged_in, commits_in}
use Rattle.sq_engine.proofs.Endings.{ends_as_planned, answered_all, logs_committed}
use Rattle.sq_serving.specs.declared.desk.Wish.TheVariants as wish
use Rattle.sq_serving.specs.declared.ending.InputOutcome.{InputOutcome}
use Rattle.sq_serving.specs.declared.ending.ServeEnding.{ServeEnding}
use Rattle.sq_serving.specs.declared.ending.ServeEnding.TheVariants.{Sound, Unsound, NoHeader, Memory, Threads, Unwritten}
use Rattle.sq_serving.specs.Becoming.{ServeDeskValue, Speaks}
use Rattle.sq_serving.specs.Written.{WritesEach}
use Rattle.std.specs.Prelude.{Some, sum_by}
use Rattle.sq_serving.proofs.Desks.{wish_speaks}
use Rattle.sq_serving.proofs.DeskEpochs.{writes_then}
use Rattle.sq_serving.specs.Events.{all_added}
use Rattle.sq_serving.specs.Ends.{IsEnding, HasTotals, EndsClosed, EndsBy, HasEndedServing}
use Rattle.sq_serving.specs.Planned.{IsServedFrom, EndsServingSoundly}
use Rattle.sq_serving.specs.Service.{SoundAsPlanned}
use Rattle.sq_serving.proofs.Served.{events_grow}
use Rattle.sq_serving.proofs.Written.{speaks_write, move_writes, happen_write}
use Rattle.sq_serving.proofs.Planned.{same_first}

-- the events that are added as an engine ends, and what its desk writes of them
record EndsWriting (old : EngineValue) (before : ServeDeskValue) (last : EngineValue) (after : ServeDeskValue) : Type 0 where
  more : List Event
  first : last.first ≡ old.first
  events : last.jobs.events ≡ old.jobs.events ++ more
  writes : WritesEach more before after

-- none is added
adds_none : (old : EngineValue) (before : ServeDeskValue) (last : EngineValue) (after : ServeDeskValue) → last.first ≡ old.first
    → last.jobs ≡ old.jobs → Speaks before after → EndsWriting old before last after
adds_none old before last after first jobs speaks = record {
  more = [];
  first = first;
  events = ap (λ (j : OpenJobsValue). j.events) jobs ∙ sym (append-nil old.jobs.events);
  writes = speaks_write before after speaks;
}

ends_write : (ending : ServeEnding) (old : EngineValue) (before : ServeDeskValue) (last : EngineValue) (after : ServeDeskValue)
    → EndsBy ending old before last after → EndsWriting old before last after
ends_write ending old before last after ends =
    let first : EngineValue → OpeningValue = λ e. e.first in
    let jobs : EngineValue → OpenJobsValue = λ e. e.jobs in
    ⊎_elim
    (λ closed.
    adds_none old before last after (ap first closed.closed.keeps.same) (ap jobs closed.closed.keeps.same)
    (wish_speaks (Some wish.Close) before after closed.takes))
    (λ others. ⊎_elim
    (λ in_epoch.
    record {
      more = in_epoch.epoch.more;
      first = in_epoch.epoch.epoch.first;
      events = in_epoch.epoch.epoch.runs.jobs.events;
      writes = in_epoch.epoch.answers.writes;
    })
    (λ rest. ⊎_elim
    (λ memory. ⊎_elim
    (λ keeps. adds_none old before last after (ap first keeps.same) (ap jobs keeps.same) memory.1)
    (λ begun.
    record {
      more = MovesTo begun.0.plan ∷ [];
      first = begun.3.first;
      events = begun.3.adds.events;
      writes = move_writes begun.0.plan before after (speaks_write before after memory.1);
    }) memory.2)
    (λ stopped. adds_none old before last after (ap first stopped.1) (ap jobs stopped.1) stopped.3) rest) others)
    ends

-- no epoch ends an engine sound
not_in_epoch : (how : EpochEnd) (families committed : ℕ) (input : InputOutcome) → IsEnding how (Sound families committed input) → ⊥
not_in_epoch epoch.Whole families committed input is = is
not_in_epoch epoch.LacksThreads families committed input is = cc
not_in_epoch epoch.ReceiptUnknown families committed input is = cc
not_in_epoch epoch.LacksMemory families committed input is = cc
not_in_epoch epoch.ReceiptLost families committed input is = cc

sound_not_memory : (families committed : ℕ) (input : InputOutcome) → Sound families committed input ≡ Memory → ⊥
sound_not_memory families committed input is = cc

-- an engine that ends sound was closed
pub sound_closes : (families committed : ℕ) (input : InputOutcome) (old : EngineValue) (before : ServeDeskValue) (last : EngineValue)
    (after : ServeDeskValue) → EndsBy (Sound families committed input) old before last after
    → EndsClosed (Sound families committed input) old before last after
sound_closes families committed input old before last after ends =
    ⊎_elim
    (λ closed. closed)
    (λ others. ⊎_elim
    (λ in_epoch. absurd (not_in_epoch in_epoch.how families committed input in_epoch.is))
    (λ rest. ⊎_elim
    (λ memory. absurd (sound_not_memory families committed input memory.0))
    (λ stopped. absurd stopped.0) rest) others)
    ends

some_same : {X : Type 0} (x y : X) → Some x ≡ Some y → x ≡ y
some_same x y e = cc

-- what a sound verdict says of a closed engine
ends_soundly : (o : OpeningValue) (last : EngineValue) (families committed : ℕ) → last.first ≡ o → IsReached last → EndsMove last
    → verdict_on last.jobs ≡ verdict.Sound → HasTotals last families committed → EndsServingSoundly o families committed last
ends_soundly o last families committed first reached move sound totals =
    let logs = logs_committed last reached move sound in
    let lent : logs.0.stores ≡ totals.0 =
    some_same logs.0.stores totals.0 (sym (ap (λ (at : AtValue). rows_at at) logs.1) ∙ totals.1) in
    let counted : sum_by logged_in totals.0 ≡ commits_in (answers_in last.jobs.events) =
    ap (λ (stores : List StoreValue). sum_by logged_in stores) (sym lent) ∙ logs.2 in
    record {
      ends = record { first = first; planned = ends_as_planned last reached move };
      totals = totals;
      answered = answered_all last reached move sound;
      commits = λ few.
          let fit : sum_by logged_in totals.0 < 2 ^ 64 = omega (arith, few, counted) in
          totals.2.committed_are fit ∙ counted;
    }

module _ (saves : List ℕ → List ℕ → Bool → Type 0) where
  -- all events of an engine are those of which its desk wrote the answers
  pub served_from : (o : OpeningValue) (engine : EngineValue) (before : ServeDeskValue) (ending : ServeEnding) (last : EngineValue)
      (after : ServeDeskValue) → HasOpened o engine → IsReached last → HasEndedServing saves engine before ending last after
      → IsServedFrom o before last after
  served_from o engine before ending last after opened reached ended =
      let added = all_added ended.events in
      let ends = ends_write ending ended.served ended.between last after ended.ends in
      let events : last.jobs.events ≡ added ++ ends.more =
      ends.events
      ∙ ap (λ (list : List Event). list ++ ends.more) (events_grow saves ended.events engine before ended.served ended.between ended.happened)
      ∙ ap (λ (j : OpenJobsValue). (j.events ++ added) ++ ends.more) opened.jobs in
      let writes = writes_then added ends.more before ended.between after
      (happen_write saves ended.events engine before ended.served ended.between ended.happened) ends.writes in
      record {
        reached = reached;
        first =
            ends.first ∙ same_first saves ended.events engine before ended.served ended.between ended.happened ∙ opened.first;
        writes = subst (λ (list : List Event). WritesEach list before after) (sym events) writes;
      }

  -- an engine that ends sound ends as planned
  pub sound_planned : (o : OpeningValue) (engine : EngineValue) (before : ServeDeskValue) (ending : ServeEnding) (last : EngineValue)
      (after : ServeDeskValue) → HasOpened o engine → IsReached last → HasEndedServing saves engine before ending last after
      → SoundAsPlanned o ending last
  sound_planned o engine before (Sound families committed input) last after opened reached ended =
      let closes = sound_closes families committed input ended.served ended.between last after ended.ends in
      let from = served_from o engine before (Sound families committed input) last after opened reached ended in
      ends_soundly o last families committed from.first reached closes.closed.ends closes.ends.0 closes.ends.1
  sound_planned o engine before (Unsound defect) last after opened reached ended = tt
  sound_planned o engine before (NoHeader fault) last after opened reached ended = tt
  sound_planned o engine before Memory last after opened reached ended = tt
  sound_planned o engine before Threads last after opened reached ended = tt
  sound_planned o engine before Unwritten last after opened reached ended = tt
