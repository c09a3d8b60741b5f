-- The open jobs after some events, one after another.
use Rattle.std.proofs.Common.{◌≡◌, inl, inr, ℕ, ◌+◌, ◌==◌, if◌then◌else◌, Bool, true, false, List, [], ◌∷◌, ◌++◌, Option, Some, None, refl, sym, ap, ◌∙◌, subst, append_assoc, arith, eq-eqb}
use Rattle.std.specs.Prelude.{cond, is_some, IsSome}
use Rattle.std.proofs.lemmas.Bool.{cases_eq, ne_eqb}
use Rattle.std.proofs.lemmas.List.{append-nil}
use Rattle.sq_gather.specs.Prelude.{one_if}
use Rattle.sq_node_model.specs.NodeValue.{ReceiptValue}
use Rattle.sq_audit.specs.declared.job.Job.{Job}
use Rattle.sq_audit.proofs.Knowing.{count_first}
use Rattle.sq_engine.specs.declared.event.Event.{Event}
use Rattle.sq_engine.specs.declared.event.Event.TheVariants.{Posts, Refuses, Answers, Drops, Loses, Rests, Ends, MovesTo}
use Rattle.sq_engine.specs.Events.{posted_in, answers_in, times_posted, times_answered}
use Rattle.sq_engine.specs.Open.{JobMap, job_at, KeepsOpen, ChangesJobs, ChangesJobsEach, AreOpen, OpenJobsValue, Adds, AddsEach, KeepsJobs}

-- the same jobs are open
pub keeps_same : (jobs : JobMap) → KeepsOpen jobs jobs
keeps_same jobs = λ id. refl

pub keeps_on : (first mid last : JobMap) → KeepsOpen first mid → KeepsOpen mid last → KeepsOpen first last
keeps_on first mid last one more = λ id. more id ∙ one id

-- an event changes the open jobs likewise if the same ones were open
changes_from : (was old : JobMap) (event : Event) (new : JobMap) → KeepsOpen was old → ChangesJobs old event new → ChangesJobs was event new
changes_from was old (Posts job) new same opens = record {
  fresh = sym (same job.txn.id) ∙ opens.fresh;
  jobs = λ id. opens.jobs id ∙ ap (λ (o : Option Job). if id == job.txn.id then Some job else o) (same id);
}
changes_from was old (Answers part receipt) new same closes = record {
  was = (closes.was.0, sym (same receipt.txn.id) ∙ closes.was.1, closes.was.2);
  jobs = λ id. closes.jobs id ∙ ap (λ (o : Option Job). if id == receipt.txn.id then None else o) (same id);
}
changes_from was old (Drops part receipt) new same finds =
    ((λ has. finds.0 (has.0, same receipt.txn.id ∙ has.1, has.2)), keeps_on was old new same finds.1)
changes_from was old (Refuses job fault) new same keeps =
    ((λ repeated. subst IsSome (same job.txn.id) (keeps.0 repeated)), keeps_on was old new same keeps.1)
changes_from was old Loses new same keeps = keeps_on was old new same keeps
changes_from was old Rests new same keeps = keeps_on was old new same keeps
changes_from was old Ends new same keeps = keeps_on was old new same keeps
changes_from was old (MovesTo plan) new same keeps = keeps_on was old new same keeps

each_from : (was old : JobMap) (events : List Event) (new : JobMap) → KeepsOpen was old → ChangesJobsEach old events new → ChangesJobsEach was events new
each_from was old [] new same keeps = keeps_on was old new same keeps
each_from was old (event ∷ more) new same each = (each.0, changes_from was old event each.0 same each.1, each.2)

-- events after others
pub changes_on : (first mid last : JobMap) (one more : List Event)
    → ChangesJobsEach first one mid → ChangesJobsEach mid more last → ChangesJobsEach first (one ++ more) last
changes_on first mid last [] more same goes = each_from first mid more last same goes
changes_on first mid last (event ∷ one) more each goes = (each.0, each.1, changes_on each.0 mid last one more each.2 goes)

-- no event was added, one was, or some after others
pub adds_none : (jobs : OpenJobsValue) → AddsEach [] jobs jobs
adds_none jobs = record { events = sym (append-nil jobs.events); jobs = keeps_same jobs.unanswered }

pub adds_one : (event : Event) (old new : OpenJobsValue) → Adds event old new → AddsEach (event ∷ []) old new
adds_one event old new adds = record { events = adds.events; jobs = (new.unanswered, adds.jobs, keeps_same new.unanswered) }

pub adds_on : (one more : List Event) (first mid last : OpenJobsValue) → AddsEach one first mid → AddsEach more mid last → AddsEach (one ++ more) first last
adds_on one more first mid last was next = record {
  events = next.events ∙ ap (λ (list : List Event). list ++ more) was.events ∙ append_assoc first.events one more;
  jobs = changes_on first.unanswered mid.unanswered last.unanswered one more was.jobs next.jobs;
}

-- an event was added after a call that added none
pub adds_after : (event : Event) (first mid last : OpenJobsValue) → KeepsJobs first mid → Adds event mid last → Adds event first last
adds_after event first mid last keeps adds = record {
  events = adds.events ∙ ap (λ (list : List Event). list ++ event ∷ []) keeps.events;
  jobs = changes_from first.unanswered mid.unanswered event last.unanswered keeps.jobs adds.jobs;
}

-- so the open jobs of an engine are those after its events
pub open_on : (more : List Event) (old new : OpenJobsValue) → AddsEach more old new
    → AreOpen old.events old.unanswered → AreOpen new.events new.unanswered
open_on more old new adds are =
    subst (λ (list : List Event). AreOpen list new.unanswered) (sym adds.events)
    (changes_on [] old.unanswered new.unanswered old.events more are adds.jobs)

-- how many jobs with an id are open: none or one
abbrev open_with : ℕ → JobMap → ℕ
open_with id jobs = one_if (is_some (job_at jobs id))

kept_with : (id : ℕ) (old new : JobMap) → KeepsOpen old new → open_with id new ≡ open_with id old
kept_with id old new keeps = ap (λ (o : Option Job). one_if (is_some o)) (keeps id)

-- of each id as many jobs were posted as were answered, but for those that were open before, and those that are
balanced : (id : ℕ) (first : JobMap) (events : List Event) (last : JobMap) → ChangesJobsEach first events last
    → open_with id first + times_posted id events ≡ times_answered id events + open_with id last
balanced id first [] last keeps = let same = kept_with id first last keeps in omega (arith, same)
balanced id first (Posts job ∷ more) last each =
    let rest = balanced id each.0 more last each.2 in
    let opens = each.1 in
    let one : times_posted id (Posts job ∷ more) ≡ cond (job.txn.id == id) 1 0 + times_posted id more =
    count_first (λ (j : Job). j.txn.id == id) job (posted_in more) in
    elim (cases_eq job.txn.id id) [
      | inl same ↦
          let is : (job.txn.id == id) ≡ true = eq-eqb job.txn.id id same in
          let now : open_with id each.0 ≡ 1 =
          ap (λ (o : Option Job). one_if (is_some o))
          (opens.jobs id ∙ ap (λ (b : Bool). if b then Some job else job_at first id) (eq-eqb id job.txn.id (sym same))) in
          let before : open_with id first ≡ 0 =
          ap (λ (o : Option Job). one_if (is_some o)) (ap (job_at first) (sym same) ∙ opens.fresh) in
          let counts : times_posted id (Posts job ∷ more) ≡ 1 + times_posted id more =
          one ∙ ap (λ (b : Bool). cond b 1 0 + times_posted id more) is in
          omega (arith, rest, now, before, counts)
      | inr apart ↦
          let is : (job.txn.id == id) ≡ false = ne_eqb job.txn.id id apart in
          let now : open_with id each.0 ≡ open_with id first =
          ap (λ (o : Option Job). one_if (is_some o))
          (opens.jobs id ∙ ap (λ (b : Bool). if b then Some job else job_at first id) (ne_eqb id job.txn.id (λ same. apart (sym same)))) in
          let counts : times_posted id (Posts job ∷ more) ≡ 0 + times_posted id more =
          one ∙ ap (λ (b : Bool). cond b 1 0 + times_posted id more) is in
          omega (arith, rest, now, counts)
    ]
balanced id first (Answers part receipt ∷ more) last each =
    let rest = balanced id each.0 more last each.2 in
    let closes = each.1 in
    let one : times_answered id (Answers part receipt ∷ more) ≡ cond (receipt.txn.id == id) 1 0 + times_answered id more =
    count_first (λ (r : ReceiptValue). r.txn.id == id) receipt (answers_in more) in
    elim (cases_eq receipt.txn.id id) [
      | inl same ↦
          let is : (receipt.txn.id == id) ≡ true = eq-eqb receipt.txn.id id same in
          let now : open_with id each.0 ≡ 0 =
          ap (λ (o : Option Job). one_if (is_some o))
          (closes.jobs id ∙ ap (λ (b : Bool). if b then None else job_at first id) (eq-eqb id receipt.txn.id (sym same))) in
          let before : open_with id first ≡ 1 =
          ap (λ (o : Option Job). one_if (is_some o)) (ap (job_at first) (sym same) ∙ closes.was.1) in
          let counts : times_answered id (Answers part receipt ∷ more) ≡ 1 + times_answered id more =
          one ∙ ap (λ (b : Bool). cond b 1 0 + times_answered id more) is in
          omega (arith, rest, now, before, counts)
      | inr apart ↦
          let is : (receipt.txn.id == id) ≡ false = ne_eqb receipt.txn.id id apart in
          let now : open_with id each.0 ≡ open_with id first =
          ap (λ (o : Option Job). one_if (is_some o))
          (closes.jobs id ∙ ap (λ (b : Bool). if b then None else job_at first id) (ne_eqb id receipt.txn.id (λ same. apart (sym same)))) in
          let counts : times_answered id (Answers part receipt ∷ more) ≡ 0 + times_answered id more =
          one ∙ ap (λ (b : Bool). cond b 1 0 + times_answered id more) is in
          omega (arith, rest, now, counts)
    ]
balanced id first (Drops part receipt ∷ more) last each =
    let same = kept_with id first each.0 each.1.1 in let rest = balanced id each.0 more last each.2 in omega (arith, same, rest)
balanced id first (Refuses job fault ∷ more) last each =
    let same = kept_with id first each.0 each.1.1 in let rest = balanced id each.0 more last each.2 in omega (arith, same, rest)
balanced id first (Loses ∷ more) last each =
    let same = kept_with id first each.0 each.1 in let rest = balanced id each.0 more last each.2 in omega (arith, same, rest)
balanced id first (Rests ∷ more) last each =
    let same = kept_with id first each.0 each.1 in let rest = balanced id each.0 more last each.2 in omega (arith, same, rest)
balanced id first (Ends ∷ more) last each =
    let same = kept_with id first each.0 each.1 in let rest = balanced id each.0 more last each.2 in omega (arith, same, rest)
balanced id first (MovesTo plan ∷ more) last each =
    let same = kept_with id first each.0 each.1 in let rest = balanced id each.0 more last each.2 in omega (arith, same, rest)

pub one_answer : (events : List Event) (jobs : JobMap) (id : ℕ) → AreOpen events jobs
    → times_posted id events ≡ times_answered id events + one_if (is_some (job_at jobs id))
one_answer events jobs id are = let all = balanced id [] events jobs are in omega (arith, all)
