-- What a desk writes in an epoch.
use Rattle.std.proofs.Common.{◌≡◌, ⊎_elim, ℕ, ◌<◌, ◌≤◌, ◌==◌, Bool, true, false, if◌then◌else◌, List, [], ◌∷◌, ◌++◌, length, map, refl, sym, ap, subst, ◌∙◌, append_assoc, append-nil, arith}
use Rattle.std.specs.Prelude.{Option}
use Rattle.std.specs.List.{flat_map}
use Rattle.std.specs.Io.KnownBytes.{Appends}
use Rattle.std.proofs.lemmas.List.{map-append}
use Rattle.std.proofs.lemmas.Grind.{flat_map-append}
use Rattle.std.proofs.lemmas.List.Elements.{filter-append}
use Rattle.std.proofs.lemmas.Bool.{cases_eq, cases_lt, eq-eqb, ne_eqb}
use Rattle.sq_node_model.specs.NodeValue.{ReceiptValue}
use Rattle.sq_audit.specs.declared.job.Job.{Job}
use Rattle.sq_engine.specs.declared.open_jobs.PostFault.{PostFault}
use Rattle.sq_engine.specs.declared.open_jobs.PostFault.TheVariants as fault
use Rattle.sq_engine.specs.declared.event.Event.{Event}
use Rattle.sq_engine.specs.declared.event.Event.TheVariants.{Posts, Refuses, Answers, Drops, Loses, Rests, Ends, MovesTo}
use Rattle.sq_engine.specs.Events.{answer_in, answers_in, answer_at, given_from}
use Rattle.sq_engine.specs.Clients.{ClientCall, InStage, ChangesClientEach}
use Rattle.sq_text.proofs.Appending.{both, appends_none}
use Rattle.sq_serving.specs.Receipts.{receipt_line}
use Rattle.sq_serving.specs.declared.line_place.LinePlace.{LinePlace}
use Rattle.sq_serving.specs.declared.feed.Fed.{Fed}
use Rattle.sq_serving.specs.declared.desk.AskedTxn.{AskedTxn}
use Rattle.sq_serving.specs.declared.desk.Wish.{Wish}
use Rattle.sq_serving.specs.Saying.{OtherLine, Answered, other_line}
use Rattle.sq_serving.specs.Settling.{Standing, WishChange, Changes, CountsAnswer, refusal_of}
use Rattle.sq_serving.specs.Sides.{waiting_at}
use Rattle.sq_engine.specs.declared.stage_progress.StageProgress.{StageProgress}
use Rattle.sq_serving.specs.Becoming.{ServeDeskValue, asked_by, asked_at, jobs_for, with_stage, Hears, WritesReceipt, AnswersRefusal, Stops, TakesJobBack, Becomes}
use Rattle.sq_serving.specs.Written.{SaidLine, OfReceipt, Other, said_line, receipt_at, told_from, receipt_said, receipts_said, settled_job, settled_in, as_jobs, jobs_waiting, jobs_asked, WritesEach, other_said, others_in, Settlement, settles_nothing, settled_both, AnswersReturned, SettlesHeard, SettlesEvent, SettlesAll, AnswersEach}
use Rattle.sq_serving.specs.InputEnds.{KnowsEnd}
use Rattle.sq_serving.proofs.Desks.{changes_then, false-not-true, hears_through, keeps_learn, learns_then}

-- jobs that go through two steps, one after another
through : (held asked more first second between left all_asked all : List Job)
    → held ++ asked ≡ first ++ between → between ++ more ≡ second ++ left → all_asked ≡ asked ++ more → all ≡ first ++ second
    → held ++ all_asked ≡ all ++ left
through held asked more first second between left all_asked all one two asks goes =
    ap (λ (l : List Job). held ++ l) asks
    ∙ sym (append_assoc held asked more)
    ∙ ap (λ (l : List Job). l ++ more) one
    ∙ append_assoc first between more
    ∙ ap (λ (l : List Job). first ++ l) two
    ∙ sym (append_assoc first second left)
    ∙ ap (λ (l : List Job). l ++ left) (sym goes)

-- the jobs of a partition are what asks for them
asked_are_jobs : (place : LinePlace) (part : ℕ) (jobs : List Job) → as_jobs part (asked_at place part jobs) ≡ jobs_for part jobs
asked_are_jobs place part [] = refl
asked_are_jobs place part (job ∷ jobs) =
    let rest = jobs_for part jobs in
    let asked : Job → AskedTxn = λ j. record { place = place; txn = j.txn } in
    let job_at : ℕ → Job = λ n. record { part = n; txn = job.txn } in
    let Is : Bool → Type 0 = λ b. as_jobs part (map asked (if b then job ∷ rest else rest)) ≡ (if b then job ∷ rest else rest) in
    ⊎_elim
    (λ same. let e : job.part ≡ part = same in
    let here : Is true =
    ap (λ (n : ℕ). job_at n ∷ as_jobs part (map asked rest)) (sym e)
    ∙ ap (λ (l : List Job). job ∷ l) (asked_are_jobs place part jobs) in
    subst Is (sym (eq-eqb job.part part e)) here)
    (λ differs. subst Is (sym (ne_eqb job.part part differs)) (asked_are_jobs place part jobs))
    (cases_eq job.part part)

-- the jobs that were asked for, offered and left waiting, by what asks for them
as_jobs_go : (part : ℕ) (place : LinePlace) (held asked left : List AskedTxn) (offered : List Job)
    → held ++ asked ≡ asked_at place part offered ++ left
    → as_jobs part held ++ as_jobs part asked ≡ jobs_for part offered ++ as_jobs part left
as_jobs_go part place held asked left offered go =
    let job_of : AskedTxn → Job = λ a. record { part = part; txn = a.txn } in
    sym (map-append job_of held asked)
    ∙ ap (λ (l : List AskedTxn). as_jobs part l) go
    ∙ map-append job_of (asked_at place part offered) left
    ∙ ap (λ (l : List Job). l ++ as_jobs part left) (asked_are_jobs place part offered)

-- the jobs of events, one after another
pub jobs_through : (part : ℕ) (first more : List Event) (asked later : List Fed) (held between left : List Job)
    → held ++ jobs_asked part asked ≡ jobs_for part (settled_in first) ++ between
    → between ++ jobs_asked part later ≡ jobs_for part (settled_in more) ++ left
    → held ++ jobs_asked part (asked ++ later) ≡ jobs_for part (settled_in (first ++ more)) ++ left
jobs_through part first more asked later held between left one two =
    through held (jobs_asked part asked) (jobs_asked part later) (jobs_for part (settled_in first)) (jobs_for part (settled_in more))
    between left (jobs_asked part (asked ++ later)) (jobs_for part (settled_in (first ++ more))) one two
    (ap (λ (l : List AskedTxn). as_jobs part l) (flat_map-append (asked_by part) asked later)
    ∙ map-append (λ (a : AskedTxn). record { part = part; txn = a.txn }) (flat_map (asked_by part) asked) (flat_map (asked_by part) later))
    (ap (λ (l : List Job). jobs_for part l) (flat_map-append settled_job first more)
    ∙ filter-append (λ (job : Job). job.part == part) (settled_in first) (settled_in more))

-- other lines, among all
pub others_said : (others : List OtherLine) → flat_map said_line (map Other others) ≡ flat_map other_line others
others_said [] = refl
others_said (line ∷ others) = ap (λ (l : List ℕ). other_line line ++ l) (others_said others)

pub others_tell_none : (part : ℕ) (others : List OtherLine) → told_from part (map Other others) ≡ []
others_tell_none part [] = refl
others_tell_none part (line ∷ others) = others_tell_none part others

pub others_answer_none : (others : List OtherLine) → receipts_said (map Other others) ≡ []
others_answer_none [] = refl
others_answer_none (line ∷ others) = others_answer_none others

others_are : (others : List OtherLine) → others_in (map Other others) ≡ others
others_are [] = refl
others_are (line ∷ others) = ap (λ (l : List OtherLine). line ∷ l) (others_are others)

-- nothing
abbrev pub none_written : (a : ServeDeskValue) → WritesEach [] a a
none_written a =
    record {
      goes_on = λ still. still;
      writes_on = λ still. still;
      said = [];
      written = λ still. appends_none a.written;
      answers = refl;
      told = λ part. refl;
      more = [];
      heard = sym (append-nil a.heard);
      count = refl;
      jobs = λ still part within. append-nil (jobs_waiting a.waiting part);
      strict = λ still. refl;
      ended = λ still. keeps_learn a.is_strict a.ended a.ended (λ heard knows. knows);
    }

none_answered : (a : ServeDeskValue) → AnswersEach [] a a
none_answered a =
    record {
      writes = none_written a;
      changes = [];
      wishes = λ still. refl;
      settled = λ still. (refl, refl);
    }

-- one after another
abbrev pub writes_then : (first more : List Event) (a b c : ServeDeskValue) → WritesEach first a b → WritesEach more b c → WritesEach (first ++ more) a c
writes_then first more a b c one two =
    record {
      goes_on = λ still. one.goes_on (two.goes_on still);
      writes_on = λ still. one.writes_on (two.writes_on still);
      said = one.said ++ two.said;
      written = λ still.
          both a.written b.written c.written (flat_map said_line one.said) (flat_map said_line two.said)
          (flat_map said_line (one.said ++ two.said)) (one.written (two.writes_on still)) (two.written still)
          (sym (flat_map-append said_line one.said two.said));
      answers =
          flat_map-append receipt_said one.said two.said
          ∙ ap (λ (l : List ReceiptValue). l ++ receipts_said two.said) one.answers
          ∙ ap (λ (l : List ReceiptValue). answers_in first ++ l) two.answers
          ∙ sym (flat_map-append answer_in first more);
      told = λ part.
          flat_map-append (receipt_at part) one.said two.said
          ∙ ap (λ (l : List ReceiptValue). l ++ told_from part two.said) (one.told part)
          ∙ ap (λ (l : List ReceiptValue). given_from part first ++ l) (two.told part)
          ∙ sym (flat_map-append (answer_at part) first more);
      more = one.more ++ two.more;
      heard =
          two.heard ∙ ap (λ (l : List Fed). l ++ two.more) one.heard ∙ append_assoc a.heard one.more two.more;
      count = two.count ∙ one.count;
      jobs = λ still part within.
          jobs_through part first more one.more two.more (jobs_waiting a.waiting part) (jobs_waiting b.waiting part)
          (jobs_waiting c.waiting part) (one.jobs (two.goes_on still) part within)
          (two.jobs still part (subst (λ (n : ℕ). part < n) (sym one.count) within));
      strict = λ still. two.strict still ∙ one.strict (two.goes_on still);
      ended = λ still.
          learns_then a.is_strict b.is_strict one.more two.more a.ended b.ended c.ended (one.strict (two.goes_on still))
          (one.ended (two.goes_on still)) (two.ended still);
    }

-- what two settle, one after another
settled_both_assoc : (a b c : Settlement) → settled_both (settled_both a b) c ≡ settled_both a (settled_both b c)
settled_both_assoc a b c =
    let heard = (a.heard ++ b.heard) ++ c.heard in
    let lines = (a.lines ++ b.lines) ++ c.lines in
    let changes = (a.changes ++ b.changes) ++ c.changes in
    let heard' = a.heard ++ (b.heard ++ c.heard) in
    let lines' = a.lines ++ (b.lines ++ c.lines) in
    let of : List Fed → List OtherLine → List WishChange → Settlement = λ h l k. record { heard = h; lines = l; changes = k } in
    ap (λ (h : List Fed). of h lines changes) (append_assoc a.heard b.heard c.heard)
    ∙ ap (λ (l : List OtherLine). of heard' l changes) (append_assoc a.lines b.lines c.lines)
    ∙ ap (λ (k : List WishChange). of heard' lines' k) (append_assoc a.changes b.changes c.changes)

settles_all_then : (parts : ℕ) (first more : List Event) (one two : Settlement) (a b c : Standing) → SettlesAll parts a first one b
    → SettlesAll parts b more two c → SettlesAll parts a (first ++ more) (settled_both one two) c
settles_all_then parts [] more one two a b c is next =
    subst (λ (s : Settlement). SettlesAll parts a more (settled_both s two) c) (sym is.0)
    (subst (λ (t : Standing). SettlesAll parts t more two c) is.1 next)
settles_all_then parts (event ∷ first) more one two a b c is next = (
  is.0,
  settled_both is.1 two,
  is.2,
  is.3,
  settles_all_then parts first more is.1 two is.2 b c is.4 next,
  ap (λ (s : Settlement). settled_both s two) is.5 ∙ settled_both_assoc is.0 is.1 two,
)

pub answers_then : (first more : List Event) (a b c : ServeDeskValue) → AnswersEach first a b → AnswersEach more b c → AnswersEach (first ++ more) a c
answers_then first more a b c one two =
    let said : List OtherLine → Settlement = λ l.
    record { heard = one.writes.more ++ two.writes.more; lines = l; changes = one.changes ++ two.changes } in
    record {
      writes = writes_then first more a b c one.writes two.writes;
      changes = one.changes ++ two.changes;
      wishes = λ still.
          changes_then a.wishes b.wishes c.wishes one.changes two.changes (one.wishes (two.writes.goes_on still)) (two.wishes still);
      settled = λ still.
          let later : Settlement = record { heard = two.writes.more; lines = others_in two.writes.said; changes = two.changes } in
          let now : Settlement = record { heard = one.writes.more; lines = others_in one.writes.said; changes = one.changes } in
          subst (λ (l : List OtherLine). SettlesAll (length a.waiting) a.standing (first ++ more) (said l) c.standing)
          (sym (flat_map-append other_said one.writes.said two.writes.said))
          (settles_all_then (length a.waiting) first more now later a.standing b.standing c.standing (one.settled (two.writes.goes_on still))
          (subst (λ (parts : ℕ). SettlesAll parts b.standing more later c.standing) one.writes.count (two.settled still)));
    }

-- what one event settles
settles_once : (parts : ℕ) (event : Event) (all : Settlement) (a b : Standing) → SettlesEvent parts a event all b
    → SettlesAll parts a (event ∷ []) all b
settles_once parts event all a b is =
    let of : List Fed → List OtherLine → List WishChange → Settlement = λ h l k. record { heard = h; lines = l; changes = k } in (
      all,
      settles_nothing,
      b,
      is,
      (refl, refl),
      sym (ap (λ (h : List Fed). of h (all.lines ++ []) (all.changes ++ [])) (append-nil all.heard)
          ∙ ap (λ (l : List OtherLine). of all.heard l (all.changes ++ [])) (append-nil all.lines)
          ∙ ap (λ (k : List WishChange). of all.heard all.lines k) (append-nil all.changes)),
    )

-- an event by which no answer was given
abbrev writes_once : (event : Event) (progress : StageProgress) (offered : List Job) (a b : ServeDeskValue) → settled_in (event ∷ []) ≡ offered
    → answers_in (event ∷ []) ≡ [] → ((part : ℕ) → given_from part (event ∷ []) ≡ []) → Hears [] (with_stage progress a) offered b
    → WritesEach (event ∷ []) a b
writes_once event progress offered a b settles unanswered none hears =
    let is = hears.handles in
    record {
      goes_on = is.goes_on;
      writes_on = is.writes_on;
      said = map Other is.others;
      written = λ still.
          subst (Appends a.written b.written) (sym (others_said is.others)) (is.written still);
      answers = others_answer_none is.others ∙ sym unanswered;
      told = λ part. others_tell_none part is.others ∙ sym (none part);
      more = hears.more;
      heard = hears.heard;
      count = is.count;
      jobs = λ still part within.
          as_jobs_go part b.offered_at (waiting_at a.waiting part) (flat_map (asked_by part) hears.more) (waiting_at b.waiting part) offered
          (is.jobs still part within)
          ∙ ap (λ (l : List Job). jobs_for part l ++ jobs_waiting b.waiting part) (sym settles);
      strict = is.strict;
      ended = is.ended;
    }

hears_once : (event : Event) (progress : StageProgress) (offered : List Job) (a b : ServeDeskValue) → settled_in (event ∷ []) ≡ offered
    → answers_in (event ∷ []) ≡ [] → ((part : ℕ) → given_from part (event ∷ []) ≡ [])
    → ((all : Settlement) (next : Standing) → SettlesHeard (length a.waiting) a.standing all → next ≡ a.standing
    → SettlesEvent (length a.waiting) a.standing event all next)
    → Hears [] (with_stage progress a) offered b → AnswersEach (event ∷ []) a b
hears_once event progress offered a b settles unanswered none settled hears =
    let is = hears.handles in
    let all : List OtherLine → Settlement = λ l. record { heard = hears.more; lines = l; changes = is.changes } in
    record {
      writes = writes_once event progress offered a b settles unanswered none hears;
      changes = is.changes;
      wishes = is.wishes;
      settled = λ still.
          subst (λ (l : List OtherLine). SettlesAll (length a.waiting) a.standing (event ∷ []) (all l) b.standing) (sym (others_are is.others))
          (settles_once (length a.waiting) event (all is.others) a.standing b.standing
          (settled (all is.others) b.standing ((with_stage progress a).moving, is.settled still) (is.standing still)));
    }

answers_once : (part : ℕ) (receipt : ReceiptValue) (a b : ServeDeskValue) → WritesReceipt receipt a b → AnswersEach (Answers part receipt ∷ []) a b
answers_once part receipt a b did =
    let writes = did.2 in
    record {
      writes = record {
        goes_on = writes.goes_on;
        writes_on = writes.writes_on;
        said = OfReceipt part receipt ∷ [];
        written = λ still.
            subst (Appends a.written b.written) (sym (append-nil (receipt_line receipt))) (writes.written still);
        answers = refl;
        told = λ other. refl;
        more = [];
        heard = writes.heard ∙ sym (append-nil a.heard);
        count = ap (λ (w : List (List AskedTxn)). length w) writes.waiting;
        jobs = λ still other within.
            append-nil (jobs_waiting a.waiting other)
            ∙ ap (λ (w : List (List AskedTxn)). jobs_waiting w other) (sym writes.waiting);
        strict = λ still. writes.strict;
        ended = λ still. keeps_learn a.is_strict a.ended b.ended writes.ended;
      };
      changes = [];
      wishes = λ still. writes.wishes;
      settled = λ still.
          settles_once (length a.waiting) (Answers part receipt) settles_nothing a.standing b.standing
          (refl, subst (λ (s : Standing). CountsAnswer a.standing s) (sym writes.standing) did.1);
    }

-- an event of which the desk isn't told
untold_once : (event : Event) (a b : ServeDeskValue) → b ≡ a → settled_in (event ∷ []) ≡ [] → answers_in (event ∷ []) ≡ []
    → ((part : ℕ) → given_from part (event ∷ []) ≡ [])
    → SettlesEvent (length a.waiting) a.standing event settles_nothing a.standing → AnswersEach (event ∷ []) a b
untold_once event a b same settles unanswered none is =
    subst (AnswersEach (event ∷ []) a) (sym same)
    (record {
      writes = record {
        goes_on = λ still. still;
        writes_on = λ still. still;
        said = [];
        written = λ still. appends_none a.written;
        answers = sym unanswered;
        told = λ part. sym (none part);
        more = [];
        heard = sym (append-nil a.heard);
        count = refl;
        jobs = λ still part within.
            append-nil (jobs_waiting a.waiting part)
            ∙ ap (λ (l : List Job). jobs_for part l ++ jobs_waiting a.waiting part) (sym settles);
        strict = λ still. refl;
        ended = λ still. keeps_learn a.is_strict a.ended a.ended (λ heard knows. knows);
      };
      changes = [];
      wishes = λ still. refl;
      settled = λ still. settles_once (length a.waiting) event settles_nothing a.standing a.standing is;
    })

-- a job is of no partition that there is
for_none : (job : Job) (parts part : ℕ) → parts ≤ job.part → part < parts → jobs_for part (job ∷ []) ≡ []
for_none job parts part beyond within =
    ap (λ (b : Bool). if b then job ∷ [] else [])
    (ne_eqb job.part part (λ same. let e : job.part ≡ part = same in absurd (omega (arith, e, beyond, within))))

-- a job that was offered is refused
refused_once : (job : Job) (why : PostFault) (number : ℕ) (progress : StageProgress) (a b c : ServeDeskValue)
    → Hears [] (with_stage progress a) (job ∷ []) b → AnswersRefusal number job b c
    → ((part : ℕ) → part < length a.waiting → jobs_for part (settled_in (Refuses job why ∷ [])) ≡ jobs_for part (job ∷ []))
    → AnswersReturned (length a.waiting) job why (Answered (refusal_of number b.offered_at job.txn) ∷ []) → AnswersEach (Refuses job why ∷ []) a c
refused_once job why number progress a b c offers says settles answers =
    let is = offers.handles in
    let line = Answered (refusal_of number b.offered_at job.txn) in
    let all : List OtherLine → Settlement = λ l. record { heard = offers.more; lines = l; changes = is.changes } in
    record {
      writes = record {
        goes_on = λ still. is.goes_on (says.goes_on still);
        writes_on = λ still. is.writes_on (says.writes_on still);
        said = map Other (is.others ++ line ∷ []);
        written = λ still.
            subst (Appends a.written c.written) (sym (others_said (is.others ++ line ∷ [])))
            (both a.written b.written c.written (flat_map other_line is.others) (other_line line)
            (flat_map other_line (is.others ++ line ∷ [])) (is.written (says.writes_on still)) (says.written still)
            (ap (λ (l : List ℕ). flat_map other_line is.others ++ l) (sym (append-nil (other_line line)))
            ∙ sym (flat_map-append other_line is.others (line ∷ []))));
        answers = others_answer_none (is.others ++ line ∷ []);
        told = λ part. others_tell_none part (is.others ++ line ∷ []);
        more = offers.more;
        heard = says.heard ∙ offers.heard;
        count = ap (λ (w : List (List AskedTxn)). length w) says.waiting ∙ is.count;
        jobs = λ still part within.
            as_jobs_go part b.offered_at (waiting_at a.waiting part) (flat_map (asked_by part) offers.more) (waiting_at b.waiting part)
            (job ∷ []) (is.jobs (says.goes_on still) part within)
            ∙ ap (λ (l : List Job). l ++ jobs_waiting b.waiting part) (sym (settles part within))
            ∙ ap (λ (w : List (List AskedTxn)). jobs_for part (settled_in (Refuses job why ∷ [])) ++ jobs_waiting w part) (sym says.waiting);
        strict = λ still. says.strict ∙ is.strict (says.goes_on still);
        ended = λ still heard knows.
            let strict = is.strict (says.goes_on still) in
            subst (λ (s : Bool). KnowsEnd s (heard ++ offers.more) c.ended) strict
            (says.ended (heard ++ offers.more)
            (subst (λ (s : Bool). KnowsEnd s (heard ++ offers.more) b.ended) (sym strict) (is.ended (says.goes_on still) heard knows)));
      };
      changes = is.changes;
      wishes = λ still. subst (λ (w : List Wish). Changes a.wishes is.changes w) (sym says.wishes) (is.wishes (says.goes_on still));
      settled = λ still.
          subst (λ (l : List OtherLine). SettlesAll (length a.waiting) a.standing (Refuses job why ∷ []) (all l) c.standing)
          (sym (others_are (is.others ++ line ∷ [])))
          (settles_once (length a.waiting) (Refuses job why) (all (is.others ++ line ∷ [])) a.standing c.standing (
            record {
              own = is.others;
              settled = ((with_stage progress a).moving, is.settled (says.goes_on still));
              refusal = line ∷ [];
              answers = answers;
              lines = refl;
            },
            says.standing ∙ is.standing (says.goes_on still),
          ));
    }

-- nothing more can be done for a job that was offered
stopped_once : (job : Job) (why : PostFault) (progress : StageProgress) (a b c : ServeDeskValue) → Hears [] (with_stage progress a) (job ∷ []) b
    → Stops b c → AnswersEach (Refuses job why ∷ []) a c
stopped_once job why progress a b c offers is =
    let others = offers.handles.others in
    record {
      writes = record {
        goes_on = λ still. false-not-true (sym is.stopped ∙ still);
        writes_on = λ still. offers.handles.writes_on (sym is.failed ∙ still);
        said = map Other others;
        written = λ still.
            subst (Appends a.written c.written) (sym (others_said others))
            (subst (λ (known : Option (List ℕ)). Appends a.written known (flat_map other_line others)) (sym is.written)
            (offers.handles.written (sym is.failed ∙ still)));
        answers = others_answer_none others;
        told = λ part. others_tell_none part others;
        more = offers.more;
        heard = is.heard ∙ offers.heard;
        count = ap (λ (w : List (List AskedTxn)). length w) is.waiting ∙ offers.handles.count;
        jobs = λ still. false-not-true (sym is.stopped ∙ still);
        strict = λ still. false-not-true (sym is.stopped ∙ still);
        ended = λ still. false-not-true (sym is.stopped ∙ still);
      };
      changes = [];
      wishes = λ still. false-not-true (sym is.stopped ∙ still);
      settled = λ still. false-not-true (sym is.stopped ∙ still);
    }

-- a job whose queue is full waits
waits_once : (job : Job) (progress : StageProgress) (a b c : ServeDeskValue) → job.part < length a.waiting
    → Hears [] (with_stage progress a) (job ∷ []) b → Hears (job ∷ []) b [] c
    → AnswersEach (Refuses job fault.QueueFull ∷ []) a c
waits_once job progress a b c within offers returns =
    hears_once (Refuses job fault.QueueFull) progress [] a c refl refl (λ part. refl)
    (λ all next settled same. (
      record {
        own = all.lines;
        settled = settled;
        refusal = [];
        answers = (λ inside. refl, λ beyond. absurd (omega (arith, within, beyond)));
        lines = sym (append-nil all.lines);
      },
      same,
    ))
    (hears_through [] (job ∷ []) [] (with_stage progress a) b c offers returns)

refuses_once : (job : Job) (why : PostFault) (progress : StageProgress) (a b c : ServeDeskValue) → Hears [] (with_stage progress a) (job ∷ []) b
    → TakesJobBack job why b c
    → AnswersEach (Refuses job why ∷ []) a c
refuses_once job fault.QueueFull progress a b c offers returns =
    let count : length b.waiting ≡ length a.waiting = offers.handles.count in
    ⊎_elim
    (λ within.
    waits_once job progress a b c within offers (returns.waits (subst (λ (n : ℕ). job.part < n) (sym count) within)))
    (λ beyond.
    refused_once job fault.QueueFull 219 progress a b c offers (returns.refused (subst (λ (n : ℕ). n ≤ job.part) (sym count) beyond))
    (λ part inside. sym (for_none job (length a.waiting) part beyond inside))
    (λ inside. absurd (omega (arith, beyond, inside)), λ over. (b.offered_at, refl)))
    (cases_lt job.part (length a.waiting))
refuses_once job fault.NoSuchPartition progress a b c offers returns =
    refused_once job fault.NoSuchPartition 219 progress a b c offers returns (λ part within. refl) (b.offered_at, refl)
refuses_once job fault.RepeatedId progress a b c offers returns =
    refused_once job fault.RepeatedId 127 progress a b c offers returns (λ part within. refl) (b.offered_at, refl)
refuses_once job fault.Memory progress a b c offers returns = stopped_once job fault.Memory progress a b c offers returns

module _ {X : Type 0} (desk : X → ServeDeskValue) where
  -- what a call makes of who has a desk
  abbrev pub becomes : X → ClientCall → X → Type 0
  becomes old call new = Becomes (desk old) call (desk new)

  -- in the events of an epoch a desk writes the line of each answer, and settles each line
  pub answers_each : (segments : ℕ) (events : List Event) (first last : X) → ChangesClientEach (InStage segments becomes) first events last
      → AnswersEach events (desk first) (desk last)
  answers_each segments [] first last same =
      subst (λ (x : X). AnswersEach [] (desk first) (desk x)) (sym same) (none_answered (desk first))
  answers_each segments (Answers part receipt ∷ more) first last went =
      answers_then (Answers part receipt ∷ []) more (desk first) (desk went.0) (desk last)
      (answers_once part receipt (desk first) (desk went.0) went.1) (answers_each segments more went.0 last went.2)
  answers_each segments (Posts job ∷ more) first last went =
      answers_then (Posts job ∷ []) more (desk first) (desk went.0) (desk last)
      (hears_once (Posts job) went.1.0 (job ∷ []) (desk first) (desk went.0) refl refl (λ part. refl) (λ all next settled same. (settled, same)) went.1.1.1)
      (answers_each segments more went.0 last went.2)
  answers_each segments (Refuses job why ∷ more) first last went =
      answers_then (Refuses job why ∷ []) more (desk first) (desk went.0) (desk last)
      (refuses_once job why went.1.1.0 (desk first) (desk went.1.0) (desk went.0) went.1.1.1.1 went.1.2) (answers_each segments more went.0 last went.2)
  answers_each segments (Rests ∷ more) first last went =
      answers_then (Rests ∷ []) more (desk first) (desk went.0) (desk last)
      (hears_once Rests went.1.0 [] (desk first) (desk went.0) refl refl (λ part. refl) (λ all next settled same. (settled, same)) went.1.1.1)
      (answers_each segments more went.0 last went.2)
  answers_each segments (Ends ∷ more) first last went =
      answers_then (Ends ∷ []) more (desk first) (desk went.0) (desk last)
      (hears_once Ends went.1.0 [] (desk first) (desk went.0) refl refl (λ part. refl) (λ all next settled same. (settled, same)) went.1.1.1)
      (answers_each segments more went.0 last went.2)
  answers_each segments (Drops part receipt ∷ more) first last went =
      answers_then (Drops part receipt ∷ []) more (desk first) (desk went.0) (desk last)
      (untold_once (Drops part receipt) (desk first) (desk went.0) (ap desk went.1) refl refl (λ other. refl) (refl, refl))
      (answers_each segments more went.0 last went.2)
  answers_each segments (Loses ∷ more) first last went =
      answers_then (Loses ∷ []) more (desk first) (desk went.0) (desk last)
      (untold_once Loses (desk first) (desk went.0) (ap desk went.1) refl refl (λ other. refl) (refl, refl))
      (answers_each segments more went.0 last went.2)
  answers_each segments (MovesTo plan ∷ more) first last went = absurd went.1
