-- How a desk changes, step by step.
use Rattle.std.proofs.Common.{◌≡◌, ◌⊎◌, ⊎_elim, inl, inr, ℕ, ◌<◌, ◌≤◌, ◌||◌, Bool, true, false, if◌then◌else◌, List, [], ◌∷◌, ◌++◌, length, map, refl, sym, ap, subst, ◌∙◌, append_assoc, append-nil, arith}
use Rattle.std.specs.Prelude.{Option, None, Some, Ok, Err}
use Rattle.std.specs.List.{flat_map}
use Rattle.std.specs.Io.KnownBytes.{Appends}
use Rattle.std.proofs.lemmas.Grind.{flat_map-append}
use Rattle.std.proofs.lemmas.Bool.{or_parts, cases_eq, cases_lt, eq-eqb, ne_eqb}
use Rattle.sq_audit.specs.declared.job.Job.{Job}
use Rattle.sq_schema.specs.TxnValue.{TxnValue}
use Rattle.sq_text.proofs.Appending.{both, appends_none}
use Rattle.sq_serving.specs.declared.faulty_line.FaultyLine.{FaultyLine}
use Rattle.sq_serving.specs.declared.line_place.LinePlace.{LinePlace}
use Rattle.sq_plan.specs.declared.fault.PlanFault.{PlanFault}
use Rattle.sq_plan.specs.Fault.{plan_fault_number}
use Rattle.sq_plan.specs.PlanValue.{owner}
use Rattle.sq_serving.specs.declared.serve_answer.ServeAnswer.{ServeAnswer}
use Rattle.sq_serving.specs.declared.serve_answer.ServeAnswer.TheVariants.{Fault, Pumps, Queued, Dropped, NothingQueued, Owner}
use Rattle.sq_serving.specs.ServeAnswers.{serve_answer_line}
use Rattle.sq_serving.specs.ServeFaults.{serve_fault_number}
use Rattle.sq_serving.specs.declared.serve_fault.ServeFault.{ServeFault}
use Rattle.sq_serving.specs.declared.serve_fault.ServeFault.TheVariants.{NotAServeLine, TooLong, Txn, Plan, Memory}
use Rattle.sq_serving.specs.declared.serve_line.ServeLine.TheVariants as asks
use Rattle.sq_serving.specs.declared.feed.Fed.{Fed}
use Rattle.sq_serving.specs.declared.feed.Fed.TheVariants as fed
use Rattle.sq_serving.specs.declared.desk.AskedTxn.{AskedTxn}
use Rattle.sq_serving.specs.declared.desk.MoveProgress.{MoveProgress}
use Rattle.sq_serving.specs.declared.desk.AskedMove.{AskedMove}
use Rattle.sq_serving.specs.declared.desk.Wish.{Wish}
use Rattle.sq_serving.specs.declared.desk.Wish.TheVariants as wish
use Rattle.sq_serving.specs.declared.outlet.Outlet.{Outlet}
use Rattle.sq_serving.specs.Saying.{Says, OtherLine, Answered, Refused, other_line, StatusTold, JsonTold}
use Rattle.sq_serving.specs.InputEnds.{KnowsEnd, KeepsEnd, LearnsEnd}
use Rattle.sq_serving.specs.Ending.{outcome_refused}
use Rattle.sq_serving.specs.declared.ending.InputOutcome.{InputOutcome}
use Rattle.sq_serving.specs.declared.ending.InputOutcome.TheVariants as outcome
use Rattle.sq_serving.specs.declared.feed.InputEnd.TheVariants as end
use Rattle.sq_serving.specs.Settling.{Standing, WishChange, Keeps, Drops, Changes, refusal_of, chunk_answer, AnswersFault, SettlesFed, SettlesEach}
use Rattle.sq_serving.specs.Sides.{waiting_at, ChangesAt, TakesFirst}
use Rattle.sq_serving.specs.Becoming.{ServeDeskValue, asked_by, asked_at, Handles, Hears, Speaks, WritesBytes, WritesStatus, WritesJson, WritesOwner, Stops, KeepsWish, WantsMove, DropsLast, TakesWish}

pub false-not-true : {P : Type 0} → true ≡ false → P
false-not-true e = cc

-- an end that is known is known with more that was handed on
pub knows_more : (strict : Bool) (heard more : List Fed) (ended : Option InputOutcome) → KnowsEnd strict heard ended → KnowsEnd strict (heard ++ more) ended
knows_more strict heard more None knows = tt
knows_more strict heard more (Some outcome.Whole) knows = (
  knows.0,
  knows.1 ++ more,
  ap (λ (l : List Fed). l ++ more) knows.2 ∙ append_assoc knows.0 (fed.End end.Whole ∷ knows.1) more,
)
knows_more strict heard more (Some outcome.Broken) knows = (
  knows.0,
  knows.1,
  (
    knows.2.0,
    knows.2.1 ++ more,
    ap (λ (l : List Fed). l ++ more) knows.2.2 ∙ append_assoc knows.2.0 (fed.End (end.Broken knows.0 knows.1) ∷ knows.2.1) more,
  ),
)
knows_more strict heard more (Some outcome.Refused) knows = knows

-- what is kept is known after nothing more
pub keeps_learn : (strict : Bool) (old new : Option InputOutcome) → KeepsEnd strict old new → LearnsEnd strict [] old new
keeps_learn strict old new keeps heard knows =
    subst (λ (h : List Fed). KnowsEnd strict h new) (sym (append-nil heard)) (keeps heard knows)

-- what is learnt after something else
pub learns_then : (strict strict' : Bool) (more more' : List Fed) (a b c : Option InputOutcome) → strict' ≡ strict
    → LearnsEnd strict more a b → LearnsEnd strict' more' b c → LearnsEnd strict (more ++ more') a c
learns_then strict strict' more more' a b c same one two heard knows =
    subst (λ (h : List Fed). KnowsEnd strict h c) (append_assoc heard more more')
    (subst (λ (s : Bool). KnowsEnd s ((heard ++ more) ++ more') c) same
    (two (heard ++ more) (subst (λ (s : Bool). KnowsEnd s (heard ++ more) b) (sym same) (one heard knows))))

-- a refused line ends a strict input
pub refusal_keeps : (strict : Bool) (old now : Option InputOutcome) → now ≡ (if strict then Some (outcome_refused old) else old)
    → KeepsEnd strict old now
refusal_keeps strict old now is heard knows =
    subst (λ (e : Option InputOutcome). KnowsEnd strict heard e) (sym is) (refused strict old knows)
  where
    refused : (strict : Bool) (old : Option InputOutcome) → KnowsEnd strict heard old
        → KnowsEnd strict heard (if strict then Some (outcome_refused old) else old)
    refused false old knows = knows
    refused true None knows = refl
    refused true (Some outcome.Whole) knows = refl
    refused true (Some outcome.Broken) knows = knows
    refused true (Some outcome.Refused) knows = refl

-- wishes change after they changed
pub changes_then : (a b c : List Wish) (first more : List WishChange) → Changes a first b → Changes b more c → Changes a (first ++ more) c
changes_then a b c [] more one two = subst (λ (w : List Wish). Changes w more c) one two
changes_then a b c (Keeps wish ∷ first) more one two = changes_then (a ++ wish ∷ []) b c first more one two
changes_then a b c (Drops asked ∷ first) more one two = (one.0, one.1, changes_then one.0 b c first more one.2 two)

-- what is settled after something else
pub settles_then : (parts : ℕ) (moving : Option MoveProgress) (standing : Standing) (first more : List Fed) (lines lines' : List OtherLine) (changes changes' : List WishChange)
    → SettlesEach parts moving standing first lines changes → SettlesEach parts moving standing more lines' changes'
    → SettlesEach parts moving standing (first ++ more) (lines ++ lines') (changes ++ changes')
settles_then parts moving standing [] more lines lines' changes changes' one two =
    subst (λ (l : List OtherLine). SettlesEach parts moving standing more (l ++ lines') (changes ++ changes')) (sym one.0)
    (subst (λ (k : List WishChange). SettlesEach parts moving standing more lines' (k ++ changes')) (sym one.1) two)
settles_then parts moving standing (fed ∷ first) more lines lines' changes changes' one two = (
  one.0,
  one.1,
  one.2 ++ lines',
  one.3 ++ changes',
  one.4,
  settles_then parts moving standing first more one.2 lines' one.3 changes' one.5 two,
  ap (λ (l : List OtherLine). l ++ lines') one.6 ∙ append_assoc one.0 one.2 lines',
  ap (λ (k : List WishChange). k ++ changes') one.7 ∙ append_assoc one.1 one.3 changes',
)

-- one alone
pub settles_one : (parts : ℕ) (moving : Option MoveProgress) (standing : Standing) (fed : Fed) (lines : List OtherLine) (changes : List WishChange)
    → SettlesFed parts moving standing fed lines changes → SettlesEach parts moving standing (fed ∷ []) lines changes
settles_one parts moving standing fed lines changes is =
    (lines, changes, [], [], is, (refl, refl), sym (append-nil lines), sym (append-nil changes))

-- what is handled after something else, with the jobs back that this offered
handles_through : (more more' : List Fed) (back mid offered : List Job) (a b c : ServeDeskValue)
    → Handles more back a mid b → Handles more' mid b offered c → Handles (more ++ more') back a offered c
handles_through more more' back mid offered a b c one two =
    record {
      goes_on = λ still. one.goes_on (two.goes_on still);
      writes_on = λ still. one.writes_on (two.writes_on still);
      others = one.others ++ two.others;
      written = λ still.
          both a.written b.written c.written (flat_map other_line one.others) (flat_map other_line two.others)
          (flat_map other_line (one.others ++ two.others)) (one.written (two.writes_on still)) (two.written still)
          (sym (flat_map-append other_line one.others two.others));
      changes = one.changes ++ two.changes;
      wishes = λ still.
          changes_then a.wishes b.wishes c.wishes one.changes two.changes (one.wishes (two.goes_on still)) (two.wishes still);
      settled = λ still.
          settles_then (length a.waiting) a.moving a.standing more more' one.others two.others one.changes two.changes
          (one.settled (two.goes_on still))
          (subst (λ (moving : Option MoveProgress). SettlesEach (length a.waiting) moving a.standing more' two.others two.changes) one.moving
          (subst (λ (standing : Standing). SettlesEach (length a.waiting) b.moving standing more' two.others two.changes)
          (one.standing (two.goes_on still))
          (subst (λ (parts : ℕ). SettlesEach parts b.moving b.standing more' two.others two.changes) one.count (two.settled still))));
      count = two.count ∙ one.count;
      moving = two.moving ∙ one.moving;
      standing = λ still. two.standing still ∙ one.standing (two.goes_on still);
      strict = λ still. two.strict still ∙ one.strict (two.goes_on still);
      ended = λ still.
          learns_then a.is_strict b.is_strict more more' a.ended b.ended c.ended (one.strict (two.goes_on still))
          (one.ended (two.goes_on still)) (two.ended still);
      jobs = λ still part within.
          let held = asked_at a.offered_at part back ++ waiting_at a.waiting part in
          let asked = flat_map (asked_by part) more in
          let later = flat_map (asked_by part) more' in
          ap (λ (l : List AskedTxn). held ++ l) (flat_map-append (asked_by part) more more')
          ∙ sym (append_assoc held asked later)
          ∙ ap (λ (l : List AskedTxn). l ++ later) (one.jobs (two.goes_on still) part within)
          ∙ two.jobs still part (subst (λ (n : ℕ). part < n) (sym one.count) within);
    }

-- what is heard after something else, with the jobs back that this offered
pub hears_through : (back mid offered : List Job) (a b c : ServeDeskValue) → Hears back a mid b → Hears mid b offered c → Hears back a offered c
hears_through back mid offered a b c first second =
    record {
      more = first.more ++ second.more;
      heard =
          second.heard ∙ ap (λ (l : List Fed). l ++ second.more) first.heard
          ∙ append_assoc a.heard first.more second.more;
      handles =
          handles_through first.more second.more back mid offered a b c first.handles second.handles;
    }

-- the same where no job was offered
pub hears_then : (back offered : List Job) (a b c : ServeDeskValue) → Hears back a [] b → Hears [] b offered c → Hears back a offered c
hears_then back offered = hears_through back [] offered

-- a line is written of what was handed on, which asks for no job, the input may end there, and
-- wishes change
answers_changed : (fed : Fed) (line : OtherLine) (changes : List WishChange) (wishes : List Wish) (now : Option InputOutcome) (a b : ServeDeskValue)
    → WritesBytes (other_line line) (record a { ended = now; wishes = wishes }) b → Changes a.wishes changes wishes
    → SettlesFed (length a.waiting) a.moving a.standing fed (line ∷ []) changes → ((part : ℕ) → part < length a.waiting → asked_by part fed ≡ [])
    → LearnsEnd a.is_strict (fed ∷ []) a.ended now → Handles (fed ∷ []) [] a [] b
answers_changed fed line changes wishes now a b says change is none learns =
    record {
      goes_on = says.goes_on;
      writes_on = says.writes_on;
      others = line ∷ [];
      written = λ still.
          subst (λ (bytes : List ℕ). Appends a.written b.written bytes) (sym (append-nil (other_line line))) (says.written still);
      changes = changes;
      wishes = λ still. subst (λ (w : List Wish). Changes a.wishes changes w) (sym says.wishes) change;
      settled = λ still. settles_one (length a.waiting) a.moving a.standing fed (line ∷ []) changes is;
      count = ap (λ (w : List (List AskedTxn)). length w) says.waiting;
      moving = says.moving;
      standing = λ still. says.standing;
      strict = λ still. says.strict;
      ended = λ still heard knows. says.ended (heard ++ fed ∷ []) (learns heard knows);
      jobs = λ still part within.
          ap (λ (l : List AskedTxn). waiting_at a.waiting part ++ (l ++ [])) (none part within)
          ∙ append-nil (waiting_at a.waiting part)
          ∙ ap (λ (w : List (List AskedTxn)). waiting_at w part) (sym says.waiting);
    }

-- the same of a line at which the input may end, and no wish changes
pub answers_ended : (fed : Fed) (line : OtherLine) (now : Option InputOutcome) (a b : ServeDeskValue)
    → WritesBytes (other_line line) (record a { ended = now }) b
    → SettlesFed (length a.waiting) a.moving a.standing fed (line ∷ []) [] → ((part : ℕ) → part < length a.waiting → asked_by part fed ≡ [])
    → LearnsEnd a.is_strict (fed ∷ []) a.ended now → Handles (fed ∷ []) [] a [] b
answers_ended fed line now a b says is none learns = answers_changed fed line [] a.wishes now a b says refl is none learns

-- a line is answered at once that asks for no job
pub answers_one : (fed : Fed) (line : OtherLine) (a b : ServeDeskValue) → WritesBytes (other_line line) a b
    → SettlesFed (length a.waiting) a.moving a.standing fed (line ∷ []) [] → ((part : ℕ) → part < length a.waiting → asked_by part fed ≡ [])
    → Handles (fed ∷ []) [] a [] b
answers_one fed line a b says is none =
    answers_ended fed line a.ended a b says is none (λ heard knows. knows_more a.is_strict heard (fed ∷ []) a.ended knows)

-- nothing is written of what was handed on, which asks for no job, and this wish is kept
keeps_all : (fed : Fed) (wish : Wish) (a : ServeDeskValue) → SettlesFed (length a.waiting) a.moving a.standing fed [] (Keeps wish ∷ [])
    → ((part : ℕ) → part < length a.waiting → asked_by part fed ≡ [])
    → Handles (fed ∷ []) [] a [] (record a { wishes = a.wishes ++ wish ∷ [] })
keeps_all fed wish a is none =
    record {
      goes_on = λ still. still;
      writes_on = λ still. still;
      others = [];
      written = λ still. appends_none a.written;
      changes = Keeps wish ∷ [];
      wishes = λ still. refl;
      settled = λ still. settles_one (length a.waiting) a.moving a.standing fed [] (Keeps wish ∷ []) is;
      count = refl;
      moving = refl;
      standing = λ still. refl;
      strict = λ still. refl;
      ended = λ still heard knows. knows_more a.is_strict heard (fed ∷ []) a.ended knows;
      jobs = λ still part within.
          ap (λ (l : List AskedTxn). waiting_at a.waiting part ++ (l ++ [])) (none part within)
          ∙ append-nil (waiting_at a.waiting part);
    }

pub keeps_one : (fed : Fed) (wish : Wish) (a b : ServeDeskValue) → KeepsWish wish a b
    → SettlesFed (length a.waiting) a.moving a.standing fed [] (Keeps wish ∷ []) → ((part : ℕ) → part < length a.waiting → asked_by part fed ≡ [])
    → Handles (fed ∷ []) [] a [] b
keeps_one fed wish a b keeps is none =
    subst (λ (d : ServeDeskValue). Handles (fed ∷ []) [] a [] d) (sym keeps) (keeps_all fed wish a is none)

-- a wish of a line is kept or refused
pub wishes_one : (fed : Fed) (wish : Wish) (a b : ServeDeskValue)
    → SettlesFed (length a.waiting) a.moving a.standing fed [] (Keeps wish ∷ []) → SettlesFed (length a.waiting) a.moving a.standing fed (Refused 217 ∷ []) []
    → ((part : ℕ) → part < length a.waiting → asked_by part fed ≡ [])
    → KeepsWish wish a b ⊎ WritesBytes (other_line (Refused 217)) a b → Handles (fed ∷ []) [] a [] b
wishes_one fed wish a b kept refused none did =
    ⊎_elim (λ keeps. keeps_one fed wish a b keeps kept none) (λ says. answers_one fed (Refused 217) a b says refused none) did

-- nothing changed
pub same_handles : (a b : ServeDeskValue) → b ≡ a → Handles [] [] a [] b
same_handles a b same =
    subst (λ (d : ServeDeskValue). Handles [] [] a [] d) (sym same)
    (record {
      goes_on = λ still. still;
      writes_on = λ still. still;
      others = [];
      written = λ still. appends_none a.written;
      changes = [];
      wishes = λ still. refl;
      settled = λ still. (refl, refl);
      count = refl;
      moving = refl;
      standing = λ still. refl;
      strict = λ still. refl;
      ended = λ still. keeps_learn a.is_strict a.ended a.ended (λ heard knows. knows);
      jobs = λ still part within. append-nil (waiting_at a.waiting part);
    })

-- nothing but the end of the input
pub ends_whole : (a b : ServeDeskValue) → b ≡ record a { ended = Some outcome.Whole } → Handles (fed.End end.Whole ∷ []) [] a [] b
ends_whole a b same =
    subst (λ (d : ServeDeskValue). Handles (fed.End end.Whole ∷ []) [] a [] d) (sym same)
    (record {
      goes_on = λ still. still;
      writes_on = λ still. still;
      others = [];
      written = λ still. appends_none a.written;
      changes = [];
      wishes = λ still. refl;
      settled = λ still. settles_one (length a.waiting) a.moving a.standing (fed.End end.Whole) [] [] (refl, refl);
      count = refl;
      moving = refl;
      standing = λ still. refl;
      strict = λ still. refl;
      ended = λ still heard knows. (heard, [], refl);
      jobs = λ still part within. append-nil (waiting_at a.waiting part);
    })

-- what is handled of what was heard
pub handles_hears : (more : List Fed) (back offered : List Job) (a b : ServeDeskValue) → b.heard ≡ a.heard ++ more
    → Handles more back a offered b → Hears back a offered b
handles_hears more back offered a b heard is = record { more = more; heard = heard; handles = is }

-- what is handled where nothing was heard
pub handles_unheard : (back offered : List Job) (a b : ServeDeskValue) → b.heard ≡ a.heard → Handles [] back a offered b → Hears back a offered b
handles_unheard back offered a b same is =
    handles_hears [] back offered a b (same ∙ sym (append-nil a.heard)) is

pub same_hears : (a b : ServeDeskValue) → b ≡ a → Hears [] a [] b
same_hears a b same =
    handles_unheard [] [] a b (ap (λ (d : ServeDeskValue). d.heard) same) (same_handles a b same)

-- no bytes were written
pub nothing_hears : (a b : ServeDeskValue) → WritesBytes [] a b → Hears [] a [] b
nothing_hears a b writes =
    handles_unheard [] [] a b writes.heard
    (record {
      goes_on = writes.goes_on;
      writes_on = writes.writes_on;
      others = [];
      written = writes.written;
      changes = [];
      wishes = λ still. writes.wishes;
      settled = λ still. (refl, refl);
      count = ap (λ (w : List (List AskedTxn)). length w) writes.waiting;
      moving = writes.moving;
      standing = λ still. writes.standing;
      strict = λ still. writes.strict;
      ended = λ still. keeps_learn a.is_strict a.ended b.ended writes.ended;
      jobs = λ still part within.
          append-nil (waiting_at a.waiting part)
          ∙ ap (λ (w : List (List AskedTxn)). waiting_at w part) (sym writes.waiting);
    })

-- nothing changed
pub silent : (a b : ServeDeskValue) → b ≡ a → Speaks a b
silent a b same =
    subst (λ (d : ServeDeskValue). Speaks a d) (sym same)
    (record {
      goes_on = λ still. still;
      writes_on = λ still. still;
      others = [];
      written = λ still. appends_none a.written;
      heard = refl;
      waiting = refl;
      answered = refl;
      strict = refl;
      ended = λ heard knows. knows;
    })

-- no bytes were written
pub writes_nothing : (a b : ServeDeskValue) → WritesBytes [] a b → Speaks a b
writes_nothing a b writes =
    record {
      goes_on = writes.goes_on;
      writes_on = writes.writes_on;
      others = [];
      written = writes.written;
      heard = writes.heard;
      waiting = writes.waiting;
      answered = ap (λ (s : Standing). s.answered) writes.standing;
      strict = writes.strict;
      ended = writes.ended;
    }

-- one line was
pub line_speaks : (line : OtherLine) (a b : ServeDeskValue) → WritesBytes (other_line line) a b → Speaks a b
line_speaks line a b writes =
    record {
      goes_on = writes.goes_on;
      writes_on = writes.writes_on;
      others = line ∷ [];
      written = λ still.
          subst (λ (bytes : List ℕ). Appends a.written b.written bytes) (sym (append-nil (other_line line))) (writes.written still);
      heard = writes.heard;
      waiting = writes.waiting;
      answered = ap (λ (s : Standing). s.answered) writes.standing;
      strict = writes.strict;
      ended = writes.ended;
    }

-- nothing was written or wished of a job
pub quiet : (more : List Fed) (back offered : List Job) (a b : ServeDeskValue) → b.has_failed ≡ a.has_failed → b.standing ≡ a.standing → b.is_strict ≡ a.is_strict → b.ended ≡ a.ended
    → b.moving ≡ a.moving → b.written ≡ a.written → b.has_stopped ≡ a.has_stopped
    → b.wishes ≡ a.wishes → length b.waiting ≡ length a.waiting → SettlesEach (length a.waiting) a.moving a.standing more [] []
    → ((part : ℕ) → part < length a.waiting
    → (asked_at a.offered_at part back ++ waiting_at a.waiting part) ++ flat_map (asked_by part) more
    ≡ asked_at b.offered_at part offered ++ waiting_at b.waiting part)
    → Handles more back a offered b
quiet more back offered a b failed standing strict ended moving written stopped wishes count settled jobs =
    record {
      goes_on = λ still. sym stopped ∙ still;
      writes_on = λ still. sym failed ∙ still;
      others = [];
      written = λ still.
          subst (λ (known : Option (List ℕ)). Appends a.written known []) (sym written) (appends_none a.written);
      changes = [];
      wishes = λ still. wishes;
      settled = λ still. settled;
      count = count;
      moving = moving;
      standing = λ still. standing;
      strict = λ still. strict;
      ended = λ still heard knows.
          subst (λ (e : Option InputOutcome). KnowsEnd a.is_strict (heard ++ more) e) (sym ended) (knows_more a.is_strict heard more a.ended knows);
      jobs = λ still part within. jobs part within;
    }

-- nothing more can be done
pub stops : (more : List Fed) (back offered : List Job) (a b : ServeDeskValue) → b.has_failed ≡ a.has_failed → b.written ≡ a.written
    → b.moving ≡ a.moving → b.has_stopped ≡ true → length b.waiting ≡ length a.waiting → Handles more back a offered b
stops more back offered a b failed written moving stopped count =
    record {
      goes_on = λ still. false-not-true (sym stopped ∙ still);
      writes_on = λ still. sym failed ∙ still;
      others = [];
      written = λ still.
          subst (λ (known : Option (List ℕ)). Appends a.written known []) (sym written) (appends_none a.written);
      changes = [];
      wishes = λ still. false-not-true (sym stopped ∙ still);
      settled = λ still. false-not-true (sym stopped ∙ still);
      count = count;
      moving = moving;
      standing = λ still. false-not-true (sym stopped ∙ still);
      strict = λ still. false-not-true (sym stopped ∙ still);
      ended = λ still. false-not-true (sym stopped ∙ still);
      jobs = λ still. false-not-true (sym stopped ∙ still);
    }

-- the same, where only that changed
pub stopped_handles : (more : List Fed) (back offered : List Job) (a b : ServeDeskValue) → Stops a b → Handles more back a offered b
stopped_handles more back offered a b is =
    stops more back offered a b is.failed is.written is.moving is.stopped (ap (λ (w : List (List AskedTxn)). length w) is.waiting)

module _ {W : Type 0} (contents : W → Option (List ℕ)) where
  -- a desk with this outlet
  abbrev pub over : Bool → ServeDeskValue → Outlet W → ServeDeskValue
  over lacks_memory desk outlet =
      record desk { written = contents outlet.writer; has_failed = outlet.has_failed; has_stopped = lacks_memory || outlet.has_failed }

  -- an outlet wrote these bytes
  pub writes_bytes : (bytes : List ℕ) (lacks_memory : Bool) (desk : ServeDeskValue) (old new : Outlet W)
      → Says contents old bytes new
      → WritesBytes bytes (over lacks_memory desk old) (over lacks_memory desk new)
  writes_bytes bytes lacks_memory desk old new says =
      record {
        goes_on = λ still.
            let parts = or_parts lacks_memory new.has_failed still in
            ap (λ (b : Bool). b || old.has_failed) parts.0 ∙ says.goes_on parts.1;
        writes_on = says.goes_on;
        written = says.written;
        heard = refl;
        waiting = refl;
        offered_at = refl;
        wishes = refl;
        moving = refl;
        standing = refl;
        strict = refl;
        ended = λ heard knows. knows;
      }

-- what is written after a line was refused
pub noted_writes : (bytes : List ℕ) (now : Option InputOutcome) (a noted b : ServeDeskValue) → noted ≡ record a { ended = now }
    → KeepsEnd a.is_strict a.ended now → WritesBytes bytes noted b → WritesBytes bytes a b
noted_writes bytes now a noted b is keeps writes =
    let says : WritesBytes bytes (record a { ended = now }) b = subst (λ (d : ServeDeskValue). WritesBytes bytes d b) is writes in
    record {
      goes_on = says.goes_on;
      writes_on = says.writes_on;
      written = says.written;
      heard = says.heard;
      waiting = says.waiting;
      offered_at = says.offered_at;
      wishes = says.wishes;
      moving = says.moving;
      standing = says.standing;
      strict = says.strict;
      ended = λ heard knows. says.ended heard (keeps heard knows);
    }

-- what holds of one number and of all others holds of each
at_or_else : (P : ℕ → Type 0) (at : ℕ) → P at → ((other : ℕ) → (other ≡ at → ⊥) → P other) → (part : ℕ) → P part
at_or_else P at here others part =
    ⊎_elim (λ same. subst P (sym same) here) (λ differs. others part differs) (cases_eq part at)

-- the job of a line is asked for of its partition, and of no other
asked_here : (at : ℕ) (place : LinePlace) (txn : TxnValue)
    → flat_map (asked_by at) (fed.Line place (Ok (asks.Job at txn)) ∷ []) ≡ record { place = place; txn = txn } ∷ []
asked_here at place txn =
    let asked : AskedTxn = record { place = place; txn = txn } in
    ap (λ (b : Bool). (if b then asked ∷ [] else []) ++ []) (eq-eqb at at refl)

asked_other : (at other : ℕ) (place : LinePlace) (txn : TxnValue) → (other ≡ at → ⊥)
    → flat_map (asked_by other) (fed.Line place (Ok (asks.Job at txn)) ∷ []) ≡ []
asked_other at other place txn differs =
    let asked : AskedTxn = record { place = place; txn = txn } in
    ap (λ (b : Bool). (if b then asked ∷ [] else []) ++ []) (ne_eqb at other (λ same. differs (sym same)))

-- a job is for its partition, and for no other
for_here : (place : LinePlace) (job : Job) → asked_at place job.part (job ∷ []) ≡ record { place = place; txn = job.txn } ∷ []
for_here place job =
    let asked : Job → AskedTxn = λ j. record { place = place; txn = j.txn } in
    ap (λ (b : Bool). map asked (if b then job ∷ [] else [])) (eq-eqb job.part job.part refl)

for_other : (place : LinePlace) (job : Job) (other : ℕ) → (other ≡ job.part → ⊥) → asked_at place other (job ∷ []) ≡ []
for_other place job other differs =
    let asked : Job → AskedTxn = λ j. record { place = place; txn = j.txn } in
    ap (λ (b : Bool). map asked (if b then job ∷ [] else [])) (ne_eqb job.part other (λ same. differs (sym same)))

-- a job is put behind those of its partition
pub put_behind_keeps : (asked : AskedTxn) (at : ℕ) (old new : List (List AskedTxn))
    → ChangesAt at (waiting_at old at ++ asked ∷ []) old new
    → (part : ℕ) → waiting_at old part ++ flat_map (asked_by part) (fed.Line asked.place (Ok (asks.Job at asked.txn)) ∷ []) ≡ waiting_at new part
put_behind_keeps asked at old new changes =
    let more : ℕ → List AskedTxn = λ part. flat_map (asked_by part) (fed.Line asked.place (Ok (asks.Job at asked.txn)) ∷ []) in
    at_or_else (λ part. waiting_at old part ++ more part ≡ waiting_at new part) at
    (ap (λ (l : List AskedTxn). waiting_at old at ++ l) (asked_here at asked.place asked.txn) ∙ sym changes.here)
    (λ other differs.
    ap (λ (l : List AskedTxn). waiting_at old other ++ l) (asked_other at other asked.place asked.txn differs)
    ∙ append-nil (waiting_at old other)
    ∙ sym (changes.others other differs))

-- a job is put before those of its partition
pub put_back_keeps : (place : LinePlace) (job : Job) (old new : List (List AskedTxn))
    → ChangesAt job.part (record { place = place; txn = job.txn } ∷ waiting_at old job.part) old new
    → (part : ℕ) → (asked_at place part (job ∷ []) ++ waiting_at old part) ++ [] ≡ waiting_at new part
put_back_keeps place job old new changes part =
    append-nil (asked_at place part (job ∷ []) ++ waiting_at old part)
    ∙ at_or_else (λ part. asked_at place part (job ∷ []) ++ waiting_at old part ≡ waiting_at new part) job.part
    (ap (λ (l : List AskedTxn). l ++ waiting_at old job.part) (for_here place job) ∙ sym changes.here)
    (λ other differs.
    ap (λ (l : List AskedTxn). l ++ waiting_at old other) (for_other place job other differs)
    ∙ sym (changes.others other differs))
    part

-- the first job of a partition is taken
pub take_keeps : (asked : AskedTxn) (at : ℕ) (old new : List (List AskedTxn)) → TakesFirst at asked old new
    → (part : ℕ) → waiting_at old part ++ [] ≡ asked_at asked.place part (record { part = at; txn = asked.txn } ∷ []) ++ waiting_at new part
take_keeps asked at old new takes part =
    let job : Job = record { part = at; txn = asked.txn } in
    append-nil (waiting_at old part)
    ∙ at_or_else (λ part. waiting_at old part ≡ asked_at asked.place part (job ∷ []) ++ waiting_at new part) at
    (takes.first ∙ ap (λ (l : List AskedTxn). l ++ waiting_at new at) (sym (for_here asked.place job)))
    (λ other differs.
    sym (takes.changes.others other differs)
    ∙ ap (λ (l : List AskedTxn). l ++ waiting_at new other) (sym (for_other asked.place job other differs)))
    part

-- a job is offered at once, where none of its partition waits
pub offers_at_once : (place : LinePlace) (txn : TxnValue) (at : ℕ) (waiting : List (List AskedTxn)) → waiting_at waiting at ≡ []
    → (part : ℕ) → waiting_at waiting part ++ flat_map (asked_by part) (fed.Line place (Ok (asks.Job at txn)) ∷ [])
    ≡ asked_at place part (record { part = at; txn = txn } ∷ []) ++ waiting_at waiting part
offers_at_once place txn at waiting none =
    let job : Job = record { part = at; txn = txn } in
    let asked : AskedTxn = record { place = place; txn = txn } in
    let more : ℕ → List AskedTxn = λ part. flat_map (asked_by part) (fed.Line place (Ok (asks.Job at txn)) ∷ []) in
    at_or_else (λ part. waiting_at waiting part ++ more part ≡ asked_at place part (job ∷ []) ++ waiting_at waiting part) at
    (ap (λ (l : List AskedTxn). l ++ more at) none
    ∙ asked_here at place txn
    ∙ sym (ap (λ (l : List AskedTxn). l ++ waiting_at waiting at) (for_here place job)
    ∙ ap (λ (l : List AskedTxn). asked ∷ l) none))
    (λ other differs.
    ap (λ (l : List AskedTxn). waiting_at waiting other ++ l) (asked_other at other place txn differs)
    ∙ append-nil (waiting_at waiting other)
    ∙ ap (λ (l : List AskedTxn). l ++ waiting_at waiting other) (sym (for_other place job other differs)))

-- a list that has nothing
pub none_waits : {X : Type 0} (xs : List X) → (0 < length xs → ⊥) → xs ≡ []
none_waits [] none = refl
none_waits (x ∷ xs) none = absurd (none (omega arith))

-- the job of a line is settled without a line, if there is its partition
pub job_settled : (parts : ℕ) (moving : Option MoveProgress) (standing : Standing) (at : ℕ) (place : LinePlace) (txn : TxnValue) → at < parts
    → SettlesEach parts moving standing (fed.Line place (Ok (asks.Job at txn)) ∷ []) [] []
job_settled parts moving standing at place txn within =
    settles_one parts moving standing (fed.Line place (Ok (asks.Job at txn))) [] [] (λ inside. refl, λ beyond. absurd (omega (arith, within, beyond)), refl)

-- and by its refusal, if there is not
pub job_refused : (at : ℕ) (place : LinePlace) (txn : TxnValue) (a b : ServeDeskValue) → length a.waiting ≤ at
    → WritesBytes (other_line (Answered (refusal_of 219 place txn))) a b → Handles (fed.Line place (Ok (asks.Job at txn)) ∷ []) [] a [] b
job_refused at place txn a b beyond says =
    answers_one (fed.Line place (Ok (asks.Job at txn))) (Answered (refusal_of 219 place txn)) a b says
    (λ inside. absurd (omega (arith, beyond, inside)), λ over. refl, refl)
    (λ part within.
    let asked : AskedTxn = record { place = place; txn = txn } in
    ap (λ (b : Bool). if b then asked ∷ [] else [])
    (ne_eqb at part (λ same. let e : at ≡ part = same in absurd (omega (arith, e, within, beyond)))))

-- the answer to a line with a fault of its own
pub other_answers : (place : LinePlace) (id : Option ℕ) (why : ServeFault) (number : ℕ) → number ≡ serve_fault_number why
    → (why ≡ Memory → ⊥) → ((plan : PlanFault) → why ≡ Plan plan → ⊥)
    → AnswersFault place id why (Answered (Fault number place.line id) ∷ [])
other_answers place id NotAServeLine number is no_memory no_plan =
    ap (λ (n : ℕ). Answered (Fault n place.line id) ∷ []) is
other_answers place id TooLong number is no_memory no_plan =
    ap (λ (n : ℕ). Answered (Fault n place.line id) ∷ []) is
other_answers place id (Txn fault) number is no_memory no_plan =
    ap (λ (n : ℕ). Answered (Fault n place.line id) ∷ []) is
other_answers place id (Plan fault) number is no_memory no_plan = absurd (no_plan fault refl)
other_answers place id Memory number is no_memory no_plan = absurd (no_memory refl)

-- a line with a fault is answered by it
pub fault_answered : (place : LinePlace) (faulty : FaultyLine) (number : ℕ) (a b : ServeDeskValue) → number ≡ serve_fault_number faulty.fault
    → (faulty.fault ≡ Memory → ⊥) → ((plan : PlanFault) → faulty.fault ≡ Plan plan → ⊥)
    → WritesBytes (other_line (Answered (Fault number place.line faulty.id))) a b
    → Handles (fed.Line place (Err faulty) ∷ []) [] a [] b
fault_answered place faulty number a b is no_memory no_plan says =
    answers_one (fed.Line place (Err faulty)) (Answered (Fault number place.line faulty.id)) a b says
    (other_answers place faulty.id faulty.fault number is no_memory no_plan, refl) (λ part within. refl)

-- a line whose plan has a fault is refused
pub plan_refused : (place : LinePlace) (faulty : FaultyLine) (plan : PlanFault) (number : ℕ) (a b : ServeDeskValue)
    → faulty.fault ≡ Plan plan → number ≡ serve_fault_number faulty.fault → WritesBytes (other_line (Refused number)) a b
    → Handles (fed.Line place (Err faulty) ∷ []) [] a [] b
plan_refused place faulty plan number a b why is says =
    let Answers : ServeFault → Type 0 = λ fault. AnswersFault place faulty.id fault (Refused number ∷ []) in
    let own : number ≡ plan_fault_number plan = is ∙ ap serve_fault_number why in
    answers_one (fed.Line place (Err faulty)) (Refused number) a b says
    (subst Answers (sym why) (ap (λ (n : ℕ). Refused n ∷ []) own), refl) (λ part within. refl)

-- a wish that is kept or refused isn't heard
pub wish_unheard : (wish : Wish) (bytes : List ℕ) (a b : ServeDeskValue) → KeepsWish wish a b ⊎ WritesBytes bytes a b → b.heard ≡ a.heard
wish_unheard wish bytes a b did =
    ⊎_elim (λ keeps. ap (λ (d : ServeDeskValue). d.heard) keeps) (λ says. says.heard) did

-- a move of a line is kept at once, or after the others that wait, or refused
pub move_wanted : (asked : AskedMove) (waiting : ℕ) (a b : ServeDeskValue) → WantsMove asked waiting a b
    → Handles (fed.Line asked.place (Ok (asks.Move asked.plan)) ∷ []) [] a [] b
move_wanted asked waiting a b did =
    let given : Fed = fed.Line asked.place (Ok (asks.Move asked.plan)) in
    ⊎_elim
    (λ keeps. keeps_one given (wish.Move asked) a b keeps (asked.limit, inl (inl (refl, refl))) (λ part within. refl))
    (λ other.
    ⊎_elim
    (λ waits.
    ⊎_elim
    (λ queues.
    answers_changed given (Answered (Queued waiting)) (Keeps (wish.Move asked) ∷ []) (a.wishes ++ wish.Move asked ∷ []) a.ended a b queues refl
    (asked.limit, inr (waiting, refl, refl)) (λ part within. refl) (λ heard knows. knows_more a.is_strict heard (given ∷ []) a.ended knows))
    (λ stops. stopped_handles (given ∷ []) [] [] a b stops)
    waits)
    (λ says. answers_one given (Refused 217) a b says (asked.limit, inl (inr (refl, refl))) (λ part within. refl))
    other)
    did

pub move_unheard : (asked : AskedMove) (waiting : ℕ) (a b : ServeDeskValue) → WantsMove asked waiting a b → b.heard ≡ a.heard
move_unheard asked waiting a b did =
    ⊎_elim (λ keeps. ap (λ (d : ServeDeskValue). d.heard) keeps)
    (λ other. ⊎_elim (λ waits. ⊎_elim (λ queues. queues.heard) (λ stops. stops.heard) waits) (λ says. says.heard) other)
    did

-- the move that waits last is dropped, if one waits
pub drop_answered : (place : LinePlace) (queue : List AskedMove) (a b : ServeDeskValue) → DropsLast queue a b
    → Handles (fed.Line place (Ok asks.Drop) ∷ []) [] a [] b
drop_answered place queue a b did =
    ⊎_elim
    (λ some.
    let drops = some.3 in
    answers_changed (fed.Line place (Ok asks.Drop)) (Answered (Dropped (length some.1))) (Drops some.0 ∷ []) drops.rest a.ended a b
    drops.writes (drops.rest, drops.dropped, refl) (inl (some.0, length some.1, refl, refl)) (λ part within. refl)
    (λ heard knows. knows_more a.is_strict heard (fed.Line place (Ok asks.Drop) ∷ []) a.ended knows))
    (λ none. answers_one (fed.Line place (Ok asks.Drop)) (Answered NothingQueued) a b none.1 (inr (refl, refl)) (λ part within. refl))
    did

pub drop_unheard : (queue : List AskedMove) (a b : ServeDeskValue) → DropsLast queue a b → b.heard ≡ a.heard
drop_unheard queue a b did = ⊎_elim (λ some. some.3.writes.heard) (λ none. none.1.heard) did

-- the status
pub status_answered : (place : LinePlace) (unanswered : ℕ) (a b : ServeDeskValue) → WritesStatus unanswered a b
    → Handles (fed.Line place (Ok asks.Status) ∷ []) [] a [] b
status_answered place unanswered a b did =
    answers_one (fed.Line place (Ok asks.Status)) (StatusTold did.0 did.1) a b did.4
    (did.2.0, did.2.2, did.1, did.3, ap (λ (answer : ServeAnswer). StatusTold answer did.1 ∷ []) did.2.3, refl)
    (λ part within. refl)

-- the status as JSON
pub json_answered : (place : LinePlace) (a b : ServeDeskValue) → WritesJson a b
    → Handles (fed.Line place (Ok asks.StatusJson) ∷ []) [] a [] b
json_answered place a b did =
    answers_one (fed.Line place (Ok asks.StatusJson)) (JsonTold did.0) a b did.2 (did.0, did.1, refl, refl) (λ part within. refl)

-- how many pumps claim, or the fault of a line that names too many
pub pumps_answered : (place : LinePlace) (count most : ℕ) (a b : ServeDeskValue) → (count ≤ most → WritesBytes (serve_answer_line (Pumps count)) a b)
    → (most < count → WritesBytes (serve_answer_line (Fault 126 place.line None)) a b)
    → Handles (fed.Line place (Ok (asks.Pumps count)) ∷ []) [] a [] b
pumps_answered place count most a b some fault =
    ⊎_elim
    (λ more.
    answers_one (fed.Line place (Ok (asks.Pumps count))) (Answered (Fault 126 place.line None)) a b (fault more) (inr refl, refl)
    (λ part within. refl))
    (λ within.
    answers_one (fed.Line place (Ok (asks.Pumps count))) (Answered (Pumps count)) a b (some within) (inl refl, refl) (λ part inside. refl))
    (cases_lt most count)

pub pumps_unheard : (place : LinePlace) (count most : ℕ) (a b : ServeDeskValue) → (count ≤ most → WritesBytes (serve_answer_line (Pumps count)) a b)
    → (most < count → WritesBytes (serve_answer_line (Fault 126 place.line None)) a b) → b.heard ≡ a.heard
pumps_unheard place count most a b some fault = ⊎_elim (λ more. (fault more).heard) (λ within. (some within).heard) (cases_lt most count)

-- the most bytes of a chunk, or the fault of a limit that chunks can't have
pub chunk_answered : (place : LinePlace) (bytes : ℕ) (a b : ServeDeskValue) → WritesBytes (serve_answer_line (chunk_answer place bytes)) a b
    → Handles (fed.Line place (Ok (asks.Chunk bytes)) ∷ []) [] a [] b
chunk_answered place bytes a b did =
    answers_one (fed.Line place (Ok (asks.Chunk bytes))) (Answered (chunk_answer place bytes)) a b did (refl, refl) (λ part within. refl)

-- the owner of a root key by the plan in force
pub owner_answered : (place : LinePlace) (root : ℕ) (a b : ServeDeskValue) → WritesOwner root a b
    → Handles (fed.Line place (Ok (asks.Owner root)) ∷ []) [] a [] b
owner_answered place root a b did =
    answers_one (fed.Line place (Ok (asks.Owner root))) (Answered (Owner root (owner a.standing.plan root))) a b did (refl, refl)
    (λ part within. refl)

-- a wish was taken
pub wish_speaks : (taken : Option Wish) (a b : ServeDeskValue) → TakesWish taken a b → Speaks a b
wish_speaks taken a b is =
    subst (λ (d : ServeDeskValue). Speaks a d) (sym is.rest)
    (record {
      goes_on = λ still. still;
      writes_on = λ still. still;
      others = [];
      written = λ still. appends_none a.written;
      heard = refl;
      waiting = refl;
      answered = refl;
      strict = refl;
      ended = λ heard knows. knows;
    })

pub no_wish_taken : (a b : ServeDeskValue) → TakesWish None a b → b ≡ a
no_wish_taken a b is = is.rest ∙ ap (λ (w : List Wish). record a { wishes = w }) (sym is.wishes)
