-- What a desk writes over all that happens.
use Rattle.std.proofs.Common.{◌≡◌, ⊎_elim, inl, inr, ℕ, Bool, List, [], ◌∷◌, ◌++◌, length, map, refl, sym, ap, subst, ◌∙◌, append-nil}
use Rattle.std.specs.Prelude.{Some}
use Rattle.std.specs.List.{flat_map}
use Rattle.std.specs.Io.KnownBytes.{Appends}
use Rattle.sq_plan.specs.PlanValue.{PlanValue}
use Rattle.sq_results.specs.RowLines.{root_lines}
use Rattle.sq_serving.specs.declared.serve_answer.ServeAnswer.TheVariants.{Rows}
use Rattle.sq_serving.specs.ServeAnswers.{serve_answer_line}
use Rattle.sq_engine.specs.declared.event.Event.{Event}
use Rattle.sq_engine.specs.declared.event.Event.TheVariants.{MovesTo}
use Rattle.sq_engine.specs.Values.{EngineValue}
use Rattle.sq_serving.specs.declared.desk.AskedTxn.{AskedTxn}
use Rattle.sq_serving.specs.declared.desk.Wish.{Wish}
use Rattle.sq_serving.specs.declared.desk.Wish.TheVariants as wish
use Rattle.sq_serving.specs.Saying.{Answered, RowLines, lines_in, rows_told}
use Rattle.sq_serving.specs.Becoming.{ServeDeskValue, Speaks}
use Rattle.sq_serving.specs.Written.{Other, jobs_waiting, WritesEach}
use Rattle.sq_serving.proofs.Desks.{keeps_learn, writes_nothing, wish_speaks}
use Rattle.sq_serving.proofs.DeskEpochs.{none_written, writes_then, others_said, others_tell_none, others_answer_none}
use Rattle.sq_serving.specs.Rows.{TellsRows}
use Rattle.sq_serving.specs.Events.{ServeEvent, Flushed, EpochServed, MoveEnded, Granted, ChangesEngine, WritesOf, Happens, HappenEach, added, all_added}

-- other lines alone
pub speaks_write : (a b : ServeDeskValue) → Speaks a b → WritesEach [] a b
speaks_write a b says =
    record {
      goes_on = says.goes_on;
      writes_on = says.writes_on;
      said = map Other says.others;
      written = λ still.
          subst (Appends a.written b.written) (sym (others_said says.others)) (says.written still);
      answers = others_answer_none says.others;
      told = λ part. others_tell_none part says.others;
      more = [];
      heard = says.heard ∙ sym (append-nil a.heard);
      count = ap (λ (w : List (List AskedTxn)). length w) says.waiting;
      jobs = λ still part within.
          append-nil (jobs_waiting a.waiting part)
          ∙ ap (λ (w : List (List AskedTxn)). jobs_waiting w part) (sym says.waiting);
      strict = λ still. says.strict;
      ended = λ still. keeps_learn a.is_strict a.ended b.ended says.ended;
    }

-- rows
rows_write : (engine : EngineValue) (a b : ServeDeskValue) → TellsRows engine a b → WritesEach [] a b
rows_write engine a b tells =
    let says = tells.told in
    let count = serve_answer_line (Rows (lines_in tells.lines)) in
    let whole : rows_told tells.lines ≡ flat_map root_lines tells.is.sorted ++ (count ++ []) =
    ap (λ (l : List ℕ). l ++ count) tells.is.wrote
    ∙ ap (λ (l : List ℕ). flat_map root_lines tells.is.sorted ++ l) (sym (append-nil count)) in
    record {
      goes_on = says.goes_on;
      writes_on = says.writes_on;
      said = Other (RowLines tells.is.sorted) ∷ Other (Answered (Rows (lines_in tells.lines))) ∷ [];
      written = λ still. subst (Appends a.written b.written) whole (says.written still);
      answers = refl;
      told = λ part. refl;
      more = [];
      heard = says.heard ∙ sym (append-nil a.heard);
      count = ap (λ (w : List (List AskedTxn)). length w) says.waiting;
      jobs = λ still part within.
          append-nil (jobs_waiting a.waiting part)
          ∙ ap (λ (w : List (List AskedTxn)). jobs_waiting w part) (sym says.waiting);
      strict = λ still. says.strict;
      ended = λ still. keeps_learn a.is_strict a.ended b.ended says.ended;
    }

same_writes : (a b : ServeDeskValue) → b ≡ a → WritesEach [] a b
same_writes a b same = subst (WritesEach [] a) (sym same) (none_written a)

-- a move that begins has no answer, and no job
pub move_writes : (plan : PlanValue) (a b : ServeDeskValue) → WritesEach [] a b → WritesEach (MovesTo plan ∷ []) a b
move_writes plan a b writes = record {
  goes_on = writes.goes_on;
  writes_on = writes.writes_on;
  said = writes.said;
  written = writes.written;
  answers = writes.answers;
  told = writes.told;
  more = writes.more;
  heard = writes.heard;
  count = writes.count;
  jobs = writes.jobs;
  strict = writes.strict;
  ended = writes.ended;
}

-- what is written of a wish
wish_writes : (asked : Wish) (engine : EngineValue) (a b : ServeDeskValue) → WritesOf asked engine a b → WritesEach [] a b
wish_writes (wish.Move move) engine a b writes = speaks_write a b writes
wish_writes (wish.Rows rows) engine a b writes =
    ⊎_elim (λ tells. rows_write engine a b tells) (λ says. speaks_write a b says) writes
wish_writes wish.Close engine a b same = same_writes a b same

grant_writes : (asked : Wish) (more : List Event) (old new : EngineValue) (a b : ServeDeskValue) → ChangesEngine asked more old new
    → WritesEach [] a b → WritesEach more a b
grant_writes (wish.Move move) more old new a b changes writes = elim changes [
  | inl begun ↦ subst (λ (list : List Event). WritesEach list a b) (sym begun.1) (move_writes move.plan a b writes)
  | inr stays ↦ subst (λ (list : List Event). WritesEach list a b) (sym stays.1) writes
]
grant_writes (wish.Rows rows) more old new a b changes writes = subst (λ (list : List Event). WritesEach list a b) (sym changes.1) writes
grant_writes wish.Close more old new a b changes writes = subst (λ (list : List Event). WritesEach list a b) (sym changes.1) writes

module _ (saves : List ℕ → List ℕ → Bool → Type 0) where
  happens_write : (event : ServeEvent) (old : EngineValue) (before : ServeDeskValue) (new : EngineValue) (after : ServeDeskValue)
      → Happens saves event old before new after → WritesEach (added event) before after
  happens_write Flushed old before new after is = speaks_write before after (writes_nothing before after is.1)
  happens_write (EpochServed more) old before new after is =
      subst (λ (list : List Event). WritesEach list before after) (sym is.1) is.0.answers.writes
  happens_write MoveEnded old before new after is = speaks_write before after is.2
  happens_write (Granted asked more) old before new after is =
      grant_writes asked more old new before after is.engine
      (writes_then [] [] before is.between after
      (speaks_write before is.between (wish_speaks (Some asked) before is.between is.takes))
      (wish_writes asked new is.between after is.writes))

  pub happen_write : (events : List ServeEvent) (old : EngineValue) (before : ServeDeskValue) (new : EngineValue) (after : ServeDeskValue)
      → HappenEach saves events old before new after → WritesEach (all_added events) before after
  happen_write [] old before new after none = same_writes before after none.1
  happen_write (event ∷ events) old before new after went =
      writes_then (added event) (all_added events) before went.1 after
      (happens_write event old before went.0 went.1 went.2) (happen_write events went.0 went.1 new after went.3)
