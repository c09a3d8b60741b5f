-- What a step of an engine that is served gives.
use Rattle.std.proofs.Common.{◌≡◌, ◌⊎◌, ⊎_elim, inl, inr, ℕ, Bool, true, false, true≢false, List, [], ◌∷◌, ◌++◌, refl, sym, ap, subst, ◌∙◌}
use Rattle.std.specs.Prelude.{Result, Ok, Err, IfOk, IfErr, OnOk, OnErr, Option, Some, IsSome, is_err, unwrap_or}
use Rattle.std.specs.List.{flat_map}
use Rattle.std.proofs.lemmas.Grind.{flat_map-append}
use Rattle.sq_text.proofs.Appending.{both}
use Rattle.sq_plan.specs.PlanValue.{PlanValue}
use Rattle.sq_moves.specs.OpeningValue.{OpeningValue}
use Rattle.sq_engine.specs.declared.engine.NotMoved.{NotMoved}
use Rattle.sq_engine.specs.declared.engine.NotMoved.TheVariants as why
use Rattle.sq_engine.specs.declared.engine.NotEnded.{NotEnded}
use Rattle.sq_engine.specs.declared.engine.NotEnded.TheVariants as unended
use Rattle.sq_engine.specs.declared.engine.Served.{Served}
use Rattle.sq_engine.specs.declared.event.Event.TheVariants.{MovesTo}
use Rattle.sq_engine.specs.declared.serving.EpochEnd.{EpochEnd}
use Rattle.sq_engine.specs.declared.serving.EpochEnd.TheVariants.{Whole}
use Rattle.sq_engine.specs.Values.{AtValue, EngineValue}
use Rattle.sq_engine.specs.Engine.{KeepsOpening, Keeps, HasBegunMove, HasClosed, IsNotMoved, IsNotEnded, rows_at, rows_in}
use Rattle.sq_serving.specs.declared.desk.AskedMove.{AskedMove}
use Rattle.sq_serving.specs.declared.desk.Wish.{Wish}
use Rattle.sq_serving.specs.declared.desk.Wish.TheVariants as wish
use Rattle.sq_serving.specs.declared.ending.ServeEnding.{ServeEnding}
use Rattle.sq_serving.specs.declared.ending.ServeEnding.TheVariants.{Sound, Unsound, NoHeader, Memory, Threads, Unwritten}
use Rattle.sq_serving.specs.declared.ending.InputOutcome.{InputOutcome}
use Rattle.sq_serving.specs.declared.ending.InputOutcome.TheVariants.{Broken}
use Rattle.sq_serving.specs.Becoming.{ServeDeskValue, Speaks, TakesWish}
use Rattle.sq_serving.specs.Ending.{EndsStopped}
use Rattle.sq_serving.specs.InputEnds.{KnowsEnd}
use Rattle.sq_serving.specs.Saying.{other_line}
use Rattle.sq_serving.specs.Written.{EpochIsWritten}
use Rattle.sq_serving.proofs.Desks.{silent, wish_speaks}
use Rattle.sq_serving.specs.Wishes.{RefusesMove, AnswersWish}
use Rattle.sq_serving.specs.Ends.{ClosedEndsBy, IsCleared, EndsBy, HasEndedServing, ClosesWith}
use Rattle.sq_serving.specs.Steps.{IsEndOf, EpochGives, MovesOrLacksMemory, EndsGranting, GrantsTaken, StepGives}
use Rattle.sq_serving.proofs.Served.{ends_now, epoch_served, granted}

-- other lines were written twice
pub speaks_then : (a b c : ServeDeskValue) → Speaks a b → Speaks b c → Speaks a c
speaks_then a b c one two =
    record {
      goes_on = λ still. one.goes_on (two.goes_on still);
      writes_on = λ still. one.writes_on (two.writes_on still);
      others = one.others ++ two.others;
      written = λ still.
          both a.written b.written c.written (flat_map other_line one.others) (flat_map other_line two.others)
          (flat_map other_line (one.others ++ two.others)) (one.written (two.writes_on still)) (two.written still)
          (sym (flat_map-append other_line one.others two.others));
      heard = two.heard ∙ one.heard;
      waiting = two.waiting ∙ one.waiting;
      answered = two.answered ∙ one.answered;
      strict = two.strict ∙ one.strict;
      ended = λ heard knows.
          subst (λ (s : Bool). KnowsEnd s heard c.ended) one.strict
          (two.ended heard (subst (λ (s : Bool). KnowsEnd s heard b.ended) (sym one.strict) (one.ended heard knows)));
    }

-- an engine that is the same, or that kept its opening, has only gone on by itself
pub stays : (old new : EngineValue) → new ≡ old → Keeps old new
stays old new same =
    subst (λ (e : EngineValue). Keeps old e) (sym same) (record { same = refl; plan = refl })

pub opening_kept : (old new : EngineValue) → KeepsOpening old new → Keeps old new
opening_kept old new keeps =
    let opening : new.opening ≡ old.opening = ap (λ (e : EngineValue). e.opening) keeps.same in
    record {
      same = keeps.same ∙ ap (λ (o : OpeningValue). record old { opening = o; at = new.at }) (sym opening);
      plan = ap (λ (o : OpeningValue). o.new) opening;
    }

-- a move that doesn't begin leaves the engine as it is, but that an epoch may have ended
pub not_moved_keeps : (plan : PlanValue) (reason : NotMoved) (old new : EngineValue) → IsNotMoved plan reason old new → Keeps old new
not_moved_keeps plan why.Moving old new is = stays old new is.0
not_moved_keeps plan (why.Plans fault) old new is = stays old new is.0
not_moved_keeps plan why.Memory old new is = opening_kept old new is.0

pub not_ended_keeps : (reason : NotEnded) (old new : EngineValue) → IsNotEnded reason old new → Keeps old new
not_ended_keeps unended.Moving old new is = stays old new is.0
not_ended_keeps unended.Memory old new is = opening_kept old new is.0

-- a move begins, and its lines are written, unless memory runs out for them
pub begun_gives : {A : Type 0} (asked : AskedMove) (old : EngineValue) (before : ServeDeskValue) (result : Result A ServeEnding)
    (new : EngineValue) (after : ServeDeskValue) → HasBegunMove asked.plan asked.limit old new → Speaks before after
    → IfErr result (λ ending. ending ≡ Memory) → MovesOrLacksMemory asked old before result new after
begun_gives asked old before (Ok step) new after begun speaks memory = (inl begun, speaks)
begun_gives asked old before (Err ending) new after begun speaks memory = (memory, inl begun, speaks)

-- a move is refused, or memory ran out
pub refused_gives : {A : Type 0} (asked : AskedMove) (reason : NotMoved) (old : EngineValue) (before : ServeDeskValue) (result : Result A ServeEnding)
    (new : EngineValue) (after : ServeDeskValue) → IsNotMoved asked.plan reason old new → Speaks before after
    → OnOk result (RefusesMove reason before after) → IfErr result (λ ending. ending ≡ Memory)
    → MovesOrLacksMemory asked old before result new after
refused_gives asked (why.Plans fault) old before (Ok step) new after is speaks refuses memory = (inr is.0, speaks)
refused_gives asked why.Moving old before (Ok step) new after is speaks refuses memory = absurd refuses
refused_gives asked why.Memory old before (Ok step) new after is speaks refuses memory = absurd refuses
refused_gives asked reason old before (Err ending) new after is speaks refuses memory =
    (memory, inr (not_moved_keeps asked.plan reason old new is), speaks)

-- what an epoch gives, by how it ended
pub epoch_gives : {X A E : Type 0} (desk : X → ServeDeskValue) (served : Result Served E) (result : Result A ServeEnding)
    (old : EngineValue) (before : X) (new : EngineValue) (after : X)
    → IfOk served (λ s. EpochIsWritten old (desk before) s.end new (desk after)) → OnErr served (Keeps old new) → OnErr served (after ≡ before)
    → IsEndOf served result → EpochGives old (desk before) result new (desk after)
epoch_gives desk (Ok s) (Ok step) old before new after written keeps same ends =
    subst (λ (end : EpochEnd). EpochIsWritten old (desk before) end new (desk after)) ends written
epoch_gives desk (Ok s) (Err ending) old before new after written keeps same ends = inl (record { how = s.end; is = ends; epoch = written })
epoch_gives desk (Err lack) (Ok step) old before new after written keeps same ends = absurd ends
epoch_gives desk (Err lack) (Err ending) old before new after written keeps same ends = inr (ends, keeps, ap desk same)

-- an engine that is closed lends its rows
pub closed_lends : (old new : EngineValue) → HasClosed old new → IsSome (rows_in new)
closed_lends old new closed = subst (λ (at : AtValue). IsSome (rows_at at)) (sym closed.ends.at) refl

-- how the input ended is what the desk recorded
ends_with : (ended : Option InputOutcome) (input : InputOutcome) (last : EngineValue) (ending : ServeEnding) → input ≡ unwrap_or ended Broken
    → ClosedEndsBy last (Some input) ending → ClosedEndsBy last ended ending
ends_with ended input last (Sound families committed told) is by = (by.0, by.1, by.2 ∙ is)
ends_with ended input last (Unsound defect) is by = by
ends_with ended input last (NoHeader fault) is by = by
ends_with ended input last Memory is by = by
ends_with ended input last Threads is by = by
ends_with ended input last Unwritten is by = by

-- an engine was closed at a desk, or memory ran out
pub closes_with : (ending : ServeEnding) (old last : EngineValue) (desk : ServeDeskValue) (input : InputOutcome) → IsCleared desk
    → input ≡ unwrap_or desk.ended Broken
    → (HasClosed old last × ClosedEndsBy last (Some input) ending) ⊎ ((ending ≡ Memory) × Keeps old last) → ClosesWith ending old last desk
closes_with ending old last desk input cleared is by =
    ⊎_elim (λ closed. inl (closed.0, ends_with desk.ended input last ending is closed.1, cleared)) (λ memory. inr (inr memory)) by

-- a wish to move rows, and one to close
pub move_grants : {A : Type 0} (asked : AskedMove) (old : EngineValue) (before : ServeDeskValue) (result : Result A ServeEnding)
    (new : EngineValue) (after : ServeDeskValue) → MovesOrLacksMemory asked old before result new after
    → GrantsTaken (wish.Move asked) old before result new after
move_grants asked old before (Ok step) new after gives =
    ⊎_elim (λ begun. (MovesTo asked.plan ∷ [], inl (begun, refl), gives.1)) (λ same. ([], inr (same, refl), gives.1)) gives.0
move_grants asked old before (Err ending) new after gives = gives

pub close_grants : {A : Type 0} (old : EngineValue) (desk : ServeDeskValue) (result : Result A ServeEnding) (new : EngineValue)
    → OnOk result (new ≡ old) → IfErr result (λ ending. ClosesWith ending old new desk) → GrantsTaken wish.Close old desk result new desk
close_grants old desk (Ok step) new same ends = ([], (same, refl), refl)
close_grants old desk (Err ending) new same ends = (ends, refl)

-- how an engine ends that doesn't grant a wish
grant_ends : (asked : Wish) (ending : ServeEnding) (old : EngineValue) (before between : ServeDeskValue) (new : EngineValue)
    (after : ServeDeskValue) → TakesWish (Some asked) before between → EndsGranting asked ending old between new after
    → EndsBy ending old before new after
grant_ends (wish.Move asked) ending old before between new after takes ends =
    let speaks = speaks_then before between after (wish_speaks (Some (wish.Move asked)) before between takes) ends.2 in
    inr (inr (inl (ends.0, speaks, ⊎_elim (λ begun. inr (asked, between, takes, begun)) (λ keeps. inl keeps) ends.1)))
grant_ends (wish.Rows asked) ending old before between new after takes ends = absurd ends
grant_ends wish.Close ending old before between new after takes ends =
    let taken : TakesWish (Some wish.Close) before after =
    subst (λ (d : ServeDeskValue). TakesWish (Some wish.Close) before d) (sym ends.1) takes in
    let speaks = wish_speaks (Some wish.Close) before after taken in
    ⊎_elim
    (λ closed. inl (record { takes = taken; cleared = closed.2; closed = closed.0; ends = closed.1 }))
    (λ others. ⊎_elim
    (λ stopped. inr (inr (inr (stopped.0, stopped.1, stopped.2, speaks))))
    (λ memory. inr (inr (inl (memory.0, speaks, inl memory.1)))) others)
    ends.0

module _ (saves : List ℕ → List ℕ → Bool → Type 0) where
  -- the desk has stopped, or memory ran out
  pub stops_at_desk : (ending : ServeEnding) (engine : EngineValue) (desk : ServeDeskValue) → EndsStopped ending → desk.has_stopped ≡ true
      → HasEndedServing saves engine desk ending engine desk
  stops_at_desk ending engine desk ends stopped =
      ends_now saves engine desk ending engine desk (inr (inr (inr (ends, refl, stopped, silent desk desk refl))))

  pub lacks_memory : (ending : ServeEnding) (old : EngineValue) (before : ServeDeskValue) (new : EngineValue) (after : ServeDeskValue)
      → ending ≡ Memory → Keeps old new → Speaks before after → HasEndedServing saves old before ending new after
  lacks_memory ending old before new after memory keeps speaks =
      ends_now saves old before ending new after (inr (inr (inl (memory, speaks, inl keeps))))

  -- an epoch is a step
  pub epoch_steps : {A : Type 0} (old : EngineValue) (before : ServeDeskValue) (result : Result A ServeEnding) (new : EngineValue)
      (after : ServeDeskValue) → EpochGives old before result new after → StepGives saves old before result new after
  epoch_steps old before (Ok step) new after epoch = epoch_served saves old before new after epoch
  epoch_steps old before (Err ending) new after gives =
      ⊎_elim
      (λ ends. ends_now saves old before ending new after (inr (inl ends)))
      (λ lacks. lacks_memory ending old before new after lacks.0 lacks.1 (silent before after lacks.2))
      gives

  -- an epoch in which the engine didn't end
  pub epoch_goes_on : {A : Type 0} (old : EngineValue) (before : ServeDeskValue) (result : Result A ServeEnding) (new : EngineValue)
      (after : ServeDeskValue) → is_err result ≡ false → EpochGives old before result new after → EpochIsWritten old before Whole new after
  epoch_goes_on old before (Ok step) new after goes epoch = epoch
  epoch_goes_on old before (Err ending) new after goes gives = absurd (true≢false goes)

  -- the wish that was taken is granted, or the engine has ended
  pub wish_steps : {A : Type 0} (asked : Wish) (old : EngineValue) (before between : ServeDeskValue) (result : Result A ServeEnding)
      (new : EngineValue) (after : ServeDeskValue) → TakesWish (Some asked) before between → GrantsTaken asked old between result new after
      → OnOk result (AnswersWish saves asked old between new after) → StepGives saves old before result new after
  wish_steps asked old before between (Ok step) new after takes grants answers =
      granted saves asked grants.0 old before new after
      (record { between = between; takes = takes; engine = grants.1; answers = answers; writes = grants.2 })
  wish_steps asked old before between (Err ending) new after takes grants answers =
      ends_now saves old before ending new after (grant_ends asked ending old before between new after takes grants)
