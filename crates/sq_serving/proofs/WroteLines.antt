-- What an engine wrote that was served, whatever its ending.
use Rattle.std.proofs.Common.{◌≡◌, ◌⊎◌, ⊎_elim, inl, inr, ℕ, ◌<◌, ◌^◌, Bool, true, false, if◌then◌else◌, List, [], ◌++◌, refl, sym, ap, subst, ◌∙◌, arith}
use Rattle.std.specs.Prelude.{Option, None, Some, is_some, unwrap_or}
use Rattle.std.specs.List.{flat_map}
use Rattle.std.specs.Io.KnownBytes.{Appends}
use Rattle.sq_node_model.specs.NodeValue.{ReceiptValue}
use Rattle.sq_text.proofs.Appending.{both}
use Rattle.sq_moves.specs.OpeningValue.{OpeningValue, unlimited}
use Rattle.sq_engine.specs.Events.{answers_in}
use Rattle.sq_engine.specs.Ending.{commits_in}
use Rattle.sq_engine.specs.Values.{EngineValue}
use Rattle.sq_serving.specs.declared.ending.InputOutcome.{InputOutcome}
use Rattle.sq_serving.specs.declared.ending.InputOutcome.TheVariants.{Broken}
use Rattle.sq_serving.specs.declared.ending.ServeEnding.{ServeEnding}
use Rattle.sq_serving.specs.declared.ending.ServeEnding.TheVariants.{Sound, Unsound, NoHeader, Memory, Threads, Unwritten}
use Rattle.sq_serving.specs.declared.feed.Fed.{Fed}
use Rattle.sq_serving.specs.declared.outlet.Outlet.{Outlet}
use Rattle.sq_serving.specs.Becoming.{ServeDeskValue}
use Rattle.sq_serving.specs.InputEnds.{KnowsEnd}
use Rattle.sq_serving.specs.Written.{SaidLine, receipts_said, said_line}
use Rattle.sq_serving.specs.Ends.{HasEndedServing}
use Rattle.sq_serving.specs.Planned.{IsServedFrom}
use Rattle.sq_serving.specs.Telling.{IsLineOfEnding}
use Rattle.sq_serving.specs.Service.{first_desk, SoundAsPlanned, EngineServes, ServesSome, ServesWriter, CountsCommits, TookInput, Service, OnlyEnds, Serves}
use Rattle.sq_serving.proofs.Ended.{sound_closes}

-- the commits that a sound ending counts are those of the lines that were written
counts_commits : (o : OpeningValue) (ending : ServeEnding) (last : EngineValue) (said : List SaidLine)
    → receipts_said said ≡ answers_in last.jobs.events → SoundAsPlanned o ending last → CountsCommits ending said
counts_commits o (Sound families committed input) last said all sound =
    λ few.
    let same : commits_in (receipts_said said) ≡ commits_in (answers_in last.jobs.events) =
    ap (λ (receipts : List ReceiptValue). commits_in receipts) all in
    sound.commits (subst (λ (n : ℕ). n < 2 ^ 64) same few) ∙ sym same
counts_commits o (Unsound defect) last said all sound = tt
counts_commits o (NoHeader fault) last said all sound = tt
counts_commits o Memory last said all sound = tt
counts_commits o Threads last said all sound = tt
counts_commits o Unwritten last said all sound = tt

-- a recorded end is the one that is told
recorded : (ended : Option InputOutcome) (input : InputOutcome) → is_some ended ≡ true → input ≡ unwrap_or ended Broken → ended ≡ Some input
recorded (Some outcome) input some is = ap (λ (o : InputOutcome). Some o) (sym is)
recorded None input some is = absurd (false_is_true some)
  where
    false_is_true : false ≡ true → ⊥
    false_is_true e = cc

module _ (saves : List ℕ → List ℕ → Bool → Type 0) where
  -- how far the input was taken of an engine that ended sound
  took_input : (strict : Bool) (o : OpeningValue) (ending : ServeEnding) (engine : EngineValue) (before : ServeDeskValue) (last : EngineValue)
      (after : ServeDeskValue) → before.heard ≡ [] → before.ended ≡ None → before.is_strict ≡ strict
      → IsServedFrom o before last after → HasEndedServing saves engine before ending last after → TookInput strict after.heard ending
  took_input strict o (Sound families committed input) engine before last after none_heard goes_on is_strict from ended =
      let closes = sound_closes families committed input ended.served ended.between last after ended.ends in
      let some : is_some after.ended ≡ true =
      ap (λ (d : ServeDeskValue). is_some d.ended) closes.takes.rest ∙ closes.takes.closes.1 in
      let told : after.ended ≡ Some input = recorded after.ended input some closes.ends.2 in
      let knows : KnowsEnd before.is_strict ([] ++ from.writes.more) after.ended =
      from.writes.ended closes.cleared.still [] (subst (λ (e : Option InputOutcome). KnowsEnd before.is_strict [] e) (sym goes_on) tt) in
      let heard : [] ++ from.writes.more ≡ after.heard =
      sym (from.writes.heard ∙ ap (λ (l : List Fed). l ++ from.writes.more) none_heard) in
      subst (λ (s : Bool). KnowsEnd s after.heard (Some input)) is_strict
      (subst (λ (e : Option InputOutcome). KnowsEnd before.is_strict after.heard e) told
      (subst (λ (h : List Fed). KnowsEnd before.is_strict h after.ended) heard knows))
  took_input strict o (Unsound defect) engine before last after none_heard goes_on is_strict from ended = tt
  took_input strict o (NoHeader fault) engine before last after none_heard goes_on is_strict from ended = tt
  took_input strict o Memory engine before last after none_heard goes_on is_strict from ended = tt
  took_input strict o Threads engine before last after none_heard goes_on is_strict from ended = tt
  took_input strict o Unwritten engine before last after none_heard goes_on is_strict from ended = tt

-- an ending that is told is the engine's, and no write failed; or a write failed
told_so : (told : ServeEnding) (failed : Bool) (ending : ServeEnding) → told ≡ (if failed then Unwritten else ending)
    → ((failed ≡ false) × (ending ≡ told)) ⊎ (told ≡ Unwritten)
told_so told true ending is = inr is
told_so told false ending is = inl (refl, sym is)

module _ {W : Type 0} (strict : Bool) (saves : List ℕ → List ℕ → Bool → Type 0) (contents : W → Option (List ℕ)) where
  -- what the desk of an engine wrote, and then the line of its ending
  served_wrote : (o : OpeningValue) (ending : ServeEnding) (first last end : Outlet W) (text : List ℕ)
      → EngineServes saves contents o (first_desk strict contents first o.new) ending last
      → IsLineOfEnding ending text → last.has_failed ≡ false → Appends (contents last.writer) (contents end.writer) text
      → Service strict saves ending (contents first.writer) (contents end.writer)
  served_wrote o ending first last end text serves is whole told =
      let before = first_desk strict contents first o.new in
      let ended = serves.ended.ended in
      let after = serves.ended.after in
      let writes = serves.served.writes in
      let all = flat_map said_line writes.said in
      record {
        opening = unlimited o;
        engine = serves.engine;
        opened = serves.opened;
        before = before;
        begins = record {
          written = refl;
          none_heard = refl;
          none_waits = refl;
          none_wished = refl;
          rests = refl;
          standing = refl;
          strict_is = refl;
          goes_on = refl;
        };
        last = serves.last;
        after = after;
        ended = ended;
        served = serves.served;
        sound = serves.sound;
        counts = counts_commits (unlimited o) ending serves.last writes.said writes.answers serves.sound;
        took =
            took_input saves strict (unlimited o) ending serves.engine before serves.last after refl refl refl serves.served ended;
        text = text;
        is = is;
        written =
            let wrote : Appends (contents first.writer) (contents last.writer) all =
            subst (λ (now : Option (List ℕ)). Appends (contents first.writer) now all) (sym serves.ended.written)
            (writes.written (sym serves.ended.failed ∙ whole)) in
            both (contents first.writer) (contents last.writer) (contents end.writer) all text (all ++ text) wrote told refl;
      }

  ended_wrote : (ending : ServeEnding) (first last end : Outlet W) (text : List ℕ) → ServesSome strict saves contents first ending last
      → IsLineOfEnding ending text → last.has_failed ≡ false → Appends (contents last.writer) (contents end.writer) text
      → Service strict saves ending (contents first.writer) (contents end.writer) ⊎ OnlyEnds ending (contents first.writer) (contents end.writer)
  ended_wrote ending first last end text some is whole told =
      ⊎_elim
      (λ served. inl (served_wrote served.0 ending first last end text served.1 is whole told))
      (λ none.
      inr (
        none.0,
        text,
        is,
        subst (λ (o : Outlet W). Appends (contents o.writer) (contents end.writer) text) none.1 told,
      ))
      some

  serves_any : (told : ServeEnding) (old new : Option (List ℕ)) → Service strict saves told old new ⊎ OnlyEnds told old new
      → Serves strict saves old new told
  serves_any (Sound families committed input) old new serves = serves
  serves_any (Unsound defect) old new serves = serves
  serves_any (NoHeader fault) old new serves = serves
  serves_any Memory old new serves = serves
  serves_any Threads old new serves = serves
  serves_any Unwritten old new serves = tt

  pub serves_all : (old new : W) (told : ServeEnding) → ServesWriter strict saves contents old new told
      → Serves strict saves (contents old) (contents new) told
  serves_all old new told s =
      subst (λ (w : W). Serves strict saves (contents w) (contents new) told) s.first_writer
      (subst (λ (w : W). Serves strict saves (contents s.first.writer) (contents w) told) s.end_writer
      (⊎_elim
      (λ so.
      subst (λ (e : ServeEnding). Serves strict saves (contents s.first.writer) (contents s.end.writer) e) so.1
      (serves_any s.ending (contents s.first.writer) (contents s.end.writer)
      (ended_wrote s.ending s.first s.last s.end s.tells.text s.served s.tells.is (s.tells.goes_on so.0) (s.tells.written so.0))))
      (λ failed.
      subst (λ (e : ServeEnding). Serves strict saves (contents s.first.writer) (contents s.end.writer) e) (sym failed) tt)
      (told_so told s.end.has_failed s.ending s.tells.told_is)))
