-- A script, line by line.
use Rattle.std.proofs.Common.{◌≡◌, ℕ, Bool, List, [], ◌∷◌, ◌++◌, Option, inl, inr, refl, sym, ap, ◌∙◌, subst, append_assoc, None}
use Rattle.std.specs.Prelude.{◌+◌, true, Some, Result, Ok, Err, IfOk, OnOk}
use Rattle.std.specs.Io.KnownBytes.{Appends, Keeps}
use Rattle.sq_moves.specs.OpeningValue.{OpeningValue}
use Rattle.sq_model.specs.declared.step.Step.{Step}
use Rattle.sq_model.specs.declared.answer.Answer.{Answer}
use Rattle.sq_model.specs.Trace.{Trace}
use Rattle.sq_moves.specs.Opening.{IsOpening}
use Rattle.sq_model.specs.Legal.{IsLegal}
use Rattle.sq_transition.specs.WorldValue.{WorldValue}
use Rattle.sq_transition.specs.Holds.{Holds}
use Rattle.sq_transition.specs.Headline.{KeepsHeadline}
use Rattle.sq_text.specs.declared.located.InputLine.TheVariants.{Later}
use Rattle.sq_text.specs.declared.located.LocatedFault.{LocatedFault}
use Rattle.sq_text.specs.Located.{located}
use Rattle.sq_text.specs.declared.input_fault.InputFault.TheVariants.{TooLong, ReadFailed}
use Rattle.sq_text.specs.declared.fault.LineFault.{LineFault}
use Rattle.sq_text.specs.declared.fault.LineFault.TheVariants as faults
use Rattle.sq_text.specs.Steps.{step_of, begins_txn}
use Rattle.sq_text.specs.Words.{words_of}
use Rattle.sq_text.specs.Faults.{line_fault_number, IsStep}
use Rattle.sq_text.specs.declared.buffer.TheConstants.{MAX_UNENDED}
use Rattle.sq_text.specs.declared.reader.TheConstants.{MAX_LINES}
use Rattle.sq_text.specs.Pieces.{PieceValue, Line, Rest, Failed, Endless, TooMany, next_line_number}
use Rattle.sq_text.specs.Coming.{LinesValue, CanCome, CameBefore, IsLong}
use Rattle.sq_text.proofs.Comings.{some_pieces}
use Rattle.sq_text.proofs.Lengths.{is_endless}
use Rattle.sq_text.proofs.Appending.{both, kept}
use Rattle.sq_world.specs.declared.ending.Ending.{Ending}
use Rattle.sq_world.specs.declared.ending.Ending.TheVariants.{Done}
use Rattle.sq_world.specs.declared.ending.ScriptManner.{ScriptManner}
use Rattle.sq_world.specs.Dump.{dump}
use Rattle.sq_world.specs.Echo.{answer_text, refused_text, refusal_in}
use Rattle.sq_world.specs.Run.{Writes, GoesOnBehind, IsDumped, IsFault, EndsAtFault, AnswersLine, stopping, ending_at}
use Rattle.sq_world.specs.Script.{LeadsTo, AreSpelled, Continues, IsAnswered, EndsWithDump, IsWritten, AnswersWorld, RunsScript}
use Rattle.sq_world.proofs.Dumps.{nothing}

-- a line appends a step that it spells, or none
line_spelled : (echoes : Bool) (o : OpeningValue) (t : Trace) (line : List ℕ) (after : Trace) (text : List ℕ) (refused : Option ℕ) → AnswersLine echoes o t line after text refused → AreSpelled o.tables t → AreSpelled o.tables after
line_spelled echoes o t line after text refused (inl is) so_far = subst (AreSpelled o.tables) (sym is.goes_on) ((line, is.spelled), so_far)
line_spelled echoes o t line after text refused (inr (inl is)) so_far = subst (AreSpelled o.tables) (sym is.stays) so_far
line_spelled echoes o t line after text refused (inr (inr is)) so_far = subst (AreSpelled o.tables) (sym is.stays) so_far

module _ (manner : ScriptManner) where
  -- the line spells a step, which is answered
  pub stepped : (o : OpeningValue) (t : Trace) (tables : ℕ) (line : List ℕ) (step : Step) (given : Answer) (before now : Option (List ℕ)) (w new : WorldValue) → LeadsTo o t w → o.tables ≡ tables → Ok step ≡ step_of tables line
      → KeepsHeadline o ((step, given) ∷ t) new → Appends before now (answer_text manner.echoes line given) → (refused : Option ℕ) → refused ≡ refusal_in given → IsAnswered manner.echoes o t line before now new refused
  stepped o t tables line step given before now w new leads same spelled goes written refused is =
      record {
        after = (step, given) ∷ t;
        text = answer_text manner.echoes line given;
        answers_line = inl (record { step = step; given = given; spelled = ap (λ k. step_of k line) same ∙ sym spelled; answered = goes.legal.0; goes_on = refl; says = refl; refuses = is });
        leads = record { is_opening = leads.is_opening; legal = goes.legal; holds = goes.holds };
        written = written;
      }

  -- what was written so far of a script whose lines began so, where these are its lines now
  pub record Before (o : OpeningValue) (t : Trace) (begin lines : LinesValue) (first now : Option (List ℕ)) (w : WorldValue) : Type 0 where
    pub so_far : List ℕ
    pub here : Trace
    pub leads : LeadsTo o here w
    pub spelled : AreSpelled o.tables t → AreSpelled o.tables here
    pub written : Appends first now so_far
    pub goes_on : (left : List PieceValue) (later : List ℕ) (ending : Ending) → CanCome lines left → Writes manner o here left later ending → (all : List PieceValue) × CanCome begin all × Writes manner o t all (so_far ++ later) ending

  pub begun : (o : OpeningValue) (t : Trace) (begin : LinesValue) (first : Option (List ℕ)) (w : WorldValue) → LeadsTo o t w → Before o t begin begin first first w
  begun o t begin first w leads = record { so_far = []; here = t; leads = leads; spelled = λ all. all; written = nothing first; goes_on = λ left later ending can writes. (left, can, writes) }

  -- a line more
  pub on_line : (o : OpeningValue) (t : Trace) (begin was lines : LinesValue) (first mid now : Option (List ℕ)) (w new : WorldValue) (b : Before o t begin was first mid w) (refused : Option ℕ) → CameBefore was (Line (next_line_number was.lines_left) lines.piece) lines
      → IsAnswered manner.echoes o b.here lines.piece mid now new refused → stopping manner refused ≡ None → Before o t begin lines first now new
  on_line o t begin was lines first mid now w new b refused came answered on =
      record {
        so_far = b.so_far ++ answered.text;
        here = answered.after;
        leads = answered.leads;
        spelled = λ all. line_spelled manner.echoes o b.here lines.piece answered.after answered.text refused answered.answers_line (b.spelled all);
        written = both first mid now b.so_far answered.text _ b.written answered.written refl;
        goes_on = λ left later ending can writes.
            let line = next_line_number was.lines_left in
            let goes : GoesOnBehind (stopping manner refused) line o answered.after later ending (Writes manner o answered.after left later ending) = subst (λ (s : Option ℕ). GoesOnBehind s line o answered.after later ending (Writes manner o answered.after left later ending)) (sym on) writes in
            let all = b.goes_on (Line line lines.piece ∷ left) (answered.text ++ later) ending (can.0, came can.0 left can.1) (answered.after, answered.text, later, refused, answered.answers_line, refl, goes) in
            (all.0, all.1, subst (λ out. Writes manner o t all.0 out ending) (sym (append_assoc b.so_far answered.text later)) all.2);
      }

  -- more was read, and what was written went out
  pub on_read : (o : OpeningValue) (t : Trace) (begin was lines : LinesValue) (first mid now : Option (List ℕ)) (w : WorldValue) → Before o t begin was first mid w → Keeps mid now → ((ps : List PieceValue) → CanCome lines ps → CanCome was ps) → Before o t begin lines first now w
  on_read o t begin was lines first mid now w b keeps before =
      record { so_far = b.so_far; here = b.here; leads = b.leads; spelled = b.spelled; written = kept first mid now b.so_far b.written keeps; goes_on = λ left later ending can writes. b.goes_on left later ending (before left can) writes }

  -- a run that ends so comes to its dump
  dumps : (stop : Option ℕ) (line : ℕ) (before now : Option (List ℕ)) (w : WorldValue) (ending : Ending) (answers : List ℕ) → ending ≡ ending_at stop line → Appends before now (answers ++ dump w) → EndsWithDump w before now ending
  dumps None line before now w ending answers is written = subst (EndsWithDump w before now) (sym is) (answers, written)
  dumps (Some number) line before now w ending answers is written = subst (EndsWithDump w before now) (sym is) (answers, written)

  -- a world that the lines so far lead to
  so_far_led : (o : OpeningValue) (t : Trace) (begin was : LinesValue) (first mid : Option (List ℕ)) (w : WorldValue) → Before o t begin was first mid w → Continues o t w
  so_far_led o t begin was first mid w b = record { history = b.here; leads = b.leads; spelled = b.spelled }

  -- the end of the run, where this comes last
  ended_by : (o : OpeningValue) (t : Trace) (begin was : LinesValue) (left : List PieceValue) (out : List ℕ) (ending : Ending) (first mid now : Option (List ℕ)) (w new : WorldValue) (b : Before o t begin was first mid w) → CanCome was left → Writes manner o b.here left out ending → Appends mid now out
      → (Appends first now (b.so_far ++ out) → EndsWithDump new first now ending) → Continues o t new → IsWritten manner o t begin first now new ending
  ended_by o t begin was left out ending first mid now w new b can writes written dumped continues =
      let all = b.goes_on left out ending can writes in
      let whole : Appends first now (b.so_far ++ out) = both first mid now b.so_far out _ b.written written refl in
      record { pieces = all.0; can_come = all.1; out = b.so_far ++ out; writes = all.2; written = whole; dumped = dumped whole; continues = continues }

  abbrev AllBefore : ℕ → LinesValue → LinesValue → Option (List ℕ) → Option (List ℕ) → WorldValue → WorldValue → Type 0
  AllBefore tables begin was first mid start w = (o : OpeningValue) (t : Trace) → LeadsTo o t start → o.tables ≡ tables → Before o t begin was first mid w

  -- the end of the script
  pub at_end : {E : Type 0} (r : Result Ending E) (tables : ℕ) (begin was : LinesValue) (first mid now : Option (List ℕ)) (start w : WorldValue) → AllBefore tables begin was first mid start w → CanCome was []
      → IfOk r (λ ending. ending ≡ Done) → OnOk r (Appends mid now (dump w)) → IfOk r (RunsScript manner tables start w begin first now)
  at_end (Err e) tables begin was first mid now start w before none is written = tt
  at_end (Ok ending) tables begin was first mid now start w before none is written =
      λ o t leads same. let b = before o t leads same in ended_by o t begin was [] (dump w) ending first mid now w w b none (record { world = w; holds = b.leads.holds; says = refl }, is) written
      (dumps None 0 first now w ending b.so_far is)
      (so_far_led o t begin was first mid w b)

  -- the last line, behind which a run ends
  last_of : (stop : Option ℕ) (line : ℕ) (o : OpeningValue) (t : Trace) (out : List ℕ) (ending : Ending) → IsDumped o t out → ending ≡ ending_at stop line → GoesOnBehind stop line o t out ending (IsDumped o t out × (ending ≡ Done))
  last_of None line o t out ending dumped is = (dumped, is)
  last_of (Some number) line o t out ending dumped is = (dumped, is)

  -- a line that was refused, behind which the run ends
  pub at_stop : {E : Type 0} (r : Result Ending E) (tables : ℕ) (begin was lines : LinesValue) (line number : ℕ) (refused : Option ℕ) (first mid said now : Option (List ℕ)) (start w new : WorldValue) → AllBefore tables begin was first mid start w → CameBefore was (Line (next_line_number was.lines_left) lines.piece) lines
      → ((o : OpeningValue) (t : Trace) → LeadsTo o t w → o.tables ≡ tables → IsAnswered manner.echoes o t lines.piece mid said new refused)
      → stopping manner refused ≡ Some number → line ≡ next_line_number was.lines_left → IfOk r (λ ending. ending ≡ ending_at (Some number) line) → OnOk r (Appends said now (dump new)) → IfOk r (RunsScript manner tables start new begin first now)
  at_stop (Err e) tables begin was lines line number refused first mid said now start w new before came answers stop here is written = tt
  at_stop (Ok ending) tables begin was lines line number refused first mid said now start w new before came answers stop here is written =
      λ o t leads same.
      let b = before o t leads same in
      let answered = answers o b.here b.leads same in
      let some = some_pieces lines in
      let dumped : IsDumped o answered.after (dump new) = record { world = new; holds = answered.leads.holds; says = refl } in
      let place = next_line_number was.lines_left in
      let goes : GoesOnBehind (stopping manner refused) place o answered.after (dump new) ending (Writes manner o answered.after some.pieces (dump new) ending) =
      subst (λ (s : Option ℕ). GoesOnBehind s place o answered.after (dump new) ending (Writes manner o answered.after some.pieces (dump new) ending)) (sym stop) (dumped, is ∙ ap (λ (n : ℕ). ending_at (Some number) n) here) in
      ended_by o t begin was (Line place lines.piece ∷ some.pieces) (answered.text ++ dump new) ending first mid now w new b (some.can_come.0, came some.can_come.0 some.pieces some.can_come.1) (answered.after, answered.text, dump new, refused, answered.answers_line, refl, goes)
      (both mid said now answered.text (dump new) _ answered.written written refl)
      (λ whole. dumps (Some number) line first now new ending (b.so_far ++ answered.text) is (subst (Appends first now) (sym (append_assoc b.so_far answered.text (dump new))) whole))
      (record { history = answered.after; leads = answered.leads; spelled = λ all. line_spelled manner.echoes o b.here lines.piece answered.after answered.text refused answered.answers_line (b.spelled all) })

  -- a rest, and then the end of the script
  pub at_rest : {E : Type 0} (r : Result Ending E) (tables : ℕ) (begin was : LinesValue) (line : ℕ) (bytes : List ℕ) (number : ℕ) (first mid said now : Option (List ℕ)) (start w : WorldValue) → AllBefore tables begin was first mid start w → CanCome was (Rest line bytes ∷ [])
      → number ≡ line_fault_number faults.NotAStep → Appends mid said (refused_text manner.echoes bytes number) → IfOk r (λ ending. ending ≡ ending_at (stopping manner (Some number)) line) → OnOk r (Appends said now (dump w)) → IfOk r (RunsScript manner tables start w begin first now)
  at_rest (Err e) tables begin was line bytes number first mid said now start w before rest says told is written = tt
  at_rest (Ok ending) tables begin was line bytes number first mid said now start w before rest says told is written =
      λ o t leads same.
      let b = before o t leads same in
      let refused : Appends mid said (refused_text manner.echoes bytes (line_fault_number faults.NotAStep)) = subst (λ n. Appends mid said (refused_text manner.echoes bytes n)) says told in
      let dumped : IsDumped o b.here (dump w) = record { world = w; holds = b.leads.holds; says = refl } in
      let over = last_of (stopping manner (Some (line_fault_number faults.NotAStep))) line o b.here (dump w) ending dumped (is ∙ ap (λ (n : ℕ). ending_at (stopping manner (Some n)) line) says) in
      ended_by o t begin was (Rest line bytes ∷ []) (refused_text manner.echoes bytes (line_fault_number faults.NotAStep) ++ dump w) ending first mid now w w b rest (dump w, refl, over)
      (both mid said now (refused_text manner.echoes bytes (line_fault_number faults.NotAStep)) (dump w) _ refused written refl)
      (λ whole. dumps (stopping manner (Some number)) line first now w ending (b.so_far ++ refused_text manner.echoes bytes (line_fault_number faults.NotAStep)) is
      (subst (Appends first now) (sym (append_assoc b.so_far (refused_text manner.echoes bytes (line_fault_number faults.NotAStep)) (dump w))) whole))
      (so_far_led o t begin was first mid w b)

  -- a fault, which ends the run
  at_fault : {E : Type 0} (r : Result Ending E) (tables : ℕ) (begin was : LinesValue) (left : List PieceValue) (fault : LocatedFault) (first mid now : Option (List ℕ)) (start w : WorldValue) → AllBefore tables begin was first mid start w → CanCome was left
      → ((o : OpeningValue) (t : Trace) (out : List ℕ) (ending : Ending) → IsFault fault out ending → Writes manner o t left out ending)
      → IfOk r (EndsAtFault fault mid now) → IfOk r (RunsScript manner tables start w begin first now)
  at_fault (Err e) tables begin was left fault first mid now start w before can writes over = tt
  at_fault (Ok ending) tables begin was left fault first mid now start w before can writes over =
      λ o t leads same. let b = before o t leads same in ended_by o t begin was left over.0 ending first mid now w w b can (writes o b.here over.0 ending over.2) over.1
      (λ whole. subst (EndsWithDump w first now) (sym over.2.ends) tt)
      (so_far_led o t begin was first mid w b)

  -- the reading failed, or it ended in a line without end, or behind the last line that may come
  pub at_failed : {E : Type 0} (r : Result Ending E) (tables : ℕ) (begin was : LinesValue) (line : ℕ) (bytes : List ℕ) (fault : LocatedFault) (first mid now : Option (List ℕ)) (start w : WorldValue) → AllBefore tables begin was first mid start w → CanCome was (Failed line bytes ∷ [])
      → fault ≡ located ReadFailed (Some (Later line)) → IfOk r (EndsAtFault fault mid now) → IfOk r (RunsScript manner tables start w begin first now)
  at_failed r tables begin was line bytes fault first mid now start w before can is over = at_fault r tables begin was (Failed line bytes ∷ []) fault first mid now start w before can (λ o t out ending wrote. subst (λ f. IsFault f out ending) is wrote) over

  pub at_too_many : {E : Type 0} (r : Result Ending E) (tables : ℕ) (begin was : LinesValue) (fault : LocatedFault) (first mid now : Option (List ℕ)) (start w : WorldValue) → AllBefore tables begin was first mid start w → CanCome was (TooMany ∷ [])
      → fault ≡ located TooLong (Some (Later (MAX_LINES + 1))) → IfOk r (EndsAtFault fault mid now) → IfOk r (RunsScript manner tables start w begin first now)
  at_too_many r tables begin was fault first mid now start w before can is over = at_fault r tables begin was (TooMany ∷ []) fault first mid now start w before can (λ o t out ending wrote. subst (λ f. IsFault f out ending) is wrote) over

  pub at_long : {E : Type 0} (r : Result Ending E) (tables : ℕ) (begin was : LinesValue) (fault : LocatedFault) (first mid now : Option (List ℕ)) (start w : WorldValue) → AllBefore tables begin was first mid start w → IsLong MAX_UNENDED was
      → fault ≡ located TooLong (Some (Later (next_line_number was.lines_left))) → IfOk r (EndsAtFault fault mid now) → IfOk r (RunsScript manner tables start w begin first now)
  at_long r tables begin was fault first mid now start w before long is over =
      let some = some_pieces was in
      let endless = is_endless was long some.pieces some.can_come in
      let number = next_line_number was.lines_left in
      at_fault r tables begin was (Endless number endless.bytes ∷ endless.others) fault first mid now start w before (subst (CanCome was) endless.are some.can_come) (λ o t out ending wrote. subst (λ f. IsFault f out ending) is wrote) over

  -- the answer to a line that spells no step
  no_step : (o : OpeningValue) (t : Trace) (tables : ℕ) (line : List ℕ) (fault : LineFault) (number : ℕ) → o.tables ≡ tables → Err fault ≡ step_of tables line → number ≡ line_fault_number fault → AnswersLine manner.echoes o t line t (refused_text manner.echoes line number) (Some number)
  no_step o t tables line fault number same read says = inr (inl (record { fault = fault; spelled = ap (λ k. step_of k line) same ∙ sym read; stays = refl; says = ap (refused_text manner.echoes line) says; refuses = ap Some says }))

  refused : (o : OpeningValue) (t : Trace) (tables : ℕ) (line : List ℕ) (fault : LineFault) (number : ℕ) → o.tables ≡ tables → IsStep {A = Step} (Err fault) (step_of tables line)
      → (◌≡◌ {A = Result Step LineFault} (Err fault) (Err faults.Memory) → begins_txn (words_of line) ≡ true) → number ≡ line_fault_number fault → AnswersLine manner.echoes o t line t (refused_text manner.echoes line number) (Some number)
  refused o t tables line faults.Memory number same read memory says = inr (inr (record { transaction = memory refl; stays = refl; says = ap (refused_text manner.echoes line) says; refuses = ap Some says }))
  refused o t tables line faults.NotAStep number same read memory says = no_step o t tables line faults.NotAStep number same read says
  refused o t tables line faults.TooLong number same read memory says = no_step o t tables line faults.TooLong number same read says
  refused o t tables line (faults.Txn fault) number same read memory says = no_step o t tables line (faults.Txn fault) number same read says

  -- a step was answered, whatever tables its line was read by
  pub on_step : {E : Type 0} (r : Result (Option ℕ) E) (line : List ℕ) (step : Step) (given : Answer) (before now : Option (List ℕ)) (w new : WorldValue)
      → ((o : OpeningValue) (t : Trace) → IsOpening o → IsLegal o t → Holds o t w → KeepsHeadline o ((step, given) ∷ t) new)
      → OnOk r (Appends before now (answer_text manner.echoes line given)) → IfOk r (λ refused. refused ≡ refusal_in given) → IfOk r (λ refused. (tables : ℕ) → Ok step ≡ step_of tables line → AnswersWorld manner.echoes tables line w new before now refused)
  on_step (Err e) line step given before now w new goes written is = tt
  on_step (Ok refused) line step given before now w new goes written is =
      λ tables spelled o t leads same. stepped o t tables line step given before now w new leads same spelled (goes o t leads.is_opening leads.legal leads.holds) written refused is

  pub on_spelled : {E : Type 0} (r : Result (Option ℕ) E) (tables : ℕ) (line : List ℕ) (step : Step) (before now : Option (List ℕ)) (w new : WorldValue) → Ok step ≡ step_of tables line
      → IfOk r (λ refused. (tables : ℕ) → Ok step ≡ step_of tables line → AnswersWorld manner.echoes tables line w new before now refused) → IfOk r (AnswersWorld manner.echoes tables line w new before now)
  on_spelled (Err e) tables line step before now w new spelled made = tt
  on_spelled (Ok x) tables line step before now w new spelled made = made tables spelled

  -- a line that spells no step was refused, or no memory was left to read it
  pub on_refusal : (tables : ℕ) (line : List ℕ) (fault : LineFault) (number : ℕ) (before now : Option (List ℕ)) (w : WorldValue) → IsStep {A = Step} (Err fault) (step_of tables line)
      → (◌≡◌ {A = Result Step LineFault} (Err fault) (Err faults.Memory) → begins_txn (words_of line) ≡ true) → number ≡ line_fault_number fault → Appends before now (refused_text manner.echoes line number)
      → AnswersWorld manner.echoes tables line w w before now (Some number)
  on_refusal tables line fault number before now w read memory says written =
      λ o t leads same. record {
        after = t;
        text = refused_text manner.echoes line number;
        answers_line = refused o t tables line fault number same read memory says;
        leads = leads;
        written = written;
      }
