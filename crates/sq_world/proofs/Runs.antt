-- Runs of whole inputs.
use Rattle.std.proofs.Common.{◌≡◌, ℕ, List, [], Option, inl, inr, refl, sym, subst}
use Rattle.std.specs.Prelude.{None, Some, Result, Ok, Err, IfOk}
use Rattle.std.specs.Io.KnownBytes.{Keeps}
use Rattle.sq_schema.specs.declared.schema.TheConstants.{MAX_TABLES}
use Rattle.sq_transition.specs.WorldValue.{WorldValue}
use Rattle.sq_text.specs.declared.reader.TheConstants.{MAX_LINES}
use Rattle.sq_text.specs.declared.reader.ReadState.TheVariants.{Open}
use Rattle.sq_text.specs.Pieces.{PieceValue, pieces}
use Rattle.sq_text.specs.Coming.{LinesValue}
use Rattle.sq_text.proofs.Comings.{some_more, some_pieces}
use Rattle.sq_text.proofs.Givens.{given_first}
use Rattle.sq_text.specs.declared.located.LocatedFault.{LocatedFault}
use Rattle.sq_text.specs.declared.input_fault.InputFault.TheVariants.{Memory}
use Rattle.sq_text.specs.Located.{located}
use Rattle.sq_text.specs.Header.{header_of, Opens}
use Rattle.sq_text.proofs.Appending.{kept}
use Rattle.sq_world.specs.declared.ending.Ending.{Ending}
use Rattle.sq_world.specs.declared.ending.Ending.TheVariants.{Done, Stopped, Fault}
use Rattle.sq_world.specs.declared.ending.ScriptManner.{ScriptManner}
use Rattle.sq_world.specs.Inputs.{OfLines, OfReader}
use Rattle.sq_world.specs.Run.{IsFault, EndsAtFault, RunsLines}
use Rattle.sq_world.specs.Script.{EndsWithDump, KeepsDumped, IsLedByLines, IsLedByReader, KeepsLed, OpensWorld, RefusesHeader, RunsScript}

-- a script that is run from a header's opening
pub run_from : {E : Type 0} (manner : ScriptManner) (r : Result Ending E) (tables : ℕ) (begin lines : LinesValue) (before now : Option (List ℕ)) (w new : WorldValue) → tables ≡ MAX_TABLES
    → OpensWorld tables begin lines w → IfOk r (RunsScript manner tables w new lines before now) → IfOk r (RunsLines manner MAX_TABLES begin before now)
run_from manner (Err e) tables begin lines before now w new eight opens writes = tt
run_from manner (Ok ending) tables begin lines before now w new eight opens writes =
    let o = opens.0 in
    let some = some_pieces lines in
    let there = opens.2 some.can_come.0 some.pieces some.can_come.1 in
    let written = writes o [] opens.1 there.2.tables_are in
    let all = opens.2 written.can_come.0 written.pieces written.can_come.1 in
    (all.0, (written.can_come.0, all.1), written.out, written.written, inl (record { opening = o; script = written.pieces; header = subst (λ n. Opens n (Ok o) written.pieces (header_of n all.0)) eight all.2; is_opening = opens.1.is_opening; writes = written.writes }))

-- a header that is refused
pub run_refused : {E : Type 0} (manner : ScriptManner) (r : Result Ending E) (tables : ℕ) (fault : LocatedFault) (begin lines : LinesValue) (before now : Option (List ℕ)) → tables ≡ MAX_TABLES
    → RefusesHeader tables begin lines fault → IfOk r (EndsAtFault fault before now) → IfOk r (RunsLines manner MAX_TABLES begin before now)
run_refused manner (Err e) tables fault begin lines before now eight opens wrote = tt
run_refused manner (Ok ending) tables fault begin lines before now eight opens wrote =
    let some = some_pieces lines in
    let all = opens some.can_come.0 some.pieces some.can_come.1 in
    (all.0, (some.can_come.0, all.1), wrote.0, wrote.1, inr (record { fault = fault; left = some.pieces; header = subst (λ n. Opens n (Err fault) some.pieces (header_of n all.0)) eight all.2; wrote = wrote.2 }))

pub run_given : {E : Type 0} (says : List PieceValue → List ℕ → Ending → Type 0) (r : Result Ending E) (v : LinesValue) (known before now : Option (List ℕ)) → v.held ≡ [] → v.reading ≡ Open → v.lines_left ≡ MAX_LINES → v.known ≡ known → IfOk r (OfLines says v before now) → IfOk r (OfReader says known before now)
run_given says (Err e) v known before now none still most same ran = tt
run_given says (Ok ending) v known before now none still most same ran = (ran.0, given_first v known ran.0 none still most same ran.1, ran.2, ran.3, ran.4)

-- there was no memory for a line
pub run_nothing : {E : Type 0} (says : List PieceValue → List ℕ → Ending → Type 0) (r : Result Ending E) (known before now : Option (List ℕ)) (fault : LocatedFault) → fault ≡ located Memory None → ((given : List PieceValue) (out : List ℕ) (ending : Ending) → IsFault (located Memory None) out ending → says given out ending)
    → IfOk r (EndsAtFault fault before now) → IfOk r (OfReader says known before now)
run_nothing says (Err e) known before now fault is nothing wrote = tt
run_nothing says (Ok ending) known before now fault is nothing wrote =
    let some = some_more Open known in
    (pieces some.end some.more, record { input = some.more; end = some.end; comes = some.comes; are = refl }, wrote.0, wrote.1, nothing (pieces some.end some.more) wrote.0 ending (subst (λ f. IsFault f wrote.0 ending) is wrote.2))

-- what was written is flushed
pub run_flushed : (says : List PieceValue → List ℕ → Ending → Type 0) (known before mid now : Option (List ℕ)) (ending : Ending) → OfReader says known before mid ending → Keeps mid now → OfReader says known before now ending
run_flushed says known before mid now ending ran keeps = (ran.0, ran.1, ran.2, kept before mid now ran.2 ran.3 keeps, ran.4)

-- the world that is dumped is kept
kept_as : (before now : Option (List ℕ)) (w : WorldValue) (ending : Ending) → EndsWithDump w before now ending → KeepsDumped (Some w) before now ending
kept_as before now w Done dumped = (w, refl, dumped)
kept_as before now w (Stopped refused) dumped = (w, refl, dumped)
kept_as before now w (Fault fault) dumped = tt

-- of a script that is run from a header's opening
pub kept_from : {E : Type 0} (manner : ScriptManner) (r : Result Ending E) (tables : ℕ) (begin lines : LinesValue) (before now : Option (List ℕ)) (w new : WorldValue) → OpensWorld tables begin lines w
    → IfOk r (RunsScript manner tables w new lines before now) → IfOk r (KeepsDumped (Some new) before now)
kept_from manner (Err e) tables begin lines before now w new opens writes = tt
kept_from manner (Ok ending) tables begin lines before now w new opens writes =
    let some = some_pieces lines in
    let there = opens.2 some.can_come.0 some.pieces some.can_come.1 in
    kept_as before now new ending (writes opens.0 [] opens.1 there.2.tables_are).dumped

-- and the one that a history from the header's opening leads to
led_as : (Led : WorldValue → Type 0) (w : WorldValue) (ending : Ending) → Led w → KeepsLed Led (Some w) ending
led_as Led w Done led = (w, refl, led)
led_as Led w (Stopped refused) led = (w, refl, led)
led_as Led w (Fault fault) led = tt

pub led_from : {E : Type 0} (manner : ScriptManner) (r : Result Ending E) (tables : ℕ) (begin lines : LinesValue) (before now : Option (List ℕ)) (w new : WorldValue) → tables ≡ MAX_TABLES → OpensWorld tables begin lines w
    → IfOk r (RunsScript manner tables w new lines before now) → IfOk r (KeepsLed (IsLedByLines MAX_TABLES begin) (Some new))
led_from manner (Err e) tables begin lines before now w new eight opens writes = tt
led_from manner (Ok ending) tables begin lines before now w new eight opens writes =
    let o = opens.0 in
    let some = some_pieces lines in
    let there = opens.2 some.can_come.0 some.pieces some.can_come.1 in
    let written = writes o [] opens.1 there.2.tables_are in
    let all = opens.2 written.can_come.0 written.pieces written.can_come.1 in
    led_as (IsLedByLines MAX_TABLES begin) new ending (
      all.0,
      (written.can_come.0, all.1),
      record {
        opening = o;
        script = written.pieces;
        header = subst (λ n. Opens n (Ok o) written.pieces (header_of n all.0)) eight all.2;
        history = written.continues.history;
        leads = written.continues.leads;
        spelled = written.continues.spelled tt;
      },
    )

-- what is kept of the lines of a reader is kept of the reader
led_more : (Led More : WorldValue → Type 0) → ((w : WorldValue) → Led w → More w) → (kept : Option WorldValue) (ending : Ending) → KeepsLed Led kept ending → KeepsLed More kept ending
led_more Led More more kept Done led = (led.0, led.1, more led.0 led.2)
led_more Led More more kept (Stopped refused) led = (led.0, led.1, more led.0 led.2)
led_more Led More more kept (Fault fault) led = tt

pub led_given : {E : Type 0} (r : Result Ending E) (v : LinesValue) (known : Option (List ℕ)) (kept : Option WorldValue) → v.held ≡ [] → v.reading ≡ Open → v.lines_left ≡ MAX_LINES → v.known ≡ known
    → IfOk r (KeepsLed (IsLedByLines MAX_TABLES v) kept) → IfOk r (KeepsLed (IsLedByReader MAX_TABLES known) kept)
led_given (Err e) v known kept none still most same led = tt
led_given (Ok ending) v known kept none still most same led =
    led_more (IsLedByLines MAX_TABLES v) (IsLedByReader MAX_TABLES known) (λ w by. (by.0, given_first v known by.0 none still most same by.1, by.2)) kept ending led

pub led_at_fault : {E : Type 0} (r : Result Ending E) (Led : WorldValue → Type 0) (fault : LocatedFault) (kept : Option WorldValue) (before now : Option (List ℕ)) → IfOk r (EndsAtFault fault before now) → IfOk r (KeepsLed Led kept)
led_at_fault (Err e) Led fault kept before now wrote = tt
led_at_fault (Ok ending) Led fault kept before now wrote = subst (KeepsLed Led kept) (sym wrote.2.ends) tt

-- where a fault ends it, there is no dump
pub kept_at_fault : {E : Type 0} (r : Result Ending E) (fault : LocatedFault) (kept : Option WorldValue) (before now : Option (List ℕ)) → IfOk r (EndsAtFault fault before now) → IfOk r (KeepsDumped kept before now)
kept_at_fault (Err e) fault kept before now wrote = tt
kept_at_fault (Ok ending) fault kept before now wrote = subst (KeepsDumped kept before now) (sym wrote.2.ends) tt

-- what was written is flushed
pub kept_flushed : (kept_world : Option WorldValue) (before mid now : Option (List ℕ)) (ending : Ending) → KeepsDumped kept_world before mid ending → Keeps mid now → KeepsDumped kept_world before now ending
kept_flushed kept_world before mid now Done dumped keeps = (dumped.0, dumped.1, (dumped.2.0, kept before mid now _ dumped.2.1 keeps))
kept_flushed kept_world before mid now (Stopped refused) dumped keeps = (dumped.0, dumped.1, (dumped.2.0, kept before mid now _ dumped.2.1 keeps))
kept_flushed kept_world before mid now (Fault fault) dumped keeps = tt
