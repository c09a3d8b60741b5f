-- The lines of a header, read one after another.
use Rattle.std.proofs.Common.{◌≡◌, ℕ, ◌<◌, ◌≤◌, ◌+◌, true, false, List, [], ◌∷◌, length, inl, inr, refl, sym, ap, ◌∙◌, subst, arith, ◌≢◌}
use Rattle.std.specs.Prelude.{◌⊎◌, Option, Some, None, IfSome, Result, Ok, Err, codes, nat_lt}
use Rattle.std.specs.Option.{option_map, option_or}
use Rattle.std.proofs.lemmas.Bool.{le-ltb}
use Rattle.std.proofs.lemmas.Bool.Decides.{nat_tests}
use Rattle.std.proofs.lemmas.Option.{none-some, same_Some}
use Rattle.sq_schema.specs.Chain.{◌>>=◌}
use Rattle.sq_schema.specs.Effect.{RowTable}
use Rattle.sq_schema.specs.Table.{TableValue, rows_in, row_given_fault}
use Rattle.sq_schema.specs.declared.fault.TxnFault.{TxnFault}
use Rattle.sq_schema.specs.declared.fault.RowFault.{RowFault}
use Rattle.sq_schema.specs.declared.fault.RowFault.TheVariants as row_faults
use Rattle.sq_schema.specs.declared.fault.RowFault.TheVariants.{RowRepeated, NoRootRow}
use Rattle.sq_plan.specs.PlanValue.{PlanValue}
use Rattle.sq_moves.specs.declared.opening.Config.{Config}
use Rattle.sq_moves.specs.declared.opening.GivenRow.{GivenRow}
use Rattle.sq_moves.specs.declared.opening_fault.OpeningFault.{OpeningFault}
use Rattle.sq_moves.specs.declared.opening_fault.OpeningFault.TheVariants as opening
use Rattle.sq_moves.specs.OpeningValue.{OpeningValue}
use Rattle.sq_moves.specs.Between.{recon_of}
use Rattle.sq_moves.specs.OpeningFaults.{of_row}
use Rattle.sq_moves.specs.Given.{GivenValue, value_of, with_one, IsOpeningOf}
use Rattle.sq_moves.specs.Refused.{shape_fault, given_fault, MayRefuse}
use Rattle.sq_text.specs.declared.reader.Next.{Next as NextPiece}
use Rattle.sq_text.specs.declared.reader.Next.TheVariants as next
use Rattle.sq_text.specs.Pieces.{PieceValue, Line, Rest, Failed, Endless, TooMany, next_line_number, bytes_of, next_begins}
use Rattle.sq_text.specs.Coming.{LinesValue, CanCome, BeginLong, Finds, ReadsOn, Leaves}
use Rattle.sq_text.specs.declared.step.TheConstants.{MAX_LINE}
use Rattle.sq_text.specs.declared.header.FirstLines.{FirstLines}
use Rattle.sq_text.specs.declared.input_fault.InputFault.{InputFault}
use Rattle.sq_text.specs.declared.input_fault.InputFault.TheVariants as fault
use Rattle.sq_text.specs.declared.located.InputLine.{InputLine}
use Rattle.sq_text.specs.declared.located.InputLine.TheVariants as line
use Rattle.sq_text.specs.declared.located.LocatedFault.{LocatedFault}
use Rattle.sq_text.specs.InputFaults.{IsRead, IsReadGivenMemory}
use Rattle.sq_text.specs.Located.{at_line, located, line_number, of_opening}
use Rattle.sq_text.specs.Header.{line_in, next_line, line_as, plan_behind, config_of, given_of, first_lines, IsReadBefore, unless_faulty, HeaderValue, plans_fault, header_of_first, plans_of, row_taken, rows_taken, header_of, header_in, Opens}

-- a line that isn't too long
pub short_line : (number : ℕ) (line : List ℕ) (others : List PieceValue) → length line ≤ MAX_LINE → next_line (Line number line ∷ others) ≡ Ok (line, others)
short_line number line others short = let is : nat_lt MAX_LINE (length line) ≡ false = le-ltb _ _ short in rw is refl

long_in : (piece : PieceValue) → MAX_LINE < length (bytes_of piece) → line_in piece ≡ Err fault.LineTooLong
long_in (Line number bytes) long = let is : nat_lt MAX_LINE (length bytes) ≡ true = grind (arith, nat_tests) in rw is refl
long_in (Rest number bytes) long = let is : nat_lt MAX_LINE (length bytes) ≡ true = grind (arith, nat_tests) in rw is refl
long_in (Failed number bytes) long = let is : nat_lt MAX_LINE (length bytes) ≡ true = grind (arith, nat_tests) in rw is refl
long_in (Endless number bytes) long = refl
long_in TooMany long = absurd (omega arith)

pub long_piece : (piece : PieceValue) (others : List PieceValue) → MAX_LINE < length (bytes_of piece) → next_line (piece ∷ others) ≡ Err fault.LineTooLong
long_piece piece others long = rw (long_in piece long) refl

-- bytes without a line end, behind which nothing is or a read failed, and a line too many
unended_line : (number : ℕ) (bytes : List ℕ) → length bytes ≤ MAX_LINE → next_line (Rest number bytes ∷ []) ≡ Err fault.BadHeader
unended_line number bytes short = let is : nat_lt MAX_LINE (length bytes) ≡ false = le-ltb _ _ short in rw is refl

pub no_line_end : (told : NextPiece) (old new : LinesValue) → (told ≡ next.Rest) ⊎ (told ≡ next.End) → Finds MAX_LINE old told new → Leaves old new (λ all left. next_line all ≡ Err fault.BadHeader)
no_line_end told old new (inl rest) found = λ end left can.
    let number = next_line_number old.lines_left in
    let is : Finds MAX_LINE old next.Rest new = subst (λ (n : NextPiece). Finds MAX_LINE old n new) rest found in
    (Rest number new.piece ∷ [], is.0 end left can, unended_line number new.piece is.1)
no_line_end told old new (inr none) found = λ end left can.
    let is : Finds MAX_LINE old next.End new = subst (λ (n : NextPiece). Finds MAX_LINE old n new) none found in
    ([], is end left can, refl)

pub cut_line : (number : ℕ) (bytes : List ℕ) → length bytes ≤ MAX_LINE → next_line (Failed number bytes ∷ []) ≡ Err fault.ReadFailed
cut_line number bytes short = let is : nat_lt MAX_LINE (length bytes) ≡ false = le-ltb _ _ short in rw is refl

-- pieces that begin with one that is too long
pub long_begin : (pieces : List PieceValue) → BeginLong MAX_LINE pieces → next_line pieces ≡ Err fault.LineTooLong
long_begin [] long = absurd long
long_begin (piece ∷ others) long = long_piece piece others long

-- what is read of a line that came
came : {X Y : Type 0} (view : X → Y) (read : List ℕ → Result Y InputFault) (r : Result X InputFault) (first : Result (List ℕ × List PieceValue) InputFault) (line : List ℕ) (left : List PieceValue) → first ≡ Ok (line, left) → IsReadGivenMemory view r (read line)
    → IsReadGivenMemory {Y = Y × List PieceValue} (λ x. (view x, left)) r (first >>= λ next. read next.0 >>= λ value. Ok (value, next.1))
came view read (Ok x) first line left e is = rw (e, is) refl
came view read (Err f) first line left e is = λ apart. rw (e, is apart) refl

pub of_read : {X Y : Type 0} (view : X → Y) (r : Result X InputFault) (wanted : Result Y InputFault) → IsRead view r wanted → IsReadGivenMemory view r wanted
of_read view (Ok x) wanted e = e
of_read view (Err f) wanted e = λ apart. e

pub line_read : {X Y : Type 0} (view : X → Y) (read : List ℕ → Result Y InputFault) (r : Result X InputFault) (line : List ℕ) (old new : LinesValue) → Leaves old new (λ all left. next_line all ≡ Ok (line, left)) → IsReadGivenMemory view r (read line)
    → Leaves old new (λ all left. IsReadGivenMemory (λ x. (view x, left)) r (line_as read all))
line_read view read r line old new reads is = λ end left can. let n = reads end left can in (n.0, n.1, came view read r (next_line n.0) line left n.2 is)

pub none_read : {X Y : Type 0} (view : X → Y) (read : List ℕ → Result Y InputFault) (f : InputFault) (old new : LinesValue) → Leaves old new (λ all left. next_line all ≡ Err f) → Leaves old new (λ all left. IsReadGivenMemory (λ x. (view x, left)) (Err f) (line_as read all))
none_read view read f old new reads = λ end left can. let n = reads end left can in (n.0, n.1, λ apart. rw n.2 refl)

-- ---- opening rows

-- no row's line comes next
no_row : (tables : ℕ) (table : RowTable) (at : ℕ) (left : List PieceValue) → next_begins (codes "row ") left ≡ false → rows_taken tables table at left ≡ Ok (table, left)
no_row tables table at [] e = refl
no_row tables table at (piece ∷ pieces) e = rw e refl

abbrev behind_it : {A : Type 0} → List PieceValue → Result (A × List PieceValue) InputFault → List PieceValue
behind_it none (Ok x) = x.1
behind_it none (Err f) = none

abbrev after_line : {A : Type 0} → Result (List ℕ) InputFault → (List ℕ → Result A InputFault) → List PieceValue → Result (A × List PieceValue) InputFault
after_line {A} line read pieces = ◌>>=◌ {A = List ℕ × List PieceValue} {B = A × List PieceValue} (◌>>=◌ {A = List ℕ} {B = List ℕ × List PieceValue} line (λ bytes. Ok (bytes, pieces))) (λ next. ◌>>=◌ {A = A} {B = A × List PieceValue} (read next.0) (λ x. Ok (x, next.1)))

same_left : {A : Type 0} (line : Result (List ℕ) InputFault) (read : List ℕ → Result A InputFault) (pieces left : List PieceValue) (value : A) → after_line line read pieces ≡ Ok (value, left) → pieces ≡ left
same_left {A} (Err f) read pieces left value e = absurd cc
same_left {A} (Ok bytes) read pieces left value e = by_value (read bytes) e
  where
    by_value : (r : Result A InputFault) → ◌>>=◌ {A = A} {B = A × List PieceValue} r (λ x. Ok (x, pieces)) ≡ Ok (value, left) → pieces ≡ left
    by_value (Err f) e = absurd cc
    by_value (Ok x) e = ap (behind_it []) e

-- a row that is read, on top of a table
abbrev taken_on : ℕ → RowTable → ℕ → Result (GivenValue × List PieceValue) InputFault → Result (RowTable × List PieceValue) LocatedFault
taken_on tables table at r = at_line (line.Row at) r >>= (λ row. unless_faulty (given_fault tables table at row.0) (with_one table row.0, row.1))

abbrev behind_taken : List PieceValue → Result (RowTable × List PieceValue) LocatedFault → List PieceValue
behind_taken none (Ok x) = x.1
behind_taken none (Err f) = none

-- a row that is taken was read, and what is left is what comes after its line
row_read : (tables : ℕ) (table now : RowTable) (at : ℕ) (r : Result (GivenValue × List PieceValue) InputFault) (left : List PieceValue) → taken_on tables table at r ≡ Ok (now, left) → (value : GivenValue) × (r ≡ Ok (value, left))
row_read tables table now at (Err f) left e = absurd cc
row_read tables table now at (Ok row) left e = (row.0, ap (λ (l : List PieceValue). Ok (row.0, l)) (by_fault (given_fault tables table at row.0) e))
  where
    by_fault : (f : Option OpeningFault) → unless_faulty {A = RowTable × List PieceValue} f (with_one table row.0, row.1) ≡ Ok (now, left) → row.1 ≡ left
    by_fault None e = ap (behind_taken []) e
    by_fault (Some f) e = absurd cc

row_next : (tables : ℕ) (table now : RowTable) (at : ℕ) (mid left : List PieceValue) → next_begins (codes "row ") mid ≡ true → row_taken tables table at mid ≡ Ok (now, left) → rows_taken tables table at mid ≡ rows_taken tables now (at + 1) left
row_next tables table now at [] left begins e = absurd cc
row_next tables table now at (piece ∷ pieces) left begins e =
    let read = row_read tables table now at (line_as given_of (piece ∷ pieces)) left e in
    let same : pieces ≡ left = same_left (line_in piece) given_of pieces left read.0 read.1 in
    rw (begins, e, same) refl

row_fails : (tables : ℕ) (table : RowTable) (at : ℕ) (mid : List PieceValue) (f : LocatedFault) → next_begins (codes "row ") mid ≡ true → row_taken tables table at mid ≡ Err f → rows_taken tables table at mid ≡ Err f
row_fails tables table at [] f begins e = absurd cc
row_fails tables table at (piece ∷ pieces) f begins e = rw (begins, e) refl

-- a table is the one with a row
same_table : (table : RowTable) (given : GivenValue) (now : TableValue) → ((root : ℕ) → rows_in now root ≡ with_one table given root) → with_one table given ≡ rows_in now
same_table table given now taken = λ j root. sym (taken root) j

-- a fault of an opening is written, unless it is want of memory
fault_told : (first : Option OpeningFault) (f : OpeningFault) → MayRefuse first first f → (of_opening f).fault ≢ fault.Memory → first ≡ Some f
fault_told first opening.Memory may apart = absurd (apart refl)
fault_told first (opening.Recon f) may apart = may
fault_told first opening.Limit may apart = may
fault_told first opening.Capacity may apart = may
fault_told first (opening.Row at f) may apart = may
fault_told first (opening.Place at f) may apart = may

-- the row of the next line is taken, or isn't
abbrev pub RowRead : ℕ → RowTable → ℕ → RowTable → Result Unit LocatedFault → LinesValue → LinesValue → Type 0
RowRead tables table at now r old new = Leaves old new (λ all left. IsReadBefore (λ _. now) r left (row_taken tables table at all))

module _ (tables : ℕ) (table : RowTable) (at : ℕ) (old new : LinesValue) where
  pub row_malformed : (now : RowTable) (f : InputFault) → Leaves old new (λ all left. IsReadGivenMemory {X = GivenRow} {Y = GivenValue × List PieceValue} (λ row. (value_of row, left)) (Err f) (line_as given_of all)) → RowRead tables table at now (Err (located f (Some (line.Row at)))) old new
  row_malformed now f reads = λ end left can.
      let m = reads end left can in
      (m.0, m.1, λ apart. rw (m.2 apart) refl)

  pub row_unread : (now : RowTable) (holds : List PieceValue → List PieceValue → Type 0) → Leaves old new holds → RowRead tables table at now (Err (located fault.Memory None)) old new
  row_unread now holds reads = λ end left can. let m = reads end left can in (m.0, m.1, λ apart. absurd (apart refl))

  module _ (given : GivenRow) (reads : Leaves old new (λ all left. line_as given_of all ≡ Ok (value_of given, left))) where
    pub row_fits : (now : TableValue) → given_fault tables table at (value_of given) ≡ None → ((root : ℕ) → rows_in now root ≡ with_one table (value_of given) root) → RowRead tables table at (rows_in now) (Ok tt) old new
    row_fits now none taken = λ end left can.
        let m = reads end left can in
        (m.0, m.1, rw (m.2, none) (ap (λ (t : RowTable). Ok (t, left)) (same_table table (value_of given) now taken)))

    pub row_refused : (now : RowTable) (f : OpeningFault) → MayRefuse (given_fault tables table at (value_of given)) (given_fault tables table at (value_of given)) f → RowRead tables table at now (Err (of_opening f)) old new
    row_refused now f may = λ end left can.
        let m = reads end left can in
        (m.0, m.1, λ apart. let is : given_fault tables table at (value_of given) ≡ Some f = fault_told (given_fault tables table at (value_of given)) f may apart in rw (m.2, is) refl)

-- the line of a fault of a row is its own
pub row_line_of : (tables : ℕ) (table : RowTable) (at : ℕ) (given : GivenValue) (f : OpeningFault) → MayRefuse (given_fault tables table at given) (given_fault tables table at given) f → IfSome (of_opening f).line (λ line. line_number line ≡ at + 4)
row_line_of tables table at given f may = by_fault f may
  where
    told : (shape : Option TxnFault) (place : Option RowFault) (f : OpeningFault) → option_or (option_map (opening.Row at) shape) (option_map (of_row at) place) ≡ Some f → IfSome (of_opening f).line (λ line. line_number line ≡ at + 4)
    told (Some x) place f e = subst (λ (g : OpeningFault). IfSome (of_opening g).line (λ line. line_number line ≡ at + 4)) (same_Some (opening.Row at x) f e) refl
    told None None f e = absurd (none-some f e)
    told None (Some RowRepeated) f e = subst (λ (g : OpeningFault). IfSome (of_opening g).line (λ line. line_number line ≡ at + 4)) (same_Some (opening.Place at RowRepeated) f e) refl
    told None (Some NoRootRow) f e = subst (λ (g : OpeningFault). IfSome (of_opening g).line (λ line. line_number line ≡ at + 4)) (same_Some (opening.Place at NoRootRow) f e) refl
    told None (Some row_faults.Memory) f e = subst (λ (g : OpeningFault). IfSome (of_opening g).line (λ line. line_number line ≡ at + 4)) (same_Some opening.Memory f e) tt

    by_fault : (f : OpeningFault) → MayRefuse (given_fault tables table at given) (given_fault tables table at given) f → IfSome (of_opening f).line (λ line. line_number line ≡ at + 4)
    by_fault opening.Memory may = tt
    by_fault (opening.Recon x) may = told (shape_fault tables given) (row_given_fault (table given.root) given.key) (opening.Recon x) may
    by_fault opening.Limit may = told (shape_fault tables given) (row_given_fault (table given.root) given.key) opening.Limit may
    by_fault opening.Capacity may = told (shape_fault tables given) (row_given_fault (table given.root) given.key) opening.Capacity may
    by_fault (opening.Row n x) may = told (shape_fault tables given) (row_given_fault (table given.root) given.key) (opening.Row n x) may
    by_fault (opening.Place n x) may = told (shape_fault tables given) (row_given_fault (table given.root) given.key) (opening.Place n x) may

-- an opening with another table, and then another one again
pub other_table : (o mid now : OpeningValue) → mid ≡ record o { table = mid.table } → now ≡ record mid { table = now.table } → now ≡ record o { table = now.table }
other_table o mid now before after = after ∙ ap (λ (p : OpeningValue). record p { table = now.table }) before

-- the rows so far were taken, and those that come are taken on top of them
abbrev pub RowsSoFar : ℕ → RowTable → LinesValue → LinesValue → RowTable → ℕ → Type 0
RowsSoFar tables table first now taken at = Leaves first now (λ all left. rows_taken tables taken at left ≡ rows_taken tables table 0 all)

-- the row is taken for these tables and at this place, if what it is taken for and at are these
pub row_read_at : (tables also_tables : ℕ) (table : RowTable) (at also_at : ℕ) (now : RowTable) (r : Result Unit LocatedFault) (old new : LinesValue) → also_tables ≡ tables → also_at ≡ at → RowRead also_tables table also_at now r old new → RowRead tables table at now r old new
row_read_at tables also_tables table at also_at now r old new same_tables same_at read = subst (λ n. RowRead n table at now r old new) same_tables (subst (λ n. RowRead also_tables table n now r old new) same_at read)

pub no_rows_yet : (tables : ℕ) (table : RowTable) (first : LinesValue) (at : ℕ) → at ≡ 0 → RowsSoFar tables table first first table at
no_rows_yet tables table first at zero = λ end left can. (left, can, ap (λ n. rows_taken tables table n left) zero)

module _ (tables : ℕ) (table taken : RowTable) (at : ℕ) (first now mid new : LinesValue) (so_far : RowsSoFar tables table first now taken at) (on : ReadsOn now mid) where
  pub one_more : (more : RowTable) (next : ℕ) → ((ps : List PieceValue) → CanCome mid ps → next_begins (codes "row ") ps ≡ true) → RowRead tables taken at more (Ok tt) mid new → next ≡ at + 1 → RowsSoFar tables table first new more next
  one_more more next begins reads is = λ end left can.
      let m = reads end left can in
      let a = so_far end m.0 (on.0 end m.0 m.1) in
      (a.0, a.1, ap (λ n. rows_taken tables more n left) is ∙ sym (row_next tables taken more at m.0 left (begins m.0 (end, m.1)) m.2) ∙ a.2)

  pub no_more : ((ps : List PieceValue) → CanCome mid ps → next_begins (codes "row ") ps ≡ false) → Leaves first mid (λ all left. rows_taken tables table 0 all ≡ Ok (taken, left))
  no_more none = λ end left can.
      let a = so_far end left (on.0 end left can) in
      (a.0, a.1, sym a.2 ∙ no_row tables taken at left (none left (end, can)))

  pub bad_row : (more : RowTable) (f : LocatedFault) → ((ps : List PieceValue) → CanCome mid ps → next_begins (codes "row ") ps ≡ true) → RowRead tables taken at more (Err f) mid new → Leaves first new (λ all left. f.fault ≢ fault.Memory → rows_taken tables table 0 all ≡ Err f)
  bad_row more f begins reads = λ end left can.
      let m = reads end left can in
      let a = so_far end m.0 (on.0 end m.0 m.1) in
      (a.0, a.1, λ apart. sym a.2 ∙ row_fails tables taken at m.0 f (begins m.0 (end, m.1)) (m.2 apart))

-- ---- whole headers

-- a header with this fault, or without an opening
pub refused : {Y : Type 0} (f : InputFault) (line : InputLine) (left : List PieceValue) (wanted : Result (FirstLines × List PieceValue) LocatedFault) (read : Result Y InputFault) → (f ≢ fault.Memory → read ≡ Err f) → (at_line line read ≡ Err (located f (Some line)) → wanted ≡ Err (located f (Some line)))
    → IsReadBefore {X = FirstLines} {Y = FirstLines} (λ first. first) (Err (located f (Some line))) left wanted
refused f line left wanted read is follows = λ apart. follows (ap (at_line line) (is apart))

-- the next line is read so
abbrev pub Reads : {Y : Type 0} → (List ℕ → Result Y InputFault) → Y → LinesValue → LinesValue → Type 0
Reads read y old new = Leaves old new (λ all left. line_as read all ≡ Ok (y, left))

-- or not, for this fault
abbrev pub Fails : {Y : Type 0} → (List ℕ → Result Y InputFault) → InputFault → LinesValue → LinesValue → Type 0
Fails read f old new = Leaves old new (λ all left. f ≢ fault.Memory → line_as read all ≡ Err f)

-- the first three lines are read so
abbrev pub FirstRead : Result FirstLines LocatedFault → LinesValue → LinesValue → Type 0
FirstRead r old new = Leaves old new (λ all left. IsReadBefore (λ first. first) r left (first_lines all))

pub no_old : (f : InputFault) (v0 v1 : LinesValue) → Fails (plan_behind (codes "old ")) f v0 v1 → FirstRead (Err (located f (Some line.Old))) v0 v1
no_old f v0 v1 fails = λ end left can. let a = fails end left can in
    (a.0, a.1, refused f line.Old left (first_lines a.0) (line_as (plan_behind (codes "old ")) a.0) a.2 (λ e. rw e refl))

pub no_new : (f : InputFault) (old : PlanValue) (v0 v1 v2 : LinesValue) → Reads (plan_behind (codes "old ")) old v0 v1 → Fails (plan_behind (codes "new ")) f v1 v2 → FirstRead (Err (located f (Some line.New))) v0 v2
no_new f old v0 v1 v2 first fails = λ end left can.
    let b = fails end left can in
    let a = first end b.0 b.1 in
    (a.0, a.1, refused f line.New left (first_lines a.0) (line_as (plan_behind (codes "new ")) b.0) b.2 (λ e. rw (a.2, e) refl))

pub no_config : (f : InputFault) (old new : PlanValue) (v0 v1 v2 v3 : LinesValue) → Reads (plan_behind (codes "old ")) old v0 v1 → Reads (plan_behind (codes "new ")) new v1 v2 → Fails config_of f v2 v3 → FirstRead (Err (located f (Some line.Config))) v0 v3
no_config f old new v0 v1 v2 v3 first second fails = λ end left can.
    let d = fails end left can in
    let b = second end d.0 d.1 in
    let a = first end b.0 b.1 in
    (a.0, a.1, refused f line.Config left (first_lines a.0) (line_as config_of d.0) d.2 (λ e. rw (a.2, b.2, e) refl))

pub all_three : (old new : PlanValue) (config : Config) (v0 v1 v2 v3 : LinesValue) → Reads (plan_behind (codes "old ")) old v0 v1 → Reads (plan_behind (codes "new ")) new v1 v2 → Reads config_of config v2 v3 → FirstRead (Ok (record { old = old; new = new; config = config })) v0 v3
all_three old new config v0 v1 v2 v3 first second third = λ end left can.
    let d = third end left can in
    let b = second end d.0 d.1 in
    let a = first end b.0 b.1 in
    (a.0, a.1, rw (a.2, b.2, d.2) refl)

-- the header without rows that the first three lines spell
abbrev pub PlansRead : ℕ → Result OpeningValue LocatedFault → LinesValue → LinesValue → Type 0
PlansRead tables r old new = Leaves old new (λ all left. Opens tables r left (plans_of all))

pub no_first : (tables : ℕ) (told : LocatedFault) (v0 v1 : LinesValue) → FirstRead (Err told) v0 v1 → PlansRead tables (Err told) v0 v1
no_first tables told v0 v1 first = λ end left can. let a = first end left can in (a.0, a.1, λ apart. rw (a.2 apart) refl)

module _ (tables : ℕ) (first : FirstLines) (v0 v1 : LinesValue) (begins : FirstRead (Ok first) v0 v1) where
  pub plans_fit : (o : OpeningValue) → plans_fault first ≡ None → IsOpeningOf tables first.old first.new first.config [] o → PlansRead tables (Ok o) v0 v1
  plans_fit o none of = λ end left can.
      let a = begins end left can in
      let old = sym of.old_plan in
      let new = sym of.new_plan in
      let config = sym of.sizes in
      let same : header_of_first first ≡ header_in o = λ i. record { old = old i; new = new i; config = config i; rows = λ root. sym (of.table root) i } in
      (a.0, a.1, record { spelled = rw (a.2, none) (ap (λ (h : HeaderValue). Ok (h, left)) same); tables_are = of.tables_are; moves = rw (of.old_plan, of.new_plan, of.sizes) of.moves })

  pub plans_refused : (f : OpeningFault) → MayRefuse (plans_fault first) (plans_fault first) f → PlansRead tables (Err (of_opening f)) v0 v1
  plans_refused f may = λ end left can.
      let a = begins end left can in
      (a.0, a.1, λ apart. let is : plans_fault first ≡ Some f = fault_told (plans_fault first) f may apart in rw (a.2, is) refl)

abbrev pub HeaderRead : ℕ → Result OpeningValue LocatedFault → LinesValue → LinesValue → Type 0
HeaderRead tables r old new = Leaves old new (λ all left. Opens tables r left (header_of tables all))

pub no_plans : (tables : ℕ) (told : LocatedFault) (v0 v1 : LinesValue) → PlansRead tables (Err told) v0 v1 → HeaderRead tables (Err told) v0 v1
no_plans tables told v0 v1 plans = λ end left can. let a = plans end left can in (a.0, a.1, λ apart. rw (a.2 apart) refl)

module _ (tables : ℕ) (o : OpeningValue) (v0 v1 v2 : LinesValue) (plans : PlansRead tables (Ok o) v0 v1) where
  pub header_fits : (now : OpeningValue) → now ≡ record o { table = now.table } → Leaves v1 v2 (λ all left. rows_taken o.tables (rows_in o.table) 0 all ≡ Ok (rows_in now.table, left)) → HeaderRead tables (Ok now) v0 v2
  header_fits now kept rows = λ end left can.
      let e = rows end left can in
      let a = plans end e.0 e.1 in
      let taken : rows_taken tables (rows_in o.table) 0 e.0 ≡ Ok (rows_in now.table, left) = subst (λ n. rows_taken n (rows_in o.table) 0 e.0 ≡ Ok (rows_in now.table, left)) a.2.tables_are e.2 in (
        a.0,
        a.1,
        record {
          spelled = rw (a.2.spelled, taken) (ap (λ (p : OpeningValue). Ok (record { old = p.old; new = p.new; config = p.config; rows = rows_in now.table }, left)) (sym kept));
          tables_are = ap (λ (p : OpeningValue). p.tables) kept ∙ a.2.tables_are;
          moves = subst (λ (p : OpeningValue). p.recon ≡ recon_of p.old p.new p.config.width) (sym kept) a.2.moves;
        },
      )

  pub header_refused : (f : LocatedFault) → Leaves v1 v2 (λ all left. f.fault ≢ fault.Memory → rows_taken o.tables (rows_in o.table) 0 all ≡ Err f) → HeaderRead tables (Err f) v0 v2
  header_refused f rows = λ end left can.
      let e = rows end left can in
      let a = plans end e.0 e.1 in (
        a.0,
        a.1,
        λ apart.
            let taken : rows_taken tables (rows_in o.table) 0 e.0 ≡ Err f = subst (λ n. rows_taken n (rows_in o.table) 0 e.0 ≡ Err f) a.2.tables_are (e.2 apart) in
            rw (a.2.spelled, taken) refl,
      )
