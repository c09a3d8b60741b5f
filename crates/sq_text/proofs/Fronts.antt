-- How the next piece begins.
use Rattle.std.proofs.Common.{◌≡◌, ℕ, ◌-◌, ◌<◌, ◌≤◌, Bool, true, false, cond, not, ◌&&◌, eqb, List, [], ◌∷◌, ◌++◌, length, inr, refl, sym, ap, ◌∙◌, arith}
use Rattle.std.specs.Prelude.{nat_eq, nat_lt}
use Rattle.std.specs.List.{starts_with, list_all}
use Rattle.std.proofs.lemmas.Bool.{eqb-true}
use Rattle.std.proofs.lemmas.Bool.Decides.{nat_tests}
use Rattle.std.proofs.lemmas.List.{append-nil}
use Rattle.sq_text.specs.declared.buffer.TheConstants.{MAX_UNENDED}
use Rattle.sq_text.specs.declared.reader.ReadState.TheVariants.{Open}
use Rattle.sq_text.specs.Pieces.{cut_at_ends, PieceValue, Line, Endless, InputEnd, Whole, Cut, ending_piece, pieces_of, pieces_in, next_line_number, next_begins}
use Rattle.sq_text.specs.Coming.{LinesValue, CanCome, IsUndecided}
use Rattle.sq_text.proofs.Ends.{HasFirst, has_first}
use Rattle.sq_text.proofs.Comings.{none_left, nothing_comes}

-- no line ends in the bytes
abbrev pub unended : List ℕ → Bool
unended front = list_all (λ byte. not (eqb byte 10)) front

abbrev first_of : List (List ℕ) → List ℕ
first_of [] = []
first_of (first ∷ others) = first

both_on : (b c : Bool) → (not b && c) ≡ true → (b ≡ false) × (c ≡ true)
both_on true c e = absurd cc
both_on false c e = (refl, e)

and_on : (b c : Bool) → (b && c) ≡ true → (b ≡ true) × (c ≡ true)
and_on true c e = (refl, e)
and_on false c e = absurd cc

-- the first part begins as the bytes do
same_front : (front bytes first : List ℕ) (others : List (List ℕ)) → unended front ≡ true → cut_at_ends bytes ≡ first ∷ others → starts_with nat_eq first front ≡ starts_with nat_eq bytes front
same_front [] bytes first others apart e = refl
same_front (f ∷ front) [] first others apart e = ap (λ (xs : List (List ℕ)). starts_with nat_eq (first_of xs) (f ∷ front)) (sym e)
same_front (f ∷ front) (x ∷ xs) first others apart e =
    let after = has_first xs in
    let off = both_on (eqb f 10) (unended front) apart in
    ap (λ (ps : List (List ℕ)). starts_with nat_eq (first_of ps) (f ∷ front)) (sym e) ∙ by_test (eqb x 10) refl off.0 after (same_front front xs after.first after.others off.1 after.are)
  where
    by_test : (b : Bool) → eqb x 10 ≡ b → eqb f 10 ≡ false → (after : HasFirst xs) → starts_with nat_eq after.first front ≡ starts_with nat_eq xs front → starts_with nat_eq (first_of (cut_at_ends (x ∷ xs))) (f ∷ front) ≡ starts_with nat_eq (x ∷ xs) (f ∷ front)
    by_test true is off after same = rw (is, eqb-true x 10 is, off) refl
    by_test false is off after same = rw (is, after.are) (ap (λ (b : Bool). eqb f x && b) same)

begins_either : (b : Bool) (front : List ℕ) (one other : List PieceValue) (begins : Bool) → next_begins front one ≡ begins → next_begins front other ≡ begins → next_begins front (cond b one other) ≡ begins
begins_either true front one other begins e f = e
begins_either false front one other begins e f = f

ending_begins : (end : InputEnd) (lines : ℕ) (front : List ℕ) (x : ℕ) (xs : List ℕ) → next_begins front (ending_piece end lines (x ∷ xs)) ≡ starts_with nat_eq (x ∷ xs) front
ending_begins Whole lines front x xs = refl
ending_begins (Cut known) lines front x xs = refl

nothing_begins : (end : InputEnd) (lines f : ℕ) (front : List ℕ) → next_begins (f ∷ front) (ending_piece end lines []) ≡ false
nothing_begins Whole lines f front = refl
nothing_begins (Cut known) lines f front = refl

-- the next piece begins as its first part does
next_piece : (end : InputEnd) (lines : ℕ) (parts : List (List ℕ)) (f : ℕ) (front first : List ℕ) (others : List (List ℕ)) → 0 < lines → parts ≡ first ∷ others → next_begins (f ∷ front) (pieces_of end lines parts) ≡ starts_with nat_eq first (f ∷ front)
next_piece end lines parts f front [] [] some e = rw e (nothing_begins end lines f front)
next_piece end lines parts f front (x ∷ xs) [] some e =
    let positive : eqb lines 0 ≡ false = grind (arith, nat_tests) in
    rw (e, positive) (begins_either (nat_lt MAX_UNENDED (length (x ∷ xs))) (f ∷ front) (Endless (next_line_number lines) (x ∷ xs) ∷ []) (ending_piece end lines (x ∷ xs)) (starts_with nat_eq (x ∷ xs) (f ∷ front)) refl (ending_begins end lines (f ∷ front) x xs))
next_piece end lines parts f front first (other ∷ others) some e =
    let positive : eqb lines 0 ≡ false = grind (arith, nat_tests) in
    rw (e, positive) (begins_either (nat_lt MAX_UNENDED (length first)) (f ∷ front) (Endless (next_line_number lines) first ∷ []) (Line (next_line_number lines) first ∷ pieces_of end (lines - 1) (other ∷ others)) (starts_with nat_eq first (f ∷ front)) refl refl)

begins_so : (end : InputEnd) (lines : ℕ) (bytes : List ℕ) (f : ℕ) (front : List ℕ) → 0 < lines → unended (f ∷ front) ≡ true → next_begins (f ∷ front) (pieces_in end lines bytes) ≡ starts_with nat_eq bytes (f ∷ front)
begins_so end lines bytes f front some apart = let h = has_first bytes in next_piece end lines (cut_at_ends bytes) f front h.first h.others some h.are ∙ same_front (f ∷ front) bytes h.first h.others apart h.are

-- a longer list begins as its front does, where that is long enough
longer_begins : (held more front : List ℕ) → length front ≤ length held → starts_with nat_eq (held ++ more) front ≡ starts_with nat_eq held front
longer_begins held more [] enough = refl
longer_begins [] more (f ∷ front) enough = absurd (omega (arith, enough))
longer_begins (x ∷ held) more (f ∷ front) enough = ap (λ (b : Bool). eqb f x && b) (longer_begins held more front (omega (arith, enough)))

otherwise_begins : (held more front : List ℕ) → length held ≤ length front → starts_with nat_eq front held ≡ false → starts_with nat_eq (held ++ more) front ≡ false
otherwise_begins [] more front short apart = absurd cc
otherwise_begins (x ∷ held) more [] short apart = absurd (omega (arith, short))
otherwise_begins (x ∷ held) more (f ∷ front) short apart = by_test (eqb f x) refl (otherwise_begins held more front (omega (arith, short)))
  where
    by_test : (b : Bool) → eqb f x ≡ b → (starts_with nat_eq front held ≡ false → starts_with nat_eq (held ++ more) front ≡ false) → (eqb f x && starts_with nat_eq (held ++ more) front) ≡ false
    by_test false is after = rw is refl
    by_test true is after =
        let same : f ≡ x = eqb-true f x is in
        let turned : eqb x f ≡ true = ap (λ n. eqb x n) same ∙ sym (ap (λ n. eqb n x) same) ∙ is in
        let others : starts_with nat_eq front held ≡ false = sym (rw turned refl) ∙ apart in
        rw is (after others)

-- no line ends in the front of bytes in which none does
front_unended : (held front : List ℕ) → unended front ≡ true → starts_with nat_eq front held ≡ true → cut_at_ends held ≡ held ∷ []
front_unended [] front apart begins = refl
front_unended (x ∷ held) [] apart begins = absurd cc
front_unended (x ∷ held) (f ∷ front) apart begins =
    let off = both_on (eqb f 10) (unended front) apart in
    let on = and_on (eqb x f) (starts_with nat_eq front held) begins in
    let is : eqb x 10 ≡ false = ap (λ n. eqb n 10) (eqb-true x f on.0) ∙ off.0 in
    rw (is, front_unended held front off.1 on.1) refl

-- where no line may come, none begins so
none_begin : (end : InputEnd) (bytes : List ℕ) (f : ℕ) (front : List ℕ) → next_begins (f ∷ front) (pieces_in end 0 bytes) ≡ false
none_begin end [] f front = nothing_begins end 0 f front
none_begin end (x ∷ xs) f front = rw (none_left end (x ∷ xs) (omega arith)) refl

-- ---- what a reader of lines can know of the next piece

pub no_line : (v : LinesValue) (front : List ℕ) (ps : List PieceValue) → 0 < length front → v.lines_left ≡ 0 → CanCome v ps → next_begins front ps ≡ false
no_line v [] ps some none can = absurd (omega (arith, some))
no_line v (f ∷ front) ps some none can = rw (can.1.are, none) (none_begin can.0 (v.held ++ can.1.more) f front)

begins_held : (v : LinesValue) (front : List ℕ) (ps : List PieceValue) → 0 < length front → 0 < v.lines_left → unended front ≡ true → (can : CanCome v ps) → next_begins front ps ≡ starts_with nat_eq (v.held ++ can.1.more) front
begins_held v [] ps some lines apart can = absurd (omega (arith, some))
begins_held v (f ∷ front) ps some lines apart can = ap (next_begins (f ∷ front)) can.1.are ∙ begins_so can.0 v.lines_left (v.held ++ can.1.more) f front lines apart

pub enough_begins : (v : LinesValue) (front : List ℕ) (ps : List PieceValue) → 0 < length front → 0 < v.lines_left → unended front ≡ true → length front ≤ length v.held → CanCome v ps → next_begins front ps ≡ starts_with nat_eq v.held front
enough_begins v front ps some lines apart enough can = begins_held v front ps some lines apart can ∙ longer_begins v.held can.1.more front enough

pub all_begins : (v : LinesValue) (front : List ℕ) (ps : List PieceValue) → 0 < length front → 0 < v.lines_left → unended front ≡ true → (v.reading ≡ Open → ⊥) → CanCome v ps → next_begins front ps ≡ starts_with nat_eq v.held front
all_begins v front ps some lines apart ended can =
    begins_held v front ps some lines apart can ∙ ap (λ (l : List ℕ). starts_with nat_eq l front) (ap (λ (l : List ℕ). v.held ++ l) (nothing_comes v.reading v.known can.0 can.1.more ended can.1.comes) ∙ append-nil v.held)

pub otherwise : (v : LinesValue) (front : List ℕ) (ps : List PieceValue) → 0 < length front → 0 < v.lines_left → unended front ≡ true → length v.held ≤ length front → starts_with nat_eq front v.held ≡ false → CanCome v ps → next_begins front ps ≡ false
otherwise v front ps some lines apart short other can = begins_held v front ps some lines apart can ∙ otherwise_begins v.held can.1.more front short other

pub undecided : (v : LinesValue) (front : List ℕ) → 0 < v.lines_left → unended front ≡ true → length v.held ≤ length front → v.reading ≡ Open → starts_with nat_eq front v.held ≡ true → IsUndecided (length front) v
undecided v front lines apart short still begins = record { unended = front_unended v.held front apart begins; short = short; goes_on = still; some_line = inr lines }
