-- The pieces that a reader of lines may give.
use Rattle.std.proofs.Common.{◌≡◌, ℕ, ◌+◌, ◌-◌, ◌<◌, ◌≤◌, Bool, true, false, cond, eqb, List, [], ◌∷◌, ◌++◌, length, Option, Some, None, inl, inr, refl, sym, ap, ◌∙◌, subst, append_assoc, arith}
use Rattle.std.specs.Prelude.{nat_lt, ◌⊎◌}
use Rattle.std.specs.Io.KnownBytes.{Consumes, Keeps}
use Rattle.std.proofs.KnownBytes.{Consumes-nil, Consumes-trans, Consumes-kept}
use Rattle.std.proofs.lemmas.Bool.{le-ltb}
use Rattle.std.proofs.lemmas.Bool.Decides.{nat_tests}
use Rattle.std.proofs.lemmas.List.{append-nil, length-append}
use Rattle.sq_text.specs.declared.buffer.TheConstants.{MAX_UNENDED}
use Rattle.sq_text.specs.declared.reader.Next.{Next as NextPiece}
use Rattle.sq_text.specs.declared.reader.Next.TheVariants as next
use Rattle.sq_text.specs.declared.reader.ReadState.{ReadState}
use Rattle.sq_text.specs.declared.reader.ReadState.TheVariants.{Open, Ended}
use Rattle.sq_text.specs.declared.reader.ReadState.TheVariants as reading
use Rattle.sq_text.specs.Pieces.{cut_at_ends, PieceValue, Line, Rest, Failed, Endless, TooMany, InputEnd, Whole, Cut, last_piece, ending_piece, line_then, pieces_of, pieces_in, next_line_number, bytes_of}
use Rattle.sq_text.specs.Coming.{LinesValue, left_behind, Comes, CanEnd, CanCome, CameBefore, EndsIn, BeginLong, IsLong, Gives, Finds, ReadsOn}
use Rattle.sq_text.proofs.Ends.{HasFirst, has_first, unended_then, line_then_parts}

-- some bytes can come, and then the reading ends somehow
pub record SomeMore (status : ReadState) (known : Option (List ℕ)) : Type 0 where
  pub more : List ℕ
  pub end : InputEnd
  pub comes : Comes status known end more

pub some_more : (now : ReadState) (known : Option (List ℕ)) → SomeMore now known
some_more Ended known = record { more = []; end = Whole; comes = (refl, refl) }
some_more reading.Failed known = record { more = []; end = Cut known; comes = (refl, refl) }
some_more Open None = record { more = []; end = Whole; comes = tt }
some_more Open (Some left) = record { more = left; end = Whole; comes = sym (append-nil left) }

-- it ends as a whole, or behind what this reader has left
pub some_end : (now : ReadState) (known : Option (List ℕ)) → ((some_more now known).end ≡ Whole) ⊎ ((some_more now known).end ≡ Cut known)
unfolding some_more
some_end Ended known = inl refl
some_end reading.Failed known = inr refl
some_end Open None = inl refl
some_end Open (Some left) = inl refl

-- some pieces can come
pub record SomePieces (v : LinesValue) : Type 0 where
  pub pieces : List PieceValue
  pub can_come : CanCome v pieces

pub some_pieces : (v : LinesValue) → SomePieces v
some_pieces v = let some = some_more v.reading v.known in
    record { pieces = pieces_in some.end v.lines_left (v.held ++ some.more); can_come = (some.end, record { more = some.more; comes = some.comes; are = refl }) }

-- pieces that can come before what can come now
pub come_now : (old : LinesValue) (ps : List PieceValue) (new : LinesValue) → EndsIn old ps new → CanCome old ps
come_now old ps new ends = let some = some_pieces new in (some.can_come.0, ends some.can_come.0 some.pieces some.can_come.1)

-- nothing comes once the reading is over
over : (v : LinesValue) (end : InputEnd) (ps : List PieceValue) (can : CanEnd v end ps) → v.reading ≡ Ended → (end ≡ Whole) × (can.more ≡ [])
over v end ps can ended = subst (λ r. Comes r v.known end can.more) ended can.comes

cut_off : (v : LinesValue) (end : InputEnd) (ps : List PieceValue) (can : CanEnd v end ps) → v.reading ≡ reading.Failed → (end ≡ Cut v.known) × (can.more ≡ [])
cut_off v end ps can failed = subst (λ r. Comes r v.known end can.more) failed can.comes

pub at_end : (v : LinesValue) → v.reading ≡ Ended → v.held ≡ [] → EndsIn v [] v
at_end v ended none = λ end left can.
    let is = over v end left can ended in
    record { more = can.more; comes = can.comes; are = rw (none, is.0, is.1) refl }

-- the same of a value that is seen as another
pub ends_seen : (pieces : LinesValue → List PieceValue) (v w new : LinesValue) → v ≡ w → EndsIn v (pieces v) new → EndsIn w (pieces w) new
ends_seen pieces v w new same ends = subst (λ (u : LinesValue). EndsIn u (pieces u) new) same ends

-- where no line may come, no byte may
nothing_after : (end : InputEnd) (parts : List (List ℕ)) (x : ℕ) (first : List ℕ) (others : List (List ℕ)) → parts ≡ (x ∷ first) ∷ others → pieces_of end 0 parts ≡ TooMany ∷ []
nothing_after end parts x first [] e = rw e refl
nothing_after end parts x first (other ∷ others) e = rw e refl

pub none_left : (end : InputEnd) (bytes : List ℕ) → 0 < length bytes → pieces_in end 0 bytes ≡ TooMany ∷ []
none_left end [] some = absurd (omega arith)
none_left end (x ∷ xs) some = by_test (eqb x 10) refl (has_first xs)
  where
    by_test : (b : Bool) → eqb x 10 ≡ b → HasFirst xs → pieces_in end 0 (x ∷ xs) ≡ TooMany ∷ []
    by_test true e after = rw (e, after.are) refl
    by_test false e after = nothing_after end (cut_at_ends (x ∷ xs)) x after.first after.others (rw (e, after.are) refl)

pub too_many : (v : LinesValue) → v.lines_left ≡ 0 → 0 < length v.held → EndsIn v (TooMany ∷ []) v
too_many v none some = λ end left can.
    record { more = can.more; comes = can.comes; are = rw none (sym (none_left end (v.held ++ can.more) (omega (arith, length-append v.held can.more)))) }

-- a line and what comes after it
line_first : (end : InputEnd) (lines : ℕ) (line after : List ℕ) → cut_at_ends line ≡ line ∷ [] → pieces_in end lines (line ++ (10 ∷ after)) ≡ line_then lines line (pieces_in end (lines - 1) after)
line_first end lines line after e = let next = has_first after in rw (line_then_parts line after e, next.are) refl

some_line : (lines : ℕ) (line : List ℕ) (others : List PieceValue) (b : Bool) → eqb lines 0 ≡ false → nat_lt MAX_UNENDED (length line) ≡ b → line_then lines line others ≡ cond b (Endless (next_line_number lines) line ∷ []) (Line (next_line_number lines) line ∷ others)
some_line lines line others b some short = rw (some, short) refl

whole_line : (end : InputEnd) (lines : ℕ) (line after : List ℕ) → cut_at_ends line ≡ line ∷ [] → length line ≤ MAX_UNENDED → pieces_in end (lines + 1) (line ++ (10 ∷ after)) ≡ Line (next_line_number (lines + 1)) line ∷ pieces_in end lines after
whole_line end lines line after e short =
    line_first end (lines + 1) line after e ∙ some_line (lines + 1) line (pieces_in end (lines + 1 - 1) after) false (grind (arith, nat_tests)) (le-ltb _ _ short)
    ∙ ap (λ n. Line (next_line_number (lines + 1)) line ∷ pieces_in end n after) (omega arith)

pub line_came : (old new : LinesValue) → new.reading ≡ old.reading → new.known ≡ old.known → old.lines_left ≡ new.lines_left + 1 → old.held ≡ new.piece ++ (10 ∷ new.held) → cut_at_ends new.piece ≡ new.piece ∷ [] → length new.piece ≤ MAX_UNENDED → CameBefore old (Line (next_line_number old.lines_left) new.piece) new
line_came old new ended known lines held unended short = λ end ps can. record {
  more = can.more;
  comes = subst (λ b. Comes b old.known end can.more) ended (subst (λ k. Comes new.reading k end can.more) known can.comes);
  are = rw (can.are, lines, held, append_assoc new.piece (10 ∷ new.held) can.more) (sym (whole_line end new.lines_left new.piece (new.held ++ can.more) unended short));
}

-- what is held is all, and no line ends in it
last_part : (end : InputEnd) (lines : ℕ) (bytes : List ℕ) → cut_at_ends bytes ≡ bytes ∷ [] → pieces_in end lines bytes ≡ last_piece end lines bytes
last_part end lines bytes e = rw e refl

rest_piece : (lines : ℕ) (bytes : List ℕ) → 0 < lines → 0 < length bytes → length bytes ≤ MAX_UNENDED → last_piece Whole lines bytes ≡ Rest (next_line_number lines) bytes ∷ []
rest_piece lines [] some nonempty short = absurd (omega arith)
rest_piece lines (x ∷ xs) some nonempty short =
    let positive : eqb lines 0 ≡ false = grind (arith, nat_tests) in
    let is : nat_lt MAX_UNENDED (length (x ∷ xs)) ≡ false = le-ltb _ _ short in
    rw (positive, is) refl

pub rest_comes : (v new : LinesValue) → v.reading ≡ Ended → new.reading ≡ Ended → cut_at_ends v.held ≡ v.held ∷ [] → 0 < v.lines_left → 0 < length v.held → length v.held ≤ MAX_UNENDED → EndsIn v (Rest (next_line_number v.lines_left) v.held ∷ []) new
rest_comes v new ended still unended some nonempty short = λ end left can.
    let is = over new end left can still in
    record { more = []; comes = subst (λ r. Comes r v.known end []) (sym ended) (is.0, refl); are = rw (is.0, append-nil) (sym (last_part Whole v.lines_left v.held unended ∙ rest_piece v.lines_left v.held some nonempty short)) }

failed_piece : (known : Option (List ℕ)) (lines : ℕ) (bytes : List ℕ) → (bytes ≡ []) ⊎ (0 < lines) → length bytes ≤ MAX_UNENDED → last_piece (Cut known) lines bytes ≡ Failed (next_line_number lines) bytes ∷ []
failed_piece known lines [] some short = refl
failed_piece known lines (x ∷ xs) (inl none) short = absurd cc
failed_piece known lines (x ∷ xs) (inr some) short =
    let positive : eqb lines 0 ≡ false = grind (arith, nat_tests) in
    let is : nat_lt MAX_UNENDED (length (x ∷ xs)) ≡ false = le-ltb _ _ short in
    rw (positive, is) refl

-- what came before a read failed
pub failed_comes : (v : LinesValue) → v.reading ≡ reading.Failed → cut_at_ends v.held ≡ v.held ∷ [] → (v.held ≡ []) ⊎ (0 < v.lines_left) → length v.held ≤ MAX_UNENDED → EndsIn v (Failed (next_line_number v.lines_left) v.held ∷ []) v
failed_comes v failed unended some short = λ end left can.
    let is = cut_off v end left can failed in
    record { more = []; comes = subst (λ r. Comes r v.known end []) (sym failed) (is.0, refl); are = rw (is.0, append-nil) (sym (last_part (Cut v.known) v.lines_left v.held unended ∙ failed_piece v.known v.lines_left v.held some short)) }

-- a piece that is too long
pub long_line : (v : LinesValue) (most : ℕ) (line rest : List ℕ) → most ≤ MAX_UNENDED → 0 < v.lines_left → v.held ≡ line ++ (10 ∷ rest) → cut_at_ends line ≡ line ∷ [] → MAX_UNENDED < length line → IsLong most v
long_line v most line rest within some held unended long = λ ps can.
    let positive : eqb v.lines_left 0 ≡ false = grind (arith, nat_tests) in
    let over_it : nat_lt MAX_UNENDED (length line) ≡ true = grind (arith, nat_tests) in
    let after = rest ++ can.1.more in
    let is : ps ≡ Endless (next_line_number v.lines_left) line ∷ [] =
    can.1.are ∙ rw (held, append_assoc line (10 ∷ rest) can.1.more) (line_first can.0 v.lines_left line after unended ∙ some_line v.lines_left line (pieces_in can.0 (v.lines_left - 1) after) true positive over_it) in
    subst (BeginLong most) (sym is) (omega (arith, within, long))

-- the first piece has the bytes of the first part
record FirstPiece (ps : List PieceValue) (bytes : List ℕ) : Type 0 where
  piece : PieceValue
  others : List PieceValue
  are : ps ≡ piece ∷ others
  of : bytes_of piece ≡ bytes

either_first : (b : Bool) (number : ℕ) (bytes : List ℕ) (one : List PieceValue) (first : PieceValue) (others : List PieceValue) → one ≡ first ∷ others → bytes_of first ≡ bytes → FirstPiece (cond b (Endless number bytes ∷ []) one) bytes
either_first true number bytes one first others e is = record { piece = Endless number bytes; others = []; are = refl; of = refl }
either_first false number bytes one first others e is = record { piece = first; others = others; are = e; of = is }

-- the piece of bytes that aren't ended
ending_first : (end : InputEnd) (lines x : ℕ) (xs : List ℕ) → FirstPiece (ending_piece end lines (x ∷ xs)) (x ∷ xs)
ending_first Whole lines x xs = record { piece = Rest (next_line_number lines) (x ∷ xs); others = []; are = refl; of = refl }
ending_first (Cut known) lines x xs = record { piece = Failed (next_line_number lines) (x ∷ xs); others = []; are = refl; of = refl }

first_piece : (end : InputEnd) (lines : ℕ) (parts : List (List ℕ)) (x : ℕ) (first : List ℕ) (others : List (List ℕ)) → 0 < lines → parts ≡ (x ∷ first) ∷ others → FirstPiece (pieces_of end lines parts) (x ∷ first)
first_piece end lines parts x first [] some e =
    let positive : eqb lines 0 ≡ false = grind (arith, nat_tests) in
    let last = ending_first end lines x first in
    rw (e, positive) (either_first (nat_lt MAX_UNENDED (length (x ∷ first))) (next_line_number lines) (x ∷ first) (ending_piece end lines (x ∷ first)) last.piece last.others last.are last.of)
first_piece end lines parts x first (other ∷ others) some e =
    let positive : eqb lines 0 ≡ false = grind (arith, nat_tests) in
    let after = pieces_of end (lines - 1) (other ∷ others) in
    rw (e, positive) (either_first (nat_lt MAX_UNENDED (length (x ∷ first))) (next_line_number lines) (x ∷ first) (Line (next_line_number lines) (x ∷ first) ∷ after) (Line (next_line_number lines) (x ∷ first)) after refl refl)

first_held : (end : InputEnd) (lines : ℕ) (held more : List ℕ) → 0 < lines → 0 < length held → cut_at_ends held ≡ held ∷ [] → (h : HasFirst more) → FirstPiece (pieces_in end lines (held ++ more)) (held ++ h.first)
first_held end lines [] more some nonempty unended h = absurd (omega arith)
first_held end lines (x ∷ xs) more some nonempty unended h = first_piece end lines (cut_at_ends ((x ∷ xs) ++ more)) x (xs ++ h.first) h.others some (unended_then (x ∷ xs) more h.first h.others unended h.are)

pub long_unended : (v : LinesValue) (most : ℕ) → 0 < v.lines_left → cut_at_ends v.held ≡ v.held ∷ [] → most < length v.held → IsLong most v
long_unended v most some unended long = λ ps can.
    let h = has_first can.1.more in
    let first = first_held can.0 v.lines_left v.held can.1.more some (omega (arith, long)) unended h in
    let longer : most < length (bytes_of first.piece) = rw first.of (omega (arith, long, length-append v.held h.first)) in
    subst (BeginLong most) (sym (can.1.are ∙ first.are)) longer

-- ---- reading more

pub read_before : (old new : LinesValue) (bytes : List ℕ) → old.reading ≡ Open → new.reading ≡ Open → new.lines_left ≡ old.lines_left → new.held ≡ old.held ++ bytes → Consumes old.known new.known bytes → (end : InputEnd) (ps : List PieceValue) → CanEnd new end ps → CanEnd old end ps
read_before old new bytes was_open still lines held took end ps can = record {
  more = bytes ++ can.more;
  comes = subst (λ r. Comes r old.known end (bytes ++ can.more)) (sym was_open) (Consumes-trans old.known new.known (left_behind end) bytes can.more took (subst (λ b. Comes b new.known end can.more) still can.comes));
  are = can.are ∙ (rw (lines, held) (ap (λ l. pieces_in end old.lines_left l) (append_assoc old.held bytes can.more)));
}

-- what comes after the end of the reading is nothing
pub nothing_comes : (now : ReadState) (known : Option (List ℕ)) (end : InputEnd) (more : List ℕ) → (now ≡ Open → ⊥) → Comes now known end more → more ≡ []
nothing_comes Open known end more closed comes = absurd (closed refl)
nothing_comes Ended known end more closed comes = comes.1
nothing_comes reading.Failed known end more closed comes = comes.1

-- nothing was read, and then the reading ends in one way
none_before : (old new : LinesValue) (last : InputEnd) → old.reading ≡ Open → new.lines_left ≡ old.lines_left → new.held ≡ old.held → Consumes old.known (left_behind last) [] → (end : InputEnd) (ps : List PieceValue) (can : CanEnd new end ps) → (end ≡ last) × (can.more ≡ []) → CanEnd old end ps
none_before old new last was_open lines held none end ps can is = record {
  more = [];
  comes = subst (λ r. Comes r old.known end []) (sym was_open) (subst (λ (e : InputEnd). Consumes old.known (left_behind e) []) (sym is.0) none);
  are = can.are ∙ rw (lines, held, is.1) refl;
}

pub fail_before : (old new : LinesValue) → old.reading ≡ Open → new.reading ≡ reading.Failed → new.lines_left ≡ old.lines_left → new.held ≡ old.held → Keeps old.known new.known → (end : InputEnd) (ps : List PieceValue) → CanEnd new end ps → CanEnd old end ps
fail_before old new was_open failed lines held keeps end ps can =
    none_before old new (Cut new.known) was_open lines held (Consumes-kept old.known old.known new.known [] (Consumes-nil old.known) keeps) end ps can (cut_off new end ps can failed)

-- a piece takes one line at most
pub takes_one_line : (most : ℕ) (old new : LinesValue) (told_next : NextPiece) → Gives most old told_next new → old.lines_left ≤ new.lines_left + 1
takes_one_line most old new next.Line gives = omega (arith, gives.1)
takes_one_line most old new next.Rest gives = omega (arith, gives.1)
takes_one_line most old new next.Failed gives = omega (arith, ap (λ (v : LinesValue). v.lines_left) gives.2)
takes_one_line most old new next.Long gives = omega (arith, ap (λ (v : LinesValue). v.lines_left) gives.1)
takes_one_line most old new next.TooMany gives = omega (arith, ap (λ (v : LinesValue). v.lines_left) gives.1)
takes_one_line most old new next.End gives = omega (arith, ap (λ (v : LinesValue). v.lines_left) gives.1)
takes_one_line most old new next.Unread gives = omega (arith, ap (λ (v : LinesValue). v.lines_left) gives.1)

-- ---- as much as is needed to know what comes next

pub found : (most : ℕ) (first old new : LinesValue) (told_next : NextPiece) → ReadsOn first old → Gives most old told_next new → (told_next ≡ next.Unread → ⊥) → Finds most first told_next new
found most first old new next.Line on gives told = (
  (λ end ps can. subst (λ n. CanEnd first end (Line (next_line_number n) new.piece ∷ ps)) on.1 (on.0 end (Line (next_line_number old.lines_left) new.piece ∷ ps) (gives.0 end ps can))),
  sym on.1 ∙ gives.1,
  gives.2,
)
found most first old new next.Rest on gives told = ((λ end left can. subst (λ n. CanEnd first end (Rest (next_line_number n) new.piece ∷ [])) on.1 (on.0 end _ (gives.0 end left can))), gives.2)
found most first old new next.Failed on gives told = (
  old.held,
  (λ end left can. subst (λ n. CanEnd first end (Failed (next_line_number n) old.held ∷ [])) on.1 (on.0 end _ (gives.0 end left can))),
  gives.1,
  ap (λ (v : LinesValue). v.reading) gives.2 ∙ gives.3,
)
found most first old new next.Long on gives told = subst (λ (v : LinesValue). ReadsOn first v × IsLong most v) (sym gives.1) (on, gives.0)
found most first old new next.TooMany on gives told = λ end left can. on.0 end _ (gives.0 end left can)
found most first old new next.End on gives told = λ end left can. on.0 end _ (gives.0 end left can)
found most first old new next.Unread on gives told = absurd (told refl)
