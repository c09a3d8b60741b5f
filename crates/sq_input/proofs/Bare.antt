-- The bytes of lines of rows, piece by piece.
use Rattle.std.proofs.Common.{◌≡◌, ◌≢◌, ◌∙◌, ℕ, zero, suc, ◌+◌, ◌-◌, ◌^◌, min, ◌<◌, ◌≤◌, ◌==◌, ◌||◌, if◌then◌else◌, Bool, true, false, List, [], ◌∷◌, ◌++◌, length, get_or, take, drop, refl, sym, ap, subst, arith, length-drop}
use Rattle.std.specs.List.{copy_within}
use lib.Seq.{paste}
use Rattle.memchr.specs.Find.{Nowhere, NoneBefore, Passes, is_byte}
use Rattle.std.proofs.lemmas.List.{append-nil, length-take, get_or-take, take-take, take-append-drop, take_more, drop-take, drop-drop, drop_more}
use Rattle.std.proofs.lemmas.List.Edits.{length-paste, take-paste, drop-paste}
use Rattle.sq_input.specs.declared.bare_lines.TheConstants.{LINE_END, COMMENT}
use Rattle.sq_input.specs.declared.bare_lines.BarePlace.{BarePlace}
use Rattle.sq_input.specs.declared.bare_lines.BarePlace.TheVariants.{Start, Kept, Skipped}
use Rattle.sq_input.specs.Bare.{place_at, place_after, place_after_all, is_kept, bare_bytes, line_after}

-- bytes after others
pub after_append : (place : BarePlace) (xs ys : List ℕ)
    → place_after_all place (xs ++ ys) ≡ place_after_all (place_after_all place xs) ys
after_append place [] ys = refl
after_append place (x ∷ xs) ys = after_append (place_after place x) xs ys

pub lines_further : (line : ℕ) (xs ys : List ℕ) → line_after line (xs ++ ys) ≡ line_after (line_after line xs) ys
lines_further line [] ys = refl
lines_further line (x ∷ xs) ys = lines_further (if x == LINE_END then min (line + 1) (2 ^ 64 - 1) else line) xs ys

-- a byte before bytes
either : (kept : Bool) (x : ℕ) (some more all : List ℕ) → all ≡ some ++ more
    → (if kept then x ∷ all else all) ≡ (if kept then x ∷ some else some) ++ more
either true x some more all is = ap (λ (l : List ℕ). x ∷ l) is
either false x some more all is = is

pub bare_append : (place : BarePlace) (xs ys : List ℕ)
    → bare_bytes place (xs ++ ys) ≡ bare_bytes place xs ++ bare_bytes (place_after_all place xs) ys
bare_append place [] ys = refl
bare_append place (x ∷ xs) ys =
    either (is_kept (place_at place x)) x (bare_bytes (place_after place x) xs)
    (bare_bytes (place_after_all (place_after place x) xs) ys) (bare_bytes (place_after place x) (xs ++ ys))
    (bare_append (place_after place x) xs ys)

-- in a line
steady : (place : BarePlace) (x : ℕ) → place ≢ Start → place_at place x ≡ place
steady Start x within = absurd (within refl)
steady Kept x within = refl
steady Skipped x within = refl

pub in_line : (place : BarePlace) (x : ℕ) → place_at place x ≢ Start
in_line Start x =
    elim (x == LINE_END || x == COMMENT) as (λ b. (if b then Skipped else Kept) ≢ Start) [ true ↦ λ is. cc | false ↦ λ is. cc ]
in_line Kept x = λ is. cc
in_line Skipped x = λ is. cc

-- a line that is entered with its first byte is entered once
again : (place : BarePlace) (x : ℕ) → place_at (place_at place x) x ≡ place_at place x
again place x = steady (place_at place x) x (in_line place x)

pub entered_after : (place : BarePlace) (x : ℕ) (xs : List ℕ)
    → place_after_all (place_at place x) (x ∷ xs) ≡ place_after_all place (x ∷ xs)
entered_after place x xs = ap (λ (p : BarePlace). place_after_all (if x == LINE_END then Start else p) xs) (again place x)

pub entered_bare : (place : BarePlace) (x : ℕ) (xs : List ℕ) → bare_bytes (place_at place x) (x ∷ xs) ≡ bare_bytes place (x ∷ xs)
entered_bare place x xs =
    ap (λ (p : BarePlace). let more = bare_bytes (if x == LINE_END then Start else p) xs in if is_kept p then x ∷ more else more) (again place x)

-- no byte ends a line
abbrev pub NoEnd : List ℕ → Type 0
NoEnd xs = (k : ℕ) → k < length xs → (get_or xs k 0 == LINE_END) ≡ true → ⊥

if_not : {A : Type 0} (test : Bool) (x y : A) → (test ≡ true → ⊥) → (if test then x else y) ≡ y
if_not true x y not = absurd (not refl)
if_not false x y not = refl

rest_has_none : (x : ℕ) (xs : List ℕ) → NoEnd (x ∷ xs) → NoEnd xs
rest_has_none x xs none = λ k within. none (suc k) (omega arith)

first_is_none : (x : ℕ) (xs : List ℕ) → NoEnd (x ∷ xs) → (x == LINE_END) ≡ true → ⊥
first_is_none x xs none = none 0 (omega arith)

goes_on : (place : BarePlace) (x : ℕ) (xs : List ℕ) → place ≢ Start → NoEnd (x ∷ xs) → place_after place x ≡ place
goes_on place x xs within none = if_not (x == LINE_END) Start (place_at place x) (first_is_none x xs none) ∙ steady place x within

-- bytes of one line
pub same_line : (place : BarePlace) (xs : List ℕ) → place ≢ Start → NoEnd xs → place_after_all place xs ≡ place
same_line place [] within none = refl
same_line place (x ∷ xs) within none =
    ap (λ (p : BarePlace). place_after_all p xs) (goes_on place x xs within none) ∙ same_line place xs within (rest_has_none x xs none)

either_way : (kept : Bool) (xs : List ℕ) → xs ≡ (if kept then xs else xs)
either_way true xs = refl
either_way false xs = refl

kept_more : (kept : Bool) (x : ℕ) (xs : List ℕ)
    → (if kept then x ∷ (if kept then xs else []) else (if kept then xs else [])) ≡ (if kept then x ∷ xs else [])
kept_more true x xs = refl
kept_more false x xs = refl

pub line_bare : (place : BarePlace) (xs : List ℕ) → place ≢ Start → NoEnd xs
    → bare_bytes place xs ≡ (if is_kept place then xs else [])
line_bare place [] within none = either_way (is_kept place) []
line_bare place (x ∷ xs) within none =
    let more = ap (λ (p : BarePlace). bare_bytes p xs) (goes_on place x xs within none) ∙ line_bare place xs within (rest_has_none x xs none) in
    ap (λ (p : BarePlace). if is_kept p then x ∷ bare_bytes (place_after place x) xs else bare_bytes (place_after place x) xs) (steady place x within)
    ∙ ap (λ (l : List ℕ). if is_kept place then x ∷ l else l) more
    ∙ kept_more (is_kept place) x xs

pub same_number : (line : ℕ) (xs : List ℕ) → NoEnd xs → line_after line xs ≡ line
same_number line [] none = refl
same_number line (x ∷ xs) none =
    ap (λ (n : ℕ). line_after n xs) (if_not (x == LINE_END) (min (line + 1) (2 ^ 64 - 1)) line (first_is_none x xs none))
    ∙ same_number line xs (rest_has_none x xs none)

-- the same with the byte that ends the line
end_after : (place : BarePlace) (x : ℕ) → (x == LINE_END) ≡ true → place_after place x ≡ Start
end_after place x is = ap (λ (b : Bool). if b then Start else place_at place x) is

pub whole_after : (place : BarePlace) (xs : List ℕ) (x : ℕ) → place ≢ Start → NoEnd xs → (x == LINE_END) ≡ true
    → place_after_all place (xs ++ x ∷ []) ≡ Start
whole_after place xs x within none is =
    after_append place xs (x ∷ []) ∙ end_after (place_after_all place xs) x is

end_bare : (place : BarePlace) (xs : List ℕ) (x : ℕ) → place ≢ Start
    → (if is_kept place then xs else []) ++ bare_bytes place (x ∷ []) ≡ (if is_kept place then xs ++ x ∷ [] else [])
end_bare Start xs x within = absurd (within refl)
end_bare Kept xs x within = refl
end_bare Skipped xs x within = refl

pub whole_bare : (place : BarePlace) (xs : List ℕ) (x : ℕ) → place ≢ Start → NoEnd xs
    → bare_bytes place (xs ++ x ∷ []) ≡ (if is_kept place then xs ++ x ∷ [] else [])
whole_bare place xs x within none =
    bare_append place xs (x ∷ [])
    ∙ ap (λ (l : List ℕ). l ++ bare_bytes (place_after_all place xs) (x ∷ [])) (line_bare place xs within none)
    ∙ ap (λ (p : BarePlace). (if is_kept place then xs else []) ++ bare_bytes p (x ∷ [])) (same_line place xs within none)
    ∙ end_bare place xs x within

pub next_number : (line : ℕ) (xs : List ℕ) (x : ℕ) → NoEnd xs → (x == LINE_END) ≡ true
    → line_after line (xs ++ x ∷ []) ≡ min (line + 1) (2 ^ 64 - 1)
next_number line xs x none is =
    lines_further line xs (x ∷ []) ∙ ap (λ (n : ℕ). line_after n (x ∷ [])) (same_number line xs none)
    ∙ ap (λ (b : Bool). if b then min (line + 1) (2 ^ 64 - 1) else line) is

-- the piece up to the byte that ends a line, and all bytes if there is none
pub record IsPiece (place : BarePlace) (line : ℕ) (piece : List ℕ) (after : BarePlace) (next : ℕ) : Type 0 where
  pub bare : bare_bytes place piece ≡ (if is_kept place then piece else [])
  pub after_is : place_after_all place piece ≡ after
  pub line_is : line_after line piece ≡ next

none_in : (bytes : List ℕ) (at : ℕ) → at ≤ length bytes → Nowhere (Passes (is_byte LINE_END) bytes) 0 at → NoEnd (take at bytes)
none_in bytes at within none = λ k below is.
    let short : k < at = omega (arith, below, length-take at bytes, within) in
    none k (omega arith) short (subst (λ (b : ℕ). (b == LINE_END) ≡ true) (get_or-take at bytes k 0 short) is)

pub ended_piece : (place : BarePlace) (line : ℕ) (bytes : List ℕ) (at : ℕ) → place ≢ Start
    → NoneBefore (Passes (is_byte LINE_END) bytes) 0 (length bytes) at → Passes (is_byte LINE_END) bytes at
    → IsPiece place line (take (at + 1) bytes) Start (min (line + 1) (2 ^ 64 - 1))
ended_piece place line bytes at within first is =
    let front = take at bytes in
    let end = get_or bytes at 0 in
    let none = none_in bytes at (omega (arith, first.high)) first.before in
    subst (λ (piece : List ℕ). IsPiece place line piece Start (min (line + 1) (2 ^ 64 - 1))) (sym (take_more bytes at 0 first.high)) (record {
      bare = whole_bare place front end within none;
      after_is = whole_after place front end within none is;
      line_is = next_number line front end none is;
    })

pub open_piece : (place : BarePlace) (line : ℕ) (bytes : List ℕ) → place ≢ Start
    → Nowhere (Passes (is_byte LINE_END) bytes) 0 (length bytes) → IsPiece place line (take (length bytes) bytes) place line
open_piece place line bytes within first =
    let none = none_in bytes (length bytes) (omega arith) first in record {
      bare = line_bare place (take (length bytes) bytes) within none;
      after_is = same_line place (take (length bytes) bytes) within none;
      line_is = same_number line (take (length bytes) bytes) none;
    }

-- lists that are the same from a place on are the same further on
drop_on : (now new : List ℕ) (from to : ℕ) → from ≤ to → drop from new ≡ drop from now → drop to new ≡ drop to now
drop_on now new from to before same =
    let more : from + (to - from) ≡ to = omega arith in
    ap (λ (n : ℕ). drop n new) (sym more) ∙ sym (drop-drop (to - from) from new) ∙ ap (drop (to - from)) same
    ∙ drop-drop (to - from) from now ∙ ap (λ (n : ℕ). drop n now) more

-- some bytes further on
take_further : (xs : List ℕ) (at count : ℕ) → take (at + count) xs ≡ take at xs ++ take count (drop at xs)
take_further xs at count =
    sym (take-append-drop at (take (at + count) xs))
    ∙ (λ i. take-take at (at + count) xs (omega arith) i ++ drop-take at count xs i)

-- the bytes before `at` were gone through: those of them that are passed on are at the front
pub record IsAt (place : BarePlace) (old now : List ℕ) (at kept : ℕ) : Type 0 where
  pub within : at ≤ length now
  pub before : kept ≤ at
  pub len : length now ≡ length old
  pub rest : drop at now ≡ drop at old
  pub bare : take kept now ≡ bare_bytes place (take at old)

-- the next piece of a line, which is passed on or not
pub record HasPiece (here : BarePlace) (now : List ℕ) (at count : ℕ) (entered : BarePlace) (is : Bool) : Type 0 where
  pub within : at < length now
  pub some : 0 < count
  pub fits : at + count ≤ length now
  pub place : entered ≡ place_at here (get_or now at 0)
  pub kept : is ≡ is_kept entered
  pub bare : bare_bytes entered (take count (drop at now)) ≡ (if is_kept entered then take count (drop at now) else [])

-- it has a first byte, with which its line is entered
first_of_piece : (now : List ℕ) (at count : ℕ) → at < length now → 0 < count
    → (more : List ℕ) × (take count (drop at now) ≡ get_or now at 0 ∷ more)
first_of_piece now at zero within some = absurd (omega (arith, some))
first_of_piece now at (suc count) within some = (take count (drop (at + 1) now), ap (take (suc count)) (drop_more now at 0 within))

module _ (place : BarePlace) (old now : List ℕ) (at kept count : ℕ) (was : IsAt place old now at kept)
    (entered : BarePlace) (is : Bool) (piece : HasPiece (place_after_all place (take at old)) now at count entered is) where
  abbrev here : BarePlace
  here = place_after_all place (take at old)

  abbrev next : List ℕ
  next = take count (drop at now)

  whole : take at old ++ next ≡ take (at + count) old
  whole = ap (λ (l : List ℕ). take at old ++ take count l) was.rest ∙ sym (take_further old at count)

  -- what a reader is after the piece
  pub place_further : place_after_all entered next ≡ place_after_all place (take (at + count) old)
  place_further =
      let byte = get_or now at 0 in
      let first = first_of_piece now at count piece.within piece.some in
      ap (λ (p : BarePlace). place_after_all p next) piece.place ∙ ap (place_after_all (place_at here byte)) first.1
      ∙ entered_after here byte first.0 ∙ ap (place_after_all here) (sym first.1)
      ∙ sym (after_append place (take at old) next) ∙ ap (place_after_all place) whole

  pub line_further : (line : ℕ) → line_after (line_after line (take at old)) next ≡ line_after line (take (at + count) old)
  line_further line = sym (lines_further line (take at old) next) ∙ ap (line_after line) whole

  -- what is passed on of it
  bare_further : bare_bytes place (take (at + count) old) ≡ take kept now ++ (if is then next else [])
  bare_further =
      let byte = get_or now at 0 in
      let first = first_of_piece now at count piece.within piece.some in
      let own : bare_bytes here next ≡ (if is then next else []) =
      ap (bare_bytes here) first.1 ∙ sym (entered_bare here byte first.0) ∙ ap (bare_bytes (place_at here byte)) (sym first.1)
      ∙ ap (λ (p : BarePlace). bare_bytes p next) (sym piece.place)
      ∙ piece.bare ∙ ap (λ (b : Bool). if b then next else []) (sym piece.kept) in
      ap (bare_bytes place) (sym whole) ∙ bare_append place (take at old) next
      ∙ ap (λ (l : List ℕ). l ++ bare_bytes here next) (sym was.bare) ∙ ap (λ (l : List ℕ). take kept now ++ l) own

  -- what is left after it
  rest_further : drop (at + count) now ≡ drop (at + count) old
  rest_further = sym (drop-drop count at now) ∙ ap (drop count) was.rest ∙ drop-drop count at old

  -- it is skipped, or it is passed on: then it is moved to the front, unless it is there
  pub skipped : is ≡ false → IsAt place old now (at + count) kept
  skipped is_so = record {
    within = piece.fits;
    before = omega (arith, was.before);
    len = was.len;
    rest = rest_further;
    bare = sym (bare_further ∙ ap (λ (b : Bool). take kept now ++ (if b then next else [])) is_so ∙ append-nil (take kept now));
  }

  pub is_there : is ≡ true → at ≤ kept → IsAt place old now (at + count) (kept + count)
  is_there is_so there =
      let same : at ≡ kept = omega (arith, was.before) in record {
        within = piece.fits;
        before = omega (arith, was.before);
        len = was.len;
        rest = rest_further;
        bare = take_further now kept count ∙ ap (λ (n : ℕ). take kept now ++ take count (drop n now)) (sym same)
            ∙ sym (bare_further ∙ ap (λ (b : Bool). take kept now ++ (if b then next else [])) is_so);
      }

  pub moved : (new : List ℕ) → is ≡ true → kept < at → new ≡ copy_within now at (at + count) kept → IsAt place old new (at + count) (kept + count)
  moved new is_so behind copied =
      let size : at + count - at ≡ count = omega arith in
      let is_new : new ≡ paste now kept (drop at now) count = copied ∙ ap (paste now kept (drop at now)) size in
      let long : count ≤ length (drop at now) = omega (arith, length-drop at now, piece.fits) in
      let room : kept ≤ length now = omega (arith, piece.within) in
      let fits : kept + count ≤ length now = omega (arith, piece.fits) in
      let len : length new ≡ length now = ap (λ (l : List ℕ). length l) is_new ∙ length-paste now kept (drop at now) count fits long in
      let left : drop (kept + count) new ≡ drop (kept + count) now = ap (drop (kept + count)) is_new ∙ drop-paste now kept (drop at now) count room long in
      record {
        within = omega (arith, len, piece.fits);
        before = omega (arith, behind);
        len = len ∙ was.len;
        rest = drop_on now new (kept + count) (at + count) (omega (arith, behind)) left ∙ rest_further;
        bare = ap (take (kept + count)) is_new ∙ take-paste now kept (drop at now) count room long
            ∙ sym (bare_further ∙ ap (λ (b : Bool). take kept now ++ (if b then next else [])) is_so);
      }
