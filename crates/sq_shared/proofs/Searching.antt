-- How a search for a free node is put together from the searches of a node's halves.
use Rattle.std.proofs.Common.{◌≡◌, ℕ, ◌+◌, ◌*◌, ◌<◌, ◌≤◌, true, lt_of_not-le, List, [], ◌∷◌, ◌++◌, length, Option, Some, None, sym, subst, inl, length-append, arith}
use mathlib.Core.Logic.{dite}
use native.Mathlib.Decide.{dec_le}
use Rattle.std.specs.Prelude.{IsTrue, nat_le, ◌&&◌}
use Rattle.std.proofs.lemmas.List.Elements.{Contains-append_left, Contains-append_right}
use Rattle.std.proofs.lemmas.Bool.Decides.{nat_tests}
use Rattle.sq_moves.specs.declared.status.Status.{Status}
use Rattle.sq_moves.specs.declared.status.Status.TheVariants.{Split, Claimed}
use Rattle.sq_moves.specs.Node.{parent, span, first_leaf, is_above, is_under}
use Rattle.sq_shared.specs.declared.view.View.{View}
use Rattle.sq_shared.specs.View.{HasSeen}
use Rattle.sq_shared.specs.Plays.{KnowsSplit, Found, Won}
use Rattle.sq_shared.specs.Walks.{is_taken, Added, HeldAbove, nodes_under, Searched}
use Rattle.sq_shared.proofs.Sights.{HasSeen-saw_new}
use Rattle.sq_moves.proofs.Nested.{Halves, above_bounds, above_within}
use Rattle.sq_shared.proofs.Walking.{Added-none, Added-found, Added-then, knows_added, itself}

-- what the tests on leaves say
both_le : (a b c d : ℕ) → a ≤ b → c ≤ d → (nat_le a b && nat_le c d) ≡ true
both_le a b c d low high = grind (arith, nat_tests)

le_both : (a b c d : ℕ) → (nat_le a b && nat_le c d) ≡ true → (a ≤ b) × (c ≤ d)
le_both a b c d h = (grind (arith, nat_tests), grind (arith, nat_tests))

under_by : (n m : ℕ) → first_leaf n ≤ first_leaf m → first_leaf m + span m ≤ first_leaf n + span n → IsTrue (is_under n m)
under_by n m low high = both_le (first_leaf n) (first_leaf m) (first_leaf m + span m) (first_leaf n + span n) low high

under_bounds : (n m : ℕ) → IsTrue (is_under n m) → (first_leaf n ≤ first_leaf m) × (first_leaf m + span m ≤ first_leaf n + span n)
under_bounds n m h = le_both (first_leaf n) (first_leaf m) (first_leaf m + span m) (first_leaf n + span n) h

some_span : (n : ℕ) → 0 < span n
some_span n = grind (arith, nat_tests)

held_more : (more looks : List (ℕ × Status)) (leaf : ℕ) → HeldAbove looks leaf → HeldAbove (more ++ looks) leaf
held_more more looks leaf held = (held.0, held.1, Contains-append_right more looks (held.0, held.1) held.2, held.3, held.4)

held_before : (looks old : List (ℕ × Status)) (leaf : ℕ) → HeldAbove looks leaf → HeldAbove (looks ++ old) leaf
held_before looks old leaf held = (held.0, held.1, Contains-append_left looks old (held.0, held.1) held.2, held.3, held.4)

-- ---- the cases of a search

-- the node itself is claimed
pub search_here : (n pull : ℕ) (v w : View) → Won v n (Claimed pull) w → Searched n pull v w (Some n)
search_here n pull v w win =
    let some = some_span n in (
      under_by n n (omega arith) (omega arith),
      ([], v, Added-none v, win, omega arith, λ leaf low high. absurd (omega arith)),
    )

-- the node is taken
pub search_taken : (n pull : ℕ) (v w : View) (st : Status) → IsTrue (is_taken st) → Found v n st w → Searched n pull v w None
search_taken n pull v w st taken found =
    let some = some_span n in
    ((n, st) ∷ [], Added-found v n st w found, omega arith, λ leaf above. (n, st, itself (n, st) [], taken, above))

-- where a node of a half is in the whole
in_left : (n m : ℕ) → Halves n → IsTrue (is_under (2 * n) m) → IsTrue (is_under n m)
in_left n m half under =
    let b = under_bounds (2 * n) m under in
    under_by n m (omega (arith, b.0, half.low)) (omega (arith, b.1, half.low, half.whole))

in_right : (n m : ℕ) → Halves n → IsTrue (is_under (2 * n + 1) m) → IsTrue (is_under n m)
in_right n m half under =
    let b = under_bounds (2 * n + 1) m under in
    under_by n m (omega (arith, b.0, half.high)) (omega (arith, b.1, half.high, half.same, half.whole))

leaf_in_left : (n leaf : ℕ) → Halves n → first_leaf n ≤ leaf → leaf < first_leaf (2 * n + 1) → IsTrue (is_above (2 * n) leaf)
leaf_in_left n leaf half low high = above_within (2 * n) leaf (omega (arith, low, half.low)) (omega (arith, high, half.low, half.high))

leaf_in_right : (n leaf : ℕ) → Halves n → first_leaf (2 * n + 1) ≤ leaf → leaf < first_leaf n + span n → IsTrue (is_above (2 * n + 1) leaf)
leaf_in_right n leaf half low high = above_within (2 * n + 1) leaf low (omega (arith, high, half.high, half.same, half.whole))

fewer_left : (n count : ℕ) → Halves n → count ≤ nodes_under (2 * n) → count + 1 ≤ nodes_under n
fewer_left n count half h =
    omega (arith, half.whole, h, half.some)

fewer : (n count more : ℕ) → Halves n → count ≤ nodes_under (2 * n) → more ≤ nodes_under (2 * n + 1) → more + (count + 1) ≤ nodes_under n
fewer n count more half h h' =
    omega (arith, half.whole, half.same, h, h', half.some)

-- the node is split, and the first half has a free node
pub search_left : (n pull m : ℕ) (v u w : View) → Halves n → Found v n Split u → Searched (2 * n) pull u w (Some m) → Searched n pull v w (Some m)
search_left n pull m v u w half found left =
    let looks = left.1.0 in
    let two = length-append looks ((n, Split) ∷ []) in
    let count = fewer_left n (length looks + 1) half left.1.4 in (
      in_left n m half left.0,
      (
        looks ++ (n, Split) ∷ [],
        left.1.1,
        Added-then v u left.1.1 [] [] ((n, Split) ∷ []) looks (Added-found v n Split u found) left.1.2,
        left.1.3,
        omega (arith, two, count),
        λ leaf low high. held_before looks ((n, Split) ∷ []) leaf (left.1.5 leaf (omega (arith, low, half.low)) high),
      ),
    )

-- the node is split, and the first half has none
module _ (n pull : ℕ) (v u x w : View) (half : Halves n) (found : Found v n Split u) (left : Searched (2 * n) pull u x None) where
  abbrev before : List (ℕ × Status)
  before = left.0 ++ (n, Split) ∷ []

  added_before : Added v [] before x
  added_before = Added-then v u x [] [] ((n, Split) ∷ []) left.0 (Added-found v n Split u found) left.1

  held_left : (leaf : ℕ) → IsTrue (is_above (2 * n) leaf) → HeldAbove before leaf
  held_left leaf above = held_before left.0 ((n, Split) ∷ []) leaf (left.3 leaf above)

  -- a leaf of n is one of either half
  by_half : (leaf : ℕ) (A : Type 0) → (leaf < first_leaf (2 * n + 1) → A) → (first_leaf (2 * n + 1) ≤ leaf → A) → A
  by_half leaf A in_first in_second = dite (dec_le (first_leaf (2 * n + 1)) leaf) (λ h. in_second h) (λ h. in_first (lt_of_not-le h))

  pub search_neither : Searched (2 * n + 1) pull x w None → Searched n pull v w None
  search_neither right =
      let two = length-append left.0 ((n, Split) ∷ []) in
      let all = length-append right.0 before in
      let count = fewer n (length left.0) (length right.0) half left.2 right.2 in (
        right.0 ++ before,
        Added-then v x w [] [] before right.0 added_before right.1,
        omega (arith, two, all, count),
        λ leaf above.
            let b = above_bounds n leaf above in
            by_half leaf (HeldAbove (right.0 ++ before) leaf) (λ first. held_more right.0 before leaf (held_left leaf (leaf_in_left n leaf half b.0 first)))
            (λ second. held_before right.0 before leaf (right.3 leaf (leaf_in_right n leaf half second b.1))),
      )

  pub search_right : (m : ℕ) → Searched (2 * n + 1) pull x w (Some m) → Searched n pull v w (Some m)
  search_right m right =
      let looks = right.1.0 in
      let two = length-append left.0 ((n, Split) ∷ []) in
      let all = length-append looks before in
      let count = fewer n (length left.0) (length looks + 1) half left.2 right.1.4 in (
        in_right n m half right.0,
        (
          looks ++ before,
          right.1.1,
          Added-then v x right.1.1 [] [] before looks added_before right.1.2,
          right.1.3,
          omega (arith, two, all, count),
          λ leaf low high.
              by_half leaf (HeldAbove (looks ++ before) leaf) (λ first. held_more looks before leaf (held_left leaf (leaf_in_left n leaf half low first)))
              (λ second. held_before looks before leaf (right.1.5 leaf second high)),
        ),
      )

  pub search_second : (result : Option ℕ) → Searched (2 * n + 1) pull x w result → Searched n pull v w result
  search_second None right = search_neither right
  search_second (Some m) right = search_right m right

-- the seat still knows that the node is split when it turns to the second half
pub knows_right : (n pull : ℕ) (v u x : View) → Found v n Split u → Searched (2 * n) pull u x None → KnowsSplit x (parent (2 * n + 1))
knows_right n pull v u x found left =
    let same : n ≡ parent (2 * n + 1) = omega arith in
    let seen : KnowsSplit u n = inl (subst (λ (y : View). HasSeen y n Split) (sym found.after) (HasSeen-saw_new v n Split)) in
    subst (λ (m : ℕ). KnowsSplit x m) same (knows_added u x [] left.0 left.1 n seen)
