-- What is written of the receipts of several partitions is an interleaving.
use Rattle.std.proofs.Common.{◌≡◌, ⊎_elim, ℕ, zero, suc, ◌+◌, ◌<◌, ◌≤◌, ◌==◌, Bool, true, false, if◌then◌else◌, List, [], ◌∷◌, ◌++◌, length, map, slice_get, Some, refl, sym, ap, ◌∙◌, subst, arith}
use Rattle.std.specs.Prelude.{All, slice_set}
use Rattle.std.specs.List.{range_with_len}
use Rattle.std.proofs.lemmas.Bool.{cases_lt, eq-eqb, ne_eqb}
use Rattle.std.proofs.lemmas.List.Elements.{All-nil, All-cons}
use Rattle.sq_node_model.specs.NodeValue.{ReceiptValue}
use Rattle.sq_node.specs.NodeState.{NodeState}
use Rattle.sq_engine.specs.declared.event.Event.{Event}
use Rattle.sq_engine.specs.declared.event.Event.TheVariants.{Posts, Refuses, Answers, Drops, Loses, Rests, Ends, MovesTo}
use Rattle.sq_engine.specs.Events.{given_from, arrived_from}
use Rattle.sq_engine.specs.Serving.{AllArrive}
use Rattle.sq_serving.specs.Receipts.{Interleaves}
use Rattle.sq_serving.specs.Becoming.{ServeDeskValue}
use Rattle.sq_serving.specs.Written.{SaidLine, OfReceipt, Other, told_from, receipts_said, given_by_parts, WritesEach}

module _ {X : Type 0} where
  -- what is the same from a number on
  same_from : (f g : ℕ → X) (a n : ℕ) → ((k : ℕ) → a ≤ k → f k ≡ g k) → map f (range_with_len a n) ≡ map g (range_with_len a n)
  same_from f g a zero same = refl
  same_from f g a (suc n) same =
      ap (λ (x : X). x ∷ map f (range_with_len (a + 1) n)) (same a (omega arith))
      ∙ ap (λ (xs : List X). g a ∷ xs) (same_from f g (a + 1) n (λ k over. same k (omega (arith, over))))

  at_place : (f : ℕ → X) (a n i j : ℕ) → i < n → a + i ≡ j → slice_get (map f (range_with_len a n)) i ≡ Some (f j)
  at_place f a zero i j within at = absurd (omega (arith, within))
  at_place f a (suc n) zero j within at = let here : a ≡ j = omega (arith, at) in ap (λ (k : ℕ). Some (f k)) here
  at_place f a (suc n) (suc i) j within at = at_place f (a + 1) n i j (omega (arith, within)) (omega (arith, at))

  -- what differs at one place
  changed_at : (f g : ℕ → X) (a n i j : ℕ) → a + i ≡ j → ((k : ℕ) → (k ≡ j → ⊥) → f k ≡ g k)
      → slice_set (map f (range_with_len a n)) i (g j) ≡ map g (range_with_len a n)
  changed_at f g a zero i j at same = refl
  changed_at f g a (suc n) zero j at same =
      let here : j ≡ a = omega (arith, at) in
      ap (λ (k : ℕ). g k ∷ map f (range_with_len (a + 1) n)) here
      ∙ ap (λ (xs : List X). g a ∷ xs) (same_from f g (a + 1) n (λ k over. same k (λ is. omega (arith, over, at, is))))
  changed_at f g a (suc n) (suc i) j at same =
      ap (λ (x : X). x ∷ slice_set (map f (range_with_len (a + 1) n)) i (g j)) (same a (λ is. omega (arith, at, is)))
      ∙ ap (λ (xs : List X). g a ∷ xs) (changed_at f g (a + 1) n i j (omega (arith, at)) same)

abbrev pub IsNone : List ReceiptValue → Type 0
IsNone receipts = receipts ≡ []

nothing_said : (a n : ℕ) → All IsNone (map (λ part. told_from part []) (range_with_len a n))
nothing_said a zero = All-nil IsNone
nothing_said a (suc n) = All-cons IsNone [] (map (λ part. told_from part []) (range_with_len (a + 1) n)) refl (nothing_said (a + 1) n)

-- all that was said is of so many partitions
abbrev pub IsOfParts : ℕ → List SaidLine → Type 0
IsOfParts parts said = (part : ℕ) → parts ≤ part → told_from part said ≡ []

first_said : (from : ℕ) (receipt : ReceiptValue) (said : List SaidLine) → told_from from (OfReceipt from receipt ∷ said) ≡ receipt ∷ told_from from said
first_said from receipt said = ap (λ (b : Bool). (if b then receipt ∷ [] else []) ++ told_from from said) (eq-eqb from from refl)

others_said_later : (from part : ℕ) (receipt : ReceiptValue) (said : List SaidLine) → (part ≡ from → ⊥) → told_from part (OfReceipt from receipt ∷ said) ≡ told_from part said
others_said_later from part receipt said differs =
    ap (λ (b : Bool). (if b then receipt ∷ [] else []) ++ told_from part said) (ne_eqb from part (λ same. differs (sym same)))

-- what is of so many partitions with a receipt before it is without it
later_of_parts : (parts from : ℕ) (receipt : ReceiptValue) (said : List SaidLine) → from < parts → IsOfParts parts (OfReceipt from receipt ∷ said) → IsOfParts parts said
later_of_parts parts from receipt said within of part over =
    sym (others_said_later from part receipt said (λ is. omega (arith, within, over, is))) ∙ of part over

first_within : (parts from : ℕ) (receipt : ReceiptValue) (said : List SaidLine) → IsOfParts parts (OfReceipt from receipt ∷ said) → from < parts
first_within parts from receipt said of =
    ⊎_elim (λ within. within) (λ over. absurd (some_said (sym (first_said from receipt said) ∙ of from over))) (cases_lt from parts)
  where
    some_said : receipt ∷ told_from from said ≡ [] → ⊥
    some_said e = cc

pub interleaved : (parts : ℕ) (said : List SaidLine) → IsOfParts parts said
    → Interleaves (map (λ part. told_from part said) (range_with_len 0 parts)) (receipts_said said)
interleaved parts [] of = nothing_said 0 parts
interleaved parts (Other line ∷ said) of = interleaved parts said of
interleaved parts (OfReceipt from receipt ∷ said) of =
    let f : ℕ → List ReceiptValue = λ part. told_from part (OfReceipt from receipt ∷ said) in
    let g : ℕ → List ReceiptValue = λ part. told_from part said in
    let within = first_within parts from receipt said of in
    let at : 0 + from ≡ from = omega arith in
    let here = at_place f 0 parts from from within at ∙ ap (λ (l : List ReceiptValue). Some l) (first_said from receipt said) in
    let rests = changed_at f g 0 parts from from at (λ part differs. others_said_later from part receipt said differs) in (
      from,
      g from,
      here,
      subst (λ (left : List (List ReceiptValue)). Interleaves left (receipts_said said)) (sym rests)
          (interleaved parts said (later_of_parts parts from receipt said within of)),
    )

-- if nothing arrived, with this receipt or without it, nothing was given
none_before : (is_of : Bool) (receipt : ReceiptValue) (arrived given : List ReceiptValue) → (arrived ≡ [] → given ≡ [])
    → (if is_of then receipt ∷ [] else []) ++ arrived ≡ [] → (if is_of then receipt ∷ [] else []) ++ given ≡ []
none_before true receipt arrived given so none = let some : receipt ∷ arrived ≡ [] = none in absurd cc
none_before false receipt arrived given so none = so none

none_dropped : (is_of : Bool) (receipt : ReceiptValue) (arrived given : List ReceiptValue) → (arrived ≡ [] → given ≡ [])
    → (if is_of then receipt ∷ [] else []) ++ arrived ≡ [] → given ≡ []
none_dropped true receipt arrived given so none = let some : receipt ∷ arrived ≡ [] = none in absurd cc
none_dropped false receipt arrived given so none = so none

-- if nothing arrived of a partition, nothing was given of it
given_none : (part : ℕ) (events : List Event) → arrived_from part events ≡ [] → given_from part events ≡ []
given_none part [] none = refl
given_none part (Answers from receipt ∷ more) none =
    none_before (from == part) receipt (arrived_from part more) (given_from part more) (λ nothing. given_none part more nothing) none
given_none part (Drops from receipt ∷ more) none =
    none_dropped (from == part) receipt (arrived_from part more) (given_from part more) (λ nothing. given_none part more nothing) none
given_none part (Posts job ∷ more) none = given_none part more none
given_none part (Refuses job fault ∷ more) none = given_none part more none
given_none part (Loses ∷ more) none = given_none part more none
given_none part (Rests ∷ more) none = given_none part more none
given_none part (Ends ∷ more) none = given_none part more none
given_none part (MovesTo plan ∷ more) none = given_none part more none

-- what was given is what was said
pub given_interleave : (events : List Event) (old new : List NodeState) (before after : ServeDeskValue)
    (writes : WritesEach events before after) → AllArrive events old new
    → Interleaves (given_by_parts (length old) events) (receipts_said writes.said)
given_interleave events old new before after writes arrive =
    let parts = length old in
    subst (λ (lists : List (List ReceiptValue)). Interleaves lists (receipts_said writes.said))
    (same_from (λ part. told_from part writes.said) (λ part. given_from part events) 0 parts (λ part over. writes.told part))
    (interleaved parts writes.said (λ part over. writes.told part ∙ given_none part events (arrive.no_other part over)))
