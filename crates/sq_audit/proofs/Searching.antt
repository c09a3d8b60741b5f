-- Lists by id: the first place of an id, and what is counted of it from there on.
use Rattle.std.proofs.Common.{◌≡◌, inl, inr, ⊎_elim, ℕ, suc, ◌+◌, ◌==◌, ◌&&◌, ◌<◌, ◌≤◌, nat_lt, Bool, true, false, List, [], ◌∷◌, ◌++◌, take, drop, map, get_or, slice_get, Contains, Some, None, refl, sym, ap, ◌∙◌, subst, arith, eqb-true, eq-eqb, true≢false, ltb-true, ltb-false}
use Rattle.std.specs.Prelude.{cond, count_by}
use Rattle.std.specs.List.{take_while}
use Rattle.std.specs.List.Sorted.{IsPartitionPoint}
use Rattle.std.proofs.lemmas.Bool.{cases_Bool, cases_lt, and_parts}
use Rattle.std.proofs.lemmas.List.{take_more, map-append}
use Rattle.std.proofs.lemmas.List.Sorted.{IsPartitionedBy-ltb, IsNonDecreasingBy-drop, sum_by-IsPermutation}
use Rattle.std.proofs.lemmas.List.Sums.{take_while-cons}
use Rattle.std.proofs.lemmas.Option.{slice_get_within, get_or_from_slice_get}
use Rattle.sq_gather.proofs.Prelude.{Contains-first, Contains-slice_get, slice_get-Contains, stands_at}
use Rattle.sq_gather.specs.Prelude.{ReceiptValue}
use Rattle.sq_audit.specs.ById.{listed_id, AreById, is_id_and_root, id_and_root, ListsIds}
use Rattle.sq_audit.specs.Counts.{has_id_and_root}
use Rattle.sq_audit.proofs.Each.{no_some}
use Rattle.sq_audit.proofs.Knowing.{count_first}
use Rattle.sq_audit.proofs.Lists.{counted, count_parts, PartsAt, taken_at, dropped_at}

-- what nothing passes counts nothing
none_counted : {X : Type 0} (p : X → Bool) (xs : List X) → ((x : X) → Contains xs x → p x ≡ true → ⊥) → count_by p xs ≡ 0
none_counted p xs none =
    ⊎_elim
    (λ some. let one = counted p xs some in absurd (none one.one (Contains-slice_get xs one.place one.one one.there) one.passes))
    (λ few. omega (arith, few))
    (cases_lt 0 (count_by p xs))

-- a count of what is made of each
count_made : {X Y : Type 0} (f : X → Y) (p : Y → Bool) (xs : List X) → count_by p (map f xs) ≡ count_by (λ x. p (f x)) xs
count_made f p [] = refl
count_made f p (x ∷ xs) =
    count_first p (f x) (map f xs) ∙ ap (λ n. cond (p (f x)) 1 0 + n) (count_made f p xs) ∙ sym (count_first (λ y. p (f y)) x xs)

-- the id of what is counted
counted_id : (id root : ℕ) (one : ℕ × ℕ) → is_id_and_root id root one ≡ true → one.0 ≡ id
counted_id id root one passes = eqb-true one.0 id (and_parts (one.0 == id) (one.1 == root) passes).0

-- in a list by id, none of whose ids is below this one, those with this id come first
counted_first : (id root : ℕ) (list : List (ℕ × ℕ)) → AreById list → ((one : ℕ × ℕ) → Contains list one → id ≤ one.0)
    → count_by (is_id_and_root id root) list ≡ count_by (λ one. one.1 == root) (take_while (λ one. one.0 == id) list)
counted_first id root [] by from = refl
counted_first id root (one ∷ list) by from =
    elim (cases_Bool (one.0 == id)) [
      | inl same ↦
          count_first (is_id_and_root id root) one list
          ∙ ap (λ b. cond (b && (one.1 == root)) 1 0 + count_by (is_id_and_root id root) list) same
          ∙ ap (λ n. cond (one.1 == root) 1 0 + n) (counted_first id root list rest (λ other has. from other (later other has)))
          ∙ sym (count_first (λ (k : ℕ × ℕ). k.1 == root) one run)
          ∙ ap (count_by (λ (k : ℕ × ℕ). k.1 == root)) (sym (taken same))
      | inr other ↦
          none_counted (is_id_and_root id root) (one ∷ list) (none other)
          ∙ ap (count_by (λ (k : ℕ × ℕ). k.1 == root)) (sym (taken other))
    ]
  where
    run : List (ℕ × ℕ)
    run = take_while (λ (k : ℕ × ℕ). k.0 == id) list

    rest : AreById list
    rest i j d upto within = by (suc i) (suc j) d (omega (arith, upto)) (omega (arith, within))

    later : (other : ℕ × ℕ) → Contains list other → Contains (one ∷ list) other
    later other has = Contains-slice_get (one ∷ list) (suc has.0) other (slice_get-Contains list other has)

    taken : {b : Bool} → (one.0 == id) ≡ b → take_while (λ (k : ℕ × ℕ). k.0 == id) (one ∷ list) ≡ cond b (one ∷ run) []
    taken {b} is = take_while-cons (λ (k : ℕ × ℕ). k.0 == id) one list ∙ ap (λ c. cond c (one ∷ run) []) is

    above : (one.0 == id) ≡ false → id < one.0
    above other =
        ⊎_elim
        (λ less. less)
        (λ upto.
        let low = from one (Contains-first one list) in
        let same : one.0 ≡ id = omega (arith, upto, low) in
        absurd (true≢false (sym (eq-eqb one.0 id same) ∙ other)))
        (cases_lt id one.0)

    none : (one.0 == id) ≡ false → (k : ℕ × ℕ) → Contains (one ∷ list) k → is_id_and_root id root k ≡ true → ⊥
    none other k has passes =
        let at = slice_get-Contains (one ∷ list) k has in
        let here = get_or_from_slice_get (one ∷ list) has.0 k k at in
        let upto : one.0 ≤ k.0 = subst (λ (x : ℕ × ℕ). one.0 ≤ x.0) here (by 0 has.0 k (omega arith) (slice_get_within (one ∷ list) has.0 k at)) in
        let low = above other in
        let same = counted_id id root k passes in
        omega (arith, upto, low, same)

-- a list by id, those below an id before this place
module _ (list : List (ℕ × ℕ)) (by : AreById list) (id first : ℕ) (point : PartsAt (λ (one : ℕ × ℕ). nat_lt one.0 id) list first) where
  parted : IsPartitionPoint (λ one. nat_lt one.0 id ≡ true) (λ one. nat_lt one.0 id ≡ false) list first
  parted = point (IsPartitionedBy-ltb listed_id list id by)

  low : (k : ℕ) (one : ℕ × ℕ) → slice_get list k ≡ Some one → k < first → one.0 < id
  low k one at before =
      let here = get_or_from_slice_get list k one one at in
      ltb-true one.0 id (ap (λ (x : ℕ × ℕ). nat_lt x.0 id) (sym here) ∙ parted.0 k one (omega arith) before)

  high : (k : ℕ) (one : ℕ × ℕ) → slice_get list k ≡ Some one → first ≤ k → id ≤ one.0
  high k one at behind =
      let here = get_or_from_slice_get list k one one at in
      ltb-false one.0 id (ap (λ (x : ℕ × ℕ). nat_lt x.0 id) (sym here) ∙ parted.1 k one behind (slice_get_within list k one at))

  -- what has the id is there or behind
  behind : (one : ℕ × ℕ) (has : Contains list one) → one.0 ≡ id → first ≤ has.0
  behind one has same =
      ⊎_elim
      (λ before. let less = low has.0 one (slice_get-Contains list one has) before in absurd (omega (arith, less, same)))
      (λ from. from)
      (cases_lt has.0 first)

  pub none_past : slice_get list first ≡ None → (one : ℕ × ℕ) → Contains list one → one.0 ≡ id → ⊥
  none_past none one has same =
      let within = slice_get_within list has.0 one (slice_get-Contains list one has) in
      let from = behind one has same in
      let last = stands_at list first (omega (arith, within, from)) in
      no_some last.0 (sym none ∙ last.1)

  pub none_other : (found : ℕ × ℕ) → slice_get list first ≡ Some found → (found.0 ≡ id → ⊥) → (one : ℕ × ℕ) → Contains list one → one.0 ≡ id → ⊥
  none_other found there apart one has same =
      let at = slice_get-Contains list one has in
      let here = get_or_from_slice_get list has.0 one found at in
      let now = get_or_from_slice_get list first found found there in
      let rises = by first has.0 found (behind one has same) (slice_get_within list has.0 one at) in
      let upto : found.0 ≤ one.0 = subst (λ (x : ℕ × ℕ). found.0 ≤ x.0) here (subst (λ (x : ℕ × ℕ). x.0 ≤ (get_or list has.0 found).0) now rises) in
      let from = high first found there (omega arith) in
      apart (omega (arith, upto, from, same))

  pub counted_from : (root : ℕ) → count_by (is_id_and_root id root) list ≡ count_by (λ one. one.1 == root) (take_while (λ one. one.0 == id) (drop first list))
  counted_from root =
      let none = none_counted (is_id_and_root id root) (take first list) (λ one has passes.
      let stood = taken_at list first has.0 one (slice_get-Contains (take first list) one has) in
      let less = low has.0 one stood.there stood.before in
      let same = counted_id id root one passes in
      omega (arith, less, same)) in
      let some = counted_first id root (drop first list) (IsNonDecreasingBy-drop listed_id first list by) (λ one has.
      high (first + has.0) one (dropped_at list first has.0 one (slice_get-Contains (drop first list) one has)) (omega arith)) in
      let both = count_parts (is_id_and_root id root) list first in
      omega (arith, none, some, both)

-- one more is listed
pub listed_next : (receipts : List ReceiptValue) (at : ℕ) (receipt : ReceiptValue) → slice_get receipts at ≡ Some receipt → (old new : List (ℕ × ℕ)) (one : ℕ × ℕ) → one ≡ id_and_root receipt
    → new ≡ old ++ one ∷ [] → old ≡ map id_and_root (take at receipts) → new ≡ map id_and_root (take (at + 1) receipts)
listed_next receipts at receipt there old new one is pushed so_far =
    pushed ∙ (λ k. so_far k ++ is k ∷ [])
    ∙ sym (ap (map id_and_root) (take_more receipts at receipt (slice_get_within receipts at receipt there) ∙ ap (λ (r : ReceiptValue). take at receipts ++ r ∷ []) (get_or_from_slice_get receipts at receipt receipt there))
    ∙ map-append id_and_root (take at receipts) (receipt ∷ []))

-- as many of the ids of receipts as there are receipts of them
pub listed_count : (receipts : List ReceiptValue) (ids : List (ℕ × ℕ)) → ListsIds receipts ids → (id root : ℕ)
    → count_by (is_id_and_root id root) ids ≡ count_by (has_id_and_root id root) receipts
listed_count receipts ids lists id root =
    sum_by-IsPermutation (λ one. cond (is_id_and_root id root one) 1 0) (map id_and_root receipts) ids lists.all
    ∙ count_made id_and_root (is_id_and_root id root) receipts
