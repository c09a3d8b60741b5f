-- Receipts in order, and those of one root key among them.
use Rattle.std.proofs.Common.{◌≡◌, ◌⊎◌, inl, inr, ⊎_elim, ℕ, zero, suc, ◌+◌, ◌-◌, ◌<◌, ◌≤◌, ◌==◌, Bool, true, false, List, [], ◌∷◌, length, take, drop, slice_get, filter, Some, refl, sym, ap, ◌∙◌, subst, arith, true≢false, eqb-true, Bor}
use Rattle.std.specs.declared.cmp.Ordering.{Ordering}
use Rattle.std.specs.declared.cmp.Ordering.TheVariants.{Less, Equal, Greater}
use Rattle.std.specs.Ordering.{nat_cmp, bool_cmp, ordering_then, is_lt, is_eq}
use Rattle.std.specs.Cmp.{IsTotalOrder, unsigned_tied, then_total, on_total, nat_cmp_total, bool_cmp_total}
use Rattle.std.specs.List.Sorted.{IsSortedByKey}
use Rattle.std.proofs.lemmas.Bool.{cases_Bool, cases_lt, eq-eqb, ne_eqb}
use Rattle.std.proofs.lemmas.List.Sorted.{ranks_by, sorted_far}
use Rattle.std.proofs.lemmas.Option.{slice_get_within, get_or_from_slice_get}
use Rattle.sq_gather.proofs.Prelude.{cmp_less, at_map, stands_at, filter-first, filter-other}
use Rattle.std.proofs.lemmas.List.{length-map, get_or-map}
use Rattle.sq_gather.specs.Prelude.{ReceiptValue, is_commit}
use Rattle.sq_audit.specs.Answers.{receipts_of}
use Rattle.sq_audit.specs.Told.{values_of, receipt_key, key_order, ReceiptKey, AreInOrder}

is_equal : (o : Ordering) → is_eq o ≡ true → o ≡ Equal
is_equal Less e = absurd (true≢false (sym e))
is_equal Equal e = refl
is_equal Greater e = absurd (true≢false (sym e))

cmp_equal : (x y : ℕ) → x ≡ y → nat_cmp x y ≡ Equal
cmp_equal x y same = is_equal (nat_cmp x y) (unsigned_tied x y ∙ eq-eqb x y same)

key_total : IsTotalOrder key_order
key_total = then_total (then_total (on_total (λ (k : ReceiptKey). k.0) nat_cmp_total) (on_total (λ (k : ReceiptKey). k.1) nat_cmp_total)) (on_total (λ (k : ReceiptKey). k.2) bool_cmp_total)

-- the order of two receipts: the first comes before the second
abbrev pub Precedes : ReceiptValue → ReceiptValue → Type 0
Precedes one other =
    (one.txn.root < other.txn.root)
    ⊎ ((one.txn.root ≡ other.txn.root) × ((one.position < other.position) ⊎ ((one.position ≡ other.position) × (is_commit one.reply ≡ true → is_commit other.reply ≡ true))))

bool_upto : (a b : Bool) → is_lt (bool_cmp a b) ≡ false → b ≡ true → a ≡ true
bool_upto true b e is = refl
bool_upto false true e is = absurd (true≢false e)
bool_upto false false e is = absurd (true≢false (sym is))

-- no key that isn't less precedes
precedes : (one other : ReceiptValue) → is_lt (key_order (receipt_key other) (receipt_key one)) ≡ false → Precedes one other
precedes one other e =
    let commits = bool_cmp (is_commit other.reply) (is_commit one.reply) in
    ⊎_elim
    (λ less. absurd (true≢false (sym (ap (λ o. is_lt (ordering_then (ordering_then o (nat_cmp other.position one.position)) commits)) (cmp_less other.txn.root one.txn.root less)) ∙ e)))
    (λ upto.
    ⊎_elim
    (λ before. inl before)
    (λ from.
    let same : other.txn.root ≡ one.txn.root = omega (arith, upto, from) in
    let level : is_lt (ordering_then (nat_cmp other.position one.position) commits) ≡ false = sym (ap (λ o. is_lt (ordering_then (ordering_then o (nat_cmp other.position one.position)) commits)) (cmp_equal other.txn.root one.txn.root same)) ∙ e in
    inr (
      sym same,
      ⊎_elim
          (λ less. absurd (true≢false (sym (ap (λ o. is_lt (ordering_then o commits)) (cmp_less other.position one.position less)) ∙ level)))
          (λ at_least.
          ⊎_elim
          (λ low. inl low)
          (λ high.
          let at : other.position ≡ one.position = omega (arith, at_least, high) in
          inr (sym at, bool_upto (is_commit other.reply) (is_commit one.reply) (sym (ap (λ o. is_lt (ordering_then o commits)) (cmp_equal other.position one.position at)) ∙ level)))
          (cases_lt one.position other.position))
          (cases_lt other.position one.position),
    ))
    (cases_lt one.txn.root other.txn.root))
    (cases_lt other.txn.root one.txn.root)

module _ (receipts : List ReceiptValue) (sorted : IsSortedByKey receipt_key key_order receipts) where
  pub in_order : (i j : ℕ) (one other : ReceiptValue) → i < j → slice_get receipts i ≡ Some one → slice_get receipts j ≡ Some other → Precedes one other
  in_order i j one other before at there =
      let within = slice_get_within receipts j other there in
      let far = sorted_far (λ x y. is_lt (key_order (receipt_key x) (receipt_key y))) (ranks_by key_total receipt_key) receipts sorted i j one (omega (arith, before)) within in
      precedes one other
      ((λ k. is_lt (key_order (receipt_key (sym (get_or_from_slice_get receipts j other one there) k)) (receipt_key (sym (get_or_from_slice_get receipts i one one at) k)))) ∙ far)

  pub roots_rise : (i j : ℕ) (one other : ReceiptValue) → i ≤ j → slice_get receipts i ≡ Some one → slice_get receipts j ≡ Some other → one.txn.root ≤ other.txn.root
  roots_rise i j one other upto at there =
      ⊎_elim
      (λ before. ⊎_elim (λ less. omega (arith, less)) (λ level. let same = level.0 in omega (arith, same)) (in_order i j one other before at there))
      (λ from.
      let here : i ≡ j = omega (arith, upto, from) in
      let again = subst (λ k. slice_get receipts k ≡ Some one) here at in
      let e = same_root again there in
      omega (arith, e))
      (cases_lt i j)
    where
      same_root : {x y : ReceiptValue} → slice_get receipts j ≡ Some x → slice_get receipts j ≡ Some y → x.txn.root ≡ y.txn.root
      same_root {x} {y} a b = let e : x ≡ y = cc in ap (λ (r : ReceiptValue). r.txn.root) e

-- two elements that a filter keeps are in the list in the same order
pub record StandApart {X : Type 0} (xs : List X) (x y : X) : Type 0 where
  pub first : ℕ
  pub second : ℕ
  pub before : first < second
  pub there : slice_get xs first ≡ Some x
  pub later : slice_get xs second ≡ Some y

pub record StandsAs {X : Type 0} (p : X → Bool) (xs : List X) (x : X) : Type 0 where
  pub place : ℕ
  pub there : slice_get xs place ≡ Some x
  pub passes : p x ≡ true

first_kept : {X : Type 0} (p : X → Bool) (y : X) (xs : List X) (x : X) → p y ≡ true → ((k : ℕ) → slice_get (filter p xs) k ≡ Some x → StandsAs p xs x)
    → (k : ℕ) → slice_get (y ∷ filter p xs) k ≡ Some x → StandsAs p (y ∷ xs) x
first_kept p y xs x passes rest zero at = let same : y ≡ x = cc in record { place = 0; there = ap Some same; passes = ap p (sym same) ∙ passes }
first_kept p y xs x passes rest (suc k) at = let later = rest k at in record { place = suc later.place; there = later.there; passes = later.passes }

kept_at : {X : Type 0} (p : X → Bool) (xs : List X) (k : ℕ) (x : X) → slice_get (filter p xs) k ≡ Some x → StandsAs p xs x
kept_at p [] k x at = absurd cc
kept_at p (y ∷ xs) k x at =
    elim (cases_Bool (p y)) [
      | inl passes ↦ first_kept p y xs x passes (λ n there. kept_at p xs n x there) k (subst (λ ys. slice_get ys k ≡ Some x) (filter-first p y xs passes) at)
      | inr fails ↦ let rest = kept_at p xs k x (subst (λ ys. slice_get ys k ≡ Some x) (filter-other p y xs fails) at) in record { place = suc rest.place; there = rest.there; passes = rest.passes }
    ]

shifted : {X : Type 0} (z : X) (xs : List X) (x y : X) → StandApart xs x y → StandApart (z ∷ xs) x y
shifted z xs x y rest = record { first = suc rest.first; second = suc rest.second; before = (let b = rest.before in omega (arith, b)); there = rest.there; later = rest.later }

first_apart : {X : Type 0} (p : X → Bool) (z : X) (xs : List X) (x y : X) → ((i j : ℕ) → i < j → slice_get (filter p xs) i ≡ Some x → slice_get (filter p xs) j ≡ Some y → StandApart xs x y)
    → (i j : ℕ) → i < j → slice_get (z ∷ filter p xs) i ≡ Some x → slice_get (z ∷ filter p xs) j ≡ Some y → StandApart (z ∷ xs) x y
first_apart p z xs x y rest i zero before at there = absurd (omega (arith, before))
first_apart p z xs x y rest zero (suc j) before at there = let later = kept_at p xs j y there in record { first = 0; second = suc later.place; before = omega arith; there = at; later = later.there }
first_apart p z xs x y rest (suc i) (suc j) before at there = shifted z xs x y (rest i j (omega (arith, before)) at there)

pub kept_apart : {X : Type 0} (p : X → Bool) (xs : List X) (i j : ℕ) (x y : X) → i < j → slice_get (filter p xs) i ≡ Some x → slice_get (filter p xs) j ≡ Some y → StandApart xs x y
kept_apart p [] i j x y before at there = absurd cc
kept_apart p (z ∷ xs) i j x y before at there =
    elim (cases_Bool (p z)) [
      | inl passes ↦
          first_apart p z xs x y (λ m n low one other. kept_apart p xs m n x y low one other) i j before
          (subst (λ ys. slice_get ys i ≡ Some x) (filter-first p z xs passes) at) (subst (λ ys. slice_get ys j ≡ Some y) (filter-first p z xs passes) there)
      | inr fails ↦
          shifted z xs x y (kept_apart p xs i j x y before (subst (λ ys. slice_get ys i ≡ Some x) (filter-other p z xs fails) at) (subst (λ ys. slice_get ys j ≡ Some y) (filter-other p z xs fails) there))
    ]

-- receipts of one root key are in order
pub group_in_order : (receipts : List ReceiptValue) (root : ℕ) → IsSortedByKey receipt_key key_order receipts → AreInOrder (receipts_of root receipts)
group_in_order receipts root sorted i j one other before at there =
    let apart = kept_apart (λ r. r.txn.root == root) receipts i j one other before at there in
    let same : one.txn.root ≡ other.txn.root = eqb-true one.txn.root root (kept_at (λ r. r.txn.root == root) receipts i one at).passes ∙ sym (eqb-true other.txn.root root (kept_at (λ r. r.txn.root == root) receipts j other there).passes) in
    ⊎_elim (λ less. absurd (omega (arith, less, same))) (λ level. level.1) (in_order receipts sorted apart.first apart.second one other apart.before apart.there apart.later)

pub values_kept : (receipts : List (Bor ReceiptValue)) (root : ℕ) → values_of (filter (λ r. r.now.txn.root == root) receipts) ≡ receipts_of root (values_of receipts)
values_kept [] root = refl
values_kept (r ∷ receipts) root =
    elim (cases_Bool (r.now.txn.root == root)) [
      | inl here ↦
          ap values_of (filter-first (λ (x : Bor ReceiptValue). x.now.txn.root == root) r receipts here) ∙ ap (λ (rs : List ReceiptValue). r.now ∷ rs) (values_kept receipts root)
          ∙ sym (filter-first (λ (x : ReceiptValue). x.txn.root == root) r.now (values_of receipts) here)
      | inr other ↦
          ap values_of (filter-other (λ (x : Bor ReceiptValue). x.now.txn.root == root) r receipts other) ∙ values_kept receipts root
          ∙ sym (filter-other (λ (x : ReceiptValue). x.txn.root == root) r.now (values_of receipts) other)
    ]

-- the elements that pass are so many from one place on
pub kept_run : {X : Type 0} (p : X → Bool) (xs : List X) (from n : ℕ)
    → ((k : ℕ) (x : X) → slice_get xs k ≡ Some x → k < from → p x ≡ false)
    → ((k : ℕ) (x : X) → slice_get xs k ≡ Some x → from ≤ k → k < from + n → p x ≡ true)
    → ((k : ℕ) (x : X) → slice_get xs k ≡ Some x → from + n ≤ k → p x ≡ false)
    → take n (drop from xs) ≡ filter p xs
kept_run p [] zero zero low mid high = refl
kept_run p [] zero (suc n) low mid high = refl
kept_run p [] (suc from) zero low mid high = refl
kept_run p [] (suc from) (suc n) low mid high = refl
kept_run p (x ∷ xs) zero zero low mid high =
    kept_run p xs zero zero (λ k y at below. absurd (omega (arith, below))) (λ k y at from below. absurd (omega (arith, below))) (λ k y at from. high (suc k) y at (omega arith))
    ∙ sym (filter-other p x xs (high 0 x refl (omega arith)))
kept_run p (x ∷ xs) zero (suc n) low mid high =
    ap (λ ys. x ∷ ys)
    (kept_run p xs zero n (λ k y at below. absurd (omega (arith, below))) (λ k y at from below. mid (suc k) y at (omega arith) (omega (arith, below))) (λ k y at from. high (suc k) y at (omega (arith, from))))
    ∙ sym (filter-first p x xs (mid 0 x refl (omega arith) (omega arith)))
kept_run p (x ∷ xs) (suc from) n low mid high =
    kept_run p xs from n (λ k y at below. low (suc k) y at (omega (arith, below))) (λ k y at above below. mid (suc k) y at (omega (arith, above)) (omega (arith, below))) (λ k y at above. high (suc k) y at (omega (arith, above)))
    ∙ sym (filter-other p x xs (low 0 x refl (omega arith)))

-- of receipts by root key those of one key lie from the first that isn't below it to the first that is above
pub group_is : (sorted : List (Bor ReceiptValue)) (root from end : ℕ) → IsSortedByKey receipt_key key_order (values_of sorted) → from ≤ end
    → ((k : ℕ) (r : ReceiptValue) → k < from → slice_get (values_of sorted) k ≡ Some r → r.txn.root < root)
    → ((r : ReceiptValue) → slice_get (values_of sorted) from ≡ Some r → root ≤ r.txn.root)
    → ((k : ℕ) (r : ReceiptValue) → from ≤ k → k < end → slice_get (values_of sorted) k ≡ Some r → r.txn.root < root + 1)
    → ((r : ReceiptValue) → slice_get (values_of sorted) end ≡ Some r → root + 1 ≤ r.txn.root)
    → values_of (take (end - from) (drop from sorted)) ≡ receipts_of root (values_of sorted)
group_is sorted root from end is_sorted upto below first inside last =
    ap values_of
    (kept_run (λ (r : Bor ReceiptValue). r.now.txn.root == root) sorted from (end - from)
    (λ k r at low.
    let less = below k r.now low (value k r at) in
    ne_eqb r.now.txn.root root (λ same. absurd (omega (arith, less, same))))
    (λ k r at above low.
    let least = least_from from k r first above at in
    let most = inside k r.now above (omega (arith, low, upto)) (value k r at) in
    eq-eqb r.now.txn.root root (omega (arith, least, most)))
    (λ k r at above.
    let more = least_from end k r last (omega (arith, above, upto)) at in
    ne_eqb r.now.txn.root root (λ same. absurd (omega (arith, more, same)))))
    ∙ values_kept sorted root
  where
    value : (k : ℕ) (r : Bor ReceiptValue) → slice_get sorted k ≡ Some r → slice_get (values_of sorted) k ≡ Some r.now
    value k r at = at_map (λ (x : Bor ReceiptValue). x.now) sorted k r at

    -- what isn't below a root key at one place isn't behind it
    least_from : {bound : ℕ} (place k : ℕ) (r : Bor ReceiptValue) → ((x : ReceiptValue) → slice_get (values_of sorted) place ≡ Some x → bound ≤ x.txn.root) → place ≤ k → slice_get sorted k ≡ Some r → bound ≤ r.now.txn.root
    least_from place k r from_bound upto_k at =
        let there = value k r at in
        let within = slice_get_within (values_of sorted) k r.now there in
        let one = stands_at (values_of sorted) place (omega (arith, within, upto_k)) in
        let rises = roots_rise (values_of sorted) is_sorted place k one.0 r.now upto_k one.1 there in
        let low = from_bound one.0 one.1 in
        omega (arith, low, rises)

pub sorted_values : (receipts : List (Bor ReceiptValue)) → IsSortedByKey (λ (r : Bor ReceiptValue). receipt_key r.now) key_order receipts → IsSortedByKey receipt_key key_order (values_of receipts)
sorted_values receipts sorted k d from within =
    let value = λ (r : Bor ReceiptValue). r.now in
    let inside : k + 1 < length receipts = subst (λ n. k + 1 < n) (length-map receipts value) within in
    let one = (stands_at receipts k (omega (arith, inside))).0 in
    let next = get_or-map value receipts (k + 1) one d inside in
    let here = get_or-map value receipts k one d (omega (arith, inside)) in
    (λ i. is_lt (key_order (receipt_key (next i)) (receipt_key (here i)))) ∙ sorted k one from inside
