-- Lists of entries whose keys strictly rise: what is at a place, and what an edit there does.
use Rattle.std.proofs.Common.{◌≡◌, ℕ, zero, suc, ◌+◌, ◌<◌, ◌≤◌, not, List, [], ◌∷◌, length, get_or, set, Some, None, Ordering, IsTrue, cond, take, refl, sym, ap, ◌∙◌, inl, inr, arith}
use Rattle.std.specs.declared.cmp.Ordering.TheVariants.{Less, Equal, Greater}
use Rattle.std.specs.List.{AllByRecursion, AllWithin, insert, remove}
use Rattle.std.specs.List.Sorted.{IsNonDecreasingBy, IsStrictlySortedBy}
use Rattle.std.specs.BTreeMap.{is_at, insert_entry}
use Rattle.std.specs.Map.{lookup, keys_of, set_value, remove_entry}
use Rattle.std.specs.Prelude.{IsSome}
use Rattle.std.specs.Ordering.{is_lt, is_eq, match_ordering, eq_by_cmp, ordering_reverse, ordering_index}
use Rattle.std.specs.Cmp.{IsTotalOrder}
use Rattle.std.specs.FinMap.Entries.{by_order, find, put, where_key, below_all, is_sorted}
use Rattle.std.proofs.lemmas.Bool.{and_parts, and_from, cases_lt}
use Rattle.std.proofs.lemmas.Cmp.{alike_right}

pub less_from_test : (r : Ordering) → IsTrue (is_lt r) → r ≡ Less
less_from_test Less p = refl
less_from_test Equal p = absurd (cc)
less_from_test Greater p = absurd (cc)

module _ {K : Type 0} (R : K → K → Ordering) (o : IsTotalOrder R) where
  pub turned : (x y : K) (r : Ordering) → R x y ≡ r → R y x ≡ ordering_reverse r
  turned x y r is = o.antisymm y x ∙ ap ordering_reverse is

  index_rises : (x y k : K) (r : Ordering) → R x y ≡ Less → R y k ≡ r → ordering_index (R x k) ≤ ordering_index r
  index_rises x y k Less before is = rw (o.trans x y k before is) (omega arith)
  index_rises x y k Equal before is = rw (sym (alike_right o y k x is) ∙ before) (omega arith)
  index_rises x y k Greater before is = elim (R x k) as (λ s. ordering_index s ≤ 2) [ Less ↦ omega arith | Equal ↦ omega arith | Greater ↦ omega arith ]

module _ {K X : Type 0} (R : K → K → Ordering) (o : IsTotalOrder R) where
  -- a key below a whole list is below each of its keys
  below_all-at : (x : K) (es : List (K × X)) (j : ℕ) (d : K × X) → IsTrue (below_all R x es) → j < length es → R x (get_or es j d).0 ≡ Less
  below_all-at x [] j d below within = absurd (omega arith)
  below_all-at x (e ∷ es) zero d below within = less_from_test (R x e.0) (and_parts (is_lt (R x e.0)) (below_all R x es) below).0
  below_all-at x (e ∷ es) (suc j) d below within = below_all-at x es j d (and_parts (is_lt (R x e.0)) (below_all R x es) below).1 (omega arith)

  -- an earlier key is below a later one
  pub sorted_at : (es : List (K × X)) (i j : ℕ) (d : K × X) → IsTrue (is_sorted R es) → i < j → j < length es → R (get_or es i d).0 (get_or es j d).0 ≡ Less
  sorted_at [] i j d rising before within = absurd (omega arith)
  sorted_at (e ∷ es) i zero d rising before within = absurd (omega arith)
  sorted_at (e ∷ es) zero (suc j) d rising before within = below_all-at e.0 es j d (and_parts (below_all R e.0 es) (is_sorted R es) rising).0 (omega arith)
  sorted_at (e ∷ es) (suc i) (suc j) d rising before within = sorted_at es i j d (and_parts (below_all R e.0 es) (is_sorted R es) rising).1 (omega arith) (omega arith)

  -- the comparisons with a key rise along such a list, as a binary search asks
  pub comparisons_rise : (k : K) (es : List (K × X)) → IsTrue (is_sorted R es) → IsNonDecreasingBy (λ e. ordering_index (R e.0 k)) es
  comparisons_rise k es rising i j d before within =
      elim (cases_lt i j) [
        | inl less ↦ index_rises R o (get_or es i d).0 (get_or es j d).0 k (R (get_or es j d).0 k) (sorted_at es i j d rising less within) refl
        | inr more ↦ let same : i ≡ j = omega arith in rw same (omega arith)
      ]

  -- where the last key is below a key, each is
  pub all_below : (k : K) (es : List (K × X)) (at : ℕ) → IsTrue (is_sorted R es) → length es ≡ suc at → ((d : K × X) → R (get_or es at d).0 k ≡ Less) → AllWithin (λ e. R e.0 k ≡ Less) es 0 (length es)
  all_below k es at rising last below j d low high =
      elim (cases_lt j at) [
        | inl before ↦ o.trans (get_or es j d).0 (get_or es at d).0 k (sorted_at es j at d rising before (omega (arith, last))) (below d)
        | inr from ↦ let same : j ≡ at = omega (arith, last, from, high) in rw same (below d)
      ]

  -- where a key is below a whole list, no key of the list is the key
  pub find_below : (k : K) (es : List (K × X)) → IsTrue (below_all R k es) → find R k es ≡ None
  find_below k [] below = refl
  find_below k (e ∷ es) below =
      let parts = and_parts (is_lt (R k e.0)) (below_all R k es) below in
      rw (less_from_test (R k e.0) parts.0) (find_below k es parts.1)

  pub where_key_below : (k : K) (es : List (K × X)) → IsTrue (below_all R k es) → where_key R (λ x. not (eq_by_cmp R k x)) es ≡ es
  where_key_below k [] below = refl
  where_key_below k (e ∷ es) below =
      let parts = and_parts (is_lt (R k e.0)) (below_all R k es) below in
      rw (less_from_test (R k e.0) parts.0) (ap (λ t. e ∷ t) (where_key_below k es parts.1))

  pub below_before : (k x : K) (es : List (K × X)) → R k x ≡ Less → IsTrue (below_all R x es) → IsTrue (below_all R k es)
  below_before k x [] before below = refl
  below_before k x (e ∷ es) before below =
      let parts = and_parts (is_lt (R x e.0)) (below_all R x es) below in
      and_from (is_lt (R k e.0)) (below_all R k es) (ap is_lt (o.trans k x e.0 before (less_from_test (R x e.0) parts.0))) (below_before k x es before parts.1)

  pub below_tied : (k x : K) (es : List (K × X)) → R k x ≡ Equal → IsTrue (below_all R x es) → IsTrue (below_all R k es)
  below_tied k x [] tied below = refl
  below_tied k x (e ∷ es) tied below =
      let parts = and_parts (is_lt (R x e.0)) (below_all R x es) below in
      and_from (is_lt (R k e.0)) (below_all R k es) (ap is_lt (o.congr k x e.0 tied) ∙ parts.0) (below_tied k x es tied parts.1)

  -- the entry at this place has the key
  module _ (k : K) where
    -- the first entry's key is then below it
    first_below : (e : K × X) (es : List (K × X)) (at : ℕ) (d : K × X) → IsTrue (is_sorted R (e ∷ es)) → at < length es → R (get_or es at d).0 k ≡ Equal → R k e.0 ≡ Greater
    first_below e es at d rising within here =
        let before = sorted_at (e ∷ es) 0 (suc at) d rising (omega arith) (omega arith) in
        turned R o e.0 k Less (sym (alike_right o (get_or es at d).0 k e.0 here) ∙ before)

    rest_rises : (e : K × X) (es : List (K × X)) → IsTrue (is_sorted R (e ∷ es)) → IsTrue (is_sorted R es)
    rest_rises e es rising = (and_parts (below_all R e.0 es) (is_sorted R es) rising).1

    pub find_at : (es : List (K × X)) (at : ℕ) (d : K × X) → IsTrue (is_sorted R es) → at < length es → R (get_or es at d).0 k ≡ Equal → find R k es ≡ Some (get_or es at d).1
    find_at [] at d rising within here = absurd (omega arith)
    find_at (e ∷ es) zero d rising within here = rw (turned R o e.0 k Equal here) refl
    find_at (e ∷ es) (suc at) d rising within here = rw (first_below e es at d rising (omega arith) here) (find_at es at d (rest_rises e es rising) (omega arith) here)

    pub put_at : (v : X) (es : List (K × X)) (at : ℕ) (d : K × X) → IsTrue (is_sorted R es) → at < length es → R (get_or es at d).0 k ≡ Equal → put R k v es ≡ set es at ((get_or es at d).0, v)
    put_at v [] at d rising within here = absurd (omega arith)
    put_at v (e ∷ es) zero d rising within here = rw (turned R o e.0 k Equal here) refl
    put_at v (e ∷ es) (suc at) d rising within here =
        rw (first_below e es at d rising (omega arith) here) (ap (λ t. e ∷ t) (put_at v es at d (rest_rises e es rising) (omega arith) here))

    pub where_key_at : (es : List (K × X)) (at : ℕ) (d : K × X) → IsTrue (is_sorted R es) → at < length es → R (get_or es at d).0 k ≡ Equal → where_key R (λ x. not (eq_by_cmp R k x)) es ≡ remove es at
    where_key_at [] at d rising within here = absurd (omega arith)
    where_key_at (e ∷ es) zero d rising within here =
        let tied = turned R o e.0 k Equal here in
        rw tied (where_key_below k es (below_tied k e.0 es tied (and_parts (below_all R e.0 es) (is_sorted R es) rising).0))
    where_key_at (e ∷ es) (suc at) d rising within here =
        rw (first_below e es at d rising (omega arith) here) (ap (λ t. e ∷ t) (where_key_at es at d (rest_rises e es rising) (omega arith) here))

    -- the keys before this place are below the key, and those from it on above it
    pub find_gap : (es : List (K × X)) (at : ℕ) → at ≤ length es → AllWithin (λ e. R e.0 k ≡ Less) es 0 at → AllWithin (λ e. R e.0 k ≡ Greater) es at (length es) → find R k es ≡ None
    find_gap [] at within before after = refl
    find_gap (e ∷ es) zero within before after =
        rw (turned R o e.0 k Greater (after 0 e (omega arith) (omega arith))) (find_gap es 0 (omega arith) (λ j d low high. absurd (omega arith)) (λ j d low high. after (suc j) d (omega arith) (omega arith)))
    find_gap (e ∷ es) (suc at) within before after =
        rw (turned R o e.0 k Less (before 0 e (omega arith) (omega arith))) (find_gap es at (omega arith) (λ j d low high. before (suc j) d (omega arith) (omega arith)) (λ j d low high. after (suc j) d (omega arith) (omega arith)))

    pub put_gap : (v : X) (es : List (K × X)) (at : ℕ) → at ≤ length es → AllWithin (λ e. R e.0 k ≡ Less) es 0 at → AllWithin (λ e. R e.0 k ≡ Greater) es at (length es) → put R k v es ≡ insert es at (k, v)
    put_gap v [] zero within before after = refl
    put_gap v [] (suc at) within before after = refl
    put_gap v (e ∷ es) zero within before after = rw (turned R o e.0 k Greater (after 0 e (omega arith) (omega arith))) refl
    put_gap v (e ∷ es) (suc at) within before after =
        rw (turned R o e.0 k Less (before 0 e (omega arith) (omega arith))) (ap (λ t. e ∷ t) (put_gap v es at (omega arith) (λ j d low high. before (suc j) d (omega arith) (omega arith)) (λ j d low high. after (suc j) d (omega arith) (omega arith))))

    pub where_key_gap : (es : List (K × X)) (at : ℕ) → at ≤ length es → AllWithin (λ e. R e.0 k ≡ Less) es 0 at → AllWithin (λ e. R e.0 k ≡ Greater) es at (length es) → where_key R (λ x. not (eq_by_cmp R k x)) es ≡ es
    where_key_gap [] at within before after = refl
    where_key_gap (e ∷ es) zero within before after =
        rw (turned R o e.0 k Greater (after 0 e (omega arith) (omega arith))) (ap (λ t. e ∷ t) (where_key_gap es 0 (omega arith) (λ j d low high. absurd (omega arith)) (λ j d low high. after (suc j) d (omega arith) (omega arith))))
    where_key_gap (e ∷ es) (suc at) within before after =
        rw (turned R o e.0 k Less (before 0 e (omega arith) (omega arith))) (ap (λ t. e ∷ t) (where_key_gap es at (omega arith) (λ j d low high. before (suc j) d (omega arith) (omega arith)) (λ j d low high. after (suc j) d (omega arith) (omega arith))))

-- the entries of a map, and what its methods do to them
module _ {K X : Type 0} (R : K → K → Ordering) where
  -- a look-up in either of its forms
  pub find-lookup : (es : List (K × X)) (k : K) → lookup (is_at (R k)) es ≡ find R k es
  find-lookup [] k = refl
  find-lookup (e ∷ es) k = ap (cond (is_eq (R k e.0)) (Some e.1)) (find-lookup es k)

  -- the keys rise
  below_from_keys : (k : K) (es : List (K × X)) → AllByRecursion (λ x. R k x ≡ Less) (keys_of es) → IsTrue (below_all R k es)
  below_from_keys k [] below = refl
  below_from_keys k (e ∷ es) below = and_from (is_lt (R k e.0)) (below_all R k es) (ap is_lt below.0) (below_from_keys k es below.1)

  pub sorted_from_keys : (es : List (K × X)) → IsStrictlySortedBy R (keys_of es) → IsTrue (is_sorted R es)
  unfolding IsStrictlySortedBy
  sorted_from_keys [] rising = refl
  sorted_from_keys (e ∷ es) rising = and_from (below_all R e.0 es) (is_sorted R es) (below_from_keys e.0 es rising.0) (sorted_from_keys es rising.1)

  pub insert_entry-put : (es : List (K × X)) (k : K) (v : X) → insert_entry R es k v ≡ put R k v es
  insert_entry-put [] k v = refl
  insert_entry-put (e ∷ es) k v =
      elim (R k e.0) as (λ r. match_ordering r ((k, v) ∷ e ∷ es) ((e.0, v) ∷ es) (e ∷ insert_entry R es k v) ≡ by_order r ((k, v) ∷ e ∷ es) ((e.0, v) ∷ es) (e ∷ put R k v es)) [
        | Less ↦ refl
        | Equal ↦ refl
        | Greater ↦ ap (λ t. e ∷ t) (insert_entry-put es k v)
      ]

  pub remove_entry-where_key : IsTotalOrder R → (es : List (K × X)) (k : K) → IsTrue (is_sorted R es) → remove_entry (is_at (R k)) es ≡ where_key R (λ x. not (eq_by_cmp R k x)) es
  remove_entry-where_key o [] k rising = refl
  remove_entry-where_key o (e ∷ es) k rising =
      let parts = and_parts (below_all R e.0 es) (is_sorted R es) rising in
      let left = where_key R (λ x. not (eq_by_cmp R k x)) es in
      let rest = ap (λ t. e ∷ t) (remove_entry-where_key o es k parts.1) in
      elim (R k e.0) as (λ r. R k e.0 ≡ r → cond (is_eq r) es (e ∷ remove_entry (is_at (R k)) es) ≡ cond (not (is_eq r)) (e ∷ left) left) [
        | Less ↦ λ is. rest
        | Equal ↦ λ tied. sym (where_key_below R o k es (below_tied R o k e.0 es tied parts.0))
        | Greater ↦ λ is. rest
      ] refl

  -- a new value of a key that has one
  pub set_value-put : IsTotalOrder R → (es : List (K × X)) (k : K) (v : X) → IsTrue (is_sorted R es) → IsSome (find R k es) → set_value (is_at (R k)) es v ≡ put R k v es
  set_value-put o [] k v rising stands = absurd (cc)
  set_value-put o (e ∷ es) k v rising stands =
      let parts = and_parts (below_all R e.0 es) (is_sorted R es) rising in
      elim (R k e.0) as (λ r. R k e.0 ≡ r → IsSome (cond (is_eq r) (Some e.1) (find R k es)) → cond (is_eq r) ((e.0, v) ∷ es) (e ∷ set_value (is_at (R k)) es v) ≡ by_order r ((k, v) ∷ e ∷ es) ((e.0, v) ∷ es) (e ∷ put R k v es)) [
        | Less ↦ λ before stands. let none = find_below R o k es (below_before R o k e.0 es before parts.0) in absurd (cc)
        | Equal ↦ λ tied stands. refl
        | Greater ↦ λ after stands. ap (λ t. e ∷ t) (set_value-put o es k v parts.1 stands)
      ] refl stands

  -- the next entry of such a list goes to the end of those before it
  pub put_next : IsTotalOrder R → (es : List (K × X)) (i : ℕ) (d : K × X) → IsTrue (is_sorted R es) → i < length es → put R (get_or es i d).0 (get_or es i d).1 (take i es) ≡ take (suc i) es
  put_next o [] i d rising within = absurd (omega arith)
  put_next o (e ∷ es) zero d rising within = refl
  put_next o (e ∷ es) (suc i) d rising within =
      let before = sorted_at R o (e ∷ es) 0 (suc i) d rising (omega arith) within in
      rw (turned R o e.0 (get_or es i d).0 Less before) (ap (λ t. e ∷ t) (put_next o es i d (and_parts (below_all R e.0 es) (is_sorted R es) rising).1 (omega arith)))

  -- and so does a copy of it
  pub copied_next : IsTotalOrder R → (es : List (K × X)) (i : ℕ) (e : K × X) (copy : X) (now new : List (K × X)) → IsTrue (is_sorted R es) → i < length es → e ≡ get_or es i e → copy ≡ e.1
      → now ≡ take i es → new ≡ insert_entry R now e.0 copy → new ≡ take (i + 1) es
  copied_next o es i e copy now new rising within is same before made =
      let more : suc i ≡ i + 1 = omega arith in
      made ∙ insert_entry-put now e.0 copy
      ∙ (λ j. put R e.0 (same j) (before j))
      ∙ ap (λ (f : K × X). put R f.0 f.1 (take i es)) is
      ∙ put_next o es i e rising within
      ∙ ap (λ (n : ℕ). take n es) more
