-- The families of a list from one place up to another, and the others.
use Rattle.std.proofs.Common.{◌≡◌, ℕ, Bool, true, false, List, [], ◌∷◌, ◌++◌, length, get_or, take, drop, refl, sym, ap, subst, ◌∙◌, arith, length-drop, length-take, append-nil}
use Rattle.std.specs.Prelude.{◌+◌, ◌-◌, ◌<◌, ◌≤◌, ◌&&◌, not, nat_lt, nat_le, map, filter, cond, slice_range, None}
use Rattle.std.specs.List.{All, AllWithin}
use Rattle.std.specs.Ordering.{nat_cmp}
use Rattle.std.specs.declared.cmp.Ordering.TheVariants.{Equal}
use Rattle.std.specs.Cmp.{nat_cmp_total}
use Rattle.std.specs.FinMap.{retain_keys, get-retain_keys, same_map, nat_cmp-IsAntisymmetric}
use Rattle.std.specs.FinMap.Entries.{find, where_key, is_sorted, is_sorted-where_key, find-where_key}
use Rattle.std.proofs.lemmas.Bool.{lt-ltb, le-ltb, le-leb, lt-leb, and_from, and_left, and_right}
use Rattle.std.proofs.lemmas.Float.{T_from_true}
use Rattle.std.proofs.lemmas.List.{take-append-drop, drop-drop, get_or-take, get_or-drop}
use Rattle.std.proofs.lemmas.List.Elements.{filter-append, All-tail}
use Rattle.sq_schema.specs.Family.{FamilyValue}
use Rattle.sq_store.specs.StoreValue.{families_between, without_between}
use Rattle.sq_store.specs.Listed.{keyed_families, roots_rise, store_of, IsStart}
use Rattle.sq_store.proofs.Lists.{entries-store_of, get-store_of, values-entries_of, IsListed, from_T}

-- every element passes, or none
filter_all : {X : Type 0} (p : X → Bool) (xs : List X) → All (λ x. p x ≡ true) xs → filter p xs ≡ xs
filter_all p [] all = refl
filter_all p (x ∷ xs) all = rw (all 0 x (omega arith)) (ap (λ rest. x ∷ rest) (filter_all p xs (All-tail (λ y. p y ≡ true) x xs all)))

filter_none : {X : Type 0} (p : X → Bool) (xs : List X) → All (λ x. p x ≡ false) xs → filter p xs ≡ []
filter_none p [] all = refl
filter_none p (x ∷ xs) all = rw (all 0 x (omega arith)) (filter_none p xs (All-tail (λ y. p y ≡ false) x xs all))

module _ {X : Type 0} (xs : List X) (first last : ℕ) (rise : first ≤ last) (within : last ≤ length xs) where
  three_parts : xs ≡ take first xs ++ (slice_range xs first last ++ drop last xs)
  three_parts =
      sym (take-append-drop first xs)
      ∙ ap (λ rest. take first xs ++ rest) (sym (take-append-drop (last - first) (drop first xs)) ∙ ap (λ back. slice_range xs first last ++ back) (drop-drop (last - first) first xs ∙ ap (λ n. drop n xs) (omega arith)))

  All-front : (P : X → Type 0) → AllWithin P xs 0 first → All P (take first xs)
  All-front P all k d inside =
      let k_first : k < first = omega (arith, length-take first xs, inside) in
      subst P (sym (get_or-take first xs k d k_first)) (all k d (omega arith) k_first)

  pub All-middle : (P : X → Type 0) → AllWithin P xs first last → All P (slice_range xs first last)
  All-middle P all k d inside =
      let k_last : k < last - first = omega (arith, length-take (last - first) (drop first xs), inside) in
      subst P (sym (get_or-take (last - first) (drop first xs) k d k_last ∙ get_or-drop first xs k d)) (all (first + k) d (omega arith) (omega arith))

  All-back : (P : X → Type 0) → AllWithin P xs last (length xs) → All P (drop last xs)
  All-back P all k d inside = subst P (sym (get_or-drop last xs k d)) (all (last + k) d (omega arith) (omega (arith, length-drop last xs, inside)))

  -- a test that is passed between the two places alone
  filter_inside : (p : X → Bool) → AllWithin (λ x. p x ≡ false) xs 0 first → AllWithin (λ x. p x ≡ true) xs first last → AllWithin (λ x. p x ≡ false) xs last (length xs) → filter p xs ≡ slice_range xs first last
  filter_inside p before inside after =
      ap (filter p) three_parts
      ∙ filter-append p (take first xs) (slice_range xs first last ++ drop last xs)
      ∙ (λ i. filter_none p (take first xs) (All-front (λ x. p x ≡ false) before) i ++ filter-append p (slice_range xs first last) (drop last xs) i)
      ∙ (λ i. filter_all p (slice_range xs first last) (All-middle (λ x. p x ≡ true) inside) i ++ filter_none p (drop last xs) (All-back (λ x. p x ≡ false) after) i)
      ∙ append-nil (slice_range xs first last)

  -- and one that is passed everywhere else
  filter_outside : (p : X → Bool) → AllWithin (λ x. p x ≡ true) xs 0 first → AllWithin (λ x. p x ≡ false) xs first last → AllWithin (λ x. p x ≡ true) xs last (length xs) → filter p xs ≡ take first xs ++ drop last xs
  filter_outside p before inside after =
      ap (filter p) three_parts
      ∙ filter-append p (take first xs) (slice_range xs first last ++ drop last xs)
      ∙ (λ i. filter_all p (take first xs) (All-front (λ x. p x ≡ true) before) i ++ filter-append p (slice_range xs first last) (drop last xs) i)
      ∙ (λ i. take first xs ++ (filter_none p (slice_range xs first last) (All-middle (λ x. p x ≡ false) inside) i ++ filter_all p (drop last xs) (All-back (λ x. p x ≡ true) after) i))

pub filter-entries_of : (p : ℕ → Bool) (families : List FamilyValue) → filter (λ entry. p entry.0) (keyed_families families) ≡ keyed_families (filter (λ family. p family.root) families)
filter-entries_of p [] = refl
filter-entries_of p (family ∷ families) =
    let rest = filter-entries_of p families in
    elim (p family.root) as (λ b. cond b ((family.root, family) ∷ filter (λ entry. p entry.0) (keyed_families families)) (filter (λ entry. p entry.0) (keyed_families families)) ≡ keyed_families (cond b (family ∷ filter (λ f. p f.root) families) (filter (λ f. p f.root) families))) [
      | true ↦ ap (λ es. (family.root, family) ∷ es) rest
      | false ↦ rest
    ]

-- the store without the root keys that fail a test
pub kept : (p : ℕ → Bool) (families : List FamilyValue) → roots_rise families ≡ true → IsListed (retain_keys (store_of families) p) (filter (λ family. p family.root) families)
kept p families rising =
    let alike : (q x : ℕ) → nat_cmp q x ≡ Equal → p x ≡ p q = λ q x tied. ap p (sym (nat_cmp-IsAntisymmetric q x tied)) in
    let left = filter (λ family. p family.root) families in
    let left_rises : roots_rise left ≡ true =
    ap (is_sorted nat_cmp) (sym (filter-entries_of p families)) ∙ from_T (is_sorted nat_cmp (where_key nat_cmp p (keyed_families families))) (is_sorted-where_key nat_cmp p (keyed_families families) (T_from_true (roots_rise families) rising)) in
    record {
      rising = left_rises;
      same = same_map nat_cmp_total nat_cmp-IsAntisymmetric (retain_keys (store_of families) p) (store_of left) (λ q.
          get-retain_keys (store_of families) p q (alike q) ∙ ap (λ found. cond (p q) found None) (get-store_of families q rising)
          ∙ sym (get-store_of left q left_rises ∙ ap (find nat_cmp q) (sym (filter-entries_of p families)) ∙ find-where_key nat_cmp p q (alike q) (keyed_families families)));
    }

module _ (families : List FamilyValue) (lo hi first last : ℕ) (rising : roots_rise families ≡ true) (rise : first ≤ last) (low : IsStart families lo first) (high : IsStart families hi last) where
  before_first : (k : ℕ) (d : FamilyValue) → 0 ≤ k → k < first → (nat_le lo (get_or families k d).root && nat_lt (get_or families k d).root hi) ≡ false
  before_first k d zero_upto inside = and_left (nat_le lo (get_or families k d).root) (nat_lt (get_or families k d).root hi) (lt-leb lo (get_or families k d).root (low.below k d zero_upto inside))

  between_them : (k : ℕ) (d : FamilyValue) → first ≤ k → k < last → (nat_le lo (get_or families k d).root && nat_lt (get_or families k d).root hi) ≡ true
  between_them k d from inside =
      and_from (nat_le lo (get_or families k d).root) (nat_lt (get_or families k d).root hi)
      (le-leb lo (get_or families k d).root (low.from k d from (omega (arith, inside, high.within)))) (lt-ltb (get_or families k d).root hi (high.below k d (omega arith) inside))

  after_last : (k : ℕ) (d : FamilyValue) → last ≤ k → k < length families → (nat_le lo (get_or families k d).root && nat_lt (get_or families k d).root hi) ≡ false
  after_last k d from inside = and_right (nat_le lo (get_or families k d).root) (nat_lt (get_or families k d).root hi) (le-ltb (get_or families k d).root hi (high.from k d from inside))

  -- the families between two bounds are those between the places where they start
  pub between-store_of : families_between (store_of families) lo hi ≡ slice_range families first last
  between-store_of =
      ap (λ es. map (λ entry. entry.1) (filter (λ entry. nat_le lo entry.0 && nat_lt entry.0 hi) es)) (entries-store_of families rising)
      ∙ ap (map (λ entry. entry.1)) (filter-entries_of (λ root. nat_le lo root && nat_lt root hi) families)
      ∙ values-entries_of (filter (λ family. nat_le lo family.root && nat_lt family.root hi) families)
      ∙ filter_inside families first last rise high.within (λ family. nat_le lo family.root && nat_lt family.root hi) before_first between_them after_last

  pub outside : filter (λ family. not (nat_le lo family.root && nat_lt family.root hi)) families ≡ take first families ++ drop last families
  outside =
      filter_outside families first last rise high.within (λ family. not (nat_le lo family.root && nat_lt family.root hi))
      (λ k d from inside. ap not (before_first k d from inside)) (λ k d from inside. ap not (between_them k d from inside)) (λ k d from inside. ap not (after_last k d from inside))

  pub without-store_of : IsListed (without_between (store_of families) lo hi) (take first families ++ drop last families)
  without-store_of = subst (IsListed (without_between (store_of families) lo hi)) outside (kept (λ root. not (nat_le lo root && nat_lt root hi)) families rising)
