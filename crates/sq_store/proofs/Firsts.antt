-- The first family of a store from a root key on.
use Rattle.std.proofs.Common.{⊎_elim, ◌≡◌, ℕ, Bool, true, false, List, [], ◌∷◌, refl, sym, ap, ◌∙◌, arith}
use Rattle.std.specs.Prelude.{◌+◌, ◌<◌, ◌≤◌, ◌&&◌, nat_le, nat_lt, map, filter, find, cond, Some, None}
use Rattle.std.specs.Ordering.{nat_cmp, is_lt}
use Rattle.std.specs.FinMap.Entries.{find as find_key}
use Rattle.std.specs.FinMap.{get, get-entries, entries, retain_keys, is_sorted}
use Rattle.std.proofs.lemmas.Bool.{and_parts, and_left, and_right, and_from, le-leb, lt-leb, le-ltb, lt-ltb, cases_lt, eq-eqb}
use Rattle.sq_schema.specs.Family.{FamilyValue}
use Rattle.sq_store.specs.StoreValue.{StoreValue, family_in, families_between}
use Rattle.sq_store.specs.InOrder.{families_in, family_from, HoldsByRoot}
use Rattle.sq_store.specs.Listed.{roots_rise}
use Rattle.sq_store.specs.First.{IsFirst}
use Rattle.sq_store.proofs.Order.{is_below, first_rises, less_from_cmp}
use Rattle.sq_store.proofs.Lists.{values-entries_of}
use Rattle.sq_store.proofs.Spans.{filter-entries_of}
use Rattle.sq_store.proofs.Between.{rooted_by, entries-rooted, sorted_is, is_between, family_in-between, kept, entries_between}

-- the families of a store rise
pub rising_in : (store : StoreValue) → HoldsByRoot store → roots_rise (families_in store) ≡ true
rising_in store by = ap (is_sorted nat_cmp) (sym (entries-rooted store (rooted_by store by))) ∙ sorted_is store

pub between_in : (store : StoreValue) (lo hi : ℕ) → HoldsByRoot store → families_between store lo hi ≡ filter (λ family. is_between lo hi family.root) (families_in store)
between_in store lo hi by =
    ap (λ es. map (λ entry. entry.1) (filter (λ entry. is_between lo hi entry.0) es)) (entries-rooted store (rooted_by store by))
    ∙ ap (map (λ entry. entry.1)) (filter-entries_of (is_between lo hi) (families_in store))
    ∙ values-entries_of (filter (λ family. is_between lo hi family.root) (families_in store))

-- tests that agree above a key keep the same of families above it
above_alike : (key : ℕ) (p q : ℕ → Bool) (families : List FamilyValue) → is_below key families ≡ true → ((root : ℕ) → key < root → p root ≡ q root)
    → filter (λ family. p family.root) families ≡ filter (λ family. q family.root) families
above_alike key p q [] below alike = refl
above_alike key p q (family ∷ families) below alike =
    let parts = and_parts (is_lt (nat_cmp key family.root)) (is_below key families) below in
    let rest = above_alike key p q families parts.1 alike in
    (λ i. cond (alike family.root (less_from_cmp key family.root parts.0) i) (family ∷ rest i) (rest i))

none_kept : (families : List FamilyValue) → filter (λ family. false) families ≡ []
none_kept [] = refl
none_kept (family ∷ families) = none_kept families

pub not_between_low : (lo hi root : ℕ) → root < lo → is_between lo hi root ≡ false
not_between_low lo hi root low = and_left (nat_le lo root) (nat_lt root hi) (lt-leb lo root low)

pub not_between_high : (lo hi root : ℕ) → hi ≤ root → is_between lo hi root ≡ false
not_between_high lo hi root high = and_right (nat_le lo root) (nat_lt root hi) (le-ltb root hi high)

pub between_from : (lo hi root : ℕ) → lo ≤ root → root < hi → is_between lo hi root ≡ true
between_from lo hi root low high = and_from (nat_le lo root) (nat_lt root hi) (le-leb lo root low) (lt-ltb root hi high)

-- above a family's root key the same are kept from there on as from below it
later_alike : (lo other hi key root : ℕ) → lo ≤ key + 1 → other ≤ key + 1 → key < root → is_between lo hi root ≡ is_between other hi root
later_alike lo other hi key root low also above =
    (λ i. (le-leb lo root (omega (arith, low, above)) ∙ sym (le-leb other root (omega (arith, also, above)))) i && nat_lt root hi)

-- of rising families the first from a bound on
record IsFirstOf (lo : ℕ) (families : List FamilyValue) (family : FamilyValue) : Type 0 where
  pub from : lo ≤ family.root
  pub before : (end : ℕ) → end ≤ family.root → filter (λ f. is_between lo end f.root) families ≡ []
  pub next : (end : ℕ) → family.root < end → filter (λ f. is_between lo end f.root) families ≡ family ∷ filter (λ f. is_between (family.root + 1) end f.root) families

skipped : (p : FamilyValue → Bool) (family : FamilyValue) (families : List FamilyValue) → p family ≡ false → filter p (family ∷ families) ≡ filter p families
skipped p family families fails = ap (λ b. cond b (family ∷ filter p families) (filter p families)) fails

kept_first : (p : FamilyValue → Bool) (family : FamilyValue) (families : List FamilyValue) → p family ≡ true → filter p (family ∷ families) ≡ family ∷ filter p families
kept_first p family families passes = ap (λ b. cond b (family ∷ filter p families) (filter p families)) passes

first_found : (lo : ℕ) (families : List FamilyValue) (family : FamilyValue) → roots_rise families ≡ true → find (λ f. nat_le lo f.root) families ≡ Some family → IsFirstOf lo families family
first_found lo [] family rising found = let none : None ≡ Some family = found in absurd (cc)
first_found lo (one ∷ families) family rising found =
    let parts = first_rises one families rising in
    ⊎_elim
    (λ (low : one.root < lo).
    let later : find (λ f. nat_le lo f.root) families ≡ Some family = ap (λ b. cond b (Some one) (find (λ f. nat_le lo f.root) families)) (sym (lt-leb lo one.root low)) ∙ found in
    let rest = first_found lo families family parts.rest later in
    record {
      from = rest.from;
      before = λ end upto. skipped (λ f. is_between lo end f.root) one families (not_between_low lo end one.root low) ∙ rest.before end upto;
      next = λ end below.
          skipped (λ f. is_between lo end f.root) one families (not_between_low lo end one.root low)
          ∙ rest.next end below
          ∙ ap (λ fs. family ∷ fs) (sym (skipped (λ f. is_between (family.root + 1) end f.root) one families (not_between_low (family.root + 1) end one.root (let from = rest.from in omega (arith, low, from)))));
    })
    (λ (from : lo ≤ one.root).
    let here : Some one ≡ Some family = ap (λ b. cond b (Some one) (find (λ f. nat_le lo f.root) families)) (sym (le-leb lo one.root from)) ∙ found in
    let same : one ≡ family = cc in
    rw (← same) (the_first parts.below from))
    (cases_lt one.root lo)
  where
    the_first : is_below one.root families ≡ true → lo ≤ one.root → IsFirstOf lo (one ∷ families) one
    the_first below from =
        record {
          from = from;
          before = λ end upto.
              skipped (λ f. is_between lo end f.root) one families (not_between_high lo end one.root upto)
              ∙ above_alike one.root (is_between lo end) (λ root. false) families below (λ root above. not_between_high lo end root (omega (arith, upto, above)))
              ∙ none_kept families;
          next = λ end inside.
              kept_first (λ f. is_between lo end f.root) one families (between_from lo end one.root from inside)
              ∙ ap (λ fs. one ∷ fs) (above_alike one.root (is_between lo end) (is_between (one.root + 1) end) families below (λ root above. later_alike lo (one.root + 1) end one.root root (omega (arith, from)) (omega arith) above)
              ∙ sym (skipped (λ f. is_between (one.root + 1) end f.root) one families (not_between_low (one.root + 1) end one.root (omega arith))));
        }

none_from : (lo hi : ℕ) (families : List FamilyValue) → find (λ f. nat_le lo f.root) families ≡ None → filter (λ f. is_between lo hi f.root) families ≡ []
none_from lo hi [] none = refl
none_from lo hi (one ∷ families) none =
    ⊎_elim
    (λ (low : one.root < lo).
    skipped (λ f. is_between lo hi f.root) one families (not_between_low lo hi one.root low)
    ∙ none_from lo hi families (ap (λ b. cond b (Some one) (find (λ f. nat_le lo f.root) families)) (sym (lt-leb lo one.root low)) ∙ none))
    (λ (from : lo ≤ one.root).
    let here : Some one ≡ None = ap (λ b. cond b (Some one) (find (λ f. nat_le lo f.root) families)) (sym (le-leb lo one.root from)) ∙ none in
    absurd (cc))
    (cases_lt one.root lo)

module _ (store : StoreValue) (lo : ℕ) (by : HoldsByRoot store) where
  of_store : (family : FamilyValue) → family_from store lo ≡ Some family → IsFirstOf lo (families_in store) family
  of_store family found = first_found lo (families_in store) family (rising_in store by) found

  stands_first : (family : FamilyValue) → family_from store lo ≡ Some family → get store family.root ≡ Some family
  stands_first family found =
      let is = of_store family found in
      let root = family.root in
      let one : families_between store lo (root + 1) ≡ family ∷ filter (λ f. is_between (root + 1) (root + 1) f.root) (families_in store) = between_in store lo (root + 1) by ∙ is.next (root + 1) (omega arith) in
      ap (λ b. cond b (get store root) None) (sym (between_from lo (root + 1) root is.from (omega arith)))
      ∙ sym (family_in-between lo (root + 1) store root (rooted_by store by))
      ∙ ap (λ fs. family_in fs root) one
      ∙ ap (λ b. cond b (Some family) (family_in (filter (λ f. is_between (root + 1) (root + 1) f.root) (families_in store)) root)) (eq-eqb root root refl)

  -- what a walk finds below a bound is the first family
  pub first_is : (hi : ℕ) (family : FamilyValue) → family_from store lo ≡ Some family → family.root < hi → IsFirst store lo hi family
  first_is hi family found below =
      let is = of_store family found in
      record {
        stands = stands_first family found;
        from = is.from;
        below = below;
        before = λ end upto. between_in store lo end by ∙ is.before end upto;
        next = λ end inside. between_in store lo end by ∙ is.next end inside ∙ ap (λ fs. family ∷ fs) (sym (between_in store (family.root + 1) end by));
      }

  -- where it finds one from the bound on, or none, there is none
  pub first_later : (hi : ℕ) (family : FamilyValue) → family_from store lo ≡ Some family → hi ≤ family.root → families_between store lo hi ≡ []
  first_later hi family found upto = between_in store lo hi by ∙ (of_store family found).before hi upto

  pub first_none : (hi : ℕ) → family_from store lo ≡ None → families_between store lo hi ≡ []
  first_none hi none = between_in store lo hi by ∙ none_from lo hi (families_in store) none

no_entries : (es : List (ℕ × FamilyValue)) → map (λ entry. entry.1) es ≡ [] → es ≡ []
no_entries [] none = refl
no_entries (e ∷ es) none = absurd (cc)

-- where there are no families between two bounds, none is there
pub none_between : (store : StoreValue) (lo hi root : ℕ) → families_between store lo hi ≡ [] → is_between lo hi root ≡ true → get store root ≡ None
none_between store lo hi root none inside =
    let kept_store = retain_keys store (is_between lo hi) in
    ap (λ b. cond b (get store root) None) (sym inside) ∙ sym (kept lo hi store root)
    ∙ get-entries kept_store root ∙ ap (find_key nat_cmp root) (no_entries (entries kept_store) (entries_between lo hi store ∙ none))
