-- Families that are put in one after another from the last on, and taken out again.
use Rattle.std.proofs.Common.{◌≡◌, ℕ, true, List, [], ◌∷◌, ◌++◌, refl, sym, ap, ◌∙◌, append_assoc}
use Rattle.std.specs.Prelude.{map, reverse, cond, Option, Some, None, is_some, is_none}
use Rattle.std.specs.FinMap.{get, insert, remove}
use Rattle.std.proofs.lemmas.Bool.{and_parts, eq-eqb, ne_eqb}
use Rattle.std.proofs.lemmas.List.{reverse-append}
use Rattle.sq_schema.specs.Family.{FamilyValue}
use Rattle.sq_store.specs.StoreValue.{StoreValue, family_in, with_families, roots_differ, has_none_of}
use Rattle.sq_store.specs.PutIn.{IsPutIn}
use Rattle.sq_store.proofs.Keys.{same_store, at_key, get-insert_same, get-insert_other, remove-insert}
use Rattle.sq_store.proofs.Taken.{none_is}
use Rattle.sq_store.proofs.Given.{none_found, first_differs, get-with_new}

-- the last of families whose root keys differ
differ_last : (front back : List FamilyValue) → roots_differ (front ++ back) ≡ true → roots_differ back ≡ true
differ_last [] back differ = differ
differ_last (family ∷ front) back differ = differ_last front back (first_differs family (front ++ back) differ).rest

none_last : (store : StoreValue) (front back : List FamilyValue) → has_none_of store (front ++ back) ≡ true → has_none_of store back ≡ true
none_last store [] back none = none
none_last store (family ∷ front) back none = none_last store front back (and_parts (is_none (get store family.root)) (has_none_of store (front ++ back)) none).1

-- a family that is new to a store which has others
module _ (before : StoreValue) (family : FamilyValue) (put : List FamilyValue) (differ : roots_differ (family ∷ put) ≡ true) (none : has_none_of before (family ∷ put) ≡ true) where
  rest_differ : roots_differ put ≡ true
  rest_differ = (first_differs family put differ).rest

  not_put : family_in put family.root ≡ None
  not_put = none_found put family.root (first_differs family put differ).other

  new_root : get (with_families before put) family.root ≡ None
  new_root =
      get-with_new put before family.root rest_differ
      ∙ ap (λ found. cond (is_some found) found (get before family.root)) not_put
      ∙ none_is (get before family.root) (and_parts (is_none (get before family.root)) (has_none_of before put) none).0

  with_first : insert (with_families before put) family.root family ≡ with_families before (family ∷ put)
  with_first =
      same_store (insert (with_families before put) family.root family) (with_families before (family ∷ put)) (λ key.
      at_key family.root key
      (λ same.
      get-insert_same (with_families before put) family.root family key same
      ∙ sym (get-with_new (family ∷ put) before key differ ∙ ap (λ b. cond (is_some (cond b (Some family) (family_in put key))) (cond b (Some family) (family_in put key)) (get before key)) (eq-eqb family.root key (sym same))))
      (λ apart.
      get-insert_other (with_families before put) family.root family key apart
      ∙ get-with_new put before key rest_differ
      ∙ sym (get-with_new (family ∷ put) before key differ
      ∙ ap (λ b. cond (is_some (cond b (Some family) (family_in put key))) (cond b (Some family) (family_in put key)) (get before key)) (ne_eqb family.root key (λ same. apart (sym same))))))

  found_first : get (with_families before (family ∷ put)) family.root ≡ Some family
  found_first = ap (λ s. get s family.root) (sym with_first) ∙ get-insert_same (with_families before put) family.root family family.root refl

  without_first : remove (with_families before (family ∷ put)) family.root ≡ with_families before put
  without_first = ap (λ s. remove s family.root) (sym with_first) ∙ remove-insert (with_families before put) family.root family new_root

module _ (before : StoreValue) (given : List FamilyValue) (differ : roots_differ given ≡ true) (none : has_none_of before given ≡ true) where
  -- the last family that is left
  module _ (left rest : List FamilyValue) (roots : List ℕ) (store : StoreValue) (is : IsPutIn before given left roots store) (family : FamilyValue) (last : left ≡ rest ++ family ∷ []) where
    parts : given ≡ rest ++ family ∷ is.put
    parts = is.whole ∙ ap (λ fs. fs ++ is.put) last ∙ append_assoc rest (family ∷ []) is.put

    differ_here : roots_differ (family ∷ is.put) ≡ true
    differ_here = differ_last rest (family ∷ is.put) (ap roots_differ (sym parts) ∙ differ)

    none_here : has_none_of before (family ∷ is.put) ≡ true
    none_here = none_last before rest (family ∷ is.put) (ap (has_none_of before) (sym parts) ∙ none)

    pub last_absent : get store family.root ≡ None
    last_absent = ap (λ s. get s family.root) is.store ∙ new_root before family is.put differ_here none_here

    pub put_last : IsPutIn before given rest (roots ++ family.root ∷ []) (insert store family.root family)
    put_last =
        record {
          put = family ∷ is.put;
          whole = parts;
          listed = reverse-append roots (family.root ∷ []) ∙ ap (λ rs. family.root ∷ rs) is.listed;
          store = ap (λ s. insert s family.root family) is.store ∙ with_first before family is.put differ_here none_here;
        }

  -- the last family that was put in
  module _ (left : List FamilyValue) (roots others : List ℕ) (store : StoreValue) (root : ℕ) (last : roots ≡ others ++ root ∷ []) where
    back_of : (put : List FamilyValue) → given ≡ left ++ put → reverse roots ≡ map (λ family. family.root) put → store ≡ with_families before put
        → (family : FamilyValue) × (get store root ≡ Some family) × IsPutIn before given (left ++ family ∷ []) others (remove store root)
    back_of [] whole listed is =
        let both : root ∷ reverse others ≡ [] = sym (ap reverse last ∙ reverse-append others (root ∷ [])) ∙ listed in
        absurd (cc)
    back_of (family ∷ put) whole listed is =
        let both : root ∷ reverse others ≡ family.root ∷ map (λ f. f.root) put = sym (ap reverse last ∙ reverse-append others (root ∷ [])) ∙ listed in
        let same : root ≡ family.root = cc in
        let rest : reverse others ≡ map (λ f. f.root) put = cc in
        let differ_here = differ_last left (family ∷ put) (ap roots_differ (sym whole) ∙ differ) in
        let none_here = none_last before left (family ∷ put) (ap (has_none_of before) (sym whole) ∙ none) in (
          family,
          (λ i. get (is i) (same i)) ∙ found_first before family put differ_here none_here,
          record {
            put = put;
            whole = whole ∙ sym (append_assoc left (family ∷ []) put);
            listed = rest;
            store = (λ i. remove (is i) (same i)) ∙ without_first before family put differ_here none_here;
          },
        )

    -- it stands, and goes back to those that are left
    pub take_back_last : IsPutIn before given left roots store → (found : Option FamilyValue) → found ≡ get store root
        → (family : FamilyValue) × (found ≡ Some family) × IsPutIn before given (left ++ family ∷ []) others (remove store root)
    take_back_last is found looked =
        let back = back_of is.put is.whole is.listed is.store in
        (back.0, looked ∙ back.1, back.2)
