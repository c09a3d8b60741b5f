-- Partitions whose families are filled with the rows of their root keys, from the greatest root key on.
use Rattle.std.proofs.Common.{subst, ◌≡◌, ℕ, Bool, true, false, List, [], ◌∷◌, ◌++◌, length, get_or, set, map, refl, sym, ap, ◌∙◌, arith, append_assoc, append-nil, length-append, length-set}
use Rattle.std.specs.Prelude.{◌<◌, ◌≢◌, ◌==◌, not, if◌then◌else◌, ⊤, IsSome}
use Rattle.std.specs.List.{range_with_len}
use Rattle.std.specs.Ordering.{nat_cmp, is_lt}
use Rattle.std.specs.FinMap.{get, insert, empty}
use Rattle.std.specs.FinMap.Entries.{below_all, is_sorted}
use Rattle.std.proofs.lemmas.Bool.{and_parts, eq-eqb, ne_eqb}
use Rattle.std.proofs.lemmas.List.{map-append, map-set, length-map, get_or-map, get_or-set_same, get_or-set_other, ext_get_or}
use Rattle.std.proofs.lemmas.List.Elements.{filter-append}
use Rattle.std.proofs.lemmas.List.Sums.{fold-append}
use Rattle.std.proofs.lemmas.List.FromFn.{length-range_with_len, get_or-range_with_len}
use Rattle.sq_schema.specs.Effect.{RowList}
use Rattle.sq_schema.specs.Family.{FamilyValue}
use Rattle.sq_schema.specs.Rows.{is_rooted}
use Rattle.sq_schema.specs.Table.{TableValue, is_opening}
use Rattle.sq_plan.specs.PlanValue.{PlanValue, owner}
use Rattle.sq_moves.specs.OpeningValue.{OpeningValue}
use Rattle.sq_store.specs.StoreValue.{StoreValue, with_families}
use Rattle.sq_store.specs.Opened.{blank, opened_family, owned_entries, opened_families}
use Rattle.sq_store.proofs.Keys.{same_store, at_key, get-insert_same, get-insert_other}
use Rattle.sq_store.proofs.Order.{less_from_cmp}
use Rattle.sq_exec.specs.CoreValue.{CoreValue, PartCoreValue}
use Rattle.sq_exec.specs.Opened.{opened_part, blank_part, with_opened, AreBlank}

-- a family in the place of one of its root key
insert_again : (store : StoreValue) (root : ℕ) (first second : FamilyValue) → insert (insert store root first) root second ≡ insert store root second
insert_again store root first second =
    same_store (insert (insert store root first) root second) (insert store root second) (λ q.
    at_key root q
    (λ same. get-insert_same (insert store root first) root second q same ∙ sym (get-insert_same store root second q same))
    (λ apart. get-insert_other (insert store root first) root second q apart ∙ get-insert_other store root first q apart ∙ sym (get-insert_other store root second q apart)))

-- families of two root keys, in either order
insert_swapped : (store : StoreValue) (root other : ℕ) (family next : FamilyValue) → other ≢ root → insert (insert store root family) other next ≡ insert (insert store other next) root family
insert_swapped store root other family next apart =
    same_store (insert (insert store root family) other next) (insert (insert store other next) root family) (λ q.
    at_key root q
    (λ same.
    get-insert_other (insert store root family) other next q (λ is. apart (sym is ∙ same))
    ∙ get-insert_same store root family q same
    ∙ sym (get-insert_same (insert store other next) root family q same))
    (λ off.
    at_key other q
    (λ same. get-insert_same (insert store root family) other next q same ∙ sym (get-insert_other (insert store other next) root family q off ∙ get-insert_same store other next q same))
    (λ away.
    get-insert_other (insert store root family) other next q away
    ∙ get-insert_other store root family q off
    ∙ sym (get-insert_other (insert store other next) root family q off ∙ get-insert_other store other next q away))))

-- none of the families has the root key
abbrev IsNoneOf : ℕ → List FamilyValue → Type 0
IsNoneOf root [] = ⊤
IsNoneOf root (family ∷ families) = (family.root ≢ root) × IsNoneOf root families

-- so does one that was inserted before them
replaced : (store : StoreValue) (root : ℕ) (first second : FamilyValue) (later : List FamilyValue) → IsNoneOf root later → with_families (insert store root second) later ≡ insert (with_families (insert store root first) later) root second
replaced store root first second [] none = sym (insert_again store root first second)
replaced store root first second (next ∷ later) none =
    ap (λ s. with_families s later) (insert_swapped store root next.root second next none.0)
    ∙ replaced (insert store next.root next) root first second later none.1
    ∙ ap (λ s. insert (with_families s later) root second) (sym (insert_swapped store root next.root first next none.0))

-- the rows after a root key are those of others
none_owned : (plan : PlanValue) (part root : ℕ) (back : TableValue) → below_all nat_cmp root back ≡ true → IsNoneOf root (opened_families plan part back)
none_owned plan part root [] below = tt
none_owned plan part root (entry ∷ back) below =
    by_owner (owner plan entry.0 == part) (λ same. let less : root < entry.0 = less_from_cmp root entry.0 parts.0 in absurd (omega (arith, less, same))) (none_owned plan part root back parts.1)
  where
    parts : (is_lt (nat_cmp root entry.0) ≡ true) × (below_all nat_cmp root back ≡ true)
    parts = and_parts (is_lt (nat_cmp root entry.0)) (below_all nat_cmp root back) below

    own : TableValue
    own = owned_entries plan part back

    by_owner : (b : Bool) → entry.0 ≢ root → IsNoneOf root (map opened_family own) → IsNoneOf root (map opened_family (if b then entry ∷ own else own))
    by_owner true apart rest = (apart, rest)
    by_owner false apart rest = rest

behind : (front : TableValue) (entry : ℕ × RowList) (back : TableValue) → is_sorted nat_cmp (front ++ entry ∷ back) ≡ true → below_all nat_cmp entry.0 back ≡ true
behind [] entry back rising = (and_parts (below_all nat_cmp entry.0 back) (is_sorted nat_cmp back) rising).0
behind (first ∷ front) entry back rising =
    behind front entry back (and_parts (below_all nat_cmp first.0 (front ++ entry ∷ back)) (is_sorted nat_cmp (front ++ entry ∷ back)) rising).1

abbrev opened_store : PlanValue → ℕ → TableValue → StoreValue
opened_store plan part table = with_families empty (opened_families plan part table)

module _ (plan : PlanValue) (part : ℕ) where
  opened_append : (front back : TableValue) → opened_families plan part (front ++ back) ≡ opened_families plan part front ++ opened_families plan part back
  opened_append front back =
      ap (map opened_family) (filter-append (λ (entry : ℕ × RowList). owner plan entry.0 == part) front back) ∙ map-append opened_family (owned_entries plan part front) (owned_entries plan part back)

  module _ (root : ℕ) (front back : TableValue) where
    abbrev with_rows_of : RowList → TableValue
    with_rows_of rows = front ++ (root, rows) ∷ back

    -- another partition doesn't see the rows
    pub unseen : (one other : RowList) → (owner plan root == part) ≡ false → opened_store plan part (with_rows_of one) ≡ opened_store plan part (with_rows_of other)
    unseen one other apart = ap (with_families empty) (skips one ∙ sym (skips other))
      where
        skips : (rows : RowList) → opened_families plan part (with_rows_of rows) ≡ opened_families plan part front ++ opened_families plan part back
        skips rows =
            opened_append front ((root, rows) ∷ back)
            ∙ ap (λ b. opened_families plan part front ++ map opened_family (if b then (root, rows) ∷ owned_entries plan part back else owned_entries plan part back)) apart

    module _ (above : below_all nat_cmp root back ≡ true) (own : (owner plan root == part) ≡ true) where
      splits : (rows : RowList) → opened_store plan part (with_rows_of rows) ≡ with_families (insert (opened_store plan part front) root (opened_family (root, rows))) (opened_families plan part back)
      splits rows =
          ap (with_families empty)
          (opened_append front ((root, rows) ∷ back)
          ∙ ap (λ b. opened_families plan part front ++ map opened_family (if b then (root, rows) ∷ owned_entries plan part back else owned_entries plan part back)) own)
          ∙ fold-append (λ (so_far : StoreValue) (family : FamilyValue). insert so_far family.root family) empty (opened_families plan part front) (opened_family (root, rows) ∷ opened_families plan part back)

      -- its owner does
      pub seen : (one other : RowList) → opened_store plan part (with_rows_of other) ≡ insert (opened_store plan part (with_rows_of one)) root (opened_family (root, other))
      seen one other =
          splits other
          ∙ replaced (opened_store plan part front) root (opened_family (root, one)) (opened_family (root, other)) (opened_families plan part back) (none_owned plan part root back above)
          ∙ ap (λ store. insert store root (opened_family (root, other))) (sym (splits one))

      -- and has its family
      pub stands : (rows : RowList) → IsSome (get (opened_store plan part (with_rows_of rows)) root)
      stands rows =
          subst (λ o. IsSome o)
          (sym (ap (λ store. get store root) (seen rows rows) ∙ get-insert_same (opened_store plan part (with_rows_of rows)) root (opened_family (root, rows)) root refl)) refl

-- what was filled so far: the rows that were taken out of the table, after the root keys that are left
pub record IsFilled (plan : PlanValue) (whole left : TableValue) (cores now : List CoreValue) : Type 0 where
  pub taken : TableValue
  pub parted : whole ≡ left ++ taken
  pub stored : now ≡ map (with_opened plan (blank left ++ taken)) cores

pub none_filled : (plan : PlanValue) (table : TableValue) (cores : List CoreValue) → map (with_opened plan (blank table)) cores ≡ cores → IsFilled plan table table cores cores
none_filled plan table cores stores =
    record {
      taken = [];
      parted = sym (append-nil table);
      stored = sym stores ∙ ap (λ (t : TableValue). map (with_opened plan t) cores) (sym (append-nil (blank table)));
    }

pub all_filled : (plan : PlanValue) (whole left : TableValue) (cores now : List CoreValue) → IsFilled plan whole left cores now → left ≡ [] → now ≡ map (with_opened plan whole) cores
all_filled plan whole left cores now is none =
    let taken : whole ≡ is.taken = is.parted ∙ ap (λ (t : TableValue). t ++ is.taken) none in
    is.stored ∙ ap (λ (t : TableValue). map (with_opened plan (blank t ++ is.taken)) cores) none ∙ ap (λ (t : TableValue). map (with_opened plan t) cores) (sym taken)

module _ (plan : PlanValue) (cores : List CoreValue) (parts : map (λ (core : CoreValue). core.part) cores ≡ range_with_len 0 plan.parts) where
  pub core_count : length cores ≡ plan.parts
  core_count = sym (length-map cores (λ (core : CoreValue). core.part)) ∙ ap length parts ∙ length-range_with_len 0 plan.parts

  part_at : (at : ℕ) (d : CoreValue) → at < length cores → (get_or cores at d).part ≡ at
  part_at at d inside =
      let read = sym (get_or-map (λ (core : CoreValue). core.part) cores at d 0 inside) ∙ ap (λ (ns : List ℕ). get_or ns at 0) parts ∙ get_or-range_with_len 0 plan.parts at 0 (omega (arith, core_count, inside)) in
      omega (arith, read)

  -- the owner of a root key gets its rows
  module _ (root : ℕ) (rows : RowList) (front back : TableValue) (above : below_all nat_cmp root back ≡ true) (at : ℕ) (owns : at ≡ owner plan root) (inside : at < length cores) where
    abbrev before : TableValue
    before = front ++ (root, []) ∷ back

    abbrev after : TableValue
    after = front ++ (root, rows) ∷ back

    module _ (old : CoreValue) (read : old ≡ get_or (map (with_opened plan before) cores) at old) where
      abbrev core : CoreValue
      core = get_or cores at old

      old_is : old ≡ with_opened plan before core
      old_is = read ∙ get_or-map (with_opened plan before) cores at old old inside

      own : (owner plan root == core.part) ≡ true
      own = eq-eqb (owner plan root) core.part (sym owns ∙ sym (part_at at old inside))

      pub stands_at : IsSome (get old.store root)
      stands_at = subst (λ (store : StoreValue). IsSome (get store root)) (sym (ap (λ (c : CoreValue). c.store) old_is)) (stands plan core.part root front back above own [])

      module _ (new : CoreValue) (filled : new ≡ record old { store = insert old.store root (opened_family (root, rows)) }) where
        new_is : new ≡ with_opened plan after core
        new_is =
            filled
            ∙ ap (λ (c : CoreValue). record c { store = insert c.store root (opened_family (root, rows)) }) old_is
            ∙ ap (λ (s : StoreValue). record core { store = s }) (sym (seen plan core.part root front back above own [] rows))

        other_at : (i : ℕ) → i ≢ at → i < length cores → with_opened plan before (get_or cores i old) ≡ with_opened plan after (get_or cores i old)
        other_at i apart within =
            let one = get_or cores i old in
            let not_own : (owner plan root == one.part) ≡ false = ne_eqb (owner plan root) one.part (λ same. apart (sym (owns ∙ same ∙ part_at i old within))) in
            ap (λ (s : StoreValue). record one { store = s }) (unseen plan one.part root front back [] rows not_own)

        pub filled_at : set (map (with_opened plan before) cores) at new ≡ map (with_opened plan after) cores
        filled_at =
            let were = map (with_opened plan before) cores in
            let are = map (with_opened plan after) cores in
            let count : length (set were at new) ≡ length cores = length-set were at new ∙ length-map cores (with_opened plan before) in
            ext_get_or new (set were at new) are (count ∙ sym (length-map cores (with_opened plan after))) (λ i within.
            at_key at i
            (λ (same : i ≡ at).
            ap (λ k. get_or (set were at new) k new) same
            ∙ get_or-set_same were at new new (omega (arith, inside, length-map cores (with_opened plan before)))
            ∙ new_is
            ∙ sym (get_or-map (with_opened plan after) cores at old new inside)
            ∙ ap (λ k. get_or are k new) (sym same))
            (λ (apart : i ≢ at).
            let here : i < length cores = omega (arith, within, count) in
            get_or-set_other were at i new new apart
            ∙ get_or-map (with_opened plan before) cores i old new here
            ∙ other_at i apart here
            ∙ sym (get_or-map (with_opened plan after) cores i old new here)))

  -- the greatest root key that is left, and its rows
  module _ (whole left less : TableValue) (root : ℕ) (rows : RowList) (now : List CoreValue) (rising : is_sorted nat_cmp whole ≡ true) (so_far : IsFilled plan whole left cores now) (last : left ≡ less ++ (root, rows) ∷ []) where
    whole_is : whole ≡ less ++ (root, rows) ∷ so_far.taken
    whole_is = so_far.parted ∙ ap (λ (t : TableValue). t ++ so_far.taken) last ∙ append_assoc less ((root, rows) ∷ []) so_far.taken

    above_last : below_all nat_cmp root so_far.taken ≡ true
    above_last = behind less (root, rows) so_far.taken (ap (is_sorted nat_cmp) (sym whole_is) ∙ rising)

    now_is : now ≡ map (with_opened plan (blank less ++ (root, []) ∷ so_far.taken)) cores
    now_is =
        so_far.stored
        ∙ ap (λ (t : TableValue). map (with_opened plan t) cores)
        (ap (λ (t : TableValue). blank t ++ so_far.taken) last
        ∙ ap (λ (t : TableValue). t ++ so_far.taken) (map-append (λ (entry : ℕ × RowList). (entry.0, [])) less ((root, rows) ∷ []))
        ∙ append_assoc (blank less) ((root, []) ∷ []) so_far.taken)

    now_count : length now ≡ length cores
    now_count = ap length now_is ∙ length-map cores (with_opened plan (blank less ++ (root, []) ∷ so_far.taken))

    pub inside_now : owner plan root < plan.parts → owner plan root < length now
    inside_now exists = omega (arith, exists, now_count, core_count)

    module _ (at : ℕ) (owns : at ≡ owner plan root) (inside : at < length now) (old : CoreValue) (read : old ≡ get_or now at old) where
      within : at < length cores
      within = omega (arith, inside, now_count)

      read_now : old ≡ get_or (map (with_opened plan (blank less ++ (root, []) ∷ so_far.taken)) cores) at old
      read_now = read ∙ ap (λ (cs : List CoreValue). get_or cs at old) now_is

      pub can_fill : IsSome (get old.store root)
      can_fill = stands_at root rows (blank less) so_far.taken above_last at owns within old read_now

      pub one_filled : (new : CoreValue) → new ≡ record old { store = insert old.store root (opened_family (root, rows)) } → IsFilled plan whole less cores (set now at new)
      one_filled new filled =
          record {
            taken = (root, rows) ∷ so_far.taken;
            parted = whole_is;
            stored = ap (λ (cs : List CoreValue). set cs at new) now_is ∙ filled_at root rows (blank less) so_far.taken above_last at owns within old read_now new filled;
          }

-- the same of partitions with their numbering
module _ (plan : PlanValue) (first now : List PartCoreValue) (parts : map (λ (core : CoreValue). core.part) (map (λ (part : PartCoreValue). part.core) first) ≡ range_with_len 0 plan.parts)
    (whole left less : TableValue) (root : ℕ) (rows : RowList) (rising : is_sorted nat_cmp whole ≡ true) (so_far : IsFilled plan whole left (map (λ (part : PartCoreValue). part.core) first) (map (λ (part : PartCoreValue). part.core) now))
    (last : left ≡ less ++ (root, rows) ∷ []) (at : ℕ) (owns : at ≡ owner plan root) where
  abbrev cores : List PartCoreValue → List CoreValue
  cores all = map (λ (part : PartCoreValue). part.core) all

  pub has_place : owner plan root < plan.parts → at < length now
  has_place exists =
      let inside = inside_now plan (cores first) parts whole left less root rows (cores now) rising so_far last exists in
      omega (arith, inside, owns, length-map now (λ (part : PartCoreValue). part.core))

  module _ (inside : at < length now) (old : PartCoreValue) (read : old ≡ get_or now at old) where
    core_inside : at < length (cores now)
    core_inside = omega (arith, inside, length-map now (λ (part : PartCoreValue). part.core))

    read_core : old.core ≡ get_or (cores now) at old.core
    read_core = ap (λ (part : PartCoreValue). part.core) read ∙ sym (get_or-map (λ (part : PartCoreValue). part.core) now at old old.core inside)

    pub has_family : IsSome (get old.core.store root)
    has_family = can_fill plan (cores first) parts whole left less root rows (cores now) rising so_far last at owns core_inside old.core read_core

    pub part_filled : (new : PartCoreValue) → new.core ≡ record old.core { store = insert old.core.store root (opened_family (root, rows)) } → IsFilled plan whole less (cores first) (cores (set now at new))
    part_filled new filled =
        subst (IsFilled plan whole less (cores first)) (sym (map-set (λ (part : PartCoreValue). part.core) now at new))
        (one_filled plan (cores first) parts whole left less root rows (cores now) rising so_far last at owns core_inside old.core read_core new.core filled)

-- one root key fewer is left
pub fewer : (left less : TableValue) (entry : ℕ × RowList) → left ≡ less ++ entry ∷ [] → length less < length left
fewer left less entry last = omega (arith, ap length last, length-append less (entry ∷ []))

pub rooted : (left less : TableValue) (root : ℕ) (rows : RowList) → left ≡ less ++ (root, rows) ∷ [] → is_opening rows ≡ true → is_rooted rows ≡ true
rooted left less root rows last opening = (and_parts (not (length rows == 0)) (is_rooted rows) opening).1

-- the partitions of an opening, with and without rows
map_twice : (f : CoreValue → CoreValue) (g : ℕ → CoreValue) (parts : List ℕ) → map f (map g parts) ≡ map (λ part. f (g part)) parts
map_twice f g [] = refl
map_twice f g (part ∷ parts) = ap (λ (cores : List CoreValue). f (g part) ∷ cores) (map_twice f g parts)

numbers : (o : OpeningValue) (parts : List ℕ) → map (λ (core : CoreValue). core.part) (map (blank_part o) parts) ≡ parts
numbers o [] = refl
numbers o (part ∷ parts) = ap (λ (ns : List ℕ). part ∷ ns) (numbers o parts)

pub parts_blank : (o : OpeningValue) → is_sorted nat_cmp o.table ≡ true → AreBlank o.old o.table (map (blank_part o) (range_with_len 0 o.old.parts))
parts_blank o rising =
    record {
      rising = rising;
      parts = numbers o (range_with_len 0 o.old.parts);
      stores = map_twice (with_opened o.old (blank o.table)) (blank_part o) (range_with_len 0 o.old.parts);
    }

pub parts_filled : (o : OpeningValue) → map (with_opened o.old o.table) (map (blank_part o) (range_with_len 0 o.old.parts)) ≡ map (opened_part o) (range_with_len 0 o.old.parts)
parts_filled o = map_twice (with_opened o.old o.table) (blank_part o) (range_with_len 0 o.old.parts)
