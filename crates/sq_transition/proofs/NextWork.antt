-- The work that is cut next, and what is left of it.
use Rattle.std.proofs.Common.{subst, ◌≡◌, ℕ, zero, suc, Bool, true, false, List, [], ◌∷◌, refl, sym, ap, ◌∙◌, arith, true≢false, length}
use Rattle.std.specs.Prelude.{◌+◌, if◌then◌else◌, not, nat_lt, map, filter, find, remove, slice_get, slice_set, Option, Some, None, slice_index_or}
use Rattle.std.specs.List.{position_or_len, IsDistinct, AllByRecursion}
use Rattle.std.proofs.lemmas.List.{length-map}
use Rattle.std.proofs.lemmas.Option.{slice_get_past, slice_get-get_or, same_Some}
use Rattle.std.proofs.lemmas.Bool.{ltb-true, ltb-false, cond_both}
use Rattle.sq_exec.specs.Work.{WorkValue, is_reactive_work, next_work, or_front}
use Rattle.sq_model.specs.Nodes.{Item}
use Rattle.sq_model.specs.Links.{is_reactive, next_item, or_first}
use Rattle.sq_model.proofs.Statuses.{is_same_node, same_node_laws}

-- the first item that passes a test stands where the first work does
find_there : (f : Item → WorkValue) (p : WorkValue → Bool) (q : Item → Bool) (items : List Item) → ((item : Item) → p (f item) ≡ q item) → find q items ≡ slice_get items (position_or_len p (map f items))
find_there f p q [] same = refl
find_there f p q (item ∷ items) same = here (p (f item)) (q item) (same item) (find_there f p q items same)
  where
    here : (a b : Bool) → a ≡ b → find q items ≡ slice_get items (position_or_len p (map f items))
        → (if b then Some item else find q items) ≡ slice_get (item ∷ items) (if not a then 1 + position_or_len p (map f items) else 0)
    here true true e rest = refl
    here false false e rest = rest ∙ ap (slice_get (item ∷ items)) (let e : suc (position_or_len p (map f items)) ≡ 1 + position_or_len p (map f items) = omega arith in e)
    here true false e rest = absurd (true≢false e)
    here false true e rest = absurd (true≢false (sym e))

-- what is cut next is the item at the place of the next work
pub record IsNext (f : Item → WorkValue) (items : List Item) (at : ℕ) : Type 0 where
  pub item : Item
  pub there : slice_get items at ≡ Some item
  pub next : next_item items ≡ Some item

-- where there is work there is an item, and where there is none there is none
abbrev pub SameNext : (Item → WorkValue) → List Item → Option ℕ → Type 0
SameNext f items None = next_item items ≡ None
SameNext f items (Some at) = IsNext f items at

next_by : (f : Item → WorkValue) (items : List Item) (b : Bool) → nat_lt (position_or_len is_reactive_work (map f items)) (length (map f items)) ≡ b → find is_reactive items ≡ slice_get items (position_or_len is_reactive_work (map f items))
    → SameNext f items (or_front (map f items) (if b then Some (position_or_len is_reactive_work (map f items)) else None))
next_by f items true e found =
    let low = ltb-true (position_or_len is_reactive_work (map f items)) (length (map f items)) e in
    let len = length-map items f in
    let no_item : Item = record { seg = 0; node = 0; pull = 0 } in
    let there = slice_get-get_or items (position_or_len is_reactive_work (map f items)) no_item (omega (arith, low, len)) in
    record { item = slice_index_or items (position_or_len is_reactive_work (map f items)) no_item; there = there; next = ap (or_first items) (found ∙ there) }
next_by f [] false e found = refl
next_by f (item ∷ items) false e found =
    let high = ltb-false (position_or_len is_reactive_work (map f (item ∷ items))) (length (map f (item ∷ items))) e in
    let len = length-map (item ∷ items) f in
    record { item = item; there = refl; next = ap (or_first (item ∷ items)) (found ∙ slice_get_past (item ∷ items) (position_or_len is_reactive_work (map f (item ∷ items))) (omega (arith, high, len))) }

pub next_same : (f : Item → WorkValue) (items : List Item) → ((item : Item) → is_reactive_work (f item) ≡ is_reactive item) → SameNext f items (next_work (map f items))
next_same f items same = next_by f items (nat_lt (position_or_len is_reactive_work (map f items)) (length (map f items))) refl (find_there f is_reactive_work is_reactive items same)

-- an item is of another node than each of these
abbrev Differs : Item → List Item → Type 0
Differs item items = AllByRecursion (λ other. is_same_node item other ≡ false) items

differs-slice_get : (item other : Item) (items : List Item) (i : ℕ) → Differs item items → slice_get items i ≡ Some other → is_same_node item other ≡ false
differs-slice_get item other [] i d at = absurd cc
differs-slice_get item other (first ∷ items) zero d at = ap (is_same_node item) (sym (same_Some first other at)) ∙ d.0
differs-slice_get item other (first ∷ items) (suc i) d at = differs-slice_get item other items i d.1 at

differs-filter : (item : Item) (p : Item → Bool) (items : List Item) → Differs item items → Differs item (filter p items)
differs-filter item p [] d = d
differs-filter item p (first ∷ items) d =
    cond_both (p first) (first ∷ filter p items) (filter p items) (Differs item) (λ kept. (d.0, differs-filter item p items d.1)) (λ left. differs-filter item p items d.1)

pub distinct-filter : (p : Item → Bool) (items : List Item) → IsDistinct is_same_node items → IsDistinct is_same_node (filter p items)
unfolding IsDistinct
distinct-filter p [] d = d
distinct-filter p (item ∷ items) d =
    cond_both (p item) (item ∷ filter p items) (filter p items) (IsDistinct is_same_node) (λ kept. (differs-filter item p items d.0, distinct-filter p items d.1)) (λ left. distinct-filter p items d.1)

-- where a test and a measure only change at one item
pub record ChangesAt (item : Item) (p : Item → Bool) (f g : Item → WorkValue) : Type 0 where
  pub passes : (other : Item) → is_same_node item other ≡ false → p other ≡ true
  pub same : (other : Item) → is_same_node item other ≡ false → g other ≡ f other

all_others : (item : Item) (p : Item → Bool) (f g : Item → WorkValue) (items : List Item) → ChangesAt item p f g → Differs item items → map g (filter p items) ≡ map f items
all_others item p f g [] c d = refl
all_others item p f g (first ∷ items) c d =
    ap (λ b. map g (if b then first ∷ filter p items else filter p items)) (c.passes first d.0)
    ∙ (λ i. c.same first d.0 i ∷ all_others item p f g items c d.1 i)

-- the item goes, and the rest stays
pub item_gone : (item : Item) (p : Item → Bool) (f g : Item → WorkValue) (items : List Item) (at : ℕ) → ChangesAt item p f g → IsDistinct is_same_node items → slice_get items at ≡ Some item → p item ≡ false
    → map g (filter p items) ≡ remove (map f items) at
unfolding IsDistinct
item_gone item p f g [] at c d there gone = absurd cc
item_gone item p f g (first ∷ items) zero c d there gone =
    let is : first ≡ item = same_Some first item there in
    ap (λ b. map g (if b then first ∷ filter p items else filter p items)) (ap p is ∙ gone)
    ∙ all_others item p f g items c (subst (λ x. Differs x items) is d.0)
item_gone item p f g (first ∷ items) (suc at) c d there gone =
    let apart : is_same_node item first ≡ false = same_node_laws.symm item first ∙ differs-slice_get first item items at d.0 there in
    ap (λ b. map g (if b then first ∷ filter p items else filter p items)) (c.passes first apart)
    ∙ (λ i. c.same first apart i ∷ item_gone item p f g items at c d.1 there gone i)

-- the item stays with another measure, and the rest stays
pub item_changed : (item : Item) (p : Item → Bool) (f g : Item → WorkValue) (items : List Item) (at : ℕ) → ChangesAt item p f g → IsDistinct is_same_node items → slice_get items at ≡ Some item → p item ≡ true
    → map g (filter p items) ≡ slice_set (map f items) at (g item)
unfolding IsDistinct
item_changed item p f g [] at c d there stays = absurd cc
item_changed item p f g (first ∷ items) zero c d there stays =
    let is : first ≡ item = same_Some first item there in
    ap (λ b. map g (if b then first ∷ filter p items else filter p items)) (ap p is ∙ stays)
    ∙ (λ i. g (is i) ∷ all_others item p f g items c (subst (λ x. Differs x items) is d.0) i)
item_changed item p f g (first ∷ items) (suc at) c d there stays =
    let apart : is_same_node item first ≡ false = same_node_laws.symm item first ∙ differs-slice_get first item items at d.0 there in
    ap (λ b. map g (if b then first ∷ filter p items else filter p items)) (c.passes first apart)
    ∙ (λ i. c.same first apart i ∷ item_changed item p f g items at c d.1 there stays i)
