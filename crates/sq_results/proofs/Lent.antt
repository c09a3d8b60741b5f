-- Families that are lent, one after another.
use Rattle.std.proofs.Common.{◌≡◌, ℕ, ◌+◌, ◌<◌, ◌≤◌, List, [], ◌∷◌, ◌++◌, length, get_or, slice_get, take, Option, Some, None, refl, sym, ap, ◌∙◌, append_assoc, arith, ⊎_elim}
use Rattle.std.specs.Prelude.{option_map}
use Rattle.std.specs.Borrow.{Bor}
use Rattle.std.specs.List.{flat_map}
use Rattle.std.proofs.lemmas.List.{map-append, append-nil, take_more, flat_map_more}
use Rattle.std.proofs.lemmas.Bool.{cases_lt}
use Rattle.std.proofs.lemmas.Option.{slice_get_within, get_or_from_slice_get}
use Rattle.sq_node_model.proofs.Lists.{stands_at}
use Rattle.sq_schema.specs.Family.{FamilyValue}
use Rattle.sq_results.specs.RowLines.{lent_values}

-- one more is lent, of those that are left
pub one_lent : (old new : List (Bor FamilyValue)) (one : Bor FamilyValue) (left after all : List FamilyValue) → new ≡ old ++ one ∷ [] → left ≡ one.now ∷ after → lent_values old ++ left ≡ all → lent_values new ++ after ≡ all
one_lent old new one left after all pushed steps was =
    ap (λ (fs : List (Bor FamilyValue)). lent_values fs ++ after) pushed
    ∙ ap (λ (fs : List FamilyValue). fs ++ after) (map-append (λ (family : Bor FamilyValue). family.now) old (one ∷ []))
    ∙ append_assoc (lent_values old) (one.now ∷ []) after
    ∙ sym (ap (λ (fs : List FamilyValue). lent_values old ++ fs) steps)
    ∙ was

-- all are lent, and none is left
pub all_lent : (families : List (Bor FamilyValue)) (left all : List FamilyValue) → left ≡ [] → lent_values families ++ left ≡ all → lent_values families ≡ all
all_lent families left all none was = sym (append-nil (lent_values families)) ∙ sym (ap (λ (fs : List FamilyValue). lent_values families ++ fs) none) ∙ was

-- those of one more thing are lent
pub more_lent : {X : Type 0} (families : X → List FamilyValue) (xs : List X) (i : ℕ) (x : X) (before old new : List FamilyValue) → i < length xs → x ≡ get_or xs i x → old ≡ before ++ flat_map families (take i xs) → new ≡ old ++ families x → new ≡ before ++ flat_map families (take (i + 1) xs)
more_lent families xs i x before old new within is so_far added =
    added ∙ ap (λ (fs : List FamilyValue). fs ++ families x) so_far ∙ flat_map_more families before (take i xs) x
    ∙ ap (λ ys. before ++ flat_map families ys) (sym (take_more xs i x within ∙ ap (λ y. take i xs ++ y ∷ []) (sym is)))

-- the same, where the thing is looked up
pub next_lent : {X : Type 0} (families : X → List FamilyValue) (xs : List X) (i next : ℕ) (x : X) (before old new : List FamilyValue) → next ≡ i + 1 → slice_get xs i ≡ Some x → old ≡ before ++ flat_map families (take i xs) → new ≡ old ++ families x → new ≡ before ++ flat_map families (take next xs)
next_lent families xs i next x before old new is at so_far added =
    more_lent families xs i x before old new (slice_get_within xs i x at) (sym (get_or_from_slice_get xs i x x at)) so_far added ∙ ap (λ k. before ++ flat_map families (take k xs)) (sym is)

-- a place of a list or its end, with nothing there, is the end
pub place_behind : {X : Type 0} (xs : List X) (i : ℕ) → i ≤ length xs → slice_get xs i ≡ None → length xs ≡ i
place_behind xs i within none = ⊎_elim (λ below. let there = stands_at xs i below in absurd (cc (sym none ∙ there.1))) (λ over. omega (arith, within, over)) (cases_lt i (length xs))

-- what is mapped of something that is found is found
pub found_of : {X Y : Type 0} (f : X → Y) (found : Option X) (y : Y) → Some y ≡ option_map f found → (x : X) × (found ≡ Some x) × (y ≡ f x)
found_of f None y e = absurd (cc e)
found_of f (Some x) y e = let same : y ≡ f x = cc in (x, refl, same)

-- and of nothing is nothing
pub none_of : {X Y : Type 0} (f : X → Y) (found : Option X) → None ≡ option_map f found → found ≡ None
none_of f None e = refl
none_of f (Some x) e = absurd (cc e)
