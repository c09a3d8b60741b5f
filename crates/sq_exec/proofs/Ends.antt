-- The ends of links in a partition.
use Rattle.std.proofs.Common.{◌≡◌, ℕ, zero, suc, ◌+◌, ◌<◌, Bool, true, List, [], ◌∷◌, map, length, get_or, set, take, refl, sym, ap, ◌∙◌, arith}
use Rattle.std.specs.Prelude.{◌&&◌}
use Rattle.std.specs.List.{list_all}
use Rattle.std.proofs.lemmas.List.{take_more_set, set_past}
use Rattle.std.proofs.lemmas.Bool.{and_parts}
use Rattle.std.proofs.lemmas.List.Folds.{list_all-append, list_all-map}
use Rattle.sq_store.specs.StoreValue.{StoreValue}
use Rattle.sq_exec.proofs.Seen.{seen_changed, seen_set, seen_kept}
use Rattle.sq_exec.specs.OutLink.{OutLinkValue, RoomyOutLink, new_out_link}
use Rattle.sq_exec.specs.CoreValue.{PartCoreValue, out_at, with_out}

abbrev pub link_of : RoomyOutLink → OutLinkValue
link_of out = out.link

abbrev pub links_of : List RoomyOutLink → List OutLinkValue
links_of outs = map link_of outs

-- a partition with one end changed
pub core_changed : {seen now : PartCoreValue} → seen ≡ now → (outs : List RoomyOutLink) → links_of outs ≡ seen.core.outs
    → (change : OutLinkValue → OutLinkValue) (i dst : ℕ) (out after : RoomyOutLink) → i ≡ dst → out ≡ get_or outs i out → after.link ≡ change out.link
    → record seen.core { outs = links_of (set outs i after) } ≡ with_out now.core dst (change (out_at now.core dst))
core_changed {seen} {now} view_is outs outs_is change i dst out after same read is =
    let changed : links_of (set outs i after) ≡ set seen.core.outs dst (change (get_or seen.core.outs dst new_out_link)) =
    seen_changed link_of outs new_out_link change i dst out after same read is ∙ ap (λ links. set links dst (change (get_or links dst new_out_link))) outs_is in
    ap (λ links. record seen.core { outs = links }) changed ∙ ap (λ (v : PartCoreValue). with_out v.core dst (change (out_at v.core dst))) view_is

-- a partition with another end, and another store
pub core_with : {seen now : PartCoreValue} → seen ≡ now → (outs : List RoomyOutLink) → links_of outs ≡ seen.core.outs → (store : StoreValue) (i dst : ℕ) (after : RoomyOutLink) → i ≡ dst
    → record seen.core { outs = links_of (set outs i after); store = store } ≡ record (with_out now.core dst after.link) { store = store }
core_with {seen} {now} view_is outs outs_is store i dst after same =
    (λ k. record seen.core { outs = (seen_set link_of outs i after after.link refl ∙ (λ j. set (outs_is j) (same j) after.link)) k; store = store })
    ∙ ap (λ (v : PartCoreValue). record (with_out v.core dst after.link) { store = store }) view_is

-- a partition that was put back as it was
pub core_kept : {seen now : PartCoreValue} → seen ≡ now → (outs : List RoomyOutLink) → links_of outs ≡ seen.core.outs → (store : StoreValue) → store ≡ seen.core.store
    → (i : ℕ) (out after : RoomyOutLink) → out ≡ get_or outs i out → after.link ≡ out.link → record seen.core { outs = links_of (set outs i after); store = store } ≡ now.core
core_kept {seen} {now} view_is outs outs_is store store_is i out after read is =
    (λ k. record seen.core { outs = (seen_kept link_of outs i out after read is ∙ outs_is) k; store = store_is k }) ∙ ap (λ (v : PartCoreValue). v.core) view_is

-- the end that follows those with room has room
pub room_more : (outs : List RoomyOutLink) (i : ℕ) (after : RoomyOutLink) → i < length outs → list_all (λ out. out.has_room) (take i outs) ≡ true → after.has_room ≡ true
    → list_all (λ out. out.has_room) (take (i + 1) (set outs i after)) ≡ true
room_more outs i after lt room here =
    rw (take_more_set outs i after lt) (rw (list_all-append (λ (out : RoomyOutLink). out.has_room) (take i outs) (after ∷ [])) (λ k. room k && (here k && true)))

abbrev pub roomy : RoomyOutLink → Bool
roomy out = out.has_room

-- one was changed that has room as before
pub room_kept : (outs : List RoomyOutLink) (i : ℕ) (out after : RoomyOutLink) → out ≡ get_or outs i out → after.has_room ≡ out.has_room → list_all roomy (set outs i after) ≡ list_all roomy outs
room_kept outs i out after read same =
    sym (list_all-map (λ (b : Bool). b) roomy (set outs i after)) ∙ ap (list_all (λ (b : Bool). b)) (seen_kept roomy outs i out after read same) ∙ list_all-map (λ (b : Bool). b) roomy outs

-- one was changed that still has room
pub room_still : (outs : List RoomyOutLink) (i : ℕ) (out after : RoomyOutLink) → out ≡ get_or outs i out → (out.has_room ≡ true → after.has_room ≡ true) → list_all roomy outs ≡ true → list_all roomy (set outs i after) ≡ true
room_still [] i out after read still all = ap (list_all roomy) (set_past [] i after (omega arith))
room_still (x ∷ outs) zero out after read still all =
    let parts = and_parts x.has_room (list_all roomy outs) all in
    λ k. still (ap roomy read ∙ parts.0) k && parts.1 k
room_still (x ∷ outs) (suc i) out after read still all =
    let parts = and_parts x.has_room (list_all roomy outs) all in
    λ k. parts.0 k && room_still outs i out after read still parts.1 k
