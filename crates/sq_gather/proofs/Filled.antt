-- The jobs of partitions, as more are added.
use Rattle.std.proofs.Common.{◌≡◌, ⊎_elim, ℕ, ◌+◌, ◌<◌, ◌≤◌, List, [], ◌∷◌, ◌++◌, length, map, Some, refl, sym, ap, ◌∙◌, subst, subst₂, append_assoc, append-nil, length-append, arith}
use Rattle.std.specs.Prelude.{slice_get, slice_set}
use Rattle.std.proofs.lemmas.Bool.{cases_lt}
use Rattle.std.proofs.lemmas.List.{length-set, length-map, map-set, map-append}
use Rattle.std.proofs.lemmas.Option.{same_Some, slice_get_within}
use Rattle.sq_moves.specs.declared.opening.TheConstants.{MAX_WAITING}
use Rattle.sq_node.specs.declared.fabric.TheConstants.{JOB_PLACES}
use Rattle.sq_schema.specs.TxnValue.{TxnValue}
use Rattle.sq_node_model.proofs.Lists.{stands_at, map_at, at_map}
use Rattle.sq_node_model.proofs.Members.{set_kept, set_new, slice_get-front, slice_get-pushed}
use Rattle.sq_node_model.specs.BeganWith.{BeginsWith}
use Rattle.sq_gather.specs.Left.{Room, AreRooms, BeginWithWaiting, OnlyGrow}

pub begins_same : (jobs : List TxnValue) → BeginsWith jobs jobs
begins_same jobs = ([], sym (append-nil jobs))

pub begins_more : (first mid jobs : List TxnValue) → BeginsWith first mid → BeginsWith mid jobs → BeginsWith first jobs
begins_more first mid jobs one other = (
  one.0 ++ other.0,
  other.1 ∙ ap (λ (list : List TxnValue). list ++ other.0) one.1 ∙ append_assoc first one.0 other.0,
)

pub grow_same : (all : List (List TxnValue)) → OnlyGrow all all
grow_same all = record { count = refl; each = λ part was now there again. subst (BeginsWith was) (same_Some was now (sym there ∙ again)) (begins_same was) }

pub grow_more : (old mid new : List (List TxnValue)) → OnlyGrow old mid → OnlyGrow mid new → OnlyGrow old new
grow_more old mid new one other = record {
  count = other.count ∙ one.count;
  each = λ part was now there again.
      let low = slice_get_within old part was there in
      let between : (jobs : List TxnValue) × (slice_get mid part ≡ Some jobs) = stands_at mid part (omega (arith, low, one.count)) in
      begins_more was between.0 now (one.each part was between.0 there between.1) (other.each part between.0 now between.1 again);
}

-- where one list is another now that begins with it
pub grow_at : {X : Type 0} (f : X → List TxnValue) (xs : List X) (at : ℕ) (was now : X) → slice_get xs at ≡ Some was → BeginsWith (f was) (f now) → OnlyGrow (map f xs) (map f (slice_set xs at now))
grow_at {X} f xs at was now stands begins = record {
  count = length-map (slice_set xs at now) f ∙ length-set xs at now ∙ sym (length-map xs f);
  each = λ part one other there again.
      let old = map_at f xs part one there in
      let new = map_at f (slice_set xs at now) part other again in
      ⊎_elim
      (λ (less : part < at).
      let same : old.0 ≡ new.0 = same_Some old.0 new.0 (sym (set_kept xs at part now old.0 old.1 (λ e. absurd (omega (arith, less, e)))) ∙ new.1) in
      subst₂ BeginsWith old.2 (ap f same ∙ new.2) (begins_same (f old.0)))
      (λ (upto : at ≤ part).
      ⊎_elim
      (λ (more : at < part).
      let same : old.0 ≡ new.0 = same_Some old.0 new.0 (sym (set_kept xs at part now old.0 old.1 (λ e. absurd (omega (arith, more, e)))) ∙ new.1) in
      subst₂ BeginsWith old.2 (ap f same ∙ new.2) (begins_same (f old.0)))
      (λ (from : part ≤ at).
      let here : part ≡ at = omega (arith, upto, from) in
      let before : was ≡ old.0 = same_Some was old.0 (sym stands ∙ ap (slice_get xs) (sym here) ∙ old.1) in
      let after : now ≡ new.0 = same_Some now new.0 (sym (set_new xs at now was stands) ∙ ap (slice_get (slice_set xs at now)) (sym here) ∙ new.1) in
      subst₂ BeginsWith (ap f before ∙ old.2) (ap f after ∙ new.2) begins)
      (cases_lt at part))
      (cases_lt part at);
}

-- those of these lists of waiting jobs that aren't left were put into the rooms of their partitions
pub record Fills (waiting rest : List (List TxnValue)) (rooms now : List Room) : Type 0 where
  pub front : (part : ℕ) (first : List TxnValue) → slice_get rest part ≡ Some first → slice_get waiting part ≡ Some first
  pub count : length now ≡ length rooms
  pub same : (part : ℕ) → part < length rest → slice_get now part ≡ slice_get rooms part
  pub begun : (part : ℕ) (first : List TxnValue) (room : Room) → length rest ≤ part → slice_get waiting part ≡ Some first → slice_get now part ≡ Some room → length first ≤ MAX_WAITING → room.0 ≡ first

pub fills_none : (waiting : List (List TxnValue)) (rooms : List Room) → Fills waiting waiting rooms rooms
fills_none waiting rooms = record {
  front = λ part first there. there;
  count = refl;
  same = λ part low. refl;
  begun = λ part first room past there at small. absurd (let lt = slice_get_within waiting part first there in omega (arith, past, lt));
}

-- the last one that is left is put into the room of its partition
module _ (waiting left rest : List (List TxnValue)) (rooms now : List Room) (one : List TxnValue) (so_far : Fills waiting left rooms now) (taken : left ≡ rest ++ one ∷ []) where
  longer : length left ≡ length rest + 1
  longer = ap length taken ∙ length-append rest (one ∷ [])

  one_stands : slice_get waiting (length rest) ≡ Some one
  one_stands = so_far.front (length rest) one (ap (λ (list : List (List TxnValue)). slice_get list (length rest)) taken ∙ slice_get-pushed rest one)

  module _ (all : length waiting ≤ length rooms) (are : AreRooms (length rooms) rooms) where
    pub place_below : length rest < length now
    place_below = let lt = slice_get_within waiting (length rest) one one_stands in omega (arith, all, so_far.count)

    -- that room is as it was
    pub room_waits : (room : Room) → slice_get now (length rest) ≡ Some room → (room.0 ≡ []) × (MAX_WAITING ≤ room.1)
    room_waits room there =
        let is = are.each (length rest) room (sym (so_far.same (length rest) (omega (arith, longer))) ∙ there) in
        (is.0, omega (arith, is.1))

    pub fills_more : (room : Room) → (length one ≤ MAX_WAITING → room.0 ≡ one) → Fills waiting rest rooms (slice_set now (length rest) room)
    fills_more room puts =
        let at = length rest in
        let was : (r : Room) × (slice_get now at ≡ Some r) = stands_at now at place_below in
        record {
          front = λ part first there. so_far.front part first (ap (λ (list : List (List TxnValue)). slice_get list part) taken ∙ slice_get-front rest (one ∷ []) part first there);
          count = length-set now at room ∙ so_far.count;
          same = λ part low.
              let old : (r : Room) × (slice_get now part ≡ Some r) = stands_at now part (omega (arith, low, place_below)) in
              set_kept now at part room old.0 old.1 (λ e. absurd (omega (arith, low, e))) ∙ sym old.1 ∙ so_far.same part (omega (arith, low, longer));
          begun = λ part first other past there again small.
              ⊎_elim
              (λ (here : part < length left).
              let same_place : part ≡ at = omega (arith, here, past, longer) in
              let one_is : one ≡ first = same_Some one first (sym one_stands ∙ ap (slice_get waiting) (sym same_place) ∙ there) in
              let room_is : room ≡ other = same_Some room other (sym (set_new now at room was.0 was.1) ∙ ap (slice_get (slice_set now at room)) (sym same_place) ∙ again) in
              ap (λ (r : Room). r.0) (sym room_is) ∙ puts (omega (arith, ap length one_is, small)) ∙ one_is)
              (λ (later : length left ≤ part).
              let low = slice_get_within (slice_set now at room) part other again in
              let old : (r : Room) × (slice_get now part ≡ Some r) = stands_at now part (omega (arith, low, length-set now at room)) in
              let other_is : old.0 ≡ other = same_Some old.0 other (sym (set_kept now at part room old.0 old.1 (λ e. absurd (omega (arith, later, longer, e)))) ∙ again) in
              ap (λ (r : Room). r.0) (sym other_is) ∙ so_far.begun part first old.0 later there old.1 small)
              (cases_lt part (length left));
        }

-- the same of lists that are mapped to these
pub record FillsNext {W X : Type 0} (f : W → List TxnValue) (room_of : X → Room) (waiting rest : List W) (one : W) (rooms now : List X) : Type 0 where
  pub below : length rest < length now
  pub waits : (x : X) → slice_get now (length rest) ≡ Some x → ((room_of x).0 ≡ []) × (MAX_WAITING ≤ (room_of x).1)
  pub more : (x : X) → (length (f one) ≤ MAX_WAITING → (room_of x).0 ≡ f one) → Fills (map f waiting) (map f rest) (map room_of rooms) (map room_of (slice_set now (length rest) x))

pub fills_next : {W X : Type 0} (f : W → List TxnValue) (room_of : X → Room) (waiting left rest : List W) (one : W) (rooms now : List X) → Fills (map f waiting) (map f left) (map room_of rooms) (map room_of now) → left ≡ rest ++ one ∷ []
    → length waiting ≤ length rooms → AreRooms (length rooms) (map room_of rooms) → FillsNext f room_of waiting rest one rooms now
fills_next {W} {X} f room_of waiting left rest one rooms now so_far taken all are =
    let took : map f left ≡ map f rest ++ f one ∷ [] = ap (map f) taken ∙ map-append f rest (one ∷ []) in
    let many : length (map f waiting) ≤ length (map room_of rooms) = omega (arith, all, length-map waiting f, length-map rooms room_of) in
    let are_rooms : AreRooms (length (map room_of rooms)) (map room_of rooms) = subst (λ (n : ℕ). AreRooms n (map room_of rooms)) (sym (length-map rooms room_of)) are in
    let at : length (map f rest) ≡ length rest = length-map rest f in
    let low = place_below (map f waiting) (map f left) (map f rest) (map room_of rooms) (map room_of now) (f one) so_far took many are_rooms in
    record {
      below = omega (arith, low, at, length-map now room_of);
      waits = λ x there.
          room_waits (map f waiting) (map f left) (map f rest) (map room_of rooms) (map room_of now) (f one) so_far took many are_rooms (room_of x)
          (ap (slice_get (map room_of now)) at ∙ at_map room_of now (length rest) x there);
      more = λ x puts.
          subst (Fills (map f waiting) (map f rest) (map room_of rooms))
          (ap (λ (n : ℕ). slice_set (map room_of now) n (room_of x)) at ∙ sym (map-set room_of now (length rest) x))
          (fills_more (map f waiting) (map f left) (map f rest) (map room_of rooms) (map room_of now) (f one) so_far took many are_rooms (room_of x) puts);
    }

-- once none is left, the jobs of each partition are those that waited there
pub all_filled : {X : Type 0} (f : X → List TxnValue) (g : X → ℕ) (waiting rest : List (List TxnValue)) (rooms : List Room) (xs : List X) → Fills waiting rest rooms (map (λ x. (f x, g x)) xs) → length rest ≡ 0 → BeginWithWaiting waiting (map f xs)
all_filled {X} f g waiting rest rooms xs fills none part first jobs there at small =
    let x = map_at f xs part jobs at in
    let is = fills.begun part first (f x.0, g x.0) (omega (arith, none)) there (at_map (λ (x : X). (f x, g x)) xs part x.0 x.1) small in
    subst (BeginsWith first) (sym is ∙ x.2) (begins_same first)

-- and more after them makes no difference
pub begins_still : (waiting old new : List (List TxnValue)) → BeginWithWaiting waiting old → OnlyGrow old new → BeginWithWaiting waiting new
begins_still waiting old new begins grows part first jobs there at small =
    let low = slice_get_within new part jobs at in
    let was : (list : List TxnValue) × (slice_get old part ≡ Some list) = stands_at old part (omega (arith, low, grows.count)) in
    begins_more first was.0 jobs (begins part first was.0 there was.1 small) (grows.each part was.0 jobs was.1 at)

pub rooms_more : (parts : ℕ) (rooms : List Room) (room : Room) → AreRooms parts rooms → room.0 ≡ [] → JOB_PLACES + MAX_WAITING ≤ room.1 → AreRooms (parts + 1) (rooms ++ room ∷ [])
rooms_more parts rooms room are none roomy = record {
  count = length-append rooms (room ∷ []) ∙ ap (λ (n : ℕ). n + 1) are.count;
  each = λ part other there.
      ⊎_elim
      (λ (before : part < length rooms).
      let old : (r : Room) × (slice_get rooms part ≡ Some r) = stands_at rooms part before in
      are.each part other (old.1 ∙ sym (slice_get-front rooms (room ∷ []) part old.0 old.1) ∙ there))
      (λ (past : length rooms ≤ part).
      let low = slice_get_within (rooms ++ room ∷ []) part other there in
      let last : length rooms ≡ part = omega (arith, low, past, length-append rooms (room ∷ [])) in
      let is : room ≡ other = same_Some room other (sym (slice_get-pushed rooms room) ∙ ap (slice_get (rooms ++ room ∷ [])) last ∙ there) in
      (ap (λ (r : Room). r.0) (sym is) ∙ none, subst (λ (r : Room). JOB_PLACES + MAX_WAITING ≤ r.1) is roomy))
      (cases_lt part (length rooms));
}
