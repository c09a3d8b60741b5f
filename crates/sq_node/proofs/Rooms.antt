-- Room for the jobs that an earlier stage left.
use Rattle.std.proofs.Common.{◌≡◌, ℕ, zero, suc, ◌+◌, ◌<◌, ◌≤◌, List, [], ◌∷◌, ◌++◌, length, get_or, map, take, refl, sym, ap, ◌∙◌, subst₂}
use Rattle.std.specs.Prelude.{slice_set}
use Rattle.std.proofs.lemmas.List.{map-append, take_more}
use Rattle.sq_node.specs.Left.{HaveRoom}

pub more_room : (counts rooms : List ℕ) (count room : ℕ) → HaveRoom counts rooms → count ≤ room → HaveRoom (counts ++ count ∷ []) (rooms ++ room ∷ [])
more_room [] [] count room have fits = (fits, tt)
more_room [] (r ∷ rooms) count room have fits = absurd have
more_room (n ∷ counts) [] count room have fits = absurd have
more_room (n ∷ counts) (r ∷ rooms) count room have fits = (have.0, more_room counts rooms count room have.1 fits)

some_counts : (counts : List ℕ) (count : ℕ) → HaveRoom (counts ++ count ∷ []) [] → ⊥
some_counts [] count have = have
some_counts (n ∷ counts) count have = have

some_rooms : (rooms : List ℕ) (room : ℕ) → HaveRoom [] (rooms ++ room ∷ []) → ⊥
some_rooms [] room have = have
some_rooms (r ∷ rooms) room have = have

-- without the last room
pub less_room : (counts rooms : List ℕ) (count room : ℕ) → HaveRoom (counts ++ count ∷ []) (rooms ++ room ∷ []) → HaveRoom counts rooms × (count ≤ room)
less_room [] [] count room have = (tt, have.0)
less_room [] (r ∷ rooms) count room have = absurd (some_rooms rooms room have.1)
less_room (n ∷ counts) [] count room have = absurd (some_counts counts count have.1)
less_room (n ∷ counts) (r ∷ rooms) count room have = let rest = less_room counts rooms count room have.1 in ((have.0, rest.0), rest.1)

-- a list in which an element is put at its own place is the list
pub set_same : {X : Type 0} (xs : List X) (i : ℕ) (x : X) → x ≡ get_or xs i x → slice_set xs i x ≡ xs
set_same [] i x is = refl
set_same (y ∷ xs) zero x is = ap (λ z. z ∷ xs) is
set_same (y ∷ xs) (suc i) x is = ap (λ rest. y ∷ rest) (set_same xs i x is)

-- as many counts as rooms
pub same_count : (counts rooms : List ℕ) → HaveRoom counts rooms → length counts ≡ length rooms
same_count [] [] have = refl
same_count [] (r ∷ rooms) have = absurd have
same_count (n ∷ counts) [] have = absurd have
same_count (n ∷ counts) (r ∷ rooms) have = ap suc (same_count counts rooms have.1)

module _ {J R : Type 0} (size : J → ℕ) (room : R → ℕ) where
  -- a room for one more of these lists of jobs
  pub more_rooms : (left : List J) (rooms : List R) (i : ℕ) (jobs : J) (new : R) → i < length left → jobs ≡ get_or left i jobs → HaveRoom (map size (take i left)) (map room rooms) → size jobs ≤ room new
      → HaveRoom (map size (take (i + 1) left)) (map room (rooms ++ new ∷ []))
  more_rooms left rooms i jobs new lt is have fits =
      let counts : map size (take (i + 1) left) ≡ map size (take i left) ++ size jobs ∷ [] =
      ap (map size) (take_more left i jobs lt) ∙ map-append size (take i left) (get_or left i jobs ∷ []) ∙ ap (λ (j : J). map size (take i left) ++ size j ∷ []) (sym is) in
      subst₂ HaveRoom (sym counts) (sym (map-append room rooms (new ∷ []))) (more_room (map size (take i left)) (map room rooms) (size jobs) (room new) have fits)

  -- without the last list and its room
  pub fewer_rooms : (left less : List J) (rooms fewer : List R) (jobs : J) (one : R) → left ≡ less ++ jobs ∷ [] → rooms ≡ fewer ++ one ∷ [] → HaveRoom (map size left) (map room rooms)
      → HaveRoom (map size less) (map room fewer) × (size jobs ≤ room one)
  fewer_rooms left less rooms fewer jobs one left_is rooms_is have =
      less_room (map size less) (map room fewer) (size jobs) (room one)
      (subst₂ HaveRoom (ap (map size) left_is ∙ map-append size less (jobs ∷ [])) (ap (map room) rooms_is ∙ map-append room fewer (one ∷ [])) have)
