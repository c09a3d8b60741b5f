-- Ends of links that are put at the places of their links, the last one first.
use Rattle.std.proofs.Common.{◌≡◌, ℕ, ◌+◌, ◌<◌, ◌≤◌, List, [], ◌∷◌, ◌++◌, length, map, Option, Some, None, refl, sym, ap, ◌∙◌, subst, ⊎_elim, inl, inr, length-append, arith}
use Rattle.std.specs.Prelude.{◌⊎◌, slice_get, slice_set, slice_index_or}
use Rattle.std.proofs.lemmas.Bool.{cases_eq, cases_lt}
use Rattle.std.proofs.lemmas.List.{length-set}
use Rattle.std.proofs.Math.ListN.{get_or-map}
use Rattle.std.proofs.lemmas.Option.{same_Some, slice_get_read, get_or_from_slice_get}
use Rattle.sq_node_model.proofs.Members.{set_kept, set_new, slice_get-front, slice_get-pushed}
use Rattle.sq_node.specs.Ends.{EndValue, end_at}
use Rattle.sq_gather.specs.LinkEnds.{LinkEndsValue}
use Rattle.sq_gather.specs.Ends.{PutBeside, WasPut, HavePut, AreApart, AreAmong}

none_or_some : {X : Type 0} (found : Option X) (x : X) → found ≡ None → found ≡ Some x → ⊥
none_or_some found x none some = cc

-- the elements that are left are the first of all
pub record AreFront {X : Type 0} (left all : List X) : Type 0 where
  pub each : (k : ℕ) (x : X) → slice_get left k ≡ Some x → slice_get all k ≡ Some x

front_fewer : {X : Type 0} (left rest all : List X) (x : X) → left ≡ rest ++ x ∷ [] → AreFront left all → AreFront rest all
front_fewer {X} left rest all x is front = record { each = λ k y there. front.each k y (ap (λ (list : List X). slice_get list k) is ∙ slice_get-front rest (x ∷ []) k y there) }

-- the last of them is among all where it was
front_last : {X : Type 0} (left rest all : List X) (x : X) → left ≡ rest ++ x ∷ [] → AreFront left all → slice_get all (length rest) ≡ Some x
front_last {X} left rest all x is front = front.each (length rest) x (ap (λ (list : List X). slice_get list (length rest)) is ∙ slice_get-pushed rest x)

module _ {Y : Type 0} (put : PutBeside Y) (ends : List (Option EndValue)) (beside : List Y) (none : Y) where
  -- nothing is put where the node has no end
  pub put_none : (old now : List LinkEndsValue) (at from : ℕ) → from ≡ at + 1 → end_at ends at ≡ None → HavePut put ends beside none from old now → HavePut put ends beside none at old now
  put_none old now at from next no_end so_far = record {
    count = so_far.count;
    all = λ other end was past there.
        ⊎_elim
        (λ (later : at < other). so_far.all other end was (omega (arith, next)) there)
        (λ (here : other ≤ at). absurd (none_or_some (end_at ends at) end no_end (ap (λ (k : ℕ). end_at ends k) (let same : at ≡ other = omega arith in same) ∙ there)))
        (cases_lt at other);
    each = λ i was there.
        let found = so_far.each i was there in (
          found.0,
          found.1,
          ⊎_elim (λ (p : WasPut put ends beside none from i was found.0). inl (record { other = p.other; past = let past = p.past in omega (arith, next); end = p.end; there = p.there; here = p.here; is = p.is })) (λ (same : found.0 ≡ was). inr same) found.2,
        );
  }

  module _ (apart : AreApart ends) (old now : List LinkEndsValue) (at from : ℕ) (next : from ≡ at + 1) (end : EndValue) (there : end_at ends at ≡ Some end) (so_far : HavePut put ends beside none from old now) (cur : LinkEndsValue)
      (stands : slice_get now end.link ≡ Some cur) where
    abbrev after : LinkEndsValue
    after = put cur end (slice_index_or beside at none)

    -- no end was put here before
    same_yet : (was : LinkEndsValue) → slice_get old end.link ≡ Some was → cur ≡ was
    same_yet was was_there =
        let found = so_far.each end.link was was_there in
        ⊎_elim
        (λ (p : WasPut put ends beside none from end.link was found.0). absurd (let same : p.other ≡ at = apart p.other at p.end end p.there there p.here in let past = p.past in omega (arith, next)))
        (λ (same : found.0 ≡ was). same_Some cur found.0 (sym stands ∙ found.1) ∙ same)
        found.2

    pub put_one : HavePut put ends beside none at old (slice_set now end.link after)
    put_one = record {
      count = length-set now end.link after ∙ so_far.count;
      all = λ other one was past one_there was_there.
          ⊎_elim
          (λ (later : at < other).
          set_kept now end.link one.link after (put was one (slice_index_or beside other none)) (so_far.all other one was (omega (arith, next)) one_there was_there)
          (λ same. absurd (let same_place : other ≡ at = apart other at one end one_there there same in omega arith)))
          (λ (here : other ≤ at).
          let same_place : at ≡ other = omega arith in
          let one_is : end ≡ one = same_Some end one (sym there ∙ ap (λ (k : ℕ). end_at ends k) same_place ∙ one_there) in
          let was_is : cur ≡ was = same_yet was (ap (λ (x : EndValue). slice_get old x.link) one_is ∙ was_there) in
          ap (λ (x : EndValue). slice_get (slice_set now end.link after) x.link) (sym one_is) ∙ set_new now end.link after cur stands
          ∙ (λ k. Some (put (was_is k) (one_is k) (slice_index_or beside (same_place k) none))))
          (cases_lt at other);
      each = λ i was was_there.
          let found = so_far.each i was was_there in
          ⊎_elim
          (λ (p : WasPut put ends beside none from i was found.0). (
            found.0,
            set_kept now end.link i after found.0 found.1 (λ same. absurd (let same_place : p.other ≡ at = apart p.other at p.end end p.there there (p.here ∙ same) in let past = p.past in omega (arith, next))),
            inl (record { other = p.other; past = let past = p.past in omega (arith, next); end = p.end; there = p.there; here = p.here; is = p.is }),
          ))
          (λ (same : found.0 ≡ was). here_or_there i was was_there found.0 found.1 same (cases_eq i end.link))
          found.2;
    }
      where
        here_or_there : (i : ℕ) (was : LinkEndsValue) → slice_get old i ≡ Some was → (kept : LinkEndsValue) → slice_get now i ≡ Some kept → kept ≡ was → (i ≡ end.link) ⊎ (i ≡ end.link → ⊥)
            → (is : LinkEndsValue) × (slice_get (slice_set now end.link after) i ≡ Some is) × (WasPut put ends beside none at i was is ⊎ (is ≡ was))
        here_or_there i was was_there kept kept_there same (inl here) = (
          after,
          ap (slice_get (slice_set now end.link after)) here ∙ set_new now end.link after cur stands,
          inl
              (record {
                other = at;
                past = omega arith;
                end = end;
                there = there;
                here = sym here;
                is = ap (λ (e : LinkEndsValue). put e end (slice_index_or beside at none)) (same_yet was (ap (slice_get old) (sym here) ∙ was_there));
              }),
        )
        here_or_there i was was_there kept kept_there same (inr other) = (kept, set_kept now end.link i after kept kept_there other, inr same)

-- the first ends are left, with what is beside them, and the others were put
pub record AreLeft {Y : Type 0} (put : PutBeside Y) (none : Y) (all : List (Option EndValue)) (beside : List Y) (old : List LinkEndsValue) (left : List (Option EndValue)) (left_beside : List Y)
    (now : List LinkEndsValue) : Type 0 where
  pub others : HavePut put all beside none (length left) old now
  pub pairs : length left_beside ≡ length left
  pub front : AreFront left all
  pub front_beside : AreFront left_beside beside

-- the last of those that are left is taken, with what is beside it
pub record IsTaken {Y : Type 0} (put : PutBeside Y) (none : Y) (all : List (Option EndValue)) (beside : List Y) (old : List LinkEndsValue) (rest : List (Option EndValue)) (rest_beside : List Y)
    (now : List LinkEndsValue) (one : Option EndValue) (its : Y) : Type 0 where
  pub left : List (Option EndValue)
  pub left_beside : List Y
  pub so_far : AreLeft put none all beside old left left_beside now
  pub is : left ≡ rest ++ one ∷ []
  pub its_is : left_beside ≡ rest_beside ++ its ∷ []

pub took : {Y : Type 0} {put : PutBeside Y} {none : Y} {all : List (Option EndValue)} {beside : List Y} {old : List LinkEndsValue} {left rest : List (Option EndValue)} {left_beside rest_beside : List Y} {now : List LinkEndsValue}
    {end one : Option EndValue} {its : Y}
    → AreLeft put none all beside old left left_beside now → left ≡ rest ++ end ∷ [] → one ≡ end → left_beside ≡ rest_beside ++ its ∷ [] → IsTaken put none all beside old rest rest_beside now one its
took {left = left} {rest = rest} {left_beside = left_beside} so_far is one_is its_is =
    record { left = left; left_beside = left_beside; so_far = so_far; is = is ∙ ap (λ (end : Option EndValue). rest ++ end ∷ []) (sym one_is); its_is = its_is }

module _ {Y : Type 0} {put : PutBeside Y} {none : Y} {all : List (Option EndValue)} {beside : List Y} {old : List LinkEndsValue} {rest : List (Option EndValue)} {rest_beside : List Y} {now : List LinkEndsValue}
    {one : Option EndValue} {its : Y} (taken : IsTaken put none all beside old rest rest_beside now one its) where
  next : length taken.left ≡ length rest + 1
  next = ap length taken.is ∙ length-append rest (one ∷ [])

  pairs : length rest_beside ≡ length rest
  pairs = omega (arith, next, taken.so_far.pairs, ap length taken.its_is, length-append rest_beside (its ∷ []))

  there : end_at all (length rest) ≡ one
  there = get_or_from_slice_get all (length rest) one None (front_last taken.left rest all one taken.is taken.so_far.front)

  -- what is beside it
  beside_it : slice_index_or beside (length rest) none ≡ its
  beside_it =
      get_or_from_slice_get beside (length rest) its none
      (ap (slice_get beside) (sym pairs) ∙ front_last taken.left_beside rest_beside beside its taken.its_is taken.so_far.front_beside)

  left_now : (new : List LinkEndsValue) → HavePut put all beside none (length rest) old new → AreLeft put none all beside old rest rest_beside new
  left_now new are =
      record { others = are; pairs = pairs; front = front_fewer taken.left rest all one taken.is taken.so_far.front; front_beside = front_fewer taken.left_beside rest_beside beside its taken.its_is taken.so_far.front_beside }

  -- nothing is put where the node has no end
  pub none_put : one ≡ None → AreLeft put none all beside old rest rest_beside now
  none_put no_end = left_now now (put_none put all beside none old now (length rest) (length taken.left) next (there ∙ no_end) taken.so_far.others)

  module _ (among : AreAmong (length old) all) (end : EndValue) (end_is : one ≡ Some end) where
    -- there is a link for the end
    pub link_below : end.link < length now
    link_below = subst (λ (n : ℕ). end.link < n) (sym taken.so_far.others.count) (among (length rest) end (there ∙ end_is))

    -- the end is put there with what is beside it
    pub end_put : AreApart all → (cur : LinkEndsValue) → cur ≡ slice_index_or now end.link cur → AreLeft put none all beside old rest rest_beside (slice_set now end.link (put cur end its))
    end_put apart cur read =
        subst (λ (y : Y). AreLeft put none all beside old rest rest_beside (slice_set now end.link (put cur end y))) beside_it
        (left_now _ (put_one put all beside none apart old now (length rest) (length taken.left) next end (there ∙ end_is) taken.so_far.others cur (slice_get_read now (length now) end.link cur refl link_below read)))

-- the ends were put with what is read of what is beside them
pub put_as : {W Y : Type 0} {put : PutBeside Y} (read : W → Y) {ends : List (Option EndValue)} {beside : List W} {none : W} {from : ℕ} {old new : List LinkEndsValue}
    → HavePut (λ was end w. put was end (read w)) ends beside none from old new → HavePut put ends (map read beside) (read none) from old new
put_as {put = put} read {ends = ends} {beside = beside} {none = none} {from = from} put_all =
    record {
      count = put_all.count;
      all = λ other end was past there stood. put_all.all other end was past there stood ∙ ap (λ y. Some (put was end y)) (sym (read_at other));
      each = λ i was stood. let found = put_all.each i was stood in (
        found.0,
        found.1,
        ⊎_elim
            (λ (p : WasPut (λ was end w. put was end (read w)) ends beside none from i was found.0).
            inl (record { other = p.other; past = p.past; end = p.end; there = p.there; here = p.here; is = p.is ∙ ap (put was p.end) (sym (read_at p.other)) }))
            (λ (same : found.0 ≡ was). inr same)
            found.2,
      );
    }
  where
    read_at : (other : ℕ) → slice_index_or (map read beside) other (read none) ≡ read (slice_index_or beside other none)
    read_at other = get_or-map read beside other none
