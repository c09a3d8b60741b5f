-- How walks and searches are put together from steps.
use Rattle.std.proofs.Common.{◌≡◌, ◌≢◌, ℕ, zero, suc, ◌+◌, ◌^◌, ◌<◌, ◌≤◌, ◌⊎◌, List, [], ◌∷◌, ◌++◌, length, slice_index_or, refl, sym, ap, ◌∙◌, subst, inl, inr, ⊎_elim, append_assoc, arith}
use mathlib.Core.Logic.{dite}
use native.Mathlib.Decide.{ℕ_discrete}
use Rattle.std.specs.Prelude.{IsTrue}
use Rattle.std.specs.List.{Contains}
use Rattle.std.proofs.lemmas.List.Elements.{Contains-append_left, Contains-append_right, Contains-append_cases}
use Rattle.std.proofs.lemmas.Bool.Decides.{nat_tests}
use Rattle.sq_moves.specs.declared.status.Status.{Status}
use Rattle.sq_moves.specs.declared.status.Status.TheVariants.{Free, Split, Claimed, Partial, Complete}
use Rattle.sq_moves.specs.Node.{parent, node_above}
use Rattle.sq_moves.proofs.Nested.{node_above_covers}
use Rattle.sq_shared.specs.declared.view.View.{View}
use Rattle.sq_shared.specs.View.{times, times_won, HasSeen}
use Rattle.sq_shared.specs.Plays.{IsLater, KnowsSplit, MayBring, Found, Won}
use Rattle.sq_shared.specs.declared.tree.walks.LeafClaim.TheVariants.{Held}
use Rattle.sq_shared.specs.Walks.{is_taken, Added, IsPassedAt, Passed, WalkedTo, WalkedLeaf}
use Rattle.sq_shared.proofs.Hands.{times-append}
use Rattle.sq_shared.proofs.Sights.{only}

pub in_none : {A : Type 0} (x : A) → Contains [] x → ⊥
in_none x h = omega (arith, h.1)

pub itself : {A : Type 0} (a : A) (l : List A) → Contains (a ∷ l) a
itself a l = (0, omega arith, refl)

-- with more splits and looks a seat knows no less
seen_added : (v w : View) (splits : List ℕ) (looks : List (ℕ × Status)) → Added v splits looks w → (n : ℕ) (st : Status) → HasSeen v n st → HasSeen w n st
seen_added v w splits looks added n st h =
    subst (λ (u : View). HasSeen u n st) (sym added.after) (Contains-append_right looks v.looked (n, st) h)

more_won : (v : View) (splits : List ℕ) (looks : List (ℕ × Status)) (n : ℕ) (st : Status) → times_won n st v ≤ times_won n st record v { split = splits ++ v.split; looked = looks ++ v.looked }
more_won v splits looks n Free = omega arith
more_won v splits looks n Split = omega (arith, times-append n splits v.split)
more_won v splits looks n (Claimed p) = omega arith
more_won v splits looks n (Partial p) = omega arith
more_won v splits looks n (Complete p) = omega arith

won_added : (v w : View) (splits : List ℕ) (looks : List (ℕ × Status)) → Added v splits looks w → (n : ℕ) (st : Status) → times_won n st v ≤ times_won n st w
won_added v w splits looks added n st = subst (λ (u : View). times_won n st v ≤ times_won n st u) (sym added.after) (more_won v splits looks n st)

later_added : (v w : View) (splits : List ℕ) (looks : List (ℕ × Status)) → Added v splits looks w → (n : ℕ) (st : Status) → IsLater w n st → IsLater v n st
later_added v w splits looks added n st later =
    (λ old seen. later.0 old (seen_added v w splits looks added n old seen), λ old some_won. let more = won_added v w splits looks added n old in later.1 old (omega arith))

pub knows_added : (v w : View) (splits : List ℕ) (looks : List (ℕ × Status)) → Added v splits looks w → (n : ℕ) → KnowsSplit v n → KnowsSplit w n
knows_added v w splits looks added n knows =
    ⊎_elim (λ (seen : HasSeen v n Split). inl (seen_added v w splits looks added n Split seen)) (λ (some_won : 0 < times_won n Split v). let more = won_added v w splits looks added n Split in inr (omega arith)) knows

pub Added-none : (v : View) → Added v [] [] v
Added-none v = record { after = refl; splits_later = λ n h. absurd (in_none n h); looks_later = λ n st h. absurd (in_none (n, st) h) }

pub Added-won : (v : View) (n : ℕ) (w : View) → Won v n Split w → Added v (n ∷ []) [] w
Added-won v n w step =
    record { after = step.after; splits_later = λ m h. subst (λ (k : ℕ). IsLater v k Free) (sym (only n m h)) step.later; looks_later = λ m st h. absurd (in_none (m, st) h) }

pub Added-found : (v : View) (n : ℕ) (st : Status) (w : View) → Found v n st w → Added v [] ((n, st) ∷ []) w
Added-found v n st w found =
    record {
      after = found.after;
      splits_later = λ m h. absurd (in_none m h);
      looks_later = λ m old h. subst (λ (x : ℕ × Status). IsLater v x.0 x.1) (sym (only (n, st) (m, old) h)) found.later;
    }

pub Added-then : (v u w : View) (s t : List ℕ) (l m : List (ℕ × Status)) → Added v s l u → Added u t m w → Added v (t ++ s) (m ++ l) w
Added-then v u w s t l m first then =
    record {
      after =
          then.after ∙ ap (λ (x : View). record x { split = t ++ x.split; looked = m ++ x.looked }) first.after
          ∙ (λ i. record v { split = sym (append_assoc t s v.split) i; looked = sym (append_assoc m l v.looked) i });
      splits_later = λ n h. ⊎_elim (λ (new : Contains t n). later_added v u s l first n Free (then.splits_later n new)) (λ (old : Contains s n). first.splits_later n old) (Contains-append_cases t s n h);
      looks_later = λ n st h. ⊎_elim (λ (new : Contains m (n, st)). later_added v u s l first n st (then.looks_later n st new)) (λ (old : Contains l (n, st)). first.looks_later n st old) (Contains-append_cases m l (n, st) h);
    }

-- ---- the walk to a leaf

pub walk_start : (leaf : ℕ) (v : View) → WalkedTo leaf 5 v v
walk_start leaf v = (
  [],
  [],
  record {
    each = λ k high low. absurd (omega arith);
    splits_only = λ n h. absurd (in_none n h);
    looks_only = λ n st h. absurd (in_none (n, st) h);
    count = refl;
  },
  Added-none v,
)

-- one level further down
module _ (leaf levels : ℕ) (splits : List ℕ) (looks : List (ℕ × Status)) (passed : Passed leaf (levels + 1) splits looks) where
  within : levels < 5
  within = let all = passed.count in omega arith

  higher : (n : ℕ) → IsPassedAt leaf (levels + 1) n → IsPassedAt leaf levels n
  higher n at = (at.0, omega (arith, at.1), at.2, at.3)

  split_passed : Passed leaf levels (node_above leaf (levels + 1) ∷ splits) looks
  split_passed =
      let n = node_above leaf (levels + 1) in
      record {
        each = λ k high low.
            dite (ℕ_discrete k (levels + 1))
            (λ same. inl (subst (λ (j : ℕ). Contains (n ∷ splits) (node_above leaf j)) (sym same) (itself n splits)))
            (λ other. ⊎_elim (λ (split : Contains splits (node_above leaf k)). inl (Contains-append_right (n ∷ []) splits (node_above leaf k) split)) (λ (look : Contains looks (node_above leaf k, Split)). inr look)
            (passed.each k (omega arith) low));
        splits_only = λ m h.
            ⊎_elim (λ (new : Contains (n ∷ []) m). (levels + 1, omega arith, omega (arith, within), only n m new)) (λ (old : Contains splits m). higher m (passed.splits_only m old))
            (Contains-append_cases (n ∷ []) splits m h);
        looks_only = λ m st h. let o = passed.looks_only m st h in (higher m o.0, o.1);
        count = let all = passed.count in omega arith;
      }

  look_passed : Passed leaf levels splits ((node_above leaf (levels + 1), Split) ∷ looks)
  look_passed =
      let n = node_above leaf (levels + 1) in
      record {
        each = λ k high low.
            dite (ℕ_discrete k (levels + 1))
            (λ same. inr (subst (λ (j : ℕ). Contains ((n, Split) ∷ looks) (node_above leaf j, Split)) (sym same) (itself (n, Split) looks)))
            (λ other. ⊎_elim (λ (split : Contains splits (node_above leaf k)). inl split) (λ (look : Contains looks (node_above leaf k, Split)). inr (Contains-append_right ((n, Split) ∷ []) looks (node_above leaf k, Split) look))
            (passed.each k (omega arith) low));
        splits_only = λ m h. higher m (passed.splits_only m h);
        looks_only = λ m st h.
            ⊎_elim
            (λ (new : Contains ((n, Split) ∷ []) (m, st)).
            let same = only (n, Split) (m, st) new in ((levels + 1, omega arith, omega (arith, within), ap (λ (x : ℕ × Status). x.0) same), ap (λ (x : ℕ × Status). x.1) same))
            (λ (old : Contains looks (m, st)). let o = passed.looks_only m st old in (higher m o.0, o.1))
            (Contains-append_cases ((n, Split) ∷ []) looks (m, st) h);
        count = let all = passed.count in omega arith;
      }

walk_one : (leaf levels : ℕ) (v u w : View) → WalkedTo leaf (levels + 1) v u → Won u (node_above leaf (levels + 1)) Split w ⊎ Found u (node_above leaf (levels + 1)) Split w → WalkedTo leaf levels v w
walk_one leaf levels v u w walked step =
    let splits = walked.0 in
    let looks = walked.1 in
    let n = node_above leaf (levels + 1) in
    ⊎_elim (λ (win : Won u n Split w). (n ∷ splits, looks, split_passed leaf levels splits looks walked.2, Added-then v u w splits (n ∷ []) looks [] walked.3 (Added-won u n w win)))
    (λ (found : Found u n Split w). (splits, (n, Split) ∷ looks, look_passed leaf levels splits looks walked.2, Added-then v u w splits [] looks ((n, Split) ∷ []) walked.3 (Added-found u n Split w found)))
    step

pub walk_next : (leaf levels next : ℕ) (v u w : View) → levels ≡ next + 1 → WalkedTo leaf levels v u → Won u (node_above leaf levels) Split w ⊎ Found u (node_above leaf levels) Split w → WalkedTo leaf next v w
walk_next leaf levels next v u w e walked step =
    walk_one leaf next v u w (subst (λ (k : ℕ). WalkedTo leaf k v u) e walked) (subst (λ (k : ℕ). Won u (node_above leaf k) Split w ⊎ Found u (node_above leaf k) Split w) e step)

counted_at : (n : ℕ) (ns : List ℕ) (k : ℕ) → k < length ns → slice_index_or ns k n ≡ n → 0 < times n ns
counted_at n [] k h e = absurd (omega arith)
counted_at n (m ∷ ms) zero h e = grind (arith, nat_tests)
counted_at n (m ∷ ms) (suc k) h e = let rest = counted_at n ms k (omega arith) e in omega arith

counted : (n : ℕ) (ns : List ℕ) → Contains ns n → 0 < times n ns
counted n ns h = counted_at n ns h.0 h.1 h.2

-- the seat knows that the last node that it passed is split
pub walk_knows : (leaf levels : ℕ) (v w : View) → levels < 5 → WalkedTo leaf levels v w → KnowsSplit w (node_above leaf (levels + 1))
walk_knows leaf levels v w h walked =
    let n = node_above leaf (levels + 1) in
    ⊎_elim
    (λ (split : Contains walked.0 n).
    let some_won : 0 < times n (walked.0 ++ v.split) = omega (arith, times-append n walked.0 v.split, counted n walked.0 split) in
    inr (subst (λ (u : View). 0 < times_won n Split u) (sym walked.3.after) some_won))
    (λ (look : Contains walked.1 (n, Split)). inl (subst (λ (u : View). HasSeen u n Split) (sym walked.3.after) (Contains-append_left walked.1 v.looked (n, Split) look)))
    (walked.2.each (levels + 1) (omega arith) (omega arith))

-- ---- the nodes above a leaf

pub parent_above : (leaf k : ℕ) → k < 5 → parent (node_above leaf k) ≡ node_above leaf (k + 1)
parent_above leaf zero h = omega arith
parent_above leaf (suc zero) h = omega arith
parent_above leaf (suc (suc zero)) h = omega arith
parent_above leaf (suc (suc (suc zero))) h = omega arith
parent_above leaf (suc (suc (suc (suc zero)))) h = omega arith
parent_above leaf (suc (suc (suc (suc (suc k))))) h = absurd (omega arith)

top : (leaf levels : ℕ) → leaf < 32 → levels ≤ 5 → 1 < node_above leaf levels → levels < 5
top leaf levels l h inner = dite (ℕ_discrete levels 5) (λ same. let one : node_above leaf 5 < 2 = omega arith in let e = ap (node_above leaf) same in absurd (omega arith)) (λ other. omega arith)

pub next_live : (leaf levels : ℕ) (v w : View) → leaf < 32 → levels ≤ 5 → WalkedTo leaf levels v w → 1 < node_above leaf levels → KnowsSplit w (parent (node_above leaf levels))
next_live leaf levels v w l h walked inner =
    let below = top leaf levels l h inner in
    subst (λ (n : ℕ). KnowsSplit w n) (sym (parent_above leaf levels below)) (walk_knows leaf levels v w below walked)

-- after the whole walk the leaf's parent is split
pub leaf_live : (leaf levels : ℕ) (v w : View) → leaf < 32 → levels < 1 → WalkedTo leaf levels v w → KnowsSplit w (parent (32 + leaf))
leaf_live leaf levels v w l last walked =
    let none : levels ≡ 0 = omega arith in
    let own : node_above leaf 0 ≡ 32 + leaf = omega arith in
    subst (λ (n : ℕ). KnowsSplit w (parent n)) own (next_live leaf 0 v w l (omega arith) (subst (λ (k : ℕ). WalkedTo leaf k v w) none walked) (omega arith))

pub may_claim : (v : View) (n pull : ℕ) → pull < 2 ^ 32 → (1 < n → KnowsSplit v (parent n)) → MayBring v n (Claimed pull)
may_claim v n pull small live = record { taken = λ e. cc; fits = (small, λ e. cc); under = λ _ inner. live inner }

-- the walk ends at a node that is taken
pub walk_held : (leaf levels pull : ℕ) (v u w : View) (st : Status) → leaf < 32 → levels ≤ 5 → WalkedTo leaf levels v u → IsTrue (is_taken st) → Found u (node_above leaf levels) st w
    → WalkedLeaf leaf pull v w (Held (node_above leaf levels) st)
walk_held leaf levels pull v u w st l h walked taken found = ((node_above_covers leaf levels l h).above, taken, (levels, u, refl, walked, found))

-- what is neither free nor split is taken
pub taken_by : (st : Status) → st ≢ Free → st ≢ Split → IsTrue (is_taken st)
taken_by Free a b = absurd (a refl)
taken_by Split a b = absurd (b refl)
taken_by (Claimed p) a b = refl
taken_by (Partial p) a b = refl
taken_by (Complete p) a b = refl
