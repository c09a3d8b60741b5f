-- A look and a won exchange keep the rule of the tree.
use Rattle.std.proofs.Common.{◌≡◌, ◌≢◌, ℕ, zero, suc, ◌+◌, ◌≤◌, ◌<◌, ◌^◌, Bool, true, false, true≢false, not, lt_of_not-le, List, length, set, get_or, refl, sym, ap, ◌∙◌, subst, ⊎_elim, arith}
use mathlib.Core.Option.{some}
use mathlib.Core.Logic.{dite}
use native.Mathlib.Decide.{ℕ_discrete, dec_le}
use lib.ListN.{get_elem?}
use Rattle.std.specs.List.{Contains}
use Rattle.std.proofs.lemmas.List.{get_or-set_same, get_or-set_other, length-set}
use Rattle.atomic_table.proofs.Lists.{at_set}
use Rattle.sq_moves.specs.declared.status.Status.{Status}
use Rattle.sq_moves.specs.declared.status.Status.TheVariants.{Free, Split, Claimed, Partial, Complete}
use Rattle.sq_moves.specs.Node.{parent}
use Rattle.sq_moves.specs.Status.{pull_of, is_past, before}
use Rattle.sq_shared.specs.declared.view.View.{View}
use Rattle.sq_shared.specs.View.{one_if, times_won, won, saw, HasSeen, HasNoLists, SameRole, alive, total}
use Rattle.sq_moves.specs.Tree.{status_at}
use Rattle.sq_shared.specs.Rule.{IsPast, IsTreeOf}
use Rattle.sq_shared.specs.Plays.{IsStatusOf, IsLater, KnowsSplit, MayBring}
use Rattle.sq_shared.proofs.Totals.{total_set, own_le_total}
use Rattle.sq_shared.proofs.Sights.{IsPast-refl, IsPast-split, IsPast-before, before-split, times_won-won, times_won-won_other, times_won-saw, SameRole-won, looked-won, HasSeen-saw}

-- the status at the written node, and at others
pub status_at-set : (statuses : List Status) (i n : ℕ) (st : Status) → n ≡ i + 1 → i < length statuses → status_at (set statuses i st) n ≡ st
status_at-set statuses i zero st e h = absurd (omega arith)
status_at-set statuses i (suc k) st e h = let same : k ≡ i = omega arith in subst (λ (j : ℕ). get_or (set statuses i st) j Free ≡ st) (sym same) (get_or-set_same statuses i st Free h)

pub status_at-set_other : (statuses : List Status) (i n m : ℕ) (st : Status) → n ≡ i + 1 → m ≢ n → status_at (set statuses i st) m ≡ status_at statuses m
status_at-set_other statuses i n zero st e ne = refl
status_at-set_other statuses i n (suc k) st e ne = get_or-set_other statuses i k st Free (λ same. ne (omega arith))

module _ (statuses : List Status) (views : List View) (tree : IsTreeOf statuses views) where
  -- a node is at or past all that a seat brought it to
  won_past : (seat : ℕ) (v : View) → get_elem? views seat ≡ some v → (n : ℕ) (st : Status) → 0 < times_won n st v → IsPast st (status_at statuses n)
  won_past seat v at n Free h = refl
  won_past seat v at n Split h = let some_won = own_le_total (times_won n Split) views seat v at in let all = tree.once n Split (λ e. cc) in grind arith
  won_past seat v at n (Claimed p) h = let some_won = own_le_total (times_won n (Claimed p)) views seat v at in let all = tree.once n (Claimed p) (λ e. cc) in grind arith
  won_past seat v at n (Partial p) h = let some_won = own_le_total (times_won n (Partial p)) views seat v at in let all = tree.once n (Partial p) (λ e. cc) in grind arith
  won_past seat v at n (Complete p) h = let some_won = own_le_total (times_won n (Complete p)) views seat v at in let all = tree.once n (Complete p) (λ e. cc) in grind arith

  -- what a node has is later than all that a seat knows of it
  pub is_later : (seat : ℕ) (v : View) → get_elem? views seat ≡ some v → (n : ℕ) → IsLater v n (status_at statuses n)
  is_later seat v at n = (λ st seen. tree.looks seat v at n st seen, λ st some_won. won_past seat v at n st some_won)

  pub fits : (n : ℕ) → IsStatusOf n (status_at statuses n)
  fits n = (tree.shape.pulls n, λ e. dite (dec_le 32 n) (λ h. absurd (tree.shape.leaves n h e)) (λ h. lt_of_not-le h))

  -- a node that a seat knows to be split is split
  pub is_split : (seat : ℕ) (v : View) → get_elem? views seat ≡ some v → (n : ℕ) → KnowsSplit v n → status_at statuses n ≡ Split
  is_split seat v at n knows =
      ⊎_elim
      (λ (seen : HasSeen v n Split). IsPast-split (status_at statuses n) (tree.looks seat v at n Split seen))
      (λ (some_won : 0 < times_won n Split v). IsPast-split (status_at statuses n) (won_past seat v at n Split some_won))
      knows

-- the clause on the first seat, where one seat's view changes and not its role
seats_kept : (statuses : List Status) (views : List View) → IsTreeOf statuses views → (id : ℕ) (v w : View) → get_elem? views id ≡ some v → SameRole v w
    → (seat : ℕ) (u : View) → get_elem? (set views id w) seat ≡ some u → u.first ≡ true → (seat ≡ 0) × (total alive (set views id w) + u.taken ≡ u.given + 1)
seats_kept statuses views tree id v w at role seat u at' first =
    let same_alive : alive w ≡ alive v = ap (λ (b : Bool). one_if (not b)) role.spent in
    let changed = total_set alive views id v w at in
    let total_same : total alive (set views id w) ≡ total alive views = omega arith in
    ⊎_elim
    (λ (here : (seat ≡ id) × (w ≡ u)).
    let first_w : w.first ≡ true = ap (λ (x : View). x.first) here.1 ∙ first in
    let old = tree.seats id v at (sym role.first ∙ first_w) in
    let given : u.given ≡ v.given = ap (λ (x : View). x.given) (sym here.1) ∙ role.given in
    let taken : u.taken ≡ v.taken = ap (λ (x : View). x.taken) (sym here.1) ∙ role.taken in
    (here.0 ∙ old.0, omega (arith, old.1)))
    (λ (there : (seat ≢ id) × (get_elem? views seat ≡ some u)).
    let old = tree.seats seat u there.1 first in (old.0, omega (arith, old.1)))
    (at_set views id seat w u at')

-- no joined seat has lists, where the view that changes isn't a joined seat's
joined_kept : (statuses : List Status) (views : List View) → IsTreeOf statuses views → (id : ℕ) (v w : View) → v.spent ≡ false → SameRole v w
    → (seat : ℕ) (u : View) → get_elem? (set views id w) seat ≡ some u → u.spent ≡ true → HasNoLists u
joined_kept statuses views tree id v w live role seat u at' spent =
    ⊎_elim
    (λ (here : (seat ≡ id) × (w ≡ u)). absurd (true≢false (sym spent ∙ ap (λ (x : View). x.spent) (sym here.1) ∙ role.spent ∙ live)))
    (λ (there : (seat ≢ id) × (get_elem? views seat ≡ some u)). tree.joined seat u there.1 spent)
    (at_set views id seat w u at')

pub look_kept : (statuses : List Status) (views : List View) → IsTreeOf statuses views → (id : ℕ) (v : View) → get_elem? views id ≡ some v → v.spent ≡ false → (n : ℕ)
    → IsTreeOf statuses (set views id (saw v n (status_at statuses n)))
look_kept statuses views tree id v at live n =
    let found = status_at statuses n in
    let w = saw v n found in
    let role : SameRole v w = record { first = refl; spent = refl; given = refl; taken = refl } in
    record {
      shape = tree.shape;
      once = λ m st ne.
          let changed = total_set (times_won m st) views id v w at in
          let same = times_won-saw m n st found v in
          let old = tree.once m st ne in
          omega (arith, changed, same, old);
      looks = λ seat u at' m st seen.
          ⊎_elim
          (λ (here : (seat ≡ id) × (w ≡ u)).
          ⊎_elim
          (λ (new : (m ≡ n) × (st ≡ found)). subst (λ (x : ℕ × Status). IsPast x.1 (status_at statuses x.0)) (λ k. (sym new.0 k, sym new.1 k)) (IsPast-refl found))
          (λ (old : HasSeen v m st). tree.looks id v at m st old)
          (HasSeen-saw v n m found st (subst (λ (x : View). HasSeen x m st) (sym here.1) seen)))
          (λ (there : (seat ≢ id) × (get_elem? views seat ≡ some u)). tree.looks seat u there.1 m st seen)
          (at_set views id seat w u at');
      joined = joined_kept statuses views tree id v w live role;
      seats = seats_kept statuses views tree id v w at role;
    }

half_below : (n : ℕ) → 1 < n → parent n ≢ n
half_below n h e = omega arith

-- a step is from free, or not
from_free : (A : Type 0) (new : Status) → (before new ≡ Free → A) → (before new ≢ Free → A) → A
from_free A Free hit miss = hit refl
from_free A Split hit miss = hit refl
from_free A (Claimed p) hit miss = hit refl
from_free A (Partial p) hit miss = miss (λ e. cc)
from_free A (Complete p) hit miss = miss (λ e. cc)

-- a won exchange
module _ (statuses : List Status) (views : List View) (tree : IsTreeOf statuses views) (id : ℕ) (v : View) (at : get_elem? views id ≡ some v) (live : v.spent ≡ false)
    (i n : ℕ) (new : Status) (here_n : n ≡ i + 1) (within : i < 63) (may : MayBring v n new) (was : status_at statuses n ≡ before new) where
  after : List Status
  after = set statuses i new

  at_node : status_at after n ≡ new
  unfolding after
  at_node = status_at-set statuses i n new here_n (let count = tree.shape.count in omega arith)

  at_other : (m : ℕ) → m ≢ n → status_at after m ≡ status_at statuses m
  unfolding after
  at_other m ne = status_at-set_other statuses i n m new here_n ne

  -- what a node had is before what it has
  later : (m : ℕ) (st : Status) → IsPast st (status_at statuses m) → IsPast st (status_at after m)
  later m st past =
      dite (ℕ_discrete m n)
      (λ e. let old : IsPast st (before new) = subst (λ (x : Status). IsPast st x) (ap (status_at statuses) e ∙ was) past in
      subst (λ (x : Status). IsPast st x) (sym (ap (status_at after) e ∙ at_node)) (IsPast-before st new old))
      (λ ne. subst (λ (x : Status). IsPast st x) (sym (at_other m ne)) past)

  pulls_kept : (m : ℕ) → pull_of (status_at after m) < 2 ^ 32
  pulls_kept m =
      dite (ℕ_discrete m n)
      (λ e. subst (λ (x : Status). pull_of x < 2 ^ 32) (sym (ap (status_at after) e ∙ at_node)) may.fits.0)
      (λ ne. subst (λ (x : Status). pull_of x < 2 ^ 32) (sym (at_other m ne)) (tree.shape.pulls m))

  leaves_kept : (m : ℕ) → 32 ≤ m → status_at after m ≢ Split
  leaves_kept m leaf e =
      dite (ℕ_discrete m n)
      (λ same. let inner = may.fits.1 (sym at_node ∙ ap (status_at after) (sym same) ∙ e) in absurd (omega arith))
      (λ ne. tree.shape.leaves m leaf (sym (at_other m ne) ∙ e))

  -- the parent of the node is split, whichever step it is
  parent_split : 1 < n → status_at statuses (parent n) ≡ Split
  parent_split h =
      from_free (status_at statuses (parent n) ≡ Split) new
      (λ free. is_split statuses views tree id v at (parent n) (may.under free h))
      (λ taken. tree.shape.above n h (λ e. taken (sym was ∙ e)))

  above_kept : (m : ℕ) → 1 < m → status_at after m ≢ Free → status_at after (parent m) ≡ Split
  above_kept m h taken =
      dite (ℕ_discrete m n)
      (λ same. let h' : 1 < n = omega arith in ap (λ (k : ℕ). status_at after (parent k)) same ∙ at_other (parent n) (half_below n h') ∙ parent_split h')
      (λ ne.
      let up = tree.shape.above m h (λ e. taken (at_other m ne ∙ e)) in
      dite (ℕ_discrete (parent m) n)
      (λ same. absurd (before-split new (sym was ∙ ap (status_at statuses) (sym same) ∙ up)))
      (λ ne'. at_other (parent m) ne' ∙ up))

  once_here : (st : Status) → st ≢ Free → total (times_won n st) (set views id (won v n new)) ≡ one_if (is_past st (status_at after n))
  once_here st ne =
      let changed = total_set (times_won n st) views id v (won v n new) at in
      let step = times_won-won n st new v ne may.taken in
      let old = tree.once n st ne in
      let status : one_if (is_past st (status_at after n)) ≡ one_if (is_past st new) = ap (λ (x : Status). one_if (is_past st x)) at_node in
      let status_was : one_if (is_past st (status_at statuses n)) ≡ one_if (is_past st (before new)) = ap (λ (x : Status). one_if (is_past st x)) was in
      omega (arith, changed, step, old, status, status_was)

  once_kept : (m : ℕ) (st : Status) → st ≢ Free → total (times_won m st) (set views id (won v n new)) ≡ one_if (is_past st (status_at after m))
  once_kept m st ne =
      dite (ℕ_discrete m n)
      (λ same. subst (λ (k : ℕ). total (times_won k st) (set views id (won v n new)) ≡ one_if (is_past st (status_at after k))) (sym same) (once_here st ne))
      (λ other.
      let changed = total_set (times_won m st) views id v (won v n new) at in
      let same = times_won-won_other m n st new v other in
      let old = tree.once m st ne in
      let status : one_if (is_past st (status_at after m)) ≡ one_if (is_past st (status_at statuses m)) = ap (λ (x : Status). one_if (is_past st x)) (at_other m other) in
      omega (arith, changed, same, old, status))

  role : SameRole v (won v n new)
  role = SameRole-won v n new

  looks_kept : (seat : ℕ) (u : View) → get_elem? (set views id (won v n new)) seat ≡ some u → (m : ℕ) (st : Status) → HasSeen u m st → IsPast st (status_at after m)
  looks_kept seat u at' m st seen =
      ⊎_elim
      (λ (here : (seat ≡ id) × (won v n new ≡ u)).
      let old : HasSeen v m st = subst (λ (l : List (ℕ × Status)). Contains l (m, st)) (ap (λ (x : View). x.looked) (sym here.1) ∙ looked-won v n new) seen in
      later m st (tree.looks id v at m st old))
      (λ (there : (seat ≢ id) × (get_elem? views seat ≡ some u)). later m st (tree.looks seat u there.1 m st seen))
      (at_set views id seat (won v n new) u at')

  pub win_kept : IsTreeOf (set statuses i new) (set views id (won v n new))
  unfolding after
  win_kept = record {
    shape = record { count = length-set statuses i new ∙ tree.shape.count; pulls = pulls_kept; leaves = leaves_kept; above = above_kept };
    once = once_kept;
    looks = looks_kept;
    joined = joined_kept statuses views tree id v (won v n new) live role;
    seats = seats_kept statuses views tree id v (won v n new) at role;
  }
