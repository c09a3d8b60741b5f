-- Sharing out a seat, and joining one, keep the rule of the tree.
use Rattle.std.proofs.Common.{◌≡◌, ◌≢◌, ℕ, ◌+◌, Bool, true, false, true≢false, not, List, [], ◌∷◌, ◌++◌, set, refl, sym, ap, ◌∙◌, subst, ⊎_elim, arith}
use mathlib.Core.Option.{some}
use lib.ListN.{get_elem?}
use Rattle.std.specs.List.{Contains}
use Rattle.std.proofs.lemmas.List.Elements.{Contains-append_cases}
use Rattle.atomic_table.specs.Table.{Splits, Joins}
use Rattle.atomic_table.proofs.Lists.{at_set, at_snoc}
use Rattle.sq_moves.specs.declared.status.Status.{Status}
use Rattle.sq_moves.specs.declared.status.Status.TheVariants.{Free, Split, Claimed, Partial, Complete}
use Rattle.sq_shared.specs.declared.view.View.{View}
use Rattle.sq_shared.specs.View.{one_if, fresh, times, times_with, times_won, gave, took, HasSeen, HasNoLists, alive}
use Rattle.sq_shared.specs.Rule.{IsTreeOf}
use Rattle.sq_shared.proofs.Totals.{total_set, total_snoc}
use Rattle.sq_shared.proofs.Exchanges.{Table}

pub times_won-fresh : (n : ℕ) (st : Status) (first spent : Bool) → times_won n st (fresh first spent) ≡ 0
times_won-fresh n Free first spent = refl
times_won-fresh n Split first spent = refl
times_won-fresh n (Claimed p) first spent = refl
times_won-fresh n (Partial p) first spent = refl
times_won-fresh n (Complete p) first spent = refl

times_won-gave : (n : ℕ) (st : Status) (v : View) → times_won n st (gave v) ≡ times_won n st v
times_won-gave n Free v = refl
times_won-gave n Split v = refl
times_won-gave n (Claimed p) v = refl
times_won-gave n (Partial p) v = refl
times_won-gave n (Complete p) v = refl

pub times-append : (n : ℕ) (ms ns : List ℕ) → times n (ms ++ ns) ≡ times n ms + times n ns
times-append n [] ns = omega arith
times-append n (m ∷ ms) ns = omega (arith, times-append n ms ns)

times_with-append : (n pull : ℕ) (ms ns : List (ℕ × ℕ)) → times_with n pull (ms ++ ns) ≡ times_with n pull ms + times_with n pull ns
times_with-append n pull [] ns = omega arith
times_with-append n pull (e ∷ es) ns = omega (arith, times_with-append n pull es ns)

times_won-took : (n : ℕ) (st : Status) (v w : View) → times_won n st (took v w) ≡ times_won n st v + times_won n st w
times_won-took n Free v w = refl
times_won-took n Split v w = times-append n v.split w.split
times_won-took n (Claimed p) v w = times_with-append n p v.claimed w.claimed
times_won-took n (Partial p) v w = times_with-append n p v.begun w.begun
times_won-took n (Complete p) v w = times_with-append n p v.completed w.completed

in_none : (x : ℕ × Status) (looks : List (ℕ × Status)) → looks ≡ [] → Contains looks x → ⊥
in_none x [] none h = omega (arith, h.1)
in_none x (y ∷ ys) none h = cc

pub none_seen : (u : View) (n : ℕ) (st : Status) → u.looked ≡ [] → HasSeen u n st → ⊥
none_seen u n st none h = in_none (n, st) u.looked none h

module _ (statuses : List Status) (views : List View) (tree : IsTreeOf statuses views) (id : ℕ) (v : View) (at : get_elem? views id ≡ some v) (first : v.first ≡ true) (live : v.spent ≡ false) where
  -- no other seat is the first
  only_first : (A : Type 0) (seat : ℕ) (u : View) → seat ≢ id → get_elem? views seat ≡ some u → u.first ≡ true → A
  only_first A seat u apart at' first' = absurd (apart ((tree.seats seat u at' first').0 ∙ sym (tree.seats id v at first).0))

  alive_gave : alive (gave v) ≡ alive v
  alive_gave = refl

  share_kept : IsTreeOf statuses (set views id (gave v) ++ fresh false false ∷ [])
  share_kept =
      let views' = set views id (gave v) in
      let new = fresh false false in
      record {
        shape = tree.shape;
        once = λ n st ne.
            let changed = total_set (times_won n st) views id v (gave v) at in
            let longer = total_snoc (times_won n st) views' new in
            let old = tree.once n st ne in
            let same = times_won-gave n st v in
            let none = times_won-fresh n st false false in
            omega (arith, changed, longer, old, same, none);
        looks = λ seat u at' n st seen.
            ⊎_elim
            (λ (old : get_elem? views' seat ≡ some u).
            ⊎_elim
            (λ (here : (seat ≡ id) × (gave v ≡ u)). tree.looks id v at n st (subst (λ (x : View). HasSeen x n st) (sym here.1) seen))
            (λ (there : (seat ≢ id) × (get_elem? views seat ≡ some u)). tree.looks seat u there.1 n st seen)
            (at_set views id seat (gave v) u old))
            (λ (is : new ≡ u). absurd (none_seen u n st (ap (λ (x : View). x.looked) (sym is)) seen))
            (at_snoc views' new u seat at');
        joined = λ seat u at' spent.
            ⊎_elim
            (λ (old : get_elem? views' seat ≡ some u).
            ⊎_elim
            (λ (here : (seat ≡ id) × (gave v ≡ u)). absurd (true≢false (sym spent ∙ ap (λ (x : View). x.spent) (sym here.1) ∙ live)))
            (λ (there : (seat ≢ id) × (get_elem? views seat ≡ some u)). tree.joined seat u there.1 spent)
            (at_set views id seat (gave v) u old))
            (λ (is : new ≡ u). absurd (true≢false (sym spent ∙ ap (λ (x : View). x.spent) (sym is))))
            (at_snoc views' new u seat at');
        seats = λ seat u at' first'.
            ⊎_elim
            (λ (old : get_elem? views' seat ≡ some u).
            ⊎_elim
            (λ (here : (seat ≡ id) × (gave v ≡ u)).
            let was = tree.seats id v at first in
            let changed = total_set alive views id v (gave v) at in
            let same = alive_gave in
            let longer = total_snoc alive views' new in
            let given : u.given ≡ v.given + 1 = ap (λ (x : View). x.given) (sym here.1) in
            let taken : u.taken ≡ v.taken = ap (λ (x : View). x.taken) (sym here.1) in
            (here.0 ∙ was.0, omega (arith, was.1, changed, same, longer)))
            (λ (there : (seat ≢ id) × (get_elem? views seat ≡ some u)). only_first _ seat u there.0 there.1 first')
            (at_set views id seat (gave v) u old))
            (λ (is : new ≡ u). absurd (true≢false (sym first' ∙ ap (λ (x : View). x.first) (sym is))))
            (at_snoc views' new u seat at');
      }

  module _ (other : ℕ) (w : View) (apart : other ≢ id) (at_other : get_elem? (set views id (took v w)) other ≡ some w) (live_other : w.spent ≡ false) where
    at_other_old : get_elem? views other ≡ some w
    at_other_old =
        ⊎_elim
        (λ (here : (other ≡ id) × (took v w ≡ w)). absurd (apart here.0))
        (λ (there : (other ≢ id) × (get_elem? views other ≡ some w)). there.1)
        (at_set views id other (took v w) w at_other)

    join_kept : IsTreeOf statuses (set (set views id (took v w)) other (fresh false true))
    join_kept =
        let views' = set views id (took v w) in
        let gone = fresh false true in
        record {
          shape = tree.shape;
          once = λ n st ne.
              let changed = total_set (times_won n st) views id v (took v w) at in
              let then = total_set (times_won n st) views' other w gone at_other in
              let old = tree.once n st ne in
              let both = times_won-took n st v w in
              let none = times_won-fresh n st false true in
              omega (arith, changed, then, old, both, none);
          looks = λ seat u at' n st seen.
              ⊎_elim
              (λ (is : (seat ≡ other) × (gone ≡ u)). absurd (none_seen u n st (ap (λ (x : View). x.looked) (sym is.1)) seen))
              (λ (old : (seat ≢ other) × (get_elem? views' seat ≡ some u)).
              ⊎_elim
              (λ (here : (seat ≡ id) × (took v w ≡ u)).
              ⊎_elim (λ (mine : HasSeen v n st). tree.looks id v at n st mine) (λ (its : HasSeen w n st). tree.looks other w at_other_old n st its)
              (Contains-append_cases v.looked w.looked (n, st) (subst (λ (x : View). HasSeen x n st) (sym here.1) seen)))
              (λ (there : (seat ≢ id) × (get_elem? views seat ≡ some u)). tree.looks seat u there.1 n st seen)
              (at_set views id seat (took v w) u old.1))
              (at_set views' other seat gone u at');
          joined = λ seat u at' spent.
              ⊎_elim
              (λ (is : (seat ≡ other) × (gone ≡ u)). subst (λ (x : View). HasNoLists x) is.1 (refl, refl, refl, refl, refl))
              (λ (old : (seat ≢ other) × (get_elem? views' seat ≡ some u)).
              ⊎_elim
              (λ (here : (seat ≡ id) × (took v w ≡ u)). absurd (true≢false (sym spent ∙ ap (λ (x : View). x.spent) (sym here.1) ∙ live)))
              (λ (there : (seat ≢ id) × (get_elem? views seat ≡ some u)). tree.joined seat u there.1 spent)
              (at_set views id seat (took v w) u old.1))
              (at_set views' other seat gone u at');
          seats = λ seat u at' first'.
              ⊎_elim
              (λ (is : (seat ≡ other) × (gone ≡ u)). absurd (true≢false (sym first' ∙ ap (λ (x : View). x.first) (sym is.1))))
              (λ (old : (seat ≢ other) × (get_elem? views' seat ≡ some u)).
              ⊎_elim
              (λ (here : (seat ≡ id) × (took v w ≡ u)).
              let was = tree.seats id v at first in
              let changed = total_set alive views id v (took v w) at in
              let then = total_set alive views' other w gone at_other in
              let same : alive (took v w) ≡ alive v = refl in
              let one : alive w ≡ 1 = ap (λ (b : Bool). one_if (not b)) live_other in
              let given : u.given ≡ v.given = ap (λ (x : View). x.given) (sym here.1) in
              let taken : u.taken ≡ v.taken + 1 = ap (λ (x : View). x.taken) (sym here.1) in
              (here.0 ∙ was.0, omega (arith, was.1, changed, then, same, one)))
              (λ (there : (seat ≢ id) × (get_elem? views seat ≡ some u)). only_first _ seat u there.0 there.1 first')
              (at_set views id seat (took v w) u old.1))
              (at_set views' other seat gone u at');
        }

pub shares : (id : ℕ) (v : View) → v.first ≡ true → v.spent ≡ false → Splits Table id v (gave v) (fresh false false)
shares id v first live s kept at = (kept.0, kept.1, share_kept kept.0 s.views kept.2 id v at first live)

pub joins : (id : ℕ) (v : View) (other : ℕ) (w : View) → v.first ≡ true → v.spent ≡ false → w.spent ≡ false → Joins Table id v other w (took v w) (fresh false true)
joins id v other w first live live_other s kept at apart at_other = (kept.0, kept.1, join_kept kept.0 s.views kept.2 id v at first live other w apart at_other live_other)
