-- The opened tree and the closed one.
use Rattle.std.proofs.Common.{◌≡◌, ◌≢◌, ℕ, zero, suc, ◌+◌, ◌<◌, ◌^◌, Bool, true, false, true≢false, not, List, [], ◌∷◌, length, map, get_or, replicate, refl, sym, ap, ◌∙◌, subst, arith, lit<}
use mathlib.Core.Option.{some, some-injective, some-ne-none}
use lib.ListN.{get_elem?}
use Rattle.std.proofs.lemmas.List.{length-replicate, length-map}
use Rattle.std.proofs.lemmas.List.FromFn.{fill_by_all}
use Rattle.std.proofs.Math.ListN.{get_or-map}
use Rattle.atomic_table.specs.Table.{Final, Seen}
use Rattle.sq_moves.specs.declared.status.Status.{Status}
use Rattle.sq_moves.specs.declared.status.Status.TheVariants.{Free, Split, Claimed, Partial, Complete}
use Rattle.sq_moves.specs.Status.{word_of, pull_of, is_past}
use Rattle.sq_moves.proofs.Placed.{status_at-free}
use Rattle.sq_moves.proofs.Words.{same_status}
use Rattle.sq_shared.specs.declared.view.View.{View}
use Rattle.sq_shared.specs.View.{one_if, fresh, times, times_with, times_won, HasSeen, HasNoLists, alive}
use Rattle.sq_moves.specs.Tree.{status_at}
use Rattle.sq_shared.specs.Rule.{IsTreeOf, Kept}
use Rattle.sq_shared.proofs.Exchanges.{Table}
use Rattle.sq_shared.proofs.Totals.{only_total, two_le_total}
use Rattle.sq_shared.proofs.Hands.{times_won-fresh, none_seen}

all_free : (n : ℕ) → status_at (replicate 63 Free) n ≡ Free
all_free n = status_at-free (replicate 63 Free) n refl

free_past : (st : Status) → st ≢ Free → one_if (is_past st Free) ≡ 0
free_past Free ne = absurd (ne refl)
free_past Split ne = refl
free_past (Claimed p) ne = refl
free_past (Partial p) ne = refl
free_past (Complete p) ne = refl

only_seat : (v u : View) (seat : ℕ) → get_elem? (v ∷ []) seat ≡ some u → (seat ≡ 0) × (v ≡ u)
only_seat v u zero at = (refl, some-injective v u at)
only_seat v u (suc seat) at = absurd (some-ne-none u (sym at))

pub opens : IsTreeOf (replicate 63 Free) (fresh true false ∷ [])
opens =
    let first = fresh true false in
    record {
      shape = record {
        count = length-replicate 63 Free;
        pulls = λ n. subst (λ (st : Status). pull_of st < 2 ^ 32) (sym (all_free n)) (lit< tt);
        leaves = λ n leaf e. let none = all_free n in cc;
        above = λ n inner ne. absurd (ne (all_free n));
      };
      once = λ n st ne.
          let none = times_won-fresh n st true false in
          let status = ap (λ (x : Status). one_if (is_past st x)) (all_free n) ∙ free_past st ne in
          omega (arith, none, status);
      looks = λ seat u at n st seen. absurd (none_seen u n st (ap (λ (x : View). x.looked) (sym (only_seat first u seat at).1)) seen);
      joined = λ seat u at spent. absurd (true≢false (sym spent ∙ ap (λ (x : View). x.spent) (sym (only_seat first u seat at).1)));
      seats = λ seat u at is_first.
          let only = only_seat first u seat at in
          let given : u.given ≡ 0 = ap (λ (x : View). x.given) (sym only.1) in
          let taken : u.taken ≡ 0 = ap (λ (x : View). x.taken) (sym only.1) in
          (only.0, omega arith);
    }

no_counts : (n : ℕ) (st : Status) (u : View) → HasNoLists u → times_won n st u ≡ 0
no_counts n Free u none = refl
no_counts n Split u none = ap (times n) none.0
no_counts n (Claimed p) u none = ap (times_with n p) none.1
no_counts n (Partial p) u none = ap (times_with n p) none.2
no_counts n (Complete p) u none = ap (times_with n p) none.3

is_spent : (spent : Bool) → one_if (not spent) ≡ 0 → spent ≡ true
is_spent true e = refl
is_spent false e = absurd (omega arith)

-- where every given seat was taken, the first seat's lists are all that was won
pub alone : (statuses : List Status) (views : List View) → IsTreeOf statuses views → (id : ℕ) (v : View) → get_elem? views id ≡ some v → v.first ≡ true → v.spent ≡ false → v.given ≡ v.taken
    → IsTreeOf statuses (v ∷ [])
alone statuses views tree id v at first live all =
    let count = tree.seats id v at first in
    let mine : alive v ≡ 1 = ap (λ (b : Bool). one_if (not b)) live in
    let others : (seat : ℕ) (u : View) → seat ≢ id → get_elem? views seat ≡ some u → HasNoLists u =
    λ seat u apart at'.
    let two = two_le_total alive views id seat v u at at' apart in
    tree.joined seat u at' (is_spent u.spent (omega (arith, two, count.1, mine)))
    in
    record {
      shape = tree.shape;
      once = λ n st ne.
          let sum = only_total (times_won n st) views id v at (λ seat u apart at'. no_counts n st u (others seat u apart at')) in
          let old = tree.once n st ne in
          omega (arith, sum, old);
      looks = λ seat u at' n st seen. tree.looks id v at n st (subst (λ (x : View). HasSeen x n st) (sym (only_seat v u seat at').1) seen);
      joined = λ seat u at' spent. absurd (true≢false (sym spent ∙ ap (λ (x : View). x.spent) (sym (only_seat v u seat at').1) ∙ live));
      seats = λ seat u at' is_first.
          let only = only_seat v u seat at' in
          let given : u.given ≡ v.given = ap (λ (x : View). x.given) (sym only.1) in
          let taken : u.taken ≡ v.taken = ap (λ (x : View). x.taken) (sym only.1) in
          (only.0, omega (arith, mine));
    }

-- the words give the statuses
pub same_statuses : (xs ys : List Status) → map word_of xs ≡ map word_of ys → xs ≡ ys
same_statuses [] [] e = refl
same_statuses [] (y ∷ ys) e = cc
same_statuses (x ∷ xs) [] e = cc
same_statuses (x ∷ xs) (y ∷ ys) e =
    let head : word_of x ≡ word_of y = cc in
    let tail : map word_of xs ≡ map word_of ys = cc in
    let first = same_status x y head in
    let rest = same_statuses xs ys tail in
    cc

pub read_at : (xs : List ℕ) (i x d : ℕ) → get_elem? xs i ≡ some x → get_or xs i d ≡ x
read_at [] i x d at = absurd (some-ne-none x (sym at))
read_at (y ∷ ys) zero x d at = some-injective y x at
read_at (y ∷ ys) (suc i) x d at = read_at ys i x d at

-- each word of a tree is the word of a status with a pull of 32 bits
pub word_fits : (words : List ℕ) (views : List View) → Kept words views → (i word : ℕ) → get_elem? words i ≡ some word → (st : Status) × (pull_of st < 2 ^ 32) × (word ≡ word_of st)
word_fits words views kept i word at =
    let statuses = kept.0 in (
      get_or statuses i Free,
      subst (λ (st : Status). pull_of st < 2 ^ 32) (ap (λ (n : ℕ). status_at statuses n) (let next : i + 1 ≡ suc i = omega arith in next)) (kept.2.shape.pulls (i + 1)),
      sym (read_at words i word 0 at) ∙ ap (λ (l : List ℕ). get_or l i 0) kept.1 ∙ get_or-map word_of statuses i Free,
    )

-- what was read word by word is the statuses
pub same_words : (words : List ℕ) (views : List View) → Kept words views → (read : List Status) → length read ≡ 63 → ((k : ℕ) → k < 63 → word_of (get_or read k Free) ≡ get_or words k 0)
    → words ≡ map word_of read
same_words words views kept read long each =
    let count : length words ≡ 63 = ap length kept.1 ∙ length-map kept.0 word_of ∙ kept.2.shape.count in
    fill_by_all (λ k. get_or words k 0) words 63 0 count (λ k h. refl)
    ∙ sym (fill_by_all (λ k. get_or words k 0) (map word_of read) 63 0 (length-map read word_of ∙ long) (λ k h. get_or-map word_of read k Free ∙ each k h))

-- closing a table shows that the statuses that were read are those of a tree, and the seat's view is one of its views
pub closes : (id : ℕ) (v : View) (words : List ℕ) (slots : List (Unit {0})) (statuses : List Status) → Final (Seen Table id v) words slots → words ≡ map word_of statuses
    → (views : List View) × IsTreeOf statuses views × (get_elem? views id ≡ some v)
closes id v words slots statuses last e =
    let kept = last.1.0 in (
      last.0.views,
      subst (λ (l : List Status). IsTreeOf l last.0.views) (same_statuses kept.0 statuses (sym kept.1 ∙ last.2 ∙ e)) kept.2,
      last.1.1,
    )
