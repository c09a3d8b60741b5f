-- The index by root key, and the part of it between two root keys.
use Rattle.std.proofs.Common.{⊎_elim, ◌≡◌, ◌≢◌, ℕ, ◌+◌, ◌<◌, ◌≤◌, Bool, true, false, ◌||◌, not, List, [], ◌∷◌, ◌++◌, inl, inr, refl, sym, ap, subst, ◌∙◌, arith}
use Rattle.std.specs.Prelude.{cond, ◌==◌, ◌&&◌, ◌⊎◌, nat_le, nat_lt}
use Rattle.std.specs.Ordering.{nat_cmp, ordering_then, is_gt}
use Rattle.std.specs.Cmp.{IsTotalOrder, nat_cmp_total, unsigned_tied, tied_then, on_total, then_total}
use Rattle.std.specs.declared.cmp.Ordering.TheVariants.{Less, Equal, Greater}
use Rattle.std.specs.declared.ops.Bound.TheVariants.{Included, Excluded}
use Rattle.std.specs.BTreeMap.{is_at}
use Rattle.std.specs.BTreeMap.Range.{IsLeBy, IsLtBy, IsInRange, range_contains}
use Rattle.std.specs.BTreeSet.{BTreeSet, contains, keys_between, IsKeyInRange, IsKeyRangeOf}
use Rattle.std.proofs.lemmas.Bool.{cases_eq, cases_lt, cases_Bool, and_parts, and_from, eq-eqb, eqb-true, leb-true, ltb-true, le-leb, lt-ltb, le-ltb, ne_eqb, or_cases, true≢false}
use Rattle.std.specs.List.{list_any}
use Rattle.std.proofs.lemmas.List.Folds.{list_any-append}
use Rattle.std.specs.List.Sorted.{IsPermutation}
use Rattle.std.proofs.lemmas.List.Sorted.{list_any-IsPermutation}
use Rattle.std.proofs.lemmas.Map.Views.{any-filter_same, range_contains-from_IsInRange}
use Rattle.sq_exec.specs.Index.{entry_cmp, has_entry, is_between, is_among, IsFirstOf, IsNumberedBetween, AddsBetween, HasAllBetween, LackBetween}
use Rattle.sq_exec.proofs.Entries.{cmp_less, cmp_greater, less_from_less}

pub turned : (x y : ℕ) → (x == y) ≡ (y == x)
turned x y =
    ⊎_elim
    (λ (same : x ≡ y). eq-eqb x y same ∙ sym (eq-eqb y x (sym same)))
    (λ (apart : x ≢ y). ne_eqb x y apart ∙ sym (ne_eqb y x (λ same. apart (sym same))))
    (cases_eq x y)

pub entry_cmp_total : IsTotalOrder entry_cmp
entry_cmp_total = then_total (on_total (λ (e : ℕ × ℕ). e.0) nat_cmp_total) (on_total (λ (e : ℕ × ℕ). e.1) nat_cmp_total)

-- an entry is one with the root key and the number
pub at_entry : (root number : ℕ) (entry : ℕ × ℕ) → is_at (entry_cmp (root, number)) entry ≡ ((root == entry.0) && (number == entry.1))
at_entry root number entry = sym (tied_then (nat_cmp root entry.0) (nat_cmp number entry.1)) ∙ (λ i. unsigned_tied root entry.0 i && unsigned_tied number entry.1 i)

cmp_equal : (x y : ℕ) → x ≡ y → nat_cmp x y ≡ Equal
cmp_equal x y same = λ i. cond (le-ltb x y (omega (arith, same)) i) Less (cond (eq-eqb x y same i) Equal Greater)

-- the first entry of a root key isn't above those of this root key and greater ones
start_below : (lo root number : ℕ) → lo ≤ root → IsLeBy entry_cmp (lo, 0) (root, number)
start_below lo root number from =
    ⊎_elim
    (λ (same : lo ≡ root). ap (λ o. is_gt (ordering_then o (nat_cmp 0 number))) (cmp_equal lo root same) ∙ zero_first number)
    (λ (apart : lo ≢ root). ap (λ o. is_gt (ordering_then o (nat_cmp 0 number))) (cmp_less lo root (omega (arith, from, apart))))
    (cases_eq lo root)
  where
    zero_first : (n : ℕ) → is_gt (nat_cmp 0 n) ≡ false
    zero_first n =
        ⊎_elim
        (λ (same : 0 ≡ n). ap is_gt (cmp_equal 0 n same))
        (λ (apart : 0 ≢ n). ap is_gt (cmp_less 0 n (omega (arith, apart))))
        (cases_eq 0 n)

end_above : (hi root number : ℕ) → root < hi → IsLtBy entry_cmp (root, number) (hi, 0)
end_above hi root number below = ap (λ o. ordering_then o (nat_cmp number 0)) (cmp_less root hi below)

-- what lies between the first entries of two root keys has a root key between them
pub in_range : (lo hi root number : ℕ) → lo ≤ root → root < hi → IsInRange entry_cmp (Included (lo, 0)) (Excluded (hi, 0)) (root, number)
in_range lo hi root number from below = (start_below lo root number from, end_above hi root number below)

pub range_from : (lo root number : ℕ) → IsLeBy entry_cmp (lo, 0) (root, number) → lo ≤ root
range_from lo root number upto =
    ⊎_elim
    (λ (above : root < lo). absurd (true≢false (sym (ap (λ o. is_gt (ordering_then o (nat_cmp 0 number))) (cmp_greater lo root above)) ∙ upto)))
    (λ (from : lo ≤ root). from)
    (cases_lt root lo)

pub range_below : (hi root number : ℕ) → IsLtBy entry_cmp (root, number) (hi, 0) → root < hi
range_below hi root number below =
    ⊎_elim
    (λ (here : root < hi). here)
    (λ (past : hi ≤ root).
    ⊎_elim
    (λ (same : root ≡ hi).
    let both : nat_cmp number 0 ≡ Less = sym (ap (λ o. ordering_then o (nat_cmp number 0)) (cmp_equal root hi same)) ∙ below in
    absurd (omega (arith, less_from_less number 0 both)))
    (λ (apart : root ≢ hi).
    let both : Greater ≡ Less = sym (ap (λ o. ordering_then o (nat_cmp number 0)) (cmp_greater root hi (omega (arith, past, apart)))) ∙ below in
    absurd (cc))
    (cases_eq root hi))
    (cases_lt root hi)

-- an entry of one root key that isn't above another doesn't have a greater number
number_upto : (root number other : ℕ) → IsLeBy entry_cmp (root, number) (root, other) → number ≤ other
number_upto root number other upto =
    ⊎_elim
    (λ (above : other < number).
    absurd (true≢false (sym ((λ i. is_gt (ordering_then (cmp_equal root root refl i) (cmp_greater number other above i)))) ∙ upto)))
    (λ (below : number ≤ other). below)
    (cases_lt other number)

module _ (by_root : BTreeSet (ℕ × ℕ)) (root : ℕ) where
  -- what the part of the index with one root key begins with is its least number
  pub first_in_range : (first : ℕ × ℕ) (rest : List (ℕ × ℕ)) → IsKeyRangeOf entry_cmp (Included (root, 0)) (Excluded (root + 1, 0)) by_root (first ∷ rest) → IsFirstOf by_root root first.1
  first_in_range first rest range =
      let inside = range.1.0 in
      let own : first.0 ≡ root = omega (arith, range_from root first.0 first.1 inside.0, range_below (root + 1) first.0 first.1 inside.1) in
      let here : contains entry_cmp by_root first ≡ true = range.1.1 in
      record {
        stands = subst (λ r. has_entry by_root r first.1 ≡ true) own here;
        least = λ other stands.
            let upto : IsLeBy entry_cmp first (root, other) = range.2 (root, other) (in_range root (root + 1) root other (omega arith) (omega arith)) stands in
            number_upto root first.1 other (subst (λ r. IsLeBy entry_cmp (r, first.1) (root, other)) own upto);
      }

  pub none_in_range : IsKeyRangeOf entry_cmp (Included (root, 0)) (Excluded (root + 1, 0)) by_root [] → (number : ℕ) → has_entry by_root root number ≡ false
  none_in_range range number = range.5 refl (root, number) (in_range root (root + 1) root number (omega arith) (omega arith))

-- the entries after one was put in or taken out
pub set_entry : (by_root new : BTreeSet (ℕ × ℕ)) (root number : ℕ) (stands : Bool) → ((q : ℕ × ℕ) → contains entry_cmp new q ≡ cond (is_at (entry_cmp (root, number)) q) stands (contains entry_cmp by_root q))
    → (r n : ℕ) → has_entry new r n ≡ cond ((root == r) && (number == n)) stands (has_entry by_root r n)
set_entry by_root new root number stands updates r n = updates (r, n) ∙ ap (λ b. cond b stands (has_entry by_root r n)) (at_entry root number (r, n))

-- the numbers after one was put in or taken out
pub put_due : (due new : List ℕ) (number : ℕ) → ((n : ℕ) → is_among new n ≡ ((n == number) || is_among due n)) → (n : ℕ) → is_among new n ≡ cond (number == n) true (is_among due n)
put_due due new number put n = put n ∙ ap (λ b. b || is_among due n) (turned n number) ∙ either (number == n)
  where
    either : (b : Bool) → (b || is_among due n) ≡ cond b true (is_among due n)
    either true = refl
    either false = refl

pub strike_due : (due new : List ℕ) (number : ℕ) → ((n : ℕ) → is_among new n ≡ (is_among due n && not (n == number))) → (n : ℕ) → is_among new n ≡ cond (number == n) false (is_among due n)
strike_due due new number struck n = struck n ∙ ap (λ b. is_among due n && not b) (turned n number) ∙ unless (number == n) (is_among due n)
  where
    unless : (b had : Bool) → (had && not b) ≡ cond b false had
    unless true true = refl
    unless true false = refl
    unless false true = refl
    unless false false = refl

-- a number that isn't due is left so
pub not_due : (due : List ℕ) (number : ℕ) → is_among due number ≡ false → (n : ℕ) → is_among due n ≡ cond (number == n) false (is_among due n)
not_due due number off n =
    ⊎_elim
    (λ (same : number ≡ n). ap (is_among due) (sym same) ∙ off ∙ sym (ap (λ b. cond b false (is_among due n)) (eq-eqb number n same)))
    (λ (apart : number ≢ n). sym (ap (λ b. cond b false (is_among due n)) (ne_eqb number n apart)))
    (cases_eq number n)

-- an entry that was put in and taken out again
pub back_again : (by_root new again : BTreeSet (ℕ × ℕ)) (root number : ℕ) → has_entry by_root root number ≡ false
    → ((q : ℕ × ℕ) → contains entry_cmp new q ≡ cond (is_at (entry_cmp (root, number)) q) true (contains entry_cmp by_root q))
    → ((q : ℕ × ℕ) → contains entry_cmp again q ≡ cond (is_at (entry_cmp (root, number)) q) false (contains entry_cmp new q))
    → (r n : ℕ) → has_entry again r n ≡ has_entry by_root r n
back_again by_root new again root number off put out r n =
    ⊎_elim
    (λ (here : ((root == r) && (number == n)) ≡ true).
    let parts = and_parts (root == r) (number == n) here in
    set_entry new again root number false out r n ∙ ap (λ b. cond b false (has_entry new r n)) here
    ∙ sym (sym (λ k. has_entry by_root (eqb-true root r parts.0 k) (eqb-true number n parts.1 k)) ∙ off))
    (λ (other : ((root == r) && (number == n)) ≡ false).
    set_entry new again root number false out r n ∙ ap (λ b. cond b false (has_entry new r n)) other
    ∙ set_entry by_root new root number true put r n ∙ ap (λ b. cond b true (has_entry by_root r n)) other)
    (cases_Bool ((root == r) && (number == n)))

-- numbers with one more behind them
module _ (numbers : List ℕ) (last : ℕ) where
  among_more : (n : ℕ) → is_among (numbers ++ last ∷ []) n ≡ (is_among numbers n || (n == last))
  among_more n = list_any-append (λ x. n == x) numbers (last ∷ []) ∙ ap (λ b. is_among numbers n || b) (or_none (n == last))
    where
      or_none : (b : Bool) → (b || false) ≡ b
      or_none true = refl
      or_none false = refl

  among_kept : (n : ℕ) → is_among numbers n ≡ true → is_among (numbers ++ last ∷ []) n ≡ true
  among_kept n among = among_more n ∙ ap (λ b. b || (n == last)) among

  among_last : is_among (numbers ++ last ∷ []) last ≡ true
  among_last = among_more last ∙ ap (λ b. is_among numbers last || b) (eq-eqb last last refl) ∙ or_true (is_among numbers last)
    where
      or_true : (b : Bool) → (b || true) ≡ true
      or_true true = refl
      or_true false = refl

  among_either : (n : ℕ) → is_among (numbers ++ last ∷ []) n ≡ true → (is_among numbers n ≡ true) ⊎ (n ≡ last)
  among_either n among =
      ⊎_elim (λ (before : is_among numbers n ≡ true). inl before) (λ (here : (n == last) ≡ true). inr (eqb-true n last here))
      (or_cases (is_among numbers n) (n == last) (sym (among_more n) ∙ among))

module _ (had : List ℕ) where
  -- each of these entries has its number in the one list, or in the other
  abbrev pub AreGoneOver : List (ℕ × ℕ) → List ℕ → Type 0
  AreGoneOver entries lacking = (root n : ℕ) → list_any (is_at (entry_cmp (root, n))) entries ≡ true → (is_among had n || is_among lacking n) ≡ true

  -- so it is of one entry more
  module _ (entries : List (ℕ × ℕ)) (entry : ℕ × ℕ) (lacking : List ℕ) (gone : AreGoneOver entries lacking) where
    gone_over : (more : List ℕ) → ((n : ℕ) → is_among lacking n ≡ true → is_among more n ≡ true) → (is_among had entry.1 || is_among more entry.1) ≡ true → AreGoneOver (entries ++ entry ∷ []) more
    gone_over more kept here root n any =
        ⊎_elim
        (λ (before : list_any (is_at (entry_cmp (root, n))) entries ≡ true). still (is_among had n) (is_among lacking n) (is_among more n) (kept n) (gone root n before))
        (λ (last : (is_at (entry_cmp (root, n)) entry || false) ≡ true).
        let own : n ≡ entry.1 = eqb-true n entry.1 (and_parts (root == entry.0) (n == entry.1) (sym (at_entry root n entry) ∙ or_alone (is_at (entry_cmp (root, n)) entry) last)).1 in
        ap (λ k. is_among had k || is_among more k) own ∙ here)
        (or_cases (list_any (is_at (entry_cmp (root, n))) entries) (is_at (entry_cmp (root, n)) entry || false) (sym (list_any-append (is_at (entry_cmp (root, n))) entries (entry ∷ [])) ∙ any))
      where
        or_alone : (b : Bool) → (b || false) ≡ true → b ≡ true
        or_alone true h = refl
        or_alone false h = h

        still : (a b c : Bool) → (b ≡ true → c ≡ true) → (a || b) ≡ true → (a || c) ≡ true
        still true b c more h = refl
        still false b c more h = more h

    -- the first has its number
    pub gone_by : is_among had entry.1 ≡ true → AreGoneOver (entries ++ entry ∷ []) lacking
    gone_by there = gone_over lacking (λ n among. among) (ap (λ b. b || is_among lacking entry.1) there)

    -- the first lacks it
    pub gone_more : AreGoneOver (entries ++ entry ∷ []) (lacking ++ entry.1 ∷ [])
    gone_more = gone_over (lacking ++ entry.1 ∷ []) (among_kept lacking entry.1) (ap (λ b. is_among had entry.1 || b) (among_last lacking entry.1) ∙ or_true (is_among had entry.1))
      where
        or_true : (b : Bool) → (b || true) ≡ true
        or_true true = refl
        or_true false = refl

  pub lacking_more : (lacking : List ℕ) (number : ℕ) → ((n : ℕ) → is_among lacking n ≡ true → is_among had n ≡ false) → is_among had number ≡ false
      → (n : ℕ) → is_among (lacking ++ number ∷ []) n ≡ true → is_among had n ≡ false
  lacking_more lacking number lacks off n among =
      ⊎_elim (λ (before : is_among lacking n ≡ true). lacks n before) (λ (same : n ≡ number). ap (is_among had) same ∙ off) (among_either lacking number n among)

module _ (by_root : BTreeSet (ℕ × ℕ)) (lo hi : ℕ) where
  pub between_more : (lacking : List ℕ) (entry : ℕ × ℕ) → ((n : ℕ) → is_among lacking n ≡ true → IsNumberedBetween by_root lo hi n) → IsKeyInRange entry_cmp (Included (lo, 0)) (Excluded (hi, 0)) by_root entry
      → (n : ℕ) → is_among (lacking ++ entry.1 ∷ []) n ≡ true → IsNumberedBetween by_root lo hi n
  between_more lacking entry between inside n among =
      ⊎_elim (λ (before : is_among lacking n ≡ true). between n before)
      (λ (same : n ≡ entry.1). record {
        root = entry.0;
        stands = subst (λ k. has_entry by_root entry.0 k ≡ true) (sym same) inside.1;
        between = and_from (nat_le lo entry.0) (nat_lt entry.0 hi) (le-leb lo entry.0 (range_from lo entry.0 entry.1 inside.0.0)) (lt-ltb entry.0 hi (range_below hi entry.0 entry.1 inside.0.1));
      })
      (among_either lacking entry.1 n among)

  -- the same numbers in another order
  pub lacking_sorted : (had lacking sorted : List ℕ) → IsPermutation lacking sorted → LackBetween by_root lo hi had lacking → LackBetween by_root lo hi had sorted
  lacking_sorted had lacking sorted moved lacks =
      let same = λ (n : ℕ). list_any-IsPermutation (λ m. n == m) lacking sorted moved in
      record {
        lacking = λ n among. lacks.lacking n (same n ∙ among);
        between = λ n among. lacks.between n (same n ∙ among);
        all = λ root n stands between. ap (λ b. is_among had n || b) (sym (same n)) ∙ lacks.all root n stands between;
      }

  module _ (had new : List ℕ) where
    -- with those that it lacked a list has all
    module _ (lacking : List ℕ) (lacks : LackBetween by_root lo hi had lacking) (is : (n : ℕ) → is_among new n ≡ (is_among had n || is_among lacking n)) where
      pub adds_lacking : AddsBetween by_root lo hi had new
      adds_lacking = record {
        kept = λ n there. is n ∙ ap (λ b. b || is_among lacking n) there;
        only = λ n here.
            ⊎_elim (λ (old : is_among had n ≡ true). inl old) (λ (among : is_among lacking n ≡ true). inr (lacks.between n among))
            (or_cases (is_among had n) (is_among lacking n) (sym (is n) ∙ here));
      }

      pub has_all : HasAllBetween by_root lo hi new
      has_all = λ root n stands between. is n ∙ lacks.all root n stands between

    pub adds_none : ((n : ℕ) → is_among new n ≡ is_among had n) → AddsBetween by_root lo hi had new
    adds_none same = record { kept = λ n there. same n ∙ there; only = λ n here. inl (sym (same n) ∙ here) }

-- an entry between two root keys is in the part between their first entries
pub any_between : (by_root : BTreeSet (ℕ × ℕ)) (lo hi root number : ℕ) → has_entry by_root root number ≡ true → is_between lo hi root ≡ true
    → list_any (is_at (entry_cmp (root, number))) (keys_between entry_cmp (Included (lo, 0)) (Excluded (hi, 0)) by_root) ≡ true
any_between by_root lo hi root number stands between =
    any-filter_same (is_at (entry_cmp (root, number))) (range_contains entry_cmp (Included (lo, 0)) (Excluded (hi, 0))) true (λ k here.
    let parts = and_parts (root == k.0) (number == k.1) (sym (at_entry root number k) ∙ here) in
    let own : root ≡ k.0 = eqb-true root k.0 parts.0 in
    let bounds = and_parts (nat_le lo root) (nat_lt root hi) between in
    range_contains-from_IsInRange entry_cmp_total (Included (lo, 0)) (Excluded (hi, 0)) k
    (in_range lo hi k.0 k.1 (omega (arith, leb-true lo root bounds.0, own)) (omega (arith, ltb-true root hi bounds.1, own)))) by_root.keys
    ∙ stands
