-- Entries in the order of their keys.
use Rattle.std.proofs.Common.{⊎_elim, ◌≡◌, ◌≢◌, ℕ, ◌<◌, ◌≤◌, Bool, true, false, List, [], ◌∷◌, ◌++◌, length, suc, refl, sym, ap, subst, ◌∙◌, arith}
use Rattle.std.specs.Prelude.{cond, ◌==◌, ◌+◌, nat_le, nat_lt, find, Option, Some, None, is_some, IsSome}
use Rattle.std.specs.Ordering.{nat_cmp, is_lt}
use Rattle.std.specs.Cmp.{unsigned_tied}
use Rattle.std.specs.List.{AllByRecursion, filter}
use Rattle.std.specs.List.Sorted.{IsStrictlySortedBy}
use Rattle.std.specs.Map.{keys_of, remove_entry}
use Rattle.std.specs.BTreeMap.{is_at}
use Rattle.std.specs.declared.cmp.Ordering.TheVariants.{Less, Equal, Greater}
use Rattle.std.proofs.lemmas.Bool.{cases_eq, cases_lt, cases_Bool, eq-eqb, ne_eqb, leb-true, leb-false, lt-ltb, le-ltb, ltb-true, false_from_ne_true, true≢false}
use Rattle.std.proofs.lemmas.Map.Keys.{sorted_head, sorted_tail}
use Rattle.sq_exec.specs.Slots.{value_at}

pub cmp_less : (x y : ℕ) → x < y → nat_cmp x y ≡ Less
cmp_less x y below = ap (λ b. cond b Less (cond (x == y) Equal Greater)) (lt-ltb x y below)

pub sorted_cons : (x : ℕ) (xs : List ℕ) → AllByRecursion (λ n. nat_cmp x n ≡ Less) xs → IsStrictlySortedBy nat_cmp xs → IsStrictlySortedBy nat_cmp (x ∷ xs)
unfolding IsStrictlySortedBy
sorted_cons x xs above sorted = (above, sorted)

pub cmp_greater : (x y : ℕ) → y < x → nat_cmp x y ≡ Greater
cmp_greater x y above = λ i. cond (le-ltb x y (omega arith) i) Less (cond (ne_eqb x y (λ same. absurd (omega (arith, same, above))) i) Equal Greater)

pub less_from_less : (x y : ℕ) → nat_cmp x y ≡ Less → x < y
less_from_less x y less = ltb-true x y (first _ _ (ap is_lt less))
  where
    first : (a b : Bool) → is_lt (cond a Less (cond b Equal Greater)) ≡ true → a ≡ true
    first true b h = refl
    first false true h = absurd (true≢false (sym h))
    first false false h = absurd (true≢false (sym h))

pub at_same : (key q : ℕ) → key ≡ q → is_at (nat_cmp key) q ≡ true
at_same key q same = unsigned_tied key q ∙ eq-eqb key q same

pub at_other : (key q : ℕ) → key ≢ q → is_at (nat_cmp key) q ≡ false
at_other key q apart = unsigned_tied key q ∙ ne_eqb key q apart

module _ {X : Type 0} where
  pub at_head : (e : ℕ × X) (es : List (ℕ × X)) (q : ℕ) → q ≡ e.0 → value_at (e ∷ es) q ≡ Some e.1
  at_head e es q same = ap (λ b. cond b (Some e.1) (value_at es q)) (at_same q e.0 same)

  pub at_tail : (e : ℕ × X) (es : List (ℕ × X)) (q : ℕ) → q ≢ e.0 → value_at (e ∷ es) q ≡ value_at es q
  at_tail e es q apart = ap (λ b. cond b (Some e.1) (value_at es q)) (at_other q e.0 apart)

  -- a key that isn't above one that is below all isn't there
  pub absent : (es : List (ℕ × X)) (q k : ℕ) → AllByRecursion (λ other. nat_cmp k other ≡ Less) (keys_of es) → q ≤ k → value_at es q ≡ None
  absent [] q k below upto = refl
  absent (e ∷ es) q k below upto = at_tail e es q (λ same. absurd (omega (arith, less_from_less k e.0 below.0, same, upto))) ∙ absent es q k below.1 upto

  pub absent_later : (e : ℕ × X) (es : List (ℕ × X)) (q : ℕ) → IsStrictlySortedBy nat_cmp (keys_of (e ∷ es)) → q ≤ e.0 → value_at es q ≡ None
  absent_later e es q sorted upto = absent es q e.0 (sorted_head nat_cmp e.0 (keys_of es) sorted) upto

  -- what is at a key later on is there
  pub at_later : (e : ℕ × X) (es : List (ℕ × X)) (q : ℕ) (x : X) → IsStrictlySortedBy nat_cmp (keys_of (e ∷ es)) → value_at es q ≡ Some x → value_at (e ∷ es) q ≡ Some x
  at_later e es q x sorted found =
      ⊎_elim
      (λ (same : q ≡ e.0). let both : None ≡ Some x = sym (absent_later e es q sorted (omega (arith, same))) ∙ found in absurd (cc))
      (λ (apart : q ≢ e.0). at_tail e es q apart ∙ found)
      (cases_eq q e.0)

  module _ (test : ℕ × X → Bool) where
    -- the first that passes is the one of the least key among those that pass
    pub find_least : (es : List (ℕ × X)) (key : ℕ) (x : X) → IsStrictlySortedBy nat_cmp (keys_of es) → value_at es key ≡ Some x → test (key, x) ≡ true
        → ((q : ℕ) (y : X) → value_at es q ≡ Some y → test (q, y) ≡ true → key ≤ q) → find test es ≡ Some (key, x)
    find_least [] key x sorted found passes least = absurd (cc)
    find_least (e ∷ es) key x sorted found passes least =
        ⊎_elim
        (λ (same : key ≡ e.0).
        let both : Some e.1 ≡ Some x = sym (at_head e es key same) ∙ found in
        let value : e.1 ≡ x = cc in
        let whole : e ≡ (key, x) = λ k. (sym same k, value k) in
        ap (λ b. cond b (Some e) (find test es)) (ap test whole ∙ passes) ∙ ap Some whole)
        (λ (apart : key ≢ e.0).
        let later : value_at es key ≡ Some x = sym (at_tail e es key apart) ∙ found in
        let fails : test e ≡ false = false_from_ne_true (test e) (λ here.
        let both : None ≡ Some x = sym (absent_later e es key sorted (least e.0 e.1 (at_head e es e.0 refl) here)) ∙ later in
        absurd (cc)) in
        ap (λ b. cond b (Some e) (find test es)) fails
        ∙ find_least es key x (sorted_tail nat_cmp e.0 (keys_of es) sorted) later passes (λ q y at here. least q y (at_later e es q y sorted at) here))
        (cases_eq key e.0)

    -- none passes
    pub find_none : (es : List (ℕ × X)) → IsStrictlySortedBy nat_cmp (keys_of es) → ((q : ℕ) (y : X) → value_at es q ≡ Some y → test (q, y) ≡ false) → find test es ≡ None
    find_none [] sorted fails = refl
    find_none (e ∷ es) sorted fails =
        ap (λ b. cond b (Some e) (find test es)) (fails e.0 e.1 (at_head e es e.0 refl))
        ∙ find_none es (sorted_tail nat_cmp e.0 (keys_of es) sorted) (λ q y at. fails q y (at_later e es q y sorted at))

  -- one more entry, above all others
  below_tail : (key : ℕ) (e : ℕ × X) (es : List (ℕ × X)) → ((q : ℕ) → IsSome (value_at (e ∷ es) q) → q < key) → (q : ℕ) → IsSome (value_at es q) → q < key
  below_tail key e es below q there =
      ⊎_elim
      (λ (same : q ≡ e.0). below q (ap is_some (at_head e es q same)))
      (λ (apart : q ≢ e.0). below q (ap is_some (at_tail e es q apart) ∙ there))
      (cases_eq q e.0)

  pub value_last : (es : List (ℕ × X)) (key : ℕ) (x : X) → ((q : ℕ) → IsSome (value_at es q) → q < key) → (q : ℕ) → value_at (es ++ (key, x) ∷ []) q ≡ cond (is_at (nat_cmp key) q) (Some x) (value_at es q)
  value_last [] key x below q =
      ⊎_elim
      (λ (same : q ≡ key). at_head (key, x) [] q same ∙ sym (ap (λ b. cond b (Some x) None) (at_same key q (sym same))))
      (λ (apart : q ≢ key). at_tail (key, x) [] q apart ∙ sym (ap (λ b. cond b (Some x) None) (at_other key q (λ same. apart (sym same)))))
      (cases_eq q key)
  value_last (e ∷ es) key x below q =
      let above : e.0 < key = below e.0 (ap is_some (at_head e es e.0 refl)) in
      ⊎_elim
      (λ (same : q ≡ e.0).
      at_head e (es ++ (key, x) ∷ []) q same ∙ sym (at_head e es q same)
      ∙ sym (ap (λ b. cond b (Some x) (value_at (e ∷ es) q)) (at_other key q (λ own. absurd (omega (arith, own, same, above))))))
      (λ (apart : q ≢ e.0).
      at_tail e (es ++ (key, x) ∷ []) q apart ∙ value_last es key x (below_tail key e es below) q
      ∙ sym (ap (λ read. cond (is_at (nat_cmp key) q) (Some x) read) (at_tail e es q apart)))
      (cases_eq q e.0)

  all_keys_last : (P : ℕ → Type 0) (es : List (ℕ × X)) (key : ℕ) (x : X) → AllByRecursion P (keys_of es) → P key → AllByRecursion P (keys_of (es ++ (key, x) ∷ []))
  all_keys_last P [] key x all last = (last, tt)
  all_keys_last P (e ∷ es) key x all last = (all.0, all_keys_last P es key x all.1 last)

  pub sorted_last : (es : List (ℕ × X)) (key : ℕ) (x : X) → IsStrictlySortedBy nat_cmp (keys_of es) → ((q : ℕ) → IsSome (value_at es q) → q < key) → IsStrictlySortedBy nat_cmp (keys_of (es ++ (key, x) ∷ []))
  sorted_last [] key x sorted below = sorted_cons key [] tt sorted
  sorted_last (e ∷ es) key x sorted below =
      sorted_cons e.0 (keys_of (es ++ (key, x) ∷ [])) (all_keys_last (λ n. nat_cmp e.0 n ≡ Less) es key x (sorted_head nat_cmp e.0 (keys_of es) sorted) (cmp_less e.0 key (below e.0 (ap is_some (at_head e es e.0 refl)))))
      (sorted_last es key x (sorted_tail nat_cmp e.0 (keys_of es) sorted) (below_tail key e es below))

  -- one entry less
  pub value_gone : (es : List (ℕ × X)) (key : ℕ) → IsStrictlySortedBy nat_cmp (keys_of es) → (q : ℕ) → value_at (remove_entry (is_at (nat_cmp key)) es) q ≡ cond (is_at (nat_cmp key) q) None (value_at es q)
  value_gone [] key sorted q = elim (is_at (nat_cmp key) q) as (λ b. ◌≡◌ {A = Option X} None (cond b None (value_at {X = X} [] q))) [ true ↦ refl | false ↦ refl ]
  value_gone (e ∷ es) key sorted q =
      ⊎_elim
      (λ (here : key ≡ e.0).
      ap (λ b. value_at (cond b es (e ∷ remove_entry (is_at (nat_cmp key)) es)) q) (at_same key e.0 here)
      ∙ ⊎_elim
      (λ (same : key ≡ q). absent_later e es q sorted (omega (arith, here, same)) ∙ sym (ap (λ b. cond b None (value_at (e ∷ es) q)) (at_same key q same)))
      (λ (apart : key ≢ q).
      sym (ap (λ b. cond b None (value_at (e ∷ es) q)) (at_other key q apart) ∙ at_tail e es q (λ same. apart (here ∙ sym same))))
      (cases_eq key q))
      (λ (other : key ≢ e.0).
      ap (λ b. value_at (cond b es (e ∷ remove_entry (is_at (nat_cmp key)) es)) q) (at_other key e.0 other)
      ∙ ⊎_elim
      (λ (same : q ≡ e.0).
      at_head e (remove_entry (is_at (nat_cmp key)) es) q same ∙ sym (at_head e es q same)
      ∙ sym (ap (λ b. cond b None (value_at (e ∷ es) q)) (at_other key q (λ own. other (own ∙ same)))))
      (λ (apart : q ≢ e.0).
      at_tail e (remove_entry (is_at (nat_cmp key)) es) q apart ∙ value_gone es key (sorted_tail nat_cmp e.0 (keys_of es) sorted) q
      ∙ sym (ap (λ read. cond (is_at (nat_cmp key) q) None read) (at_tail e es q apart)))
      (cases_eq q e.0))
      (cases_eq key e.0)

  module _ (test : ℕ → Bool) where
    all_keys_gone : (P : ℕ → Type 0) (es : List (ℕ × X)) → AllByRecursion P (keys_of es) → AllByRecursion P (keys_of (remove_entry test es))
    all_keys_gone P [] all = tt
    all_keys_gone P (e ∷ es) all = elim (test e.0) as (λ b. AllByRecursion P (keys_of (cond b es (e ∷ remove_entry test es)))) [ true ↦ all.1 | false ↦ (all.0, all_keys_gone P es all.1) ]

    pub sorted_gone : (es : List (ℕ × X)) → IsStrictlySortedBy nat_cmp (keys_of es) → IsStrictlySortedBy nat_cmp (keys_of (remove_entry test es))
    sorted_gone [] sorted = sorted
    sorted_gone (e ∷ es) sorted =
        let rest = sorted_tail nat_cmp e.0 (keys_of es) sorted in
        elim (test e.0) as (λ b. IsStrictlySortedBy nat_cmp (keys_of (cond b es (e ∷ remove_entry test es)))) [
          | true ↦ rest
          | false ↦ sorted_cons e.0 (keys_of (remove_entry test es)) (all_keys_gone (λ n. nat_cmp e.0 n ≡ Less) es (sorted_head nat_cmp e.0 (keys_of es) sorted)) (sorted_gone es rest)
        ]

  -- the first entry from a number on
  module _ (from : ℕ) where
    abbrev reaches : ℕ × X → Bool
    reaches e = nat_le from e.0

    pub record IsFirstFrom (es : List (ℕ × X)) (e : ℕ × X) : Type 0 where
      pub upto : from ≤ e.0
      pub stands : value_at es e.0 ≡ Some e.1
      pub least : (q : ℕ) → from ≤ q → IsSome (value_at es q) → e.0 ≤ q

    pub first_from : (es : List (ℕ × X)) (e : ℕ × X) → IsStrictlySortedBy nat_cmp (keys_of es) → find reaches es ≡ Some e → IsFirstFrom es e
    first_from [] e sorted found = absurd (cc)
    first_from (x ∷ es) e sorted found =
        ⊎_elim
        (λ (here : nat_le from x.0 ≡ true).
        let both : Some x ≡ Some e = sym (ap (λ b. cond b (Some x) (find reaches es)) here) ∙ found in
        let same : x ≡ e = cc in
        subst (IsFirstFrom (x ∷ es)) same (record {
          upto = leb-true from x.0 here;
          stands = at_head x es x.0 refl;
          least = λ q upto there.
              ⊎_elim (λ (below : q < x.0).
              let none : None ≡ value_at (x ∷ es) q = sym (at_tail x es q (λ own. absurd (omega (arith, own, below))) ∙ absent_later x es q sorted (omega (arith, below))) in
              absurd (true≢false (sym there ∙ ap is_some (sym none))))
              (λ (from_here : x.0 ≤ q). from_here)
              (cases_lt q x.0);
        }))
        (λ (low : nat_le from x.0 ≡ false).
        let later = first_from es e (sorted_tail nat_cmp x.0 (keys_of es) sorted) (sym (ap (λ b. cond b (Some x) (find reaches es)) low) ∙ found) in
        let below : x.0 < from = leb-false from x.0 low in
        record {
          upto = later.upto;
          stands = at_later x es e.0 e.1 sorted later.stands;
          least = λ q upto there. later.least q upto (sym (ap is_some (at_tail x es q (λ own. absurd (omega (arith, own, below, upto))))) ∙ there);
        })
        (cases_Bool (nat_le from x.0))

    pub none_from : (es : List (ℕ × X)) → find reaches es ≡ None → (q : ℕ) → from ≤ q → value_at es q ≡ None
    none_from [] none q upto = refl
    none_from (x ∷ es) none q upto =
        ⊎_elim
        (λ (here : nat_le from x.0 ≡ true). let both : Some x ≡ None = sym (ap (λ b. cond b (Some x) (find reaches es)) here) ∙ none in absurd (cc))
        (λ (low : nat_le from x.0 ≡ false).
        at_tail x es q (λ own. absurd (omega (arith, own, upto, leb-false from x.0 low)))
        ∙ none_from es (sym (ap (λ b. cond b (Some x) (find reaches es)) low) ∙ none) q upto)
        (cases_Bool (nat_le from x.0))

  -- the entries below a number
  abbrev pub before : ℕ → List (ℕ × X) → List (ℕ × X)
  before number es = filter (λ e. nat_lt e.0 number) es

  pub before_length : (number : ℕ) (es : List (ℕ × X)) → length (before number es) ≤ length es
  before_length number [] = omega arith
  before_length number (e ∷ es) =
      let rest = before_length number es in
      elim (nat_lt e.0 number) as (λ b. length (cond b (e ∷ before number es) (before number es)) ≤ suc (length es)) [
        | true ↦ omega (arith, rest)
        | false ↦ omega (arith, rest)
      ]

  pub before_none : (es : List (ℕ × X)) → before 0 es ≡ []
  before_none [] = refl
  before_none (e ∷ es) = ap (λ b. cond b (e ∷ before 0 es) (before 0 es)) (le-ltb e.0 0 (omega arith)) ∙ before_none es

  before_low : (number k : ℕ) (es : List (ℕ × X)) → AllByRecursion (λ n. nat_cmp k n ≡ Less) (keys_of es) → number ≤ k + 1 → before number es ≡ []
  before_low number k [] above upto = refl
  before_low number k (e ∷ es) above upto =
      ap (λ b. cond b (e ∷ before number es) (before number es)) (le-ltb e.0 number (omega (arith, upto, less_from_less k e.0 above.0))) ∙ before_low number k es above.1 upto

  -- with the first from the number on there is one more
  pub before_more : (from : ℕ) (es : List (ℕ × X)) (e : ℕ × X) → IsStrictlySortedBy nat_cmp (keys_of es) → find (λ x. nat_le from x.0) es ≡ Some e → before (e.0 + 1) es ≡ before from es ++ e ∷ []
  before_more from [] e sorted found = absurd (cc)
  before_more from (x ∷ es) e sorted found =
      ⊎_elim
      (λ (reached : nat_le from x.0 ≡ true).
      let both : Some x ≡ Some e = sym (ap (λ b. cond b (Some x) (find (λ y. nat_le from y.0) es)) reached) ∙ found in
      let same : x ≡ e = cc in
      let upto : from ≤ x.0 = leb-true from x.0 reached in
      let above = sorted_head nat_cmp x.0 (keys_of es) sorted in
      subst (λ (y : ℕ × X). before (y.0 + 1) (x ∷ es) ≡ before from (x ∷ es) ++ y ∷ []) same
      (ap (λ b. cond b (x ∷ before (x.0 + 1) es) (before (x.0 + 1) es)) (lt-ltb x.0 (x.0 + 1) (omega arith))
      ∙ ap (λ rest. x ∷ rest) (before_low (x.0 + 1) x.0 es above (omega arith))
      ∙ sym (ap (λ xs. xs ++ x ∷ []) (ap (λ b. cond b (x ∷ before from es) (before from es)) (le-ltb x.0 from upto) ∙ before_low from x.0 es above (omega (arith, upto))))))
      (λ (low : nat_le from x.0 ≡ false).
      let below : x.0 < from = leb-false from x.0 low in
      let rest = sorted_tail nat_cmp x.0 (keys_of es) sorted in
      let later : find (λ y. nat_le from y.0) es ≡ Some e = sym (ap (λ b. cond b (Some x) (find (λ y. nat_le from y.0) es)) low) ∙ found in
      let got = first_from from es e rest later in
      ap (λ b. cond b (x ∷ before (e.0 + 1) es) (before (e.0 + 1) es)) (lt-ltb x.0 (e.0 + 1) (omega (arith, below, got.upto)))
      ∙ ap (λ xs. x ∷ xs) (before_more from es e rest later)
      ∙ sym (ap (λ b. cond b (x ∷ before from es) (before from es) ++ e ∷ []) (lt-ltb x.0 from below)))
      (cases_Bool (nat_le from x.0))

  pub before_all : (from : ℕ) (es : List (ℕ × X)) → find (λ x. nat_le from x.0) es ≡ None → before from es ≡ es
  before_all from [] none = refl
  before_all from (x ∷ es) none =
      ⊎_elim
      (λ (reached : nat_le from x.0 ≡ true). let both : Some x ≡ None = sym (ap (λ b. cond b (Some x) (find (λ y. nat_le from y.0) es)) reached) ∙ none in absurd (cc))
      (λ (low : nat_le from x.0 ≡ false).
      ap (λ b. cond b (x ∷ before from es) (before from es)) (lt-ltb x.0 from (leb-false from x.0 low))
      ∙ ap (λ xs. x ∷ xs) (before_all from es (sym (ap (λ b. cond b (Some x) (find (λ y. nat_le from y.0) es)) low) ∙ none)))
      (cases_Bool (nat_le from x.0))
