-- Waiting transactions with their indexes, and the list that they are.
use Rattle.std.proofs.Common.{⊎_elim, ◌≡◌, ◌≢◌, ℕ, ◌+◌, ◌<◌, ◌≤◌, Bool, true, false, ◌||◌, List, [], ◌∷◌, ◌++◌, map, length, refl, sym, ap, subst, ◌∙◌, arith}
use Rattle.std.specs.Prelude.{cond, ◌==◌, ◌&&◌, nat_le, nat_lt, find, is_some, IsSome, Option, Some, None, option_map}
use Rattle.std.specs.Option.{option_map_or}
use Rattle.std.specs.Ordering.{nat_cmp}
use Rattle.std.specs.Cmp.{unsigned_tied}
use Rattle.std.specs.List.Sorted.{IsStrictlySortedBy, IsStrictlyIncreasing}
use Rattle.std.specs.Map.{keys_of, remove_entry}
use Rattle.std.specs.BTreeMap.{is_at}
use Rattle.std.specs.BTreeSet.{BTreeSet}
use Rattle.std.proofs.lemmas.Bool.{cases_eq, cases_Bool, and_parts, and_from, eq-eqb, eqb-true, ne_eqb, leb-true, le-leb, lt-ltb, le-ltb, false_from_ne_true, true≢false}
use Rattle.std.proofs.lemmas.List.{map-append, length-map}
use Rattle.std.proofs.lemmas.Map.Keys.{sorted_tail, IsStrictlyIncreasing-from_sorted}
use Rattle.sq_schema.specs.TxnValue.{TxnValue}
use Rattle.sq_exec.specs.Index.{has_entry, is_among, is_between, FirstOf, SetsEntry, AddsBetween, HasAllBetween, IsNumberedBetween}
use Rattle.sq_exec.specs.Waiting.{Arrival, WaitingValue, numbers_of, is_on, is_numbered, is_due_from, no_number, txn_at, without, numbered_from, with_last, due_if, with_due}
use Rattle.sq_exec.specs.Slots.{value_at}
use Rattle.sq_exec.specs.Indexed.{is_due_in, arrival_of, arrivals_of, IsIndexed}
use Rattle.sq_exec.proofs.Entries.{at_same, at_other, at_head, at_later, absent_later, find_least, find_none}
use Rattle.sq_exec.proofs.Arrivals.{find-map, numbered_from-append}

abbrev pub Entries : Type 0
Entries = List (ℕ × TxnValue)

-- the numbers are the keys
numbers_are : (es : Entries) (due : ℕ → Bool) → numbers_of (arrivals_of es due) ≡ keys_of es
numbers_are [] due = refl
numbers_are (e ∷ es) due = ap (λ ks. e.0 ∷ ks) (numbers_are es due)

pub numbers_rise : (es : Entries) (due : ℕ → Bool) → IsStrictlySortedBy nat_cmp (keys_of es) → IsStrictlyIncreasing (numbers_of (arrivals_of es due))
numbers_rise es due sorted = subst IsStrictlyIncreasing (sym (numbers_are es due)) (IsStrictlyIncreasing-from_sorted (keys_of es) sorted)

-- the transaction of a number is the value at it
pub txn_at_key : (es : Entries) (due : ℕ → Bool) (number : ℕ) → txn_at (arrivals_of es due) number ≡ value_at es number
txn_at_key [] due number = refl
txn_at_key (e ∷ es) due number =
    elim (number == e.0) as (λ b. option_map (λ (a : Arrival). a.txn) (cond b (Some (arrival_of due e)) (find (is_numbered number) (arrivals_of es due))) ≡ cond b (Some e.1) (value_at es number)) [
      | true ↦ refl
      | false ↦ txn_at_key es due number
    ]
    ∙ ap (λ b. cond b (Some e.1) (value_at es number)) (sym (unsigned_tied number e.0))

-- one more of those that are numbered anew
pub numbered_more : (es : Entries) (due : ℕ → Bool) (e : ℕ × TxnValue) (n : ℕ) → n ≡ length es
    → with_last (record { arrivals = numbered_from 0 (arrivals_of es due); next = n }) e.1 (due e.0) ≡ record { arrivals = numbered_from 0 (arrivals_of (es ++ e ∷ []) due); next = n + 1 }
numbered_more es due e n same =
    let place : n ≡ 0 + length (arrivals_of es due) = omega (arith, same, length-map es (arrival_of due)) in
    ap (λ arrivals. record { arrivals = arrivals; next = n + 1 })
    (ap (λ k. numbered_from 0 (arrivals_of es due) ++ record { number = k; txn = e.1; is_due = due e.0 } ∷ []) place
    ∙ sym (numbered_from-append 0 (arrivals_of es due) (arrival_of due e)) ∙ ap (numbered_from 0) (sym (map-append (arrival_of due) es (e ∷ []))))

-- lists that agree on the keys make them due alike
pub same_due : (es : Entries) (due now : ℕ → Bool) → IsStrictlySortedBy nat_cmp (keys_of es) → ((q : ℕ) (txn : TxnValue) → value_at es q ≡ Some txn → now q ≡ due q) → arrivals_of es now ≡ arrivals_of es due
same_due [] due now sorted same = refl
same_due (e ∷ es) due now sorted same =
    λ k. record { number = e.0; txn = e.1; is_due = same e.0 e.1 (at_head e es e.0 refl) k } ∷ same_due es due now (sorted_tail nat_cmp e.0 (keys_of es) sorted) (λ q txn at. same q txn (at_later e es q txn sorted at)) k

-- those that pass are due too
pub more_due : (es : Entries) (due now : ℕ → Bool) (passes : Arrival → Bool) → IsStrictlySortedBy nat_cmp (keys_of es)
    → ((q : ℕ) (txn : TxnValue) → value_at es q ≡ Some txn → now q ≡ (due q || passes (arrival_of due (q, txn))))
    → arrivals_of es now ≡ map (due_if passes) (arrivals_of es due)
more_due [] due now passes sorted more = refl
more_due (e ∷ es) due now passes sorted more =
    λ k. record { number = e.0; txn = e.1; is_due = more e.0 e.1 (at_head e es e.0 refl) k } ∷ more_due es due now passes (sorted_tail nat_cmp e.0 (keys_of es) sorted) (λ q txn at. more q txn (at_later e es q txn sorted at)) k

-- a number is taken out of both
pub without_key : (es : Entries) (due now : ℕ → Bool) (number : ℕ) → IsStrictlySortedBy nat_cmp (keys_of es)
    → ((q : ℕ) → q ≢ number → now q ≡ due q) → arrivals_of (remove_entry (is_at (nat_cmp number)) es) now ≡ without number (arrivals_of es due)
without_key [] due now number sorted same = refl
without_key (e ∷ es) due now number sorted same =
    ⊎_elim
    (λ (here : number ≡ e.0).
    ap (λ b. arrivals_of (cond b es (e ∷ remove_entry (is_at (nat_cmp number)) es)) now) (at_same number e.0 here)
    ∙ same_due es due now (sorted_tail nat_cmp e.0 (keys_of es) sorted) (λ q txn at. same q (apart q txn at here))
    ∙ sym (ap (λ b. cond b (arrivals_of es due) (arrival_of due e ∷ without number (arrivals_of es due))) (eq-eqb number e.0 here)))
    (λ (other : number ≢ e.0).
    ap (λ b. arrivals_of (cond b es (e ∷ remove_entry (is_at (nat_cmp number)) es)) now) (at_other number e.0 other)
    ∙ (λ k. record { number = e.0; txn = e.1; is_due = same e.0 (λ back. other (sym back)) k } ∷ without_key es due now number (sorted_tail nat_cmp e.0 (keys_of es) sorted) same k)
    ∙ sym (ap (λ b. cond b (arrivals_of es due) (arrival_of due e ∷ without number (arrivals_of es due))) (ne_eqb number e.0 other)))
    (cases_eq number e.0)
  where
    apart : (q : ℕ) (txn : TxnValue) → value_at es q ≡ Some txn → number ≡ e.0 → q ≢ number
    apart q txn at here = λ (back : q ≡ number). let both : None ≡ Some txn = sym (absent_later e es q sorted (omega (arith, back, here))) ∙ at in cc

module _ (txns : Entries) (by_root : BTreeSet (ℕ × ℕ)) (due : List ℕ) (due_below next : ℕ) (is : IsIndexed txns by_root due due_below next) where
  abbrev is_marked : ℕ → Bool
  is_marked number = is_due_in due_below due number

  abbrev seen : List Arrival
  seen = arrivals_of txns is_marked

  -- a transaction is in the index
  pub indexed : (number : ℕ) (txn : TxnValue) → value_at txns number ≡ Some txn → (root : ℕ) → has_entry by_root root number ≡ (txn.root == root)
  indexed number txn at root = is.by_root root number ∙ ap (λ read. option_map_or (λ (t : TxnValue). t.root == root) read false) at

  indexed_some : (root number : ℕ) (read : Option TxnValue) → value_at txns number ≡ read → has_entry by_root root number ≡ true → (txn : TxnValue) × (value_at txns number ≡ Some txn) × (txn.root ≡ root)
  indexed_some root number None at stands = absurd (true≢false (sym stands ∙ is.by_root root number ∙ ap (λ read. option_map_or (λ (t : TxnValue). t.root == root) read false) at))
  indexed_some root number (Some txn) at stands = (txn, at, eqb-true txn.root root (sym (indexed number txn at root) ∙ stands))

  -- what is in the index is a transaction
  pub stands_for : (root number : ℕ) → has_entry by_root root number ≡ true → (txn : TxnValue) × (value_at txns number ≡ Some txn) × (txn.root ≡ root)
  stands_for root number stands = indexed_some root number (value_at txns number) refl stands

  -- the first that waits for a root key has the least number that the index has with it
  pub first_arrival : (root : ℕ) (found : Option ℕ) → FirstOf by_root root found → found ≡ option_map (λ a. a.number) (find (is_on root) seen)
  first_arrival root None none =
      let fails : find (λ e. (e.1).root == root) txns ≡ None =
      find_none (λ (e : ℕ × TxnValue). (e.1).root == root) txns is.ordered (λ q txn at. sym (indexed q txn at root) ∙ none q) in
      sym (ap (option_map (λ (a : Arrival). a.number)) (find-map (arrival_of is_marked) (is_on root) txns ∙ ap (option_map (arrival_of is_marked)) fails))
  first_arrival root (Some number) first =
      let known = stands_for root number first.stands in
      let found : find (λ e. (e.1).root == root) txns ≡ Some (number, known.0) =
      find_least (λ (e : ℕ × TxnValue). (e.1).root == root) txns number known.0 is.ordered known.1 (eq-eqb (known.0).root root known.2)
      (λ q txn at on. first.least q (indexed q txn at root ∙ on)) in
      sym (ap (option_map (λ (a : Arrival). a.number)) (find-map (arrival_of is_marked) (is_on root) txns ∙ ap (option_map (arrival_of is_marked)) found))

  module _ (from : ℕ) where
    abbrev due_from : ℕ × TxnValue → Bool
    due_from e = nat_le from e.0 && is_marked e.0

    -- none from a number on is due
    none_marked : ((q : ℕ) (txn : TxnValue) → value_at txns q ≡ Some txn → from ≤ q → is_marked q ≡ false) → find (is_due_from from) seen ≡ None
    none_marked none =
        find-map (arrival_of is_marked) (is_due_from from) txns
        ∙ ap (option_map (arrival_of is_marked)) (find_none due_from txns is.ordered (λ q txn at. false_from_ne_true (due_from (q, txn)) (λ passes.
        let parts = and_parts (nat_le from q) (is_marked q) passes in
        true≢false (sym parts.1 ∙ none q txn at (leb-true from q parts.0)))))

    -- the least due number from a number on is the number of the first
    first_marked : (number : ℕ) (txn : TxnValue) → from ≤ number → is_marked number ≡ true → ((q : ℕ) (other : TxnValue) → value_at txns q ≡ Some other → from ≤ q → is_marked q ≡ true → number ≤ q)
        → value_at txns number ≡ Some txn → find (is_due_from from) seen ≡ Some (arrival_of is_marked (number, txn))
    first_marked number txn upto here least at =
        find-map (arrival_of is_marked) (is_due_from from) txns
        ∙ ap (option_map (arrival_of is_marked)) (find_least due_from txns number txn is.ordered at (and_from (nat_le from number) (is_marked number) (le-leb from number upto) here) (λ q other found passes.
        let parts = and_parts (nat_le from q) (is_marked q) passes in
        least q other found (leb-true from q parts.0) parts.1))

    pub none_waits : ((q : ℕ) → from ≤ q → value_at txns q ≡ None) → find (is_due_from from) seen ≡ None
    none_waits none = none_marked (λ q txn at upto. let both : None ≡ Some txn = sym (none q upto) ∙ at in absurd (cc))

    -- the first that waits is below the bound
    pub first_below : (number : ℕ) (txn : TxnValue) → from ≤ number → number < due_below → ((q : ℕ) → from ≤ q → IsSome (value_at txns q) → number ≤ q)
        → value_at txns number ≡ Some txn → find (is_due_from from) seen ≡ Some (arrival_of is_marked (number, txn))
    first_below number txn upto below least at =
        first_marked number txn upto (ap (λ b. b || is_among due number) (lt-ltb number due_below below)) (λ q other found past passes. least q past (ap is_some found)) at

    -- none that waits is below the bound
    module _ (past : (q : ℕ) → from ≤ q → IsSome (value_at txns q) → due_below ≤ q) where
      only_due : (q : ℕ) (txn : TxnValue) → value_at txns q ≡ Some txn → from ≤ q → is_marked q ≡ is_among due q
      only_due q txn at upto = ap (λ b. b || is_among due q) (le-ltb q due_below (past q upto (ap is_some at)))

      pub none_due : ((q : ℕ) → from ≤ q → is_among due q ≡ false) → find (is_due_from from) seen ≡ None
      none_due none = none_marked (λ q txn at upto. only_due q txn at upto ∙ none q upto)

      pub first_due : (number : ℕ) (txn : TxnValue) → from ≤ number → is_among due number ≡ true → ((q : ℕ) → from ≤ q → is_among due q ≡ true → number ≤ q)
          → value_at txns number ≡ Some txn → find (is_due_from from) seen ≡ Some (arrival_of is_marked (number, txn))
      first_due number txn upto here least at =
          first_marked number txn upto (only_due number txn at upto ∙ here) (λ q other found past passes. least q past (sym (only_due q other found past) ∙ passes)) at

  -- all that wait are due
  pub all_indexed : IsIndexed txns by_root [] next next
  all_indexed =
      record {
        ordered = is.ordered;
        left = is.left;
        bound = omega arith;
        below = is.below;
        by_root = is.by_root;
        due = λ number here. absurd (true≢false (sym here));
      }

  pub all_due : record { arrivals = arrivals_of txns (is_due_in next []); next = next } ≡ with_due (λ a. true) (record { arrivals = seen; next = next })
  all_due =
      ap (λ arrivals. record { arrivals = arrivals; next = next })
      (more_due txns is_marked (is_due_in next []) (λ a. true) is.ordered
      (λ q txn at. ap (λ b. b || is_among [] q) (lt-ltb q next (is.below q (ap is_some at))) ∙ sym (or_true (is_marked q))))
    where
      or_true : (b : Bool) → (b || true) ≡ true
      or_true true = refl
      or_true false = refl

  -- all of some root keys are due
  module _ (lo hi : ℕ) (now : List ℕ) (adds : AddsBetween by_root lo hi due now) where
    pub adds_indexed : IsIndexed txns by_root now due_below next
    adds_indexed = record {
      ordered = is.ordered;
      left = is.left;
      bound = is.bound;
      below = is.below;
      by_root = is.by_root;
      due = λ number here.
          ⊎_elim (λ (old : is_among due number ≡ true). is.due number old)
          (λ (between : IsNumberedBetween by_root lo hi number). ap is_some (stands_for between.root number between.stands).1)
          (adds.only number here);
    }

    -- the bound stays, and so does what it makes due
    marks_more : (number : ℕ) (passes : Bool) → is_among now number ≡ (is_among due number || passes) → is_due_in due_below now number ≡ (is_marked number || passes)
    marks_more number passes more = by_bound (nat_lt number due_below)
      where
        by_bound : (b : Bool) → (b || is_among now number) ≡ ((b || is_among due number) || passes)
        by_bound true = refl
        by_bound false = more

    -- what is new is of these root keys
    new_between : (number : ℕ) (txn : TxnValue) → value_at txns number ≡ Some txn → is_among due number ≡ false → is_among now number ≡ true → is_between lo hi txn.root ≡ true
    new_between number txn at new here =
        ⊎_elim (λ (old : is_among due number ≡ true). absurd (true≢false (sym old ∙ new)))
        (λ (inside : IsNumberedBetween by_root lo hi number).
        let own : txn.root ≡ inside.root = eqb-true txn.root inside.root (sym (indexed number txn at inside.root) ∙ inside.stands) in
        ap (is_between lo hi) own ∙ inside.between)
        (adds.only number here)

    between_due : HasAllBetween by_root lo hi now → (number : ℕ) (txn : TxnValue) → value_at txns number ≡ Some txn → is_among now number ≡ (is_among due number || is_between lo hi txn.root)
    between_due all number txn at =
        ⊎_elim
        (λ (old : is_among due number ≡ true). adds.kept number old ∙ sym (ap (λ b. b || is_between lo hi txn.root) old))
        (λ (new : is_among due number ≡ false).
        ⊎_elim
        (λ (between : is_between lo hi txn.root ≡ true).
        all txn.root number (indexed number txn at txn.root ∙ eq-eqb txn.root txn.root refl) between ∙ sym ((λ k. new k || between k)))
        (λ (outside : is_between lo hi txn.root ≡ false).
        false_from_ne_true (is_among now number) (λ here. true≢false (sym (new_between number txn at new here) ∙ outside))
        ∙ sym ((λ k. new k || outside k)))
        (cases_Bool (is_between lo hi txn.root)))
        (cases_Bool (is_among due number))

    pub adds_all : HasAllBetween by_root lo hi now → record { arrivals = arrivals_of txns (is_due_in due_below now); next = next } ≡ with_due (λ a. is_between lo hi a.txn.root) (record { arrivals = seen; next = next })
    adds_all all = ap (λ arrivals. record { arrivals = arrivals; next = next }) (more_due txns is_marked (is_due_in due_below now) (λ a. is_between lo hi (a.txn).root) is.ordered (λ q txn at. marks_more q (is_between lo hi txn.root) (between_due all q txn at)))

  -- numbers that are the same make no more due
  pub due_alike : (now : List ℕ) → ((number : ℕ) → is_among now number ≡ is_among due number) → ◌≡◌ {A = WaitingValue} (record { arrivals = arrivals_of txns (is_due_in due_below now); next = next }) (record { arrivals = seen; next = next })
  due_alike now same =
      ap (λ arrivals. record { arrivals = arrivals; next = next })
      (same_due txns is_marked (is_due_in due_below now) is.ordered (λ q txn at. ap (λ b. nat_lt q due_below || b) (same q)))

  -- one number has this transaction, or none, in the index and among the due ones, and the others stay
  record IsPut (number root : ℕ) (value : Option TxnValue) (stands is_due : Bool) (others : Entries) (indexes : BTreeSet (ℕ × ℕ)) (now : List ℕ) : Type 0 where
    txns_are : (q : ℕ) → value_at others q ≡ cond (is_at (nat_cmp number) q) value (value_at txns q)
    sets : SetsEntry root number stands is_due by_root due indexes now

  module _ {number root : ℕ} {value : Option TxnValue} {stands is_due : Bool} {others : Entries} {indexes : BTreeSet (ℕ × ℕ)} {now : List ℕ}
      (put : IsPut number root value stands is_due others indexes now) where
    value_here : (q : ℕ) → number ≡ q → value_at others q ≡ value
    value_here q same = put.txns_are q ∙ ap (λ b. cond b value (value_at txns q)) (at_same number q same)

    value_other : (q : ℕ) → number ≢ q → value_at others q ≡ value_at txns q
    value_other q apart = put.txns_are q ∙ ap (λ b. cond b value (value_at txns q)) (at_other number q apart)

    due_here : (q : ℕ) → number ≡ q → is_among now q ≡ is_due
    due_here q same = put.sets.due q ∙ ap (λ b. cond b is_due (is_among due q)) (eq-eqb number q same)

    due_other : (q : ℕ) → number ≢ q → is_among now q ≡ is_among due q
    due_other q apart = put.sets.due q ∙ ap (λ b. cond b is_due (is_among due q)) (ne_eqb number q apart)

    put_indexed : ((r : ℕ) → cond (root == r) stands (has_entry by_root r number) ≡ option_map_or (λ t. t.root == r) value false) → (r q : ℕ) → has_entry indexes r q ≡ option_map_or (λ t. t.root == r) (value_at others q) false
    put_indexed here r q =
        ⊎_elim
        (λ (same : number ≡ q).
        put.sets.entries r q ∙ ap (λ b. cond ((root == r) && b) stands (has_entry by_root r q)) (eq-eqb number q same)
        ∙ at_number (root == r) stands (has_entry by_root r q)
        ∙ ap (λ n. cond (root == r) stands (has_entry by_root r n)) (sym same)
        ∙ here r
        ∙ sym (ap (λ read. option_map_or (λ (t : TxnValue). t.root == r) read false) (value_here q same)))
        (λ (apart : number ≢ q).
        put.sets.entries r q ∙ ap (λ b. cond ((root == r) && b) stands (has_entry by_root r q)) (ne_eqb number q apart)
        ∙ elsewhere (root == r) stands (has_entry by_root r q)
        ∙ is.by_root r q ∙ sym (ap (λ read. option_map_or (λ (t : TxnValue). t.root == r) read false) (value_other q apart)))
        (cases_eq number q)
      where
        at_number : (b c d : Bool) → cond (b && true) c d ≡ cond b c d
        at_number true c d = refl
        at_number false c d = refl

        elsewhere : (b c d : Bool) → cond (b && false) c d ≡ d
        elsewhere true c d = refl
        elsewhere false c d = refl

  -- the next number has no transaction
  none_next : value_at txns next ≡ None
  none_next = by_case (value_at txns next) refl
    where
      by_case : (read : Option TxnValue) → value_at txns next ≡ read → value_at txns next ≡ None
      by_case None is_read = is_read
      by_case (Some txn) is_read = absurd (omega (arith, is.below next (ap is_some is_read)))

  -- one more waits
  module _ (txn : TxnValue) (is_due : Bool) (more : Entries) (indexes : BTreeSet (ℕ × ℕ)) (now : List ℕ)
      (txns_are : (q : ℕ) → value_at more q ≡ cond (is_at (nat_cmp next) q) (Some txn) (value_at txns q))
      (sets : SetsEntry txn.root next true is_due by_root due indexes now) where
    abbrev last_put : IsPut next txn.root (Some txn) true is_due more indexes now
    last_put = record { txns_are = txns_are; sets = sets }

    pub index_last : next < no_number → IsStrictlySortedBy nat_cmp (keys_of more) → IsIndexed more indexes now due_below (next + 1)
    index_last left ordered = record {
      ordered = ordered;
      left = omega (arith, left);
      bound = omega (arith, is.bound);
      below = λ q there.
          ⊎_elim (λ (same : next ≡ q). omega (arith, same)) (λ (apart : next ≢ q). omega (arith, is.below q (sym (ap is_some (value_other last_put q apart)) ∙ there))) (cases_eq next q);
      by_root = put_indexed last_put (λ r. ap (λ b. cond (txn.root == r) true b) (is.by_root r next ∙ ap (λ read. option_map_or (λ (t : TxnValue). t.root == r) read false) none_next) ∙ itself (txn.root == r));
      due = λ q here.
          ⊎_elim (λ (same : next ≡ q). ap is_some (value_here last_put q same))
          (λ (apart : next ≢ q). ap is_some (value_other last_put q apart) ∙ is.due q (sym (due_other last_put q apart) ∙ here)) (cases_eq next q);
    }
      where
        itself : (b : Bool) → cond b true false ≡ b
        itself true = refl
        itself false = refl

    pub arrivals_last : more ≡ txns ++ (next, txn) ∷ []
        → record { arrivals = arrivals_of more (is_due_in due_below now); next = next + 1 } ≡ with_last (record { arrivals = seen; next = next }) txn is_due
    arrivals_last entries =
        let here : is_due_in due_below now next ≡ is_due = ap (λ b. b || is_among now next) (le-ltb next due_below is.bound) ∙ due_here last_put next refl in
        let kept : arrivals_of txns (is_due_in due_below now) ≡ seen =
        same_due txns is_marked (is_due_in due_below now) is.ordered
        (λ q other at. ap (λ b. nat_lt q due_below || b) (due_other last_put q (λ same. absurd (omega (arith, same, is.below q (ap is_some at)))))) in
        ap (λ arrivals. record { arrivals = arrivals; next = next + 1 })
        (ap (λ es. arrivals_of es (is_due_in due_below now)) entries ∙ map-append (arrival_of (is_due_in due_below now)) txns ((next, txn) ∷ [])
        ∙ (λ k. kept k ++ record { number = next; txn = txn; is_due = here k } ∷ []))

  -- one is taken out
  module _ (number : ℕ) (txn : TxnValue) (found : value_at txns number ≡ Some txn) (left : Entries) (indexes : BTreeSet (ℕ × ℕ)) (now : List ℕ)
      (txns_are : (q : ℕ) → value_at left q ≡ cond (is_at (nat_cmp number) q) None (value_at txns q))
      (strikes : SetsEntry txn.root number false false by_root due indexes now) where
    abbrev gone_put : IsPut number txn.root None false false left indexes now
    gone_put = record { txns_are = txns_are; sets = strikes }

    gone_indexed : (root : ℕ) → cond (txn.root == root) false (has_entry by_root root number) ≡ false
    gone_indexed root = ap (λ b. cond (txn.root == root) false b) (indexed number txn found root) ∙ nothing (txn.root == root)
      where
        nothing : (b : Bool) → cond b false b ≡ false
        nothing true = refl
        nothing false = refl

    pub index_gone : IsStrictlySortedBy nat_cmp (keys_of left) → IsIndexed left indexes now due_below next
    index_gone ordered = record {
      ordered = ordered;
      left = is.left;
      bound = is.bound;
      below = λ q there.
          ⊎_elim (λ (same : number ≡ q). absurd (true≢false (sym there ∙ ap is_some (value_here gone_put q same)))) (λ (apart : number ≢ q). is.below q (sym (ap is_some (value_other gone_put q apart)) ∙ there)) (cases_eq number q);
      by_root = put_indexed gone_put gone_indexed;
      due = λ q here.
          ⊎_elim (λ (same : number ≡ q). absurd (true≢false (sym here ∙ due_here gone_put q same)))
          (λ (apart : number ≢ q). ap is_some (value_other gone_put q apart) ∙ is.due q (sym (due_other gone_put q apart) ∙ here)) (cases_eq number q);
    }

    pub arrivals_gone : left ≡ remove_entry (is_at (nat_cmp number)) txns → ◌≡◌ {A = WaitingValue} (record { arrivals = arrivals_of left (is_due_in due_below now); next = next }) (record { arrivals = without number seen; next = next })
    arrivals_gone es =
        ap (λ arrivals. record { arrivals = arrivals; next = next })
        (ap (λ es. arrivals_of es (is_due_in due_below now)) es
        ∙ without_key txns is_marked (is_due_in due_below now) number is.ordered (λ q apart. ap (λ b. nat_lt q due_below || b) (due_other gone_put q (λ back. apart (sym back)))))
