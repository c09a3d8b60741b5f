-- Slots, of which some are empty, and the transactions in them.
use Rattle.std.proofs.Common.{⊎_elim, ◌≡◌, ◌≢◌, ℕ, ◌+◌, ◌<◌, ◌≤◌, Bool, true, false, List, [], ◌∷◌, ◌++◌, length, get_or, set, drop, zero, suc, refl, sym, ap, subst, ◌∙◌, arith}
use Rattle.std.specs.Prelude.{cond, ◌==◌, nat_le, find, slice_get, is_some, IsSome, Option, Some, None}
use Rattle.std.specs.Ordering.{nat_cmp}
use Rattle.std.specs.List.{position_or_len, filter, AllByRecursion}
use Rattle.std.specs.List.Sorted.{IsStrictlySortedBy}
use Rattle.std.specs.Map.{keys_of, remove_entry}
use Rattle.std.specs.BTreeMap.{is_at}
use Rattle.std.specs.declared.cmp.Ordering.TheVariants.{Less}
use Rattle.std.proofs.lemmas.Bool.{cases_Bool, cases_order, eq-eqb, ne_eqb, le-leb, lt-leb, true≢false}
use Rattle.std.proofs.lemmas.List.{map-append, drop_more, drop_all}
use Rattle.std.proofs.lemmas.List.Folds.{find_at}
use Rattle.std.proofs.lemmas.Option.{slice_get_read, slice_get_past}
use Rattle.std.proofs.lemmas.Map.Keys.{sorted_head, sorted_tail}
use Rattle.sq_schema.specs.TxnValue.{TxnValue}
use Rattle.sq_exec.specs.Slots.{value_at, slot_entry, slot_entries, numbers_in, AreRising}
use Rattle.sq_exec.specs.declared.slots.Slot.{Slot}
use Rattle.sq_exec.proofs.Entries.{cmp_less, less_from_less, at_same, at_other, at_head, at_tail, absent, sorted_cons}
use Rattle.sq_exec.proofs.Places.{rises_by, before_place, from_place}

-- what all numbers have, those of the transactions have
keys_all : (P : ℕ → Type 0) (slots : List Slot) → AllByRecursion P (numbers_in slots) → AllByRecursion P (keys_of (slot_entries slots))
keys_all P [] all = tt
keys_all P (slot ∷ slots) all =
    elim slot.txn as (λ read. AllByRecursion P (keys_of (slot_entry slot.number read ++ slot_entries slots))) [
      | None ↦ keys_all P slots all.1
      | Some txn ↦ (all.0, keys_all P slots all.1)
    ]

-- what comes after a slot is above it
above : (slot : Slot) (slots : List Slot) → IsStrictlySortedBy nat_cmp (numbers_in (slot ∷ slots)) → AllByRecursion (λ n. nat_cmp slot.number n ≡ Less) (keys_of (slot_entries slots))
above slot slots sorted = keys_all (λ n. nat_cmp slot.number n ≡ Less) slots (sorted_head nat_cmp slot.number (numbers_in slots) sorted)

-- the transaction of a slot, if that has the number
abbrev pub under : ℕ → Option Slot → Option TxnValue
under number None = None
under number (Some slot) = cond (slot.number == number) slot.txn None

-- a number's transaction is in the first slot that isn't below it, or nowhere
pub value_under : (number : ℕ) (slots : List Slot) → IsStrictlySortedBy nat_cmp (numbers_in slots) → value_at (slot_entries slots) number ≡ under number (find (λ slot. nat_le number slot.number) slots)
value_under number [] sorted = refl
value_under number (slot ∷ slots) sorted =
    ⊎_elim
    (λ (same : number ≡ slot.number).
    here same slot.txn
    ∙ sym (ap (λ b. under number (cond b (Some slot) (find (λ s. nat_le number s.number) slots))) (le-leb number slot.number (omega (arith, same)))
    ∙ ap (λ b. cond b slot.txn None) (eq-eqb slot.number number (sym same))))
    (⊎_elim
    (λ (below : number < slot.number).
    nowhere below slot.txn
    ∙ sym (ap (λ b. under number (cond b (Some slot) (find (λ s. nat_le number s.number) slots))) (le-leb number slot.number (omega (arith, below)))
    ∙ ap (λ b. cond b slot.txn None) (ne_eqb slot.number number (λ same. absurd (omega (arith, same, below))))))
    (λ (above : slot.number < number).
    later above slot.txn
    ∙ value_under number slots (sorted_tail nat_cmp slot.number (numbers_in slots) sorted)
    ∙ sym (ap (λ b. under number (cond b (Some slot) (find (λ s. nat_le number s.number) slots))) (lt-leb number slot.number above))))
    (cases_order number slot.number)
  where
    gone : number ≤ slot.number → value_at (slot_entries slots) number ≡ None
    gone upto = absent (slot_entries slots) number slot.number (above slot slots sorted) upto

    here : number ≡ slot.number → (txn : Option TxnValue) → value_at (slot_entry slot.number txn ++ slot_entries slots) number ≡ txn
    here same None = gone (omega (arith, same))
    here same (Some txn) = at_head (slot.number, txn) (slot_entries slots) number same

    nowhere : number < slot.number → (txn : Option TxnValue) → value_at (slot_entry slot.number txn ++ slot_entries slots) number ≡ None
    nowhere below None = gone (omega (arith, below))
    nowhere below (Some txn) = at_tail (slot.number, txn) (slot_entries slots) number (λ same. absurd (omega (arith, same, below))) ∙ gone (omega (arith, below))

    later : slot.number < number → (txn : Option TxnValue) → value_at (slot_entry slot.number txn ++ slot_entries slots) number ≡ value_at (slot_entries slots) number
    later above None = refl
    later above (Some txn) = at_tail (slot.number, txn) (slot_entries slots) number (λ same. absurd (omega (arith, same, above)))

module _ (number : ℕ) (slots : List Slot) (at : ℕ) (sorted : IsStrictlySortedBy nat_cmp (numbers_in slots)) (is : at ≡ position_or_len (λ slot. nat_le number slot.number) slots) where
  value_place : value_at (slot_entries slots) number ≡ under number (slice_get slots at)
  value_place = value_under number slots sorted ∙ ap (under number) (find_at (λ slot. nat_le number slot.number) slots ∙ sym (ap (slice_get slots) is))

  pub value_past : length slots ≤ at → value_at (slot_entries slots) number ≡ None
  value_past past = value_place ∙ ap (under number) (slice_get_past slots at past)

  module _ (slot : Slot) (inside : at < length slots) (read : slot ≡ get_or slots at slot) where
    pub slot_at : slice_get slots at ≡ Some slot
    slot_at = slice_get_read slots (length slots) at slot refl inside read

    pub value_other : slot.number ≢ number → value_at (slot_entries slots) number ≡ None
    value_other apart = value_place ∙ ap (under number) slot_at ∙ ap (λ b. cond b slot.txn None) (ne_eqb slot.number number apart)

    pub value_here : slot.number ≡ number → value_at (slot_entries slots) number ≡ slot.txn
    value_here same = value_place ∙ ap (under number) slot_at ∙ ap (λ b. cond b slot.txn None) (eq-eqb slot.number number same)

pub removed_none : (es : List (ℕ × TxnValue)) (number : ℕ) → value_at es number ≡ None → remove_entry (is_at (nat_cmp number)) es ≡ es
removed_none [] number off = refl
removed_none (e ∷ es) number off =
    ⊎_elim
    (λ (here : is_at (nat_cmp number) e.0 ≡ true). let both : Some e.1 ≡ None = sym (ap (λ b. cond b (Some e.1) (value_at es number)) here) ∙ off in absurd (cc))
    (λ (apart : is_at (nat_cmp number) e.0 ≡ false).
    ap (λ b. cond b es (e ∷ remove_entry (is_at (nat_cmp number)) es)) apart
    ∙ ap (λ rest. e ∷ rest) (removed_none es number (sym (ap (λ b. cond b (Some e.1) (value_at es number)) apart) ∙ off)))
    (cases_Bool (is_at (nat_cmp number) e.0))

-- without one that was there there is one less
pub removed_length : (es : List (ℕ × TxnValue)) (number : ℕ) → IsSome (value_at es number) → length (remove_entry (is_at (nat_cmp number)) es) + 1 ≡ length es
removed_length [] number there = absurd (true≢false (sym there))
removed_length (e ∷ es) number there =
    elim (is_at (nat_cmp number) e.0) as (λ b. is_some (cond b (Some e.1) (value_at es number)) ≡ true → length (cond b es (e ∷ remove_entry (is_at (nat_cmp number)) es)) + 1 ≡ suc (length es)) [
      | true ↦ λ _. omega arith
      | false ↦ λ later. omega (arith, removed_length es number later)
    ] there

later_slot : (k : ℕ) (slots : List Slot) (at : ℕ) (slot : Slot) → AllByRecursion (λ n. nat_cmp k n ≡ Less) (numbers_in slots) → slice_get slots at ≡ Some slot → k < slot.number
later_slot k [] at slot above is = cc
later_slot k (s ∷ slots) zero slot above is = let same : s ≡ slot = cc in subst (λ (x : Slot). k < x.number) same (less_from_less k s.number above.0)
later_slot k (s ∷ slots) (suc at) slot above is = later_slot k slots at slot above.1 is

-- a slot whose transaction is taken out
module _ (number : ℕ) (slot : Slot) (own : slot.number ≡ number) where
  abbrev pub emptied : Slot
  emptied = record slot { txn = None }

  pub entries_emptied : (slots : List Slot) (at : ℕ) → IsStrictlySortedBy nat_cmp (numbers_in slots) → slice_get slots at ≡ Some slot → slot_entries (set slots at emptied) ≡ remove_entry (is_at (nat_cmp number)) (slot_entries slots)
  entries_emptied [] at sorted is = cc
  entries_emptied (s ∷ slots) zero sorted is = sym (gone s.txn)
    where
      here : number ≡ s.number
      here = let same : s ≡ slot = cc in sym own ∙ ap (λ (x : Slot). x.number) (sym same)

      gone : (txn : Option TxnValue) → remove_entry (is_at (nat_cmp number)) (slot_entry s.number txn ++ slot_entries slots) ≡ slot_entries slots
      gone None = removed_none (slot_entries slots) number (absent (slot_entries slots) number s.number (above s slots sorted) (omega (arith, here)))
      gone (Some txn) = ap (λ b. cond b (slot_entries slots) ((s.number, txn) ∷ remove_entry (is_at (nat_cmp number)) (slot_entries slots))) (at_same number s.number here)
  entries_emptied (s ∷ slots) (suc at) sorted is =
      let apart : number ≢ s.number = λ same. absurd (omega (arith, same, own, later_slot s.number slots at slot (sorted_head nat_cmp s.number (numbers_in slots) sorted) is)) in
      let rest : slot_entries (set slots at emptied) ≡ remove_entry (is_at (nat_cmp number)) (slot_entries slots) = entries_emptied slots at (sorted_tail nat_cmp s.number (numbers_in slots) sorted) is in
      elim s.txn as (λ read. slot_entry s.number read ++ slot_entries (set slots at emptied) ≡ remove_entry (is_at (nat_cmp number)) (slot_entry s.number read ++ slot_entries slots)) [
        | None ↦ rest
        | Some txn ↦ ap (λ es. (s.number, txn) ∷ es) rest ∙ sym (ap (λ b. cond b (slot_entries slots) ((s.number, txn) ∷ remove_entry (is_at (nat_cmp number)) (slot_entries slots))) (at_other number s.number apart))
      ]

  pub numbers_emptied : (slots : List Slot) (at : ℕ) → slice_get slots at ≡ Some slot → numbers_in (set slots at emptied) ≡ numbers_in slots
  numbers_emptied [] at is = cc
  numbers_emptied (s ∷ slots) zero is = let same : s ≡ slot = cc in ap (λ (x : Slot). x.number ∷ numbers_in slots) (sym same)
  numbers_emptied (s ∷ slots) (suc at) is = ap (λ ns. s.number ∷ ns) (numbers_emptied slots at is)

-- one slot more
entry_alone : (number : ℕ) (txn : Option TxnValue) → slot_entry number txn ++ [] ≡ slot_entry number txn
entry_alone number None = refl
entry_alone number (Some txn) = refl

pub entries_push : (slots : List Slot) (slot : Slot) → slot_entries (slots ++ slot ∷ []) ≡ slot_entries slots ++ slot_entry slot.number slot.txn
entries_push [] slot = entry_alone slot.number slot.txn
entries_push (s ∷ slots) slot =
    elim s.txn as (λ read. slot_entry s.number read ++ slot_entries (slots ++ slot ∷ []) ≡ (slot_entry s.number read ++ slot_entries slots) ++ slot_entry slot.number slot.txn) [
      | None ↦ entries_push slots slot
      | Some txn ↦ ap (λ es. (s.number, txn) ∷ es) (entries_push slots slot)
    ]

all_push : (P : ℕ → Type 0) (ns : List ℕ) (n : ℕ) → AllByRecursion P ns → P n → AllByRecursion P (ns ++ n ∷ [])
all_push P [] n all last = (last, tt)
all_push P (m ∷ ns) n all last = (all.0, all_push P ns n all.1 last)

sorted_push : (ns : List ℕ) (n : ℕ) → IsStrictlySortedBy nat_cmp ns → AllByRecursion (λ m. m < n) ns → IsStrictlySortedBy nat_cmp (ns ++ n ∷ [])
sorted_push [] n sorted below = sorted_cons n [] tt sorted
sorted_push (m ∷ ns) n sorted below = sorted_cons m (ns ++ n ∷ []) (all_push (λ k. nat_cmp m k ≡ Less) ns n (sorted_head nat_cmp m ns sorted) (cmp_less m n below.0)) (sorted_push ns n (sorted_tail nat_cmp m ns sorted) below.1)

all_more : (ns : List ℕ) (next : ℕ) → AllByRecursion (λ m. m < next) ns → AllByRecursion (λ m. m < next + 1) ns
all_more [] next below = tt
all_more (m ∷ ns) next below = (omega (arith, below.0), all_more ns next below.1)

pub rising_push : (slots : List Slot) (slot : Slot) (next : ℕ) → slot.number ≡ next → AreRising next slots → AreRising (next + 1) (slots ++ slot ∷ [])
rising_push slots slot next own are =
    let numbers : numbers_in (slots ++ slot ∷ []) ≡ numbers_in slots ++ next ∷ [] = map-append (λ (s : Slot). s.number) slots (slot ∷ []) ∙ ap (λ n. numbers_in slots ++ n ∷ []) own in
    record {
      rise = subst (IsStrictlySortedBy nat_cmp) (sym numbers) (sorted_push (numbers_in slots) next are.rise are.below);
      below = subst (AllByRecursion (λ m. m < next + 1)) (sym numbers) (all_push (λ m. m < next + 1) (numbers_in slots) next (all_more (numbers_in slots) next are.below) (omega arith));
    }

-- empty slots are dropped
pub front_dropped : (slots : List Slot) (slot : Slot) → 0 < length slots → slot ≡ get_or slots 0 slot → is_some slot.txn ≡ false → slot_entries (drop 1 slots) ≡ slot_entries slots
front_dropped [] slot some is empty = absurd (omega (arith, some))
front_dropped (s ∷ slots) slot some is empty = sym (nothing s.txn (ap (λ (x : Slot). is_some x.txn) (sym is) ∙ empty))
  where
    nothing : (txn : Option TxnValue) → is_some txn ≡ false → slot_entry s.number txn ++ slot_entries slots ≡ slot_entries slots
    nothing None empty = refl
    nothing (Some txn) full = absurd (true≢false full)

pub rising_dropped : (slots : List Slot) (next : ℕ) → AreRising next slots → AreRising next (drop 1 slots)
rising_dropped [] next are = are
rising_dropped (s ∷ slots) next are = record { rise = sorted_tail nat_cmp s.number (numbers_in slots) are.rise; below = are.below.1 }

abbrev pub is_filled : Slot → Bool
is_filled slot = is_some slot.txn

pub entries_filled : (slots : List Slot) → slot_entries (filter is_filled slots) ≡ slot_entries slots
entries_filled [] = refl
entries_filled (s ∷ slots) =
    ⊎_elim
    (λ (full : is_filled s ≡ true). ap (λ b. slot_entries (cond b (s ∷ filter is_filled slots) (filter is_filled slots))) full ∙ ap (λ es. slot_entry s.number s.txn ++ es) (entries_filled slots))
    (λ (empty : is_filled s ≡ false). ap (λ b. slot_entries (cond b (s ∷ filter is_filled slots) (filter is_filled slots))) empty ∙ entries_filled slots ∙ sym (nothing s.txn empty))
    (cases_Bool (is_filled s))
  where
    nothing : (txn : Option TxnValue) → is_some txn ≡ false → slot_entry s.number txn ++ slot_entries slots ≡ slot_entries slots
    nothing None empty = refl
    nothing (Some txn) full = absurd (true≢false full)

module _ (p : Slot → Bool) where
  all_filter : (P : ℕ → Type 0) (slots : List Slot) → AllByRecursion P (numbers_in slots) → AllByRecursion P (numbers_in (filter p slots))
  all_filter P [] all = tt
  all_filter P (s ∷ slots) all = elim (p s) as (λ b. AllByRecursion P (numbers_in (cond b (s ∷ filter p slots) (filter p slots)))) [ true ↦ (all.0, all_filter P slots all.1) | false ↦ all_filter P slots all.1 ]

  sorted_filter : (slots : List Slot) → IsStrictlySortedBy nat_cmp (numbers_in slots) → IsStrictlySortedBy nat_cmp (numbers_in (filter p slots))
  sorted_filter [] sorted = sorted
  sorted_filter (s ∷ slots) sorted =
      let rest = sorted_filter slots (sorted_tail nat_cmp s.number (numbers_in slots) sorted) in
      elim (p s) as (λ b. IsStrictlySortedBy nat_cmp (numbers_in (cond b (s ∷ filter p slots) (filter p slots)))) [
        | true ↦ sorted_cons s.number (numbers_in (filter p slots)) (all_filter (λ n. nat_cmp s.number n ≡ Less) slots (sorted_head nat_cmp s.number (numbers_in slots) sorted)) rest
        | false ↦ rest
      ]

  pub rising_filter : (slots : List Slot) (next : ℕ) → AreRising next slots → AreRising next (filter p slots)
  rising_filter slots next are = record { rise = sorted_filter slots are.rise; below = all_filter (λ n. n < next) slots are.below }

-- transactions are in no more than the slots
pub filled_within : (slots : List Slot) → length (slot_entries slots) ≤ length slots
filled_within [] = omega arith
filled_within (s ∷ slots) =
    let rest = filled_within slots in
    elim s.txn as (λ read. length (slot_entry s.number read ++ slot_entries slots) ≤ suc (length slots)) [
      | None ↦ omega (arith, rest)
      | Some txn ↦ omega (arith, rest)
    ]

-- the first transaction from a number on
module _ (from : ℕ) where
  abbrev pub reaches : ℕ × TxnValue → Bool
  reaches entry = nat_le from entry.0

  skipped : (slots : List Slot) (i : ℕ) → ((k : ℕ) (d : Slot) → k < i → k < length slots → (get_or slots k d).number < from) → find reaches (slot_entries slots) ≡ find reaches (slot_entries (drop i slots))
  skipped slots zero low = refl
  skipped [] (suc i) low = refl
  skipped (s ∷ slots) (suc i) low = past s.txn ∙ skipped slots i (λ k d below inside. low (suc k) d (omega (arith, below)) (omega (arith, inside)))
    where
      past : (txn : Option TxnValue) → find reaches (slot_entry s.number txn ++ slot_entries slots) ≡ find reaches (slot_entries slots)
      past None = refl
      past (Some txn) = ap (λ b. cond b (Some (s.number, txn)) (find reaches (slot_entries slots))) (lt-leb from s.number (low 0 s (omega arith) (omega arith)))

  module _ (slots : List Slot) (at : ℕ) (slot : Slot) (inside : at < length slots) (is : slot ≡ get_or slots at slot) where
    split : drop at slots ≡ slot ∷ drop (at + 1) slots
    split = drop_more slots at slot inside ∙ ap (λ s. s ∷ drop (at + 1) slots) (sym is)

    -- an empty slot is passed over
    pub passed : slot.txn ≡ None → find reaches (slot_entries (drop at slots)) ≡ find reaches (slot_entries (drop (at + 1) slots))
    passed empty = ap (λ ss. find reaches (slot_entries ss)) split ∙ ap (λ txn. find reaches (slot_entry slot.number txn ++ slot_entries (drop (at + 1) slots))) empty

    pub found : (txn : TxnValue) → slot.txn ≡ Some txn → from ≤ slot.number → find reaches (slot_entries (drop at slots)) ≡ Some (slot.number, txn)
    found txn full upto =
        ap (λ ss. find reaches (slot_entries ss)) split ∙ ap (λ t. find reaches (slot_entry slot.number t ++ slot_entries (drop (at + 1) slots))) full
        ∙ ap (λ b. cond b (Some (slot.number, txn)) (find reaches (slot_entries (drop (at + 1) slots)))) (le-leb from slot.number upto)

  -- a transaction from the place of the number on isn't below it
  pub from_here : (slots : List Slot) (at : ℕ) (slot : Slot) → IsStrictlySortedBy nat_cmp (numbers_in slots) → position_or_len (λ s. nat_le from s.number) slots ≤ at → at < length slots → slot ≡ get_or slots at slot → from ≤ slot.number
  from_here slots at slot sorted past inside is =
      let place : ℕ = position_or_len (λ s. nat_le from s.number) slots in
      let first : from ≤ (get_or slots place slot).number = from_place (λ s. s.number) from slots slot (omega (arith, past, inside)) in
      let later : (get_or slots place slot).number ≤ (get_or slots at slot).number = rises_by (λ s. s.number) slots sorted place at slot past inside in
      let own : slot.number ≡ (get_or slots at slot).number = ap (λ (s : Slot). s.number) is in
      omega (arith, first, later, own)

  -- the slots before the place of the number have none from it on
  pub skipped_to : (slots : List Slot) → find reaches (slot_entries slots) ≡ find reaches (slot_entries (drop (position_or_len (λ s. nat_le from s.number) slots) slots))
  skipped_to slots = skipped slots (position_or_len (λ s. nat_le from s.number) slots) (λ k d below inside. before_place (λ s. s.number) from slots k d below)

  pub none_left : (slots : List Slot) (at : ℕ) → length slots ≤ at → find reaches (slot_entries (drop at slots)) ≡ None
  none_left slots at past = ap (λ ss. find reaches (slot_entries ss)) (drop_all at slots past)

-- slots with the same numbers
pub rising_alike : (slots now : List Slot) (next : ℕ) → numbers_in slots ≡ numbers_in now → AreRising next slots → AreRising next now
rising_alike slots now next same are = record { rise = subst (IsStrictlySortedBy nat_cmp) same are.rise; below = subst (AllByRecursion (λ n. n < next)) same are.below }
