-- Transactions that wait.
use Rattle.std.proofs.Common.{◌≡◌, ℕ, ◌+◌, Bool, true, false, not, ◌||◌, List, [], ◌∷◌, ◌++◌, length, Option, Some, None, inl, inr, refl, sym, ap, ◌∙◌}
use Rattle.std.specs.Prelude.{◌==◌, ◌&&◌, if◌then◌else◌, is_some, slice_get, option_map, option_and_then}
use Rattle.std.specs.List.{list_any, list_all}
use Rattle.std.proofs.lemmas.Bool.Decides.{eqb_tells}
use Rattle.std.proofs.lemmas.List.{map-append, length-map}
use Rattle.std.proofs.lemmas.List.Folds.{list_all-append}
use Rattle.sq_schema.specs.TxnValue.{TxnValue}
use Rattle.sq_moves.specs.declared.recon.Range.{Range}
use Rattle.sq_moves.specs.ReconValue.{leaf_at, segment_of, leaf_of}
use Rattle.sq_exec.specs.Waiting.{Arrival, WaitingValue, txns_of, numbers_of, no_number, numbered_from, with_a_number_left, with_last}
use Rattle.sq_exec.proofs.Arrivals.{txns-numbered_from, all-numbered_from}
use Rattle.sq_exec.specs.declared.location.Location.{Location}
use Rattle.sq_exec.specs.CoreValue.{CoreValue, Numbering, PartCoreValue}
use Rattle.sq_exec.specs.Kept.{is_due_here, IsCore}
use Rattle.sq_exec.specs.Numbering.{counted_from, with_arrival}
use Rattle.sq_exec.specs.Location.{location, location_in, is_coming_here, is_coming_from, waits_for}
use Rattle.sq_exec.specs.Serving.{must_wait}
use Rattle.sq_exec.proofs.Kept.{still_core}

module _ (core : CoreValue) (root : ℕ) where
  in_segment : (i : ℕ) (read : Option Range) → slice_get core.recon.segments i ≡ read
      → is_some {T = ℕ × ℕ} (option_map (λ s. (i, leaf_of core.recon.width s root)) read) ≡ is_some (option_and_then {T = ℕ × ℕ} (λ at. option_map (location_in core root at) (slice_get core.recon.segments at.0)) (option_map (λ s. (i, leaf_of core.recon.width s root)) read))
  in_segment i None read = refl
  in_segment i (Some segment) read = sym (ap (λ r. is_some (option_map (location_in core root (i, leaf_of core.recon.width segment root)) r)) read)

  found_at : (i : Option ℕ)
      → is_some {T = ℕ × ℕ} (option_and_then (λ i. option_map (λ s. (i, leaf_of core.recon.width s root)) (slice_get core.recon.segments i)) i)
      ≡ is_some (option_and_then {T = ℕ × ℕ} (λ at. option_map (location_in core root at) (slice_get core.recon.segments at.0)) (option_and_then (λ i. option_map (λ s. (i, leaf_of core.recon.width s root)) (slice_get core.recon.segments i)) i))
  found_at None = refl
  found_at (Some i) = in_segment i (slice_get core.recon.segments i) refl

  -- a root key has a location where it has a leaf
  pub leaf-location : is_some (leaf_at core.recon root) ≡ is_some (location core root)
  leaf-location = found_at (segment_of core.recon.segments root)

-- what holds of the root keys of all holds of one that is among them
pub passes_here : (p : ℕ → Bool) (txns : List TxnValue) (root : ℕ) → list_all (λ txn. p txn.root) txns ≡ true → list_any (λ txn. txn.root == root) txns ≡ true → p root ≡ true
passes_here p [] root all any = cc
passes_here p (txn ∷ txns) root all any =
    elim (eqb_tells txn.root root) [
      | inl same ↦ sym (ap p same.1) ∙ head (p txn.root) (list_all (λ t. p t.root) txns) all
      | inr other ↦ passes_here p txns root (tail (p txn.root) (list_all (λ t. p t.root) txns) all) (ap (λ b. b || list_any (λ t. t.root == root) txns) (sym other.0) ∙ any)
    ]
  where
    head : (a b : Bool) → (a && b) ≡ true → a ≡ true
    head true b h = refl
    head false b h = h

    tail : (a b : Bool) → (a && b) ≡ true → b ≡ true
    tail true b h = h
    tail false b h = absurd (cc)

-- a root key has a location that a transaction waits for, or that comes
pub waits_located : (core : CoreValue) (root : ℕ) (arrivals : List Arrival) → IsCore core arrivals → must_wait core root ≡ true → location core root ≡ None → ⊥
waits_located core root arrivals is must none = by_cases (waits_for core root) refl
  where
    moved : waits_for core root ≡ true → is_some (location core root) ≡ true
    moved waits = sym (leaf-location core root) ∙ passes_here (λ r. is_some (leaf_at core.recon r)) core.waiting root is.moving waits

    by_cases : (b : Bool) → waits_for core root ≡ b → ⊥
    by_cases true waits = let no : false ≡ true = sym (ap is_some none) ∙ moved waits in cc
    by_cases false waits =
        let no : false ≡ true = sym (ap (is_coming_from core) none) ∙ ap (λ b. b || is_coming_from core (location core root)) (sym waits) ∙ must in
        cc

-- one more waits
module _ (w : WaitingValue) (txn : TxnValue) (is_due : Bool) where
  abbrev pub pushed : WaitingValue
  pushed = with_last (with_a_number_left w) txn is_due

  abbrev pushed_if : Bool → WaitingValue
  pushed_if b = with_last (if b then record { arrivals = numbered_from 0 w.arrivals; next = length w.arrivals } else w) txn is_due

  pub txns_pushed : txns_of pushed.arrivals ≡ txns_of w.arrivals ++ txn ∷ []
  txns_pushed = by_left (w.next == no_number)
    where
      by_left : (b : Bool) → txns_of (pushed_if b).arrivals ≡ txns_of w.arrivals ++ txn ∷ []
      by_left true = map-append (λ (a : Arrival). a.txn) (numbered_from 0 w.arrivals) (record { number = length w.arrivals; txn = txn; is_due = is_due } ∷ []) ∙ ap (λ txns. txns ++ txn ∷ []) (txns-numbered_from 0 w.arrivals)
      by_left false = map-append (λ (a : Arrival). a.txn) w.arrivals (record { number = w.next; txn = txn; is_due = is_due } ∷ [])

  pub due_pushed : (core : CoreValue) → list_all (is_due_here core) w.arrivals ≡ true → (is_due || is_coming_here core txn.root) ≡ true → list_all (is_due_here core) pushed.arrivals ≡ true
  due_pushed core all last = by_left (w.next == no_number)
    where
      by_left : (b : Bool) → list_all (is_due_here core) (pushed_if b).arrivals ≡ true
      by_left true =
          list_all-append (is_due_here core) (numbered_from 0 w.arrivals) (record { number = length w.arrivals; txn = txn; is_due = is_due } ∷ [])
          ∙ (λ k. (all-numbered_from (λ t d. d || is_coming_here core t.root) 0 w.arrivals ∙ all) k && (last k && true))
      by_left false = list_all-append (is_due_here core) w.arrivals (record { number = w.next; txn = txn; is_due = is_due } ∷ []) ∙ (λ k. all k && (last k && true))

  pub numbering_pushed : ◌≡◌ {A = Numbering} (record { numbers = numbers_of pushed.arrivals; next = pushed.next }) (with_arrival (record { numbers = numbers_of w.arrivals; next = w.next }))
  numbering_pushed = by_left (w.next == no_number)
    where
      counted : (n : ℕ) (xs : List Arrival) → numbers_of (numbered_from n xs) ≡ counted_from n (numbers_of xs)
      counted n [] = refl
      counted n (x ∷ xs) = ap (λ ns. n ∷ ns) (counted (n + 1) xs)

      lengths : length w.arrivals ≡ length (numbers_of w.arrivals)
      lengths = sym (length-map w.arrivals (λ (a : Arrival). a.number))

      by_left : (b : Bool)
          → ◌≡◌ {A = Numbering} (record { numbers = numbers_of (pushed_if b).arrivals; next = (pushed_if b).next })
          (if b then record { numbers = counted_from 0 (numbers_of w.arrivals) ++ length (numbers_of w.arrivals) ∷ []; next = length (numbers_of w.arrivals) + 1 } else record { numbers = numbers_of w.arrivals ++ w.next ∷ []; next = w.next + 1 })
      by_left true =
          ap (λ numbers. record { numbers = numbers; next = length w.arrivals + 1 }) (map-append (λ (a : Arrival). a.number) (numbered_from 0 w.arrivals) (record { number = length w.arrivals; txn = txn; is_due = is_due } ∷ []))
          ∙ (λ k. record { numbers = counted 0 w.arrivals k ++ lengths k ∷ []; next = lengths k + 1 })
      by_left false = ap (λ numbers. record { numbers = numbers; next = w.next + 1 }) (map-append (λ (a : Arrival). a.number) w.arrivals (record { number = w.next; txn = txn; is_due = is_due } ∷ []))

-- the partition with one more that waits
pub waits_last : {seen now : PartCoreValue} → seen ≡ now → (waiting : List TxnValue) (txn : TxnValue) → waiting ≡ seen.core.waiting ++ txn ∷ [] → record seen.core { waiting = waiting } ≡ record now.core { waiting = now.core.waiting ++ txn ∷ [] }
waits_last {seen} {now} view_is waiting txn is = ap (λ txns. record seen.core { waiting = txns }) is ∙ ap (λ (v : PartCoreValue). record v.core { waiting = v.core.waiting ++ txn ∷ [] }) view_is

-- a transaction that has to wait has a leaf
pub has_leaf : (core : CoreValue) (root : ℕ) (at : Location) → location core root ≡ Some at → is_some (leaf_at core.recon root) ≡ true
has_leaf core root at moves = leaf-location core root ∙ ap is_some moves

-- it is due unless its rows are on their way here
pub due_or_comes : (b c : Bool) → b ≡ c → (not b || c) ≡ true
due_or_comes true true same = refl
due_or_comes false false same = refl
due_or_comes true false same = sym same
due_or_comes false true same = refl

-- the partition keeps what holds of it when one more waits
pub waits_kept : {seen now : PartCoreValue} → seen ≡ now → (w more : WaitingValue) (txn : TxnValue) (is_due : Bool) (at : Location) → IsCore seen.core w.arrivals → txns_of w.arrivals ≡ seen.core.waiting → more ≡ with_last (with_a_number_left w) txn is_due
    → location now.core txn.root ≡ Some at → (is_due || is_coming_here now.core txn.root) ≡ true → IsCore (record seen.core { waiting = txns_of more.arrivals }) more.arrivals
waits_kept {seen} {now} view_is w more txn is_due at is waiting_is more_is moves due =
    let core = seen.core in
    let leaf : is_some (leaf_at core.recon txn.root) ≡ true = ap (λ (v : PartCoreValue). is_some (leaf_at v.core.recon txn.root)) view_is ∙ has_leaf now.core txn.root at moves in
    let here : (is_due || is_coming_here core txn.root) ≡ true = ap (λ (v : PartCoreValue). is_due || is_coming_here v.core txn.root) view_is ∙ due in
    still_core is core.started core.store (txns_of more.arrivals) more.arrivals
    (ap (λ (v : WaitingValue). list_all (λ t. is_some (leaf_at core.recon t.root)) (txns_of v.arrivals)) more_is ∙ ap (list_all (λ t. is_some (leaf_at core.recon t.root))) (txns_pushed w txn is_due ∙ ap (λ ts. ts ++ txn ∷ []) waiting_is)
    ∙ list_all-append (λ (t : TxnValue). is_some (leaf_at core.recon t.root)) core.waiting (txn ∷ []) ∙ (λ k. is.moving k && (leaf k && true)))
    (ap (λ (v : WaitingValue). list_all (is_due_here core) v.arrivals) more_is ∙ due_pushed w txn is_due core is.due here)
