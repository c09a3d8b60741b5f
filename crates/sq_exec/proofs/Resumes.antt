-- The first waiting transaction that is ready.
use Rattle.std.proofs.Common.{◌≡◌, ℕ, Bool, true, false, not, List, [], ◌∷◌, get_or, zero, suc, Some, None, refl, sym, ap, subst, ◌∙◌}
use Rattle.std.specs.Prelude.{◌==◌, ◌&&◌, map, slice_get, position, remove, option_map, option_and_then, if◌then◌else◌, is_none, IsTrue, IsSome}
use Rattle.std.specs.List.Sorted.{IsStrictlyIncreasing}
use Rattle.std.specs.Option.{option_map_or}
use Rattle.std.specs.List.{list_all}
use Rattle.std.proofs.lemmas.Bool.{eq-eqb}
use Rattle.std.proofs.lemmas.List.Folds.{list_all_at}
use Rattle.std.proofs.lemmas.List.Quantifiers.{position-Some}
use Rattle.sq_schema.specs.TxnValue.{TxnValue}
use Rattle.sq_store.specs.StoreValue.{StoreValue}
use Rattle.sq_exec.specs.Waiting.{Arrival, txns_of, numbers_of, txn_at, without}
use Rattle.sq_exec.proofs.Arrivals.{IsAt, at_number, is_there}
use Rattle.sq_exec.specs.declared.fault.ResumeFault.TheVariants.{NoneReady, LogFull}
use Rattle.sq_exec.specs.declared.outcome.Outcome.{Outcome}
use Rattle.sq_exec.specs.CoreValue.{CoreValue, Numbering, PartCoreValue}
use Rattle.sq_exec.specs.Location.{is_coming_here, route}
use Rattle.sq_exec.specs.Serving.{is_stuck, served, is_ready_here, first_ready_here, resume_refusal, resume_takes_memory, IsResumed}
use Rattle.sq_exec.specs.Kept.{is_due_here}
use Rattle.sq_exec.specs.Numbering.{IsFirstReady, TakesNumber}

and_left : (a b : Bool) → (a && b) ≡ true → a ≡ true
and_left true b h = refl
and_left false b h = h

and_right : (a b : Bool) → (a && b) ≡ true → b ≡ true
and_right true b h = h
and_right false b h = cc

-- what all of a list pass, all others pass where one is taken out
pub list_all-remove : {X : Type 0} (p : X → Bool) (xs : List X) (i : ℕ) → list_all p xs ≡ true → list_all p (remove xs i) ≡ true
list_all-remove p [] zero all = refl
list_all-remove p [] (suc i) all = refl
list_all-remove p (x ∷ xs) zero all = and_right (p x) (list_all p xs) all
list_all-remove p (x ∷ xs) (suc i) all = λ k. and_left (p x) (list_all p xs) all k && list_all-remove p xs i (and_right (p x) (list_all p xs) all) k

module _ (core : CoreValue) (place : ℕ) (first : position (is_ready_here core) core.waiting ≡ Some place) where
  abbrev none : TxnValue
  none = record { id = 0; root = 0; ops = [] }

  -- where one is ready, nothing refuses
  pub nothing_refuses : resume_refusal core ≡ None
  nothing_refuses =
      let ready = position-Some (is_ready_here core) core.waiting place none first in
      let here : TxnValue = get_or core.waiting place none in
      let not_coming : is_coming_here core here.root ≡ false =
      was_false (is_coming_here core here.root) (and_left (not (is_coming_here core here.root)) (not (is_stuck core here.root)) ready.1) in
      let not_all : list_all (λ txn. is_coming_here core txn.root) core.waiting ≡ false = list_all_at (λ txn. is_coming_here core txn.root) core.waiting place none ready.0 not_coming in
      λ k. if not_all k then Some NoneReady else if is_none (first k) then Some LogFull else None
    where
      was_false : (b : Bool) → not b ≡ true → b ≡ false
      was_false true h = sym h
      was_false false h = refl

  -- it takes memory to run it
  pub runs_here : (txn : TxnValue) → slice_get core.waiting place ≡ Some txn → route core txn.root ≡ core.part → IsTrue (resume_takes_memory core)
  runs_here txn there same =
      let chosen : first_ready_here core ≡ Some txn = ap (option_and_then (slice_get core.waiting)) first ∙ there in
      ap (λ t. option_map_or (λ txn. route core txn.root == core.part) t false) chosen ∙ eq-eqb (route core txn.root) core.part same

-- the partition that the first ready transaction goes to
routed : {seen now : PartCoreValue} → seen ≡ now → (place who : ℕ) (txn : TxnValue) → position (is_ready_here now.core) now.core.waiting ≡ Some place → slice_get seen.core.waiting place ≡ Some txn
    → option_map (λ (t : TxnValue). route now.core t.root) (first_ready_here now.core) ≡ Some who → who ≡ route seen.core txn.root
routed {seen} {now} view_is place who txn first there goes =
    let chosen : first_ready_here now.core ≡ Some txn = ap (option_and_then (slice_get now.core.waiting)) first ∙ ap (λ (v : PartCoreValue). slice_get v.core.waiting place) (sym view_is) ∙ there in
    let both : Some (route now.core txn.root) ≡ Some who = sym (ap (option_map (λ (t : TxnValue). route now.core t.root)) chosen) ∙ goes in
    let same : route now.core txn.root ≡ who = cc in
    sym same ∙ ap (λ (v : PartCoreValue). route v.core txn.root) (sym view_is)

map-remove : {X Y : Type 0} (f : X → Y) (xs : List X) (i : ℕ) → map f (remove xs i) ≡ remove (map f xs) i
map-remove f [] zero = refl
map-remove f [] (suc i) = refl
map-remove f (x ∷ xs) zero = refl
map-remove f (x ∷ xs) (suc i) = ap (λ rest. f x ∷ rest) (map-remove f xs i)

-- the transaction of a number is the one at its place
txn_by_place : (arrivals : List Arrival) (place number : ℕ) → IsAt arrivals number place → (txn : TxnValue) → Some txn ≡ txn_at arrivals number → slice_get (txns_of arrivals) place ≡ Some txn
txn_by_place arrivals place number at txn txn_is = get-map arrivals place ∙ sym (txn_is ∙ ap (option_map (λ (a : Arrival). a.txn)) at.found)
  where
    get-map : (xs : List Arrival) (i : ℕ) → slice_get (txns_of xs) i ≡ option_map (λ (a : Arrival). a.txn) (slice_get xs i)
    get-map [] i = refl
    get-map (x ∷ xs) zero = refl
    get-map (x ∷ xs) (suc i) = get-map xs i

module _ {seen now : PartCoreValue} (view_is : seen ≡ now) (number : ℕ) (ready : IsFirstReady now number) (arrivals : List Arrival) (waiting_is : txns_of arrivals ≡ seen.core.waiting) (numbers_are : numbers_of arrivals ≡ seen.numbering.numbers) where
  has_number : slice_get (numbers_of arrivals) ready.place ≡ Some number
  has_number = ap (λ numbers. slice_get numbers ready.place) (numbers_are ∙ ap (λ (v : PartCoreValue). v.numbering.numbers) view_is) ∙ ready.found

  -- the number has a transaction
  pub stands : IsSome (txn_at arrivals number)
  stands = is_there arrivals ready.place number has_number

  module _ (rises : IsStrictlyIncreasing (numbers_of arrivals)) where
    at : IsAt arrivals number ready.place
    at = at_number arrivals ready.place number rises has_number

    -- what passed of all passes of the rest
    pub rest_due : (left : List Arrival) → left ≡ without number arrivals → list_all (is_due_here seen.core) arrivals ≡ true → list_all (is_due_here seen.core) left ≡ true
    rest_due left left_is all = ap (list_all (is_due_here seen.core)) (left_is ∙ at.rest) ∙ list_all-remove (is_due_here seen.core) arrivals ready.place all

    pub rest_moves : (p : TxnValue → Bool) → list_all p (txns_of arrivals) ≡ true → list_all p (txns_of (without number arrivals)) ≡ true
    rest_moves p all = ap (λ xs. list_all p (txns_of xs)) at.rest ∙ ap (list_all p) (map-remove (λ (a : Arrival). a.txn) arrivals ready.place) ∙ list_all-remove p (txns_of arrivals) ready.place all

    -- the parts of the partition are those of the definition
    pub was_resumed : (left : List Arrival) → left ≡ without number arrivals → (read txn : TxnValue) (who : ℕ) (outcome : Outcome) (store : StoreValue)
        → Some read ≡ txn_at arrivals number → Some txn ≡ txn_at arrivals number → option_map (λ (t : TxnValue). route now.core t.root) (first_ready_here now.core) ≡ Some who
        → outcome ≡ (served seen.core.part who seen.core.store read).0 → store ≡ (served seen.core.part who seen.core.store read).1
        → IsResumed now.core (record { txn = txn; outcome = outcome }) (record seen.core { store = store; waiting = txns_of left })
    was_resumed left left_is read txn who outcome store read_is txn_is goes outcome_is store_is =
        let core = seen.core in
        let place = ready.place in
        let first : position (is_ready_here core) core.waiting ≡ Some place = ap (λ (v : PartCoreValue). position (is_ready_here v.core) v.core.waiting) view_is ∙ ready.first in
        let both : Some read ≡ Some txn = read_is ∙ sym txn_is in
        let same : read ≡ txn = cc in
        let there : slice_get core.waiting place ≡ Some txn = ap (λ txns. slice_get txns place) (sym waiting_is) ∙ txn_by_place arrivals place number at txn txn_is in
        let who_of : who ≡ route core txn.root = routed view_is place who txn ready.first there goes in
        let rest : txns_of left ≡ remove core.waiting place =
        ap txns_of (left_is ∙ at.rest) ∙ map-remove (λ (a : Arrival). a.txn) arrivals place ∙ ap (λ txns. remove txns place) waiting_is in
        subst (λ (v : PartCoreValue). IsResumed v.core (record { txn = txn; outcome = outcome }) (record core { store = store; waiting = txns_of left })) view_is (record {
          place = place;
          first = first;
          found = there;
          told = outcome_is ∙ (λ k. (served core.part (who_of k) core.store (same k)).0);
          after = λ k. record core { store = (store_is ∙ (λ j. (served core.part (who_of j) core.store (same j)).1)) k; waiting = rest k };
        })

    -- the number is taken out with it
    pub number_taken : (left : List Arrival) → left ≡ without number arrivals → (new : PartCoreValue) (next : ℕ) → next ≡ seen.numbering.next → ◌≡◌ {A = Numbering} new.numbering (record { numbers = numbers_of left; next = next }) → TakesNumber now new
    number_taken left left_is new next next_is new_is = record {
      place = ready.place;
      first = ready.first;
      rest =
          new_is
          ∙ (λ k. record { numbers = (ap numbers_of (left_is ∙ at.rest) ∙ map-remove (λ (a : Arrival). a.number) arrivals ready.place ∙ ap (λ numbers. remove numbers ready.place) numbers_are) k; next = next_is k })
          ∙ ap (λ (v : PartCoreValue). record { numbers = remove v.numbering.numbers ready.place; next = v.numbering.next }) view_is;
    }

    -- the one that didn't find memory runs here
    pub memory_here : (read : TxnValue) (who here : ℕ) → Some read ≡ txn_at arrivals number → option_map (λ (t : TxnValue). route now.core t.root) (first_ready_here now.core) ≡ Some who
        → here ≡ seen.core.part → who ≡ here → IsTrue (resume_takes_memory now.core)
    memory_here read who here read_is goes here_is same =
        let core = seen.core in
        let first : position (is_ready_here core) core.waiting ≡ Some ready.place = ap (λ (v : PartCoreValue). position (is_ready_here v.core) v.core.waiting) view_is ∙ ready.first in
        let there : slice_get core.waiting ready.place ≡ Some read = ap (λ txns. slice_get txns ready.place) (sym waiting_is) ∙ txn_by_place arrivals ready.place number at read read_is in
        subst (λ (v : PartCoreValue). IsTrue (resume_takes_memory v.core)) view_is
        (runs_here core ready.place first read there (sym (routed view_is ready.place who read ready.first there goes) ∙ same ∙ here_is))
