-- The receipts that nodes wrote, and those that arrived, over an epoch and between two.
use Rattle.std.proofs.Common.{◌≡◌, inl, inr, ℕ, zero, suc, ◌<◌, ◌≤◌, ◌==◌, if◌then◌else◌, Bool, true, false, List, [], ◌∷◌, ◌++◌, length, get_or, refl, sym, ap, ◌∙◌, subst, append_assoc, append-nil, eq-eqb, ne_eqb, ltb-true, ltb-false, arith}
use Rattle.std.specs.Prelude.{nat_lt}
use Rattle.std.specs.List.{flat_map}
use Rattle.std.specs.List.Sorted.{IsPermutation}
use Rattle.std.proofs.lemmas.Bool.{cases_Bool, and_parts}
use Rattle.std.proofs.lemmas.List.Folds.{list_all-append}
use Rattle.std.proofs.lemmas.Option.{slice_get-get_or}
use Rattle.std.proofs.lemmas.List.Sorted.{IsPermutation-refl, IsPermutation-sym, IsPermutation-trans, IsPermutation-cons, IsPermutation-append_left, IsPermutation-append_right, IsPermutation-append_comm, IsPermutation-middle}
use Rattle.sq_store.specs.StoreValue.{StoreValue}
use Rattle.sq_moves.specs.OpeningValue.{OpeningValue}
use Rattle.sq_node_model.specs.NodeValue.{ReceiptValue}
use Rattle.sq_node_model.specs.Gathered.{GatheredValue}
use Rattle.sq_node.specs.FabricValue.{FabricValue}
use Rattle.sq_node.specs.NodeState.{NodeState}
use Rattle.sq_node.specs.Opened.{AreNewNodes, IsOpened, IsReopened, opened_stores}
use Rattle.sq_gather.specs.Gathered.{InPartOrder, IsGathered}
use Rattle.sq_gather.proofs.ByPart.{same_in_order}
use Rattle.sq_engine.specs.declared.event.Event.{Event}
use Rattle.sq_engine.specs.declared.event.Event.TheVariants.{Posts, Refuses, Answers, Drops, Loses, Rests, Ends, MovesTo}
use Rattle.sq_engine.specs.Events.{arrivals_in, arrived_from, is_arrived, are_whole}
use Rattle.sq_engine.specs.Values.{RunValue, receipts_of}
use Rattle.sq_engine.specs.Serving.{Arrives, AllArrive, OnlyDriven}
use Rattle.sq_engine.specs.Engine.{AreReceipts}
use Rattle.sq_engine.proofs.Passing.{arrivals_on}

-- the receipts that nodes wrote, one node after another
abbrev pub written_by : List NodeState → List ReceiptValue
written_by nodes = flat_map (λ (node : NodeState). node.receipts) nodes

-- the lists of as many places as there are elements, one after another
abbrev by_place : {A : Type 0} → (ℕ → List ReceiptValue) → List A → List ReceiptValue
by_place more [] = []
by_place more (x ∷ xs) = more zero ++ by_place (λ i. more (suc i)) xs

module _ {A : Type 0} where
  no_place : (xs : List A) → by_place (λ i. []) xs ≡ []
  no_place [] = refl
  no_place (x ∷ xs) = no_place xs

  same_places : (h g : ℕ → List ReceiptValue) (xs : List A) → ((i : ℕ) → h i ≡ g i) → by_place h xs ≡ by_place g xs
  same_places h g [] same = refl
  same_places h g (x ∷ xs) same =
      ap (λ (list : List ReceiptValue). list ++ by_place (λ i. h (suc i)) xs) (same zero)
      ∙ ap (λ (list : List ReceiptValue). g zero ++ list) (same_places (λ i. h (suc i)) (λ i. g (suc i)) xs (λ i. same (suc i)))

  -- if the list of one place has one more receipt, all together have it
  one_more : (h g : ℕ → List ReceiptValue) (r : ReceiptValue) (p : ℕ) (xs : List A) → p < length xs
      → h p ≡ r ∷ g p → ((i : ℕ) → (i ≡ p → ⊥) → h i ≡ g i) → IsPermutation (r ∷ by_place g xs) (by_place h xs)
  one_more h g r p [] lt here others = absurd (omega (arith, lt))
  one_more h g r zero (x ∷ xs) lt here others =
      let rest = same_places (λ i. h (suc i)) (λ i. g (suc i)) xs (λ i. others (suc i) (λ e. omega (arith, e))) in
      let all : by_place h (x ∷ xs) ≡ r ∷ by_place g (x ∷ xs) =
      ap (λ (list : List ReceiptValue). list ++ by_place (λ i. h (suc i)) xs) here
      ∙ ap (λ (list : List ReceiptValue). r ∷ (g zero ++ list)) rest in
      subst (IsPermutation (r ∷ by_place g (x ∷ xs))) (sym all) (IsPermutation-refl (r ∷ by_place g (x ∷ xs)))
  one_more h g r (suc p) (x ∷ xs) lt here others =
      let some = by_place (λ i. g (suc i)) xs in
      let more = by_place (λ i. h (suc i)) xs in
      let rest : IsPermutation (r ∷ some) more =
      one_more (λ i. h (suc i)) (λ i. g (suc i)) r p xs (omega (arith, lt)) here (λ i apart. others (suc i) (λ e. apart (omega (arith, e)))) in
      let first : h zero ≡ g zero = others zero (λ e. omega (arith, e)) in
      let front = IsPermutation-sym (g zero ++ r ∷ some) (r ∷ (g zero ++ some)) (IsPermutation-middle (g zero) r some) in
      let behind = IsPermutation-append_right (g zero) (r ∷ some) more rest in
      subst (λ (list : List ReceiptValue). IsPermutation (r ∷ (g zero ++ some)) (list ++ more)) (sym first)
      (IsPermutation-trans (r ∷ (g zero ++ some)) (g zero ++ r ∷ some) (g zero ++ more) front behind)

not_nil : (r : ReceiptValue) (list : List ReceiptValue) → r ∷ list ≡ [] → ⊥
not_nil r list none = cc

rest_nil : (b : Bool) (r : ReceiptValue) (list : List ReceiptValue) → (if b then r ∷ [] else []) ++ list ≡ [] → list ≡ []
rest_nil true r list none = absurd (not_nil r list none)
rest_nil false r list none = none

-- one receipt more of a partition, before those that arrived later
arrival_on : {A : Type 0} (part : ℕ) (r : ReceiptValue) (later : List ReceiptValue) (was : ℕ → List ReceiptValue) (xs : List A)
    → ((i : ℕ) → length xs ≤ i → (if part == i then r ∷ [] else []) ++ was i ≡ [])
    → IsPermutation later (by_place was xs)
    → IsPermutation (r ∷ later) (by_place (λ i. (if part == i then r ∷ [] else []) ++ was i) xs)
arrival_on part r later was xs none rest =
    let now : ℕ → List ReceiptValue = λ i. (if part == i then r ∷ [] else []) ++ was i in
    let here : now part ≡ r ∷ was part =
    ap (λ (b : Bool). (if b then r ∷ [] else []) ++ was part) (eq-eqb part part refl) in
    let others : (i : ℕ) → (i ≡ part → ⊥) → now i ≡ was i = λ i apart.
    ap (λ (b : Bool). (if b then r ∷ [] else []) ++ was i) (ne_eqb part i (λ e. apart (sym e))) in
    let within : part < length xs = elim (cases_Bool (nat_lt part (length xs))) [
      | inl low ↦ ltb-true part (length xs) low
      | inr high ↦ absurd (not_nil r (was part) (sym here ∙ none part (ltb-false part (length xs) high)))
    ] in
    IsPermutation-trans (r ∷ later) (r ∷ by_place was xs) (by_place now xs)
    (IsPermutation-cons r later (by_place was xs) rest) (one_more now was r part xs within here others)

-- the receipts that arrived are those of each partition, in another order
arrived_by_place : {A : Type 0} (events : List Event) (xs : List A) → ((part : ℕ) → length xs ≤ part → arrived_from part events ≡ [])
    → IsPermutation (arrivals_in events) (by_place (λ part. arrived_from part events) xs)
arrived_by_place [] xs none = subst (IsPermutation []) (sym (no_place xs)) (IsPermutation-refl [])
arrived_by_place (Answers part r ∷ events) xs none =
    arrival_on part r (arrivals_in events) (λ i. arrived_from i events) xs none
    (arrived_by_place events xs (λ i past. rest_nil (part == i) r (arrived_from i events) (none i past)))
arrived_by_place (Drops part r ∷ events) xs none =
    arrival_on part r (arrivals_in events) (λ i. arrived_from i events) xs none
    (arrived_by_place events xs (λ i past. rest_nil (part == i) r (arrived_from i events) (none i past)))
arrived_by_place (Posts job ∷ events) xs none = arrived_by_place events xs none
arrived_by_place (Refuses job fault ∷ events) xs none = arrived_by_place events xs none
arrived_by_place (Loses ∷ events) xs none = arrived_by_place events xs none
arrived_by_place (Rests ∷ events) xs none = arrived_by_place events xs none
arrived_by_place (Ends ∷ events) xs none = arrived_by_place events xs none
arrived_by_place (MovesTo plan ∷ events) xs none = arrived_by_place events xs none

-- the first two of three lists in the other order
first_two : (a b c : List ReceiptValue) → IsPermutation (a ++ (b ++ c)) (b ++ (a ++ c))
first_two a b c =
    subst (λ (p : List ReceiptValue × List ReceiptValue). IsPermutation p.0 p.1)
    (λ i. (append_assoc a b c i, append_assoc b a c i))
    (IsPermutation-append_left c (a ++ b) (b ++ a) (IsPermutation-append_comm a b))

-- one node more: what it wrote before, what arrived of it, and what was lost of it, come before those of the others
node_on : (was front missing those arrived lost all : List ReceiptValue) → IsPermutation (those ++ (arrived ++ lost)) all
    → IsPermutation ((was ++ those) ++ ((front ++ arrived) ++ (missing ++ lost))) ((was ++ front ++ missing) ++ all)
node_on was front missing those arrived lost all rest =
    let apart : (was ++ those) ++ ((front ++ arrived) ++ (missing ++ lost)) ≡ was ++ (those ++ (front ++ (arrived ++ (missing ++ lost)))) =
    append_assoc was those ((front ++ arrived) ++ (missing ++ lost))
    ∙ ap (λ (list : List ReceiptValue). was ++ (those ++ list)) (append_assoc front arrived (missing ++ lost)) in
    let joined : (was ++ front ++ missing) ++ all ≡ was ++ (front ++ (missing ++ all)) =
    append_assoc (was ++ front) missing all ∙ append_assoc was front (missing ++ all) in
    let one : IsPermutation (those ++ (front ++ (arrived ++ (missing ++ lost)))) (those ++ (front ++ (missing ++ (arrived ++ lost)))) =
    IsPermutation-append_right those (front ++ (arrived ++ (missing ++ lost))) (front ++ (missing ++ (arrived ++ lost)))
    (IsPermutation-append_right front (arrived ++ (missing ++ lost)) (missing ++ (arrived ++ lost)) (first_two arrived missing lost)) in
    let two : IsPermutation (those ++ (front ++ (missing ++ (arrived ++ lost)))) (front ++ (those ++ (missing ++ (arrived ++ lost)))) =
    first_two those front (missing ++ (arrived ++ lost)) in
    let three : IsPermutation (those ++ (missing ++ (arrived ++ lost))) (missing ++ all) =
    IsPermutation-trans (those ++ (missing ++ (arrived ++ lost))) (missing ++ (those ++ (arrived ++ lost))) (missing ++ all)
    (first_two those missing (arrived ++ lost)) (IsPermutation-append_right missing (those ++ (arrived ++ lost)) all rest) in
    let four : IsPermutation (those ++ (front ++ (arrived ++ (missing ++ lost)))) (front ++ (missing ++ all)) =
    IsPermutation-trans (those ++ (front ++ (arrived ++ (missing ++ lost)))) (those ++ (front ++ (missing ++ (arrived ++ lost)))) (front ++ (missing ++ all))
    one
    (IsPermutation-trans (those ++ (front ++ (missing ++ (arrived ++ lost)))) (front ++ (those ++ (missing ++ (arrived ++ lost)))) (front ++ (missing ++ all))
    two (IsPermutation-append_right front (those ++ (missing ++ (arrived ++ lost))) (missing ++ all) three)) in
    subst (λ (p : List ReceiptValue × List ReceiptValue). IsPermutation p.0 p.1) (λ i. (sym apart i, sym joined i))
    (IsPermutation-append_right was (those ++ (front ++ (arrived ++ (missing ++ lost)))) (front ++ (missing ++ all)) four)

-- what nodes wrote is what they had written, what arrived of each, and some that were lost, if any were
record AreWritten (old new : List NodeState) (arrived : ℕ → List ReceiptValue) (none_lost : Bool) : Type 0 where
  pub lost : List ReceiptValue
  pub all : IsPermutation (written_by old ++ (by_place arrived old ++ lost)) (written_by new)
  pub none : none_lost ≡ true → lost ≡ []

all_written : (old new : List NodeState) (arrived : ℕ → List ReceiptValue) (none_lost : Bool) → length new ≡ length old
    → ((i : ℕ) (d : NodeState) → i < length old
    → (missing : List ReceiptValue) × Arrives (arrived i) missing (get_or old i d) (get_or new i d) × (none_lost ≡ true → missing ≡ []))
    → AreWritten old new arrived none_lost
all_written [] [] arrived none_lost count each = record { lost = []; all = IsPermutation-refl []; none = λ is. refl }
all_written [] (n ∷ new) arrived none_lost count each = absurd (omega (arith, count))
all_written (o ∷ old) [] arrived none_lost count each = absurd (omega (arith, count))
all_written (o ∷ old) (n ∷ new) arrived none_lost count each =
    let rest = all_written old new (λ i. arrived (suc i)) none_lost (omega (arith, count)) (λ i d lt. each (suc i) d (omega (arith, lt))) in
    let first = each zero o (omega arith) in
    let front = arrived zero in
    let missing = first.0 in
    record {
      lost = missing ++ rest.lost;
      all = subst (λ (list : List ReceiptValue). IsPermutation ((o.receipts ++ written_by old) ++ ((front ++ by_place (λ i. arrived (suc i)) old) ++ (missing ++ rest.lost)))
          (list ++ written_by new)) (sym first.1.written)
          (node_on o.receipts front missing (written_by old) (by_place (λ i. arrived (suc i)) old) rest.lost (written_by new) rest.all);
      none = λ is.
          ap (λ (list : List ReceiptValue). list ++ rest.lost) (first.2 is) ∙ rest.none is;
    }

whole_parts : (one more : List Event) → are_whole (one ++ more) ≡ true → (are_whole one ≡ true) × (are_whole more ≡ true)
whole_parts one more whole = and_parts (are_whole one) (are_whole more) (sym (list_all-append is_arrived one more) ∙ whole)

-- over an epoch, what arrived and what was lost grows by what the nodes wrote
pub epoch_receipts : (events more : List Event) (old new : RunValue) → OnlyDriven old new → AllArrive more old.nodes new.nodes
    → AreReceipts events (receipts_of old) → AreReceipts (events ++ more) (receipts_of new)
epoch_receipts events more old new driven arrive were =
    let arrived : ℕ → List ReceiptValue = λ part. arrived_from part more in
    let nodes = all_written old.nodes new.nodes arrived (are_whole more) driven.nodes.count arrive.each in
    let places = arrived_by_place more old.nodes arrive.no_other in
    let before = arrivals_in events in
    let later = arrivals_in more in
    let front = old.fabric.receipts in
    let those = written_by old.nodes in
    let placed = by_place arrived old.nodes in
    let one : IsPermutation (before ++ (later ++ (were.lost ++ nodes.lost))) (before ++ (were.lost ++ (later ++ nodes.lost))) =
    IsPermutation-append_right before (later ++ (were.lost ++ nodes.lost)) (were.lost ++ (later ++ nodes.lost)) (first_two later were.lost nodes.lost) in
    let two : IsPermutation ((before ++ were.lost) ++ (later ++ nodes.lost)) ((front ++ those) ++ (later ++ nodes.lost)) =
    IsPermutation-append_left (later ++ nodes.lost) (before ++ were.lost) (front ++ those) were.all in
    let three : IsPermutation (those ++ (later ++ nodes.lost)) (written_by new.nodes) =
    IsPermutation-trans (those ++ (later ++ nodes.lost)) (those ++ (placed ++ nodes.lost)) (written_by new.nodes)
    (IsPermutation-append_right those (later ++ nodes.lost) (placed ++ nodes.lost) (IsPermutation-append_left nodes.lost later placed places)) nodes.all in
    let four : IsPermutation (front ++ (those ++ (later ++ nodes.lost))) (front ++ written_by new.nodes) =
    IsPermutation-append_right front (those ++ (later ++ nodes.lost)) (written_by new.nodes) three in
    let two_four : IsPermutation (before ++ (were.lost ++ (later ++ nodes.lost))) (front ++ written_by new.nodes) =
    IsPermutation-trans (before ++ (were.lost ++ (later ++ nodes.lost))) (front ++ (those ++ (later ++ nodes.lost))) (front ++ written_by new.nodes)
    (subst (λ (p : List ReceiptValue × List ReceiptValue). IsPermutation p.0 p.1)
    (λ i. (append_assoc before were.lost (later ++ nodes.lost) i, append_assoc front those (later ++ nodes.lost) i)) two) four in
    let all : IsPermutation (before ++ (later ++ (were.lost ++ nodes.lost))) (front ++ written_by new.nodes) =
    IsPermutation-trans (before ++ (later ++ (were.lost ++ nodes.lost))) (before ++ (were.lost ++ (later ++ nodes.lost))) (front ++ written_by new.nodes) one two_four in
    let joined : arrivals_in (events ++ more) ++ (were.lost ++ nodes.lost) ≡ before ++ (later ++ (were.lost ++ nodes.lost)) =
    ap (λ (list : List ReceiptValue). list ++ (were.lost ++ nodes.lost)) (arrivals_on events more)
    ∙ append_assoc before later (were.lost ++ nodes.lost) in
    let shared : receipts_of new ≡ front ++ written_by new.nodes =
    ap (λ (fabric : FabricValue). fabric.receipts ++ written_by new.nodes) driven.fabric in
    record {
      lost = were.lost ++ nodes.lost;
      all = subst (λ (p : List ReceiptValue × List ReceiptValue). IsPermutation p.0 p.1) (λ i. (sym joined i, sym shared i)) all;
      none_lost = λ whole.
          let parts = whole_parts events more whole in
          ap (λ (list : List ReceiptValue). list ++ nodes.lost) (were.none_lost parts.0) ∙ nodes.none parts.1;
    }

-- events after which no other receipts have arrived, and none was lost
pub same_receipts : (events more : List Event) (receipts : List ReceiptValue) → arrivals_in more ≡ []
    → AreReceipts events receipts → AreReceipts (events ++ more) receipts
same_receipts events more receipts none were = record {
  lost = were.lost;
  all = subst (λ (list : List ReceiptValue). IsPermutation (list ++ were.lost) receipts)
      (sym (arrivals_on events more ∙ ap (λ (list : List ReceiptValue). arrivals_in events ++ list) none ∙ append-nil (arrivals_in events))) were.all;
  none_lost = λ whole. were.none_lost (whole_parts events more whole).0;
}

-- nodes to which nothing has happened wrote nothing
none_written : (nodes : List NodeState) → ((i : ℕ) (d : NodeState) → i < length nodes → (get_or nodes i d).receipts ≡ []) → written_by nodes ≡ []
none_written [] none = refl
none_written (node ∷ nodes) none =
    ap (λ (list : List ReceiptValue). list ++ written_by nodes) (none zero node (omega arith))
    ∙ none_written nodes (λ i d lt. none (suc i) d (omega (arith, lt)))

new_wrote_nothing : (o : OpeningValue) (fabric : FabricValue) (stores : List StoreValue) (nodes : List NodeState)
    → AreNewNodes o fabric stores nodes → written_by nodes ≡ []
new_wrote_nothing o fabric stores nodes are =
    none_written nodes (λ i d lt. (are.each i (get_or nodes i d) (slice_get-get_or nodes i d lt)).receipts)

-- so the first stage begins without receipts
pub opened_without : (o : OpeningValue) (count : ℕ) (run : RunValue)
    → IsOpened o count run.fabric run.nodes run.pumps → receipts_of run ≡ []
opened_without o count run opened =
    ap (λ (list : List ReceiptValue). run.fabric.receipts ++ list) (new_wrote_nothing o run.fabric (opened_stores o) run.nodes opened.each_node)
    ∙ append-nil run.fabric.receipts ∙ sym opened.begun.receipts

-- and another stage with the receipts so far
pub reopened_keeps : (o : OpeningValue) (stage : ℕ) (stores : List StoreValue) (told : List ReceiptValue) (count : ℕ) (run : RunValue)
    → IsReopened o stage stores told count run.fabric run.nodes run.pumps → receipts_of run ≡ told
reopened_keeps o stage stores told count run opened =
    ap (λ (list : List ReceiptValue). run.fabric.receipts ++ list) (new_wrote_nothing o run.fabric stores run.nodes opened.each_node)
    ∙ append-nil run.fabric.receipts ∙ opened.receipts

-- what is gathered has the receipts of its run
pub gathered_keeps : (run : RunValue) (g : GatheredValue) → IsGathered run.fabric run.nodes run.pumps g → InPartOrder run.nodes
    → g.receipts ≡ receipts_of run
gathered_keeps run g gathered order =
    gathered.receipts
    ∙ ap (λ (nodes : List NodeState). run.fabric.receipts ++ written_by nodes) (same_in_order run.nodes gathered.by_part gathered.ordered order)
