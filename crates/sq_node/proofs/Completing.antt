-- The nodes of trees that are to be completed, once one of them was, or none.
use Rattle.std.proofs.Common.{◌≡◌, ℕ, ◌<◌, Bool, true, false, List, [], length, refl, sym, ap, ◌∙◌, subst, inl, inr, ⊎_elim, arith}
use Rattle.std.specs.Prelude.{◌⊎◌, ◌≢◌, ◌==◌, Contains, remove, slice_get}
use Rattle.std.proofs.lemmas.Bool.Decides.{eqb_tells}
use Rattle.std.proofs.lemmas.Option.{same_Some}
use Rattle.sq_model.proofs.Lists.{Contains-slice_get, slice_get-Contains}
use Rattle.sq_shared.specs.Seat.{SeatValue}
use Rattle.sq_exec.specs.Runs.{is_whole}
use Rattle.sq_exec.specs.CoreValue.{CoreValue, loaded_at}
use Rattle.sq_node_model.proofs.Members.{set_new, removed_stood, removed_kept}
use Rattle.sq_node.specs.Settled.{HasSettled, IsNode}
use Rattle.sq_node.specs.NodeState.{NodeState}
use Rattle.sq_node.specs.Steps.{Completes}
use Rattle.sq_node.specs.Looks.{SeatsLooked, HasNoneToComplete, LooksAndCompletes, CompletesOne, CompletesNone}
use Rattle.sq_node.proofs.Known.{AllKnowNoLess, knows_completed, known_at, known_looked, known_then, settled_seats, seen_seats}
use Rattle.sq_node.proofs.Looked.{settled_none, completes_settles}

pub after_none : (core : CoreValue) (old new : List SeatValue) (nodes left : List (ℕ × ℕ)) (complete : List Bool) → CompletesNone old nodes new left → IsNode core old nodes complete → IsNode core new left complete
after_none core old new nodes left complete none is =
    record {
      flags = is.flags;
      seen = seen_seats old new complete (known_looked old new none.looked) is.seen;
      exists = λ seg n there. is.exists seg n (subst (λ (xs : List (ℕ × ℕ)). Contains xs (seg, n)) none.rest there);
      whole = λ seg n there. is.whole seg n (subst (λ (xs : List (ℕ × ℕ)). Contains xs (seg, n)) none.rest there);
      each = λ seg n whole. ⊎_elim (λ (there : Contains nodes (seg, n)). inl (subst (λ (xs : List (ℕ × ℕ)). Contains xs (seg, n)) (sym none.rest) there))
          (λ (settled : HasSettled old seg n). inr (settled_seats old new (known_looked old new none.looked) seg n settled)) (is.each seg n whole);
    }

-- no node with its last chunk loaded is to be completed
pub none_of_all : (core : CoreValue) (old new : List SeatValue) (nodes left : List (ℕ × ℕ)) (complete : List Bool) → CompletesNone old nodes new left → IsNode core old nodes complete
    → (seg n : ℕ) → is_whole (loaded_at core seg) n ≡ true → HasNoneToComplete old new seg n
none_of_all core old new nodes left complete none is seg n whole =
    ⊎_elim (λ (there : Contains nodes (seg, n)). none.none there.0 seg n (slice_get-Contains nodes (seg, n) there)) (λ (settled : HasSettled old seg n). settled_none old new none.looked seg n settled) (is.each seg n whole)

-- where none is to be completed each of that kind is settled
pub all_settled : (core : CoreValue) (seats : List SeatValue) (nodes : List (ℕ × ℕ)) (complete : List Bool) → nodes ≡ [] → IsNode core seats nodes complete
    → (seg n : ℕ) → is_whole (loaded_at core seg) n ≡ true → HasSettled seats seg n
all_settled core seats nodes complete none is seg n whole =
    ⊎_elim
    (λ (there : Contains nodes (seg, n)). let among : Contains [] (seg, n) = subst (λ (xs : List (ℕ × ℕ)). Contains xs (seg, n)) none there in absurd (omega (arith, among.1)))
    (λ (settled : HasSettled seats seg n). settled) (is.each seg n whole)

module _ (core : CoreValue) (old new : List SeatValue) (nodes left : List (ℕ × ℕ)) (at : ℕ) (complete : List Bool) (one : CompletesOne old nodes at new left) (is : IsNode core old nodes complete) where
  -- what is left was there
  was_there : (seg n : ℕ) → Contains left (seg, n) → Contains nodes (seg, n)
  was_there seg n there =
      let among : Contains (remove nodes one.place) (seg, n) = subst (λ (xs : List (ℕ × ℕ)). Contains xs (seg, n)) one.rest there in
      let stood = removed_stood nodes one.place among.0 (seg, n) (slice_get-Contains (remove nodes one.place) (seg, n) among) in
      Contains-slice_get nodes stood.place (seg, n) stood.there

  known : AllKnowNoLess old new
  known = known_then old one.between new (known_looked old one.between one.looked)
      (known_at at (λ v w. LooksAndCompletes v one.node w) one.between new (λ v w told. knows_completed v w one.node told) one.completed)

  -- the node that was completed is settled
  now_settled : HasSettled new at one.node
  now_settled =
      let step = one.completed in (
        step.after,
        ap (λ (seats : List SeatValue). slice_get seats at) step.others ∙ set_new one.between at step.after step.before step.there,
        completes_settles step.before.view step.after.view one.node step.told,
      )

  left_or_settled : (seg n : ℕ) → Contains nodes (seg, n) → Contains left (seg, n) ⊎ HasSettled new seg n
  left_or_settled seg n there =
      let stands = slice_get-Contains nodes (seg, n) there in
      ⊎_elim
      (λ (same : ((there.0 == one.place) ≡ true) × (there.0 ≡ one.place)).
      let pair : (at, one.node) ≡ (seg, n) = same_Some (at, one.node) (seg, n) (sym one.there ∙ ap (slice_get nodes) (sym same.1) ∙ stands) in
      inr (subst (λ (p : ℕ × ℕ). HasSettled new p.0 p.1) pair now_settled))
      (λ (apart : ((there.0 == one.place) ≡ false) × (there.0 ≢ one.place)).
      inl (subst (λ (xs : List (ℕ × ℕ)). Contains xs (seg, n)) (sym one.rest) (removed_kept nodes one.place there.0 (seg, n) stands apart.1)))
      (eqb_tells there.0 one.place)

  pub after_one : IsNode core new left complete
  after_one =
      record {
        flags = is.flags;
        seen = seen_seats old new complete known is.seen;
        exists = λ seg n there. is.exists seg n (was_there seg n there);
        whole = λ seg n there. is.whole seg n (was_there seg n there);
        each = λ seg n whole. ⊎_elim (λ (there : Contains nodes (seg, n)). left_or_settled seg n there) (λ (settled : HasSettled old seg n). inr (settled_seats old new known seg n settled)) (is.each seg n whole);
      }

  stood : Contains nodes (at, one.node)
  stood = Contains-slice_get nodes one.place (at, one.node) one.there

  pub one_exists : at < length core.recon.segments
  one_exists = is.exists at one.node stood

  one_is_whole : is_whole (loaded_at core at) one.node ≡ true
  one_is_whole = is.whole at one.node stood

  -- the node was completed, between looks
  pub completed_between : (last : List SeatValue) → SeatsLooked new last → (node then : NodeState) → node.core ≡ core → node.seats ≡ old → then ≡ record node { seats = last } → Completes node then
  completed_between last looked node then core_is seats_are after =
      subst (Completes node) (sym after)
      (record {
        seg = at;
        node = one.node;
        whole = ap (λ (c : CoreValue). is_whole (loaded_at c at) one.node) core_is ∙ one_is_whole;
        between = one.between;
        looked = subst (λ seats. SeatsLooked seats one.between) (sym seats_are) one.looked;
        then = new;
        completed = one.completed;
        looked_after = looked;
        after = refl;
      })
