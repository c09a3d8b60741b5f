-- What seats know stays.
use Rattle.std.proofs.Common.{◌≡◌, ℕ, ◌<◌, Bool, true, false, List, [], ◌∷◌, length, get_or, Some, sym, ap, ◌∙◌, subst, inl, inr, ⊎_elim, arith}
use Rattle.std.specs.Prelude.{◌⊎◌, ◌≢◌, ◌==◌, slice_get, slice_set, Contains}
use Rattle.std.proofs.lemmas.Bool.Decides.{eqb_tells}
use Rattle.std.proofs.lemmas.List.Elements.{Contains-append_right}
use Rattle.std.proofs.lemmas.Option.{same_Some, slice_get_within, slice_get-get_or}
use Rattle.sq_moves.specs.declared.status.Status.{Status}
use Rattle.sq_moves.specs.declared.status.Status.TheVariants.{Split, Partial, Complete}
use Rattle.sq_shared.specs.declared.view.View.{View}
use Rattle.sq_shared.specs.View.{HasSeen}
use Rattle.sq_shared.specs.Plays.{Won}
use Rattle.sq_shared.specs.Walks.{WalkedTo}
use Rattle.sq_shared.specs.Seat.{SeatValue}
use Rattle.sq_shared.specs.Seats.{StepsAt}
use Rattle.sq_node_model.proofs.Members.{set_kept, set_new}
use Rattle.sq_node.specs.Settled.{IsSettled, HasSettled, SawComplete, SawSegmentComplete, AreSeen}
use Rattle.sq_node.specs.Looks.{OnlyLooked, SeatsLooked, LooksAndCompletes}

-- a seat knows no less: what it found and what it completed stays
pub record KnowsNoLess (v w : View) : Type 0 where
  pub looked : (n : ℕ) (st : Status) → HasSeen v n st → HasSeen w n st
  pub completed : (n pull : ℕ) → Contains v.completed (n, pull) → Contains w.completed (n, pull)

pub knows_same : (v : View) → KnowsNoLess v v
knows_same v = record { looked = λ n st seen. seen; completed = λ n pull done. done }

pub knows_then : (u v w : View) → KnowsNoLess u v → KnowsNoLess v w → KnowsNoLess u w
knows_then u v w first second =
    record { looked = λ n st seen. second.looked n st (first.looked n st seen); completed = λ n pull done. second.completed n pull (first.completed n pull done) }

pub knows_looked : (v w : View) → OnlyLooked v w → KnowsNoLess v w
knows_looked v w looked =
    subst (KnowsNoLess v) (sym looked.after)
    (record { looked = λ n st seen. Contains-append_right looked.looks v.looked (n, st) seen; completed = λ n pull done. done })

pub knows_begun : (v w : View) (m pull : ℕ) → Won v m (Partial pull) w → KnowsNoLess v w
knows_begun v w m pull won = subst (KnowsNoLess v) (sym won.after) (record { looked = λ n st seen. seen; completed = λ n other done. done })

pub knows_completed : (v w : View) (m : ℕ) → LooksAndCompletes v m w → KnowsNoLess v w
knows_completed v w m told =
    let between = told.1 in
    knows_then v between w (knows_looked v between told.2)
    (subst (KnowsNoLess between) (sym told.3.after)
    (record { looked = λ n st seen. seen; completed = λ n pull done. Contains-append_right ((m, told.0) ∷ []) between.completed (n, pull) done }))

pub knows_walked : (leaf levels : ℕ) (v u : View) → WalkedTo leaf levels v u → KnowsNoLess v u
knows_walked leaf levels v u walk =
    subst (KnowsNoLess v) (sym walk.3.after)
    (record { looked = λ n st seen. Contains-append_right walk.1 v.looked (n, st) seen; completed = λ n pull done. done })

-- a seat that knows no less than one did is there
pub record StillKnows (seats : List SeatValue) (seg : ℕ) (v : View) : Type 0 where
  pub seat : SeatValue
  pub there : slice_get seats seg ≡ Some seat
  pub knows : KnowsNoLess v seat.view

-- no seat knows less
pub record AllKnowNoLess (old new : List SeatValue) : Type 0 where
  pub each : (seg : ℕ) (seat : SeatValue) → slice_get old seg ≡ Some seat → StillKnows new seg seat.view

pub eq_or_not : (a b : ℕ) → (a ≡ b) ⊎ (a ≢ b)
eq_or_not a b = ⊎_elim (λ (same : ((a == b) ≡ true) × (a ≡ b)). inl same.1) (λ (apart : ((a == b) ≡ false) × (a ≢ b)). inr apart.1) (eqb_tells a b)

-- after steps of one seat
pub known_at : (seg : ℕ) (steps : View → View → Type 0) (old new : List SeatValue) → ((v w : View) → steps v w → KnowsNoLess v w) → StepsAt seg steps old new → AllKnowNoLess old new
known_at seg steps old new knows step = record { each = λ s seat there. by_place s seat there (eq_or_not s seg) }
  where
    by_place : (s : ℕ) (seat : SeatValue) → slice_get old s ≡ Some seat → (s ≡ seg) ⊎ (s ≢ seg) → StillKnows new s seat.view
    by_place s seat there (inl same) =
        let is : seat ≡ step.before = same_Some seat step.before (sym there ∙ ap (slice_get old) same ∙ step.there) in
        record {
          seat = step.after;
          there = ap (λ (seats : List SeatValue). slice_get seats s) step.others ∙ ap (slice_get (slice_set old seg step.after)) same ∙ set_new old seg step.after step.before step.there;
          knows = subst (λ (from : SeatValue). KnowsNoLess from.view step.after.view) (sym is) (knows step.before.view step.after.view step.told);
        }
    by_place s seat there (inr apart) =
        record {
          seat = seat;
          there = ap (λ (seats : List SeatValue). slice_get seats s) step.others ∙ set_kept old seg s step.after seat there apart;
          knows = knows_same seat.view;
        }

-- after looks
pub known_looked : (old new : List SeatValue) → SeatsLooked old new → AllKnowNoLess old new
known_looked old new looked =
    record {
      each = λ s seat there.
          let within : s < length new = omega (arith, slice_get_within old s seat there, looked.count) in
          let after = get_or new s seat in
          let stands : slice_get new s ≡ Some after = slice_get-get_or new s seat within in
          record { seat = after; there = stands; knows = knows_looked seat.view after.view (looked.each s seat after there stands).1 };
    }

pub known_same : (old new : List SeatValue) → new ≡ old → AllKnowNoLess old new
known_same old new same =
    subst (AllKnowNoLess old) (sym same) (record { each = λ s seat there. record { seat = seat; there = there; knows = knows_same seat.view } })

pub known_then : (first second third : List SeatValue) → AllKnowNoLess first second → AllKnowNoLess second third → AllKnowNoLess first third
known_then first second third one two =
    record {
      each = λ s seat there.
          let then = one.each s seat there in
          let last = two.each s then.seat then.there in
          record { seat = last.seat; there = last.there; knows = knows_then seat.view then.seat.view last.seat.view then.knows last.knows };
    }

-- what is settled stays so
pub settled_known : (v w : View) (n : ℕ) → KnowsNoLess v w → IsSettled v n → IsSettled w n
settled_known v w n knows (inl completed) = inl (completed.0, knows.completed n completed.0 completed.1)
settled_known v w n knows (inr (inl split)) = inr (inl (knows.looked n Split split))
settled_known v w n knows (inr (inr done)) = inr (inr (done.0, knows.looked n (Complete done.0) done.1))

pub settled_seats : (old new : List SeatValue) → AllKnowNoLess old new → (s n : ℕ) → HasSettled old s n → HasSettled new s n
settled_seats old new known s n settled =
    let still = known.each s settled.0 settled.1 in
    (still.seat, still.there, settled_known settled.0.view still.seat.view n still.knows settled.2)

-- and what was found complete
pub complete_known : (v w : View) (n : ℕ) → KnowsNoLess v w → SawComplete v n → SawComplete w n
complete_known v w n knows saw = λ leaf above.
    let found = saw leaf above in
    record { node = found.node; pull = found.pull; above = found.above; seen = knows.looked found.node (Complete found.pull) found.seen }

pub complete_seats : (old new : List SeatValue) → AllKnowNoLess old new → (seg : ℕ) → SawSegmentComplete old seg → SawSegmentComplete new seg
complete_seats old new known seg saw =
    let still = known.each seg saw.seat saw.there in
    record { seat = still.seat; there = still.there; seen = complete_known saw.seat.view still.seat.view 1 still.knows saw.seen }

pub seen_seats : (old new : List SeatValue) (complete : List Bool) → AllKnowNoLess old new → AreSeen old complete → AreSeen new complete
seen_seats old new complete known seen = λ seg set. complete_seats old new known seg (seen seg set)
