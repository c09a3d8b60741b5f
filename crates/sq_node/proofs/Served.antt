-- Transactions that a partition took, and their receipts.
use Rattle.std.proofs.Common.{◌≡◌, ℕ, ◌+◌, ◌-◌, ◌<◌, Bool, true, false, List, [], ◌∷◌, ◌++◌, length, Option, Result, Ok, Err, refl, sym, ap, ◌∙◌, subst, inl, inr, true≢false, arith}
use Rattle.std.specs.Prelude.{◌==◌, if◌then◌else◌, unwrap_or, IfOk, OnErr}
use Rattle.sq_schema.specs.TxnValue.{TxnValue}
use Rattle.sq_schema.specs.declared.txn.Reply.{Reply}
use Rattle.sq_schema.specs.declared.txn.Reply.TheVariants.{Committed, Aborted}
use Rattle.sq_schema.specs.Family.{FamilyValue, logged}
use Rattle.sq_store.specs.StoreValue.{StoreValue, family_at, log_length, absent, store_reply, store_after}
use Rattle.sq_store.proofs.Keys.{get-insert_same}
use Rattle.sq_exec.specs.declared.outcome.Outcome.{Outcome}
use Rattle.sq_exec.specs.declared.outcome.Outcome.TheVariants.{Done, Moved, Waits}
use Rattle.sq_exec.specs.declared.outcome.Resumed.{Resumed}
use Rattle.sq_exec.specs.CoreValue.{CoreValue}
use Rattle.sq_exec.specs.Location.{route}
use Rattle.sq_exec.specs.Serving.{served, IsTaken, IsResumed}
use Rattle.sq_moves.specs.ReconValue.{ReconValue}
use Rattle.sq_shared.specs.declared.view.View.{View}
use Rattle.sq_shared.specs.declared.tree.walks.LeafClaim.{LeafClaim}
use Rattle.sq_shared.specs.declared.tree.walks.LeafClaim.TheVariants as at
use Rattle.sq_shared.specs.Seat.{SeatValue}
use Rattle.sq_shared.specs.declared.numbers.TheConstants.{MAX_CLAIMS}
use Rattle.sq_shared.specs.Numbers.{reactive_pull}
use Rattle.sq_shared.specs.Seats.{StepsAt, ClaimsLeaf}
use Rattle.sq_shared.specs.Puller.{PullerValue, RoomyPuller, HasPulled, next_reactive}
use Rattle.sq_shared.specs.declared.puller.ReactivePull.{ReactivePull}
use Rattle.sq_shared.specs.declared.puller.ReactivePull.TheVariants as pull
use Rattle.sq_node_model.specs.NodeValue.{ReceiptValue}
use Rattle.sq_node_model.specs.Steps.{receipt_of}
use Rattle.sq_node.specs.NodeState.{NodeState, position_before}
use Rattle.sq_node.specs.Settled.{IsNode}
use Rattle.sq_node.specs.Steps.{ClaimsAt}
use Rattle.sq_node.proofs.Settles.{same_loads}
use Rattle.sq_node.proofs.Known.{KnowsNoLess, AllKnowNoLess, knows_then, knows_looked, knows_walked, known_at, known_same}
use Rattle.sq_node.proofs.Looked.{found_looks}

less_one : (n : ℕ) → n + 1 - 1 ≡ n
less_one n = omega arith

length-push : (log : List TxnValue) (txn : TxnValue) → length (log ++ txn ∷ []) ≡ length log + 1
length-push [] txn = refl
length-push (first ∷ log) txn = let more = length-push log txn in omega arith

-- the log of a root key is longer by one after a commit, and as long after an abort
pub position_is : (store : StoreValue) (txn : TxnValue) (reply : Reply) → position_before (log_length (store_after store txn reply) txn.root) reply ≡ log_length store txn.root
position_is store txn (Committed answers) =
    let family = family_at store txn.root in
    let after : log_length (store_after store txn (Committed answers)) txn.root ≡ length family.log + 1 =
    ap (λ (found : Option FamilyValue). length (unwrap_or found (absent txn.root)).log) (get-insert_same store txn.root (logged family txn) txn.root refl) ∙ length-push family.log txn in
    ap (λ (n : ℕ). n - 1) after ∙ less_one (length family.log)
position_is store txn (Aborted at cause) = refl

-- a transaction with a reply ran here
pub record Ran (here who : ℕ) (store : StoreValue) (txn : TxnValue) (reply : Reply) (after : StoreValue) : Type 0 where
  pub reply_is : reply ≡ store_reply store txn
  pub after_is : after ≡ store_after store txn reply

abbrev outcome_at : Bool → ℕ → StoreValue → TxnValue → Outcome × StoreValue
outcome_at here who store txn = if here then (Done (store_reply store txn), store_after store txn (store_reply store txn)) else (Moved who, store)

ran_at : (b : Bool) (here who : ℕ) (store : StoreValue) (txn : TxnValue) (reply : Reply) (after : StoreValue) → Done reply ≡ (outcome_at b who store txn).0 → after ≡ (outcome_at b who store txn).1
    → Ran here who store txn reply after
ran_at true here who store txn reply after told left =
    let same : reply ≡ store_reply store txn = cc in
    record { reply_is = same; after_is = left ∙ ap (store_after store txn) (sym same) }
ran_at false here who store txn reply after told left = cc

pub ran : (here who : ℕ) (store : StoreValue) (txn : TxnValue) (reply : Reply) (after : StoreValue) → Done reply ≡ (served here who store txn).0 → after ≡ (served here who store txn).1 → Ran here who store txn reply after
ran here who store txn reply after told left = ran_at (who == here) here who store txn reply after told left

-- the receipt of one that was submitted names the log before it
pub submitted_position : (waits : Bool) (old new : CoreValue) (txn : TxnValue) (reply : Reply) → IsTaken waits old txn (Done reply) new
    → position_before (log_length new.store txn.root) reply ≡ log_length old.store txn.root
submitted_position true old new txn reply taken = let told : Done reply ≡ Waits taken.at.seg taken.at.leaf = taken.told in cc
submitted_position false old new txn reply taken =
    let is = ran old.part (route old txn.root) old.store txn reply new.store taken.told (ap (λ (core : CoreValue). core.store) taken.after) in
    ap (λ (store : StoreValue). position_before (log_length store txn.root) reply) is.after_is ∙ position_is old.store txn reply

pub resumed_position : (old new : CoreValue) (resumed : Resumed) (reply : Reply) → IsResumed old resumed new → resumed.outcome ≡ Done reply
    → position_before (log_length new.store resumed.txn.root) reply ≡ log_length old.store resumed.txn.root
resumed_position old new resumed reply taken done =
    let txn = resumed.txn in
    let is = ran old.part (route old txn.root) old.store txn reply new.store (sym done ∙ taken.told) (ap (λ (core : CoreValue). core.store) taken.after) in
    ap (λ (store : StoreValue). position_before (log_length store txn.root) reply) is.after_is ∙ position_is old.store txn reply

-- nothing was loaded
pub after_taken : (waits : Bool) (old new : CoreValue) (txn : TxnValue) (outcome : Outcome) (seats : List SeatValue) (pending : List (ℕ × ℕ)) (complete : List Bool) → IsTaken waits old txn outcome new
    → IsNode old seats pending complete → IsNode new seats pending complete
after_taken true old new txn outcome seats pending complete taken =
    same_loads old new seats pending complete (ap (λ (core : CoreValue). core.recon) taken.last) (ap (λ (core : CoreValue). core.loaded) taken.last)
after_taken false old new txn outcome seats pending complete taken =
    same_loads old new seats pending complete (ap (λ (core : CoreValue). core.recon) taken.after) (ap (λ (core : CoreValue). core.loaded) taken.after)

pub after_resumed : (old new : CoreValue) (resumed : Resumed) (seats : List SeatValue) (pending : List (ℕ × ℕ)) (complete : List Bool) → IsResumed old resumed new
    → IsNode old seats pending complete → IsNode new seats pending complete
after_resumed old new resumed seats pending complete taken =
    same_loads old new seats pending complete (ap (λ (core : CoreValue). core.recon) taken.after) (ap (λ (core : CoreValue). core.loaded) taken.after)

pub receipt_same : (old : StoreValue) (txn : TxnValue) (reply : Reply) (after : ℕ) (receipt : ReceiptValue) → receipt ≡ record { txn = txn; position = position_before after reply; reply = reply }
    → position_before after reply ≡ log_length old txn.root → receipt ≡ receipt_of old txn reply
receipt_same old txn reply after receipt is position = is ∙ (λ k. record { txn = txn; position = position k; reply = reply })

-- a claim leaves what a seat knows
knows_claimed : (leaf pull : ℕ) (claim : LeafClaim) (v w : View) → ClaimsLeaf leaf pull claim v w → KnowsNoLess v w
knows_claimed leaf pull (at.Claimed m) v w told =
    let walk = told.walk.1 in
    knows_then v walk.0 w (knows_walked leaf 0 v walk.0 walk.1)
    (subst (KnowsNoLess walk.0) (sym walk.2.after) (record { looked = λ n st seen. seen; completed = λ n other done. done }))
knows_claimed leaf pull (at.Held m st) v w told =
    let walk = told.walk.2 in
    knows_then v walk.1 w (knows_walked leaf walk.0 v walk.1 walk.3) (knows_looked walk.1 w (found_looks walk.1 m st w walk.4))

known_claim : (seg leaf pull : ℕ) (claim : LeafClaim) (old new : List SeatValue) → StepsAt seg (ClaimsLeaf leaf pull claim) old new → AllKnowNoLess old new
known_claim seg leaf pull claim old new steps = known_at seg (ClaimsLeaf leaf pull claim) old new (λ v w told. knows_claimed leaf pull claim v w told) steps

-- and so does a reactive pull
pub known_pulled : {E : Type 0} (recon : ReconValue) (seg leaf : ℕ) (old new : PullerValue) (seats after : List SeatValue) (result : Result ReactivePull E) (P Q : Type 0)
    → IfOk result (HasPulled recon seg leaf old seats new after) → OnErr result (P × Q × (after ≡ seats)) → AllKnowNoLess seats after
known_pulled recon seg leaf old new seats after (Ok (pull.Won m)) P Q told err = known_claim seg leaf (next_reactive old) (at.Claimed m) seats after told.1
known_pulled recon seg leaf old new seats after (Ok (pull.Held m st)) P Q told err = known_claim seg leaf (next_reactive old) (at.Held m st) seats after told.1
known_pulled recon seg leaf old new seats after (Ok pull.Spent) P Q told err = known_same seats after told.2
known_pulled recon seg leaf old new seats after (Err fault) P Q told err = known_same seats after err.2

-- it is the same partition's
pub pulled_part : {E : Type 0} (recon : ReconValue) (seg leaf : ℕ) (old new : RoomyPuller) (seats after : List SeatValue) (result : Result ReactivePull E) (P Q : Type 0)
    → IfOk result (HasPulled recon seg leaf old.puller seats new.puller after) → OnErr result (P × (new ≡ old) × Q) → new.puller.part ≡ old.puller.part
pulled_part recon seg leaf old new seats after (Ok (pull.Won m)) P Q told err = told.2
pulled_part recon seg leaf old new seats after (Ok (pull.Held m st)) P Q told err = ap (λ (puller : PullerValue). puller.part) told.2
pulled_part recon seg leaf old new seats after (Ok pull.Spent) P Q told err = ap (λ (puller : PullerValue). puller.part) told.1
pulled_part recon seg leaf old new seats after (Err fault) P Q told err = ap (λ (roomy : RoomyPuller). roomy.puller.part) err.1

-- a claim for the next reactive pull of a node
next_pull : (seg leaf : ℕ) (claim : LeafClaim) (puller : PullerValue) (before after : NodeState) → before.core.part ≡ puller.part → before.claims ≡ puller.wins.count
    → StepsAt seg (ClaimsLeaf leaf (next_reactive puller) claim) before.seats after.seats → StepsAt seg (ClaimsLeaf leaf (reactive_pull before.core.part before.claims) claim) before.seats after.seats
next_pull seg leaf claim puller before after own was steps =
    let next : next_reactive puller ≡ reactive_pull before.core.part before.claims = λ k. reactive_pull (sym own k) (sym was k) in
    subst (λ (pull : ℕ). StepsAt seg (ClaimsLeaf leaf pull claim) before.seats after.seats) next steps

-- what a reactive pull claims for a node, where there is room for its request
pub pulled_claims : {E : Type 0} (recon : ReconValue) (seg leaf : ℕ) (old new : PullerValue) (before after : NodeState) (result : Result ReactivePull E) (has_room : Bool)
    → before.core.part ≡ old.part → before.claims ≡ old.wins.count → after.claims ≡ new.wins.count → has_room ≡ true
    → IfOk result (HasPulled recon seg leaf old before.seats new after.seats) → OnErr result (has_room ≡ false) → ClaimsAt seg leaf before after
pulled_claims recon seg leaf old new before after (Ok (pull.Won m)) has_room own was is room told err =
    inl
    (record {
      claim = at.Claimed m;
      few = subst (λ (count : ℕ). count < MAX_CLAIMS) (sym was) told.0;
      seats = next_pull seg leaf (at.Claimed m) old before after own was told.1;
      counts = is ∙ told.3.2.count ∙ told.3.1.count ∙ ap (λ (count : ℕ). count + 1) (sym was);
    })
pulled_claims recon seg leaf old new before after (Ok (pull.Held m st)) has_room own was is room told err =
    inl
    (record {
      claim = at.Held m st;
      few = subst (λ (count : ℕ). count < MAX_CLAIMS) (sym was) told.0;
      seats = next_pull seg leaf (at.Held m st) old before after own was told.1;
      counts = is ∙ ap (λ (puller : PullerValue). puller.wins.count) told.2 ∙ sym was;
    })
pulled_claims recon seg leaf old new before after (Ok pull.Spent) has_room own was is room told err =
    inr (was ∙ told.0, (told.2, is ∙ ap (λ (puller : PullerValue). puller.wins.count) told.1 ∙ sym was))
pulled_claims recon seg leaf old new before after (Err fault) has_room own was is room told err = absurd (true≢false (sym room ∙ err))
