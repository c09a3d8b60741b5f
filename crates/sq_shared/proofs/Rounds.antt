-- A pump stays one in its turns.
use Rattle.std.proofs.Common.{◌≡◌, ℕ, zero, suc, ◌+◌, ◌<◌, ◌≤◌, Bool, true, false, List, [], ◌∷◌, ◌++◌, length, Some, None, refl, sym, ap, ◌∙◌, subst, append-nil, arith}
use Rattle.std.specs.Prelude.{nat_lt, ◌==◌, ◌&&◌, if◌then◌else◌, filter}
use Rattle.std.specs.List.{list_all, range_with_len}
use Rattle.std.proofs.lemmas.Bool.{lt-ltb, and_parts, eq-eqb}
use Rattle.std.proofs.lemmas.List.{length-set, map-id}
use Rattle.std.proofs.lemmas.List.FromFn.{map-range_with_len_more}
use Rattle.std.proofs.lemmas.List.Elements.{filter-append}
use Rattle.std.proofs.lemmas.List.Folds.{list_all-append}
use Rattle.sq_shared.specs.declared.view.View.{View}
use Rattle.sq_shared.specs.Seat.{SeatValue}
use Rattle.sq_moves.specs.ReconValue.{ReconValue, stage_at}
use Rattle.sq_moves.specs.declared.segment.TheConstants.{SEGMENT_LIMIT}
use Rattle.sq_shared.specs.declared.numbers.TheConstants.{MAX_OWNERS}
use Rattle.sq_shared.specs.Pump.{PumpValue, stage_round, new_pump, next_asynchronous, WinsNext, SkipsNext, OnlySends, IsPump}
use Rattle.sq_shared.specs.Seats.{StepsAt, ClaimsAny}
use Rattle.sq_shared.specs.Wins.{AreWonClaims}
use Rattle.sq_shared.proofs.Claimed.{claims_stay, claims_added, claims_sent}

-- each of these segments has a seat
abbrev have_seats : ℕ → List ℕ → Bool
have_seats count round = list_all (λ seg. nat_lt seg count) round

and_true : (a b : Bool) → (a && b) ≡ true → (b && (a && true)) ≡ true
and_true true true both = refl
and_true true false both = both
and_true false b both = cc

have_seats-turned : (count seg : ℕ) (rest : List ℕ) → have_seats count (seg ∷ rest) ≡ true → have_seats count (rest ++ seg ∷ []) ≡ true
have_seats-turned count seg rest all =
    list_all-append (λ (k : ℕ). nat_lt k count) rest (seg ∷ []) ∙ and_true (nat_lt seg count) (have_seats count rest) all

have_seats-rest : (count seg : ℕ) (rest : List ℕ) → have_seats count (seg ∷ rest) ≡ true → have_seats count rest ≡ true
have_seats-rest count seg rest all = (and_parts (nat_lt seg count) (have_seats count rest) all).1

have_seats-range : (count first n : ℕ) → first + n ≤ count → have_seats count (range_with_len first n) ≡ true
have_seats-range count first zero few = refl
have_seats-range count first (suc n) few =
    let here : nat_lt first count ≡ true = lt-ltb first count (omega arith) in rw here (have_seats-range count (first + 1) n (omega arith))

-- what holds of all elements holds of those that a filter keeps
list_all-filter : (p keeps : ℕ → Bool) (xs : List ℕ) → list_all p xs ≡ true → list_all p (filter keeps xs) ≡ true
list_all-filter p keeps [] all = refl
list_all-filter p keeps (x ∷ xs) all =
    let parts = and_parts (p x) (list_all p xs) all in
    kept parts.0 (list_all-filter p keeps xs parts.1) (keeps x) refl
  where
    kept : p x ≡ true → list_all p (filter keeps xs) ≡ true → (b : Bool) → keeps x ≡ b → list_all p (filter keeps (x ∷ xs)) ≡ true
    kept first rest true is = rw (is, first) rest
    kept first rest false is = rw is rest

-- one more segment is in the round of a stage where it runs in the stage, and else the round is as it was
pub stage_round-more : (recon : ReconValue) (stage n : ℕ) → stage_round recon stage (n + 1) ≡ stage_round recon stage n ++ filter (λ seg. stage_at recon seg == stage) (n ∷ [])
stage_round-more recon stage n =
    let more : range_with_len 0 (n + 1) ≡ range_with_len 0 n ++ n ∷ [] = simp map-id at (map-range_with_len_more (λ (k : ℕ). k) 0 n n (omega arith)) in
    ap (filter (λ seg. stage_at recon seg == stage)) more ∙ filter-append (λ seg. stage_at recon seg == stage) (range_with_len 0 n) (n ∷ [])

-- where the segment runs in the stage, the round has it
pub stage_round-kept : (recon : ReconValue) (stage n : ℕ) → stage_at recon n ≡ stage → stage_round recon stage (n + 1) ≡ stage_round recon stage n ++ n ∷ []
stage_round-kept recon stage n is = stage_round-more recon stage n ∙ ap (λ (b : Bool). stage_round recon stage n ++ (if b then n ∷ [] else [])) (eq-eqb (stage_at recon n) stage is)

-- where it doesn't, the round is as it was
pub stage_round-left : (recon : ReconValue) (stage n : ℕ) → (stage_at recon n == stage) ≡ false → stage_round recon stage (n + 1) ≡ stage_round recon stage n
stage_round-left recon stage n is = stage_round-more recon stage n ∙ ap (λ (b : Bool). stage_round recon stage n ++ (if b then n ∷ [] else [])) is ∙ append-nil (stage_round recon stage n)

pub IsPump-new : (recon : ReconValue) (stage number : ℕ) (seats : List SeatValue) → number < MAX_OWNERS → length seats ≤ SEGMENT_LIMIT → IsPump (new_pump recon stage number seats)
IsPump-new recon stage number seats small few =
    record {
      number = small;
      segments = list_all-filter (λ seg. nat_lt seg (length seats)) (λ seg. stage_at recon seg == stage) (range_with_len 0 (length seats)) (have_seats-range (length seats) 0 (length seats) (omega arith));
      few = few;
      claims = λ k d inside. absurd (omega arith);
    }

length-steps : (seg : ℕ) (steps : View → View → Type 0) (old new : List SeatValue) → StepsAt seg steps old new → length old ≡ length new
length-steps seg steps old new step = sym (ap length step.others ∙ length-set old seg step.after)

-- where it won a claim
pub IsPump-won : (recon : ReconValue) (seg n : ℕ) (old new : PumpValue) → WinsNext recon seg n old new → IsPump old → IsPump new
IsPump-won recon seg n old new wins pump =
    let count : length old.seats ≡ length new.seats = length-steps seg (ClaimsAny (next_asynchronous old) (Some n)) old.seats new.seats wins.seats in
    let round : have_seats (length old.seats) (seg ∷ wins.rest) ≡ true = subst (λ (round : List ℕ). have_seats (length old.seats) round ≡ true) wins.next pump.segments in
    record {
      number = omega (arith, pump.number, wins.number);
      segments = ap (have_seats (length new.seats)) wins.round ∙ ap (λ (k : ℕ). have_seats k (wins.rest ++ seg ∷ [])) (sym count) ∙ have_seats-turned (length old.seats) seg wins.rest round;
      few = omega (arith, pump.few, count);
      claims =
          claims_added recon seg n (next_asynchronous old) (ClaimsAny (next_asynchronous old) (Some n)) old.seats new.seats wins.seats wins.seats.told.claims old.wins new.wins wins.wins pump.claims;
    }

-- where it found nothing to claim
pub IsPump-skipped : (old new : PumpValue) → SkipsNext old new → IsPump old → IsPump new
IsPump-skipped old new skips pump =
    let count : length old.seats ≡ length new.seats = length-steps skips.seg (ClaimsAny (next_asynchronous old) None) old.seats new.seats skips.seats in
    let round : have_seats (length old.seats) (skips.seg ∷ new.round) ≡ true = subst (λ (round : List ℕ). have_seats (length old.seats) round ≡ true) skips.next pump.segments in
    record {
      number = omega (arith, pump.number, skips.number);
      segments = ap (λ (k : ℕ). have_seats k new.round) (sym count) ∙ have_seats-rest (length old.seats) skips.seg new.round round;
      few = omega (arith, pump.few, count);
      claims =
          subst (AreWonClaims new.seats) (sym skips.wins)
          (claims_stay skips.seg (ClaimsAny (next_asynchronous old) None) old.seats new.seats skips.seats [] skips.seats.told.claims old.wins pump.claims);
    }

-- where it sent requests
pub IsPump-sent : (old new : PumpValue) → OnlySends old new → IsPump old → IsPump new
IsPump-sent old new sends pump =
    record {
      number = omega (arith, pump.number, sends.number);
      segments = ap (have_seats (length new.seats)) sends.round ∙ ap (λ (seats : List SeatValue). have_seats (length seats) old.round) sends.seats ∙ pump.segments;
      few = omega (arith, pump.few, ap length sends.seats);
      claims = subst (λ (seats : List SeatValue). AreWonClaims seats new.wins) (sym sends.seats) (claims_sent old.seats old.wins new.wins sends.wins pump.claims);
    }
