-- Looks at nodes, and what they leave as it was.
use Rattle.std.proofs.Common.{◌≡◌, ℕ, ◌+◌, ◌*◌, ◌<◌, ◌≤◌, Bool, true, false, IsTrue, List, [], ◌∷◌, ◌++◌, length, get_or, Some, refl, sym, ap, ◌∙◌, subst, inl, inr, ⊎_elim, append_assoc, arith}
use Rattle.std.specs.Prelude.{◌⊎◌, ◌≢◌, ◌||◌, slice_get, slice_set, Result, Ok, Err, is_ok, MatchResult, MatchBool}
use Rattle.std.proofs.lemmas.Bool.{eqb-true, lt-leb, cases_Bool, cases_lt}
use Rattle.std.proofs.lemmas.List.{length-set, length-map, get_or-map}
use Rattle.std.proofs.lemmas.List.Elements.{Contains-append_right, Contains-append_left}
use Rattle.std.proofs.lemmas.Option.{same_Some, slice_get_read, slice_get_within, slice_get-get_or}
use Rattle.sq_moves.specs.declared.status.Status.{Status}
use Rattle.sq_moves.specs.declared.status.Status.TheVariants.{Free, Split, Claimed, Partial, Complete}
use Rattle.sq_moves.specs.declared.tree_fault.BeginFault.{BeginFault}
use Rattle.sq_moves.specs.declared.tree_fault.BeginFault.TheVariants as begin
use Rattle.sq_moves.specs.declared.tree_fault.CompleteFault.{CompleteFault}
use Rattle.sq_moves.specs.declared.tree_fault.CompleteFault.TheVariants as complete
use Rattle.sq_moves.specs.declared.node.TheConstants.{LEAVES}
use Rattle.sq_moves.specs.Node.{is_node, is_above}
use Rattle.sq_moves.specs.Status.{is_past, is_split, is_complete}
use Rattle.sq_moves.proofs.Nested.{node_bounds, node_within, halves_of}
use Rattle.sq_moves.proofs.Covering.{high_half}
use Rattle.sq_model.proofs.Lists.{Contains-first}
use Rattle.sq_shared.specs.declared.view.View.{View}
use Rattle.sq_shared.specs.View.{HasSeen}
use Rattle.sq_shared.specs.Plays.{Found, Won}
use Rattle.sq_shared.specs.Calls.{BeginRefused, CompleteRefused}
use Rattle.atomic_table.specs.Seated.{TableId}
use Rattle.sq_shared.specs.Seat.{SeatValue, IsSameSeat}
use Rattle.sq_shared.specs.Seats.{AreSeatsOf, StepsAt}
use Rattle.sq_shared.proofs.Stepped.{steps_at, seats_stay}
use Rattle.sq_node_model.proofs.Members.{set_stood, set_kept, set_new}
use Rattle.sq_node.specs.Settled.{IsSettled, HasSettled, SawComplete}
use Rattle.sq_node.specs.Idle.{FoundUndone, SegmentUndone}
use Rattle.sq_node.specs.Looks.{OnlyLooked, SeatsLooked, FoundElse, HasNoneToComplete, LooksOnly, LooksAndCompletes}
use Rattle.sq_node.proofs.Known.{KnowsNoLess, knows_looked, eq_or_not, settled_known, complete_known}

-- a look is only a look
pub found_looks : (v : View) (n : ℕ) (st : Status) (w : View) → Found v n st w → OnlyLooked v w
found_looks v n st w found = record { looks = (n, st) ∷ []; after = found.after }

pub looked_again : (v u w : View) → OnlyLooked v u → OnlyLooked u w → OnlyLooked v w
looked_again v u w first second =
    record {
      looks = second.looks ++ first.looks;
      after = second.after
          ∙ (λ k. record (first.after k) { looked = second.looks ++ (first.after k).looked })
          ∙ (λ k. record v { looked = sym (append_assoc second.looks first.looks v.looked) k });
    }

pub no_looks : (seats : List SeatValue) → SeatsLooked seats seats
no_looks seats =
    record {
      count = refl;
      each = λ seg before after there then.
          let same : before ≡ after = same_Some before after (sym there ∙ then) in
          (ap (λ (seat : SeatValue). seat.tree) (sym same), record { looks = []; after = ap (λ (seat : SeatValue). seat.view) (sym same) });
    }

seen_then : (v : View) (n : ℕ) (st : Status) (w : View) → Found v n st w → HasSeen w n st
seen_then v n st w found = subst (λ (u : View). HasSeen u n st) (sym found.after) (Contains-first (n, st) v.looked)

-- a node that isn't found partial is settled, or was found to be neither
pub not_partial : (v : View) (n : ℕ) (st : Status) (w : View) → Found v n st w → ((pull : ℕ) → st ≡ Partial pull → ⊥) → LooksOnly v n w
not_partial v n Free w found other =
    (found_looks v n Free w found, inr (record { looks = (n, Free) ∷ []; since = ap (λ (u : View). u.looked) found.after; status = Free; found = Contains-first (n, Free) []; else = refl }))
not_partial v n Split w found other = (found_looks v n Split w found, inl (inr (inl (seen_then v n Split w found))))
not_partial v n (Claimed pull) w found other = (
  found_looks v n (Claimed pull) w found,
  inr (record { looks = (n, Claimed pull) ∷ []; since = ap (λ (u : View). u.looked) found.after; status = Claimed pull; found = Contains-first (n, Claimed pull) []; else = refl }),
)
not_partial v n (Partial pull) w found other = absurd (other pull refl)
not_partial v n (Complete pull) w found other = (found_looks v n (Complete pull) w found, inl (inr (inr (pull, seen_then v n (Complete pull) w found))))

-- a node that was found partial, and then not completed, is complete
after_partial : (v u w : View) (n pull : ℕ) (st : Status) → Found v n (Partial pull) u → Found u n st w → ((other : ℕ) → st ≡ Partial other → ⊥) → LooksOnly v n w
after_partial v u w n pull st first second other =
    let past : is_past (Partial pull) st ≡ true = second.later.0 (Partial pull) (seen_then v n (Partial pull) u first) in
    by_status st past other second
  where
    by_status : (s : Status) → is_past (Partial pull) s ≡ true → ((o : ℕ) → s ≡ Partial o → ⊥) → Found u n s w → LooksOnly v n w
    by_status Free past not_partial_now found = cc
    by_status Split past not_partial_now found = cc
    by_status (Claimed p) past not_partial_now found = cc
    by_status (Partial p) past not_partial_now found = absurd (not_partial_now p refl)
    by_status (Complete p) past not_partial_now found = (
      looked_again v u w (found_looks v n (Partial pull) u first) (found_looks u n (Complete p) w found),
      inl (inr (inr (p, seen_then u n (Complete p) w found))),
    )

-- the result of completing a node that was found partial
pub completed_or_not : (v u w : View) (n pull : ℕ) (result : Result (Unit {0}) CompleteFault) (b : Bool) → b ≡ is_ok result → Found v n (Partial pull) u
    → MatchResult result (λ _. Won u n (Complete pull) w) (CompleteRefused n pull u w) → MatchBool b (LooksAndCompletes v n w) (LooksOnly v n w)
completed_or_not v u w n pull result b is first told = subst (λ (x : Bool). MatchBool x (LooksAndCompletes v n w) (LooksOnly v n w)) (sym is) (by_result result told)
  where
    by_result : (r : Result (Unit {0}) CompleteFault) → MatchResult r (λ _. Won u n (Complete pull) w) (CompleteRefused n pull u w)
        → MatchBool (is_ok r) (LooksAndCompletes v n w) (LooksOnly v n w)
    by_result (Ok done) won = (pull, u, found_looks v n (Partial pull) u first, won)
    by_result (Err (complete.NotPartial st)) refused = after_partial v u w n pull st first refused.1 refused.0
    by_result (Err complete.WrongPull) refused =
        let past : is_past (Partial pull) (Partial refused.0) ≡ true = refused.2.later.0 (Partial pull) (seen_then v n (Partial pull) u first) in
        absurd (refused.1 (sym (eqb-true pull refused.0 past)))

-- a begin that is refused is a look
pub begun_or_not : (v w : View) (n pull : ℕ) (result : Result (Unit {0}) BeginFault) → MatchResult result (λ _. Won v n (Partial pull) w) (BeginRefused n pull v w)
    → MatchBool (is_ok result) (Won v n (Partial pull) w) (OnlyLooked v w)
begun_or_not v w n pull (Ok done) won = won
begun_or_not v w n pull (Err (begin.NotClaimed st)) refused = found_looks v n st w refused.1
begun_or_not v w n pull (Err begin.WrongPull) refused = found_looks v n (Claimed refused.0) w refused.2

-- what is settled stays so
pub settled_looked : (v w : View) (n : ℕ) → OnlyLooked v w → IsSettled v n → IsSettled w n
settled_looked v w n looked settled = settled_known v w n (knows_looked v w looked) settled

pub completes_settles : (v w : View) (n : ℕ) → LooksAndCompletes v n w → IsSettled w n
completes_settles v w n told = subst (λ (u : View). IsSettled u n) (sym told.3.after) (inl (told.0, Contains-first (n, told.0) told.1.completed))

-- a node that was found complete is seen so, and a split one where its halves are
pub seen_itself : (v w : View) (n pull : ℕ) → Found v n (Complete pull) w → SawComplete w n
seen_itself v w n pull found = λ leaf above. record { node = n; pull = pull; above = above; seen = seen_then v n (Complete pull) w found }

pub seen_halves : (v w : View) (n low high : ℕ) → IsTrue (is_node low) → n < LEAVES → low ≡ 2 * n → high ≡ 2 * n + 1 → KnowsNoLess v w → SawComplete v low → SawComplete w high → SawComplete w n
seen_halves v w n low high node inner low_is high_is knows saw_low saw_high = λ leaf above.
    let bounds = node_bounds low node in
    let half = halves_of n (node_within n (omega (arith, bounds.0, low_is)) (omega (arith, inner))) (lt-leb LEAVES n inner) in
    ⊎_elim
    (λ (first : is_above (2 * n) leaf ≡ true). complete_known v w low knows saw_low leaf (ap (λ (m : ℕ). is_above m leaf) low_is ∙ first))
    (λ (past : is_above (2 * n) leaf ≡ false). saw_high leaf (ap (λ (m : ℕ). is_above m leaf) high_is ∙ high_half n leaf half above past))
    (cases_Bool (is_above (2 * n) leaf))

-- a node that was found neither split nor complete, also after looks
pub found_undone : (v : View) (n : ℕ) (st : Status) (w : View) → Found v n st w → (is_split st || is_complete st) ≡ false → FoundUndone v w
found_undone v n st w found undone =
    record { looks = (n, st) ∷ []; since = ap (λ (u : View). u.looked) found.after; node = n; status = st; found = Contains-first (n, st) []; undone = undone }

pub undone_since : (v u w : View) → OnlyLooked v u → FoundUndone u w → FoundUndone v w
undone_since v u w looked found =
    record {
      looks = found.looks ++ looked.looks;
      since = found.since ∙ ap (λ (x : View). found.looks ++ x.looked) looked.after ∙ sym (append_assoc found.looks looked.looks v.looked);
      node = found.node;
      status = found.status;
      found = Contains-append_left found.looks looked.looks (found.node, found.status) found.found;
      undone = found.undone;
    }

pub segment_undone : (at : ℕ) (old cur new : List SeatValue) → SeatsLooked old cur → StepsAt at FoundUndone cur new → SegmentUndone old new at
segment_undone at old cur new looked step =
    let within : at < length old = omega (arith, slice_get_within cur at step.before step.there, looked.count) in
    let first = get_or old at step.before in
    let there : slice_get old at ≡ Some first = slice_get-get_or old at step.before within in
    record {
      before = first;
      after = step.after;
      there = there;
      then = ap (λ (seats : List SeatValue). slice_get seats at) step.others ∙ set_new cur at step.after step.before step.there;
      found = undone_since first.view step.before.view step.after.view (looked.each at first step.before there step.there).1 step.told;
    }

-- more looks at one seat
pub seats_looked_at : (seg : ℕ) (steps : View → View → Type 0) (old cur new : List SeatValue) → ((v w : View) → steps v w → OnlyLooked v w) → SeatsLooked old cur → StepsAt seg steps cur new → SeatsLooked old new
seats_looked_at seg steps old cur new looks looked step =
    record {
      count = ap length step.others ∙ length-set cur seg step.after ∙ looked.count;
      each = λ s before after there then. at_seat s before after there
          (set_stood cur seg s step.after after (ap (λ (seats : List SeatValue). slice_get seats s) (sym step.others) ∙ then));
    }
  where
    at_seat : (s : ℕ) (before after : SeatValue) → slice_get old s ≡ Some before → ((s ≡ seg) × (step.after ≡ after)) ⊎ ((s ≢ seg) × (slice_get cur s ≡ Some after))
        → (after.tree ≡ before.tree) × OnlyLooked before.view after.view
    at_seat s before after there (inl now) =
        let first = looked.each s before step.before there (ap (slice_get cur) now.0 ∙ step.there) in (
          ap (λ (seat : SeatValue). seat.tree) (sym now.1) ∙ step.same.tree ∙ first.0,
          subst (λ (seat : SeatValue). OnlyLooked before.view seat.view) now.1 (looked_again before.view step.before.view step.after.view first.1 (looks step.before.view step.after.view step.told)),
        )
    at_seat s before after there (inr same) = looked.each s before after there same.1

else_looked : (v u w : View) (n : ℕ) → FoundElse v u n → OnlyLooked u w → FoundElse v w n
else_looked v u w n found looked =
    record {
      looks = looked.looks ++ found.looks;
      since = ap (λ (x : View). x.looked) looked.after ∙ ap (λ (xs : List (ℕ × Status)). looked.looks ++ xs) found.since ∙ sym (append_assoc looked.looks found.looks v.looked);
      status = found.status;
      found = Contains-append_right looked.looks found.looks (n, found.status) found.found;
      else = found.else;
    }

-- what was not to be completed isn't after more looks
pub none_still : (m : ℕ) (at : ℕ) (old cur new : List SeatValue) → StepsAt at (λ v w. LooksOnly v m w) cur new → (seg n : ℕ) → HasNoneToComplete old cur seg n → HasNoneToComplete old new seg n
none_still m at old cur new step seg n none = by_place (eq_or_not seg at)
  where
    by_place : (seg ≡ at) ⊎ (seg ≢ at) → HasNoneToComplete old new seg n
    by_place (inl same) =
        let found : none.after ≡ step.before = same_Some none.after step.before (sym none.then ∙ ap (slice_get cur) same ∙ step.there) in
        let looked : OnlyLooked none.after.view step.after.view = subst (λ (seat : SeatValue). OnlyLooked seat.view step.after.view) (sym found) step.told.0 in
        record {
          before = none.before;
          after = step.after;
          there = none.there;
          then = ap (λ (seats : List SeatValue). slice_get seats seg) step.others ∙ ap (slice_get (slice_set cur at step.after)) same ∙ set_new cur at step.after step.before step.there;
          why = ⊎_elim (λ (settled : IsSettled none.after.view n). inl (settled_looked none.after.view step.after.view n looked settled))
              (λ (found_else : FoundElse none.before.view none.after.view n). inr (else_looked none.before.view none.after.view step.after.view n found_else looked)) none.why;
        }
    by_place (inr apart) =
        record {
          before = none.before;
          after = none.after;
          there = none.there;
          then = ap (λ (seats : List SeatValue). slice_get seats seg) step.others ∙ set_kept cur at seg step.after none.after none.then apart;
          why = none.why;
        }

-- the node that was looked at isn't to be completed
pub none_now : (m at : ℕ) (old cur new : List SeatValue) → SeatsLooked old cur → StepsAt at (λ v w. LooksOnly v m w) cur new → HasNoneToComplete old new at m
none_now m at old cur new looked step =
    let within : at < length old = omega (arith, slice_get_within cur at step.before step.there, looked.count) in
    let first = get_or old at step.before in
    let there : slice_get old at ≡ Some first = slice_get-get_or old at step.before within in
    let since = (looked.each at first step.before there step.there).1 in
    record {
      before = first;
      after = step.after;
      there = there;
      then = ap (λ (seats : List SeatValue). slice_get seats at) step.others ∙ set_new cur at step.after step.before step.there;
      why = ⊎_elim (λ (settled : IsSettled step.after.view m). inl settled)
          (λ (found : FoundElse step.before.view step.after.view m). inr (record {
            looks = found.looks ++ since.looks;
            since = found.since ∙ ap (λ (v : View). found.looks ++ v.looked) since.after ∙ sym (append_assoc found.looks since.looks first.view.looked);
            status = found.status;
            found = Contains-append_left found.looks since.looks (m, found.status) found.found;
            else = found.else;
          })) step.told.1;
    }

-- a step of the seat at a place, of either kind
pub matched_at : (trees : List TableId) (seats : List SeatValue) (seg at : ℕ) (hit miss : View → View → Type 0) (before after : SeatValue) → AreSeatsOf trees seats → seg < length trees → at ≡ seg
    → before ≡ get_or seats at before → IsSameSeat before after → (b : Bool) → MatchBool b (hit before.view after.view) (miss before.view after.view)
    → MatchBool b (StepsAt seg hit seats (slice_set seats at after)) (StepsAt seg miss seats (slice_set seats at after))
matched_at trees seats seg at hit miss before after kept within place read same true told = steps_at trees seats seg at hit before after kept within place read same told
matched_at trees seats seg at hit miss before after kept within place read same false told = steps_at trees seats seg at miss before after kept within place read same told

pub seats_kept : (trees : List TableId) (seats : List SeatValue) (seg at : ℕ) (before after : SeatValue) → AreSeatsOf trees seats → seg < length trees → at ≡ seg
    → before ≡ get_or seats at before → IsSameSeat before after → AreSeatsOf trees (slice_set seats at after)
seats_kept trees seats seg at before after kept within place read same =
    seats_stay trees seg (λ v w. Unit {0}) seats (slice_set seats at after) (steps_at trees seats seg at (λ v w. Unit {0}) before after kept within place read same tt) kept

-- what is settled isn't to be completed
pub settled_none : (old new : List SeatValue) → SeatsLooked old new → (s n : ℕ) → HasSettled old s n → HasNoneToComplete old new s n
settled_none old new looked s n settled =
    let within : s < length new = omega (arith, slice_get_within old s settled.0 settled.1, looked.count) in
    let after = get_or new s settled.0 in
    let there : slice_get new s ≡ Some after = slice_get-get_or new s settled.0 within in
    record {
      before = settled.0;
      after = after;
      there = settled.1;
      then = there;
      why = inl (settled_looked settled.0.view after.view n (looked.each s settled.0 after settled.1 there).1 settled.2);
    }

pub same_again : (first second third : SeatValue) → IsSameSeat first second → IsSameSeat second third → IsSameSeat first third
same_again first second third one two =
    record {
      tree = two.tree ∙ one.tree;
      role = record {
        first = two.role.first ∙ one.role.first;
        spent = two.role.spent ∙ one.role.spent;
        given = two.role.given ∙ one.role.given;
        taken = two.role.taken ∙ one.role.taken;
      };
    }

-- none of the nodes before a place is to be completed, and none of those up to it where its own isn't
pub more_none : (nodes : List (ℕ × ℕ)) (at : ℕ) (pair : ℕ × ℕ) (old cur new : List SeatValue) → slice_get nodes at ≡ Some pair → SeatsLooked old cur → StepsAt pair.0 (λ v w. LooksOnly v pair.1 w) cur new
    → ((place seg n : ℕ) → place < at → slice_get nodes place ≡ Some (seg, n) → HasNoneToComplete old cur seg n)
    → (place seg n : ℕ) → place < at + 1 → slice_get nodes place ≡ Some (seg, n) → HasNoneToComplete old new seg n
more_none nodes at pair old cur new there looked step none place seg n below stands =
    ⊎_elim
    (λ (before : place < at). none_still pair.1 pair.0 old cur new step seg n (none place seg n before stands))
    (λ (here : at ≤ place).
    let same : at ≡ place = omega arith in
    let is : pair ≡ (seg, n) = same_Some pair (seg, n) (sym there ∙ ap (slice_get nodes) same ∙ stands) in
    subst (λ (p : ℕ × ℕ). HasNoneToComplete old new p.0 p.1) is (none_now pair.1 pair.0 old cur new looked step))
    (cases_lt place at)

-- the node that was read is at its place
pub stands_at : (nodes now : List (ℕ × ℕ)) (at : ℕ) (pair : ℕ × ℕ) → now ≡ nodes → at < length nodes → pair ≡ get_or now at pair → slice_get nodes at ≡ Some pair
stands_at nodes now at pair same within read = slice_get_read nodes (length nodes) at pair refl within (read ∙ ap (λ (xs : List (ℕ × ℕ)). get_or xs at pair) same)

-- the seat at a segment's place is of the tree there
pub of_its_tree : (trees : List TableId) (seats : List SeatValue) (seg i j : ℕ) (tree : TableId) (seat : SeatValue) → AreSeatsOf trees seats → seg < length trees → i ≡ seg → j ≡ seg
    → tree ≡ get_or trees i tree → seat ≡ get_or seats j seat → seat.tree ≡ tree
of_its_tree trees seats seg i j tree seat kept within i_is j_is tree_is seat_is =
    let inside : seg < length seats = omega (arith, length-map seats (λ (s : SeatValue). s.tree), ap length kept) in
    let same : j ≡ i = j_is ∙ sym i_is in
    ap (λ (s : SeatValue). s.tree) (seat_is ∙ ap (λ (k : ℕ). get_or seats k seat) j_is)
    ∙ sym (get_or-map (λ (s : SeatValue). s.tree) seats seg seat tree inside)
    ∙ ap (λ (ts : List TableId). get_or ts seg tree) kept
    ∙ ap (λ (k : ℕ). get_or trees k tree) (sym i_is)
    ∙ sym tree_is
