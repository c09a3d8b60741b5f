-- A walk over receipts of one root key, in order: the log that they tell.
use Rattle.std.proofs.Common.{◌≡◌, ℕ, zero, suc, ◌+◌, ◌<◌, ◌≤◌, ◌==◌, Bool, true, false, if◌then◌else◌, List, [], ◌∷◌, ◌++◌, length, take, slice_get, Contains, Some, refl, sym, ap, ◌∙◌, subst, arith, true≢false, eqb-true, append_assoc, append-nil, length-append}
use Rattle.std.specs.Bool.{Decides}
use Rattle.std.specs.Option.{option_map_or}
use Rattle.std.proofs.lemmas.Bool.{and_parts}
use Rattle.std.proofs.lemmas.Bool.Decides.{Decides-like}
use Rattle.std.proofs.lemmas.List.{take_all}
use Rattle.std.proofs.lemmas.Option.{slice_get_within}
use Rattle.sq_gather.specs.Prelude.{TxnValue, RowList, effect, replay_rows, rows_of, FamilyValue, ReceiptValue, is_commit}
use Rattle.sq_gather.proofs.Prelude.{aborted_keeps, Contains-slice_get}
use Rattle.sq_audit.specs.Answers.{is_named, TellsLog, told_family, TellsFamily, StartsFrom}
use Rattle.sq_audit.specs.Told.{IsReplyOn, IsAfter, AreInOrder, IsReplay, IsFoundOf}
use Rattle.sq_audit.proofs.Each.{some_same, decides_not}
use Rattle.sq_audit.proofs.Lists.{counted, taken_at}
use Rattle.sq_audit.proofs.Walks.{WalkedTo, one_below, none_walked, step_commit, step_abort, fails_answer, fails_position, walk_ends, fails_end}

-- what comes after a list
next_there : {X : Type 0} (xs : List X) (y : X) (ys : List X) → slice_get (xs ++ y ∷ ys) (length xs) ≡ Some y
next_there [] y ys = refl
next_there (x ∷ xs) y ys = next_there xs y ys

-- lists with the same elements up to a place
pub taken_same : {X : Type 0} (n : ℕ) (xs ys : List X) → n ≤ length xs → n ≤ length ys → ((q : ℕ) → q < n → slice_get xs q ≡ slice_get ys q) → take n xs ≡ take n ys
taken_same zero xs ys upto also same = refl
taken_same (suc n) [] ys upto also same = absurd (omega (arith, upto))
taken_same (suc n) (x ∷ xs) [] upto also same = absurd (omega (arith, also))
taken_same (suc n) (x ∷ xs) (y ∷ ys) upto also same =
    let first : x ≡ y = some_same (same 0 (omega arith)) in
    let rest = taken_same n xs ys (omega (arith, upto)) (omega (arith, also)) (λ q low. same (suc q) (omega (arith, low))) in
    λ i. first i ∷ rest i

-- a list has an element at each place below its length
reaches_to : {X : Type 0} (n : ℕ) (xs : List X) → ((q : ℕ) → q < n → (x : X) × (slice_get xs q ≡ Some x)) → n ≤ length xs
reaches_to zero xs each = omega arith
reaches_to (suc n) xs each = let last = each n (omega arith) in let within = slice_get_within xs n last.0 last.1 in omega (arith, within)

module _ (family : FamilyValue) (base : RowList) (group : List ReceiptValue) where
  -- some log of this length was told, and the walk went along each that begins with it
  pub record RetoldTo (i position : ℕ) (rows : RowList) : Type 0 where
    pub log : List TxnValue
    pub long : length log ≡ position
    pub along : (rest : List TxnValue) → WalkedTo (told_family family.root base (log ++ rest)) group i position rows

  pub none_told : RetoldTo 0 0 base
  none_told = record { log = []; long = refl; along = λ rest. none_walked (told_family family.root base rest) group }

module _ (family : FamilyValue) (base : RowList) (group : List ReceiptValue) where
  abbrev on : List TxnValue → FamilyValue
  on log = told_family family.root base log

  abbrev Retold : ℕ → ℕ → RowList → Type 0
  Retold i position rows = RetoldTo family base group i position rows

  -- a log that the receipts tell
  module _ (other : List TxnValue) (tells : TellsLog (on other) group) where
    -- at a position that a receipt names the log has its transaction
    named_there : (r : ReceiptValue) → Contains group r → is_commit r.reply ≡ true → (position : ℕ) → r.position ≡ position → slice_get other position ≡ Some r.txn
    named_there r has commits position here = ap (slice_get other) (sym here) ∙ (tells.known r has).there commits

    module _ (i position : ℕ) (rows : RowList) (so_far : Retold i position rows) where
      alone : WalkedTo (on (so_far.log ++ [])) group i position rows
      alone = so_far.along []

      both : (q : ℕ) → q < position → (txn : TxnValue) × (slice_get (so_far.log ++ []) q ≡ Some txn) × (slice_get other q ≡ Some txn)
      both q low =
          let once = alone.named q ∙ one_below q position low in
          let some = counted (is_named q) (take i group) (omega (arith, once)) in
          let stood = taken_at group i some.place some.one some.there in
          let parts = and_parts (is_commit some.one.reply) (some.one.position == q) some.passes in
          let known = alone.known some.place some.one stood.before stood.there in
          let here = eqb-true some.one.position q parts.1 in (
            some.one.txn,
            ap (slice_get (so_far.log ++ [])) (sym here) ∙ known.there parts.0,
            named_there some.one (Contains-slice_get group some.place some.one stood.there) parts.0 q here,
          )

      -- the walk goes along it too
      pub walks_along : WalkedTo (on other) group i position rows
      walks_along =
          let within = reaches_to position other (λ q low. let one = both q low in (one.0, one.2)) in
          let inside = alone.within in
          record {
            rows_are = alone.rows_are ∙ ap (replay_rows base) (taken_same position (so_far.log ++ []) other inside within (λ q low. let one = both q low in one.1 ∙ sym one.2));
            within = within;
            known = λ k r low at. tells.known r (Contains-slice_get group k r at);
            named = alone.named;
          }

    -- another one as long is the same
    pub told_same : (log : List TxnValue) → TellsLog (on log) group → length log ≡ length other → log ≡ other
    told_same log also long =
        sym (take_all (length other) log (omega (arith, long)))
        ∙ taken_same (length other) log other (omega (arith, long)) (omega arith) (λ q low. let one = at q low in one.1 ∙ sym one.2)
        ∙ take_all (length other) other (omega arith)
      where
        at : (q : ℕ) → q < length other → (txn : TxnValue) × (slice_get log q ≡ Some txn) × (slice_get other q ≡ Some txn)
        at q low =
            let once = tells.named q ∙ one_below q (length other) low in
            let some = counted (is_named q) group (omega (arith, once)) in
            let parts = and_parts (is_commit some.one.reply) (some.one.position == q) some.passes in
            let has = Contains-slice_get group some.place some.one some.there in
            let known = also.known some.one has in
            let here = eqb-true some.one.position q parts.1 in (
              some.one.txn,
              ap (slice_get log) (sym here) ∙ known.there parts.0,
              named_there some.one has parts.0 q here,
            )

  module _ (i position : ℕ) (rows : RowList) (so_far : Retold i position rows) where
    module _ (r : ReceiptValue) (at : slice_get group i ≡ Some r) (here : r.position ≡ position) where
      -- one more receipt is the right answer
      module _ (told : IsReplyOn rows r) (after : RowList) (is_after : IsAfter rows r after) where
        pub told_commit : is_commit r.reply ≡ true → Retold (i + 1) (position + 1) after
        told_commit commits =
            let one = r.txn in
            record {
              log = so_far.log ++ one ∷ [];
              long = length-append so_far.log (one ∷ []) ∙ (let long = so_far.long in let e : length so_far.log + 1 ≡ position + 1 = omega (arith, long) in e);
              along = λ rest.
                  subst (λ (log : List TxnValue). WalkedTo (on log) group (i + 1) (position + 1) after) (sym (append_assoc so_far.log (one ∷ []) rest))
                  (let log = so_far.log ++ one ∷ rest in
                  let next : slice_get log position ≡ Some one = ap (slice_get log) (sym so_far.long) ∙ next_there so_far.log one rest in
                  step_commit (on log) group i position rows (so_far.along (one ∷ rest)) r at here
                  (told, (λ _. next)) after
                  (is_after ∙ sym (λ k. if commits k then option_map_or (effect rows) (next k) rows else rows)) commits);
            }

        pub told_abort : is_commit r.reply ≡ false → Retold (i + 1) position after
        told_abort aborts =
            let one = r.txn in
            let keeps : effect rows one ≡ rows = aborted_keeps rows one (ap is_commit (sym told) ∙ aborts) in
            record {
              log = so_far.log;
              long = so_far.long;
              along = λ rest.
                  let log = so_far.log ++ rest in
                  step_abort (on log) group i position rows (so_far.along rest) r at here
                  (told, (λ commits. absurd (true≢false (sym commits ∙ aborts)))) after
                  (is_after ∙ keeps ∙ sym (ap (λ b. if b then option_map_or (effect rows) (slice_get log position) rows else rows) aborts)) aborts;
            }

      -- a receipt with another reply
      pub none_answers : (IsReplyOn rows r → ⊥) → TellsFamily base family group → ⊥
      none_answers wrong family_told =
          let log = family_told.0 in
          fails_answer (on log) group i position rows (walks_along log family_told.2 i position rows so_far) r at here (λ told. wrong told.0) family_told.2

    -- a receipt at another position
    pub none_there : (r : ReceiptValue) → slice_get group i ≡ Some r → AreInOrder group → (r.position ≡ position → ⊥) → TellsFamily base family group → ⊥
    none_there r at order apart family_told =
        let log = family_told.0 in
        fails_position (on log) group i position rows (walks_along log family_told.2 i position rows so_far) r at order apart family_told.2

    -- the end
    pub told_ends : length group ≤ i → position ≡ length family.log → IsReplay base family group (Some rows)
    told_ends whole ends =
        let log = so_far.log ++ [] in
        let walked = so_far.along [] in
        let long : length log ≡ position = ap length (append-nil so_far.log) ∙ so_far.long in (
          log,
          long ∙ ends,
          walk_ends (on log) group i position rows walked whole (sym long),
          walked.rows_are ∙ ap (replay_rows base) (take_all position log (omega (arith, long))),
        )

    pub none_ends : length group ≤ i → (position ≡ length family.log → ⊥) → TellsFamily base family group → ⊥
    none_ends whole apart family_told =
        let log = family_told.0 in
        let long = family_told.1 in
        fails_end (on log) group i position rows (walks_along log family_told.2 i position rows so_far) whole (λ same. apart (same ∙ long)) family_told.2

  -- what is found of the family after a replay
  module _ (log : List TxnValue) (long : length log ≡ length family.log) (tells : TellsLog (on log) group) where
    -- it starts from the base rows where it has the rows after the log
    pub starts_if : rows_of family ≡ replay_rows base log → StartsFrom base family group
    starts_if same = record {
      fresh = λ empty. same ∙ ap (replay_rows base) (none_in log (let e = long ∙ empty in omega (arith, e)));
      told = λ other other_long also. same ∙ ap (replay_rows base) (sym (told_same log tells other also (other_long ∙ sym long)));
    }
      where
        none_in : (xs : List TxnValue) → length xs ≤ 0 → xs ≡ []
        none_in [] none = refl
        none_in (x ∷ xs) none = absurd (omega (arith, none))

    pub starts_then : StartsFrom base family group → rows_of family ≡ replay_rows base log
    starts_then starts = starts.told log long tells

  -- what is found where a log was told that leaves these rows, and where none is told
  pub found_some : (rows : RowList) (b : Bool) → IsReplay base family group (Some rows) → Decides b (rows_of family ≡ rows) → IsFoundOf base family group (record { start = b; known = true })
  found_some rows b replay decides = record {
    start = Decides-like b
        (λ same. starts_if replay.0 replay.1 replay.2 (same ∙ replay.3))
        (λ starts. starts_then replay.0 replay.1 replay.2 starts ∙ sym replay.3)
        decides;
    known = ((λ e. (replay.0, replay.1, replay.2)), (λ told. refl));
  }

  pub found_none : (b : Bool) → (TellsFamily base family group → ⊥) → Decides b (length family.log ≡ 0 → rows_of family ≡ base) → IsFoundOf base family group (record { start = b; known = false })
  found_none b none decides = record {
    start = Decides-like b
        (λ fresh. record { fresh = fresh; told = λ log long tells. absurd (none (log, long, tells)) })
        (λ starts. starts.fresh)
        decides;
    known = decides_not none;
  }
