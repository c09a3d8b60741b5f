-- A walk over receipts of one root key, in order, against the log of its family.
use Rattle.std.proofs.Common.{◌≡◌, ⊎_elim, ℕ, ◌+◌, ◌<◌, ◌≤◌, ◌==◌, Bool, true, false, nat_lt, if◌then◌else◌, List, [], ◌∷◌, ◌++◌, length, get_or, take, drop, slice_get, Some, refl, sym, ap, ◌∙◌, subst, arith, eqb-true, eq-eqb, add-one}
use Rattle.std.specs.Prelude.{count_by}
use Rattle.std.specs.Option.{option_map_or}
use Rattle.std.proofs.lemmas.Bool.{cases_lt, cases_eq, and_parts, and_from, and_left, and_right, ne_eqb, lt-ltb, le-ltb}
use Rattle.std.proofs.lemmas.List.{take_all}
use Rattle.std.proofs.lemmas.List.Sums.{count_by_more_yes, count_by_more_no, fold-append}
use Rattle.std.proofs.lemmas.Option.{slice_get_within, get_or_from_slice_get}
use Rattle.std.proofs.Math.Seq.{take-suc}
use Rattle.sq_gather.specs.Prelude.{TxnValue, RowList, effect, reply, replay_rows, FamilyValue, one_if, ReceiptValue, is_commit}
use Rattle.sq_gather.proofs.Prelude.{Contains-slice_get, slice_get-Contains}
use Rattle.sq_audit.specs.Answers.{IsAnswerTo, IsAnswerOn, is_named, TellsLog}
use Rattle.sq_audit.specs.Told.{rows_then, AreInOrder}
use Rattle.sq_audit.proofs.Each.{each_more}
use Rattle.sq_audit.proofs.Lists.{counted, count_parts, taken_at, dropped_at}

-- one more transaction is replayed
replayed_more : (base : RowList) (log : List TxnValue) (position : ℕ) (txn : TxnValue) → slice_get log position ≡ Some txn → replay_rows base (take (position + 1) log) ≡ effect (replay_rows base (take position log)) txn
replayed_more base log position txn at =
    let within = slice_get_within log position txn at in
    ap (λ n. replay_rows base (take n log)) (add-one position) ∙ ap (replay_rows base) (take-suc log position txn within)
    ∙ ap (λ (t : TxnValue). replay_rows base (take position log ++ t ∷ [])) (get_or_from_slice_get log position txn txn at)
    ∙ fold-append effect base (take position log) (txn ∷ [])

pub one_below : (q n : ℕ) → q < n → one_if (nat_lt q n) ≡ 1
one_below q n low = ap one_if (lt-ltb q n low)

none_from : (q n : ℕ) → n ≤ q → one_if (nat_lt q n) ≡ 0
none_from q n from = ap one_if (le-ltb q n from)

at_most_one : (b : Bool) → one_if b ≤ 1
at_most_one true = omega arith
at_most_one false = omega arith

named_at : (q : ℕ) (r : ReceiptValue) → is_commit r.reply ≡ true → r.position ≡ q → is_named q r ≡ true
named_at q r commits here = and_from (is_commit r.reply) (r.position == q) commits (eq-eqb r.position q here)

module _ (family : FamilyValue) (group : List ReceiptValue) where
  -- receipts before a place are known, and name each position below this one once
  pub record WalkedTo (i position : ℕ) (rows : RowList) : Type 0 where
    pub rows_are : rows ≡ replay_rows family.base (take position family.log)
    pub within : position ≤ length family.log
    pub known : (k : ℕ) (r : ReceiptValue) → k < i → slice_get group k ≡ Some r → IsAnswerTo family r
    pub named : (q : ℕ) → count_by (is_named q) (take i group) ≡ one_if (nat_lt q position)

  module _ (i position : ℕ) (rows : RowList) (so_far : WalkedTo i position rows) (r : ReceiptValue) (at : slice_get group i ≡ Some r) where
    known_from : r.position ≡ position → IsAnswerOn rows (slice_get family.log position) r → IsAnswerTo family r
    known_from here told = record {
      within = subst (λ n. n ≤ length family.log) (sym here) so_far.within;
      told = told.0 ∙ ap (λ (rs : RowList). reply rs r.txn) (so_far.rows_are ∙ ap (λ n. replay_rows family.base (take n family.log)) (sym here));
      there = λ commits. ap (slice_get family.log) here ∙ told.1 commits;
    }

    answered_from : r.position ≡ position → IsAnswerTo family r → IsAnswerOn rows (slice_get family.log position) r
    answered_from here is = (
      is.told ∙ ap (λ (rs : RowList). reply rs r.txn) (ap (λ n. replay_rows family.base (take n family.log)) here ∙ sym so_far.rows_are),
      (λ commits. ap (slice_get family.log) (sym here) ∙ is.there commits),
    )

    within_group : i < length group
    within_group = slice_get_within group i r at

    here_is : get_or group i r ≡ r
    here_is = get_or_from_slice_get group i r r at

    module _ (here : r.position ≡ position) (told : IsAnswerOn rows (slice_get family.log position) r) (after : RowList) (after_is : after ≡ rows_then rows (slice_get family.log position) r) where
      pub step_commit : is_commit r.reply ≡ true → WalkedTo (i + 1) (position + 1) after
      step_commit commits =
          let txn = r.txn in
          let next : slice_get family.log position ≡ Some txn = told.1 commits in
          let below = slice_get_within family.log position txn next in
          record {
            rows_are = after_is ∙ (λ k. if commits k then option_map_or (effect rows) (next k) rows else rows) ∙ ap (λ (rs : RowList). effect rs txn) so_far.rows_are ∙ sym (replayed_more family.base family.log position txn next);
            within = omega (arith, below);
            known = each_more (IsAnswerTo family) group i r so_far.known at (known_from here told);
            named = λ q.
                ⊎_elim
                (λ same.
                let more = count_by_more_yes (is_named q) group i r within_group (ap (is_named q) here_is ∙ named_at q r commits (here ∙ sym same)) in
                more ∙ ap (λ n. n + 1) (so_far.named q ∙ none_from q position (omega (arith, same))) ∙ sym (one_below q (position + 1) (omega (arith, same))))
                (λ apart.
                let fails = and_right (is_commit r.reply) (r.position == q) (ne_eqb r.position q (λ e. apart (sym e ∙ here))) in
                count_by_more_no (is_named q) group i r within_group (ap (is_named q) here_is ∙ fails) ∙ so_far.named q ∙ sym (one_more q apart))
                (cases_eq q position);
          }
        where
          one_more : (q : ℕ) → (q ≡ position → ⊥) → one_if (nat_lt q (position + 1)) ≡ one_if (nat_lt q position)
          one_more q apart =
              ⊎_elim
              (λ low. one_below q (position + 1) (omega (arith, low)) ∙ sym (one_below q position low))
              (λ from. none_from q (position + 1) (⊎_elim (λ over. omega (arith, over)) (λ upto. absurd (apart (omega (arith, from, upto)))) (cases_lt position q)) ∙ sym (none_from q position from))
              (cases_lt q position)

      pub step_abort : is_commit r.reply ≡ false → WalkedTo (i + 1) position after
      step_abort aborts =
          record {
            rows_are = after_is ∙ ap (λ b. if b then option_map_or (effect rows) (slice_get family.log position) rows else rows) aborts ∙ so_far.rows_are;
            within = so_far.within;
            known = each_more (IsAnswerTo family) group i r so_far.known at (known_from here told);
            named = λ q. count_by_more_no (is_named q) group i r within_group (ap (is_named q) here_is ∙ and_left (is_commit r.reply) (r.position == q) aborts) ∙ so_far.named q;
          }

    -- a receipt with another reply
    pub fails_answer : r.position ≡ position → (IsAnswerOn rows (slice_get family.log position) r → ⊥) → TellsLog family group → ⊥
    fails_answer here wrong tells = wrong (answered_from here (tells.known r (Contains-slice_get group i r at)))

    -- a receipt at another position
    pub fails_position : AreInOrder group → (r.position ≡ position → ⊥) → TellsLog family group → ⊥
    fails_position order apart tells =
        ⊎_elim low (λ from. high (let e : position < r.position = ⊎_elim (λ l. l) (λ upto. absurd (apart (omega (arith, from, upto)))) (cases_lt position r.position) in e)) (cases_lt r.position position)
      where
        q : ℕ
        q = r.position

        low : r.position < position → ⊥
        low below =
            let once = so_far.named r.position ∙ one_below r.position position below in
            let some = counted (is_named r.position) (take i group) (omega (arith, once)) in
            let stood = taken_at group i some.place some.one some.there in
            let parts = and_parts (is_commit some.one.reply) (some.one.position == r.position) some.passes in
            let same = eqb-true some.one.position r.position parts.1 in
            let commits : is_commit r.reply ≡ true =
            ⊎_elim (λ less. absurd (omega (arith, less, same))) (λ level. level.1 parts.0) (order some.place i some.one r stood.before stood.there at) in
            let more = count_by_more_yes (is_named r.position) group i r within_group (ap (is_named r.position) here_is ∙ named_at r.position r commits refl) in
            let all = count_parts (is_named r.position) group (i + 1) in
            let total = tells.named r.position in
            let bound = at_most_one (nat_lt r.position (length family.log)) in
            omega (arith, once, more, all, total, bound)

        high : position < r.position → ⊥
        high above =
            let known = tells.known r (Contains-slice_get group i r at) in
            let inside = known.within in
            let total = tells.named position ∙ one_below position (length family.log) (omega (arith, above, inside)) in
            let none = so_far.named position ∙ none_from position position (omega arith) in
            let all = count_parts (is_named position) group i in
            let some = counted (is_named position) (drop i group) (omega (arith, total, none, all)) in
            let stood = dropped_at group i some.place some.one some.there in
            let parts = and_parts (is_commit some.one.reply) (some.one.position == position) some.passes in
            let same = eqb-true some.one.position position parts.1 in
            ⊎_elim
            (λ later. ⊎_elim (λ less. omega (arith, less, same, above)) (λ level. let e = level.0 in omega (arith, e, same, above)) (order i (i + some.place) r some.one later at stood))
            (λ first.
            let here : i + some.place ≡ i = omega (arith, first) in
            let one_is = subst (λ n. slice_get group n ≡ Some some.one) here stood in
            let same_one : r ≡ some.one = same_some at one_is in
            let e = ap (λ (x : ReceiptValue). x.position) same_one in
            omega (arith, e, same, above))
            (cases_lt i (i + some.place))
          where
            same_some : {x y : ReceiptValue} → slice_get group i ≡ Some x → slice_get group i ≡ Some y → x ≡ y
            same_some one other = cc

  -- no receipt is walked over yet
  pub none_walked : WalkedTo 0 0 family.base
  none_walked =
      record {
        rows_are = refl;
        within = omega arith;
        known = λ k r low at. absurd (omega (arith, low));
        named = λ q. sym (none_from q 0 (omega arith));
      }

  -- once all receipts are walked over, the log is complete where its end is reached
  pub walk_ends : (i position : ℕ) (rows : RowList) → WalkedTo i position rows → length group ≤ i → position ≡ length family.log → TellsLog family group
  walk_ends i position rows so_far whole ends =
      record {
        known = λ r has.
            let there = slice_get-Contains group r has in
            let within = slice_get_within group has.0 r there in
            so_far.known has.0 r (omega (arith, within, whole)) there;
        named = λ q. ap (count_by (is_named q)) (sym (take_all i group whole)) ∙ so_far.named q ∙ ap (λ n. one_if (nat_lt q n)) ends;
      }

  pub fails_end : (i position : ℕ) (rows : RowList) → WalkedTo i position rows → length group ≤ i → (position ≡ length family.log → ⊥) → TellsLog family group → ⊥
  fails_end i position rows so_far whole apart tells =
      let inside = so_far.within in
      let below : position < length family.log = ⊎_elim (λ l. l) (λ upto. absurd (apart (omega (arith, inside, upto)))) (cases_lt position (length family.log)) in
      let total = tells.named position ∙ one_below position (length family.log) below in
      let none = ap (count_by (is_named position)) (sym (take_all i group whole)) ∙ so_far.named position ∙ none_from position position (omega arith) in
      omega (arith, total, none)
