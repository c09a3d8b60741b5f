-- How often receipts name a position.
use Rattle.std.proofs.Common.{◌≡◌, inl, inr, ℕ, ◌+◌, true, false, ◌==◌, ◌&&◌, nat_le, nat_lt, if◌then◌else◌, length, List, [], ◌∷◌, ◌++◌, Contains, sym, ap, ◌∙◌, arith}
use Rattle.std.specs.List.{list_any}
use Rattle.std.proofs.lemmas.Bool.{cases_Bool, and_parts, eqb-true}
use Rattle.std.proofs.lemmas.Bool.Decides.{nat_tests}
use Rattle.std.proofs.lemmas.List.Sums.{sum_by-append, length-filter}
use Rattle.sq_model.proofs.Lists.{any_in, nothing_kept}
use Rattle.sq_shared.specs.View.{one_if}
use Rattle.sq_node_model.specs.NodeValue.{ReceiptValue}
use Rattle.sq_node_model.specs.Receipts.{is_commit, names, times_named}

-- where no committed receipt is of the root key, no position is named
pub unnamed : (root position : ℕ) (receipts : List ReceiptValue) → ((receipt : ReceiptValue) → Contains receipts receipt → is_commit receipt.reply ≡ true → receipt.txn.root ≡ root → ⊥) → times_named root position receipts ≡ 0
unnamed root position receipts none =
    sym (length-filter (names root position) receipts) ∙ ap length (nothing_kept (names root position) receipts no_name)
  where
    no_name : list_any (names root position) receipts ≡ false
    no_name =
        elim (cases_Bool (list_any (names root position) receipts)) [
          | inl some ↦
              let found = any_in (names root position) receipts some in
              let at = (found.0).position == position in
              let parts = and_parts (is_commit (found.0).reply) (((found.0).txn.root == root) && at) found.2 in
              let of_root = and_parts ((found.0).txn.root == root) at parts.1 in
              absurd (none found.0 found.1 parts.0 (eqb-true (found.0).txn.root root of_root.0))
          | inr e ↦ e
        ]

-- one more receipt may name the position once more
pub named_more : (root position : ℕ) (receipts : List ReceiptValue) (receipt : ReceiptValue) → times_named root position (receipts ++ receipt ∷ []) ≡ times_named root position receipts + one_if (names root position receipt)
named_more root position receipts receipt =
    sum_by-append (λ other. if names root position other then 1 else 0) receipts (receipt ∷ [])
    ∙ (let e : times_named root position receipts + (0 + one_if (names root position receipt)) ≡ times_named root position receipts + one_if (names root position receipt) = omega arith in e)

-- no position is both before a number and not before it
pub none_between : (n position : ℕ) → one_if (nat_le n position && nat_lt position n) ≡ 0
none_between n position = grind (arith, nat_tests)
