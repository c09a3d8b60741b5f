-- What receipts say of a family whose log grows.
use Rattle.std.proofs.Common.{◌≡◌, ℕ, ◌+◌, ◌≤◌, ◌==◌, ◌&&◌, nat_le, nat_lt, [], ◌∷◌, ◌++◌, length, take, slice_get, sym, ap, ap₂, ◌∙◌, length-append, arith}
use Rattle.std.proofs.lemmas.Bool.Decides.{nat_tests}
use Rattle.std.proofs.lemmas.List.{take-append-le}
use Rattle.std.proofs.lemmas.Option.{slice_get_within}
use Rattle.std.proofs.Math.Seq.{take-append_seam}
use Rattle.sq_schema.specs.TxnValue.{TxnValue}
use Rattle.sq_schema.specs.Effect.{replay_rows, reply}
use Rattle.sq_schema.specs.Family.{FamilyValue, rows_of, logged}
use Rattle.sq_shared.specs.View.{one_if}
use Rattle.sq_node_model.specs.NodeValue.{ReceiptValue}
use Rattle.sq_node_model.specs.BeganWith.{GrowsFrom}
use Rattle.sq_node_model.specs.Receipts.{IsToldBy, IsReplyIn}
use Rattle.sq_node_model.proofs.Members.{slice_get-front, slice_get-pushed}

-- a receipt of an earlier position stays right
pub told_more : (family : FamilyValue) (txn : TxnValue) (receipt : ReceiptValue) → IsToldBy family receipt → IsToldBy (logged family txn) receipt
told_more family txn receipt t =
    let within = slice_get_within family.log receipt.position receipt.txn t.there in
    record {
      there = slice_get-front family.log (txn ∷ []) receipt.position receipt.txn t.there;
      told = t.told ∙ ap (λ log. reply (replay_rows family.base log) receipt.txn) (sym (take-append-le receipt.position family.log (txn ∷ []) (omega arith)));
    }

-- and so is the receipt of the transaction that made the log grow
pub told_new : (family : FamilyValue) (receipt : ReceiptValue) → receipt.position ≡ length family.log → receipt.reply ≡ reply (rows_of family) receipt.txn → IsToldBy (logged family receipt.txn) receipt
told_new family receipt at is = record {
  there = ap (slice_get (family.log ++ receipt.txn ∷ [])) at ∙ slice_get-pushed family.log receipt.txn;
  told =
      is ∙ ap (λ log. reply (replay_rows family.base log) receipt.txn)
      (sym (ap (λ n. take n (family.log ++ receipt.txn ∷ [])) at ∙ take-append_seam family.log (receipt.txn ∷ [])));
}

-- the reply of a position stays that when the family has continued
pub reply_on : (first family : FamilyValue) (receipt : ReceiptValue) → GrowsFrom first family → IsReplyIn first receipt → IsReplyIn family receipt
reply_on first family receipt grows t =
    let more = grows.log.0 in
    let within = t.within in
    let all = ap length grows.log.1 ∙ length-append first.log more in
    record {
      within = omega (arith, within, all);
      told =
          t.told
          ∙ ap₂ (λ base log. reply (replay_rows base log) receipt.txn) (sym grows.base)
          (sym (ap (take receipt.position) grows.log.1 ∙ take-append-le receipt.position first.log more within));
    }

-- one position more is named
pub one_more_position : (first count position : ℕ) → first ≤ count → one_if (nat_le first position && nat_lt position count) + one_if (count == position) ≡ one_if (nat_le first position && nat_lt position (count + 1))
one_more_position first count position low = grind (arith, nat_tests)

pub from_zero : (position count : ℕ) → (nat_le 0 position && nat_lt position count) ≡ nat_lt position count
from_zero position count = grind (arith, nat_tests)

-- no position is before 0
pub none_before : (first position : ℕ) → one_if (nat_le first position && nat_lt position 0) ≡ 0
none_before first position = grind (arith, nat_tests)
