-- The lines of receipts, and interleavings of several lists.
use Rattle.std.specs.Prelude.{◌≡◌, ℕ, List, [], ◌∷◌, All, slice_get, slice_set, Some}
use Rattle.sq_text.specs.Texts.{line, reply_words}
use Rattle.sq_node_model.specs.NodeValue.{ReceiptValue}

-- the line of a receipt: the reply to its transaction
abbrev pub receipt_line : ReceiptValue → List ℕ
receipt_line receipt = line (reply_words receipt.txn.id receipt.reply)

-- the whole has the elements of each part once, and those of each in the part's order: the first of
-- the whole is the first of some part, and the others are an interleaving of what is left
abbrev pub Interleaves : {X : Type 0} → List (List X) → List X → Type 0
Interleaves parts [] = All (λ part. part ≡ []) parts
Interleaves {X} parts (x ∷ whole) =
    (i : ℕ) × (rest : List X) × (slice_get parts i ≡ Some (x ∷ rest))
    × Interleaves (slice_set parts i rest) whole
