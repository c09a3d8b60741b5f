-- What jobs were told, receipt after receipt.
use Rattle.std.proofs.Common.{◌≡◌, ℕ, ◌==◌, List, [], ◌∷◌, ◌++◌, Option, Some, None, refl, sym, ap, subst, ◌∙◌}
use Rattle.std.specs.Prelude.{option_map}
use Rattle.std.specs.Option.{option_or}
use Rattle.std.proofs.lemmas.List.Folds.{find-append}
use Rattle.sq_model.specs.declared.answer.Answer.{Answer}
use Rattle.sq_node_model.specs.NodeValue.{ReceiptValue}
use Rattle.sq_results.specs.Answered.{RepliesValue, told_of, receipt_answer, first_answer, IsToldAfter}

-- nothing is added to what there may be
or_none : {X : Type 0} (one : Option X) → option_or one None ≡ one
or_none None = refl
or_none (Some x) = refl

-- the first of three
or_three : {X : Type 0} (one two three : Option X) → option_or (option_or one two) three ≡ option_or one (option_or two three)
or_three None two three = refl
or_three (Some x) two three = refl

-- what is made of the first of two
map_or : {X Y : Type 0} (f : X → Y) (one two : Option X) → option_map f (option_or one two) ≡ option_or (option_map f one) (option_map f two)
map_or f None two = refl
map_or f (Some x) two = refl

-- the first answer in two lists of receipts
first_in_both : (receipts more : List ReceiptValue) (id : ℕ) → first_answer (receipts ++ more) id ≡ option_or (first_answer receipts id) (first_answer more id)
first_in_both receipts more id =
    let is = λ (receipt : ReceiptValue). receipt.txn.id == id in
    ap (option_map receipt_answer) (find-append is receipts more) ∙ map_or receipt_answer _ _

-- without receipts nothing is told
pub told_nothing : (replies : RepliesValue) → IsToldAfter replies [] replies
told_nothing replies = record { ids = refl; told = λ id. sym (or_none (told_of replies.told id)) }

-- one receipt more is taken
pub told_more : (old now new : RepliesValue) (receipts : List ReceiptValue) (receipt : ReceiptValue) → IsToldAfter old receipts now → IsToldAfter now (receipt ∷ []) new → IsToldAfter old (receipts ++ receipt ∷ []) new
told_more old now new receipts receipt before last =
    record {
      ids = last.ids ∙ before.ids;
      told = λ id.
          last.told id ∙ ap (λ (one : Option Answer). option_or one (first_answer (receipt ∷ []) id)) (before.told id) ∙ or_three (told_of old.told id) _ _
          ∙ ap (λ (one : Option Answer). option_or (told_of old.told id) one) (sym (first_in_both receipts (receipt ∷ []) id));
    }

-- the same of equal lists of receipts
pub told_by : (old new : RepliesValue) (receipts same : List ReceiptValue) → receipts ≡ same → IsToldAfter old receipts new → IsToldAfter old same new
told_by old new receipts same e told = subst (λ (taken : List ReceiptValue). IsToldAfter old taken new) e told
