-- Operations, read one after another.
use Rattle.std.proofs.Common.{◌≡◌, ℕ, zero, suc, ◌<◌, ◌≤◌, List, [], ◌∷◌, ◌++◌, length, Option, Some, None, Err, refl, sym, ap, ◌∙◌, arith}
use Rattle.sq_schema.specs.declared.txn.Op.{Op}
use Rattle.sq_text.specs.declared.verb.OpName.{OpName}
use Rattle.sq_text.specs.Words.{Word, ◌>>=◌}
use Rattle.sq_text.specs.Verbs.{op_name_in}
use Rattle.sq_text.specs.Ops.{op_with, op_field, ops_within, ops_in}
use Rattle.sq_text.specs.Fields.{word_field}
use Rattle.sq_text.proofs.Shrinks.{Shrinks, word_shrinks, op_shrinks, bind_some}
use Rattle.std.proofs.lemmas.List.{append-nil}
use Rattle.sq_text.specs.declared.fault.ReadFault.{ReadFault}
use Rattle.sq_text.specs.declared.fault.ReadFault.TheVariants as faults
use Rattle.sq_text.specs.Faults.{IsParsedGivenMemory}
use Rattle.sq_text.proofs.Onto.{onto, onto_more}

-- an operation takes words
op_field_shrinks : Shrinks op_field
op_field_shrinks words x e =
    let name = bind_some (word_field op_name_in words) (λ name. op_with name.0 name.1) x e in
    omega (arith, word_shrinks op_name_in words name.0 name.1, op_shrinks name.0.0 name.0.1 x name.2)

-- the operations after the first, at most n of them
abbrev with_others : ℕ → Op × List Word → Option (List Op)
with_others n first = ops_within n first.1 >>= λ others. Some (first.0 ∷ others)

same_after : (n m : ℕ) (first : Option (Op × List Word)) → ((x : Op × List Word) → first ≡ Some x → ops_within n x.1 ≡ ops_within m x.1) → (first >>= with_others n) ≡ (first >>= with_others m)
same_after n m None same = refl
same_after n m (Some x) same = ap (λ (o : Option (List Op)). o >>= λ others. Some (x.0 ∷ others)) (same x refl)

-- the bound on the operations doesn't matter, where it is no less than the count of the words
ops_same : (n m : ℕ) (words : List Word) → length words ≤ n → length words ≤ m → ops_within n words ≡ ops_within m words
unfolding ops_within
ops_same n m [] le le' = refl
ops_same zero m (word ∷ words) le le' = absurd (omega arith)
ops_same (suc n) zero (word ∷ words) le le' = absurd (omega arith)
ops_same (suc n) (suc m) (word ∷ words) le le' =
    same_after n m (op_field (word ∷ words)) (λ x e. let less = op_field_shrinks (word ∷ words) x e in ops_same n m x.1 (omega arith) (omega arith))

-- one more operation is read
pub goes_on : (front new : List Op) (word : Word) (before words rest : List Word) (name : OpName) (o : Op) (total : Option (List Op)) → before ≡ word ∷ words → op_name_in word ≡ Some name → op_with name words ≡ Some (o, rest) → new ≡ front ++ o ∷ [] → onto front (ops_in before) ≡ total
    → onto new (ops_in rest) ≡ total
unfolding ops_within
goes_on front new word before words rest name o total next named one is so_far =
    let less = op_shrinks name words (o, rest) one in
    rw (is, onto_more front o (ops_in rest), ops_same (length rest) (length words) rest (omega arith) (omega arith)) (rw (next, named, one) at so_far)

pub unnamed : (front : List Op) (word : Word) (before words : List Word) (total : Option (List Op)) → before ≡ word ∷ words → op_name_in word ≡ None → onto front (ops_in before) ≡ total → total ≡ None
unfolding ops_within
unnamed front word before words total next named so_far = sym (rw (next, named) at so_far)

malformed : (front : List Op) (word : Word) (before words : List Word) (name : OpName) (total : Option (List Op)) → before ≡ word ∷ words → op_name_in word ≡ Some name → op_with name words ≡ None → onto front (ops_in before) ≡ total → total ≡ None
unfolding ops_within
malformed front word before words name total next named none so_far = sym (rw (next, named, none) at so_far)

pub fails : {X Y : Type 0} (view : X → Op × List Word) (all : Y → List Op) (e : ReadFault) (front : List Op) (word : Word) (before words : List Word) (name : OpName) (total : Option (List Op)) → before ≡ word ∷ words → op_name_in word ≡ Some name
    → IsParsedGivenMemory view (Err e) (op_with name words) → onto front (ops_in before) ≡ total → IsParsedGivenMemory all (Err e) total
fails view all faults.Malformed front word before words name total next named none so_far = malformed front word before words name total next named none so_far
fails view all faults.Memory front word before words name total next named none so_far = tt

pub all_read : (front : List Op) (before : List Word) (total : Option (List Op)) → before ≡ [] → onto front (ops_in before) ≡ total → total ≡ Some front
unfolding ops_within
all_read front before total next so_far = sym (rw next at so_far) ∙ ap Some (append-nil front)

pub takes_words : (before words rest : List Word) (word : Word) (name : OpName) (o : Op) → before ≡ word ∷ words → op_with name words ≡ Some (o, rest) → length rest < length before
takes_words before words rest word name o next one = let less = op_shrinks name words (o, rest) one in rw next (omega arith)
