-- What the words of lines spell: keys within their range, signed numbers that an i64 holds, and notes of bytes.
use Rattle.std.proofs.Common.{◌≡◌, ℕ, ℤ, zero, suc, ◌+◌, ◌-◌, ◌*◌, ◌^◌, ◌<◌, ◌==◌, ◌&&◌, Bool, true, false, not, List, [], ◌∷◌, length, Option, Some, None, refl, arith}
use Rattle.std.specs.Prelude.{if◌then◌else◌, nat_lt, nat_le, pos, neg_ℤ, option_map, option_and_then, IfSome}
use Rattle.std.specs.Char.{is_ascii_digit}
use Rattle.std.specs.List.{All}
use Rattle.std.proofs.lemmas.Bool.Decides.{nat_tests}
use Rattle.std.proofs.lemmas.List.Elements.{All-nil, All-cons}
use Rattle.sq_rows.specs.declared.row.RowKey.{RowKey}
use Rattle.sq_rows.specs.Values.{RowValue}
use Rattle.sq_schema.specs.declared.txn.Op.{Op}
use Rattle.sq_schema.specs.declared.txn.Op.TheVariants as op
use Rattle.sq_schema.specs.Effect.{is_i64}
use Rattle.sq_moves.specs.Given.{GivenValue}
use Rattle.sq_text.specs.declared.verb.OpName.{OpName}
use Rattle.sq_text.specs.declared.verb.OpName.TheVariants.{Get, Put, Add, Del, Check}
use Rattle.sq_text.specs.Words.{Word, ◌>>=◌}
use Rattle.sq_text.specs.Numbers.{unsigned_in, negative_of, positive_of, signed_in}
use Rattle.sq_text.specs.Notes.{hex_digit_in, hex_byte_in, hex_in, note_in}
use Rattle.sq_text.specs.Fields.{word_field, number_field, signed_field, note_field, number_below, key_field, row_field, value_at_end}
use Rattle.sq_text.specs.HeaderFields.{given_in}
use Rattle.sq_text.specs.Ops.{op_at_key, op_with, op_field, ops_within, ops_in}
use Rattle.sq_text.specs.Verbs.{op_name_in}
use Rattle.sq_text.specs.Steps.{TxnLine, txn_in}

abbrev pub IsByte : ℕ → Type 0
IsByte byte = byte < 2 ^ 8

-- a key within its range
pub record InRange (key : RowKey) : Type 0 where
  pub table : nat_lt key.table (2 ^ 8) ≡ true
  pub sub : nat_lt key.sub (2 ^ 32) ≡ true

-- a row in memory
pub record IsSpelledRow (row : RowValue) : Type 0 where
  pub number : is_i64 row.number ≡ true
  pub note : All IsByte row.note

pub record IsSpelledGiven (given : GivenValue) : Type 0 where
  pub key : InRange given.key
  pub row : IsSpelledRow given.row

abbrev pub IsSpelledOp : Op → Type 0
IsSpelledOp (op.Get key) = Unit {0}
IsSpelledOp (op.Put key row) = InRange key × IsSpelledRow row
IsSpelledOp (op.Add key by) = Unit {0}
IsSpelledOp (op.Del key) = Unit {0}
IsSpelledOp (op.Check key least) = Unit {0}

-- steps of reading

pub anything : {A : Type 0} (o : Option A) → IfSome o (λ x. Unit {0})
anything None = tt
anything (Some x) = tt

-- what holds of each value made of one that is read, of which something holds
pub then_holds : {A B : Type 0} (P : A → Type 0) (Q : B → Type 0) (o : Option A) (next : A → Option B) → IfSome o P → ((x : A) → P x → IfSome (next x) Q) → IfSome (o >>= next) Q
then_holds P Q None next has goes = tt
then_holds P Q (Some x) next has goes = goes x has

and_then_holds : {A B : Type 0} (Q : B → Type 0) (o : Option A) (next : A → Option B) → ((x : A) → IfSome (next x) Q) → IfSome (option_and_then next o) Q
and_then_holds Q None next goes = tt
and_then_holds Q (Some x) next goes = goes x

-- a value under a test
if_holds : {A : Type 0} (P : A → Type 0) (b : Bool) (x : A) → (b ≡ true → P x) → IfSome (if b then Some x else None) P
if_holds P true x holds = holds refl
if_holds P false x holds = tt

word_holds : {A : Type 0} (P : A → Type 0) (read : Word → Option A) → ((word : Word) → IfSome (read word) P) → (words : List Word) → IfSome (word_field read words) (λ (found : A × List Word). P found.0)
word_holds P read each [] = tt
word_holds {A} P read each (word ∷ words) = mapped (read word) (each word)
  where
    mapped : (o : Option A) → IfSome o P → IfSome (option_map (λ (x : A). (x, words)) o) (λ (found : A × List Word). P found.0)
    mapped None has = tt
    mapped (Some x) has = has

pub end_holds : {A : Type 0} (P : A → Type 0) (o : Option (A × List Word)) → IfSome o (λ (found : A × List Word). P found.0) → IfSome (value_at_end o) P
end_holds P None has = tt
end_holds P (Some (x, [])) has = has
end_holds P (Some (x, word ∷ words)) has = tt

-- numbers

below_end : (end : ℕ) (words : List Word) → IfSome (number_below end words) (λ (found : ℕ × List Word). nat_lt found.0 end ≡ true)
below_end end words =
    then_holds (λ (found : ℕ × List Word). Unit {0}) (λ (found : ℕ × List Word). nat_lt found.0 end ≡ true) (number_field words) (λ number. if nat_lt number.0 end then Some number else None)
    (anything (number_field words))
    (λ number any. if_holds (λ (found : ℕ × List Word). nat_lt found.0 end ≡ true) (nat_lt number.0 end) number (λ small. small))

abbrev IsI64 : ℤ → Type 0
IsI64 z = is_i64 z ≡ true

negated : (n : ℕ) → (not (n == 0) && nat_le n (2 ^ 63)) ≡ true → is_i64 (neg_ℤ (pos n)) ≡ true
negated zero fits = refl
negated (suc n) fits = grind (arith, nat_tests)

signed_spelled : (word : Word) → IfSome (signed_in word) IsI64
signed_spelled [] = tt
signed_spelled (first ∷ others) =
    elim (first == 45) as (λ b. IfSome (if b then option_and_then negative_of (unsigned_in others) else option_and_then positive_of (unsigned_in (first ∷ others))) IsI64) [
      | true ↦ and_then_holds IsI64 (unsigned_in others) negative_of (λ n. if_holds IsI64 (not (n == 0) && nat_le n (2 ^ 63)) (neg_ℤ (pos n)) (negated n))
      | false ↦ and_then_holds IsI64 (unsigned_in (first ∷ others)) positive_of (λ n. if_holds IsI64 (nat_lt n (2 ^ 63)) (pos n) (λ small. small))
    ]

-- notes

low_digit : (digit : ℕ) → is_ascii_digit digit ≡ true → digit - 48 < 16
low_digit digit is = grind (arith, nat_tests)

letter : (digit : ℕ) → (nat_le 97 digit && nat_le digit 102) ≡ true → digit - 87 < 16
letter digit is = grind (arith, nat_tests)

abbrev IsDigit : ℕ → Type 0
IsDigit d = d < 16

digit_spelled : (digit : ℕ) → IfSome (hex_digit_in digit) IsDigit
digit_spelled digit =
    elim (is_ascii_digit digit) as (λ b. is_ascii_digit digit ≡ b → IfSome (if b then Some (digit - 48) else if nat_le 97 digit && nat_le digit 102 then Some (digit - 87) else None) IsDigit) [
      | true ↦ low_digit digit
      | false ↦ λ other. if_holds IsDigit (nat_le 97 digit && nat_le digit 102) (digit - 87) (letter digit)
    ] refl

byte_of : (h l : ℕ) → h < 16 → l < 16 → 16 * h + l < 2 ^ 8
byte_of h l high low = omega (arith, high, low)

byte_spelled : (high low : ℕ) → IfSome (hex_byte_in high low) IsByte
byte_spelled high low =
    then_holds IsDigit IsByte (hex_digit_in high) (λ h. hex_digit_in low >>= (λ l. Some (16 * h + l))) (digit_spelled high)
    (λ h small. then_holds IsDigit IsByte (hex_digit_in low) (λ l. Some (16 * h + l)) (digit_spelled low) (λ l little. byte_of h l small little))

hex_spelled : (digits : List ℕ) → IfSome (hex_in digits) (All IsByte)
hex_spelled [] = All-nil IsByte
hex_spelled (digit ∷ []) = tt
hex_spelled (high ∷ low ∷ digits) =
    then_holds IsByte (All IsByte) (hex_byte_in high low) (λ byte. hex_in digits >>= (λ bytes. Some (byte ∷ bytes))) (byte_spelled high low)
    (λ byte small. then_holds (All IsByte) (All IsByte) (hex_in digits) (λ bytes. Some (byte ∷ bytes)) (hex_spelled digits) (λ bytes all. All-cons IsByte byte bytes small all))

note_spelled : (word : Word) → IfSome (note_in word) (All IsByte)
note_spelled [] = tt
note_spelled (first ∷ others) = elim (first == 45 && length others == 0) as (λ b. IfSome (if b then Some [] else hex_in (first ∷ others)) (All IsByte)) [ true ↦ All-nil IsByte | false ↦ hex_spelled (first ∷ others) ]

-- fields

key_spelled : (words : List Word) → IfSome (key_field words) (λ (found : RowKey × List Word). InRange found.0)
unfolding key_field
key_spelled words =
    then_holds (λ (found : ℕ × List Word). nat_lt found.0 (2 ^ 8) ≡ true) (λ (found : RowKey × List Word). InRange found.0) (number_below (2 ^ 8) words)
    (λ table. number_below (2 ^ 32) table.1 >>= (λ sub. Some (record { table = table.0; sub = sub.0 }, sub.1)))
    (below_end (2 ^ 8) words)
    (λ table small. then_holds (λ (found : ℕ × List Word). nat_lt found.0 (2 ^ 32) ≡ true) (λ (found : RowKey × List Word). InRange found.0) (number_below (2 ^ 32) table.1)
    (λ sub. Some (record { table = table.0; sub = sub.0 }, sub.1))
    (below_end (2 ^ 32) table.1)
    (λ sub little. record { table = small; sub = little }))

row_spelled : (words : List Word) → IfSome (row_field words) (λ (found : RowValue × List Word). IsSpelledRow found.0)
unfolding row_field
row_spelled words =
    then_holds (λ (found : ℤ × List Word). IsI64 found.0) (λ (found : RowValue × List Word). IsSpelledRow found.0) (signed_field words)
    (λ number. note_field number.1 >>= (λ note. Some (record { number = number.0; note = note.0 }, note.1)))
    (word_holds IsI64 signed_in signed_spelled words)
    (λ number small. then_holds (λ (found : List ℕ × List Word). All IsByte found.0) (λ (found : RowValue × List Word). IsSpelledRow found.0) (note_field number.1)
    (λ note. Some (record { number = number.0; note = note.0 }, note.1))
    (word_holds (All IsByte) note_in note_spelled number.1)
    (λ note all. record { number = small; note = all }))

-- an opening row
module _ (Made : GivenValue → Type 0) (made : (given : GivenValue) → IsSpelledGiven given → Made given) where
  given_with : (root : ℕ) (key : RowKey × List Word) → InRange key.0
      → IfSome (signed_field key.1 >>= (λ number. note_field number.1 >>= (λ note. value_at_end (Some (record { root = root; key = key.0; row = record { number = number.0; note = note.0 } }, note.1))))) Made
  given_with root key range =
      then_holds (λ (found : ℤ × List Word). IsI64 found.0) Made (signed_field key.1)
      (λ number. note_field number.1 >>= (λ note. value_at_end (Some (record { root = root; key = key.0; row = record { number = number.0; note = note.0 } }, note.1))))
      (word_holds IsI64 signed_in signed_spelled key.1)
      (λ number small. then_holds (λ (found : List ℕ × List Word). All IsByte found.0) Made (note_field number.1)
      (λ note. value_at_end (Some (record { root = root; key = key.0; row = record { number = number.0; note = note.0 } }, note.1)))
      (word_holds (All IsByte) note_in note_spelled number.1)
      (λ note all. end_holds Made (Some (record { root = root; key = key.0; row = record { number = number.0; note = note.0 } }, note.1))
      (made (record { root = root; key = key.0; row = record { number = number.0; note = note.0 } }) (record { key = range; row = record { number = small; note = all } }))))

  given_made : (words : List Word) → IfSome (given_in words) Made
  unfolding given_in
  given_made words =
      then_holds (λ (found : ℕ × List Word). Unit {0}) Made (number_field words) _ (anything (number_field words))
      (λ root any. then_holds (λ (found : RowKey × List Word). InRange found.0) Made (key_field root.1) _ (key_spelled root.1) (λ key range. given_with root.0 key range))

pub given_spelled : (words : List Word) → IfSome (given_in words) IsSpelledGiven
given_spelled words = given_made IsSpelledGiven (λ given is. is) words

-- operations

op_at_spelled : (name : OpName) (key : RowKey) → InRange key → (words : List Word) → IfSome (op_at_key name key words) (λ (found : Op × List Word). IsSpelledOp found.0)
op_at_spelled Get key range words = tt
op_at_spelled Put key range words =
    then_holds (λ (found : RowValue × List Word). IsSpelledRow found.0) (λ (found : Op × List Word). IsSpelledOp found.0) (row_field words)
    (λ row. Some (op.Put key row.0, row.1)) (row_spelled words) (λ row fits. (range, fits))
op_at_spelled Add key range words =
    then_holds (λ (found : ℤ × List Word). Unit {0}) (λ (found : Op × List Word). IsSpelledOp found.0) (signed_field words)
    (λ by. Some (op.Add key by.0, by.1)) (anything (signed_field words)) (λ by any. tt)
op_at_spelled Del key range words = tt
op_at_spelled Check key range words =
    then_holds (λ (found : ℤ × List Word). Unit {0}) (λ (found : Op × List Word). IsSpelledOp found.0) (signed_field words)
    (λ least. Some (op.Check key least.0, least.1)) (anything (signed_field words)) (λ least any. tt)

op_with_spelled : (name : OpName) (words : List Word) → IfSome (op_with name words) (λ (found : Op × List Word). IsSpelledOp found.0)
unfolding op_with
op_with_spelled name words =
    then_holds (λ (found : RowKey × List Word). InRange found.0) (λ (found : Op × List Word). IsSpelledOp found.0) (key_field words)
    (λ key. op_at_key name key.0 key.1) (key_spelled words) (λ key range. op_at_spelled name key.0 range key.1)

op_spelled : (words : List Word) → IfSome (op_field words) (λ (found : Op × List Word). IsSpelledOp found.0)
op_spelled words =
    then_holds (λ (found : OpName × List Word). Unit {0}) (λ (found : Op × List Word). IsSpelledOp found.0) (word_field op_name_in words)
    (λ name. op_with name.0 name.1) (anything (word_field op_name_in words)) (λ name any. op_with_spelled name.0 name.1)

ops_within_spelled : (n : ℕ) (words : List Word) → IfSome (ops_within n words) (All IsSpelledOp)
unfolding ops_within
ops_within_spelled n [] = All-nil IsSpelledOp
ops_within_spelled zero (word ∷ words) = tt
ops_within_spelled (suc n) (word ∷ words) =
    then_holds (λ (found : Op × List Word). IsSpelledOp found.0) (All IsSpelledOp) (op_field (word ∷ words))
    (λ first. ops_within n first.1 >>= (λ others. Some (first.0 ∷ others))) (op_spelled (word ∷ words))
    (λ first fits. then_holds (All IsSpelledOp) (All IsSpelledOp) (ops_within n first.1) (λ others. Some (first.0 ∷ others)) (ops_within_spelled n first.1)
    (λ others all. All-cons IsSpelledOp first.0 others fits all))

pub ops_spelled : (words : List Word) → IfSome (ops_in words) (All IsSpelledOp)
ops_spelled words = ops_within_spelled (length words) words

-- a transaction
pub txn_spelled : (words : List Word) → IfSome (txn_in words) (λ (txn : TxnLine). All IsSpelledOp txn.ops)
unfolding txn_in
txn_spelled words =
    then_holds (λ (found : ℕ × List Word). Unit {0}) (λ (txn : TxnLine). All IsSpelledOp txn.ops) (number_field words) _ (anything (number_field words))
    (λ part any. then_holds (λ (found : ℕ × List Word). Unit {0}) (λ (txn : TxnLine). All IsSpelledOp txn.ops) (number_field part.1) _ (anything (number_field part.1))
    (λ id any. then_holds (λ (found : ℕ × List Word). Unit {0}) (λ (txn : TxnLine). All IsSpelledOp txn.ops) (number_field id.1) _ (anything (number_field id.1))
    (λ root any. then_holds (All IsSpelledOp) (λ (txn : TxnLine). All IsSpelledOp txn.ops) (ops_in root.1) _ (ops_spelled root.1) (λ ops all. all))))
