-- What reads the front of the words leaves fewer of them.
use Rattle.std.proofs.Common.{◌≡◌, ℕ, ◌^◌, ◌<◌, Bool, true, false, cond, List, [], ◌∷◌, length, Option, Some, None, refl, ap, arith}
use Rattle.std.specs.Prelude.{option_map, nat_lt}
use Rattle.sq_schema.specs.RowKey.{RowKey}
use Rattle.sq_schema.specs.declared.txn.Op.{Op}
use Rattle.sq_schema.specs.declared.txn.Op.TheVariants as op
use Rattle.sq_schema.specs.Values.{RowValue}
use Rattle.sq_text.specs.declared.verb.OpName.{OpName}
use Rattle.sq_text.specs.declared.verb.OpName.TheVariants.{Get, Put, Add, Del, Check}
use Rattle.sq_text.specs.Words.{Word, ◌>>=◌}
use Rattle.sq_text.specs.Fields.{word_field, number_field, number_below, signed_field, note_field, key_field, row_field}
use Rattle.sq_text.specs.Ops.{op_at_key, op_with}

-- the value of a step that found one
pub bind_some : {A B : Type 0} (r : Option A) (f : A → Option B) (y : B) → (r >>= f) ≡ Some y → (x : A) × (r ≡ Some x) × (f x ≡ Some y)
bind_some (Some x) f y e = (x, refl, e)
bind_some None f y e = absurd cc

abbrev found : {A : Type 0} → A → Option A
found x = Some x

some_is : {A : Type 0} (x y : A) → found x ≡ found y → x ≡ y
some_is x y e = cc

-- it leaves fewer words
abbrev pub Shrinks : {A : Type 0} → (List Word → Option (A × List Word)) → Type 0
Shrinks {A} read = (words : List Word) (x : A × List Word) → read words ≡ Some x → length x.1 < length words

pub word_shrinks : {A : Type 0} (read : Word → Option A) → Shrinks (word_field read)
word_shrinks read [] x e = absurd cc
word_shrinks {A} read (word ∷ words) x e = by_word (read word) e
  where
    by_word : (o : Option A) → option_map (λ y. (y, words)) o ≡ Some x → length x.1 < length (word ∷ words)
    by_word None e = absurd cc
    by_word (Some y) e = omega (arith, ap (λ (p : A × List Word). length p.1) (some_is (y, words) x e))

-- a last step that makes a value of what was read
made_shrinks : {A B : Type 0} (f : A → B) (read : Option (A × List Word)) (n : ℕ) (x : B × List Word) → ((y : A × List Word) → read ≡ Some y → length y.1 < n) → (read >>= λ y. Some (f y.0, y.1)) ≡ Some x → length x.1 < n
made_shrinks {A} {B} f None n x shrinks e = absurd cc
made_shrinks {A} {B} f (Some y) n x shrinks e = omega (arith, shrinks y refl, ap (λ (p : B × List Word). length p.1) (some_is (f y.0, y.1) x e))

pub number_below_shrinks : (end : ℕ) → Shrinks (number_below end)
number_below_shrinks end words x e =
    let a = bind_some (number_field words) (λ n. cond (nat_lt n.0 end) (Some n) None) x e in
    by_test (nat_lt a.0.0 end) a.0 (word_shrinks _ words a.0 a.1) a.2
  where
    by_test : (b : Bool) (y : ℕ × List Word) → length y.1 < length words → cond b (Some y) None ≡ Some x → length x.1 < length words
    by_test true y lt e = omega (arith, ap (λ (p : ℕ × List Word). length p.1) (some_is y x e))
    by_test false y lt e = absurd cc

pub key_shrinks : Shrinks key_field
unfolding key_field
key_shrinks words x e =
    let a = bind_some (number_below (2 ^ 8) words) (λ t. number_below (2 ^ 32) t.1 >>= λ s. Some (record { table = t.0; sub = s.0 }, s.1)) x e in
    let first = number_below_shrinks (2 ^ 8) words a.0 a.1 in
    made_shrinks (λ (s : ℕ). record { table = a.0.0; sub = s }) (number_below (2 ^ 32) a.0.1) (length words) x (λ y f. omega (arith, first, number_below_shrinks (2 ^ 32) a.0.1 y f)) a.2

pub row_shrinks : Shrinks row_field
unfolding row_field
row_shrinks words x e =
    let a = bind_some (signed_field words) (λ n. note_field n.1 >>= λ t. Some (record { number = n.0; note = t.0 }, t.1)) x e in
    let first = word_shrinks _ words a.0 a.1 in
    made_shrinks (λ (t : List ℕ). record { number = a.0.0; note = t }) (note_field a.0.1) (length words) x (λ y f. omega (arith, first, word_shrinks _ a.0.1 y f)) a.2

-- so does an operation, which continues behind its key
goes_on : (name : OpName) (key : RowKey) (n : ℕ) (words : List Word) (x : Op × List Word) → length words < n → op_at_key name key words ≡ Some x → length x.1 < n
goes_on Get key n words x less e = omega (arith, less, ap (λ (p : Op × List Word). length p.1) (some_is (op.Get key, words) x e))
goes_on Del key n words x less e = omega (arith, less, ap (λ (p : Op × List Word). length p.1) (some_is (op.Del key, words) x e))
goes_on Put key n words x less e = made_shrinks (λ (r : RowValue). op.Put key r) (row_field words) n x (λ y f. omega (arith, less, row_shrinks words y f)) e
goes_on Add key n words x less e = made_shrinks (λ m. op.Add key m) (signed_field words) n x (λ y f. omega (arith, less, word_shrinks _ words y f)) e
goes_on Check key n words x less e = made_shrinks (λ m. op.Check key m) (signed_field words) n x (λ y f. omega (arith, less, word_shrinks _ words y f)) e

pub op_shrinks : (name : OpName) → Shrinks (op_with name)
unfolding op_with
op_shrinks name words x e =
    let a = bind_some (key_field words) (λ k. op_at_key name k.0 k.1) x e in
    goes_on name a.0.0 (length words) a.0.1 x (key_shrinks words a.0 a.1) a.2
