-- The numbers of options.
use Rattle.std.proofs.Common.{◌≡◌, ◌∙◌, inl, inr, ℕ, ◌<◌, ◌≤◌, ◌^◌, ℤ, pos, w64, refl, subst, arith}
use Rattle.std.specs.Prelude.{Option, Some, None}
use Rattle.std.specs.Int.{saturate_unsigned}
use Rattle.std.specs.Ordering.{nat_cmp, ord_max, ord_min}
use Rattle.std.specs.Str.Parse.{IsNumeral, digits_value, without_leading_plus}
use Rattle.std.proofs.lemmas.Bool.Decides.{nat_tests}
use Rattle.clap.specs.Values.{NarrowsTo}
use Rattle.clap.specs.Walk.{Text}
use Rattle.clap.specs.declared.builder.value_parser.ValueParser.{ValueParser}
use Rattle.clap.specs.declared.builder.value_parser.ValueParser.TheVariants.{Unsigned}
use Rattle.sq_command.specs.Options.{NumberOf, GivenNumberOf}
use Rattle.sq_command.specs.Line.{SpellsShort, GivenNumber}

-- the text spells a number that 64 bits hold
abbrev pub SpellsNumber : Text → Type 0
SpellsNumber text = IsNumeral 10 (without_leading_plus text) × (digits_value 10 (without_leading_plus text) < 2 ^ 64)

-- an option with this text is read as this number
pub record ReadsNumber (n : ℕ) (text : Option Text) : Type 0 where
  pub given : text ≡ None → Some n ≡ None
  pub spelled : (t : Text) → text ≡ Some t → SpellsNumber t × (n ≡ digits_value 10 (without_leading_plus t))

no_some : (n : ℕ) → Some n ≡ None → ⊥
no_some n e = cc

module _ (least most : ℕ) where
  -- an option whose text spells a number from the least up to the most that it may be
  pub number_read : (n : ℕ) (text : Option Text) → ReadsNumber n text → least ≤ n → n ≤ most → GivenNumberOf least most text (Some n)
  number_read n None reads some within = absurd (no_some n (reads.given refl))
  number_read n (Some t) reads some within =
      let told = reads.spelled t refl in
      let is = told.1 in
      ((told.0.0, told.0.1, omega (arith, is, some), omega (arith, is, within)), is)

  -- one whose text spells another number
  pub number_out : (n : ℕ) (text : Option Text) → ReadsNumber n text → (least ≤ n → n ≤ most → ⊥) → GivenNumberOf least most text None
  number_out n None reads out = absurd (no_some n (reads.given refl))
  number_out n (Some t) reads out =
      let is = (reads.spelled t refl).1 in
      λ within. let low = within.2 in let high = within.3 in out (omega (arith, is, low)) (omega (arith, is, high))

  -- one that isn't given, or whose text spells no number
  pub number_none : (text : Option Text) → ((t : Text) → text ≡ Some t → SpellsNumber t → ⊥) → GivenNumberOf least most text None
  number_none None spells = refl
  number_none (Some t) spells = λ within. spells t refl (within.0, within.1)

  pub number_given : (default : ℕ) (text : Option Text) (n : ℕ) → GivenNumberOf least most text (Some n) → NumberOf least most default text n
  number_given default None n given = absurd (no_some n given)
  number_given default (Some t) n given = inl given

  -- and one that is missing, which another number replaces
  pub number_missing : (default : ℕ) (text : Option Text) → GivenNumberOf least most text None → NumberOf least most default text default
  number_missing default None given = refl
  number_missing default (Some t) given = inr (given, refl)

-- a number of 16 bits, or none, that was read of a text
pub short_read : (read : Option ℕ) (text : Option Text) → (text ≡ None → read ≡ None) → ((t : Text) (n : ℕ) → text ≡ Some t → read ≡ Some n → SpellsShort t × (n ≡ digits_value 10 (without_leading_plus t)))
    → ((t : Text) → text ≡ Some t → read ≡ None → SpellsShort t → ⊥) → GivenNumber text read
short_read read None none some spells = none refl
short_read None (Some t) none some spells = spells t refl refl
short_read (Some n) (Some t) none some spells = some t n refl refl

-- ---- the parser of a number

at_least : (n : ℕ) → ord_max nat_cmp 0 n ≡ n
at_least n = grind (arith, nat_tests)

at_most : (n m : ℕ) → n ≤ m → ord_min nat_cmp m n ≡ n
at_most n m within = grind (arith, nat_tests)

kept : (n : ℕ) → n < 2 ^ 63 → saturate_unsigned w64 (pos n) ≡ n
kept n within = grind (arith, nat_tests)

-- the parser of all numbers of 64 bits, narrowed to those from the least up to the most
pub narrowed_to : (least most : ℕ) (from to : ℤ) (parser : ValueParser) → least ≤ most → most < 2 ^ 63 → from ≡ pos least → to ≡ pos most
    → NarrowsTo (Unsigned 0 18446744073709551615) (Some from) (Some to) parser → parser ≡ Unsigned least most
narrowed_to least most from to parser some within begins ends narrows =
    let low : ord_max nat_cmp 0 (saturate_unsigned w64 (pos least)) ≡ least = at_least _ ∙ kept least (omega (arith, some, within)) in
    let high : ord_min nat_cmp 18446744073709551615 most ≡ most = at_most most 18446744073709551615 (omega (arith, within)) in
    let begun = subst (λ (z : ℤ). NarrowsTo (Unsigned 0 18446744073709551615) (Some z) (Some to) parser) begins narrows in
    let is : NarrowsTo (Unsigned 0 18446744073709551615) (Some (pos least)) (Some (pos most)) parser =
    subst (λ (z : ℤ). NarrowsTo (Unsigned 0 18446744073709551615) (Some (pos least)) (Some z) parser) ends begun in
    is ∙ (λ i. Unsigned (low i) (high i))
