-- The text of a plan is the text of its JSON value, and is read as this value.
use Rattle.std.proofs.Common.{◌≡◌, ℕ, ◌^◌, ◌<◌, ◌≤◌, ltb, true, false, List, [], ◌∷◌, ◌++◌, Option, Some, option_map, option_and_then, decimal, codes, refl, sym, ap, ap₂, ◌∙◌, arith, append_assoc, append-nil, ok_or, Ok}
use Rattle.std.specs.Fmt.{digits}
use Rattle.std.specs.List.{list_all}
use Rattle.std.specs.Prelude.{⊤}
use Rattle.std.specs.Str.{IsUtf8}
use Rattle.std.proofs.lemmas.Bool.{and_parts, ltb-true, cond-true}
use Rattle.std.proofs.lemmas.Fmt.{IsAscii-decimal}
use Rattle.std.proofs.lemmas.Str.{IsUtf8-append, IsUtf8-from_ascii, IsUtf8-nil, is_utf8-from_IsUtf8}
use Rattle.json.specs.Json as json
use Rattle.json.specs.Tree.{json_tokens, HasNumbers, ItemsHaveNumbers}
use Rattle.json.specs.Tree as tree
use Rattle.json.specs.Print.{print}
use Rattle.json.specs.Token.{Token}
use Rattle.json.proofs.Printed.Tokens.{tokens-print}
use Rattle.json.proofs.Printed.Trees.{value-json_tokens, ArePrintable-json_tokens}
use Rattle.json.proofs.Printed.Decimals.{IsNumber-decimal}
use Rattle.json.proofs.Printed.Utf8.{IsUtf8-are_ascii}
use Rattle.serde_json.specs.Data.{Data, number}
use Rattle.serde_json.specs.Read.{of_json, of_items, read, max_depth}
use Rattle.serde_json.specs.Written.{outline, items_outline, has_float, items_have_float, compact_text, items_text, members_text}
use Rattle.serde_json.proofs.Numbers.{number_of-decimal}
use Rattle.serde_json.proofs.Texts.{print-outline}
use Rattle.serde_json.proofs.OnLiterals.{serde_json_on_literals}
use Rattle.sq_schema.specs.Chain.{◌>>=◌}
use Rattle.sq_plan.specs.declared.plan.PlanRange.{PlanRange}
use Rattle.sq_plan.specs.declared.fault.PlanFault.TheVariants.{NotJson}
use Rattle.sq_plan.specs.declared.version.Stages.TheVariants.{One, Auto}
use Rattle.sq_plan.specs.declared.version.Version.{Version}
use Rattle.sq_plan.specs.declared.version.Version.TheVariants.{First, Second}
use Rattle.sq_plan.specs.PlanValue.{PlanValue, IsPlan, is_tiling}
use Rattle.sq_plan.specs.PlanText.{range_text, ranges_text, version_text, plan_text}
use Rattle.sq_plan.specs.Spelling.{number_data, range_data, ranges_data, version_data, plan_data, Spells}
use Rattle.sq_plan.specs.Reading.{json_of, plan_of, plan_in}
use Rattle.sq_plan.proofs.Checks.{parts_bound}
use Rattle.sq_plan.proofs.Spelled.{plan_of-spelled}
use Rattle.sq_plan.proofs.Tiling.{Follows-from_tiling, within}

-- ---- the text of the JSON value

range_data-text : (range : PlanRange) → compact_text (range_data range) ≡ range_text range
range_data-text range = simp append_assoc

ranges_data-text_some : (range : PlanRange) (ranges : List PlanRange) → items_text false (ranges_data (range ∷ ranges)) ≡ ranges_text (range ∷ ranges) ++ 93 ∷ []
ranges_data-text_some range [] = ap (λ text. text ++ 93 ∷ []) (range_data-text range)
ranges_data-text_some range (next ∷ ranges) =
    ap₂ (λ (text more : List ℕ). text ++ 44 ∷ more) (range_data-text range) (ranges_data-text_some next ranges) ∙ sym (append_assoc (range_text range) (44 ∷ ranges_text (next ∷ ranges)) (93 ∷ []))

-- ranges, with the bracket behind them
ranges_data-text : (ranges : List PlanRange) → items_text false (ranges_data ranges) ≡ ranges_text ranges ++ 93 ∷ []
ranges_data-text [] = refl
ranges_data-text (range ∷ ranges) = ranges_data-text_some range ranges

-- a plan with these fields
abbrev plan_with : Version → ℕ → List PlanRange → PlanValue
plan_with version parts ranges = record { version = version; parts = parts; ranges = ranges }

-- the text of the version, with the brace behind it
version_data-text : (version : Version) → members_text true (version_data version) ≡ codes "," ++ version_text version ++ codes "}"
unfolding serde_json_on_literals digits
version_data-text First = refl
version_data-text (Second One) = refl
version_data-text (Second Auto) = refl

regrouped : (a b c d e f g h : List ℕ) → a ++ (b ++ (c ++ ((d ++ e) ++ (f ++ g ++ h)))) ≡ a ++ b ++ c ++ d ++ (e ++ f) ++ g ++ h
regrouped a b c d e f g h = simp append_assoc

-- the whole value
plan_data-text : (plan : PlanValue) → compact_text (plan_data plan) ≡ plan_text plan
unfolding serde_json_on_literals digits
plan_data-text plan =
    rw (ranges_data-text plan.ranges, version_data-text plan.version)
    (regrouped (codes "{\"partitions\":") (decimal plan.parts) (codes ",\"ranges\":[") (ranges_text plan.ranges) (codes "]") (codes ",") (version_text plan.version) (codes "}"))

-- ---- no number of it is a float

ranges_have_no_float : (ranges : List PlanRange) → items_have_float (ranges_data ranges) ≡ false
ranges_have_no_float [] = refl
ranges_have_no_float (range ∷ ranges) = ranges_have_no_float ranges

plan_has_no_float : (plan : PlanValue) → has_float (plan_data plan) ≡ false
plan_has_no_float plan = has_none plan.version plan.parts plan.ranges
  where
    has_none : (version : Version) (parts : ℕ) (ranges : List PlanRange) → has_float (plan_data (plan_with version parts ranges)) ≡ false
    has_none First parts ranges = rw (ranges_have_no_float ranges) refl
    has_none (Second stages) parts ranges = rw (ranges_have_no_float ranges) refl

-- the text that is written for the JSON value of a plan
pub written_text : (value : Data) (plan : PlanValue) (text : List ℕ) → value ≡ plan_data plan → (has_float value ≡ false → text ≡ compact_text value) → text ≡ plan_text plan
written_text value plan text is writes = writes (ap has_float is ∙ plan_has_no_float plan) ∙ ap compact_text is ∙ plan_data-text plan

-- ---- the numbers of a plan fit 64 bits

record FitsRange (range : PlanRange) : Type 0 where
  lo : range.lo < 2 ^ 64
  hi : range.hi < 2 ^ 64
  owner : range.owner < 2 ^ 64

abbrev FitRanges : List PlanRange → Type 0
FitRanges [] = ⊤
FitRanges (range ∷ ranges) = FitsRange range × FitRanges ranges

-- ranges end at the last key, and owners are below the number of partitions
tiling_fits : (lo parts : ℕ) (ranges : List PlanRange) → parts ≤ 2 ^ 64 → is_tiling lo ranges ≡ true → list_all (λ range. ltb range.owner parts) ranges ≡ true → FitRanges ranges
tiling_fits lo parts [] few tiling owners = tt
tiling_fits lo parts (range ∷ ranges) few tiling owners =
    let one = Follows-from_tiling lo range ranges tiling in
    let ends = within lo (range ∷ ranges) 0 range tiling (omega arith) in
    let both = and_parts (ltb range.owner parts) (list_all (λ range. ltb range.owner parts) ranges) owners in
    let owned = ltb-true _ _ both.0 in
    (record { lo = omega arith; hi = omega arith; owner = omega arith }, tiling_fits range.hi parts ranges few one.rest both.1)

plan_fits : (plan : PlanValue) → IsPlan plan → FitRanges plan.ranges
plan_fits plan is_plan = tiling_fits 0 plan.parts plan.ranges (omega (arith, parts_bound plan is_plan)) is_plan.tiling is_plan.owners

-- ---- what the text is read as

number_reads : (n : ℕ) → n < 2 ^ 64 → of_json (outline (number_data n)) ≡ Some (number_data n)
number_reads n fits = ap (option_map number) (number_of-decimal n fits)

range_reads : (range : PlanRange) → FitsRange range → of_json (outline (range_data range)) ≡ Some (range_data range)
range_reads range fits = rw (number_reads range.lo fits.lo, number_reads range.hi fits.hi, number_reads range.owner fits.owner) refl

ranges_read : (ranges : List PlanRange) → FitRanges ranges → of_items (items_outline (ranges_data ranges)) ≡ Some (ranges_data ranges)
ranges_read [] fit = refl
ranges_read (range ∷ ranges) fit = rw (range_reads range fit.0, ranges_read ranges fit.1) refl

-- the JSON that is printed for a plan has the plan's value
plan_reads : (plan : PlanValue) → IsPlan plan → of_json (outline (plan_data plan)) ≡ Some (plan_data plan)
plan_reads plan is_plan = reads plan.version plan.parts plan.ranges (omega (arith, parts_bound plan is_plan)) (plan_fits plan is_plan)
  where
    reads : (version : Version) (parts : ℕ) (ranges : List PlanRange) → parts < 2 ^ 64 → FitRanges ranges → of_json (outline (plan_data (plan_with version parts ranges))) ≡ Some (plan_data (plan_with version parts ranges))
    reads First parts ranges few fit = rw (number_reads parts few, ranges_read ranges fit, number_reads 1 (omega arith)) refl
    reads (Second One) parts ranges few fit = rw (number_reads parts few, ranges_read ranges fit, number_reads 2 (omega arith)) refl
    reads (Second Auto) parts ranges few fit = rw (number_reads parts few, ranges_read ranges fit, number_reads 2 (omega arith)) refl

ranges_have_numbers : (ranges : List PlanRange) → FitRanges ranges → ItemsHaveNumbers (items_outline (ranges_data ranges))
ranges_have_numbers [] fit = tt
ranges_have_numbers (range ∷ ranges) fit =
    ((IsNumber-decimal range.lo fit.0.lo, (IsNumber-decimal range.hi fit.0.hi, (IsNumber-decimal range.owner fit.0.owner, tt))), ranges_have_numbers ranges fit.1)

-- each number of it is written as JSON wants
plan_has_numbers : (plan : PlanValue) → IsPlan plan → HasNumbers (outline (plan_data plan))
plan_has_numbers plan is_plan = has plan.version plan.parts plan.ranges (omega (arith, parts_bound plan is_plan)) (plan_fits plan is_plan)
  where
    has : (version : Version) (parts : ℕ) (ranges : List PlanRange) → parts < 2 ^ 64 → FitRanges ranges → HasNumbers (outline (plan_data (plan_with version parts ranges)))
    has First parts ranges few fit = (IsNumber-decimal parts few, (ranges_have_numbers ranges fit, (IsNumber-decimal 1 (omega arith), tt)))
    has (Second stages) parts ranges few fit = (IsNumber-decimal parts few, (ranges_have_numbers ranges fit, (tt, (IsNumber-decimal 2 (omega arith), tt))))

ranges_are_flat : (ranges : List PlanRange) → tree.items_depth (items_outline (ranges_data ranges)) ≤ 1
ranges_are_flat [] = omega arith
ranges_are_flat (range ∷ ranges) = let rest = ranges_are_flat ranges in omega arith

-- it nests three deep
plan_is_flat : (plan : PlanValue) → tree.depth (outline (plan_data plan)) ≤ 127
plan_is_flat plan = is_flat plan.version plan.parts plan.ranges
  where
    is_flat : (version : Version) (parts : ℕ) (ranges : List PlanRange) → tree.depth (outline (plan_data (plan_with version parts ranges))) ≤ 127
    is_flat First parts ranges = let flat = ranges_are_flat ranges in omega arith
    is_flat (Second stages) parts ranges = let flat = ranges_are_flat ranges in omega arith

-- what is printed of JSON that has a value is read as this value
read-print : (j : json.Json) (value : Data) → HasNumbers j → tree.depth j ≤ max_depth → of_json j ≡ Some value → read (print (json_tokens j)) ≡ Some value
read-print j value numbers flat reads =
    let back = tokens-print (json_tokens j) (ArePrintable-json_tokens j numbers) ∙ sym (append-nil (json_tokens j)) in
    ap (λ (found : Option (json.Json × List Token)). option_and_then of_json (option_and_then (λ p. json.if_last p.0 p.1) found)) (ap (json.value max_depth) back ∙ value-json_tokens j max_depth [] flat) ∙ reads

plan_text-read : (plan : PlanValue) → IsPlan plan → read (plan_text plan) ≡ Some (plan_data plan)
plan_text-read plan is_plan =
    let printed = print-outline (plan_data plan) ∙ plan_data-text plan in
    ap read (sym printed) ∙ read-print (outline (plan_data plan)) (plan_data plan) (plan_has_numbers plan is_plan) (plan_is_flat plan) (plan_reads plan is_plan)

-- ---- the text is UTF-8

-- two texts with a number between them
IsUtf8-around : (before after : List ℕ) (n : ℕ) → IsUtf8 before → n < 2 ^ 64 → IsUtf8 after → IsUtf8 (before ++ decimal n ++ after)
IsUtf8-around before after n first fits last = IsUtf8-append (before ++ decimal n) after (IsUtf8-append before (decimal n) first (IsUtf8-from_ascii (decimal n) (IsAscii-decimal n fits))) last

-- a range, number by number
range_text-utf8 : (range : PlanRange) → FitsRange range → IsUtf8 (range_text range)
range_text-utf8 range fits =
    let lo = IsUtf8-around (codes "[") (codes ",") range.lo (IsUtf8-are_ascii (codes "[") refl) fits.lo (IsUtf8-are_ascii (codes ",") refl) in
    let hi = IsUtf8-around (codes "[" ++ decimal range.lo ++ codes ",") (codes ",") range.hi lo fits.hi (IsUtf8-are_ascii (codes ",") refl) in
    IsUtf8-around (codes "[" ++ decimal range.lo ++ codes "," ++ decimal range.hi ++ codes ",") (codes "]") range.owner hi fits.owner (IsUtf8-are_ascii (codes "]") refl)

ranges_text-utf8 : (ranges : List PlanRange) → FitRanges ranges → IsUtf8 (ranges_text ranges)
ranges_text-utf8 [] fit = IsUtf8-nil
ranges_text-utf8 (range ∷ []) fit = range_text-utf8 range fit.0
ranges_text-utf8 (range ∷ next ∷ ranges) fit =
    let more = IsUtf8-append (codes ",") (ranges_text (next ∷ ranges)) (IsUtf8-are_ascii (codes ",") refl) (ranges_text-utf8 (next ∷ ranges) fit.1) in
    IsUtf8-append (range_text range) (codes "," ++ ranges_text (next ∷ ranges)) (range_text-utf8 range fit.0) more

version_text-utf8 : (version : Version) → IsUtf8 (version_text version)
version_text-utf8 First = IsUtf8-are_ascii _ refl
version_text-utf8 (Second One) = IsUtf8-are_ascii _ refl
version_text-utf8 (Second Auto) = IsUtf8-are_ascii _ refl

plan_text-utf8 : (plan : PlanValue) → IsPlan plan → IsUtf8 (plan_text plan)
plan_text-utf8 plan is_plan =
    let parts = codes "{\"partitions\":" ++ decimal plan.parts ++ codes ",\"ranges\":[" in
    let first = IsUtf8-around (codes "{\"partitions\":") (codes ",\"ranges\":[") plan.parts (IsUtf8-are_ascii _ refl) (omega (arith, parts_bound plan is_plan)) (IsUtf8-are_ascii _ refl) in
    let ranges = IsUtf8-append parts (ranges_text plan.ranges) first (ranges_text-utf8 plan.ranges (plan_fits plan is_plan)) in
    let open_end = IsUtf8-append (parts ++ ranges_text plan.ranges) (codes "],") ranges (IsUtf8-are_ascii _ refl) in
    let versioned = IsUtf8-append (parts ++ ranges_text plan.ranges ++ codes "],") (version_text plan.version) open_end (version_text-utf8 plan.version) in
    IsUtf8-append (parts ++ ranges_text plan.ranges ++ codes "]," ++ version_text plan.version) (codes "}") versioned (IsUtf8-are_ascii _ refl)

-- ---- what is written is read

-- the bytes of the text are the plan's JSON value
plan_text-json : (plan : PlanValue) → IsPlan plan → json_of (plan_text plan) ≡ Some (plan_data plan)
unfolding json_of
plan_text-json plan is_plan = cond-true _ _ _ (is_utf8-from_IsUtf8 (plan_text plan) (plan_text-utf8 plan is_plan)) ∙ plan_text-read plan is_plan

-- this value has the plan's fields
plan_data-spells : (plan : PlanValue) → Spells (plan_data plan) plan
plan_data-spells plan = spells plan.version plan.parts plan.ranges
  where
    spells : (version : Version) (parts : ℕ) (ranges : List PlanRange) → Spells (plan_data (plan_with version parts ranges)) (plan_with version parts ranges)
    spells First parts ranges = record { version = refl; partitions = refl; ranges = refl; stages = tt }
    spells (Second stages) parts ranges = record { version = refl; partitions = refl; ranges = refl; stages = refl }

-- what is written for a plan is read as this plan
pub plan_text-plan : (plan : PlanValue) → IsPlan plan → plan_in (plan_text plan) ≡ Ok plan
plan_text-plan plan is_plan =
    ap (λ (value : Option Data). ok_or value NotJson >>= plan_of) (plan_text-json plan is_plan) ∙ plan_of-spelled (plan_data plan) plan (plan_data-spells plan) is_plan
