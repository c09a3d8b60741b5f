-- What a JSON value is read as, and what spells it.
use Rattle.std.proofs.Common.{◌≡◌, ℕ, eqb, ◌||◌, Bool, true, false, List, [], ◌∷◌, Option, Some, None, option_and_then, ok_or, codes, Result, Ok, Err, refl, ap, ◌∙◌}
use Rattle.std.proofs.lemmas.Option.{same_Some, option_and_then_some}
use Rattle.serde_json.specs.Data.{Num, unsigned, negative, float, Data, null, boolean, number, string, array, object, Items, no_items, item}
use Rattle.serde_json.specs.Find.{get, as_array, as_u64}
use Rattle.sq_schema.specs.Chain.{◌>>=◌}
use Rattle.sq_plan.specs.declared.plan.PlanRange.{PlanRange}
use Rattle.sq_plan.specs.declared.fault.PlanFault.{PlanFault}
use Rattle.sq_plan.specs.declared.fault.PlanFault.TheVariants.{Shape, Version}
use Rattle.sq_plan.specs.Version.{version_number}
use Rattle.sq_plan.specs.PlanValue.{PlanValue, IsPlan}
use Rattle.sq_plan.specs.Spelling.{number_data, range_data, ranges_data, Spells}
use Rattle.sq_plan.specs.Reading.{check, whole_in, whole_at, range_in, range_of_items, ranges_in, ranges_at, stages_at, checked, plan_of}
use Rattle.sq_plan.proofs.Checks.{checked-ok, checked-plan}
use Rattle.sq_plan.proofs.Versions.{version_spelled, stages_said, version_said, known_number, stages_at-said}

-- ---- what came from a step

pub bind_ok : {A B : Type 0} (r : Result A PlanFault) (f : A → Result B PlanFault) (y : B) → (r >>= f) ≡ Ok y → (x : A) × (r ≡ Ok x) × (f x ≡ Ok y)
bind_ok (Ok x) f y is = (x, refl, is)
bind_ok (Err fault) f y is = absurd cc

pub ok_or-ok : {A : Type 0} (o : Option A) (fault : PlanFault) (x : A) → ok_or o fault ≡ Ok x → o ≡ Some x
ok_or-ok None fault x is = absurd cc
ok_or-ok (Some y) fault x is = cc

check-ok : (test : Bool) (fault : PlanFault) → (x : Unit {0}) → check test fault ≡ Ok x → test ≡ true
check-ok true fault x is = refl
check-ok false fault x is = absurd cc

-- ---- numbers and ranges

whole_in_num : (n : Num) (k : ℕ) → as_u64 n ≡ Some k → n ≡ unsigned k
whole_in_num (unsigned n) k is = ap unsigned (same_Some _ _ is)
whole_in_num (negative z) k is = absurd cc
whole_in_num (float x) k is = absurd cc

whole_is : (value : Data) (k : ℕ) → whole_in value ≡ Some k → value ≡ number_data k
whole_is null k is = absurd cc
whole_is (boolean b) k is = absurd cc
whole_is (number n) k is = ap number (whole_in_num n k is)
whole_is (string s) k is = absurd cc
whole_is (array ds) k is = absurd cc
whole_is (object ms) k is = absurd cc

array_is : (value : Data) (values : Items) → as_array value ≡ Some values → value ≡ array values
array_is null values is = absurd cc
array_is (boolean b) values is = absurd cc
array_is (number n) values is = absurd cc
array_is (string s) values is = absurd cc
array_is (array ds) values is = ap array (same_Some _ _ is)
array_is (object ms) values is = absurd cc

range_of_three : (lo hi owner : Data) (a b p : Option ℕ) (range : PlanRange) → whole_in lo ≡ a → whole_in hi ≡ b → whole_in owner ≡ p
    → option_and_then (λ x. option_and_then (λ y. option_and_then (λ z. let r : PlanRange = record { lo = x; hi = y; owner = z } in Some r) p) b) a ≡ Some range
    → array (item lo (item hi (item owner no_items))) ≡ range_data range
range_of_three lo hi owner None b p range e f g is = absurd cc
range_of_three lo hi owner (Some x) None p range e f g is = absurd cc
range_of_three lo hi owner (Some x) (Some y) None range e f g is = absurd cc
range_of_three lo hi owner (Some x) (Some y) (Some z) range e f g is =
    let l = whole_is lo x e in
    let h = whole_is hi y f in
    let o = whole_is owner z g in
    rw (l, h, o) (ap range_data (same_Some _ _ is))

range_of_items-is : (values : Items) (range : PlanRange) → range_of_items values ≡ Some range → array values ≡ range_data range
range_of_items-is no_items range is = absurd cc
range_of_items-is (item lo no_items) range is = absurd cc
range_of_items-is (item lo (item hi no_items)) range is = absurd cc
range_of_items-is (item lo (item hi (item owner no_items))) range is = range_of_three lo hi owner _ _ _ range refl refl refl is
range_of_items-is (item lo (item hi (item owner (item more values)))) range is = absurd cc

range_is : (value : Data) (range : PlanRange) → range_in value ≡ Some range → value ≡ range_data range
range_is value range is =
    option_and_then_some range_of_items (as_array value) range is (λ values e f. array_is value values e ∙ range_of_items-is values range f)

ranges_join : (value : Data) (values : Items) (first : Option PlanRange) (rest : Option (List PlanRange)) (ranges : List PlanRange) → range_in value ≡ first → ranges_in values ≡ rest
    → ((others : List PlanRange) → rest ≡ Some others → values ≡ ranges_data others)
    → option_and_then (λ range. option_and_then (λ others. Some (range ∷ others)) rest) first ≡ Some ranges → item value values ≡ ranges_data ranges
ranges_join value values None rest ranges e f more is = absurd cc
ranges_join value values (Some range) None ranges e f more is = absurd cc
ranges_join value values (Some range) (Some others) ranges e f more is =
    rw (range_is value range e, more others refl) (ap ranges_data (same_Some _ _ is))

ranges_are : (values : Items) (ranges : List PlanRange) → ranges_in values ≡ Some ranges → values ≡ ranges_data ranges
ranges_are no_items ranges is = ap ranges_data (same_Some _ _ is)
ranges_are (item value values) ranges is = ranges_join value values _ _ ranges refl refl (ranges_are values) is

ranges_in-data : (ranges : List PlanRange) → ranges_in (ranges_data ranges) ≡ Some ranges
ranges_in-data [] = refl
ranges_in-data (range ∷ ranges) = ap (λ (rest : Option (List PlanRange)). option_and_then (λ others. Some (range ∷ others)) rest) (ranges_in-data ranges)

-- ---- fields

whole_at-is : (name : List ℕ) (value : Data) (k : ℕ) → whole_at name value ≡ Some k → get name value ≡ Some (number_data k)
whole_at-is name value k is = option_and_then_some whole_in (get name value) k is (λ d e f. e ∙ ap Some (whole_is d k f))

whole_at-number_data : (name : List ℕ) (value : Data) (k : ℕ) → get name value ≡ Some (number_data k) → whole_at name value ≡ Some k
whole_at-number_data name value k is = ap (option_and_then whole_in) is

ranges_at-is : (name : List ℕ) (value : Data) (ranges : List PlanRange) → ranges_at name value ≡ Some ranges → get name value ≡ Some (array (ranges_data ranges))
ranges_at-is name value ranges is =
    option_and_then_some ranges_in (option_and_then as_array (get name value)) ranges is (λ values e f.
    option_and_then_some as_array (get name value) values e (λ d g h. g ∙ ap Some (array_is d values h ∙ ap array (ranges_are values ranges f))))

ranges_at-data : (name : List ℕ) (value : Data) (ranges : List PlanRange) → get name value ≡ Some (array (ranges_data ranges)) → ranges_at name value ≡ Some ranges
ranges_at-data name value ranges is = ap (λ (d : Option Data). option_and_then ranges_in (option_and_then as_array d)) is ∙ ranges_in-data ranges

-- ---- plans

-- what is read is spelled, and is a plan
pub plan_of-ok : (value : Data) (plan : PlanValue) → plan_of value ≡ Ok plan → Spells value plan × IsPlan plan
plan_of-ok value plan is =
    let stage : ℕ → ℕ → List PlanRange → Result PlanValue PlanFault = λ version parts ranges. ok_or (stages_at version value) Shape >>= λ stages. checked stages parts ranges in
    let fields : ℕ → Result PlanValue PlanFault = λ version. ok_or (whole_at (codes "partitions") value) Shape >>= λ parts. ok_or (ranges_at (codes "ranges") value) Shape >>= λ ranges. stage version parts ranges in
    let a = bind_ok (ok_or (whole_at (codes "version") value) Shape) (λ version. check (eqb version 1 || eqb version 2) Version >>= λ _. fields version) plan is in
    let b = bind_ok (check (eqb a.0 1 || eqb a.0 2) Version) (λ _. fields a.0) plan a.2 in
    let d = bind_ok (ok_or (whole_at (codes "partitions") value) Shape) (λ parts. ok_or (ranges_at (codes "ranges") value) Shape >>= λ ranges. stage a.0 parts ranges) plan b.2 in
    let e = bind_ok (ok_or (ranges_at (codes "ranges") value) Shape) (λ ranges. stage a.0 d.0 ranges) plan d.2 in
    let f = bind_ok (ok_or (stages_at a.0 value) Shape) (λ stages. checked stages d.0 e.0) plan e.2 in
    let all = checked-ok f.0 d.0 e.0 plan f.2 in
    let said = version_spelled a.0 value f.0 plan.version (check-ok _ _ b.0 b.1) (ok_or-ok _ _ _ f.1) all.told in
    let spells : Spells value plan = record {
      version = whole_at-is (codes "version") value a.0 (ok_or-ok _ _ _ a.1) ∙ ap (λ (k : ℕ). Some (number_data k)) said.has_number;
      partitions = whole_at-is (codes "partitions") value d.0 (ok_or-ok _ _ _ d.1) ∙ ap (λ (k : ℕ). Some (number_data k)) all.same_parts;
      ranges = ranges_at-is (codes "ranges") value e.0 (ok_or-ok _ _ _ e.1) ∙ ap (λ (rs : List PlanRange). Some (array (ranges_data rs))) all.same_ranges;
      stages = said.has_stages;
    } in
    (spells, all.is_plan)

-- a plan that is spelled is read
pub plan_of-spelled : (value : Data) (plan : PlanValue) → Spells value plan → IsPlan plan → plan_of value ≡ Ok plan
plan_of-spelled value plan spells is_plan =
    let version = whole_at-number_data (codes "version") value (version_number plan.version) spells.version in
    let partitions = whole_at-number_data (codes "partitions") value plan.parts spells.partitions in
    let ranges = ranges_at-data (codes "ranges") value plan.ranges spells.ranges in
    let stages = stages_at-said value plan.version spells.stages in
    rw (version, known_number plan.version, partitions, ranges, stages) (checked-plan (stages_said plan.version) plan (version_said plan.version) is_plan)
