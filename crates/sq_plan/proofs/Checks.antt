-- The checks, by how each of them comes out.
use Rattle.std.proofs.Common.{◌≡◌, ℕ, ◌^◌, ◌≤◌, ◌&&◌, leb, ltb, Bool, true, false, List, [], ◌∷◌, length, Option, None, Some, option_map, ok_or, Result, Ok, Err, refl, sym, ap, subst, ◌∙◌, arith}
use Rattle.std.specs.List.{list_all}
use Rattle.std.proofs.lemmas.Bool.{and_parts, and_from, leb-true, le-leb, ltb-true, lt-ltb}
use Rattle.std.proofs.lemmas.Option.{same_Some}
use Rattle.sq_schema.specs.Chain.{◌>>=◌}
use Rattle.sq_plan.specs.declared.plan.PlanRange.{PlanRange}
use Rattle.sq_plan.specs.declared.plan.TheConstants.{MAX_PARTS, MAX_RANGES}
use Rattle.sq_plan.specs.declared.version.Stages.{Stages}
use Rattle.sq_plan.specs.declared.version.Version.{Version}
use Rattle.sq_plan.specs.declared.version.Version.TheVariants.{First, Second}
use Rattle.sq_plan.specs.Version.{parts_limit, stages_named}
use Rattle.sq_plan.specs.declared.fault.PlanFault.{PlanFault}
use Rattle.sq_plan.specs.declared.fault.PlanFault.TheVariants.{PartitionCount, RangeOrder, PartitionNumber, TooManyRanges, BadStages}
use Rattle.sq_plan.specs.PlanValue.{PlanValue, IsPlan, is_tiling}
use Rattle.sq_plan.specs.Reading.{check, checked, version_by, parts_limit_by}

-- the outcome of the checks; the last of them is which version it is
abbrev pub outcome : Bool → Bool → Bool → Bool → Option Version → ℕ → List PlanRange → Result PlanValue PlanFault
outcome false few tiling owned version parts ranges = Err PartitionCount
outcome true false tiling owned version parts ranges = Err TooManyRanges
outcome true true false owned version parts ranges = Err RangeOrder
outcome true true true false version parts ranges = Err PartitionNumber
outcome true true true true None parts ranges = Err BadStages
outcome true true true true (Some version) parts ranges = Ok (record { version = version; parts = parts; ranges = ranges })

outcome_of : (some few tiling owned : Bool) (version : Option Version) (parts : ℕ) (ranges : List PlanRange)
    → (check some PartitionCount >>= (λ _. check few TooManyRanges >>= (λ _. check tiling RangeOrder >>= (λ _. check owned PartitionNumber >>= (λ _. ok_or version BadStages >>= (λ v. Ok (record { version = v; parts = parts; ranges = ranges })))))))
    ≡ outcome some few tiling owned version parts ranges
outcome_of false few tiling owned version parts ranges = refl
outcome_of true false tiling owned version parts ranges = refl
outcome_of true true false owned version parts ranges = refl
outcome_of true true true false version parts ranges = refl
outcome_of true true true true None parts ranges = refl
outcome_of true true true true (Some version) parts ranges = refl

pub checked_as : (stages : Option (List ℕ)) (parts : ℕ) (ranges : List PlanRange) (some few tiling owned : Bool) (version : Option Version)
    → (leb 1 parts && leb parts (parts_limit_by stages)) ≡ some → leb (length ranges) MAX_RANGES ≡ few → is_tiling 0 ranges ≡ tiling → list_all (λ range. ltb range.owner parts) ranges ≡ owned → version_by stages ≡ version
    → checked stages parts ranges ≡ outcome some few tiling owned version parts ranges
checked_as stages parts ranges some few tiling owned version a b c d e =
    outcome_of (leb 1 parts && leb parts (parts_limit_by stages)) (leb (length ranges) MAX_RANGES) (is_tiling 0 ranges) (list_all (λ range. ltb range.owner parts) ranges) (version_by stages) parts ranges
    ∙ (λ k. outcome (a k) (b k) (c k) (d k) (e k) parts ranges)

-- all of them hold
pub record Passes (some few tiling owned : Bool) (version : Option Version) (parts : ℕ) (ranges : List PlanRange) (plan : PlanValue) : Type 0 where
  pub is_some : some ≡ true
  pub is_few : few ≡ true
  pub is_tiled : tiling ≡ true
  pub is_owned : owned ≡ true
  pub known : version ≡ Some plan.version
  pub same_parts : parts ≡ plan.parts
  pub same_ranges : ranges ≡ plan.ranges

passes : (some few tiling owned : Bool) (version : Option Version) (parts : ℕ) (ranges : List PlanRange) (plan : PlanValue) → outcome some few tiling owned version parts ranges ≡ Ok plan
    → Passes some few tiling owned version parts ranges plan
passes false few tiling owned version parts ranges plan is = absurd cc
passes true false tiling owned version parts ranges plan is = absurd cc
passes true true false owned version parts ranges plan is = absurd cc
passes true true true false version parts ranges plan is = absurd cc
passes true true true true None parts ranges plan is = absurd cc
passes true true true true (Some version) parts ranges plan is =
    let same = same_Ok _ _ is in
    record { is_some = refl; is_few = refl; is_tiled = refl; is_owned = refl; known = ap (λ (p : PlanValue). Some p.version) same; same_parts = ap (λ (p : PlanValue). p.parts) same; same_ranges = ap (λ (p : PlanValue). p.ranges) same }
  where
    same_Ok : (a b : PlanValue) → (let r : Result PlanValue PlanFault = Ok a in r) ≡ Ok b → a ≡ b
    same_Ok a b same = cc

-- the version allows as many partitions as the one that it was read from
limit_by : (stages : Option (List ℕ)) (version : Version) → version_by stages ≡ Some version → parts_limit_by stages ≡ parts_limit version
limit_by None version is = ap parts_limit (same_Some _ _ is)
limit_by (Some name) version is = by_name (stages_named name) is
  where
    by_name : (named : Option Stages) → option_map Second named ≡ Some version → MAX_PARTS ≡ parts_limit version
    by_name None is = absurd cc
    by_name (Some stages) is = ap parts_limit (same_Some _ _ is)

-- what passes the checks is a plan of these partitions and ranges, and of the version
pub record IsChecked (stages : Option (List ℕ)) (parts : ℕ) (ranges : List PlanRange) (plan : PlanValue) : Type 0 where
  pub is_plan : IsPlan plan
  pub told : version_by stages ≡ Some plan.version
  pub same_parts : parts ≡ plan.parts
  pub same_ranges : ranges ≡ plan.ranges

pub checked-ok : (stages : Option (List ℕ)) (parts : ℕ) (ranges : List PlanRange) (plan : PlanValue) → checked stages parts ranges ≡ Ok plan → IsChecked stages parts ranges plan
checked-ok stages parts ranges plan is =
    let all = passes _ _ _ _ _ _ _ plan (sym (checked_as stages parts ranges _ _ _ _ _ refl refl refl refl refl) ∙ is) in
    let count = and_parts (leb 1 parts) (leb parts (parts_limit_by stages)) all.is_some in
    let limit = limit_by stages plan.version all.known in
    record {
      is_plan = record {
        some_part = subst (λ n. 1 ≤ n) all.same_parts (leb-true _ _ count.0);
        few_parts = subst (λ n. n ≤ parts_limit plan.version) all.same_parts (subst (λ n. parts ≤ n) limit (leb-true _ _ count.1));
        few_ranges = subst (λ (rs : List PlanRange). length rs ≤ MAX_RANGES) all.same_ranges (leb-true _ _ all.is_few);
        tiling = subst (λ (rs : List PlanRange). is_tiling 0 rs ≡ true) all.same_ranges all.is_tiled;
        owners = subst (λ (rs : List PlanRange). list_all (λ range. ltb range.owner plan.parts) rs ≡ true) all.same_ranges (subst (λ n. list_all (λ range. ltb range.owner n) ranges ≡ true) all.same_parts all.is_owned);
      };
      told = all.known;
      same_parts = all.same_parts;
      same_ranges = all.same_ranges;
    }

-- a plan passes the checks
pub checked-plan : (stages : Option (List ℕ)) (plan : PlanValue) → version_by stages ≡ Some plan.version → IsPlan plan → checked stages plan.parts plan.ranges ≡ Ok plan
checked-plan stages plan told is_plan =
    let few = subst (λ n. plan.parts ≤ n) (sym (limit_by stages plan.version told)) is_plan.few_parts in
    checked_as stages plan.parts plan.ranges true true true true (Some plan.version) (and_from _ _ (le-leb _ _ is_plan.some_part) (le-leb _ _ few)) (le-leb _ _ is_plan.few_ranges) is_plan.tiling is_plan.owners told

-- a plan has at most as many partitions as any version allows
pub parts_bound : (plan : PlanValue) → IsPlan plan → plan.parts ≤ MAX_PARTS
parts_bound plan is_plan = omega (arith, is_plan.few_parts, most plan.version)
  where
    most : (version : Version) → parts_limit version ≤ MAX_PARTS
    most First = omega arith
    most (Second stages) = omega arith

-- the owners of a plan are small numbers
pub small_owners : (parts : ℕ) (ranges : List PlanRange) → parts ≤ 2 ^ 8 → list_all (λ range. ltb range.owner parts) ranges ≡ true → list_all (λ range. ltb range.owner (2 ^ 8)) ranges ≡ true
small_owners parts [] few all = refl
small_owners parts (range ∷ ranges) few all =
    let one = and_parts (ltb range.owner parts) (list_all (λ range. ltb range.owner parts) ranges) all in
    let small = ltb-true _ _ one.0 in
    and_from _ _ (lt-ltb _ _ (omega arith)) (small_owners parts ranges few one.1)
