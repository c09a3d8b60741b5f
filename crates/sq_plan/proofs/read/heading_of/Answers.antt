-- The checks, each after those before it.
use Rattle.std.proofs.Common.{◌≡◌, ◌&&◌, leb, true, false, List, Option, length, refl, sym, ap, ◌∙◌, arith, rules}
use Rattle.std.proofs.lemmas.Bool.{le-leb, lt-leb}
use Rattle.sq_plan.specs.declared.plan.TheConstants.{MAX_RANGES}
use Rattle.sq_plan.specs.declared.plan.PlanRange.{PlanRange}
use Rattle.sq_plan.specs.declared.version.Version.{Version}
use Rattle.sq_plan.specs.PlanFields.{HasRanges, stages_of}
use Rattle.sq_plan.specs.Reading.{checked, version_by, parts_limit_by}
use Rattle.sq_plan.proofs.Items.{length-ranges_in}
use Rattle.sq_plan.proofs.Checks.{outcome, checked_as}
use Rattle.sq_plan.proofs.read.heading_of.Goals as goal
use Rattle.sq_plan.proofs.read.heading_of.Goals.{After-version_by}

pub returns-then-fields-gt-MAX_RANGES : goal.returns-then-fields-gt-MAX_RANGES
returns-then-fields-gt-MAX_RANGES c = λ ranges fields.
    let some : (leb 1 c.args.fields.parts && leb c.args.fields.parts (parts_limit_by (stages_of c.args.fields))) ≡ true = search rules in
    let many : leb (length ranges) MAX_RANGES ≡ false = lt-leb _ _ (omega (arith, length-ranges_in _ ranges fields.items)) in
    checked_as (stages_of c.args.fields) c.args.fields.parts ranges _ _ _ _ _ some many refl refl refl

pub returns-then-not-fields : goal.returns-then-not-fields
returns-then-not-fields c = λ ranges fields.
    let some : (leb 1 c.args.fields.parts && leb c.args.fields.parts (parts_limit_by (stages_of c.args.fields))) ≡ true = search rules in
    let few : leb (length ranges) MAX_RANGES ≡ true = le-leb _ _ (omega (arith, length-ranges_in _ ranges fields.items)) in
    let tiling = ap (λ l. l.tiling) (sym fields.layout) ∙ c.if-not-fields.true in
    checked_as (stages_of c.args.fields) c.args.fields.parts ranges _ _ _ _ _ some few tiling refl refl

pub returns-then-not-fields-2 : goal.returns-then-not-fields-2
returns-then-not-fields-2 c = λ ranges fields.
    let some : (leb 1 c.args.fields.parts && leb c.args.fields.parts (parts_limit_by (stages_of c.args.fields))) ≡ true = search rules in
    let few : leb (length ranges) MAX_RANGES ≡ true = le-leb _ _ (omega (arith, length-ranges_in _ ranges fields.items)) in
    let tiling = ap (λ l. l.tiling) (sym fields.layout) ∙ c.if-not-fields.false in
    let owned = ap (λ l. l.owned) (sym fields.layout) ∙ c.if-not-fields-2.true in
    checked_as (stages_of c.args.fields) c.args.fields.parts ranges _ _ _ _ _ some few tiling owned refl

-- each check of the ranges was passed
last_check : (c : After-version_by) (ranges : List PlanRange) → HasRanges c.args.fields ranges → (version : Option Version) → version_by (stages_of c.args.fields) ≡ version
    → checked (stages_of c.args.fields) c.args.fields.parts ranges ≡ outcome true true true true version c.args.fields.parts ranges
last_check c ranges fields version is =
    let some : (leb 1 c.args.fields.parts && leb c.args.fields.parts (parts_limit_by (stages_of c.args.fields))) ≡ true = search rules in
    let few : leb (length ranges) MAX_RANGES ≡ true = le-leb _ _ (omega (arith, length-ranges_in _ ranges fields.items)) in
    let tiling = ap (λ l. l.tiling) (sym fields.layout) ∙ c.if-not-fields.false in
    let owned = ap (λ l. l.owned) (sym fields.layout) ∙ c.if-not-fields-2.false in
    checked_as (stages_of c.args.fields) c.args.fields.parts ranges _ _ _ _ _ some few tiling owned is

pub returns-in-None : goal.returns-in-None
returns-in-None c = λ ranges fields. last_check (goal.at.returns-in-None c).After-version_by ranges fields _ (sym c.in-None.ensures)

pub returns-in-Some : goal.returns-in-Some
returns-in-Some c = λ ranges fields. last_check (goal.at.returns-in-Some c).After-version_by ranges fields _ (sym c.in-Some.ensures)
