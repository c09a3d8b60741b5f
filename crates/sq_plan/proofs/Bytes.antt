-- What bytes are read as, by the JSON value that they are.
use Rattle.std.proofs.Common.{◌≡◌, ℕ, ◌<◌, ◌&&◌, ◌||◌, eqb, ltb, leb, Bool, true, false, List, [], ◌∷◌, length, Option, Some, None, ok_or, codes, Result, Ok, Err, IfOk, IfErr, refl, sym, subst, ◌∙◌, arith}
use Rattle.std.specs.List.{list_all}
use Rattle.std.specs.Str.{is_utf8, chars}
use Rattle.std.proofs.lemmas.Bool.{false≢true}
use Rattle.std.proofs.lemmas.Option.{same_Some, none-some}
use Rattle.serde_json.specs.Data.{Data}
use Rattle.serde_json.proofs.OnLiterals.{serde_json_on_literals}
use Rattle.sq_schema.specs.Chain.{◌>>=◌}
use Rattle.sq_plan.specs.declared.plan.TheConstants.{MAX_RANGES}
use Rattle.sq_plan.specs.declared.fault.PlanFault.{PlanFault}
use Rattle.sq_plan.specs.declared.fault.PlanFault.TheVariants.{NotJson, Shape, Version, PartitionCount, RangeOrder, PartitionNumber, TooManyRanges, BadStages, Memory}
use Rattle.sq_plan.specs.PlanValue.{PlanValue, IsPlan, is_tiling}
use Rattle.sq_plan.specs.Spelling.{Spells}
use Rattle.sq_plan.specs.Reading.{check, whole_at, ranges_at, stages_at, version_by, parts_limit_by, plan_of, json_of, ReadsPlan}
use Rattle.sq_plan.proofs.Spelled.{plan_of-ok, plan_of-spelled}

json_of-nothing : json_of [] ≡ None
unfolding serde_json_on_literals json_of is_utf8 chars
json_of-nothing = refl

-- what is JSON isn't empty
pub json_of-some : (bytes : List ℕ) (value : Data) → json_of bytes ≡ Some value → 0 < length bytes
json_of-some [] value is = absurd (none-some value (sym json_of-nothing ∙ is))
json_of-some (byte ∷ bytes) value is = omega arith

-- what was read is a plan, and the bytes spell it
pub found : (came : Result PlanValue PlanFault) (bytes : List ℕ) (value : Data) → json_of bytes ≡ Some value → ReadsPlan came (plan_of value)
    → IfOk came (λ plan. IsPlan plan × ((spelling : Data) × (json_of bytes ≡ Some spelling) × Spells spelling plan))
found (Ok plan) bytes value is gives =
    let both = plan_of-ok value plan (sym gives) in
    (both.1, (value, is, both.0))
found (Err fault) bytes value is gives = tt

-- a plan that bytes spell is what was read
pub only : (came : Result PlanValue PlanFault) (bytes : List ℕ) (value : Data) → json_of bytes ≡ Some value → ReadsPlan came (plan_of value)
    → (spelling : Data) (plan : PlanValue) → json_of bytes ≡ Some spelling → Spells spelling plan → IsPlan plan → ReadsPlan came (Ok plan)
only came bytes value is gives spelling plan other spells is_plan =
    let same : spelling ≡ value = same_Some _ _ (sym other ∙ is) in
    let spelled = subst (λ (v : Data). Spells v plan) same spells in
    subst (ReadsPlan came) (plan_of-spelled value plan spelled is_plan) gives

-- a fault that a JSON value may have
abbrev pub is_of_value : PlanFault → Bool
is_of_value NotJson = false
is_of_value Memory = false
is_of_value _ = true

bind_fault : {A B : Type 0} (r : Result A PlanFault) (f : A → Result B PlanFault) → IfErr r (λ fault. is_of_value fault ≡ true) → ((x : A) → IfErr (f x) (λ fault. is_of_value fault ≡ true)) → IfErr (r >>= f) (λ fault. is_of_value fault ≡ true)
bind_fault (Ok x) f first more = more x
bind_fault (Err fault) f first more = first

check_fault : (test : Bool) (fault : PlanFault) → is_of_value fault ≡ true → IfErr (check test fault) (λ fault. is_of_value fault ≡ true)
check_fault true fault is = tt
check_fault false fault is = is

ok_or_fault : {A : Type 0} (o : Option A) (fault : PlanFault) → is_of_value fault ≡ true → IfErr (ok_or o fault) (λ fault. is_of_value fault ≡ true)
ok_or_fault None fault is = is
ok_or_fault (Some x) fault is = tt

pub plan_of_fault : (value : Data) → IfErr (plan_of value) (λ fault. is_of_value fault ≡ true)
plan_of_fault value =
    bind_fault _ _ (ok_or_fault (whole_at (codes "version") value) Shape refl) (λ version.
    bind_fault _ _ (check_fault (eqb version 1 || eqb version 2) Version refl) (λ _.
    bind_fault _ _ (ok_or_fault (whole_at (codes "partitions") value) Shape refl) (λ parts.
    bind_fault _ _ (ok_or_fault (ranges_at (codes "ranges") value) Shape refl) (λ ranges.
    bind_fault _ _ (ok_or_fault (stages_at version value) Shape refl) (λ stages.
    bind_fault _ _ (check_fault (leb 1 parts && leb parts (parts_limit_by stages)) PartitionCount refl) (λ _.
    bind_fault _ _ (check_fault (leb (length ranges) MAX_RANGES) TooManyRanges refl) (λ _.
    bind_fault _ _ (check_fault (is_tiling 0 ranges) RangeOrder refl) (λ _.
    bind_fault _ _ (check_fault (list_all (λ range. ltb range.owner parts) ranges) PartitionNumber refl) (λ _.
    bind_fault _ _ (ok_or_fault (version_by stages) BadStages refl) (λ version. tt))))))))))

-- a JSON value isn't refused as none
pub not_refused : (came : Result PlanValue PlanFault) (value : Data) → ReadsPlan came (plan_of value) → came ≡ Err NotJson → ⊥
not_refused came value gives is =
    let told : Err NotJson ≡ plan_of value = subst (λ (r : Result PlanValue PlanFault). ReadsPlan r (plan_of value)) is gives in
    let Faults : Result PlanValue PlanFault → Type 0 = λ r. IfErr r (λ fault. is_of_value fault ≡ true) in
    false≢true (subst Faults (sym told) (plan_of_fault value))
