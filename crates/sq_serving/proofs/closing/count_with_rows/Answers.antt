use Rattle.std.proofs.Common.{◌≡◌, ℕ, ◌==◌, Bool, List, sym, ap, ◌∙◌, arith}
use Rattle.std.specs.Prelude.{length, count_by, not, cond}
use Rattle.sq_schema.specs.Effect.{RowList}
use Rattle.sq_schema.specs.Family.{FamilyValue, rows_of}
use Rattle.sq_serving.proofs.Tallied.{one_counted, all_counted}
use Rattle.sq_serving.specs.Ends.{families_with_rows}
use Rattle.sq_serving.proofs.closing.count_with_rows.Goals as goal

-- whether a family has rows, as a number
abbrev one : FamilyValue → ℕ
one family = cond (not (length (rows_of family) == 0)) 1 0

pub loop-family-init : goal.loop-family-init
loop-family-init c = (
  tt,
  tt,
  λ fits.
      let all = ap (λ (l : List FamilyValue). count_by (λ (family : FamilyValue). not (length (rows_of family) == 0)) l)
      (c.into_iter-family-iterator.ensures.into_iter_gives ∙ c.families-family-items.ensures.families) in
      omega (arith, all),
)

pub loop-family-preserved : goal.loop-family-preserved
loop-family-preserved c =
    let family = c.in-Some.family.now in
    let none : one family ≡ 0 =
    ap (λ (b : Bool). cond (not b) 1 0)
    (ap (λ (rows : RowList). length rows == 0) (sym c.rows.ensures.rows) ∙ sym c.is_empty.ensures ∙ c.if-not-is_empty.false) in (
      tt,
      tt,
      one_counted one c.loop-family.count _ family c.loop-family.family-iterator c.next.new.self (families_with_rows c.args.store.now)
          c.in-Some.ensures.steps c.loop-family.invariant.2 (λ small. omega (arith, none)),
    )

pub returns : goal.returns
returns c =
    all_counted one c.loop-family.count c.loop-family.family-iterator (families_with_rows c.args.store.now)
    (c.in-None.ensures.steps).0 c.loop-family.invariant.2
