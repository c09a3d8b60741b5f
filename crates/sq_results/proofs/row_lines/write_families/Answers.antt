use Rattle.std.proofs.Common.{List, ℕ, sym, subst, arith}
use Rattle.std.specs.Borrow.{Bor}
use Rattle.std.specs.Io.KnownBytes.{Appends}
use Rattle.std.proofs.lemmas.List.Folds.{flat_map-map}
use Rattle.sq_schema.specs.Family.{FamilyValue}
use Rattle.sq_text.proofs.Appending.{appends_none, appends_next, appends_all}
use Rattle.sq_results.specs.RowLines.{root_lines}
use Rattle.sq_results.proofs.row_lines.write_families.Goals as goal

abbrev lines : Bor FamilyValue → List ℕ
lines family = root_lines family.now

pub loop-family-init : goal.loop-family-init
loop-family-init g c = appends_none (g.W.Write.contents c.args.writer.now)

pub loop-family-preserved : goal.loop-family-preserved
loop-family-preserved g c =
    appends_next lines c.args.families.now c.loop-family.family-index c.family-item.result _ _ _ c.loop-family-test.true c.family-item.is c.loop-family.invariant c.in_ok-write_family.ensures

pub returns : goal.returns
returns g c =
    let all = appends_all lines c.args.families.now c.loop-family.family-index _ _ (omega arith) c.loop-family.invariant in
    subst (λ (t : List ℕ). Appends (g.W.Write.contents c.args.writer.now) (g.W.Write.contents c.loop-family.writer) t)
    (sym (flat_map-map root_lines (λ (family : Bor FamilyValue). family.now) c.args.families.now)) all
