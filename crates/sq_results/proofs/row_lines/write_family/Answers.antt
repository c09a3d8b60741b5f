use Rattle.std.proofs.Common.{◌≡◌, List, [], ℕ, ◌++◌, refl, sym, ap, ◌∙◌, subst, append_assoc}
use Rattle.std.specs.List.{flat_map}
use Rattle.std.specs.Io.KnownBytes.{Appends}
use Rattle.std.proofs.lemmas.List.{append-nil}
use Rattle.sq_schema.specs.RowKey.{RowKey}
use Rattle.sq_schema.specs.Values.{RowValue}
use Rattle.sq_text.proofs.Appending.{both, appends_none}
use Rattle.sq_results.specs.RowLines.{row_line, root_lines}
use Rattle.sq_results.proofs.row_lines.write_family.Goals as goal

pub loop-key-init : goal.loop-key-init
loop-key-init g c =
    let root = c.number-root.ensures.number ∙ c.root.ensures in
    let rows = c.into_iter-key-iterator.ensures.into_iter_gives ∙ c.iter-key-items.ensures.all ∙ c.rows.ensures.rows in
    (tt, tt, ([], appends_none (g.W.Write.contents c.args.writer.now), λ i. flat_map (row_line (root i)) (rows i)))

pub loop-key-preserved : goal.loop-key-preserved
loop-key-preserved g c =
    let before = c.loop-key.invariant.2 in
    let text = row_line c.number-root.result (c.in-Some.key.now, c.in-Some.row.now) in
    let texts = λ (entries : List (RowKey × RowValue)). before.0 ++ flat_map (row_line c.number-root.result) entries in (
      tt,
      tt,
      (
        before.0 ++ text,
        both _ _ _ _ _ _ before.1 c.in_ok-write_row.ensures refl,
        append_assoc before.0 text _ ∙ sym (ap texts c.in-Some.ensures.steps) ∙ before.2,
      ),
    )

pub returns : goal.returns
returns g c =
    let all = c.loop-key.invariant.2 in
    let say = flat_map (row_line c.number-root.result) in
    let whole : all.0 ≡ root_lines c.args.family.now = sym (append-nil all.0) ∙ sym (ap (λ (left : List (RowKey × RowValue)). all.0 ++ say left) (c.in-None.ensures.steps).0) ∙ all.2 in
    subst (λ (t : List ℕ). Appends (g.W.Write.contents c.args.writer.now) (g.W.Write.contents c.loop-key.writer) t) whole all.1
