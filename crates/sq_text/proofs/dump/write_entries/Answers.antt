use Rattle.std.proofs.Common.{List, ◌∷◌, ◌++◌, ℕ, refl, sym, ap, ◌∙◌, append_assoc}
use Rattle.std.specs.List.{flat_map}
use Rattle.sq_schema.specs.RowKey.{RowKey}
use Rattle.sq_schema.specs.Values.{RowValue}
use Rattle.sq_text.specs.Texts.{entry_text}
use Rattle.sq_text.proofs.Appending.{both}
use Rattle.sq_text.proofs.dump.write_entries.Goals as goal

pub loop-key-preserved : goal.loop-key-preserved
loop-key-preserved g c =
    let before = c.loop-key.invariant.2 in
    let text : List ℕ = 32 ∷ entry_text (c.in-Some.key.now, c.in-Some.row.now) in
    let texts = λ (entries : List (RowKey × RowValue)). before.0 ++ flat_map (λ entry. 32 ∷ entry_text entry) entries in (
      tt,
      tt,
      (
        before.0 ++ text,
        both _ _ _ _ _ _ before.1 c.in_ok-write_entry.ensures refl,
        append_assoc before.0 text _ ∙ sym (ap texts c.in-Some.ensures.steps) ∙ before.2,
      ),
    )
