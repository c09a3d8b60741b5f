-- The word of each field goes behind those of the ones before it.
use Rattle.std.proofs.Common.{◌≡◌, ℕ, ◌+◌, ◌<◌, ◌≤◌, List, ◌∷◌, ◌++◌, ◌∙◌, length, take, Vec, Global, sym, subst}
use Rattle.std.specs.List.{flat_map, enumerate_from}
use Rattle.csv.specs.Records.{fields_of}
use Rattle.csv.proofs.RecordFacts.{field-there}
use Rattle.std.proofs.lemmas.List.FromFn.{length-enumerate_from}
use Rattle.sq_input.specs.Columns.{field_word}
use Rattle.sq_input.proofs.Pieces.{field_found, numbered_text_next, text_all}
use Rattle.sq_input.proofs.columns.push_fields.Goals as goal
use Rattle.sq_input.proofs.columns.push_fields.Goals.{in-Some+in_ok-push_field, in_default}

pub loop-column-preserved : goal.loop-column-preserved
loop-column-preserved c =
    let fields = fields_of c.args.values.now in
    let column = c.loop-column.column in
    let within : column < length fields = subst (λ n. column < n) c.len-column-end.ensures c.loop-column-test.true in
    let text = λ (placed : ℕ × List ℕ). 32 ∷ field_word placed in
    elim c.match-get.branch [
      | in-Some+in_ok-push_field w ↦
          subst (λ (line : Vec ℕ Global). line.items ≡ c.args.line.now.items ++ flat_map text (take (column + 1) (enumerate_from 0 fields))) (sym w.line-is)
          (numbered_text_next text fields column w.in-Some.field.now _ _ _ within (field_found fields column _ (sym w.in-Some.ensures.value)) c.loop-column.invariant w.in_ok-push_field.ensures)
      | in_default w ↦ absurd (field-there fields column within (sym w.in_default.ensures.value))
    ]

pub returns : goal.returns
returns c =
    let fields = fields_of c.args.values.now in
    text_all (λ placed. 32 ∷ field_word placed) (enumerate_from 0 fields) c.loop-column.column _ _ (subst (λ n. n ≤ c.loop-column.column) (c.len-column-end.ensures ∙ sym (length-enumerate_from 0 fields)) c.loop-column-test.false) c.loop-column.invariant
