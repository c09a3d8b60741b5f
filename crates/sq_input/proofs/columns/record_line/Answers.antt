-- The word `row`, those of the fields, and a line end are the line.
use Rattle.std.proofs.Common.{◌≡◌, ℕ, List, [], ◌∷◌, ◌++◌, ap, ◌∙◌}
use Rattle.std.specs.Prelude.{codes}
use Rattle.std.specs.List.{enumerate_from}
use Rattle.csv.specs.Records.{fields_of}
use Rattle.sq_input.specs.Columns.{field_word, fields_text}
use Rattle.sq_input.proofs.Pieces.{line_of_texts}
use Rattle.sq_input.proofs.columns.record_line.Goals as goal

pub returns : goal.returns
returns c =
    let fields = fields_of c.args.values.now in
    let front : c.extend_from_slice.new.self.items ≡ codes "row" = c.in_ok-extend_from_slice.ensures.items ∙ ap (λ (t : List ℕ). t ++ codes "row") c.in_ok-line.ensures.items in
    c.in_ok-push.ensures.items ∙ ap (λ (t : List ℕ). t ++ (10 ∷ [])) (c.in_ok-push_fields.ensures ∙ ap (λ (t : List ℕ). t ++ fields_text fields) front)
    ∙ line_of_texts (codes "row") field_word (enumerate_from 0 fields)
