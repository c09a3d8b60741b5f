use Rattle.std.proofs.Common.{List, ◌++◌, ℕ, sym, ap, ◌∙◌, append_assoc}
use Rattle.std.specs.List.{flat_map}
use Rattle.std.proofs.lemmas.Grind.{flat_map-append}
use Rattle.sq_text.specs.Texts.{hex_byte_text}
use Rattle.sq_text.proofs.Appending.{both}
use Rattle.sq_text.proofs.row_text.write_hex.Goals as goal

pub loop-rest-preserved : goal.loop-rest-preserved
loop-rest-preserved g c =
    let before = c.loop-rest.invariant in
    let written = before.0 in (
      written ++ c.split_at.result.0.now,
      before.1 ∙ ap (λ (t : List ℕ). written ++ t) c.split_at.ensures.by_index.0 ∙ sym (append_assoc written c.split_at.result.0.now c.split_at.result.1.now),
      both _ _ _ _ _ _ before.2 c.in_ok-write_bytes.ensures (rw flat_map-append (ap (λ (t : List ℕ). flat_map hex_byte_text written ++ t) c.put_hex.ensures)),
    )
