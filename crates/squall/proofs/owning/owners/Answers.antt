use Rattle.std.proofs.Common.{◌∙◌}
use Rattle.squall.proofs.KeyOwners.{told_owners}
use Rattle.squall.proofs.owning.owners.Goals as goal

pub returns : goal.returns
returns g c =
    told_owners c.args.keys.now c.deref.result.now c.args.telling.width c.is_some-tells_leaves.result c.args.telling.json c.in-Ok.lines.items c.as_slice.result.now c.as_bytes.result.now _ _ _ c.tell_owners-told.result c.exit_status.result c.in-Ok.ensures c.as_slice.ensures.value
    (c.as_bytes.ensures.value ∙ c.in-Ok-config_line.ensures) (c.new-reader.ensures ∙ c.chain.ensures.bytes) (c.deref.ensures.value ∙ c.in-Ok-roots_of.ensures) c.is_some-tells_leaves.ensures c.tell_owners-told.ensures c.exit_status.ensures
