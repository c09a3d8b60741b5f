use Rattle.std.proofs.Common.{◌≡◌, take}
use Rattle.std.specs.List.{flat_map}
use Rattle.sq_audit.specs.Spans.{marked_in, notes_of}
use Rattle.sq_audit.proofs.spans.by_key.Given as goal

abbrev pub invariant-loop-link : goal.invariant-loop-link
invariant-loop-link l = marked_in l.spans.items ≡ flat_map notes_of (take l.link-index l.links)
