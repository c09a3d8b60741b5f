use Rattle.std.proofs.Common.{rules, nat_le, sym, ap, ◌∙◌}
use Rattle.std.specs.Prelude.{option_map}
use Rattle.std.proofs.lemmas.Fn.{always_returns_same}
use Rattle.sq_audit.specs.declared.spans.Span.{Span}
use Rattle.sq_audit.specs.Spans.{marked_of}
use Rattle.sq_audit.proofs.Lists.{PartsAt}
use Rattle.sq_audit.proofs.Spanning.{nothing_covers, last_covers, last_ends}
use Rattle.sq_audit.proofs.spans.covering.Goals as goal
use Rattle.sq_audit.proofs.spans.covering.Goals.{After-partition_point-count}

-- the spans that begin at the key or before it come before the others, where spans are in order of key
parted : (c : After-partition_point-count) → PartsAt (λ (span : Span). nat_le span.note.now.lo c.args.key) c.args.spans.now c.partition_point-count.result
parted c = c.partition_point-count.ensures.partitioned (λ span. nat_le span.note.now.lo c.args.key) (always_returns_same _ _ _ (λ a r f k. search rules))

pub returns-in_err-last : goal.returns-in_err-last
returns-in_err-last c =
    ap (option_map marked_of) c.from_residual.ensures
    ∙ sym (nothing_covers c.args.spans.now c.requires c.args.key c.partition_point-count.result c.partition_point-count.ensures.bound (parted (goal.at.returns-in_err-last c).After-partition_point-count) c.in_err-last.ensures.value)

pub returns-then-key-last : goal.returns-then-key-last
returns-then-key-last c =
    sym (last_covers c.args.spans.now c.requires c.args.key c.partition_point-count.result c.partition_point-count.ensures.bound (parted (goal.at.returns-then-key-last c).After-partition_point-count)
    c.in_ok-last.last.now c.in_ok-last.ensures.value c.if-key-last.true)

pub returns-else-key-last : goal.returns-else-key-last
returns-else-key-last c =
    sym (last_ends c.args.spans.now c.requires c.args.key c.partition_point-count.result c.partition_point-count.ensures.bound (parted (goal.at.returns-else-key-last c).After-partition_point-count)
    c.in_ok-last.last.now c.in_ok-last.ensures.value c.if-key-last.false)
