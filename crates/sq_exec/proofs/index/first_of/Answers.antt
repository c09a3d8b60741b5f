use Rattle.std.proofs.Common.{ℕ, ◌+◌, Some, sym, ap, subst}
use Rattle.std.specs.BTreeSet.{IsKeyRangeOf}
use Rattle.std.specs.declared.ops.Bound.TheVariants.{Included, Excluded}
use Rattle.sq_exec.specs.Index.{entry_cmp, FirstOf}
use Rattle.sq_exec.proofs.Ranges.{first_in_range, none_in_range}
use Rattle.sq_exec.proofs.index.first_of.Goals as goal

pub returns-in_err-entry : goal.returns-in_err-entry
returns-in_err-entry c =
    let root = c.args.root in
    subst (FirstOf c.args.by_root.now root) (sym c.from_residual.ensures)
    (none_in_range c.args.by_root.now root (subst (IsKeyRangeOf entry_cmp (Included (root, 0)) (Excluded (root + 1, 0)) c.args.by_root.now) (c.in_err-entry.ensures.steps).0 (c.range.ensures.in_range tt)))

pub returns : goal.returns
returns c =
    let root = c.args.root in
    subst (λ number. FirstOf c.args.by_root.now root (Some number)) (sym (ap (λ (e : ℕ × ℕ). e.1) c.entry.view_is))
    (first_in_range c.args.by_root.now root (c.in_ok-entry.entry).now c.next.new.self (subst (IsKeyRangeOf entry_cmp (Included (root, 0)) (Excluded (root + 1, 0)) c.args.by_root.now) c.in_ok-entry.ensures.steps (c.range.ensures.in_range tt)))
