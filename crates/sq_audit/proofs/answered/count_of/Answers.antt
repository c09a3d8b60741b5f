use Rattle.std.proofs.Common.{rules, ◌≡◌, ℕ, ◌-◌, ◌==◌, ◌≤◌, nat_lt, List, length, take, drop, sym, ap, ◌∙◌, arith, length-drop}
use Rattle.std.specs.Prelude.{count_by}
use Rattle.std.specs.List.{take_while}
use Rattle.std.proofs.lemmas.Fn.{always_returns_same}
use Rattle.std.proofs.lemmas.List.{take_all}
use Rattle.sq_audit.specs.ById.{is_id_and_root}
use Rattle.sq_audit.proofs.Searching.{counted_from}
use Rattle.sq_audit.proofs.answered.count_of.Goals as goal

pub returns : goal.returns
returns c =
    let ids = c.args.ids.now in
    let txn = c.args.job.now.txn in
    let id = c.id-id.result in
    let root = c.number-root.result in
    let first = c.partition_point-first.result in
    let point = c.partition_point-first.ensures.partitioned (λ one. nat_lt one.0 id) (always_returns_same _ _ _ (λ a r f k. search rules)) in
    let long = length-drop first ids in
    let short : length (drop first ids) ≤ length ids - first = omega (arith, long) in
    let whole : take (length ids - first) (drop first ids) ≡ drop first ids = take_all (length ids - first) (drop first ids) short in
    let id_is : id ≡ txn.id = c.id-id.ensures in
    let root_is : root ≡ txn.root = c.number-root.ensures.number ∙ c.root.ensures in
    c.count_first.ensures
    ∙ ap (λ (list : List (ℕ × ℕ)). count_by (λ one. one.1 == root) (take_while (λ one. one.0 == id) list)) whole
    ∙ sym (counted_from ids c.requires id first point root)
    ∙ (λ k. count_by (is_id_and_root (id_is k) (root_is k)) ids)
