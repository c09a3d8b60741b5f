use Rattle.std.proofs.Common.{◌≡◌, ◌↔◌, ℕ, Bool, IsTrue, ◌∙◌, sym, ap, subst}
use Rattle.sq_moves.specs.declared.status.Status.{Status}
use Rattle.sq_moves.specs.declared.status.Status.TheVariants.{Split}
use Rattle.sq_moves.specs.Status.{is_split, covering}
use Rattle.sq_moves.specs.Tree.{status_at, IsCovering}
use Rattle.sq_moves.proofs.Statuses.{answer_is_split}
use Rattle.sq_moves.proofs.Covering.{covering_is, looks_from_1, looks_from_half, looks_no_further}
use Rattle.sq_moves.proofs.plain.PlainTree.covering.Goals as goal

-- what the loop's test says of the node's status
test : (looked there : Status) (answer : Bool) → looked ≡ there → (IsTrue answer ↔ (looked ≡ Split)) → is_split there ≡ answer
test looked there answer is tells = ap is_split (sym is) ∙ sym (answer_is_split answer looked tells)

pub loop-leaf-init : goal.loop-leaf-init
loop-leaf-init c = looks_from_1 (status_at c.args.self.now) c.args.leaf

pub loop-leaf-preserved : goal.loop-leaf-preserved
loop-leaf-preserved c =
    let status = status_at c.args.self.now in
    let n : ℕ = c.loop-leaf.node in
    let split = test _ (status n) _ c.status.ensures.status c.is_split.ensures ∙ c.loop-leaf-test.true in
    looks_from_half status c.status.ensures.grown c.args.leaf n (covering status c.args.leaf) c.loop-leaf.invariant split c.half_above-node.result c.half_above-node.ensures.half

end_of : (c : goal.After-loop-leaf) → c.loop-leaf.node ≡ covering (status_at c.args.self.now) c.args.leaf
end_of c =
    let status = status_at c.args.self.now in
    let n : ℕ = c.loop-leaf.node in
    let whole = test _ (status n) _ c.status.ensures.status c.is_split.ensures ∙ c.loop-leaf-test.false in
    looks_no_further status c.args.leaf n (covering status c.args.leaf) c.loop-leaf.invariant whole

pub returns-clause-covering : goal.returns-clause-covering
returns-clause-covering c = end_of c

pub returns-clause-only : goal.returns-clause-only
returns-clause-only c =
    let status = status_at c.args.self.now in
    subst (IsCovering status c.args.leaf) (sym (end_of c)) (covering_is status c.status.ensures.grown c.args.leaf (rw c.number.ensures.number at c.number.ensures.bound))
