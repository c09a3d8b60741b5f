use Rattle.std.proofs.Common.{◌≡◌, inl, inr, ◌-◌, ◌<◌, ◌∙◌, true, IsTrue, List, sym, ap, subst, length, slice_set, arith}
use Rattle.std.proofs.lemmas.Bool.{cases_Bool}
use Rattle.sq_moves.specs.declared.status.Status.{Status}
use Rattle.sq_moves.specs.Node.{is_node}
use Rattle.sq_moves.specs.Status.{is_free, is_live}
use Rattle.sq_moves.specs.Tree.{status_at, with_status, IsGrown}
use Rattle.sq_moves.proofs.Nested.{node_within}
use Rattle.sq_moves.proofs.Placed.{placed-set, statuses-with_status}
use Rattle.sq_moves.proofs.Grown.{grown-set_at}
use Rattle.sq_moves.proofs.plain.PlainTree.set.Goals as goal

place : (c : goal.After-way_told-1) → c.index.result ≡ c.args.node - 1
place c = omega arith

node : (c : goal.After-way_told-1) → IsTrue (is_node c.args.node)
node c = node_within c.args.node (omega arith) (omega arith)

written : (c : goal.After-way_told-1) → slice_set c.self.inside.statuses c.index.result c.args.status ≡ with_status c.args.self.now c.args.node c.args.status
written c =
    let within : c.args.node - 1 < length c.self.inside.statuses = omega arith in
    let at = place c in
    ap (λ i. slice_set c.self.inside.statuses i c.args.status) at
    ∙ sym (placed-set c.self.inside.statuses (c.args.node - 1) c.args.status within)
    ∙ ap (λ sts. with_status sts c.args.node c.args.status) c.self.view_is

pub invariant_of-self : goal.invariant_of-self
invariant_of-self c =
    let status = status_at c.args.self.now in
    let grown : IsGrown status = subst (λ (sts : List Status). IsGrown (status_at sts)) c.self.view_is c.self.invariant in
    let live : is_live status c.args.node ≡ true = elim (cases_Bool (is_free (status c.args.node))) [
      | inl free ↦ c.requires.live free
      | inr touched ↦ grown.live c.args.node touched
    ] in
    let after = grown-set_at status c.args.node c.args.status grown (node c) live c.requires.whole c.requires.leaf in
    subst (λ (sts : List Status). IsGrown (status_at sts)) (sym (written c)) (subst IsGrown (sym (statuses-with_status c.args.self.now c.args.node c.args.status (node c))) after)

pub returns : goal.returns
returns c = written c
