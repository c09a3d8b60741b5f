use Rattle.std.proofs.Common.{◌≡◌, ℕ, List, true, ◌++◌, ◌∷◌, [], length, sym, ap, ◌∙◌, subst}
use Rattle.std.proofs.lemmas.Bool.{and_parts}
use Rattle.sq_moves.specs.ReconValue.{stage_on}
use Rattle.std.specs.Prelude.{◌==◌, Option, IfSome, Bool, if◌then◌else◌}
use Rattle.sq_exec.specs.CoreValue.{CoreValue}
use Rattle.sq_store.specs.ChunkValue.{ChunkValue, IsChunk}
use Rattle.sq_exec.specs.Moving.{may_load, LoadsFrom}
use Rattle.sq_node.specs.NodeState.{NodeState}
use Rattle.sq_node.specs.Settled.{IsNode}
use Rattle.sq_node.specs.Steps.{LoadStep}
use Rattle.sq_node.specs.declared.stepped.Stepped.TheVariants.{Did}
use Rattle.sq_node.proofs.Told.{load_told}
use Rattle.sq_node.proofs.Keeps.{none_to_load}
use Rattle.sq_node.proofs.Settles.{after_load}
use Rattle.sq_node.proofs.node.Node.step_load.Goals as goal
use Rattle.sq_node.proofs.node.Node.step_load.Goals.{In-Ok}

-- which nodes are to be completed once the chunk is loaded
settles : (c : In-Ok) (more : List (ℕ × ℕ)) → let note = c.in-Ok.note in let pending = c.self.inside.to_complete.items in
    more ≡ (if note.last then pending ++ (note.seg, note.node) ∷ [] else pending) → (c.self.inside.puller.puller.part ≡ c.load.new.self.core.part) × IsNode c.load.new.self.core c.self.inside.seats.items more c.self.inside.complete.items
settles c more more_is =
    let inside = c.self.inside in
    let core = c.args.self.now.core in
    let core_is = ap (λ (node : NodeState). node.core) c.self.view_is in (
      c.self.invariant.0 ∙ sym (ap (λ (core : CoreValue). core.part) c.in-Ok.ensures.ok.after),
      after_load inside.core.core c.load.new.self.core c.in-Some.src c.in-Ok.note c.in-Ok.ensures.ok
          (subst (λ (core : CoreValue). length core.loaded ≡ length core.recon.segments) (sym core_is) c.in-Some.ensures.each) (subst (λ (core : CoreValue). may_load core c.in-Some.src ≡ true) (sym core_is) (and_parts (stage_on core.recon c.in-Some.src core.part == core.stage) (may_load core c.in-Some.src) c.in-Some.ensures.some).1)
          inside.seats.items inside.to_complete.items more inside.complete.items more_is c.self.invariant.1,
    )

-- the node loaded the chunk
loads : (c : In-Ok) → let inside = c.self.inside in
    LoadStep c.args.self.now Did (record { core = c.load.new.self.core; seats = inside.seats.items; sends = inside.sends.items; recvs = inside.recvs.items; receipts = inside.desk.receipts; claims = inside.puller.puller.wins.count })
loads c =
    let src = c.in-Some.src in
    let note = c.in-Ok.note in
    let new = c.load.new.self.core in
    let load : LoadsFrom c.args.self.now.core src note new = subst (λ (node : NodeState). LoadsFrom node.core src note new) c.self.view_is c.in-Ok.ensures.ok in (
      src,
      record {
        note = note;
        can = c.in-Some.ensures.some;
        load = load;
        sound = subst (λ (found : Option ChunkValue). IfSome found IsChunk) load.came c.in-Some.ensures.chunk;
        after = ap (λ (node : NodeState). record node { core = new }) c.self.view_is;
      },
      c.in-Some.ensures.first,
    )

pub invariant_of-self-then-note : goal.invariant_of-self-then-note
invariant_of-self-then-note c =
    let note = c.in-Ok.note in
    let pending = c.self.inside.to_complete.items in
    settles (goal.at.invariant_of-self-then-note c).In-Ok c.push_reserved.new.self.items
    (c.push_reserved.ensures.items ∙ (λ k. c.reserve.ensures.items k ++ (note.seg, note.node) ∷ []) ∙ ap (λ (b : Bool). if b then pending ++ (note.seg, note.node) ∷ [] else pending) (sym c.if-note.true))

pub invariant_of-self-else-note : goal.invariant_of-self-else-note
invariant_of-self-else-note c =
    let note = c.in-Ok.note in
    let pending = c.self.inside.to_complete.items in
    settles (goal.at.invariant_of-self-else-note c).In-Ok c.reserve.new.self.items
    (c.reserve.ensures.items ∙ ap (λ (b : Bool). if b then pending ++ (note.seg, note.node) ∷ [] else pending) (sym c.if-note.false))

pub returns-then-note-clause-makes : goal.returns-then-note-clause-makes
returns-then-note-clause-makes c = load_told c.args.fabric.now c.args.self.now Did _ c.requires (loads (goal.at.returns-then-note-clause-makes c).In-Ok)

pub returns-else-note-clause-makes : goal.returns-else-note-clause-makes
returns-else-note-clause-makes c = load_told c.args.fabric.now c.args.self.now Did _ c.requires (loads (goal.at.returns-else-note-clause-makes c).In-Ok)

pub returns-in_default-clause-nothing : goal.returns-in_default-clause-nothing
returns-in_default-clause-nothing c = λ nothing. none_to_load c.args.self.now c.in_default.ensures.none c.in_default.ensures.chunks
