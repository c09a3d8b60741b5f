use Rattle.std.proofs.Common.{◌≡◌, ℕ, List, map, refl, sym, ap, ◌∙◌, arith}
use Rattle.std.specs.Prelude.{◌≤◌}
use Rattle.std.proofs.lemmas.Bool.{eq-eqb}
use Rattle.sq_moves.specs.CutEnd.{end_of}
use Rattle.sq_schema.specs.declared.root.TheConstants.{ROOT_END}
use Rattle.sq_store.specs.Counting.{chunk_count, root_after}
use Rattle.sq_store.specs.InOrder.{are_within}
use Rattle.sq_store.specs.StoreValue.{families_between, stored_size, take_end}
use Rattle.sq_store.proofs.Between.{between_none, without_none}
use Rattle.sq_store.specs.Run.{Run}
use Rattle.sq_store.specs.Runs.{families_in_runs, between, AreRuns}
use Rattle.sq_store.proofs.InRuns.{runs_rise}
use Rattle.sq_store.proofs.RunSpans.{TakesChunk, takes_chunk}
use Rattle.sq_store.proofs.slab_store.SlabStoreFamilyStore.take.Goals as goal

pub returns-then-hi-lo-clause-cut : goal.returns-then-hi-lo-clause-cut
returns-then-hi-lo-clause-cut c =
    let lo = c.args.extent.lo in
    let hi = c.args.extent.hi in
    let none = between_none c.args.self.now lo hi c.if-hi-lo.true in
    record {
      end = sym (ap (λ families. end_of (stored_size c.args.self.now) hi c.args.limit (map (λ family. family.root) families)) none);
      last = sym (eq-eqb hi hi refl);
      families = c.new.ensures.items ∙ sym none;
    }

pub returns-then-hi-lo-clause-store : goal.returns-then-hi-lo-clause-store
returns-then-hi-lo-clause-store c = sym (without_none c.args.self.now c.args.extent.lo c.args.extent.hi c.if-hi-lo.true)

-- what a chunk takes
chunk : (runs : List Run) (lo hi limit : ℕ) (cut : ℕ × ℕ) → AreRuns ROOT_END runs → lo ≤ hi → cut.0 ≡ chunk_count limit (between lo hi (families_in_runs runs)) → cut.1 ≡ root_after hi (between lo hi (families_in_runs runs)) cut.0
    → TakesChunk (families_in_runs runs) lo hi limit cut.0 cut.1
chunk runs lo hi limit cut are rise counted ended = takes_chunk (families_in_runs runs) lo hi limit cut.0 cut.1 (runs_rise ROOT_END runs are) rise counted ended

pub take_chunk-requires-clause-bounds : goal.take_chunk-requires-clause-bounds
take_chunk-requires-clause-bounds c =
    (chunk c.self.inside.runs c.args.extent.lo c.args.extent.hi c.args.limit c.cut-count.result c.self.invariant (omega (arith, c.if-hi-lo.false)) c.cut-count.ensures.count c.cut-count.ensures.end).from

pub take_chunk-requires-clause-count : goal.take_chunk-requires-clause-count
take_chunk-requires-clause-count c =
    sym (chunk c.self.inside.runs c.args.extent.lo c.args.extent.hi c.args.limit c.cut-count.result c.self.invariant (omega (arith, c.if-hi-lo.false)) c.cut-count.ensures.count c.cut-count.ensures.end).counted

pub returns-clause-cut : goal.returns-clause-cut
returns-clause-cut c =
    let is = chunk c.self.inside.runs c.args.extent.lo c.args.extent.hi c.args.limit c.cut-count.result c.self.invariant (omega (arith, c.if-hi-lo.false)) c.cut-count.ensures.count c.cut-count.ensures.end in
    let lo = c.args.extent.lo in
    let end = c.cut-count.result.1 in
    record {
      end = is.ends ∙ ap (λ store. take_end store lo c.args.extent.hi c.args.limit) c.self.view_is;
      last = refl;
      families = c.in_ok-families.ensures.taken ∙ ap (λ store. families_between store lo end) c.self.view_is;
    }

pub returns-clause-from : goal.returns-clause-from
returns-clause-from c = λ rise.
    (chunk c.self.inside.runs c.args.extent.lo c.args.extent.hi c.args.limit c.cut-count.result c.self.invariant rise c.cut-count.ensures.count c.cut-count.ensures.end).from

pub returns-clause-upto : goal.returns-clause-upto
returns-clause-upto c =
    (chunk c.self.inside.runs c.args.extent.lo c.args.extent.hi c.args.limit c.cut-count.result c.self.invariant (omega (arith, c.if-hi-lo.false)) c.cut-count.ensures.count c.cut-count.ensures.end).upto

pub returns-clause-within : goal.returns-clause-within
returns-clause-within c =
    let is = chunk c.self.inside.runs c.args.extent.lo c.args.extent.hi c.args.limit c.cut-count.result c.self.invariant (omega (arith, c.if-hi-lo.false)) c.cut-count.ensures.count c.cut-count.ensures.end in
    ap (are_within c.args.extent.lo c.cut-count.result.1) c.in_ok-families.ensures.taken ∙ is.within
