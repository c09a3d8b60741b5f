use Rattle.std.proofs.Common.{◌≡◌, Vec, Global, List, ℕ, length, map, Some, refl, sym, ◌∙◌, subst, vec_capacity, arith}
use Rattle.std.specs.Prelude.{slice_get, slice_set}
use Rattle.std.proofs.lemmas.List.{length-map}
use Rattle.std.proofs.lemmas.Option.{slice_get_read}
use Rattle.sq_schema.specs.TxnValue.{TxnValue}
use Rattle.sq_schema.specs.declared.txn.Txn.{Txn}
use Rattle.sq_exec.specs.Waiting.{WaitingValue, Arrival, txns_of}
use Rattle.sq_gather.specs.Left.{Room}
use Rattle.sq_gather.proofs.Filled.{Fills, FillsNext, fills_none, fills_next, all_filled}
use Rattle.sq_gather.proofs.left.add_all_waiting.Goals as goal
use Rattle.sq_gather.proofs.left.add_all_waiting.Goals.{In-Some}

abbrev txns : WaitingValue → List TxnValue
txns one = txns_of one.arrivals

abbrev items : Vec Txn Global → List TxnValue
items jobs = jobs.items

abbrev capacity : Vec Txn Global → ℕ
capacity jobs = vec_capacity jobs

abbrev room_of : Vec Txn Global → Room
room_of jobs = (jobs.items, vec_capacity jobs)

pub loop-one-init : goal.loop-one-init
loop-one-init c = fills_none _ _

-- what follows of one that was taken
next : (c : In-Some) → FillsNext txns room_of c.args.waiting.items c.pop.new.self.items c.in-Some.one c.args.left.now.items c.loop-one.left.items
next c =
    fills_next txns room_of c.args.waiting.items c.loop-one.waiting.items c.pop.new.self.items c.in-Some.one c.args.left.now.items c.loop-one.left.items
    c.loop-one.invariant c.in-Some.ensures.items c.requires.all c.requires.rooms

pub index_mut-requires : goal.index_mut-requires
index_mut-requires c =
    let here = next (goal.at.index_mut-requires c).In-Some in
    omega (arith, here.below, c.len-at.ensures, c.pop.new.self.ok.0, c.loop-one.left.ok.0)

pub add_waiting-requires : goal.add_waiting-requires
add_waiting-requires c =
    let here = next (goal.at.add_waiting-requires c).In-Some in
    let left = c.loop-one.left in
    let at : c.len-at.result ≡ length c.pop.new.self.items = omega (arith, c.len-at.ensures, c.pop.new.self.ok.0) in
    let stands = slice_get_read left.items (length left.items) c.len-at.result c.index_mut.result.now refl (omega (arith, here.below, at)) c.index_mut.ensures.value in
    (here.waits c.index_mut.result.now (subst (λ (n : ℕ). slice_get left.items n ≡ Some c.index_mut.result.now) at stands)).0

pub loop-one-preserved : goal.loop-one-preserved
loop-one-preserved c =
    let here = next (goal.at.loop-one-preserved c).In-Some in
    let left = c.loop-one.left in
    let at : c.len-at.result ≡ length c.pop.new.self.items = omega (arith, c.len-at.ensures, c.pop.new.self.ok.0) in
    let stands = slice_get_read left.items (length left.items) c.len-at.result c.index_mut.result.now refl (omega (arith, here.below, at)) c.index_mut.ensures.value in
    let roomy = (here.waits c.index_mut.result.now (subst (λ (n : ℕ). slice_get left.items n ≡ Some c.index_mut.result.now) at stands)).1 in
    subst (λ (n : ℕ). Fills (map txns c.args.waiting.items) (map txns c.pop.new.self.items) (map room_of c.args.left.now.items) (map room_of (slice_set left.items n c.add_waiting.new.jobs))) (sym at)
    (here.more c.add_waiting.new.jobs (λ small. c.add_waiting.ensures (omega (arith, small, roomy, length-map c.in-Some.one.arrivals (λ (a : Arrival). a.txn)))))

pub returns-clause-count : goal.returns-clause-count
returns-clause-count c = sym (length-map c.loop-one.left.items room_of) ∙ c.loop-one.invariant.count ∙ length-map c.args.left.now.items room_of

pub returns-clause-waiting : goal.returns-clause-waiting
returns-clause-waiting c =
    all_filled items capacity (map txns c.args.waiting.items) (map txns c.loop-one.waiting.items) (map room_of c.args.left.now.items) c.loop-one.left.items c.loop-one.invariant
    (omega (arith, c.in_default.ensures.cases.0, c.loop-one.waiting.ok.0, length-map c.loop-one.waiting.items txns))
