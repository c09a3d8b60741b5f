use Rattle.std.proofs.Common.{◌≡◌, ◌-◌, true, slice_get, Some, refl, arith}
use Rattle.sq_gather.proofs.Prelude.{Contains-slice_get}
use Rattle.sq_audit.specs.Located.{entry_of, entries_in}
use Rattle.sq_audit.proofs.Listing.{mapped_at, mapped_past}
use Rattle.sq_audit.proofs.Each.{decides_not, refuted, shown}
use Rattle.sq_audit.proofs.Indexing.{agree_first, agree_more, agree_whole}
use Rattle.sq_audit.proofs.index.stand_once.Goals as goal
use Rattle.sq_audit.proofs.index.stand_once.Goals.{After-agree}

pub loop-at-init : goal.loop-at-init
loop-at-init c = record { some = omega arith; so_far = agree_first (entries_in c.args.all.now) }

-- the two families that are looked at
before : (c : After-agree) → slice_get (entries_in c.args.all.now) (c.loop-at.at - 1) ≡ Some (entry_of c.index-all-at.result)
before c =
    let all = c.args.all.now in
    let at = c.loop-at.at in
    let test = c.loop-at-test.true in
    mapped_at entry_of all (at - 1) c.index-all-at.result c.index-all-at.is (omega (arith, test))

here : (c : After-agree) → slice_get (entries_in c.args.all.now) c.loop-at.at ≡ Some (entry_of c.index-all-at-in-loop-at.result)
here c =
    let all = c.args.all.now in
    let one = c.index-all-at-in-loop-at in
    mapped_at entry_of all c.loop-at.at one.result one.is c.loop-at-test.true

pub returns-then-not-agree : goal.returns-then-not-agree
returns-then-not-agree c =
    let at = (goal.at.returns-then-not-agree c).After-agree in
    let entries = entries_in c.args.all.now in
    let one = entry_of c.index-all-at.result in
    let other = entry_of c.index-all-at-in-loop-at.result in
    decides_not (λ agree.
    refuted c.agree.result c.agree.ensures c.if-not-agree.true (agree one other (Contains-slice_get entries (c.loop-at.at - 1) one (before at)) (Contains-slice_get entries c.loop-at.at other (here at))))

pub loop-at-preserved : goal.loop-at-preserved
loop-at-preserved c =
    let at = (goal.at.loop-at-preserved c).After-agree in
    let so_far = c.loop-at.invariant in
    record {
      some = omega arith;
      so_far =
          agree_more (entries_in c.args.all.now) c.requires c.loop-at.at so_far.some (entry_of c.index-all-at.result) (entry_of c.index-all-at-in-loop-at.result) (before at) (here at) so_far.so_far
          (shown c.agree.result c.agree.ensures c.if-not-agree.false);
    }

pub returns : goal.returns
returns c =
    agree_whole (entries_in c.args.all.now) c.loop-at.at true (mapped_past entry_of c.args.all.now c.loop-at.at c.loop-at-test.false) ((λ e. c.loop-at.invariant.so_far), (λ agree. refl))
