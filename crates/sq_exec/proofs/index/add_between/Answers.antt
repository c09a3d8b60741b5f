use Rattle.std.proofs.Common.{◌≡◌, ◌||◌, ℕ, List, Result, Ok, Err, sym, subst}
use Rattle.std.specs.Prelude.{OnOk, OnErr}
use Rattle.std.specs.BTreeSet.{BTreeSet}
use Rattle.std.specs.List.Sorted.{IsPermutation}
use Rattle.sq_exec.specs.Index.{is_among, LackBetween, AddsBetween, HasAllBetween}
use Rattle.sq_exec.proofs.Ranges.{lacking_sorted, adds_lacking, has_all, adds_none}
use Rattle.sq_exec.proofs.index.add_between.Goals as goal

module _ (by_root : BTreeSet (ℕ × ℕ)) (lo hi : ℕ) (had : List ℕ) where
  in_order : (lacking sorted read : List ℕ) → LackBetween by_root lo hi had lacking → IsPermutation lacking sorted → read ≡ sorted → LackBetween by_root lo hi had read
  in_order lacking sorted read lacks moved is = subst (LackBetween by_root lo hi had) (sym is) (lacking_sorted by_root lo hi had lacking sorted moved lacks)

  module _ (new lacking : List ℕ) (lacks : LackBetween by_root lo hi had lacking) {T E : Type 0} where
    adds : (result : Result T E) → OnOk result ((n : ℕ) → is_among new n ≡ (is_among had n || is_among lacking n)) → OnErr result ((n : ℕ) → is_among new n ≡ is_among had n) → AddsBetween by_root lo hi had new
    adds (Ok x) all same = adds_lacking by_root lo hi had new lacking lacks all
    adds (Err e) all same = adds_none by_root lo hi had new same

    adds_all : (result : Result T E) → OnOk result ((n : ℕ) → is_among new n ≡ (is_among had n || is_among lacking n)) → OnOk result (HasAllBetween by_root lo hi new)
    adds_all (Ok x) all = has_all by_root lo hi had new lacking lacks all
    adds_all (Err e) all = tt

pub add_all-requires : goal.add_all-requires
add_all-requires c =
    let lacks = in_order c.args.by_root.now c.args.lo c.args.hi c.args.numbers.now c.in_ok-lacking.lacking.items c.sort_unstable.new.self.items (c.deref.result).now c.in_ok-lacking.ensures c.sort_unstable.ensures.permutation c.deref.ensures.value in
    lacks.lacking

pub returns-clause-adds : goal.returns-clause-adds
returns-clause-adds c =
    let lacks = in_order c.args.by_root.now c.args.lo c.args.hi c.args.numbers.now c.in_ok-lacking.lacking.items c.sort_unstable.new.self.items (c.deref.result).now c.in_ok-lacking.ensures c.sort_unstable.ensures.permutation c.deref.ensures.value in
    adds c.args.by_root.now c.args.lo c.args.hi c.args.numbers.now c.add_all.new.numbers (c.deref.result).now lacks c.add_all.result c.add_all.ensures.ok c.add_all.ensures.err

pub returns-clause-ok : goal.returns-clause-ok
returns-clause-ok c =
    let lacks = in_order c.args.by_root.now c.args.lo c.args.hi c.args.numbers.now c.in_ok-lacking.lacking.items c.sort_unstable.new.self.items (c.deref.result).now c.in_ok-lacking.ensures c.sort_unstable.ensures.permutation c.deref.ensures.value in
    adds_all c.args.by_root.now c.args.lo c.args.hi c.args.numbers.now c.add_all.new.numbers (c.deref.result).now lacks c.add_all.result c.add_all.ensures.ok
