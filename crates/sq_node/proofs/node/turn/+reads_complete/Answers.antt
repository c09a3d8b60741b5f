use Rattle.std.proofs.Common.{◌≡◌, ℕ, Bool, false, refl, ap, ⊎_elim}
use Rattle.std.specs.Prelude.{◌⊎◌, ◌||◌}
use Rattle.sq_moves.specs.declared.status.Status.{Status}
use Rattle.sq_moves.specs.declared.status.Status.TheVariants.{Free, Claimed, Partial}
use Rattle.sq_moves.specs.Status.{is_split, is_complete}
use Rattle.sq_node.proofs.Known.{knows_looked}
use Rattle.sq_node.proofs.Looked.{found_looks, looked_again, seen_itself, seen_halves, found_undone, undone_since}
use Rattle.sq_node.proofs.node.turn.+reads_complete.Goals as goal

-- a node that is free, claimed or partial is neither split nor complete
neither : (st : Status) → (st ≡ Free) ⊎ (((p : ℕ) × (st ≡ Claimed p)) ⊎ ((p : ℕ) × (st ≡ Partial p))) → (is_split st || is_complete st) ≡ false
neither st is =
    let test : Status → Bool = λ s. is_split s || is_complete s in
    ⊎_elim (λ (free : st ≡ Free). ap test free)
    (⊎_elim (λ (claimed : (p : ℕ) × (st ≡ Claimed p)). ap test claimed.1) (λ (partial : (p : ℕ) × (st ≡ Partial p)). ap test partial.1)) is

pub returns-then-reads_complete-clause-looked : goal.returns-then-reads_complete-clause-looked
returns-then-reads_complete-clause-looked t c =
    looked_again c.args.seat.now.view c.reads_complete.new.seat.view c.reads_complete-then-reads_complete.new.seat.view
    (looked_again c.args.seat.now.view c.look.new.seat.view c.reads_complete.new.seat.view (found_looks c.args.seat.now.view c.args.node c.look.result c.look.new.seat.view c.look.ensures.found) c.reads_complete.ensures.looked)
    c.reads_complete-then-reads_complete.ensures.looked

-- both halves were found complete, the low one first
pub returns-then-reads_complete-clause-complete : goal.returns-then-reads_complete-clause-complete
returns-then-reads_complete-clause-complete t c = λ reads.
    let middle = c.reads_complete.new.seat.view in
    let last = c.reads_complete-then-reads_complete.new.seat.view in
    seen_halves middle last c.args.node c.low_half.result c.high_half.result c.low_half.ensures.node (c.in-Split.ensures.found.fits.1 refl) c.low_half.ensures.half c.high_half.ensures.half
    (knows_looked middle last c.reads_complete-then-reads_complete.ensures.looked) (c.reads_complete.ensures.complete c.if-reads_complete.true) (c.reads_complete-then-reads_complete.ensures.complete reads)

pub returns-else-reads_complete-clause-looked : goal.returns-else-reads_complete-clause-looked
returns-else-reads_complete-clause-looked t c =
    looked_again c.args.seat.now.view c.look.new.seat.view c.reads_complete.new.seat.view (found_looks c.args.seat.now.view c.args.node c.look.result c.look.new.seat.view c.look.ensures.found) c.reads_complete.ensures.looked

pub returns-in-Free-clause-looked : goal.returns-in-Free-clause-looked
returns-in-Free-clause-looked t c = found_looks c.args.seat.now.view c.args.node c.look.result c.look.new.seat.view c.look.ensures.found

pub returns-in-Complete-clause-looked : goal.returns-in-Complete-clause-looked
returns-in-Complete-clause-looked t c = found_looks c.args.seat.now.view c.args.node c.look.result c.look.new.seat.view c.look.ensures.found

pub returns-in-Complete-clause-complete : goal.returns-in-Complete-clause-complete
returns-in-Complete-clause-complete t c = λ _. seen_itself c.args.seat.now.view c.look.new.seat.view c.args.node c.in-Complete.field-0 c.in-Complete.ensures.found

pub returns-then-reads_complete-clause-undone : goal.returns-then-reads_complete-clause-undone
returns-then-reads_complete-clause-undone t c = λ reads.
    let first = c.args.seat.now.view in
    let look = c.look.new.seat.view in
    let middle = c.reads_complete.new.seat.view in
    undone_since first middle c.reads_complete-then-reads_complete.new.seat.view
    (looked_again first look middle (found_looks first c.args.node c.look.result look c.look.ensures.found) c.reads_complete.ensures.looked)
    (c.reads_complete-then-reads_complete.ensures.undone reads)

pub returns-else-reads_complete-clause-undone : goal.returns-else-reads_complete-clause-undone
returns-else-reads_complete-clause-undone t c = λ _.
    undone_since c.args.seat.now.view c.look.new.seat.view c.reads_complete.new.seat.view (found_looks c.args.seat.now.view c.args.node c.look.result c.look.new.seat.view c.look.ensures.found)
    (c.reads_complete.ensures.undone c.if-reads_complete.false)

pub returns-in-Free-clause-undone : goal.returns-in-Free-clause-undone
returns-in-Free-clause-undone t c = λ _. found_undone c.args.seat.now.view c.args.node c.look.result c.look.new.seat.view c.look.ensures.found (neither c.look.result c.in-Free.is)
