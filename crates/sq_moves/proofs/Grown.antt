-- Each step keeps a tree grown.
use Rattle.std.proofs.Common.{◌≡◌, ℕ, true, false, IsTrue, sym, ap, ◌∙◌, true≢false, arith}
use Rattle.std.proofs.lemmas.Bool.Decides.{nat_tests}
use Rattle.sq_moves.specs.declared.status.Status.{Status}
use Rattle.sq_moves.specs.declared.status.Status.TheVariants.{Free}
use Rattle.sq_moves.specs.Node.{is_node, is_leaf}
use Rattle.sq_moves.specs.Status.{is_free, is_split, is_live}
use Rattle.sq_moves.specs.Tree.{IsGrown}
use Rattle.sq_moves.proofs.Changed.{set_at}

-- a tree in which each node is free is grown
pub grown-free : (status : ℕ → Status) → ((n : ℕ) → status n ≡ Free) → IsGrown status
grown-free status free = record {
  live = λ n touched. absurd (true≢false (sym (ap is_free (free n)) ∙ touched));
  leaves = λ n leaf. ap is_split (free n);
}

-- it stays so where a live node that isn't split gets a status, and no leaf is split
pub grown-set_at : (status : ℕ → Status) (n : ℕ) (st : Status) → IsGrown status → IsTrue (is_node n) → is_live status n ≡ true → is_split (status n) ≡ false → (is_leaf n ≡ true → is_split st ≡ false) → IsGrown (set_at status n st)
grown-set_at status n st grown node live whole leaf = record {
  live = λ m touched. grind (arith, nat_tests, grown.live m);
  leaves = λ m is. grind (arith, nat_tests, grown.leaves m);
}
