-- Pairs of an id and a root key.
use Rattle.std.proofs.Common.{◌≡◌, ℕ}

pub pair_is : {a b c d : ℕ} → a ≡ b → c ≡ d → Path (ℕ × ℕ) (a, c) (b, d)
pair_is one other = λ k. (one k, other k)
