-- The links of ranges.
use Rattle.std.proofs.Common.{◌≡◌, ℕ, ◌<◌, Bool, true, true≢false, arith, List, [], map, length, get_or, sym, ap, ◌∙◌, subst, ◌&&◌, ◌==◌}
use Rattle.std.specs.Prelude.{Contains}
use Rattle.std.specs.List.{dedup}
use Rattle.std.specs.List.Sorted.{IsPermutation, IsSorted, IsStrictlySortedBy}
use Rattle.std.specs.Cmp.{IsTotalOrder, IsEquivalence, unsigned_ties, both_tied}
use Rattle.std.specs.Ordering.{nat_cmp, eq_by_cmp}
use Rattle.std.proofs.lemmas.Bool.{and_parts, and_from, eqb-true, eq-eqb}
use Rattle.std.proofs.lemmas.Cmp.{nat_cmp_total, nat_eq_equiv, on_equiv, and_equiv, on_total, then_total}
use Rattle.std.proofs.lemmas.List.{get_or-map, length-map}
use Rattle.std.proofs.lemmas.List.Elements.{Contains-get_or}
use Rattle.std.proofs.lemmas.List.Folds.{Any-from_list_any, list_any_at}
use Rattle.std.proofs.lemmas.List.Kept.{IsStrictlySortedBy-dedup, Contains-dedup, Contains-from_dedup}
use Rattle.std.proofs.lemmas.List.Sorted.{Contains-permutation, IsPermutation-sym}
use Rattle.sq_moves.specs.declared.recon.Range.{Range}
use Rattle.sq_moves.specs.declared.recon.Link.{Link}
use Rattle.sq_moves.specs.ReconValue.{is_link, range_link, link_cmp, AreLinks}

-- whether two links are one
abbrev pub same_link : Link → Link → Bool
same_link one other = (one.src == other.src) && (one.dst == other.dst)

link_total : IsTotalOrder link_cmp
link_total = then_total (on_total (λ (l : Link). l.src) nat_cmp_total) (on_total (λ (l : Link). l.dst) nat_cmp_total)

link_ties : (one other : Link) → same_link one other ≡ eq_by_cmp link_cmp one other
link_ties one other =
    both_tied (one.src == other.src) (one.dst == other.dst) (nat_cmp one.src other.src) (nat_cmp one.dst other.dst) (unsigned_ties one.src other.src) (unsigned_ties one.dst other.dst)

same_link_equiv : IsEquivalence same_link
same_link_equiv = and_equiv (on_equiv (λ (l : Link). l.src) nat_eq_equiv) (on_equiv (λ (l : Link). l.dst) nat_eq_equiv)

link_parts : (one other : Link) → same_link one other ≡ true → one ≡ other
link_parts one other same =
    let parts = and_parts (one.src == other.src) (one.dst == other.dst) same in
    let src : one.src ≡ other.src = eqb-true one.src other.src parts.0 in
    let dst : one.dst ≡ other.dst = eqb-true one.dst other.dst parts.1 in
    λ i. record { src = src i; dst = dst i }

-- a link is among the links of ranges where one of these goes along it
range_link_some : (ranges : List Range) (link : Link) → Contains (map range_link ranges) link → is_link ranges link.src link.dst ≡ true
range_link_some ranges link it =
    let default : Range = record { lo = 0; hi = 0; src = link.src; dst = link.dst } in
    let within : it.0 < length ranges = subst (λ (n : ℕ). it.0 < n) (length-map ranges range_link) it.1 in
    let is : range_link (get_or ranges it.0 default) ≡ link = sym (get_or-map range_link ranges it.0 default link within) ∙ it.2 in
    list_any_at (λ range. (range.src == link.src) && (range.dst == link.dst)) ranges it.0 default within
    (and_from ((get_or ranges it.0 default).src == link.src) ((get_or ranges it.0 default).dst == link.dst)
    (eq-eqb (get_or ranges it.0 default).src link.src (ap (λ (l : Link). l.src) is))
    (eq-eqb (get_or ranges it.0 default).dst link.dst (ap (λ (l : Link). l.dst) is)))

some_of_link : (ranges : List Range) (link : Link) → is_link ranges link.src link.dst ≡ true → Contains (map range_link ranges) link
some_of_link ranges link is =
    let any = Any-from_list_any (λ range. (range.src == link.src) && (range.dst == link.dst)) ranges is in
    let within : any.0 < length (map range_link ranges) = subst (λ (n : ℕ). any.0 < n) (sym (length-map ranges range_link)) any.2 in
    let there = Contains-get_or (map range_link ranges) any.0 link within in
    let same : get_or (map range_link ranges) any.0 link ≡ link =
    get_or-map range_link ranges any.0 any.1 link any.2 ∙ ap range_link any.3 ∙ link_parts (range_link any.1) link any.4 in
    subst (Contains (map range_link ranges)) same there

-- sorted and without repeats they are the links of the ranges
pub are_links : (ranges : List Range) (sorted links : List Link) → IsPermutation (map range_link ranges) sorted → IsSorted link_cmp sorted → links ≡ dedup same_link sorted → AreLinks ranges links
are_links ranges sorted links moved in_order is = record {
  rising = subst (IsStrictlySortedBy link_cmp) (sym is) (IsStrictlySortedBy-dedup link_total link_ties sorted in_order);
  all = λ link. (
    λ it. range_link_some ranges link (Contains-permutation sorted (map range_link ranges) link (IsPermutation-sym (map range_link ranges) sorted moved) (Contains-from_dedup same_link sorted link (subst (λ (ls : List Link). Contains ls link) is it))),
    λ some. subst (λ (ls : List Link). Contains ls link) (sym is) (Contains-dedup same_link_equiv link_parts sorted link (Contains-permutation (map range_link ranges) sorted link moved (some_of_link ranges link some))),
  );
}

-- no ranges have no links
pub no_links : AreLinks [] []
unfolding IsStrictlySortedBy
no_links = record {
  rising = tt;
  all = λ link. (λ it. absurd (omega (arith, it.1)), λ linked. absurd (true≢false (sym linked)));
}
