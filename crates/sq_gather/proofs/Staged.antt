-- The links of a stage are those of the ranges that move in it.
use Rattle.std.proofs.Common.{◌≡◌, ℕ, Bool, true, false, ◌&&◌, ◌||◌, ◌==◌, if◌then◌else◌, List, [], ◌∷◌, filter, refl, sym, ap, ap₂, ◌∙◌, true≢false}
use Rattle.std.proofs.lemmas.Bool.{and_parts, eqb-true}
use Rattle.sq_moves.specs.declared.recon.Range.{Range}
use Rattle.sq_moves.specs.declared.recon.Link.{Link}
use Rattle.sq_moves.specs.ReconValue.{ReconValue, is_link, stage_on, stage_in, AreLinks}
use Rattle.sq_node.specs.FabricValue.{AreStageLinks}

-- the ranges that move in a stage
abbrev pub ranges_in : ReconValue → ℕ → List Range
ranges_in recon stage = filter (λ range. stage_in recon range == stage) recon.ranges

kept : (c l q : Bool) → (c ≡ true → q ≡ true) → (c || (l && q)) ≡ ((c || l) && q)
kept true l true same = refl
kept true l false same = absurd (true≢false (sym (same refl)))
kept false l q same = refl

left_out : (c l q : Bool) → (c ≡ true → q ≡ false) → (l && q) ≡ ((c || l) && q)
left_out true true true same = absurd (true≢false (same refl))
left_out true true false same = refl
left_out true false true same = absurd (true≢false (same refl))
left_out true false false same = refl
left_out false l q same = refl

-- some range of the stage goes from the one partition to the other just where some range does and the link is the stage's
pub linked_in : (recon : ReconValue) (stage src dst : ℕ) (ranges : List Range)
    → is_link (filter (λ range. stage_in recon range == stage) ranges) src dst ≡ (is_link ranges src dst && (stage_on recon src dst == stage))
linked_in recon stage src dst [] = refl
linked_in recon stage src dst (range ∷ ranges) = by (linked_in recon stage src dst ranges) (stage_in recon range == stage) refl
  where
    same_stage : (b : Bool) → (stage_in recon range == stage) ≡ b → ((range.src == src) && (range.dst == dst)) ≡ true → (stage_on recon src dst == stage) ≡ b
    same_stage b e here =
        let parts = and_parts (range.src == src) (range.dst == dst) here in
        ap₂ (λ (s d : ℕ). stage_on recon s d == stage) (sym (eqb-true range.src src parts.0)) (sym (eqb-true range.dst dst parts.1)) ∙ e

    by : is_link (filter (λ (r : Range). stage_in recon r == stage) ranges) src dst ≡ (is_link ranges src dst && (stage_on recon src dst == stage)) → (b : Bool) → (stage_in recon range == stage) ≡ b → is_link (if b then range ∷ filter (λ (r : Range). stage_in recon r == stage) ranges else filter (λ (r : Range). stage_in recon r == stage) ranges) src dst
        ≡ ((((range.src == src) && (range.dst == dst)) || is_link ranges src dst) && (stage_on recon src dst == stage))
    by rest true e = ap (λ l. ((range.src == src) && (range.dst == dst)) || l) rest ∙ kept ((range.src == src) && (range.dst == dst)) (is_link ranges src dst) (stage_on recon src dst == stage) (same_stage true e)
    by rest false e = rest ∙ left_out ((range.src == src) && (range.dst == dst)) (is_link ranges src dst) (stage_on recon src dst == stage) (same_stage false e)

pub as_links : (recon : ReconValue) (stage : ℕ) (links : List Link) → AreStageLinks recon stage links → AreLinks (ranges_in recon stage) links
as_links recon stage links are = record {
  rising = are.rising;
  all = λ link. (
    λ has. linked_in recon stage link.src link.dst recon.ranges ∙ (are.all link).0 has,
    λ linked. (are.all link).1 (sym (linked_in recon stage link.src link.dst recon.ranges) ∙ linked),
  );
}
