-- Links that are opened one after another, with their ends.
use Rattle.std.proofs.Common.{◌≡◌, ℕ, zero, suc, ◌+◌, ◌<◌, ◌≤◌, List, [], ◌∷◌, ◌++◌, length, get_or, map, take, Option, Some, None, refl, sym, ap, ◌∙◌, subst, ⊎_elim, length-append, arith}
use Rattle.std.proofs.lemmas.Bool.{cases_lt}
use Rattle.std.proofs.lemmas.List.{length-map, length-take, map-append, take_more}
use Rattle.std.specs.Prelude.{◌==◌, Bool, true, filter, Contains}
use Rattle.std.proofs.lemmas.Bool.{cases_Bool, and_parts, and_from}
use Rattle.std.proofs.lemmas.List.Kept.{IsStrictlySortedBy-filter}
use Rattle.sq_model.proofs.Lists.{Contains-nothing, Contains-first, Contains-later, Contains-cases, Contains-filter, filter-first, filter-other}
use Rattle.sq_moves.specs.ReconValue.{ReconValue, AreLinks, is_link, stage_on, link_cmp}
use Rattle.sq_moves.specs.declared.recon.Link.{Link}
use Rattle.sq_shared.specs.Values.{LinkValue, PassValue}
use Rattle.sq_node.specs.Ends.{EndValue, no_link, link_at, end_at}
use Rattle.sq_node.specs.FabricValue.{ends_of, AreStageLinks}
use Rattle.sq_node.specs.Opened.{HasAllEnds, new_end}

-- an element of a list keeps its place once one more is added
pub before : {X : Type 0} (xs : List X) (x d : X) (k : ℕ) → k < length xs → get_or (xs ++ x ∷ []) k d ≡ get_or xs k d
before [] x d k lt = absurd (omega (arith, lt))
before (y ∷ xs) x d zero lt = refl
before (y ∷ xs) x d (suc k) lt = before xs x d k (omega (arith, lt))

-- and that is behind them
pub last : {X : Type 0} (xs : List X) (x d : X) → get_or (xs ++ x ∷ []) (length xs) d ≡ x
last [] x d = refl
last (y ∷ xs) x d = last xs x d

pub links_more : (items : List Link) (links : List LinkValue) (at : ℕ) (end : Link) (link : LinkValue) → map ends_of links ≡ take at items → at < length items → end ≡ get_or items at end → link.src ≡ end.src → link.dst ≡ end.dst
    → map ends_of (links ++ link ∷ []) ≡ take (at + 1) items
links_more items links at end link are lt stands src dst =
    let is : ends_of link ≡ end = λ k. record { src = src k; dst = dst k } in
    map-append ends_of links (link ∷ []) ∙ (λ k. are k ++ (is ∙ stands) k ∷ []) ∙ sym (take_more items at end lt)

pub as_many : (items : List Link) (links : List LinkValue) (at : ℕ) → map ends_of links ≡ take at items → at ≤ length items → at ≡ length links
as_many items links at are within = omega (arith, length-map links ends_of, ap length are, length-take at items)

-- the end of a link that is here, along which nothing went
abbrev end_of : LinkValue → ℕ → EndValue
end_of link i = record { link = i; pass = record { queue = link.queue; chunks = [] } }

-- the ends of all links, once one more link has its end
pub ends_more : (links : List LinkValue) (ends : List (Option EndValue)) (at : ℕ) (link : LinkValue) (pass : PassValue) → HasAllEnds links ends → at ≡ length links
    → pass ≡ record { queue = link.queue; chunks = [] } → HasAllEnds (links ++ link ∷ []) (ends ++ Some (record { link = at; pass = pass }) ∷ [])
ends_more links ends at link pass are here pass_is =
    let all : List LinkValue = links ++ link ∷ [] in
    let end : EndValue = record { link = at; pass = pass } in
    let more : List (Option EndValue) = ends ++ Some end ∷ [] in
    let new : end ≡ end_of link (length links) = λ k. record { link = here k; pass = pass_is k } in
    record {
      count = length-append ends (Some end ∷ []) ∙ ap (λ (n : ℕ). n + 1) are.count ∙ sym (length-append links (link ∷ []));
      each = λ i lt. ⊎_elim
          (λ (earlier : i < length links).
          before ends (Some end) None i (omega (arith, are.count)) ∙ are.each i earlier ∙ ap (λ (l : LinkValue). Some (end_of l i)) (sym (before links link no_link i earlier)))
          (λ (past : length links ≤ i).
          let same : i ≡ length links = omega (arith, length-append links (link ∷ [])) in
          let there : link_at all i ≡ link = ap (link_at all) same ∙ last links link no_link in
          let is : end ≡ new_end all i = new ∙ sym (λ k. end_of (there k) (same k)) in
          ap (end_at more) (same ∙ sym are.count) ∙ last ends (Some end) None ∙ ap Some is)
          (cases_lt i (length links));
    }

-- what a filter keeps is of the list, and passes
filter_in : {X : Type 0} (p : X → Bool) (xs : List X) (x : X) → Contains (filter p xs) x → Contains xs x × (p x ≡ true)
filter_in p [] x has = absurd (Contains-nothing x has)
filter_in p (y ∷ xs) x has =
    ⊎_elim
    (λ passes.
    ⊎_elim
    (λ same. (subst (Contains (y ∷ xs)) same (Contains-first y xs), ap p (sym same) ∙ passes))
    (λ later. let rest = filter_in p xs x later in (Contains-later y xs x rest.0, rest.1))
    (Contains-cases y (filter p xs) x (subst (λ list. Contains list x) (filter-first p y xs passes) has)))
    (λ fails. let rest = filter_in p xs x (subst (λ list. Contains list x) (filter-other p y xs fails) has) in (Contains-later y xs x rest.0, rest.1))
    (cases_Bool (p y))

-- the links of all ranges that run in a stage are those of the stage
pub stage_links_are : (recon : ReconValue) (stage : ℕ) (links : List Link) → AreLinks recon.ranges links → AreStageLinks recon stage (filter (λ link. stage_on recon link.src link.dst == stage) links)
stage_links_are recon stage links are = record {
  rising = IsStrictlySortedBy-filter link_cmp (λ (link : Link). stage_on recon link.src link.dst == stage) links are.rising;
  all = λ link. (
    λ has. let kept = filter_in (λ (one : Link). stage_on recon one.src one.dst == stage) links link has in
        and_from (is_link recon.ranges link.src link.dst) (stage_on recon link.src link.dst == stage) ((are.all link).0 kept.0) kept.1,
    λ both. let parts = and_parts (is_link recon.ranges link.src link.dst) (stage_on recon link.src link.dst == stage) both in
        Contains-filter (λ (one : Link). stage_on recon one.src one.dst == stage) links link ((are.all link).1 parts.0) parts.1,
  );
}
