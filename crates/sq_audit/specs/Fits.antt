-- Which links there are, and whether all families are in their places.
use Rattle.std.specs.Prelude.{◌≡◌, ℕ, Bool, ◌==◌, ◌&&◌, List, count_by, Contains}
use Rattle.sq_gather.specs.Prelude.{Link, ReconValue, stage_on, FamilyValue, OpeningValue, Spot, GatheredLink, GatheredValue, gathered_place, StandsAt, IsSpotOf}
use Rattle.sq_gather.specs.Gathered.{closed_ends}

-- the gathered link is this one
abbrev pub is_of_link : Link → GatheredLink → Bool
is_of_link link at = (at.src == link.src) && (at.dst == link.dst)

-- the gathered link is one of `links`, and belongs to the stage
abbrev pub IsKnownLink : ReconValue → ℕ → List Link → GatheredLink → Type 0
IsKnownLink recon stage links at = Contains links (closed_ends at) × (stage_on recon at.src at.dst ≡ stage)

-- each gathered link is one of `links`, and belongs to the stage
abbrev pub AreKnownLinks : ReconValue → ℕ → List Link → List GatheredLink → Type 0
AreKnownLinks recon stage links gathered = (at : GatheredLink) → Contains gathered at → IsKnownLink recon stage links at

-- the link was gathered once, if it belongs to the stage
abbrev pub HasOne : ReconValue → ℕ → List GatheredLink → Link → Type 0
HasOne recon stage gathered link = stage_on recon link.src link.dst ≡ stage → count_by (is_of_link link) gathered ≡ 1

-- each of these links that belongs to the stage was gathered once
abbrev pub HaveOneEach : ReconValue → ℕ → List Link → List GatheredLink → Type 0
HaveOneEach recon stage links gathered = (link : Link) → Contains links link → HasOne recon stage gathered link

-- each family is where the notes place its root key
abbrev pub ArePlaced : OpeningValue → GatheredValue → Type 0
ArePlaced o g = (spot : Spot) (root : ℕ) (family : FamilyValue) → StandsAt g spot root family → IsSpotOf g spot (gathered_place o g root)
