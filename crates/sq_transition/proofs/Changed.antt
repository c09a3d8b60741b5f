-- What holds of a world, part by part, where one part of it changed: the rest of it stays.
use Rattle.sq_moves.specs.OpeningValue.{OpeningValue}
use Rattle.sq_model.specs.Trace.{Trace}
use Rattle.sq_transition.specs.WorldValue.{WorldValue}
use Rattle.sq_transition.specs.Holds.{PlansHold, LeaderHolds, PartitionsHold, SegmentsHold, LinksHold, Holds}

-- what holds of each part, as a type of its fields alone: it is the same type after a step that changes nothing that it names
abbrev pub PartsHold : OpeningValue → Trace → WorldValue → Type 0
PartsHold o t w = record { plans : PlansHold o w; leader : LeaderHolds o t w; partitions : PartitionsHold o t w; segments : SegmentsHold o t w; links : LinksHold o t w }

pub parts_hold : (o : OpeningValue) (t : Trace) (w : WorldValue) → Holds o t w → PartsHold o t w
parts_hold o t w h = record { plans = h.plans; leader = h.leader; partitions = h.partitions; segments = h.segments; links = h.links }

pub holds : (o : OpeningValue) (t : Trace) (w : WorldValue) → PartsHold o t w → Holds o t w
holds o t w h = record { plans = h.plans; leader = h.leader; partitions = h.partitions; segments = h.segments; links = h.links }

pub leader_changed : {P L N A S K : Type 0} → record { plans : P; leader : L; partitions : A; segments : S; links : K } → N → record { plans : P; leader : N; partitions : A; segments : S; links : K }
leader_changed h now = record { plans = h.plans; leader = now; partitions = h.partitions; segments = h.segments; links = h.links }

pub partitions_changed : {P L A N S K : Type 0} → record { plans : P; leader : L; partitions : A; segments : S; links : K } → N → record { plans : P; leader : L; partitions : N; segments : S; links : K }
partitions_changed h now = record { plans = h.plans; leader = h.leader; partitions = now; segments = h.segments; links = h.links }

pub segments_changed : {P L A S N K : Type 0} → record { plans : P; leader : L; partitions : A; segments : S; links : K } → N → record { plans : P; leader : L; partitions : A; segments : N; links : K }
segments_changed h now = record { plans = h.plans; leader = h.leader; partitions = h.partitions; segments = now; links = h.links }

pub links_changed : {P L A S K N : Type 0} → record { plans : P; leader : L; partitions : A; segments : S; links : K } → N → record { plans : P; leader : L; partitions : A; segments : S; links : N }
links_changed h now = record { plans = h.plans; leader = h.leader; partitions = h.partitions; segments = h.segments; links = now }
