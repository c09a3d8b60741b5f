-- The offer times of open jobs.
use Rattle.std.specs.Prelude.{◌≡◌, ◌≢◌, ℕ, ◌-◌, Some, None, nat_eq, unwrap_or}
use Rattle.std.specs.declared.hash.FoldHasher.{FoldHasher}
use Rattle.std.specs.declared.hash.BuildHasherDefault.{BuildHasherDefault}
use Rattle.std.specs.HashMap.{get, HashMap}
use Rattle.sq_serving.specs.declared.watch.ServeMark.{ServeMark}
use Rattle.sq_serving.specs.declared.watch.ServeMark.TheVariants.{JobOffered, JobAnswered}

-- the time at which each job was offered first, by its id
abbrev pub OfferTimes : Type 0
OfferTimes = HashMap ℕ ℕ (BuildHasherDefault FoldHasher)

-- how long the job has waited that a mark answers at `micros`
abbrev pub waited : OfferTimes → ServeMark → ℕ → ℕ
waited offered (JobAnswered part id is_commit) micros = micros - unwrap_or (get nat_eq offered id) micros
waited offered mark micros = 0

-- the times of the other jobs are unchanged
abbrev pub SameBut : ℕ → OfferTimes → OfferTimes → Type 0
SameBut id old new = (q : ℕ) → q ≢ id → get nat_eq new q ≡ get nat_eq old q

-- the job has the time at which it was offered first
abbrev pub HasOfferTime : OfferTimes → ℕ → ℕ → OfferTimes → Type 0
HasOfferTime old id micros new =
    (get nat_eq new id ≡ Some (unwrap_or (get nat_eq old id) micros)) × SameBut id old new

-- the times after a mark
abbrev pub NotesOffer : OfferTimes → ServeMark → ℕ → OfferTimes → Type 0
NotesOffer old (JobOffered part id) micros new = HasOfferTime old id micros new
NotesOffer old (JobAnswered part id is_commit) micros new =
    (get nat_eq new id ≡ None) × SameBut id old new
NotesOffer old mark micros new = new ≡ old
