-- How the jobs that wait change where those of one partition change.
use Rattle.std.proofs.Common.{◌≡◌, ℕ, ◌<◌, List, [], ◌∷◌, length, map, set, get_or, slice_index_or, refl, sym, ap, subst, ◌∙◌, get_or-set_same, get_or-set_other, length-set}
use Rattle.std.specs.Result.{OnErr}
use Rattle.std.specs.Prelude.{Result, Ok, Err}
use Rattle.std.proofs.lemmas.List.{map-set, get_or-map, length-map}
use Rattle.std.proofs.Math.Seq.{map-set_same}
use Rattle.sq_serving.specs.declared.sides.SideQueue.{SideQueue}
use Rattle.sq_serving.specs.Sides.{waiting_at, ChangesAt, TakesFirst}

-- what holds holds where there is an error
pub on_err : {T E P : Type 0} (r : Result T E) → P → OnErr r P
on_err (Ok v) holds = tt
on_err (Err e) holds = holds

module _ {J : Type 0} where
  -- the jobs of each partition
  abbrev pub jobs_of : List (SideQueue J) → List (List J)
  jobs_of sides = map (λ (side : SideQueue J). side.jobs.items) sides

  pub changes_at : (old : List (List J)) (part : ℕ) (now : List J) → part < length old → ChangesAt part now old (set old part now)
  changes_at old part now within =
      record {
        count = length-set old part now;
        here = get_or-set_same old part now [] within;
        others = λ other differs. get_or-set_other old part other now [] differs;
      }

  -- the jobs of a partition are those of its side
  pub read_at : (sides : List (SideQueue J)) (old : List (List J)) (part : ℕ) (side : SideQueue J) → jobs_of sides ≡ old → part < length old
      → side ≡ slice_index_or sides part side → side.jobs.items ≡ waiting_at old part
  read_at sides old part side are within is =
      let inside : part < length sides = subst (λ (n : ℕ). part < n) (ap length (sym are) ∙ length-map sides (λ (s : SideQueue J). s.jobs.items)) within in
      ap (λ (s : SideQueue J). s.jobs.items) is
      ∙ sym (get_or-map (λ (s : SideQueue J). s.jobs.items) sides part side [] inside)
      ∙ ap (λ (list : List (List J)). get_or list part []) are

  -- a side is put in the place of another one
  pub put_at : (sides : List (SideQueue J)) (old : List (List J)) (part : ℕ) (side : SideQueue J) (now : List J) → jobs_of sides ≡ old → part < length old
      → side.jobs.items ≡ now → ChangesAt part now old (jobs_of (set sides part side))
  put_at sides old part side now are within is =
      subst (λ (new : List (List J)). ChangesAt part now old new)
      (sym (map-set (λ (s : SideQueue J). s.jobs.items) sides part side
      ∙ ap (λ (list : List (List J)). set list part side.jobs.items) are
      ∙ ap (λ (jobs : List J). set old part jobs) is))
      (changes_at old part now within)

  -- one with the same jobs is put there
  pub same_at : (sides : List (SideQueue J)) (old : List (List J)) (part : ℕ) (side was : SideQueue J) → jobs_of sides ≡ old
      → was ≡ slice_index_or sides part was → side.jobs.items ≡ was.jobs.items → jobs_of (set sides part side) ≡ old
  same_at sides old part side was are is same =
      map-set_same (λ (s : SideQueue J). s.jobs.items) sides part side was (same ∙ ap (λ (s : SideQueue J). s.jobs.items) is) ∙ are

  -- the first job of a side is taken
  pub taken_at : (sides : List (SideQueue J)) (old : List (List J)) (part : ℕ) (side was : SideQueue J) (job : J) → jobs_of sides ≡ old → part < length old
      → was ≡ slice_index_or sides part was → was.jobs.items ≡ job ∷ side.jobs.items → TakesFirst part job old (jobs_of (set sides part side))
  taken_at sides old part side was job are within is first =
      let put = put_at sides old part side side.jobs.items are within refl in
      record {
        within = within;
        changes = record { count = put.count; here = refl; others = put.others };
        first =
            sym (read_at sides old part was are within is) ∙ first
            ∙ ap (λ (jobs : List J). job ∷ jobs) (sym put.here);
      }
