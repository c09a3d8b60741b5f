-- The moments after the events so far.
use Rattle.std.proofs.Common.{⊎_elim, ◌≡◌, ◌⊎◌, inl, inr, ℕ, ◌+◌, ◌<◌, ◌≤◌, List, [], ◌∷◌, ◌++◌, length, get_or, take, Some, refl, sym, ap, ◌∙◌, arith, length-append, subst}
use Rattle.std.specs.Prelude.{not, slice_get, count_by}
use Rattle.std.proofs.lemmas.List.Sums.{count_by_more_yes, count_by_more_no}
use Rattle.std.proofs.Math.ListN.{get_or-append}
use Rattle.std.proofs.Math.Seq.{get_or-append_seam}
use Rattle.std.proofs.lemmas.Bool.{cases_lt}
use Rattle.std.proofs.lemmas.Option.{slice_get_within, slice_get-get_or, get_or_from_slice_get}
use Rattle.sq_report.specs.declared.moment.Happened.{Happened}
use Rattle.sq_report.specs.declared.moment.Happened.TheVariants.{JobAnswered, SegmentComplete}
use Rattle.sq_report.specs.declared.moment.Event.{Event}
use Rattle.sq_report.specs.declared.moment.Moment.{Moment}
use Rattle.sq_report.specs.Moments.{AreMoments, answers_job, answer_in, moment_of, one_more, moment_after}

-- what is in a list with one more at its end
push_stood : {X : Type 0} (xs : List X) (x : X) (i : ℕ) (y : X) → slice_get (xs ++ x ∷ []) i ≡ Some y → (slice_get xs i ≡ Some y) ⊎ ((i ≡ length xs) × (x ≡ y))
push_stood xs x i y at =
    let is : get_or (xs ++ x ∷ []) i y ≡ y = get_or_from_slice_get (xs ++ x ∷ []) i y y at in
    ⊎_elim
    (λ (lt : i < length xs). inl (slice_get-get_or xs i y lt ∙ ap Some (sym (get_or-append xs (x ∷ []) y i lt) ∙ is)))
    (λ (past : length xs ≤ i).
    let last : i ≡ length xs = omega (arith, past, slice_get_within (xs ++ x ∷ []) i y at, length-append xs (x ∷ [])) in
    inr (last, sym (get_or-append_seam xs x [] y) ∙ ap (λ k. get_or (xs ++ x ∷ []) k y) (sym last) ∙ is))
    (cases_lt i (length xs))

-- these are the moments after the first events, and so many have happened by now
pub record AreFirst (events : List Event) (moments : List Moment) (now : Moment) (i : ℕ) : Type 0 where
  pub count : length moments ≡ i
  pub each : (k : ℕ) (event : Event) (moment : Moment) → slice_get events k ≡ Some event → slice_get moments k ≡ Some moment
      → moment ≡ moment_of (take (k + 1) events) event
  pub jobs : now.jobs ≡ count_by (λ event. answers_job event.what) (take i events)
  pub segments : now.segments ≡ count_by (λ event. not (answers_job event.what)) (take i events)
  pub few_jobs : now.jobs ≤ i
  pub few_segments : now.segments ≤ i

-- the moment after the next event
module _ (events : List Event) (moments : List Moment) (now : Moment) (i : ℕ) (event : Event) (so_far : AreFirst events moments now i) (there : slice_get events i ≡ Some event) where
  within : i < length events
  within = slice_get_within events i event there

  what_is : (what : Happened) → event.what ≡ what → (get_or events i event).what ≡ what
  what_is what is = ap (λ (e : Event). e.what) (get_or_from_slice_get events i event event there) ∙ is

  answered : (what : Happened) → event.what ≡ what → (one_more now event.micros what) ≡ moment_of (take (i + 1) events) event
  answered (JobAnswered answer) is =
      let yes = count_by_more_yes (λ (e : Event). answers_job e.what) events i event within (ap answers_job (what_is (JobAnswered answer) is)) in
      let no = count_by_more_no (λ (e : Event). not (answers_job e.what)) events i event within (ap (λ what. not (answers_job what)) (what_is (JobAnswered answer) is)) in
      let same = ap answer_in is in
      let jobs = so_far.jobs in
      let segments = so_far.segments in
      cc
  answered SegmentComplete is =
      let no = count_by_more_no (λ (e : Event). answers_job e.what) events i event within (ap answers_job (what_is SegmentComplete is)) in
      let yes = count_by_more_yes (λ (e : Event). not (answers_job e.what)) events i event within (ap (λ what. not (answers_job what)) (what_is SegmentComplete is)) in
      let same = ap answer_in is in
      let jobs = so_far.jobs in
      let segments = so_far.segments in
      cc

  few : (what : Happened) → ((one_more now event.micros what).jobs ≤ i + 1) × ((one_more now event.micros what).segments ≤ i + 1)
  few (JobAnswered _) = let jobs = so_far.few_jobs in let segments = so_far.few_segments in (omega arith, omega arith)
  few SegmentComplete = let jobs = so_far.few_jobs in let segments = so_far.few_segments in (omega arith, omega arith)

  pub goes_on : AreFirst events (moments ++ moment_after now event ∷ []) (moment_after now event) (i + 1)
  goes_on =
      let next = moment_after now event in
      let is = answered event.what refl in
      record {
        count = length-append moments (next ∷ []) ∙ ap (λ (n : ℕ). n + 1) so_far.count;
        each = λ k other moment at stands.
            ⊎_elim
            (λ (before : slice_get moments k ≡ Some moment). so_far.each k other moment at before)
            (λ (last : (k ≡ length moments) × (next ≡ moment)).
            let here : k ≡ i = last.0 ∙ so_far.count in
            let same : Some other ≡ Some event = sym at ∙ ap (slice_get events) here ∙ there in
            let is_event : other ≡ event = cc in
            sym last.1 ∙ is ∙ ap (λ (n : ℕ). moment_of (take (n + 1) events) event) (sym here) ∙ ap (moment_of (take (k + 1) events)) (sym is_event))
            (push_stood moments next k moment stands);
        jobs = ap (λ (m : Moment). m.jobs) is;
        segments = ap (λ (m : Moment). m.segments) is;
        few_jobs = (few event.what).0;
        few_segments = (few event.what).1;
      }

-- the moments after all events
pub are_all : (events : List Event) (moments : List Moment) (now : Moment) (i : ℕ) → AreFirst events moments now i → i ≡ length events → AreMoments events moments
are_all events moments now i so_far end = record { count = so_far.count ∙ end; each = so_far.each }

-- the same of the moment that the code made, and of the list that it made
pub goes_next : (events : List Event) (moments : List Moment) (now : Moment) (i : ℕ) (event : Event) (next : Moment) (items : List Moment) → AreFirst events moments now i → slice_get events i ≡ Some event
    → next ≡ moment_after now event → items ≡ moments ++ next ∷ [] → AreFirst events items next (i + 1)
goes_next events moments now i event next items so_far there is all =
    let at : items ≡ moments ++ moment_after now event ∷ [] = all ∙ ap (λ (m : Moment). moments ++ m ∷ []) is in
    subst (λ (p : List Moment × Moment). AreFirst events p.0 p.1 (i + 1)) (λ k. (sym at k, sym is k)) (goes_on events moments now i event so_far there)
