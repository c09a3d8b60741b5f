-- What a sweep over two plans knows, and what it has ahead.
use Rattle.std.proofs.Common.{◌≡◌, ◌≢◌, ◌⊎◌, inl, inr, ⊎_elim, ℕ, ◌+◌, ◌<◌, ◌≤◌, min, true, false, cond, List, [], ◌∷◌, length, Some, None, refl, sym, ap, ◌∙◌, subst, arith, ◌==◌}
use Rattle.std.proofs.lemmas.Bool.{eqb-true, eqb-false, cases_lt, cond-true}
use Rattle.std.proofs.lemmas.Option.{same_Some, none-some}
use Rattle.std.proofs.lemmas.Bool.Decides.{nat_tests}
use Rattle.sq_plan.specs.declared.plan.PlanRange.{PlanRange}
use Rattle.sq_schema.specs.declared.root.TheConstants.{ROOT_END}
use Rattle.sq_plan.specs.PlanValue.{PlanValue, IsPlan, is_tiling, owner}
use Rattle.sq_moves.specs.declared.recon.Range.{Range}
use Rattle.sq_moves.specs.declared.sweep.Sweep.{Sweep}
use Rattle.sq_moves.specs.Moves.{moves_of}
use Rattle.sq_moves.specs.Sweep.{past, piece_of, EndsBehind, AreAhead, IsNextRun, AreMovesFrom, left, IsSweepOf, Reaches, EndsAt, HasAhead}
use Rattle.sq_moves.proofs.Tilings.{owner_among, tiling_parts, tiling_bounds, owner_among-first, owner_among-rest}
use Rattle.sq_moves.proofs.Runs.{no_run, same_next, moves_of-from}

-- a tiling ends behind where it begins
ends_behind : (lo at : ℕ) (ranges : List PlanRange) → is_tiling lo ranges ≡ true → at ≤ lo → EndsBehind at ranges
ends_behind lo at [] tiling le = tt
ends_behind lo at (range ∷ ranges) tiling le = let parts = tiling_parts lo range ranges tiling in omega arith

-- the whole of a plan lies ahead of its first key
ahead_whole : (plan : PlanValue) (ranges : List PlanRange) → IsPlan plan → ranges ≡ plan.ranges → AreAhead plan 0 ranges
ahead_whole plan ranges is same = record {
  start = 0;
  begun = omega arith;
  tiling = ap (is_tiling 0) same ∙ is.tiling;
  behind = ends_behind 0 0 ranges (ap (is_tiling 0) same ∙ is.tiling) (omega arith);
  owners = λ key low. ap (λ rs. owner_among rs key) same;
}

-- a range ahead is the plan's up to where it ends
pub record IsFirst (plan : PlanValue) (at : ℕ) (range : PlanRange) : Type 0 where
  pub some : at < range.hi
  pub within : range.hi ≤ ROOT_END
  pub owns : (key : ℕ) → at ≤ key → key < range.hi → owner plan key ≡ range.owner

ahead_first : (plan : PlanValue) (at : ℕ) (range : PlanRange) (ranges : List PlanRange) → AreAhead plan at (range ∷ ranges) → IsFirst plan at range
ahead_first plan at range ranges ahead =
    let parts = tiling_parts ahead.start range ranges ahead.tiling in
    record {
      some = ahead.behind;
      within = tiling_bounds range.hi ranges parts.2;
      owns = λ key low high. sym (ahead.owners key low) ∙ owner_among-first range ranges key (omega (arith, ahead.begun)) high;
    }

ahead_none : (plan : PlanValue) (at : ℕ) → AreAhead plan at [] → ROOT_END ≤ at
ahead_none plan at ahead = let end = eqb-true ahead.start ROOT_END ahead.tiling in omega (arith, ahead.begun)

-- the sweep proceeds to a key up to which no range ends
ahead_past : (plan : PlanValue) (at to : ℕ) (range : PlanRange) (ranges : List PlanRange) → AreAhead plan at (range ∷ ranges) → at ≤ to → to ≤ range.hi → AreAhead plan to (past (range ∷ ranges) to)
ahead_past plan at to range ranges ahead le ge =
    let parts = tiling_parts ahead.start range ranges ahead.tiling in
    elim (range.hi == to) as (λ b. (range.hi == to) ≡ b → AreAhead plan to (cond b ranges (range ∷ ranges))) [
      | true ↦ λ ends.
          let is = eqb-true range.hi to ends in
          record {
            start = range.hi;
            begun = omega arith;
            tiling = parts.2;
            behind = ends_behind range.hi to ranges parts.2 (omega arith);
            owners = λ key low. sym (owner_among-rest range ranges key (omega arith)) ∙ ahead.owners key (omega arith);
          }
      | false ↦ λ on.
          let isn't = eqb-false range.hi to on in
          record {
            start = ahead.start;
            begun = omega (arith, ahead.begun);
            tiling = ahead.tiling;
            behind = omega arith;
            owners = λ key low. ahead.owners key (omega arith);
          }
    ] refl

-- the keys from here on with one owner by each plan, and what lies ahead of the key behind them
pub record IsPiece (old new : PlanValue) (at : ℕ) (olds news : List PlanRange) (piece : Range) : Type 0 where
  pub lo : piece.lo ≡ at
  pub some : at < piece.hi
  pub within : piece.hi ≤ ROOT_END
  pub owned : (key : ℕ) → at ≤ key → key < piece.hi → (owner old key ≡ piece.src) × (owner new key ≡ piece.dst)
  pub olds_past : AreAhead old piece.hi (past olds piece.hi)
  pub news_past : AreAhead new piece.hi (past news piece.hi)
  pub fewer : length (past olds piece.hi) + length (past news piece.hi) < length olds + length news

past_fewer : (to : ℕ) (range : PlanRange) (ranges : List PlanRange) → length (past (range ∷ ranges) to) ≤ length (range ∷ ranges)
past_fewer to range ranges = elim (range.hi == to) as (λ b. length (cond b ranges (range ∷ ranges)) ≤ length (range ∷ ranges)) [ true ↦ omega arith | false ↦ omega arith ]

past_one : (to : ℕ) (range : PlanRange) (ranges : List PlanRange) → range.hi ≡ to → length (past (range ∷ ranges) to) < length (range ∷ ranges)
past_one to range ranges is = rw (cond-true (range.hi == to) ranges (range ∷ ranges) (grind (arith, nat_tests))) (omega arith)

fewer_by : (m n k l : ℕ) → (m < k) × (n ≤ l) ⊎ (m ≤ k) × (n < l) → m + n < k + l
fewer_by m n k l h = ⊎_elim (λ (x : (m < k) × (n ≤ l)). omega (arith, x.0, x.1)) (λ (x : (m ≤ k) × (n < l)). omega (arith, x.0, x.1)) h

piece_of_first : (old new : PlanValue) (at : ℕ) (one other : PlanRange) (olds news : List PlanRange) → AreAhead old at (one ∷ olds) → AreAhead new at (other ∷ news) → IsPiece old new at (one ∷ olds) (other ∷ news) (record { lo = at; hi = min one.hi other.hi; src = one.owner; dst = other.owner })
piece_of_first old new at one other olds news is_old is_new =
    let first = ahead_first old at one olds is_old in
    let first' = ahead_first new at other news is_new in
    let hi = min one.hi other.hi in
    record {
      lo = refl;
      some = omega (arith, first.some, first'.some);
      within = omega (arith, first.within);
      owned = λ key low high. (first.owns key low (omega arith), first'.owns key low (omega arith));
      olds_past = ahead_past old at hi one olds is_old (omega (arith, first.some, first'.some)) (omega arith);
      news_past = ahead_past new at hi other news is_new (omega (arith, first.some, first'.some)) (omega arith);
      fewer = fewer_by (length (past (one ∷ olds) hi)) (length (past (other ∷ news) hi)) (length (one ∷ olds)) (length (other ∷ news)) (⊎_elim
          (λ (less : one.hi < other.hi). inl (past_one hi one olds (omega arith), past_fewer hi other news))
          (λ (le : other.hi ≤ one.hi). inr (past_fewer hi one olds, past_one hi other news (omega arith)))
          (cases_lt one.hi other.hi));
    }

pub piece_some : (old new : PlanValue) (at : ℕ) (olds news : List PlanRange) (piece : Range) → AreAhead old at olds → AreAhead new at news → piece_of at olds news ≡ Some piece → IsPiece old new at olds news piece
piece_some old new at [] news piece is_old is_new e = absurd (none-some piece e)
piece_some old new at (one ∷ olds) [] piece is_old is_new e = absurd (none-some piece e)
piece_some old new at (one ∷ olds) (other ∷ news) piece is_old is_new e =
    subst (IsPiece old new at (one ∷ olds) (other ∷ news)) (same_Some (record { lo = at; hi = min one.hi other.hi; src = one.owner; dst = other.owner }) piece e) (piece_of_first old new at one other olds news is_old is_new)

pub piece_none : (old new : PlanValue) (at : ℕ) (olds news : List PlanRange) → AreAhead old at olds → AreAhead new at news → piece_of at olds news ≡ None → ROOT_END ≤ at
piece_none old new at [] news is_old is_new e = ahead_none old at is_old
piece_none old new at (one ∷ olds) [] is_old is_new e = ahead_none new at is_new
piece_none old new at (one ∷ olds) (other ∷ news) is_old is_new e = absurd (none-some (record { lo = at; hi = min one.hi other.hi; src = one.owner; dst = other.owner }) (sym e))

-- the measure of a loop over the pieces, without what the plans are
pub piece_fewer : (at : ℕ) (olds news : List PlanRange) (piece : Range) → piece_of at olds news ≡ Some piece → length (past olds piece.hi) + length (past news piece.hi) < length olds + length news
piece_fewer at [] news piece e = absurd (none-some piece e)
piece_fewer at (one ∷ olds) [] piece e = absurd (none-some piece e)
piece_fewer at (one ∷ olds) (other ∷ news) piece e =
    let hi : min one.hi other.hi ≡ piece.hi = ap (λ (p : Range). p.hi) (same_Some (record { lo = at; hi = min one.hi other.hi; src = one.owner; dst = other.owner }) piece e) in
    fewer_by (length (past (one ∷ olds) piece.hi)) (length (past (other ∷ news) piece.hi)) (length (one ∷ olds)) (length (other ∷ news)) (⊎_elim
    (λ (less : one.hi < other.hi). inl (past_one piece.hi one olds (omega arith), past_fewer piece.hi other news))
    (λ (le : other.hi ≤ one.hi). inr (past_fewer piece.hi one olds, past_one piece.hi other news (omega arith)))
    (cases_lt one.hi other.hi))

-- a sweep that went past a piece
pub record Went (before after : Sweep) (piece : Range) : Type 0 where
  pub found : piece_of before.at before.olds.now before.news.now ≡ Some piece
  pub at : after.at ≡ piece.hi
  pub olds : after.olds.now ≡ past before.olds.now piece.hi
  pub news : after.news.now ≡ past before.news.now piece.hi

pub went_fewer : (before after : Sweep) (piece : Range) → Went before after piece → left after < left before
went_fewer before after piece went =
    let fewer = piece_fewer before.at before.olds.now before.news.now piece went.found in
    omega (arith, ap length went.olds, ap length went.news)

module _ (old new : PlanValue) where
  piece_is : (before after : Sweep) (piece : Range) → IsSweepOf old new before → Went before after piece → IsPiece old new before.at before.olds.now before.news.now piece
  piece_is before after piece sweeps went = piece_some old new before.at before.olds.now before.news.now piece sweeps.olds sweeps.news went.found

  went_sweeps : (before after : Sweep) (piece : Range) → IsSweepOf old new before → Went before after piece → IsSweepOf old new after
  went_sweeps before after piece sweeps went =
      let is = piece_is before after piece sweeps went in
      record {
        within = omega (arith, is.within, went.at);
        olds = subst (λ (x : ℕ × List PlanRange). AreAhead old x.0 x.1) (λ i. (sym went.at i, sym went.olds i)) is.olds_past;
        news = subst (λ (x : ℕ × List PlanRange). AreAhead new x.0 x.1) (λ i. (sym went.at i, sym went.news i)) is.news_past;
      }

  -- keys that don't move are passed over
  skip_unmoved : (at to : ℕ) (runs : List Range) → at ≤ to → ((key : ℕ) → at ≤ key → key < to → owner old key ≡ owner new key) → AreMovesFrom old new at runs → AreMovesFrom old new to runs
  skip_unmoved at to [] le same none = λ key low within. none key (omega arith) within
  skip_unmoved at to (run ∷ runs) le same moves =
      let is = moves.0 in (
        record {
          moves = is.moves;
          from = ⊎_elim
              (λ (early : run.lo < to).
              let owners = is.moves.owned run.lo (omega arith) is.moves.some in
              absurd (is.moves.moves (sym owners.0 ∙ same run.lo is.from early ∙ owners.1)))
              (λ (late : to ≤ run.lo). late)
              (cases_lt run.lo to);
          before = λ key low high. is.before key (omega arith) high;
          after = is.after;
        },
        moves.1,
      )

  -- the next run is the first
  first_is : (at : ℕ) (run : Range) (runs : List Range) → IsNextRun old new at run → AreMovesFrom old new at runs → (rest : List Range) × (runs ≡ run ∷ rest) × AreMovesFrom old new run.hi rest
  first_is at run [] is none = absurd (no_run old new at run is none)
  first_is at run (first ∷ rest) is moves =
      let same = same_next old new at first run moves.0 is in
      (rest, (λ i. same i ∷ rest), subst (λ (r : Range). AreMovesFrom old new r.hi rest) same moves.1)

  none_left : (at : ℕ) (runs : List Range) → ROOT_END ≤ at → AreMovesFrom old new at runs → runs ≡ []
  none_left at [] end none = refl
  none_left at (run ∷ runs) end moves =
      let is = moves.0 in
      absurd (omega (arith, is.from, is.moves.some, is.moves.within))

  -- a piece that continues a run is part of it
  pub went_on : (from : ℕ) (before after : Sweep) (run piece : Range) → Reaches old new from before run → Went before after piece → piece.src ≡ run.src → piece.dst ≡ run.dst → Reaches old new from after (record { lo = run.lo; hi = piece.hi; src = run.src; dst = run.dst })
  went_on from before after run piece reaches went src dst =
      let is = piece_is before after piece reaches.sweeps went in
      let run_is = reaches.moves in
      record {
        sweeps = went_sweeps before after piece reaches.sweeps went;
        moves = record {
          some = omega (arith, run_is.some, is.some, reaches.end);
          within = is.within;
          moves = run_is.moves;
          owned = λ key low high. ⊎_elim
              (λ (inside : key < run.hi). run_is.owned key low inside)
              (λ (behind : run.hi ≤ key). let owners = is.owned key (omega (arith, reaches.end)) high in (owners.0 ∙ src, owners.1 ∙ dst))
              (cases_lt key run.hi);
        };
        begun = reaches.begun;
        end = sym went.at;
      }

  -- a piece of other owners ends it
  pub ends_before : (from : ℕ) (sweep : Sweep) (run piece : Range) → Reaches old new from sweep run → piece_of sweep.at sweep.olds.now sweep.news.now ≡ Some piece → (piece.src ≡ run.src → piece.dst ≢ run.dst) → EndsAt old new from sweep run
  ends_before from sweep run piece reaches found differ =
      let is = piece_some old new sweep.at sweep.olds.now sweep.news.now piece reaches.sweeps.olds reaches.sweeps.news found in
      record {
        reaches = reaches;
        after = λ within src dst.
            let owners = is.owned run.hi (omega (arith, reaches.end)) (omega (arith, reaches.end, is.some)) in
            differ (sym owners.0 ∙ src) (sym owners.1 ∙ dst);
      }

  -- so do the ends of the plans
  pub ends_last : (from : ℕ) (sweep : Sweep) (run : Range) → Reaches old new from sweep run → piece_of sweep.at sweep.olds.now sweep.news.now ≡ None → EndsAt old new from sweep run
  ends_last from sweep run reaches none =
      let end = piece_none old new sweep.at sweep.olds.now sweep.news.now reaches.sweeps.olds reaches.sweeps.news none in
      record { reaches = reaches; after = λ within. absurd (omega (arith, reaches.end)) }

  -- a piece of two owners begins a run
  pub begins : (before after : Sweep) (piece : Range) → IsSweepOf old new before → Went before after piece → piece.src ≢ piece.dst → Reaches old new before.at after piece
  begins before after piece sweeps went differ =
      let is = piece_is before after piece sweeps went in
      record {
        sweeps = went_sweeps before after piece sweeps went;
        moves = record { some = omega (arith, is.lo, is.some); within = is.within; moves = differ; owned = λ key low high. is.owned key (omega (arith, is.lo)) high };
        begun = is.lo;
        end = sym went.at;
      }

-- past a piece of one owner a sweep has the same runs ahead
pub runs_past : (before after : Sweep) (piece : Range) (runs : List Range) → HasAhead before runs → Went before after piece → piece.src ≡ piece.dst → HasAhead after runs
runs_past before after piece runs has went same =
    let is = piece_is has.old has.new before after piece has.sweeps went in
    record {
      old = has.old;
      new = has.new;
      sweeps = went_sweeps has.old has.new before after piece has.sweeps went;
      moves = subst (λ (at : ℕ). AreMovesFrom has.old has.new at runs) (sym went.at)
          (skip_unmoved has.old has.new before.at piece.hi runs (omega (arith, is.some)) (λ key low high. let owners = is.owned key low high in owners.0 ∙ same ∙ sym owners.1) has.moves);
    }

-- the run that it found is the first of them
pub runs_first : (before between after : Sweep) (piece run : Range) (runs : List Range) → HasAhead before runs → Went before between piece → piece.src ≢ piece.dst → ((old new : PlanValue) (from : ℕ) → Reaches old new from between piece → EndsAt old new from after run) → (rest : List Range) × (runs ≡ run ∷ rest) × HasAhead after rest
runs_first before between after piece run runs has went differ extends =
    let ends = extends has.old has.new before.at (begins has.old has.new before between piece has.sweeps went differ) in
    let reaches = ends.reaches in
    let next : IsNextRun has.old has.new before.at run = record { moves = reaches.moves; from = omega (arith, reaches.begun); before = λ key low high. absurd (omega (arith, reaches.begun)); after = ends.after } in
    let first = first_is has.old has.new before.at run runs next has.moves in
    (first.0, first.1, record { old = has.old; new = has.new; sweeps = reaches.sweeps; moves = subst (λ (at : ℕ). AreMovesFrom has.old has.new at first.0) reaches.end first.2 })

pub runs_none : (sweep : Sweep) (runs : List Range) → HasAhead sweep runs → piece_of sweep.at sweep.olds.now sweep.news.now ≡ None → runs ≡ []
runs_none sweep runs has none =
    none_left has.old has.new sweep.at runs (piece_none has.old has.new sweep.at sweep.olds.now sweep.news.now has.sweeps.olds has.sweeps.news none) has.moves

-- the whole of two plans has their moves ahead
pub runs_whole : (old new : PlanValue) (sweep : Sweep) → IsPlan old → IsPlan new → sweep.at ≡ 0 → sweep.olds.now ≡ old.ranges → sweep.news.now ≡ new.ranges → HasAhead sweep (moves_of old new)
runs_whole old new sweep is_old is_new at olds news = record {
  old = old;
  new = new;
  sweeps = record {
    within = omega arith;
    olds = subst (λ (at : ℕ). AreAhead old at sweep.olds.now) (sym at) (ahead_whole old sweep.olds.now is_old olds);
    news = subst (λ (at : ℕ). AreAhead new at sweep.news.now) (sym at) (ahead_whole new sweep.news.now is_new news);
  };
  moves = subst (λ (at : ℕ). AreMovesFrom old new at (moves_of old new)) (sym at) (moves_of-from old new is_old is_new);
}

-- the next of the runs has keys
pub runs_within : (sweep : Sweep) (run : Range) (runs rest : List Range) → HasAhead sweep runs → runs ≡ run ∷ rest → (run.lo < run.hi) × (run.hi ≤ ROOT_END)
runs_within sweep run runs rest has is =
    let moves = subst (AreMovesFrom has.old has.new sweep.at) is has.moves in
    (moves.0.moves.some, moves.0.moves.within)
