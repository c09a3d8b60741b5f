-- What the passes find, in the words of the clauses.
use Rattle.std.proofs.Common.{◌≡◌, inl, inr, ⊎_elim, ℕ, ◌<◌, ◌==◌, Bool, true, false, List, [], ◌∷◌, length, Contains, Option, Some, None, refl, sym, ap, ◌∙◌, subst, arith, true≢false, eqb-true, eq-eqb}
use Rattle.std.specs.Prelude.{cond, unwrap_or, not, Result, Ok, Err, IfOk}
use Rattle.std.specs.List.{AllPass}
use Rattle.std.specs.Bool.{Decides}
use Rattle.std.specs.Ordering.{nat_cmp, is_lt, eq_by_cmp}
use Rattle.std.specs.Cmp.{unsigned_tied}
use Rattle.std.specs.FinMap.Entries.{find, is_sorted, below_all}
use Rattle.std.proofs.lemmas.Bool.{cases_Bool, and_parts, ne_eqb}
use Rattle.std.proofs.lemmas.Bool.Decides.{Decides-like}
use Rattle.std.proofs.lemmas.List.Elements.{All-tail}
use Rattle.sq_gather.specs.Prelude.{RowList, TableValue, rows_in, is_opening, OpeningValue, is_opened, GatheredValue, StandsAt, StandOnce, AllStand, HasNone, FitTogether, ReceiptValue}
use Rattle.sq_gather.proofs.Prelude.{less_from_cmp, Contains-nothing, Contains-cases, Contains-first, Contains-later}
use Rattle.sq_audit.specs.declared.job.Job.{Job}
use Rattle.sq_audit.specs.Answers.{AllStart, AreKnown}
use Rattle.sq_audit.specs.Located.{Entry, ListsAll}
use Rattle.sq_audit.specs.Index.{HasFamily, AgreeOnSpots, HaveFamilies}
use Rattle.sq_audit.specs.Told.{StartAll, KnowsAll}
use Rattle.sq_audit.specs.Sound.{with_receipts}
use Rattle.sq_audit.proofs.Each.{no_some}

-- what is found in a table is an entry of it
found_entry : (table : TableValue) (root : ℕ) (rows : RowList) → find nat_cmp root table ≡ Some rows → (entry : ℕ × RowList) × Contains table entry × (entry.0 ≡ root)
found_entry [] root rows e = absurd (no_some rows e)
found_entry (first ∷ table) root rows e =
    elim (cases_Bool (eq_by_cmp nat_cmp root first.0)) [
      | inl here ↦ (first, Contains-first first table, sym (eqb-true root first.0 (sym (unsigned_tied root first.0) ∙ here)))
      | inr other ↦
          let rest = found_entry table root rows (sym (ap (λ b. cond b (Some first.1) (find nat_cmp root table)) other) ∙ e) in
          (rest.0, Contains-later first table rest.0 rest.1, rest.2)
    ]

above_first : (x : ℕ) (table : TableValue) (entry : ℕ × RowList) → below_all nat_cmp x table ≡ true → Contains table entry → x < entry.0
above_first x [] entry below has = absurd (Contains-nothing entry has)
above_first x (first ∷ table) entry below has =
    let parts = and_parts (is_lt (nat_cmp x first.0)) (below_all nat_cmp x table) below in
    ⊎_elim
    (λ same. subst (λ (e : ℕ × RowList). x < e.0) same (less_from_cmp x first.0 parts.0))
    (λ later. above_first x table entry parts.1 later)
    (Contains-cases first table entry has)

entry_found : (table : TableValue) (entry : ℕ × RowList) → is_sorted nat_cmp table ≡ true → Contains table entry → find nat_cmp entry.0 table ≡ Some entry.1
entry_found [] entry sorted has = absurd (Contains-nothing entry has)
entry_found (first ∷ table) entry sorted has =
    let parts = and_parts (below_all nat_cmp first.0 table) (is_sorted nat_cmp table) sorted in
    ⊎_elim
    (λ same.
    let here : eq_by_cmp nat_cmp entry.0 first.0 ≡ true = unsigned_tied entry.0 first.0 ∙ eq-eqb entry.0 first.0 (ap (λ (e : ℕ × RowList). e.0) (sym same)) in
    ap (λ b. cond b (Some first.1) (find nat_cmp entry.0 table)) here ∙ ap (λ (e : ℕ × RowList). Some e.1) same)
    (λ later.
    let above = above_first first.0 table entry parts.0 later in
    let other : eq_by_cmp nat_cmp entry.0 first.0 ≡ false = unsigned_tied entry.0 first.0 ∙ ne_eqb entry.0 first.0 (λ e. absurd (omega (arith, above, e))) in
    ap (λ b. cond b (Some first.1) (find nat_cmp entry.0 table)) other ∙ entry_found table entry parts.1 later)
    (Contains-cases first table entry has)

opening_at : (table : TableValue) (entry : ℕ × RowList) → AllPass (λ entry. is_opening entry.1) table → Contains table entry → is_opening entry.1 ≡ true
opening_at [] entry all has = absurd (Contains-nothing entry has)
opening_at (first ∷ table) entry all has =
    ⊎_elim
    (λ same. subst (λ (e : ℕ × RowList). is_opening e.1 ≡ true) same (all 0 first (omega arith)))
    (λ later. opening_at table entry (All-tail (λ (e : ℕ × RowList). is_opening e.1 ≡ true) first table all) later)
    (Contains-cases first table entry has)

module _ (o : OpeningValue) (g : GatheredValue) (entries : List Entry) (lists : ListsAll g entries) where
  pub once_is : (b : Bool) → Decides b (AgreeOnSpots entries) → Decides b (StandOnce g)
  once_is b decides =
      Decides-like b
      (λ agree one other root family again stands also.
      agree (one, family) (other, again) (lists.each one root family stands) (lists.each other root again also) ((lists.keyed one root family stands).same_root ∙ sym (lists.keyed other root again also).same_root))
      (λ once one other has also same.
      once one.0 other.0 one.1.root one.1 other.1 (lists.here one has) (subst (λ k. StandsAt g other.0 k other.1) (sym same) (lists.here other also)))
      decides

  pub starts_are : (b : Bool) → Decides b (StartAll (rows_in o.table) entries g.receipts) → Decides b (AllStart o g)
  starts_are b decides =
      Decides-like b
      (λ start spot root family stands. start (spot, family) (lists.each spot root family stands))
      (λ start entry has. start entry.0 entry.1.root entry.1 (lists.here entry has))
      decides

  pub stand_is : (b : Bool) → is_sorted nat_cmp o.table ≡ true → AllPass (λ entry. is_opening entry.1) o.table → Decides b (HaveFamilies o.table entries) → Decides b (AllStand o g)
  stand_is b sorted opening decides =
      Decides-like b
      (λ have root opened.
      let row = of_opened root (find nat_cmp root o.table) refl opened in
      let has = have row.0 row.1 in
      (has.0.0, has.0.1, subst (λ k. StandsAt g has.0.0 k has.0.1) (has.2 ∙ row.2) (lists.here has.0 has.1)))
      (λ all row has.
      let rows = entry_found o.table row sorted has in
      let some = (and_parts (not (length row.1 == 0)) _ (opening_at o.table row opening has)).0 in
      let stands = all row.0 (ap (λ (f : Option RowList). not (length (unwrap_or f []) == 0)) rows ∙ some) in
      ((stands.0, stands.1), lists.each stands.0 row.0 stands.1 stands.2, (lists.keyed stands.0 row.0 stands.1 stands.2).same_root))
      decides
    where
      of_opened : (root : ℕ) (found : Option RowList) → find nat_cmp root o.table ≡ found → is_opened o root ≡ true → (row : ℕ × RowList) × Contains o.table row × (row.0 ≡ root)
      of_opened root None e opened = absurd (true≢false (sym opened ∙ ap (λ (f : Option RowList). not (length (unwrap_or f []) == 0)) e))
      of_opened root (Some rows) e opened = found_entry o.table root rows e

  module _ (jobs : List Job) where
    none_here : (root : ℕ) → (HasFamily entries root → ⊥) → HasNone g root
    none_here root absent_here spot other stands = absent_here ((spot, other), lists.each spot root other stands, (lists.keyed spot root other stands).same_root)

    none_there : (root : ℕ) → HasNone g root → HasFamily entries root → ⊥
    none_there root none has = none has.0.0 has.0.1 (subst (λ k. StandsAt g has.0.0 k has.0.1) has.2 (lists.here has.0 has.1))

    pub known_are : (b : Bool) → Decides b (KnowsAll (rows_in o.table) entries jobs g.receipts) → Decides b (AreKnown o g jobs)
    known_are b decides =
        Decides-like b
        (λ all. record {
          logs = λ spot root family stands. all.logs (spot, family) (lists.each spot root family stands);
          others = λ receipt has none. all.nothing receipt has (none_there receipt.txn.root none);
          posted = all.posted;
        })
        (λ known. record {
          logs = λ entry has. known.logs entry.0 entry.1.root entry.1 (lists.here entry has);
          nothing = λ receipt has none. known.others receipt has (none_here receipt.txn.root none);
          posted = known.posted;
        })
        decides

-- whichever receipts there are, the same is listed
pub lists_with : (g : GatheredValue) (receipts : List ReceiptValue) (entries : List Entry) → ListsAll g entries → ListsAll (with_receipts g receipts) entries
lists_with g receipts entries lists = assumption lists

-- and the same fits together
pub fit_with : (o : OpeningValue) (g : GatheredValue) (receipts : List ReceiptValue) → FitTogether o g → FitTogether o (with_receipts g receipts)
fit_with o g receipts fit = record {
  parts = record {
    all_stores = fit.parts.all_stores;
    each_link = assumption (fit.parts.each_link);
    all_statuses = fit.parts.all_statuses;
  };
  links = λ i link there.
      let placed = fit.links i link there in
      record {
        way = placed.way;
        numbered = placed.numbered;
        about = λ note has. assumption (placed.about note has);
        tiles = placed.tiles;
        within = placed.within;
      };
  apart = fit.apart;
  grown = fit.grown;
  complete = fit.complete;
  placed = fit.placed;
  keyed = fit.keyed;
}

pub fits_with : {E : Type 0} (o : OpeningValue) (g : GatheredValue) (receipts : List ReceiptValue) (result : Result Bool E) → IfOk result (λ b. Decides b (FitTogether o g))
    → IfOk result (λ b. Decides b (FitTogether o (with_receipts g receipts)))
fits_with o g receipts (Ok b) decides = Decides-like b (fit_with o g receipts) (fit_with o (with_receipts g receipts) g.receipts) decides
fits_with o g receipts (Err e) said = said
