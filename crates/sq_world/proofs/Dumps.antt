-- The parts of a dump, one after another.
use Rattle.std.proofs.Common.{◌≡◌, ℕ, zero, suc, ◌+◌, ◌<◌, ◌&&◌, arith, List, [], ◌++◌, length, Option, Some, None, slice_index_or, map, sym, ap, ◌∙◌, subst, append_assoc}
use Rattle.std.specs.Prelude.{◌==◌, Result, OnOk}
use Rattle.std.specs.List.{flat_map, range_with_len}
use Rattle.std.specs.Io.KnownBytes.{Appends}
use Rattle.std.proofs.lemmas.List.{append-nil, get_or_default}
use Rattle.std.proofs.lemmas.List.Quantifiers.{position-Some}
use Rattle.sq_store.specs.StoreValue.{StoreValue}
use Rattle.sq_store.specs.InOrder.{families_in}
use Rattle.sq_exec.specs.CoreValue.{CoreValue, PartCoreValue}
use Rattle.sq_exec.proofs.Seen.{seen_read}
use Rattle.sq_transition.specs.WorldValue.{WorldValue, QueueValue, no_core, core_at, no_queue, queue_at, link_index, link_of, under_way}
use Rattle.sq_text.specs.Texts.{at_line, way_lines}
use Rattle.sq_text.proofs.Appending.{both}
use Rattle.sq_world.specs.Dump.{part_lines, link_lines}

-- what is said of one more number goes to the end
said_more : (f : ℕ → List ℕ) (a n j : ℕ) → a + n ≡ j → flat_map f (range_with_len a (suc n)) ≡ flat_map f (range_with_len a n) ++ f j
said_more f a zero j e = let same : a ≡ j = omega (arith, e) in append-nil (f a) ∙ ap f same
said_more f a (suc n) j e =
    ap (λ (t : List ℕ). f a ++ t) (said_more f (a + 1) n j (omega (arith, e))) ∙ sym (append_assoc (f a) (flat_map f (range_with_len (a + 1) n)) (f j))

-- what is written of one more number goes to the end
pub one_more : (f : ℕ → List ℕ) (n next : ℕ) (a b c : Option (List ℕ)) (text : List ℕ) → next ≡ n + 1 → Appends a b (flat_map f (range_with_len 0 n)) → Appends b c text → text ≡ f n → Appends a c (flat_map f (range_with_len 0 next))
one_more f n next a b c text more before here is =
    let next_is : suc n ≡ next = omega (arith, more) in
    let joined : flat_map f (range_with_len 0 n) ++ text ≡ flat_map f (range_with_len 0 next) =
    ap (λ (t : List ℕ). flat_map f (range_with_len 0 n) ++ t) is ∙ sym (said_more f 0 n n (omega arith)) ∙ ap (λ k. flat_map f (range_with_len 0 k)) next_is in
    both a b c _ _ _ before here joined

-- nothing is written
pub nothing : (a : Option (List ℕ)) → Appends a a []
nothing None = tt
nothing (Some bytes) = sym (append-nil bytes)

-- what is written of a partition is what is said of it
pub part_said : (w : WorldValue) (parts : List PartCoreValue) (part at number : ℕ) (here : PartCoreValue) (store : StoreValue) → w.cores ≡ map (λ p. p.core) parts → at ≡ part → number ≡ part → part < length parts
    → here ≡ slice_index_or parts at here → store ≡ here.core.store → flat_map (at_line number) (families_in store) ≡ part_lines w part
part_said w parts part at number here store same at_is number_is within here_by store_is =
    let here_is : here.core ≡ core_at w part =
    seen_read (λ (p : PartCoreValue). p.core) parts part here no_core within (here_by ∙ ap (λ i. slice_index_or parts i here) at_is) ∙ ap (λ cores. slice_index_or cores part no_core) (sym same) in
    let all : families_in store ≡ families_in (core_at w part).store = ap families_in (store_is ∙ ap (λ (core : CoreValue). core.store) here_is) in
    λ k. flat_map (at_line (number_is k)) (all k)

-- the place of a queue that is found is among the queues
pub queue_within : (w : WorldValue) (queues : List QueueValue) (src dst at : ℕ) → w.queues ≡ queues → Some at ≡ link_index w src dst → at < length queues
queue_within w queues src dst at same found =
    let low : at < length w.queues = (position-Some (λ queue. (queue.src == src) && (queue.dst == dst)) w.queues at no_queue (sym found)).0 in
    let lengths : length w.queues ≡ length queues = ap length same in
    omega (arith, low, lengths)

-- what is written of a link is what is said of it
pub link_said : (w : WorldValue) (queues : List QueueValue) (src dst at : ℕ) (here : QueueValue) → w.queues ≡ queues → Some at ≡ link_index w src dst → here ≡ slice_index_or queues at here
    → flat_map way_lines (under_way (link_of w here)) ≡ link_lines w (link_index w src dst)
link_said w queues src dst at here same found here_by =
    let here_is : here ≡ queue_at w at =
    here_by ∙ get_or_default queues at here no_queue (queue_within w queues src dst at same found) ∙ ap (λ qs. slice_index_or qs at no_queue) (sym same) in
    ap (λ queue. flat_map way_lines (under_way (link_of w queue))) here_is ∙ ap (link_lines w) found

-- what was written is this text
pub same_text : {T E : Type 0} (r : Result T E) (a b : Option (List ℕ)) (text other : List ℕ) → text ≡ other → OnOk r (Appends a b text) → OnOk r (Appends a b other)
same_text r a b text other same written = subst (λ t. OnOk r (Appends a b t)) same written
