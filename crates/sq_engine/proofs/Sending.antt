-- What a teller sends of the receipts that it heard of.
use Rattle.std.proofs.Common.{◌≡◌, Bool, true, false, List, [], ◌∷◌, ◌++◌, refl, sym, ap, ◌∙◌, subst, append_assoc, true≢false}
use Rattle.rtrb.specs.Ring.{sent, SameProducer}
use Rattle.sq_node_model.specs.NodeValue.{ReceiptValue}
use Rattle.sq_driver.specs.Told.{TellsEach}
use Rattle.sq_driver.specs.Sent.{SendsOrBreaksOff}
use Rattle.sq_driver.specs.declared.ring.RingTeller.{RingTeller}

-- it sent these receipts but for some at the end, which are missing where it broke off
pub record SendsMost (first : RingTeller) (told : List ReceiptValue) (last : RingTeller) : Type 0 where
  pub ring : SameProducer first.producer last.producer
  pub missing : List ReceiptValue
  pub sends : sent first.producer ++ told ≡ sent last.producer ++ missing
  pub whole : last.broke_off ≡ false → missing ≡ []
  pub broken : first.broke_off ≡ false → last.broke_off ≡ true → missing ≡ [] → ⊥

same_ring : (teller : RingTeller) → SameProducer teller.producer teller.producer
same_ring teller = ((refl, refl, refl, refl), refl)

ring_through : (one two three : RingTeller) → SameProducer one.producer two.producer → SameProducer two.producer three.producer
    → SameProducer one.producer three.producer
ring_through one two three a b = ((b.0.0 ∙ a.0.0, b.0.1 ∙ a.0.1, b.0.2 ∙ a.0.2, b.0.3 ∙ a.0.3), b.1 ∙ a.1)

still_off : (old : RingTeller) (receipt : ReceiptValue) (new : RingTeller) → SendsOrBreaksOff old receipt new
    → old.broke_off ≡ true → (b : Bool) → new.broke_off ≡ b → b ≡ true
still_off old receipt new tells off true is = refl
still_off old receipt new tells off false is = absurd (true≢false (sym off ∙ (tells.sends is).0))

-- what breaks off sends no more
none_more : (first : RingTeller) (more : List ReceiptValue) (last : RingTeller) → TellsEach SendsOrBreaksOff first more last
    → first.broke_off ≡ true → (last.broke_off ≡ true) × (sent last.producer ≡ sent first.producer)
none_more first [] last same off = (ap (λ (t : RingTeller). t.broke_off) same ∙ off, ap (λ (t : RingTeller). sent t.producer) same)
none_more first (receipt ∷ more) last all off =
    let next = all.0 in
    let still = still_off first receipt next all.1 off next.broke_off refl in
    let rest = none_more next more last all.2 still in
    (rest.0, rest.1 ∙ all.1.breaks_off still)

one_more : (first : RingTeller) (receipt : ReceiptValue) (next : RingTeller) (more : List ReceiptValue) (last : RingTeller)
    → SendsOrBreaksOff first receipt next → TellsEach SendsOrBreaksOff next more last → SendsMost next more last
    → (b : Bool) → next.broke_off ≡ b → SendsMost first (receipt ∷ more) last
one_more first receipt next more last tells all rest true off =
    let none = none_more next more last all off in
    record {
      ring = ring_through first next last tells.ring rest.ring;
      missing = receipt ∷ more;
      sends = ap (λ (list : List ReceiptValue). list ++ receipt ∷ more) (sym (none.1 ∙ tells.breaks_off off));
      whole = λ goes_on. absurd (true≢false (sym none.0 ∙ goes_on));
      broken = λ on off none_missing. let e : receipt ∷ more ≡ [] = none_missing in cc;
    }
one_more first receipt next more last tells all rest false on = record {
  ring = ring_through first next last tells.ring rest.ring;
  missing = rest.missing;
  sends = sym (append_assoc (sent first.producer) (receipt ∷ []) more)
      ∙ ap (λ (list : List ReceiptValue). list ++ more) (sym (tells.sends on).1) ∙ rest.sends;
  whole = rest.whole;
  broken = λ _ off none_missing. rest.broken on off none_missing;
}

pub sends_most : (first : RingTeller) (told : List ReceiptValue) (last : RingTeller) → TellsEach SendsOrBreaksOff first told last
    → SendsMost first told last
sends_most first [] last same = record {
  ring = subst (λ (t : RingTeller). SameProducer first.producer t.producer) (sym same) (same_ring first);
  missing = [];
  sends = ap (λ (t : RingTeller). sent t.producer ++ []) (sym same);
  whole = λ goes_on. refl;
  broken = λ on off none_missing. true≢false (sym off ∙ ap (λ (t : RingTeller). t.broke_off) same ∙ on);
}
sends_most first (receipt ∷ more) last all =
    one_more first receipt all.0 more last all.1 all.2 (sends_most all.0 more last all.2) all.0.broke_off refl
