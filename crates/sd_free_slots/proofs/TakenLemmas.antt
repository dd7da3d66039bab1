-- Which slots are taken.
use Rattle.std.proofs.Common.{◌≡◌, ◌⊎◌, ℕ, ◌<◌, Bool, true, false, List, length, Contains, slice_get, Option, Some, sym, ◌∙◌, ap, subst, inl, inr, arith}
use Rattle.std.specs.Prelude.{◌↔◌}
use Rattle.std.specs.Option.{option_map}
use Rattle.std.proofs.lemmas.Option.{slice_get_within}
use Rattle.sd_chain.specs.Catalog.{Names, Opened, Places}
use Rattle.sd_gate.specs.declared.request_id.RequestId.{RequestId}
use Rattle.sd_merge.specs.Merger as merger
use Rattle.sd_rounds.specs.Dumper.{HasSlot, Running, dump_slot, parent_of, pre_dump_slots}
use Rattle.sd_free_slots.specs.Marks.{IsMarkedSlot, IsReachedFrom, IsUnmarked, TakesNeeded, TakesSlots}
use Rattle.sd_free_slots.specs.Taken.{AreFree, AreTaken, FreeSlotsLaw, IsListedSlot, IsNeededAt, IsOutAt, IsParentsSerial, IsReservedBy, IsRoot, IsSourcesSerial, IsTipsSerial, NamesParent}
use Rattle.sd_free_slots.proofs.FreeLemmas.{free_at, free_rises}
use Rattle.sd_free_slots.proofs.MarkLemmas.{needed_as, needed_more, takes_as, takes_more}

-- ---- the image that the parent's number names

pub names_parent : (places : Places) (running : Option Running) (parent : ℕ) (start : Opened) → parent_of running ≡ Some parent → Names places parent start
    → NamesParent places running start
names_parent places running parent start is names = grind arith

pub parent_names : (places : Places) (running : Option Running) (parent : ℕ) (start : Opened) → parent_of running ≡ Some parent → NamesParent places running start
    → Names places parent start
parent_names places running parent start is names = grind arith

-- ---- images that are needed

pub needed_of : (places : Places) (running : Option Running) (merge : Option merger.Running) (tip parent source : Option ℕ)
    → ((serial : ℕ) → tip ≡ Some serial ↔ IsTipsSerial places serial) → ((serial : ℕ) → parent ≡ Some serial ↔ IsParentsSerial places running serial)
    → ((serial : ℕ) → source ≡ Some serial ↔ IsSourcesSerial merge serial) → (old one two new : List Bool) → TakesNeeded places (IsReachedFrom places tip) old one
    → TakesNeeded places (IsReachedFrom places parent) one two → TakesNeeded places (IsReachedFrom places source) two new
    → TakesNeeded places (IsNeededAt places running merge) old new
needed_of places running merge tip parent source tips parents sources old one two new a b c =
    needed_as places (λ slot. (IsReachedFrom places tip slot ⊎ IsReachedFrom places parent slot) ⊎ IsReachedFrom places source slot) (IsNeededAt places running merge) old new
    to (λ slot n. from slot n n.is)
    (needed_more places (λ slot. IsReachedFrom places tip slot ⊎ IsReachedFrom places parent slot) (IsReachedFrom places source) old two new
    (needed_more places (IsReachedFrom places tip) (IsReachedFrom places parent) old one two a b) c)
  where
    to : (slot : ℕ) → (IsReachedFrom places tip slot ⊎ IsReachedFrom places parent slot) ⊎ IsReachedFrom places source slot → IsNeededAt places running merge slot
    to slot (inl (inl r)) = record { root = r.serial; is = inl ((tips r.serial).0 r.is); at = r.at }
    to slot (inl (inr r)) = record { root = r.serial; is = inr (inl ((parents r.serial).0 r.is)); at = r.at }
    to slot (inr r) = record { root = r.serial; is = inr (inr ((sources r.serial).0 r.is)); at = r.at }

    from : (slot : ℕ) → (n : IsNeededAt places running merge slot) → IsRoot places running merge n.root
        → (IsReachedFrom places tip slot ⊎ IsReachedFrom places parent slot) ⊎ IsReachedFrom places source slot
    from slot n (inl t) = inl (inl (record { serial = n.root; is = (tips n.root).1 t; at = n.at }))
    from slot n (inr (inl p)) = inl (inr (record { serial = n.root; is = (parents n.root).1 p; at = n.at }))
    from slot n (inr (inr s)) = inr (record { serial = n.root; is = (sources n.root).1 s; at = n.at })

-- ---- jobs

has_to : (running : Option Running) (slot : ℕ) → Contains (pre_dump_slots running) slot ⊎ (dump_slot running ≡ Some slot) → HasSlot running slot
has_to running slot given = grind arith

has_from : (running : Option Running) (slot : ℕ) → HasSlot running slot → Contains (pre_dump_slots running) slot ⊎ (dump_slot running ≡ Some slot)
has_from running slot has = grind arith

pub jobs_of : (running : Option Running) (merge : Option merger.Running) (outs : List (Option RequestId)) (old one two three four new : List Bool)
    → TakesSlots (Contains (pre_dump_slots running)) old one → TakesSlots (λ slot. dump_slot running ≡ Some slot) one two
    → TakesSlots (λ slot. option_map merger.slot_of merge ≡ Some slot) two three → TakesSlots (IsListedSlot (merger.list_of merge)) three four → TakesSlots (IsOutAt outs) four new
    → TakesSlots (IsReservedBy running merge outs) old new
jobs_of running merge outs old one two three four new a b c d e =
    takes_as all (IsReservedBy running merge outs) old new to from
    (takes_more (λ slot. ((Contains (pre_dump_slots running) slot ⊎ (dump_slot running ≡ Some slot)) ⊎ (option_map merger.slot_of merge ≡ Some slot)) ⊎ IsListedSlot (merger.list_of merge) slot)
    (IsOutAt outs) old four new
    (takes_more (λ slot. (Contains (pre_dump_slots running) slot ⊎ (dump_slot running ≡ Some slot)) ⊎ (option_map merger.slot_of merge ≡ Some slot)) (IsListedSlot (merger.list_of merge)) old three four
    (takes_more (λ slot. Contains (pre_dump_slots running) slot ⊎ (dump_slot running ≡ Some slot)) (λ slot. option_map merger.slot_of merge ≡ Some slot) old two three
    (takes_more (Contains (pre_dump_slots running)) (λ slot. dump_slot running ≡ Some slot) old one two a b) c) d) e)
  where
    all : ℕ → Type 0
    all slot = (((Contains (pre_dump_slots running) slot ⊎ (dump_slot running ≡ Some slot)) ⊎ (option_map merger.slot_of merge ≡ Some slot)) ⊎ IsListedSlot (merger.list_of merge) slot) ⊎ IsOutAt outs slot

    to : (slot : ℕ) → all slot → IsReservedBy running merge outs slot
    to slot given = grind arith

    from : (slot : ℕ) → IsReservedBy running merge outs slot → all slot
    from slot (inl has) = inl (inl (inl (has_from running slot has)))
    from slot (inr (inl own)) = inl (inl (inr own))
    from slot (inr (inr (inl listed))) = inl (inr listed)
    from slot (inr (inr (inr out))) = inr out

-- ---- all of it

pub taken_of : (places : Places) (running : Option Running) (merge : Option merger.Running) (outs : List (Option RequestId)) (old one new : List Bool) → IsUnmarked old
    → TakesNeeded places (IsNeededAt places running merge) old one → TakesSlots (IsReservedBy running merge outs) one new → AreTaken places running merge outs (length old) new
taken_of places running merge outs old one new none needed jobs = record {
  count_is = jobs.count ∙ needed.count;
  jobs = λ slot within reserved. (jobs.exact slot (inside slot within)).1 (inr reserved);
  exact = λ fall slot within. (
    (λ taken. elim ((jobs.exact slot (inside slot within)).0 taken) [
      | inl before ↦ elim ((needed.exact fall slot within).0 before) [
        | inl was ↦ absurd (none slot was)
        | inr n ↦ inl n
      ]
      | inr reserved ↦ inr reserved
    ]),
    (λ either. elim either [
      | inl n ↦ (jobs.exact slot (inside slot within)).1 (inl ((needed.exact fall slot within).1 (inr n)))
      | inr reserved ↦ (jobs.exact slot (inside slot within)).1 (inr reserved)
    ]),
  );
}
  where
    inside : (slot : ℕ) → slot < length old → slot < length one
    inside slot within = subst (λ n. slot < n) (sym needed.count) within

-- ---- free slots

unmarked_at : (places : Places) (running : Option Running) (merge : Option merger.Running) (outs : List (Option RequestId)) (count : ℕ) (slots : List ℕ) (place slot : ℕ)
    → (f : AreFree places running merge outs count slots) → slice_get slots place ≡ Some slot → slice_get f.marks slot ≡ Some false
unmarked_at places running merge outs count slots place slot f is = grind (arith, free_at)

not_both : (marks : List Bool) (slot : ℕ) → slice_get marks slot ≡ Some false → IsMarkedSlot marks slot → ⊥
not_both marks slot is taken = (let no : Some false ≡ Some true = sym is ∙ taken in cc)

pub free_slots_law : FreeSlotsLaw
free_slots_law = record {
  each = λ places running merge outs count slots place slot f is.
      let unmarked = unmarked_at places running merge outs count slots place slot f is in
      let within : slot < count = subst (λ n. slot < n) f.taken.count_is (slice_get_within f.marks slot false unmarked) in
      (within, (λ reserved. not_both f.marks slot unmarked (f.taken.jobs slot within reserved)));
  unneeded = λ places running merge outs count slots place slot f fall is needed.
      let unmarked = unmarked_at places running merge outs count slots place slot f is in
      let within : slot < count = subst (λ n. slot < n) f.taken.count_is (slice_get_within f.marks slot false unmarked) in
      not_both f.marks slot unmarked ((f.taken.exact fall slot within).1 (inl needed));
  rises = λ places running merge outs count slots place other slot later f below is at.
      free_rises 0 f.marks place other slot later below (ap (λ all. slice_get all place) (sym f.are) ∙ is) (ap (λ all. slice_get all other) (sym f.are) ∙ at);
}
