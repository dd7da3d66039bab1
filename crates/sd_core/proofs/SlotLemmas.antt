-- The slots of a checkpoint that begins: they are the store's, apart, and nobody needs or has what stands in them.
use Rattle.std.proofs.Common.{◌≡◌, ◌≢◌, ◌⊎◌, ℕ, ◌+◌, ◌<◌, ◌≤◌, Bool, true, false, List, length, take, Contains, get_or, slice_get, Option, Some, None, refl, sym, ◌∙◌, ap, subst, inl, inr, arith}
use Rattle.std.proofs.lemmas.Bool.{cases_lt}
use Rattle.std.proofs.lemmas.List.{get_or-take, get_or_past, length-take-le}
use Rattle.std.proofs.lemmas.Option.{same_Some, slice_get-get_or}
use Rattle.std.specs.Option.{option_map}
use Rattle.sd_image.proofs.Members.{contains_at}
use Rattle.sd_chain.specs.Catalog.{IsSoundCatalog, Opened, Places, images, place_of}
use Rattle.sd_chain.specs.Reaches.{ParentsFall, ReachesInCatalog, ReachesSerial}
use Rattle.sd_merge.specs.declared.retired.Retired.{Retired}
use Rattle.sd_merge.specs.declared.source.Source.{Source}
use Rattle.sd_merge.specs.Merger as merger
use Rattle.sd_merge.specs.Merger.{list_in, source_in}
use Rattle.sd_rounds.specs.Dumper.{IsReserved, Running, begun_checkpoint}
use Rattle.sd_crash_safety.specs.CheckpointSteps.{HasParent, IsUnreached, IsUnread, LeavesMerge, LeavesMergeAt}
use Rattle.sd_crash_safety.specs.View.{CoreView}
use Rattle.sd_free_slots.specs.Marks.{IsReachedAt}
use Rattle.sd_free_slots.specs.Taken.{FreeSlotsLaw, IsReservedBy}
use Rattle.sd_core.specs.Beginning.{AreReserved, FreeSlots, IsFirstParent}

-- ---- free slots

-- a slot is one of these
pub record IsFreeAt (slots : List ℕ) (slot : ℕ) : Type 0 where
  pub place : ℕ
  pub at : slice_get slots place ≡ Some slot

-- a free slot is the store's
pub free_within : FreeSlotsLaw → (core : CoreView) (slots : List ℕ) (slot : ℕ) → FreeSlots core slots → IsFreeAt slots slot → slot < length core.phases
free_within law core slots slot free f = (law.each core.catalog core.dumper.running core.merger core.outs (length core.phases) slots f.place slot free f.at).0

-- no job has it
pub free_unreserved : FreeSlotsLaw → (core : CoreView) (slots : List ℕ) (slot : ℕ) → FreeSlots core slots → IsFreeAt slots slot
    → IsReservedBy core.dumper.running core.merger core.outs slot → ⊥
free_unreserved law core slots slot free f = (law.each core.catalog core.dumper.running core.merger core.outs (length core.phases) slots f.place slot free f.at).1

-- what an image of the catalog reaches is in it
reached_in : (places : Places) (j i : Opened) → ReachesInCatalog places j i → Contains (images places) i → Contains (images places) j
reached_in places j _ ReachesInCatalog.itself member = member
reached_in places j _ (ReachesInCatalog.beyond i parent named rest) member = reached_in places j parent rest named.member

-- an image that another reaches stands in its slot
pub reached_at : (places : Places) (serial reached slot : ℕ) (o : Opened) → IsSoundCatalog places → place_of places reached ≡ Some (Some o) → o.slot ≡ slot
    → ReachesSerial places serial reached → IsReachedAt places serial slot
reached_at places serial reached slot o sound at here r = record {
  from = r.0;
  there = ap (place_of places) (sym r.3) ∙ sound.own r.0 r.2;
  image = r.1;
  reaches = r.4;
  at = ap (λ (i : Opened). i.slot) (same_open r.1 o (sym (sound.own r.1 (reached_in places r.1 r.0 r.4 r.2)) ∙ ap (place_of places) r.5 ∙ at)) ∙ here;
}
  where
    same_open : (a b : Opened) → Some (Some a) ≡ Some (Some b) → a ≡ b
    same_open a b e = cc

-- no image that the tip reaches stands in it
pub free_unreached : FreeSlotsLaw → (core : CoreView) (slots : List ℕ) (slot : ℕ) → FreeSlots core slots → IsFreeAt slots slot → IsSoundCatalog core.catalog → ParentsFall core.catalog
    → IsUnreached core.catalog slot
free_unreached law core slots slot free f sound falls serial o tip at here is reaches =
    law.unneeded core.catalog core.dumper.running core.merger core.outs (length core.phases) slots f.place slot free falls f.at
    (record { root = tip.header.serial; is = inl (record { tip = tip; is = is; own = refl }); at = reached_at core.catalog tip.header.serial serial slot o sound at here reaches })

-- none that a merge repeats, or that its source reaches
pub free_unread : FreeSlotsLaw → (core : CoreView) (slots : List ℕ) (slot : ℕ) (merge : merger.Running) → FreeSlots core slots → IsFreeAt slots slot → IsSoundCatalog core.catalog
    → ParentsFall core.catalog → core.merger ≡ Some merge → IsUnread core.catalog (source_in merge merge.doing) slot
free_unread law core slots slot merge free f sound falls runs = by (source_in merge merge.doing) (ap merger.source_of runs)
  where
    by : (source : Option Source) → merger.source_of core.merger ≡ source → IsUnread core.catalog source slot
    by None is = tt
    by (Some source) is = λ serial o at here reaches.
        law.unneeded core.catalog core.dumper.running core.merger core.outs (length core.phases) slots f.place slot free falls f.at
        (record { root = source.serial; is = inr (inr (record { source = source; is = is; own = refl })); at = reached_at core.catalog source.serial serial slot o sound at here reaches })

-- ---- a checkpoint's slots

count_of : (rounds : ℕ) (slots pre_dumps : List ℕ) → pre_dumps ≡ take rounds slots → rounds + 2 ≤ length slots → length pre_dumps ≡ rounds
count_of rounds slots pre_dumps firsts spare = ap length firsts ∙ length-take-le rounds slots (omega (arith, spare))

early : (rounds : ℕ) (slots pre_dumps : List ℕ) (dump place : ℕ) → pre_dumps ≡ take rounds slots → rounds + 2 ≤ length slots → place < rounds
    → slice_get slots place ≡ Some (get_or pre_dumps place dump)
early rounds slots pre_dumps dump place firsts spare before =
    slice_get-get_or slots place dump (omega (arith, spare, before)) ∙ ap Some (sym (ap (λ all. get_or all place dump) firsts ∙ get_or-take rounds slots place dump before))

late : (rounds : ℕ) (slots pre_dumps : List ℕ) (dump place : ℕ) → pre_dumps ≡ take rounds slots → rounds + 2 ≤ length slots → slice_get slots rounds ≡ Some dump
    → rounds ≤ place → slice_get slots rounds ≡ Some (get_or pre_dumps place dump)
late rounds slots pre_dumps dump place firsts spare next behind =
    let count = count_of rounds slots pre_dumps firsts spare in
    next ∙ ap Some (sym (get_or_past pre_dumps place dump (omega (arith, count, behind))))

-- which free slot an image has
pub slot_is_free : (core : CoreView) (rounds : ℕ) (pre_dumps : List ℕ) (dump place : ℕ) → (r : AreReserved core rounds pre_dumps dump)
    → IsFreeAt r.slots (get_or pre_dumps place dump)
slot_is_free core rounds pre_dumps dump place r = elim (cases_lt place rounds) [
  | inl before ↦ record { place = place; at = early rounds r.slots pre_dumps dump place r.firsts r.spare before }
  | inr behind ↦ record { place = rounds; at = late rounds r.slots pre_dumps dump place r.firsts r.spare r.next behind }
]

-- each of them is free
pub own_free : (core : CoreView) (rounds : ℕ) (pre_dumps : List ℕ) (dump slot : ℕ) → (r : AreReserved core rounds pre_dumps dump) → Contains pre_dumps slot ⊎ (slot ≡ dump)
    → IsFreeAt r.slots slot
own_free core rounds pre_dumps dump slot r (inl member) = subst (IsFreeAt r.slots) here (slot_is_free core rounds pre_dumps dump member.0 r)
  where
    here : get_or pre_dumps member.0 dump ≡ slot
    here = same_Some (get_or pre_dumps member.0 dump) slot
        (sym (slice_get-get_or pre_dumps member.0 dump member.1) ∙ slice_get-get_or pre_dumps member.0 slot member.1 ∙ ap Some member.2)
own_free core rounds pre_dumps dump slot r (inr is) = record { place = rounds; at = r.next ∙ ap Some (sym is) }

pub filled_free : (core : CoreView) (rounds n : ℕ) (pre_dumps : List ℕ) (dump parent slot : ℕ) → (r : AreReserved core rounds pre_dumps dump)
    → IsReserved (begun_checkpoint n pre_dumps dump parent) slot → IsFreeAt r.slots slot
filled_free core rounds n pre_dumps dump parent slot r reserved = subst (IsFreeAt r.slots) (sym reserved.is) (slot_is_free core rounds pre_dumps dump reserved.place r)

-- images of a checkpoint have different slots
pub slots_apart : FreeSlotsLaw → (core : CoreView) (rounds : ℕ) (pre_dumps : List ℕ) (dump one other : ℕ) → AreReserved core rounds pre_dumps dump → one < other
    → other ≤ length pre_dumps → get_or pre_dumps one dump ≢ get_or pre_dumps other dump
slots_apart law core rounds pre_dumps dump one other r below within same =
    let many = count_of rounds r.slots pre_dumps r.firsts r.spare in
    let before : one < rounds = omega (arith, below, within, many) in
    let first = early rounds r.slots pre_dumps dump one r.firsts r.spare before in
    let later : slice_get r.slots other ≡ Some (get_or pre_dumps other dump) = elim (cases_lt other rounds) [
      | inl early_ ↦ early rounds r.slots pre_dumps dump other r.firsts r.spare early_
      | inr behind ↦ ap (slice_get r.slots) (omega (arith, within, many, behind)) ∙ late rounds r.slots pre_dumps dump other r.firsts r.spare r.next behind
    ] in
    let rises = law.rises core.catalog core.dumper.running core.merger core.outs (length core.phases) r.slots one other (get_or pre_dumps one dump) (get_or pre_dumps other dump)
    r.free below first later in
    omega (arith, rises, same)

-- ---- the merge that runs

leaves_at : FreeSlotsLaw → (core : CoreView) (slots : List ℕ) (slot : ℕ) (merge : merger.Running) → FreeSlots core slots → IsFreeAt slots slot → IsSoundCatalog core.catalog
    → ParentsFall core.catalog → core.merger ≡ Some merge → LeavesMergeAt core.catalog merge slot
leaves_at law core slots slot merge free f sound falls runs = record {
  target = λ same. free_unreserved law core slots slot free f (inr (inl (target same)));
  listed = λ place one at same. free_unreserved law core slots slot free f (inr (inr (inl (record { one = one; listed = listed place one at; at = sym same }))));
  source = free_unread law core slots slot merge free f sound falls runs;
}
  where
    target : slot ≡ merge.slot → option_map merger.slot_of core.merger ≡ Some slot
    target same = ap (option_map merger.slot_of) runs ∙ ap Some (sym same)

    listed : (place : ℕ) (one : Retired) → slice_get (list_in merge.doing) place ≡ Some one → Contains (merger.list_of core.merger) one
    listed place one at = subst (λ m. Contains (merger.list_of m) one) (sym runs) (contains_at (list_in merge.doing) place one at)

-- what it needs is in none of the checkpoint's slots
pub leaves_merge : FreeSlotsLaw → (core : CoreView) (rounds n : ℕ) (pre_dumps : List ℕ) (dump parent : ℕ) → AreReserved core rounds pre_dumps dump → IsSoundCatalog core.catalog
    → ParentsFall core.catalog → LeavesMerge core.catalog (begun_checkpoint n pre_dumps dump parent) core.merger
leaves_merge law core rounds n pre_dumps dump parent r sound falls = by core.merger refl
  where
    by : (m : Option merger.Running) → core.merger ≡ m → LeavesMerge core.catalog (begun_checkpoint n pre_dumps dump parent) m
    by None is = tt
    by (Some merge) is = λ slot reserved. leaves_at law core r.slots slot merge r.free (filled_free core rounds n pre_dumps dump parent slot r reserved) sound falls is

-- ---- the parent

pub has_parent : (places : Places) (core : CoreView) (running : Running) → IsFirstParent places core.grows running.parent → HasParent places core running
has_parent places core running first = by_growth core.grows refl first
  where
    by_growth : (grows : Bool) → core.grows ≡ grows → IsFirstParent places grows running.parent → HasParent places core running
    by_growth false is none = inl none
    by_growth true is (inl none) = inl none.0
    by_growth true is (inr tip) = inr (is, tip.0, tip.1, tip.2)
