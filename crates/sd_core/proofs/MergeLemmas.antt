-- A merge stays what it is while the dumper works.
use Rattle.std.proofs.Common.{◌≡◌, ◌≢◌, ℕ, ◌+◌, ◌<◌, ◌≤◌, ◌^◌, List, length, Option, Some, None, IfSome, refl, sym, ◌∙◌, ap, subst, arith}
use Rattle.sd_chain.specs.Catalog.{IsHeld, Opened, Places, place_of}
use Rattle.sd_gate.specs.declared.phase.Phase.{Phase}
use Rattle.sd_gate.specs.declared.request_id.RequestId.{RequestId}
use Rattle.sd_merge.specs.Merger as merger
use Rattle.sd_merge.specs.Merger.{Doing, due, copying, opened, retiring}
use Rattle.sd_rounds.specs.Dumper.{HasSlot, Running, slot_of}
use Rattle.sd_rounds.specs.Making.{Making}
use Rattle.sd_crash_safety.specs.declared.standing.Standing.TheVariants.{Open}
use Rattle.sd_crash_safety.specs.Merges.{IsSpared, MakesOther}
use Rattle.sd_core.specs.declared.numbers.Numbers.{Numbers}
use Rattle.sd_core.specs.Merging.{IsMergedImage}
use Rattle.sd_core.specs.Sound.{IsCore, IsDoing, MergeRuns, Parts, serials_to_come_in}

-- what the dumper, and what else goes on, leaves of a merge
pub record MergeStays (core : Parts) (phases : List Phase) (places : Places) (numbers : Numbers) (running : Option Running) : Type 0 where
  pub count : length phases ≡ length core.phases
  pub given : core.numbers.given ≤ numbers.given
  pub checkpoint : core.numbers.checkpoint ≤ numbers.checkpoint
  pub serials : (merge : merger.Running) → core.merger ≡ Some merge → serials_to_come_in merge.doing ≡ 1 → core.numbers.serial < 2 ^ 63 + 9 → numbers.serial < 2 ^ 63 + 9
  pub has : (slot : ℕ) → HasSlot running slot → HasSlot core.dumper.running slot
  pub fills : (slot : ℕ) → IsSpared core.dumper.running slot → IsSpared running slot
  pub other : (serial : ℕ) → serial ≤ core.numbers.given → MakesOther core.dumper.running serial → MakesOther running serial
  pub held : (serial : ℕ) → serial ≤ core.numbers.given → MakesOther core.dumper.running serial → IsHeld core.places serial → IsHeld places serial
  pub images : (serial : ℕ) (o : Opened) → place_of core.places serial ≡ Some (Some o) → (HasSlot core.dumper.running o.slot → ⊥) → place_of places serial ≡ Some (Some o)

pub image_stays : (merge : merger.Running) (places new : Places) (serial : ℕ)
    → ((o : Opened) → place_of places serial ≡ Some (Some o) → o.slot ≡ merge.slot → place_of new serial ≡ Some (Some o))
    → IsMergedImage merge places serial → IsMergedImage merge new serial
image_stays merge places new serial stays i = grind arith

module _ {core : Parts} {phases : List Phase} {places : Places} {numbers : Numbers} {running : Option Running} (s : MergeStays core phases places numbers running)
    (merge : merger.Running) (was : core.merger ≡ Some merge) where
  doing_stays : (doing : Doing) → merge.doing ≡ doing → (HasSlot core.dumper.running merge.slot → ⊥) → IsDoing core.phases core.places core.numbers core.room core.dumper.running merge doing
      → IsDoing phases places numbers core.room running merge doing
  doing_stays due is spared d = (s.serials merge was (ap serials_to_come_in is) d.0, d.1 ∙ sym s.count)
  doing_stays (copying copy) is spared d =
      let given = d.0.given in
      let more = s.given in (
        record {
          header = d.0.header;
          given = omega (arith, given, more);
          held = s.held copy.order.serial given d.0.other d.0.held;
          other = s.other copy.order.serial given d.0.other;
        },
        d.1 ∙ sym s.count,
      )
  doing_stays (opened serial) is spared d = absurd d
  doing_stays (retiring r) is spared d = record {
    image = image_stays merge core.places places r.serial (λ o there at. s.images r.serial o there (λ has. spared (subst (HasSlot core.dumper.running) at has))) d.image;
    elsewhere = d.elsewhere;
    each = λ place one at. let e = d.each place one at in record {
      within = subst (λ n. one.slot < n) (sym s.count) e.within;
      spared = λ has. e.spared (s.has one.slot has);
      apart = e.apart;
    };
    rises = d.rises;
  }

  merge_stays : MergeRuns core.standing core.phases core.places core.opener core.numbers core.room core.dumper.running merge
      → MergeRuns core.standing phases places core.opener numbers core.room running merge
  merge_stays m = record {
    stands = m.stands;
    closed = m.closed;
    within = subst (λ n. merge.slot < n) (sym s.count) m.within;
    spared = λ has. m.spared (s.has merge.slot has);
    counted = (let counted = m.counted in let more = s.checkpoint in omega (arith, counted, more));
    asks = λ id out. s.fills id.slot (m.asks id out);
    syncs = λ id out call has. m.syncs id out call (s.has id.slot has);
    doing = doing_stays merge.doing refl m.spared m.doing;
  }

pub merging_stays : (core : Parts) (phases : List Phase) (places : Places) (numbers : Numbers) (running : Option Running) → IsCore core → MergeStays core phases places numbers running
    → IfSome core.merger (MergeRuns core.standing phases places core.opener numbers core.room running)
merging_stays core phases places numbers running sound s = by core.merger refl sound.merging
  where
    by : (m : Option merger.Running) → core.merger ≡ m → IfSome m (MergeRuns core.standing core.phases core.places core.opener core.numbers core.room core.dumper.running)
        → IfSome m (MergeRuns core.standing phases places core.opener numbers core.room running)
    by None is was = tt
    by (Some merge) is was = merge_stays s merge is was

-- none runs while the store isn't open
pub none_merges : (core : Parts) → IsCore core → core.standing ≢ Open → core.merger ≡ None
none_merges core sound closed = by core.merger sound.merging
  where
    by : (m : Option merger.Running) → IfSome m (MergeRuns core.standing core.phases core.places core.opener core.numbers core.room core.dumper.running) → m ≡ None
    by None was = refl
    by (Some merge) was = absurd (closed was.stands)

pub no_merge : (P : merger.Running → Type 0) (merge : Option merger.Running) → merge ≡ None → IfSome merge P
no_merge P merge none = subst (λ m. IfSome m P) (sym none) tt

-- ---- the slots of a checkpoint that goes on

pub fills_same : (running : Running) (next : Option Making) (slot : ℕ) → IsSpared (Some running) slot → IsSpared (Some (record running { image = next })) slot
fills_same running next slot spared r = spared (record { place = r.place; from = r.from; is = r.is })

-- the merger's request that is out is on no slot that the checkpoint fills
pub asks_apart : (core : Parts) (running : Running) (id other : RequestId) → IsCore core → core.dumper.running ≡ Some running → id.slot ≡ slot_of running → merger.out_of_merge core.merger ≡ Some other → id.slot ≢ other.slot
asks_apart core running id other sound was own out same = by core.merger sound.merging out
  where
    by : (m : Option merger.Running) → IfSome m (MergeRuns core.standing core.phases core.places core.opener core.numbers core.room core.dumper.running)
        → merger.out_of_merge m ≡ Some other → ⊥
    by None is at = (let no : None ≡ Some other = at in cc)
    by (Some merge) is at = (subst (λ r. IsSpared r other.slot) was (is.asks other at))
        (record { place = running.opened; from = omega arith; is = sym same ∙ own })
