-- A checkpoint begins beside a merge: none of its slots has what the merge needs.
use Rattle.std.proofs.Common.{◌≡◌, ◌≢◌, ℕ, zero, suc, ◌<◌, List, [], ◌∷◌, length, Option, Some, None, Contains, slice_get, refl, sym, subst, inl, arith}
use Rattle.sd_image.specs.Image.{Image}
use Rattle.sd_image.specs.Shows.{IsNamed}
use Rattle.sd_image.proofs.Members.{contains_at}
use Rattle.sd_chain.specs.Catalog.{Places}
use Rattle.sd_chain.specs.Recorded.{CatalogLists}
use Rattle.sd_gate.specs.declared.phase.Phase.{Phase}
use Rattle.sd_gate.specs.Requests.{Asked}
use Rattle.sd_merge.specs.declared.retired.Retired.{Retired}
use Rattle.sd_merge.specs.declared.source.Source.{Source}
use Rattle.sd_merge.specs.declared.stage.Stage.{Stage as CopyStage}
use Rattle.sd_merge.specs.declared.stage.Stage.TheVariants as copy
use Rattle.sd_merge.specs.Copying.{Copying}
use Rattle.sd_merge.specs.Merger.{Doing, Retiring, due, copying, opened, retiring, list_in, source_in}
use Rattle.sd_merge.specs.Merger as merger
use Rattle.sd_rounds.specs.Dumper.{IsReserved, Running}
use Rattle.sd_writing.specs.Entries.{Place}
use Rattle.sd_store_laws.specs.Beliefs.{Belief, Kept}
use Rattle.sd_store_laws.specs.LiveImages.{IsLiveCatalog, SlotHasImage, RecordedReachesSo}
use Rattle.sd_store_laws.specs.Reached.{Reaches, beyond, itself}
use Rattle.sd_store_laws.specs.Store.{Store}
use Rattle.sd_crash_safety.specs.CheckpointSteps.{IsUnread, LeavesMerge}
use Rattle.sd_crash_safety.specs.Merges.{IsAskedIn, IsCopyOfSource, IsMergeAt, IsMergeOn, IsOtherImage, IsRepeating, IsRetiringOn, MakesOther}

module _ (places : Places) (store : Store) (beliefs : List Belief) (is_live : IsLiveCatalog places beliefs) (told : CatalogLists places store.catalog) (reaches : RecordedReachesSo places)
    (members : (i : Image) → Contains beliefs (Kept i) → Contains store.catalog i) (phases : List Phase) (asked : List (Option Asked)) (bodies : List (List ℕ)) (last : ℕ) (running : Running) where
  -- what the source reaches stands in none of these slots
  module _ (source : Source) (image : Image) (serial_is : source.serial ≡ image.header.serial) (there : Contains store.catalog image)
      (unread : (k : ℕ) → IsReserved running k → IsUnread places (Some source) k) where
    pub unreserved : (k : ℕ) (i : Image) → SlotHasImage beliefs k i → Reaches store.catalog i image → IsReserved running k → ⊥
    unreserved k i has way r =
        let o = is_live.opened k i has in
        unread k r i.header.serial o.0 o.1 o.3 ((reaches store.catalog told source.serial i.header.serial).1 (image, i, there, sym serial_is, way, refl))

  -- ---- what is read

  abbrev read_source : Source → Doing → Option Source
  read_source origin due = Some origin
  read_source origin (copying made) = Some origin
  read_source origin (opened serial) = None
  read_source origin (retiring r) = None

  read_same : (merge : merger.Running) (doing : Doing) (k : ℕ) → IsUnread places (source_in merge doing) k → IsUnread places (read_source merge.source doing) k
  read_same merge doing k is = grind arith

  -- ---- the merge, whose slots it spares

  module _ (none : running.image ≡ None) where
    makes_other : (serial : ℕ) → MakesOther (Some running) serial
    makes_other serial = subst (λ image. IsOtherImage image serial) (sym none) tt

    repeating_beside : (at : ℕ) (origin : Source) → ((k : ℕ) → IsReserved running k → k ≢ at) → ((k : ℕ) → IsReserved running k → IsUnread places (Some origin) k)
        → IsRepeating phases store beliefs None at origin → IsRepeating phases store beliefs (Some running) at origin
    repeating_beside at origin target unread r =
        let s = r.source in
        record {
          image = r.image;
          source = record {
            is = s.is;
            work = s.work;
            serial = s.serial;
            stands = s.stands;
            checkpoint = s.checkpoint;
            pages = s.pages;
            restorable = s.restorable;
            some = s.some;
            slot = s.slot;
            kept = s.kept;
            spared = unreserved origin r.image s.serial (members r.image (contains_at beliefs s.slot (Kept r.image) s.kept)) unread s.slot r.image (inl s.kept) itself;
            apart = s.apart;
            held = s.held;
          };
          slot = record { within = r.slot.within; spared = λ reserved. target at reserved refl; unneeded = r.slot.unneeded };
          opening = r.opening;
        }

    asked_beside : (source : Source) (image : Image) → source.serial ≡ image.header.serial → Contains store.catalog image → ((k : ℕ) → IsReserved running k → IsUnread places (Some source) k)
        → (target : ℕ) (stage : CopyStage) (page : Option Place) (request : Option Asked)
        → IsAskedIn stage phases bodies store beliefs None target image page request → IsAskedIn stage phases bodies store beliefs (Some running) target image page request
    asked_beside source image serial there unread target (copy.PageRead plan) page None a = absurd a
    asked_beside source image serial there unread target (copy.PageRead plan) page (Some request) a = record {
      at = a.at;
      taking = a.taking;
      image = a.image;
      kept = a.kept;
      phase_is = a.phase_is;
      spelled = a.spelled;
      spared = unreserved source image serial there unread request.id.slot a.image (inl a.kept) a.reached;
      apart = a.apart;
      reached = a.reached;
      place = a.place;
      call = a.call;
      whole = a.whole;
      bytes = a.bytes;
      stored = a.stored;
      holds = a.holds;
    }
    asked_beside source image serial there unread target (copy.PageWrite plan) page None a = absurd a
    asked_beside source image serial there unread target _ page None a = tt
    asked_beside source image serial there unread target _ page (Some request) a = a

    copying_beside : (at : ℕ) (origin : Source) (made : Copying) → ((k : ℕ) → IsReserved running k → k ≢ at) → ((k : ℕ) → IsReserved running k → IsUnread places (Some origin) k)
        → IsCopyOfSource phases asked bodies last store beliefs None at origin made → IsCopyOfSource phases asked bodies last store beliefs (Some running) at origin made
    unfolding repeating_beside
    copying_beside at origin made target unread m =
        let c = m.copy in
        let s = m.repeats.source in
        record {
          repeats = repeating_beside at origin target unread m.repeats;
          order = m.order;
          copy = record {
            pages = c.pages;
            keeps = c.keeps;
            files = c.files;
            serial = c.serial;
            other = makes_other made.order.serial;
            above = c.above;
            others = c.others;
            phase = c.phase;
            phase_is = c.phase_is;
            belief = c.belief;
            belief_is = c.belief_is;
            request = c.request;
            own = c.own;
            asked_in = asked_beside origin m.repeats.image s.serial (members m.repeats.image (contains_at beliefs s.slot (Kept m.repeats.image) s.kept)) unread
                at made.stage made.taking c.request c.asked_in;
            slot_is = c.slot_is;
          };
        }

    retiring_beside : (r : Retiring) → ((k place : ℕ) (one : Retired) → IsReserved running k → slice_get r.list place ≡ Some one → k ≢ one.slot)
        → IsRetiringOn phases asked bodies store beliefs None r → IsRetiringOn phases asked bodies store beliefs (Some running) r
    retiring_beside r apart m =
        let c = m.closes in
        record {
          alone = m.alone;
          one = m.one;
          there = m.there;
          closes = record {
            phase = c.phase;
            phase_is = c.phase_is;
            belief = c.belief;
            belief_is = c.belief_is;
            unneeded = c.unneeded;
            spared = λ reserved. apart m.one.slot r.ended m.one reserved m.there refl;
            request = c.request;
            own = c.own;
            asked_at = c.asked_at;
            slot_is = c.slot_is;
          };
          before = λ place other behind at. record { bare = (m.before place other behind at).bare; spared = λ reserved. apart other.slot place other reserved at refl };
          later = λ place other after at. (let l = m.later place other after at in record {
            image = l.image;
            has = l.has;
            unneeded = l.unneeded;
            spared = λ reserved. apart other.slot place other reserved at refl;
          });
          apart = m.apart;
        }

    merge_at_beside : (at : ℕ) (origin : Source) (doing : Doing) → ((k : ℕ) → IsReserved running k → k ≢ at)
        → ((k : ℕ) → IsReserved running k → IsUnread places (read_source origin doing) k)
        → ((k place : ℕ) (one : Retired) → IsReserved running k → slice_get (list_in doing) place ≡ Some one → k ≢ one.slot)
        → IsMergeAt phases asked bodies last store beliefs None at origin doing → IsMergeAt phases asked bodies last store beliefs (Some running) at origin doing
    merge_at_beside at origin due target unread listed m = (repeating_beside at origin target unread m.0, m.1)
    merge_at_beside at origin (copying made) target unread listed m = copying_beside at origin made target unread m
    merge_at_beside at origin (opened serial) target unread listed m = absurd m
    merge_at_beside at origin (retiring r) target unread listed m = retiring_beside r listed m

    pub merge_on_beside : (merge : Option merger.Running) → LeavesMerge places running merge
        → IsMergeOn phases asked bodies last store beliefs None merge → IsMergeOn phases asked bodies last store beliefs (Some running) merge
    merge_on_beside None leaves m = m
    merge_on_beside (Some merge) leaves m = merge_at_beside merge.slot merge.source merge.doing (λ k r. (leaves k r).target) (λ k r. read_same merge merge.doing k (leaves k r).source)
        (λ k place one r at. (leaves k r).listed place one at) m

  -- ---- what the work of a merge calls for

  -- what its source's parent names, and what that reaches, is in none of the slots
  module _ (k : ℕ) (i : Image) (has : SlotHasImage beliefs k i) (r : IsReserved running k) where
    by_source : (at : ℕ) (origin : Source) → IsRepeating phases store beliefs None at origin → IsUnread places (Some origin) k
        → (number : ℕ) (start : Image) → Contains store.work number → IsNamed store.catalog number start → Reaches store.catalog i start → ⊥
    by_source at origin m unread number start member names way =
        let s = m.source in
        let is = only number (subst (λ work. Contains work number) s.work member) in
        let o = is_live.opened k i has in
        let there = members m.image (contains_at beliefs s.slot (Kept m.image) s.kept) in
        unread i.header.serial o.0 o.1 o.3 ((reaches store.catalog told origin.serial i.header.serial).1
        (m.image, i, there, sym s.serial, beyond m.image start (subst (λ n. IsNamed store.catalog n start) is names) way, refl))
      where
        only : (n : ℕ) → Contains (m.image.header.parent ∷ []) n → n ≡ m.image.header.parent
        only n (zero, within, same) = sym same
        only n (suc j, within, same) = absurd (omega (arith, within))

    none_by_work : (work : List ℕ) → work ≡ [] → (number : ℕ) → Contains work number → ⊥
    none_by_work work is number member = let within : member.0 < 0 = subst (λ w. member.0 < length w) is member.1 in omega (arith, within)

    work_at : (at : ℕ) (origin : Source) (doing : Doing) → IsUnread places (read_source origin doing) k → IsMergeAt phases asked bodies last store beliefs None at origin doing
        → (number : ℕ) (start : Image) → Contains store.work number → IsNamed store.catalog number start → Reaches store.catalog i start → ⊥
    work_at at origin due unread m number start member names way = by_source at origin m.0 unread number start member names way
    work_at at origin (copying made) unread m number start member names way = by_source at origin m.repeats unread number start member names way
    work_at at origin (opened serial) unread m number start member names way = m
    work_at at origin (retiring ret) unread m number start member names way = none_by_work store.work m.alone.work number member

    pub uncalled_by_work : (merge : Option merger.Running) → LeavesMerge places running merge → IsMergeOn phases asked bodies last store beliefs None merge
        → (number : ℕ) (start : Image) → Contains store.work number → IsNamed store.catalog number start → Reaches store.catalog i start → ⊥
    uncalled_by_work None leaves m number start member names way = none_by_work store.work m.0.work number member
    uncalled_by_work (Some merge) leaves m number start member names way =
        work_at merge.slot merge.source merge.doing (read_same merge merge.doing k (leaves k r).source) m number start member names way
