-- The merged image is open, and the list of the images to close is fixed.
use Rattle.std.proofs.Common.{◌≡◌, ◌≢◌, ℕ, ◌<◌, Bool, if◌then◌else◌, List, ◌∷◌, length, IfSome, Contains, Option, Some, None, slice_get, refl, sym, ◌∙◌, ap, subst, inl, inr, arith}
use Rattle.std.proofs.lemmas.Bool.{eq-eqb}
use Rattle.std.proofs.lemmas.Option.{same_Some}
use Rattle.sd_image.proofs.Members.{contains_at}
use Rattle.sd_chain.specs.Catalog.{Changes, IsHeld, IsSoundCatalog, Opened, Places, place_of}
use Rattle.sd_chain.specs.Reaches.{ParentsFall}
use Rattle.sd_command.specs.declared.reply.Reply.{Reply}
use Rattle.sd_gate.specs.declared.phase.Phase.{Phase}
use Rattle.sd_gate.specs.declared.request_id.RequestId.{RequestId}
use Rattle.sd_gate.specs.Inspections.{nothing}
use Rattle.sd_gate.specs.Plans.{begun}
use Rattle.sd_gate.specs.Requests.{Made}
use Rattle.sd_gate.specs.Sequences.{closing_calls}
use Rattle.sd_journal.specs.Marked.{entries_of}
use Rattle.sd_merge.specs.declared.copy_order.CopyOrder.{CopyOrder}
use Rattle.sd_merge.specs.declared.merge_progress.MergeProgress.TheVariants as progress
use Rattle.sd_merge.specs.declared.retired.Retired.{Retired}
use Rattle.sd_merge.specs.Copying.{Copying, IsSoundCopying, Opens}
use Rattle.sd_merge.specs.Merger as merger
use Rattle.sd_merge.specs.Merger.{AreRunning, Doing, HandsAt, HasSoundCopy, HasSoundCopyIn, IsRunningAt, TakesList, Retiring, due, copying, opened, retiring}
use Rattle.sd_writing.specs.declared.new_image.NewImage.{NewImage}
use Rattle.sd_rounds.specs.Dumper.{Running, out_of_running, writes_of_running}
use Rattle.sd_rounds.specs.Making.{Making}
use Rattle.sd_crash_safety.specs.Calls.{AddsByOutcome, HandedIn}
use Rattle.sd_crash_safety.specs.MergerOutcomes.{MayRetire, MergedOpens, MergerOutcomes}
use Rattle.sd_crash_safety.specs.MergerSteps.{IsUncalled}
use Rattle.sd_crash_safety.specs.Merges.{IsOtherImage, MakesOther}
use Rattle.sd_crash_safety.specs.View.{CoreView}
use Rattle.sd_free_slots.specs.Taken.{IsLeftOver, IsListOf, NamesParent}
use Rattle.sd_core.specs.Merging.{FixesList, IsMergedImage, opened_merge, retires_as}
use Rattle.sd_core.specs.Sound.{CheckpointsAreCounted, ClosesWithHeader, IsCopyOf, IsCore, IsDoing, IsMergedHeader, MergeRuns, Parts, serials_to_come}
use Rattle.sd_core.proofs.BesideLemmas.{LeavesWork, core_beside}
use Rattle.sd_core.proofs.EnteredLemmas.{entered_held, entered_image}
use Rattle.sd_core.proofs.CoreParts.{seen_of}
use Rattle.sd_core.proofs.MergerHands.{HandsMerge, its_outcome, merge_handed, merged_core, only_merges, outs_then, work}
use Rattle.sd_core.proofs.OutcomeLemmas.{counted_opened}
use Rattle.sd_core.proofs.OwnLemmas.{spared_of}
use Rattle.sd_core.proofs.SlotLemmas.{reached_at}
use Rattle.sd_core.proofs.WorkLemmas.{at_work}

abbrev pub image_of : NewImage → Opened
image_of image = record { slot = image.slot; header = image.header; spaces = image.table }

-- ---- the outcome

-- an outcome of the merger's call with which the merged image is open, and the list of the images to close is fixed
pub record OpensMerge (core : Parts) (seen : CoreView) (made : Made) (phases : List Phase)
    (outs : List (Option RequestId)) (places : Places) (room : ℕ) (image : NewImage) (ended : Option ℕ)
    (now : Option merger.Running) : Type 0 where
  pub closed : Bool
  pub merge : merger.Running
  pub hands : HandsMerge core seen made phases outs closed merge
  pub doing : Doing
  pub goes : HandsAt merge.doing made (progress.Opened image) doing
  pub before : Option merger.Running
  pub before_is : before ≡ Some (record merge { doing = doing })
  pub in_order : IsSoundCatalog places
  pub changes : Changes core.places places image.header.serial (Some (Some (image_of image)))
  pub fixes : FixesList places core.dumper.running outs core.room before ended now

-- the image that was in the making
pub record OpensBeside (core : Parts) (merge : merger.Running) (made : Made) (image : NewImage) (doing : Doing) : Type 0 where
  pub copy : Copying
  pub was : merge.doing ≡ copying copy
  pub opens : Opens copy made image
  pub is : doing ≡ opened image.header.serial
  pub header : IsMergedHeader copy.order image.header
  pub order : copy.order ≡ merger.order_of merge copy.order.serial copy.order.state
  pub sound : IsSoundCopying copy
  pub works : IsCopyOf core.places core.numbers core.dumper.running copy
  pub room : core.room ≡ length core.phases

module _ {core : Parts} {seen : CoreView} {made : Made} {phases : List Phase} {outs : List (Option RequestId)}
    {places : Places} {room : ℕ} {image : NewImage} {ended : Option ℕ} {now : Option merger.Running}
    (o : OpensMerge core seen made phases outs places room image ended now) where
  -- the core after it
  abbrev pub opened_core : Parts
  opened_core = merged_core core phases outs places room now

  pub beside : OpensBeside core o.merge made image o.doing
  beside = by o.merge.doing refl (subst AreRunning o.hands.was o.hands.running) (subst HasSoundCopy o.hands.was o.hands.copied) o.goes
    where
      by : (was : Doing) → o.merge.doing ≡ was → IsRunningAt o.merge was → HasSoundCopyIn was → HandsAt was made (progress.Opened image) o.doing → OpensBeside core o.merge made image o.doing
      by due was order good hands = absurd hands
      by (copying copy) was order good hands =
          let d = subst (IsDoing core.phases core.places core.numbers core.room core.dumper.running o.merge) was (work o.hands).doing in
          record {
            copy = copy;
            was = was;
            opens = hands.hands;
            is = hands.is;
            header = subst (ClosesWithHeader copy.order) hands.hands.was d.0.header;
            order = order;
            sound = good;
            works = d.0;
            room = d.1;
          }
      by (opened serial) was order good hands = absurd hands
      by (retiring r) was order good hands = absurd hands.hands

  pub merged_image : IsMergedImage o.merge places image.header.serial
  merged_image = record {
    image = image_of image;
    there = o.changes image.header.serial ∙ ap (λ b. if b then Some (Some (image_of image)) else place_of core.places image.header.serial) (eq-eqb image.header.serial image.header.serial refl);
    slot = beside.opens.slot ∙ ap (λ (k : CopyOrder). k.slot) beside.order;
    kind = beside.header.kind;
    own = refl;
    stands = beside.header.stands ∙ ap (λ (k : CopyOrder). k.source.stands_for) beside.order;
    checkpoint = beside.header.checkpoint ∙ ap (λ (k : CopyOrder). k.source.checkpoint) beside.order;
    parent = beside.header.parent;
  }

  opened_was : o.before ≡ Some (opened_merge o.merge image.header.serial)
  opened_was = o.before_is ∙ ap (λ d. Some (record o.merge { doing = d })) beside.is

  -- ---- the list

  pub fixed : IsListOf places core.dumper.running (Some (opened_merge o.merge image.header.serial)) outs core.room o.fixes.list
  fixed = subst (λ k. IsListOf places core.dumper.running k outs core.room o.fixes.list) opened_was o.fixes.is

  may_retire : (place : ℕ) (one : Retired) → slice_get o.fixes.list place ≡ Some one → MayRetire places (seen_of core) one
  may_retire place one at = record {
    opened = left.image;
    there = left.there;
    slot = left.at;
    free = λ worker id out same. left.spared (inr (inr (inr (record { worker = worker; id = id; out = ap (λ all. slice_get all worker) o.hands.outs_are ∙ out; at = same }))));
    spared = spared_of core.dumper.running one.slot (λ has. left.spared (inl has));
    unreached = λ falls other it tip there here tip_is reaches. fixed.unneeded falls one member
        (record { root = tip.header.serial; is = inl (record { tip = tip; is = tip_is; own = refl }); at = reached_at places tip.header.serial other one.slot it o.in_order there here reaches });
    uncalled = λ falls. uncalled falls core.dumper.running refl;
  }
    where
      member : Contains o.fixes.list one
      member = contains_at o.fixes.list place one at

      left : IsLeftOver places core.dumper.running (Some (opened_merge o.merge image.header.serial)) outs one
      left = (fixed.each one member).1

      uncalled : ParentsFall places → (running : Option Running) → core.dumper.running ≡ running → IsUncalled places running one.slot
      uncalled falls None runs = tt
      uncalled falls (Some running) runs = λ other it start there here names reaches. fixed.unneeded falls one member (record {
        root = start.header.serial;
        is = inr (inl (record { start = start; names = subst (λ r. NamesParent places r start) (sym runs) names; own = refl }));
        at = reached_at places start.header.serial other one.slot it o.in_order there here reaches;
      })

  -- ---- the core

  -- the checkpoint beside it
  opened_work : (next : Option merger.Running) → serials_to_come next ≡ 0 → LeavesWork core places core.numbers next
  opened_work next none = record {
    begun = refl;
    given = omega arith;
    checkpoint = refl;
    above = o.hands.sound.numbers_are.serials;
    serials = λ running runs. (let before = (at_work core running o.hands.sound runs).serials in omega (arith, before, none));
    held = λ running other runs making held. entered_held core.places places image.header.serial (Some (Some (image_of image))) other.order.serial o.changes
        (λ same. differs running other runs making (sym same ∙ beside.header.serial)) held;
    stay = λ serial other there has. entered_image core.places places image.header.serial (Some (Some (image_of image))) serial other o.changes
        (subst (IsHeld core.places) (sym beside.header.serial) beside.works.held) there;
  }
    where
      differs : (running : Running) (other : Making) → core.dumper.running ≡ Some running → running.image ≡ Some other → other.order.serial ≢ beside.copy.order.serial
      differs running other runs making = subst (λ i. IsOtherImage i beside.copy.order.serial) making (subst (λ r. MakesOther r beside.copy.order.serial) runs beside.works.other)

  begins_list : (r : Retiring) → r.list ≡ o.fixes.list → r.serial ≡ image.header.serial → r.plan.out ≡ None
      → MergeRuns core.standing phases places core.opener core.numbers room core.dumper.running (record o.merge { doing = retiring r })
  begins_list r is_list serial rests =
      let m = work o.hands in
      let i = merged_image in
      record {
        stands = m.stands;
        closed = m.closed;
        within = subst (λ n. o.merge.slot < n) (sym o.hands.follows.count) m.within;
        spared = m.spared;
        counted = m.counted;
        asks = λ id out. absurd (let no : None ≡ Some id = sym rests ∙ out in cc);
        syncs = λ id out. absurd (let no : None ≡ Some id = sym rests ∙ out in cc);
        doing = record {
          image = record {
            image = i.image;
            there = ap (place_of places) serial ∙ i.there;
            slot = i.slot;
            kind = i.kind;
            own = i.own ∙ sym serial;
            stands = i.stands;
            checkpoint = i.checkpoint;
            parent = i.parent;
          };
          elsewhere = λ id out. absurd (let no : None ≡ Some id = sym rests ∙ out in cc);
          each = λ place one at. let found = fixed.each one (contains_at o.fixes.list place one (ap (λ all. slice_get all place) (sym is_list) ∙ at)) in record {
            within = subst (λ n. one.slot < n) (beside.room ∙ sym o.hands.follows.count) found.0;
            spared = λ has. found.1.spared (inl has);
            apart = λ same. found.1.spared (inr (inl (ap Some (sym same))));
          };
          rises = λ place other a b below one two. fixed.rises place other a b below (ap (λ all. slice_get all place) (sym is_list) ∙ one) (ap (λ all. slice_get all other) (sym is_list) ∙ two);
        };
      }

  pub core_opened : IsCore opened_core
  core_opened = by ended o.fixes.retires
    where
      counted : CheckpointsAreCounted core.numbers places
      counted = counted_opened core.numbers core.places places image.header.serial (image_of image) o.changes
          (let below = (work o.hands).counted in let same = beside.header.checkpoint ∙ ap (λ (k : CopyOrder). k.source.checkpoint) beside.order in omega (arith, below, same)) o.hands.sound.counted

      opened_as : (a b : ℕ) → opened a ≡ opened b → a ≡ b
      opened_as a b e = cc

      with_merge : (next : Option merger.Running) → now ≡ next → serials_to_come next ≡ 0 → merger.out_of_merge next ≡ None
          → IfSome next (MergeRuns core.standing phases places core.opener core.numbers room core.dumper.running) → IsCore opened_core
      with_merge next is none rests merging = subst (λ k. IsCore (merged_core core phases outs places room k)) (sym is)
          (core_beside core outs phases places room core.numbers next o.hands.sound (work o.hands).stands (work o.hands).closed o.hands.follows.count (opened_work next none) counted
          (outs_then o.hands ∙ ap (λ out. out_of_running core.dumper.running ∷ out ∷ None ∷ writes_of_running core.dumper.running) (sym rests))
          (λ other at. absurd (let no : None ≡ Some other = sym rests ∙ at in cc)) (λ other at. absurd (let no : None ≡ Some other = sym rests ∙ at in cc)) merging)

      by : (ended : Option ℕ) → TakesList o.before o.fixes.list (retires_as ended) now → IsCore opened_core
      by None b =
          let same : opened_merge o.merge image.header.serial ≡ b.running = same_Some (opened_merge o.merge image.header.serial) b.running (sym opened_was ∙ b.was) in
          let serial = opened_as b.serial image.header.serial (sym b.opened ∙ ap (λ (k : merger.Running). k.doing) (sym same)) in
          let r : Retiring = record { serial = b.serial; list = o.fixes.list; ended = 0; plan = begun b.first.slot closing_calls nothing } in
          with_merge (Some (record o.merge { doing = retiring r })) (b.is ∙ ap (λ (k : merger.Running). Some (record k { doing = retiring r })) (sym same)) refl refl (begins_list r refl serial refl)
      by (Some serial) retires = with_merge None retires.is refl refl tt

  -- ---- what is believed

  pub merged_opens : MergedOpens places (seen_of core) o.merge beside.copy made o.hands.follows.phase image o.fixes.list (retires_as ended) (seen_of opened_core)
  merged_opens = record {
    outcome = its_outcome o.hands opened_core refl refl;
    rest = only_merges o.hands places room now;
    serial = refl;
    held = beside.works.held;
    catalog = subst (λ n. Changes core.places places n (Some (Some (image_of image)))) beside.header.serial o.changes;
    its_catalog = refl;
    was = o.hands.was;
    doing = beside.was;
    sound = beside.sound;
    opens = beside.opens;
    listed = record {
      each = may_retire;
      apart = λ place other a b below one two same. (let rises = fixed.rises place other a b below one two in omega (arith, rises, same));
    };
    retires = subst (λ k. TakesList k o.fixes.list (retires_as ended) now) (opened_was ∙ ap (λ n. Some (opened_merge o.merge n)) beside.header.serial) o.fixes.retires;
  }

  pub opened_handed : MergerOutcomes places → (answer : Reply) → AddsByOutcome made.request.id.worker answer (entries_of core.journal.items) (entries_of core.journal.items)
      → HandedIn seen 1 made answer (seen_of opened_core)
  opened_handed laws answer adds = merge_handed o.hands opened_core answer (its_outcome o.hands opened_core refl refl) refl
      (laws.opens (seen_of core) (seen_of opened_core) o.merge beside.copy made o.hands.follows.phase image o.fixes.list (retires_as ended) merged_opens) adds
