-- What follows of an outcome of the merger, by its step: where the core is sound before it and after it.
use Rattle.std.proofs.Common.{◌≡◌, ℕ, length, IfSome, Option, Some, None, slice_get, slice_set, refl, sym, ◌∙◌, ap, subst, arith}
use Rattle.std.proofs.lemmas.Option.{same_Some}
use Rattle.sd_chain.specs.Catalog.{IsHeld, IsSoundCatalog, Opened, place_of}
use Rattle.sd_command.specs.declared.refusal.Refusal.TheVariants.{StoreDown}
use Rattle.sd_command.specs.declared.reply.Reply.{Reply}
use Rattle.sd_command.specs.declared.reply.Reply.TheVariants as reply
use Rattle.sd_gate.specs.Calls.{is_done}
use Rattle.sd_gate.specs.Inspections.{nothing}
use Rattle.sd_gate.specs.Phases.{phases_after}
use Rattle.sd_gate.specs.Plans.{begun}
use Rattle.sd_gate.specs.Requests.{Made}
use Rattle.sd_gate.specs.Sequences.{closing_calls}
use Rattle.sd_journal.specs.History.{pending}
use Rattle.sd_merge.specs.declared.merge_progress.MergeProgress.{MergeProgress}
use Rattle.sd_merge.specs.declared.merge_progress.MergeProgress.TheVariants as progress
use Rattle.sd_merge.specs.Merger as merger
use Rattle.sd_merge.specs.Merger.{Doing, HandsAt, Retiring, opened, retiring}
use Rattle.sd_crash_safety.specs.Calls.{AddsByOutcome, HandedIn, IsOut}
use Rattle.sd_crash_safety.specs.DumperOutcomes.{closes_for_sure}
use Rattle.sd_crash_safety.specs.MergerOutcomes.{MergerOutcomes}
use Rattle.sd_crash_safety.specs.declared.standing.Standing.TheVariants.{Down}
use Rattle.sd_crash_safety.specs.View.{CoreView, history_of}
use Rattle.sd_free_slots.specs.Taken.{IsListOf}
use Rattle.sd_core.specs.Entering.{EntersFirst}
use Rattle.sd_core.specs.Kept.{KeepsEach}
use Rattle.sd_core.specs.Lasting.{IsSameMerge, MergeLasts, fixed_in}
use Rattle.sd_core.specs.Merging.{EndsCut, EntersAsCopy, EntersAtRest, FixesItsList, IsMerged, IsMergedImage, IsMore, IsSerialOf, ListsTheUnneeded, OpensMerged, retires_as}
use Rattle.sd_core.specs.Next.{GoesDown, HandsMerge as Takes, MergeEnds, MergeGoesOn, MergedOpens, NextByMergersOutcome, ends, goes_down, goes_on, opens, opens_last}
use Rattle.sd_core.specs.Sound.{IsDoing, Parts, held_for}
use Rattle.sd_core.specs.SoundView.{IsSoundView, parts_in}
use Rattle.sd_core.proofs.CoreParts.{seen_of}
use Rattle.sd_core.proofs.EnteredLemmas.{left_image}
use Rattle.sd_core.proofs.LaneLemmas.{same_lane}
use Rattle.sd_core.proofs.ListLemmas.{ended_cut, none_cut, none_enters, not_copying, not_opened, opened_enters, opened_list, opened_now, opened_rests, opened_retires, still_copies}
use Rattle.sd_core.proofs.MergerHands.{EndsMerge, GoesOnMerge, HandsMerge, ends_handed, goes_on_handed, its_outcome, merge_handed, merged_core, work}
use Rattle.sd_core.proofs.NextOutcomes.{count_stays}
use Rattle.sd_core.proofs.OpenedLemmas.{OpensMerge, beside, image_of, merged_image, opened_core, opened_handed}
use Rattle.sd_core.proofs.OthersLemmas.{keeps_changed, keeps_left, keeps_same}
use Rattle.sd_core.proofs.PreDumpLemmas.{none_held}

-- what is answered where the merged image is open: the merge goes on, or has ended
abbrev pub answer_of : Option ℕ → Reply
answer_of None = reply.Worked
answer_of (Some serial) = reply.Merged serial

-- each case of it, for whatever is said of an answer and the core after it
pub by_merge : (P : Reply → CoreView → Type 0) (old : CoreView) (made : Made) (answer : Reply) (new : CoreView)
    → (MergeGoesOn old made new → P reply.Worked new) → ((ended : Option ℕ) → MergedOpens old made (retires_as ended) new → P (answer_of ended) new)
    → ((serial : ℕ) → MergeEnds old made serial new → P (reply.Merged serial) new)
    → ((it : Takes old made) → GoesDown old made 1 it.phase old.dumper.since_freeze new → P (reply.Refused StoreDown) new)
    → NextByMergersOutcome old made answer new → P answer new
by_merge P old made answer new a b c d (goes_on is step) = subst (λ r. P r new) (sym is) (a step)
by_merge P old made answer new a b c d (opens is step) = subst (λ r. P r new) (sym is) (b None step)
by_merge P old made answer new a b c d (opens_last serial is step) = subst (λ r. P r new) (sym is) (b (Some serial) step)
by_merge P old made answer new a b c d (ends serial is step) = subst (λ r. P r new) (sym is) (c serial step)
by_merge P old made answer new a b c d (goes_down is it step) = subst (λ r. P r new) (sym is) (d it step)

same_serial : (n m : ℕ) → reply.Merged n ≡ reply.Merged m → n ≡ m
same_serial n m is = cc

not_merged : (n : ℕ) → reply.Worked ≡ reply.Merged n → ⊥
not_merged n is = cc

not_told : (n : ℕ) → reply.Refused StoreDown ≡ reply.Merged n → ⊥
not_told n is = cc

module _ (old : CoreView) (sound : IsSoundView old) (made : Made) where
  -- what is known at each
  abbrev known : (it : Takes old made) → HandsMerge (parts_in old sound.room) old made (phases_after old.phases made.request.id it.phase (is_done made.answer)) (slice_set old.outs 1 None)
      (closes_for_sure it.phase made.request.id.call) it.merge
  known it = record {
    sound = sound.is;
    seen_is = refl;
    out = it.out;
    was = it.was;
    running = sound.merges;
    copied = sound.copies;
    makes = sound.orders;
    follows = record { phase = it.phase; is = it.phase_is; count = count_stays old.phases made.request.id it.phase (is_done made.answer); phases = refl; closes = refl };
    outs_are = refl;
  }

  module _ (new : CoreView) (after : IsSoundView new) where
    abbrev more : (g : MergeGoesOn old made new) → GoesOnMerge (parts_in old sound.room) old made (phases_after old.phases made.request.id g.it.phase (is_done made.answer)) (slice_set old.outs 1 None) g.places
        g.progress (Some (record g.it.merge { doing = g.next }))
    more g = record {
      leaves = record { closed = closes_for_sure g.it.phase made.request.id.call; merge = g.it.merge; hands = known g.it; leaves = g.leaves };
      more = g.more;
      doing = g.next;
      goes = g.hands;
      is = refl;
    }

    abbrev ended : (serial : ℕ) (e : MergeEnds old made serial new)
        → EndsMerge (parts_in old sound.room) old made (phases_after old.phases made.request.id e.it.phase (is_done made.answer)) (slice_set old.outs 1 None) e.places serial None
    ended serial e = record {
      leaves = record { closed = closes_for_sure e.it.phase made.request.id.call; merge = e.it.merge; hands = known e.it; leaves = e.leaves };
      ends = record { r = e.r; was = e.doing; next = e.r; hands = e.hands };
      is = refl;
    }

    -- there is room for a list of all slots
    has_room : (done : _) (o : MergedOpens old made done new) → sound.room ≡ length old.phases
    has_room done o = (subst (IsDoing old.phases old.catalog (parts_in old sound.room).numbers sound.room old.dumper.running o.it.merge) o.doing (work (known o.it)).doing).1

    abbrev open_now : (last : Option ℕ) (o : MergedOpens old made (retires_as last) new)
        → OpensMerge (parts_in old sound.room) old made (phases_after old.phases made.request.id o.it.phase (is_done made.answer)) (slice_set old.outs 1 None) o.places 0 o.image last o.rest
    open_now last o = record {
      closed = closes_for_sure o.it.phase made.request.id.call;
      merge = o.it.merge;
      hands = known o.it;
      doing = opened o.image.header.serial;
      goes = subst (λ d. HandsAt d made (progress.Opened o.image) (opened o.image.header.serial)) (sym o.doing) (record { copy = o.copied; hands = o.opens; is = refl });
      before = Some (record o.it.merge { doing = opened o.image.header.serial });
      before_is = refl;
      in_order = subst (λ (v : CoreView). IsSoundCatalog v.catalog) o.new_is after.catalog;
      changes = o.enters;
      fixes = record {
        list = o.list;
        is = subst (λ n. IsListOf o.places old.dumper.running (Some (record o.it.merge { doing = opened o.image.header.serial })) (slice_set old.outs 1 None) n o.list) (sym (has_room (retires_as last) o)) o.is_list;
        retires = o.takes;
      };
    }

    -- the core after a call that failed
    abbrev down : Takes old made → Parts
    down it = record (parts_in old sound.room) {
      journal = record { first = old.base.folded; items = old.items; held = held_for (pending (history_of old)) None old.opener; limit = old.limit; room = 0; mark_room = 0 };
      standing = Down;
      phases = phases_after old.phases made.request.id it.phase (is_done made.answer);
      outs = slice_set old.outs 1 None;
      dumper = record { running = None; since_freeze = old.dumper.since_freeze };
      merger = None;
    }

    down_handed : MergerOutcomes new.catalog → (it : Takes old made) → HandedIn old 1 made (reply.Refused StoreDown) (seen_of (down it))
    down_handed laws it =
        let outcome = its_outcome (known it) (down it) refl refl in
        merge_handed (known it) (down it) (reply.Refused StoreDown) outcome refl
        (laws.fails _ _ made it.phase (record { outcome = outcome; base = refl; history = refl; closed = (work (known it)).closed; down = refl; committing = refl })) refl

    -- the laws, over the catalog that an image entered
    abbrev laws_at : (last : Option ℕ) (o : MergedOpens old made (retires_as last) new) → MergerOutcomes new.catalog → MergerOutcomes o.places
    laws_at last o laws = subst (λ (v : CoreView). MergerOutcomes v.catalog) o.new_is laws

    adds_none : (last : Option ℕ) (o : MergedOpens old made (retires_as last) new) → AddsByOutcome made.request.id.worker (answer_of last) (history_of old) (history_of old)
    adds_none None o = refl
    adds_none (Some serial) o = refl

    -- what is believed of the store stays
    believed : MergerOutcomes new.catalog → (answer : Reply) → NextByMergersOutcome old made answer new → HandedIn old 1 made answer new
    believed laws answer = by_merge (λ a v. HandedIn old 1 made a v) old made answer new
        (λ g. subst (HandedIn old 1 made reply.Worked) (sym g.new_is) (goes_on_handed (more g) laws))
        (λ last o. subst (HandedIn old 1 made (answer_of last)) (sym o.new_is) (opened_handed (open_now last o) (laws_at last o laws) (answer_of last) (adds_none last o)))
        (λ serial e. subst (HandedIn old 1 made (reply.Merged serial)) (sym e.new_is) (ends_handed (ended serial e) laws))
        (λ it d. subst (HandedIn old 1 made (reply.Refused StoreDown)) (sym d.new_is) (down_handed laws it))

    out_at_one : (answer : Reply) → NextByMergersOutcome old made answer new → slice_get old.outs 1 ≡ Some (Some made.request.id)
    out_at_one answer = by_merge (λ a v. slice_get old.outs 1 ≡ Some (Some made.request.id)) old made answer new (λ g. g.it.out) (λ last o. o.it.out) (λ serial e. e.it.out) (λ it d. it.out)

    pub merge_handed_out : MergerOutcomes new.catalog → (answer : Reply) → NextByMergersOutcome old made answer new → (out : IsOut old made.request.id) → HandedIn old out.lane made answer new
    merge_handed_out laws answer step out =
        subst (λ lane. HandedIn old lane made answer new) (same_lane (parts_in old sound.room) 1 out.lane made.request.id sound.is (out_at_one answer step) out.is) (believed laws answer step)

    -- no image changes under its serial
    pub merge_images : (answer : Reply) → NextByMergersOutcome old made answer new → KeepsEach old.catalog new.catalog
    merge_images answer = by_merge (λ a v. KeepsEach old.catalog v.catalog) old made answer new
        (λ g. subst (λ (v : CoreView). KeepsEach old.catalog v.catalog) (sym g.new_is) (keeps_left (closes_for_sure g.it.phase made.request.id.call) made.request.id.slot old.catalog g.places g.leaves))
        (λ last o. subst (λ (v : CoreView). KeepsEach old.catalog v.catalog) (sym o.new_is)
        (keeps_changed old.catalog o.places o.image.header.serial (Some (Some (image_of o.image))) o.enters (λ one there. none_here last o one there)))
        (λ serial e. subst (λ (v : CoreView). KeepsEach old.catalog v.catalog) (sym e.new_is) (keeps_left (closes_for_sure e.it.phase made.request.id.call) made.request.id.slot old.catalog e.places e.leaves))
        (λ it d. subst (λ (v : CoreView). KeepsEach old.catalog v.catalog) (sym d.new_is) (keeps_same old.catalog old.catalog refl))
      where
        none_here : (last : Option ℕ) (o : MergedOpens old made (retires_as last) new) (one : Opened) → place_of old.catalog o.image.header.serial ≡ Some (Some one) → ⊥
        none_here last o one there = none_held old.catalog o.image.header.serial one
            (subst (IsHeld old.catalog) (sym (beside (open_now last o)).header.serial) (beside (open_now last o)).works.held) there

    -- ---- the image that enters, and the list of those to close

    -- none does, where its place stays held
    none_more : (g : MergeGoesOn old made new) (merge : merger.Running) (serial : ℕ) → OpensMerged merge serial old new → ⊥
    none_more g merge serial o = none_enters (more g).leaves merge serial (subst (OpensMerged merge serial old) g.new_is o)

    none_ended : (last : ℕ) (e : MergeEnds old made last new) (merge : merger.Running) (serial : ℕ) → OpensMerged merge serial old new → ⊥
    none_ended last e merge serial o = none_enters (ended last e).leaves merge serial (subst (OpensMerged merge serial old) e.new_is o)

    none_down : (it : Takes old made) → GoesDown old made 1 it.phase old.dumper.since_freeze new → (merge : merger.Running) (serial : ℕ) → OpensMerged merge serial old new → ⊥
    none_down it d merge serial o = not_opened (parts_in old sound.room) old new sound.is refl (λ n held. subst (λ (v : CoreView). IsHeld v.catalog n) (sym d.new_is) held) merge serial o

    abbrev enters_as : (last : Option ℕ) (o : MergedOpens old made (retires_as last) new) (merge : merger.Running) (serial : ℕ) → OpensMerged merge serial old new
        → OpensMerged merge serial old (seen_of (opened_core (open_now last o)))
    enters_as last o merge serial = subst (OpensMerged merge serial old) o.new_is

    pub merge_opens : (answer : Reply) → NextByMergersOutcome old made answer new → EntersFirst old answer new
    merge_opens answer = by_merge (λ a v. EntersFirst old a v) old made answer new
        (λ g. subst (EntersFirst old reply.Worked) (sym g.new_is) (λ merge copy was copies none other. absurd (still_copies (more g) merge copy was copies none)))
        (λ last o. subst (EntersFirst old (answer_of last)) (sym o.new_is) (λ merge copy was copies none other. opened_now (open_now last o) merge copy was copies))
        (λ serial e merge copy was copies none other. absurd (not_copying (ended serial e) merge copy was copies))
        (λ it d merge copy was copies none other. absurd (other refl))

    pub merge_lists : (answer : Reply) → NextByMergersOutcome old made answer new → FixesItsList old new
    merge_lists answer = by_merge (λ a v. FixesItsList old v) old made answer new
        (λ g merge serial o. absurd (none_more g merge serial o))
        (λ last o. subst (FixesItsList old) (sym o.new_is) (opened_list (open_now last o)))
        (λ last e merge serial o. absurd (none_ended last e merge serial o))
        (λ it d merge serial o. absurd (none_down it d merge serial o))

    pub merge_retires : MergerOutcomes new.catalog → (answer : Reply) → NextByMergersOutcome old made answer new → ListsTheUnneeded old made.request new
    merge_retires laws answer = by_merge (λ a v. ListsTheUnneeded old made.request v) old made answer new
        (λ g merge serial bodies o b. absurd (none_more g merge serial o))
        (λ last o. subst (ListsTheUnneeded old made.request) (sym o.new_is) (opened_retires (open_now last o) (laws_at last o laws)))
        (λ last e merge serial bodies o b. absurd (none_ended last e merge serial o))
        (λ it d merge serial bodies o b. absurd (none_down it d merge serial o))

    pub merge_copies : MergerOutcomes new.catalog → (answer : Reply) → NextByMergersOutcome old made answer new → EntersAsCopy old made.request new
    merge_copies laws answer = by_merge (λ a v. EntersAsCopy old made.request v) old made answer new
        (λ g merge serial bodies o b. absurd (none_more g merge serial o))
        (λ last o. subst (EntersAsCopy old made.request) (sym o.new_is) (opened_enters (open_now last o) (laws_at last o laws)))
        (λ last e merge serial bodies o b. absurd (none_ended last e merge serial o))
        (λ it d merge serial bodies o b. absurd (none_down it d merge serial o))

    pub merge_rests : MergerOutcomes new.catalog → (answer : Reply) → NextByMergersOutcome old made answer new → EntersAtRest old made.request new
    merge_rests laws answer = by_merge (λ a v. EntersAtRest old made.request v) old made answer new
        (λ g merge serial bodies o b. absurd (none_more g merge serial o))
        (λ last o. subst (EntersAtRest old made.request) (sym o.new_is) (opened_rests (open_now last o) (laws_at last o laws)))
        (λ last e merge serial bodies o b. absurd (none_ended last e merge serial o))
        (λ it d merge serial bodies o b. absurd (none_down it d merge serial o))

    -- ---- the merge that goes on

    same_merge : (merge : merger.Running) (now : Doing) → IfSome (fixed_in merge.doing) (λ list. fixed_in now ≡ Some list) → IfSome (fixed_in now) (λ list. IsSerialOf merge.doing list.0)
        → (running : Option merger.Running) → old.merger ≡ Some merge → running ≡ Some (record merge { doing = now })
        → (one next : merger.Running) → old.merger ≡ Some one → running ≡ Some next → IsSameMerge one next
    same_merge merge now fixed behind running was is one next one_was next_is =
        subst (λ m. IsSameMerge m next) (same_Some merge one (sym was ∙ one_was))
        (subst (IsSameMerge merge) (same_Some (record merge { doing = now }) next (sym is ∙ next_is)) (record { source = refl; slot = refl; before = refl; fixed = fixed; behind = behind }))

    goes_on_fixed : (was now : Doing) (done : MergeProgress) → IsMore done → HandsAt was made done now → IfSome (fixed_in was) (λ list. fixed_in now ≡ Some list) × IfSome (fixed_in now) (λ list. IsSerialOf was list.0)
    goes_on_fixed was now done more hands = grind arith

    pub merge_lasts : (answer : Reply) → NextByMergersOutcome old made answer new → MergeLasts old new
    merge_lasts answer = by_merge (λ a v. MergeLasts old v) old made answer new
        (λ g.
        let f = goes_on_fixed g.it.merge.doing g.next g.progress g.more g.hands in
        subst (MergeLasts old) (sym g.new_is) (same_merge g.it.merge g.next f.0 f.1 _ g.it.was refl))
        (λ last o. subst (MergeLasts old) (sym o.new_is) (opened_lasts last o))
        (λ last e. subst (MergeLasts old) (sym e.new_is) (λ merge next was is. absurd (let no : None ≡ Some next = is in cc)))
        (λ it d. subst (MergeLasts old) (sym d.new_is) (λ merge next was is. absurd (let no : None ≡ Some next = is in cc)))
      where
        one_serial : (a b : ℕ) → opened a ≡ opened b → a ≡ b
        one_serial a b e = cc

        opened_lasts : (last : Option ℕ) (o : MergedOpens old made (retires_as last) new) → (one next : merger.Running) → old.merger ≡ Some one → o.rest ≡ Some next → IsSameMerge one next
        opened_lasts (Some last) o = λ one next was is. absurd (let no : None ≡ Some next = sym o.takes.is ∙ is in cc)
        opened_lasts None o =
            let same = same_Some (record o.it.merge { doing = opened o.image.header.serial }) o.takes.running o.takes.was in
            let serial : o.takes.serial ≡ o.image.header.serial = one_serial o.takes.serial o.image.header.serial (sym o.takes.opened ∙ ap (λ (m : merger.Running). m.doing) (sym same)) in
            let r : Retiring = record { serial = o.takes.serial; list = o.list; ended = 0; plan = begun o.takes.first.slot closing_calls nothing } in
            same_merge o.it.merge (retiring r) (subst (λ d. IfSome (fixed_in d) (λ list. fixed_in (retiring r) ≡ Some list)) (sym o.doing) tt)
            (subst (λ d. IsSerialOf d o.takes.serial) (sym (beside (open_now None o)).was) (serial ∙ (beside (open_now None o)).header.serial)) _ o.it.was
            (o.takes.is ∙ ap (λ (m : merger.Running). Some (record m { doing = retiring r })) (sym same))

    -- ---- the end of the merge

    pub merge_cuts : MergerOutcomes new.catalog → (answer : Reply) → NextByMergersOutcome old made answer new → (serial : ℕ) → answer ≡ reply.Merged serial → EndsCut old made.request new
    merge_cuts laws answer step serial = by_merge (λ a v. a ≡ reply.Merged serial → EndsCut old made.request v) old made answer new
        (λ g is. absurd (not_merged serial is))
        (λ last o is. subst (EndsCut old made.request) (sym o.new_is) (λ bodies b. none_cut (open_now last o)))
        (λ last e is. subst (EndsCut old made.request) (sym e.new_is) (ended_cut (ended last e) laws))
        (λ it d is. absurd (not_told serial is)) step

    pub merge_merged : (answer : Reply) → NextByMergersOutcome old made answer new → (serial : ℕ) → answer ≡ reply.Merged serial → IsMerged serial old new
    merge_merged answer step serial = by_merge (λ a v. a ≡ reply.Merged serial → IsMerged serial old v) old made answer new
        (λ g is. absurd (not_merged serial is))
        (λ last o is. subst (IsMerged serial old) (sym o.new_is) (opened_as last o is))
        (λ last e is. subst (IsMerged serial old) (sym e.new_is) (ended_as last e (same_serial last serial is)))
        (λ it d is. absurd (not_told serial is)) step
      where
        number : (last : ℕ) (o : MergedOpens old made (progress.Merged last) new) → reply.Merged last ≡ reply.Merged serial → o.image.header.serial ≡ serial
        number last o is = same_Some o.image.header.serial last o.takes.awaited ∙ same_serial last serial is

        opened_as : (last : Option ℕ) (o : MergedOpens old made (retires_as last) new) → answer_of last ≡ reply.Merged serial → IsMerged serial old (seen_of (opened_core (open_now last o)))
        opened_as None o is = absurd (not_merged serial is)
        opened_as (Some last) o is = record {
          merge = o.it.merge;
          was = o.it.was;
          image = subst (IsMergedImage o.it.merge o.places) (number last o is) (merged_image (open_now (Some last) o));
          own = subst (λ d. IsSerialOf d serial) (sym (beside (open_now (Some last) o)).was) (sym (number last o is) ∙ (beside (open_now (Some last) o)).header.serial);
        }

        ended_as : (last : ℕ) (e : MergeEnds old made last new) → last ≡ serial
            → IsMerged serial old (seen_of (merged_core (parts_in old sound.room) (phases_after old.phases made.request.id e.it.phase (is_done made.answer)) (slice_set old.outs 1 None) e.places sound.room None))
        ended_as last e is =
            let d = subst (IsDoing old.phases old.catalog (parts_in old sound.room).numbers sound.room old.dumper.running e.it.merge) e.doing (work (known e.it)).doing in
            let own : e.r.serial ≡ serial = sym e.hands.1.number ∙ is in
            record {
              merge = e.it.merge;
              was = e.it.was;
              image = subst (IsMergedImage e.it.merge e.places) own (record {
                image = d.image.image;
                there = left_image (closes_for_sure e.it.phase made.request.id.call) made.request.id.slot old.catalog e.places e.r.serial d.image.image e.leaves
                    (λ same. d.elsewhere made.request.id e.hands.0.done.out (sym same ∙ d.image.slot)) d.image.there;
                slot = d.image.slot;
                kind = d.image.kind;
                own = d.image.own;
                stands = d.image.stands;
                checkpoint = d.image.checkpoint;
                parent = d.image.parent;
              });
              own = subst (λ d. IsSerialOf d serial) (sym e.doing) (sym own);
            }
