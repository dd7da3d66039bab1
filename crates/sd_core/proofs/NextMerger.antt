-- A step and an outcome of the merger are each one of the steps of a core.
use Rattle.std.proofs.Common.{◌≡◌, ◌⊎◌, ℕ, ◌+◌, Bool, true, false, List, Option, Some, None, slice_get, slice_set, refl, sym, ◌∙◌, ap, subst, inl, inr}
use Rattle.sd_chain.specs.Catalog.{Places}
use Rattle.sd_command.specs.declared.refusal.Refusal.TheVariants.{StoreDown}
use Rattle.sd_command.specs.declared.reply.Reply.{Reply}
use Rattle.sd_command.specs.declared.reply.Reply.TheVariants as reply
use Rattle.sd_gate.specs.declared.phase.Phase.{Phase}
use Rattle.sd_gate.specs.declared.request_id.RequestId.{RequestId}
use Rattle.sd_gate.specs.declared.worker.Worker.TheVariants.{Merger}
use Rattle.sd_gate.specs.Calls.{is_done}
use Rattle.sd_gate.specs.Requests.{Asked, Made}
use Rattle.sd_journal.specs.History.{pending}
use Rattle.sd_journal.specs.Kept.{JournalView}
use Rattle.sd_journal.specs.Marked.{entries_of}
use Rattle.sd_merge.specs.declared.merge_progress.MergeProgress.{MergeProgress}
use Rattle.sd_merge.specs.declared.merge_step.MergeStep.{MergeStep}
use Rattle.sd_merge.specs.Merger as merger
use Rattle.sd_merge.specs.Merger.{TakesList, opened}
use Rattle.sd_free_slots.specs.Taken.{IsListOf}
use Rattle.sd_writing.specs.declared.new_image.NewImage.{NewImage}
use Rattle.sd_rounds.specs.Dumper.{Dumping}
use Rattle.sd_crash_safety.specs.DumperOutcomes.{LeavesCatalog}
use Rattle.sd_crash_safety.specs.View.{CoreView}
use Rattle.sd_core.specs.declared.numbers.Numbers.{Numbers}
use Rattle.sd_core.specs.declared.taken.Taken.{Taken}
use Rattle.sd_core.specs.declared.taken.Taken.TheVariants as taken
use Rattle.sd_core.specs.Flags.{numbers_asked, ticket_after}
use Rattle.sd_core.specs.Merging.{IsStepOf, retires_as}
use Rattle.sd_core.specs.Next.{AsksMerge, HandsMerge as Takes, MergedOpens, NextByMerger, NextByMergersOutcome, asks, ends, goes_down, goes_on, opens, opens_last, writes, writes_table}
use Rattle.sd_core.specs.Refusals.{work_refusal}
use Rattle.sd_core.specs.Sound.{Parts, held_for}
use Rattle.sd_core.proofs.CoreParts.{seen_of}
use Rattle.sd_core.proofs.MergerCalls.{IsCallOf}
use Rattle.sd_core.proofs.MergerHands.{EndsMerge, GoesOnMerge, HandsMerge, merged_core, work}
use Rattle.sd_core.proofs.NextHands.{down_seen}
use Rattle.sd_core.proofs.OpenedLemmas.{OpensMerge, beside}
use Rattle.sd_core.proofs.WorkLemmas.{SameNumbers}

-- ---- a step

pub merger_seen : (inside now : CoreView) (made : Taken) (new : CoreView) → inside ≡ now → NextByMerger inside made new → NextByMerger now made new
merger_seen inside now made new same = subst (λ v. NextByMerger v made new) same

-- the merged image began
pub begun_copy_seen : (core : Parts) (outs now : List (Option RequestId)) (places : Places) (merge next : Option merger.Running) (numbers : Numbers) → outs ≡ now → merge ≡ next
    → numbers.begun ≡ core.numbers.begun → numbers.given ≡ core.numbers.serial + 1 → numbers.checkpoint ≡ core.numbers.checkpoint → numbers.serial ≡ core.numbers.serial + 1
    → numbers.ticket ≡ ticket_after core.numbers.ticket
    → seen_of (record core { outs = outs; places = places; merger = merge; numbers = numbers })
    ≡ record (seen_of core) { outs = now; catalog = places; merger = next; numbers = numbers_asked true (seen_of core).numbers }
begun_copy_seen core outs now places merge next numbers o m b g c s t = cc

-- a call is asked for
asked_seen : (core : Parts) (outs now : List (Option RequestId)) (merge next : Option merger.Running) (numbers : Numbers) → outs ≡ now → merge ≡ next
    → numbers.begun ≡ core.numbers.begun → numbers.given ≡ core.numbers.given → numbers.checkpoint ≡ core.numbers.checkpoint → numbers.serial ≡ core.numbers.serial
    → numbers.ticket ≡ ticket_after core.numbers.ticket
    → seen_of (record core { outs = outs; merger = merge; numbers = numbers }) ≡ record (seen_of core) { outs = now; merger = next; numbers = numbers_asked false (seen_of core).numbers }
asked_seen core outs now merge next numbers o m b g c s t = cc

module _ (core : Parts) (step : MergeStep) (merge : Option merger.Running) (s : IsStepOf core.numbers.ticket core.places core.merger step merge) (may : work_refusal (seen_of core) Merger ≡ None) where
  pub asks_merge : (request : Asked) (outs : List (Option RequestId)) (numbers : Numbers) → outs ≡ slice_set core.outs 1 (Some request.id) → SameNumbers core.numbers numbers
      → numbers.ticket ≡ ticket_after core.numbers.ticket → AsksMerge (seen_of core) step request (seen_of (record core { outs = outs; merger = merge; numbers = numbers }))
  asks_merge request outs numbers are same ticket = record {
    it = record { may = may; merge = s.merge; was = s.was; next = s.doing; steps = s.steps };
    new_is = asked_seen core outs _ merge (Some (record s.merge { doing = s.doing })) numbers are s.is same.begun same.given same.checkpoint same.serial ticket;
  }

  -- one that is no read
  pub calls_merge : (request : Asked) (outs : List (Option RequestId)) (numbers : Numbers) → IsCallOf step request → outs ≡ slice_set core.outs 1 (Some request.id) → SameNumbers core.numbers numbers
      → numbers.ticket ≡ ticket_after core.numbers.ticket → NextByMerger (seen_of core) (taken.Call request) (seen_of (record core { outs = outs; merger = merge; numbers = numbers }))
  calls_merge request outs numbers call are same ticket =
      let it = asks_merge request outs numbers are same ticket in
      elim call [
        | inl is ↦ asks request refl (subst (λ k. AsksMerge (seen_of core) k request (seen_of (record core { outs = outs; merger = merge; numbers = numbers }))) is it)
        | inr (inl is) ↦ writes request refl (subst (λ k. AsksMerge (seen_of core) k request (seen_of (record core { outs = outs; merger = merge; numbers = numbers }))) is it)
        | inr (inr is) ↦ writes_table request refl (subst (λ k. AsksMerge (seen_of core) k request (seen_of (record core { outs = outs; merger = merge; numbers = numbers }))) is it)
      ]

-- ---- an outcome

handed_seen : (core : Parts) (phases now : List Phase) (outs out : List (Option RequestId)) (places : Places) (room : ℕ) (merge next : Option merger.Running) → phases ≡ now → outs ≡ out → merge ≡ next
    → seen_of (merged_core core phases outs places room merge) ≡ record (seen_of core) { phases = now; outs = out; catalog = places; merger = next }
handed_seen core phases now outs out places room merge next p o m = cc

module _ {core : Parts} {seen : CoreView} {made : Made} {phases : List Phase} {outs : List (Option RequestId)} {closed : Bool} {merge : merger.Running}
    (h : HandsMerge core seen made phases outs closed merge) where
  there : slice_get core.outs 1 ≡ Some (Some made.request.id)
  there = ap (λ (v : CoreView). slice_get v.outs 1) h.seen_is ∙ h.out

  abbrev takes : Takes (seen_of core) made
  takes = record { out = there; whose = h.sound.outs_are.whose 1 made.request.id there; phase = h.follows.phase; phase_is = h.follows.is; merge = merge; was = h.was }

  -- its call failed
  pub down_next : (journal : JournalView) (dumper : Dumping) (now : Option merger.Running) → is_done made.answer ≡ false → journal.items ≡ core.journal.items → journal.limit ≡ core.journal.limit
      → journal.held ≡ held_for core.frozen None None → dumper ≡ record { running = None; since_freeze = core.dumper.since_freeze } → now ≡ None
      → NextByMergersOutcome seen made (reply.Refused StoreDown)
      (seen_of (record core { journal = journal; standing = Rattle.sd_crash_safety.specs.declared.standing.Standing.TheVariants.Down; phases = phases; outs = outs; dumper = dumper; merger = now }))
  down_next journal dumper now failed items limit held idle none =
      subst (λ v. NextByMergersOutcome v made (reply.Refused StoreDown)
      (seen_of (record core { journal = journal; standing = Rattle.sd_crash_safety.specs.declared.standing.Standing.TheVariants.Down; phases = phases; outs = outs; dumper = dumper; merger = now }))) h.seen_is
      (goes_down refl takes (record {
        failed = failed;
        new_is = down_seen core journal phases _ outs _ dumper _ now (held_for (pending (entries_of core.journal.items)) None core.opener) items limit
            (held ∙ ap (λ f. held_for f None None) h.sound.journal_is.frozen_for ∙ ap (held_for (pending (entries_of core.journal.items)) None) (sym (work h).closed))
            h.follows.phases h.outs_are idle none;
      }))

-- it goes on
module _ {core : Parts} {seen : CoreView} {made : Made} {phases : List Phase} {outs : List (Option RequestId)} {places : Places} {done : MergeProgress} {now : Option merger.Running}
    (g : GoesOnMerge core seen made phases outs places done now) where
  pub more_next : NextByMergersOutcome seen made reply.Worked (seen_of (merged_core core phases outs places core.room now))
  more_next = subst (λ v. NextByMergersOutcome v made reply.Worked (seen_of (merged_core core phases outs places core.room now))) g.leaves.hands.seen_is
      (goes_on refl (record {
        it = takes g.leaves.hands;
        next = g.doing;
        progress = done;
        more = g.more;
        hands = g.goes;
        places = places;
        leaves = subst (λ b. LeavesCatalog b made.request.id.slot core.places places) g.leaves.hands.follows.closes g.leaves.leaves;
        new_is = handed_seen core phases _ outs _ places core.room now _ g.leaves.hands.follows.phases g.leaves.hands.outs_are g.is;
      }))

-- the last image of its list is closed
module _ {core : Parts} {seen : CoreView} {made : Made} {phases : List Phase} {outs : List (Option RequestId)} {places : Places} {serial : ℕ} {now : Option merger.Running}
    (m : EndsMerge core seen made phases outs places serial now) where
  pub ended_next : NextByMergersOutcome seen made (reply.Merged serial) (seen_of (merged_core core phases outs places core.room now))
  ended_next = subst (λ v. NextByMergersOutcome v made (reply.Merged serial) (seen_of (merged_core core phases outs places core.room now))) m.leaves.hands.seen_is
      (ends serial refl (record {
        it = takes m.leaves.hands;
        r = m.ends.r;
        doing = m.ends.was;
        hands = m.ends.hands;
        places = places;
        leaves = subst (λ b. LeavesCatalog b made.request.id.slot core.places places) m.leaves.hands.follows.closes m.leaves.leaves;
        new_is = handed_seen core phases _ outs _ places core.room now None m.leaves.hands.follows.phases m.leaves.hands.outs_are m.is;
      }))

-- the merged image is open
module _ {core : Parts} {seen : CoreView} {made : Made} {phases : List Phase} {outs : List (Option RequestId)} {places : Places} {room : ℕ} {image : NewImage} {ended : Option ℕ} {now : Option merger.Running}
    (o : OpensMerge core seen made phases outs places room image ended now) where
  before_so : o.before ≡ Some (record o.merge { doing = opened image.header.serial })
  before_so = o.before_is ∙ ap (λ d. Some (record o.merge { doing = d })) (beside o).is

  opens_so : MergedOpens (seen_of core) made (retires_as ended) (seen_of (merged_core core phases outs places room now))
  opens_so = record {
    it = takes o.hands;
    copied = (beside o).copy;
    doing = (beside o).was;
    image = image;
    opens = (beside o).opens;
    places = places;
    enters = o.changes;
    list = o.fixes.list;
    is_list = subst (λ n. IsListOf places core.dumper.running (Some (record o.merge { doing = opened image.header.serial })) (slice_set core.outs 1 None) n o.fixes.list) (beside o).room
        (subst (λ outs. IsListOf places core.dumper.running (Some (record o.merge { doing = opened image.header.serial })) outs core.room o.fixes.list) o.hands.outs_are
        (subst (λ b. IsListOf places core.dumper.running b outs core.room o.fixes.list) before_so o.fixes.is));
    rest = now;
    takes = subst (λ b. TakesList b o.fixes.list (retires_as ended) now) before_so o.fixes.retires;
    new_is = handed_seen core phases _ outs _ places room now now o.hands.follows.phases o.hands.outs_are refl;
  }

  opened_more : ended ≡ None → NextByMergersOutcome seen made reply.Worked (seen_of (merged_core core phases outs places room now))
  opened_more none = subst (λ v. NextByMergersOutcome v made reply.Worked (seen_of (merged_core core phases outs places room now))) o.hands.seen_is
      (opens refl (subst (λ e. MergedOpens (seen_of core) made (retires_as e) (seen_of (merged_core core phases outs places room now))) none opens_so))

  opened_last : (serial : ℕ) → ended ≡ Some serial → NextByMergersOutcome seen made (reply.Merged serial) (seen_of (merged_core core phases outs places room now))
  opened_last serial is = subst (λ v. NextByMergersOutcome v made (reply.Merged serial) (seen_of (merged_core core phases outs places room now))) o.hands.seen_is
      (opens_last serial refl (subst (λ e. MergedOpens (seen_of core) made (retires_as e) (seen_of (merged_core core phases outs places room now))) is opens_so))

  pub opened_next : (answer : Reply) → ((ended ≡ None) × (answer ≡ reply.Worked)) ⊎ ((serial : ℕ) × (ended ≡ Some serial) × (answer ≡ reply.Merged serial))
      → NextByMergersOutcome seen made answer (seen_of (merged_core core phases outs places room now))
  opened_next answer (inl more) = subst (λ a. NextByMergersOutcome seen made a (seen_of (merged_core core phases outs places room now))) (sym more.1) (opened_more more.0)
  opened_next answer (inr last) = subst (λ a. NextByMergersOutcome seen made a (seen_of (merged_core core phases outs places room now))) (sym last.2) (opened_last last.0 last.1)
