-- The outcome of a dumper's call is one of the steps of a core.
use Rattle.std.proofs.Common.{◌≡◌, ℕ, ◌+◌, Bool, true, false, List, ◌∷◌, Option, Some, None, is_some, slice_get, refl, sym, ◌∙◌, ap, subst, arith, if◌then◌else◌}
use Rattle.sd_chain.specs.Catalog.{Places}
use Rattle.sd_command.specs.declared.refusal.Refusal.TheVariants.{StoreDown}
use Rattle.sd_command.specs.declared.reply.Reply.TheVariants as reply
use Rattle.sd_gate.specs.declared.phase.Phase.{Phase}
use Rattle.sd_gate.specs.declared.request_id.RequestId.{RequestId}
use Rattle.sd_gate.specs.declared.worker.Worker.TheVariants.{Dumper}
use Rattle.sd_gate.specs.Calls.{is_done}
use Rattle.sd_gate.specs.Phases.{phases_after}
use Rattle.sd_gate.specs.Requests.{Made}
use Rattle.sd_journal.specs.declared.entry.Entry.TheVariants.{Acked}
use Rattle.sd_journal.specs.History.{pending}
use Rattle.sd_journal.specs.Kept.{JournalView}
use Rattle.sd_journal.specs.Marked.{Told, entries_of}
use Rattle.sd_merge.specs.Merger as merger
use Rattle.sd_writing.specs.declared.new_image.NewImage.{NewImage}
use Rattle.sd_rounds.specs.Dumper.{Dumping, Running, after_pre_dump, is_frozen_image, outcomes_since_freeze}
use Rattle.sd_rounds.specs.Making.{Making}
use Rattle.sd_crash_safety.specs.DumperOutcomes.{LeavesCatalog}
use Rattle.sd_crash_safety.specs.View.{CoreView}
use Rattle.sd_crash_safety.specs.declared.standing.Standing.TheVariants.{Down}
use Rattle.sd_core.specs.Counted.{counted_by_outcome}
use Rattle.sd_core.specs.Next.{HandsIt, NextByDumpersOutcome, acknowledges, goes_down, goes_on, opens}
use Rattle.sd_core.specs.Sound.{Parts, held_for}
use Rattle.sd_core.proofs.CoreParts.{seen_of}
use Rattle.sd_core.proofs.HandsDump.{GoesOn, HandsDump, OpensDump, acked_core, handed_core, pends, work}

-- a dumper by its parts
abbrev dumping : Option Running → ℕ → Dumping
dumping running since = record { running = running; since_freeze = since }

pub dumper_as : (a : Dumping) (r : Option Running) (s : ℕ) → a.running ≡ r → a.since_freeze ≡ s → a ≡ record { running = r; since_freeze = s }
dumper_as a r s is same = ap (λ x. dumping x a.since_freeze) is ∙ ap (dumping r) same

-- where an image is being made, the memory is frozen as it says
frozen_if : (b : Bool) (n : ℕ) → is_some (if b then Some n else None) ≡ b
frozen_if true n = refl
frozen_if false n = refl

handed_seen : (core : Parts) (phases now : List Phase) (outs out : List (Option RequestId)) (places : Places) (dumper next : Dumping) → phases ≡ now → outs ≡ out → dumper ≡ next
    → seen_of (handed_core core phases outs places dumper) ≡ seen_of (handed_core core now out places next)
handed_seen core phases now outs out places dumper next p o d =
    ap (λ x. seen_of (handed_core core x outs places dumper)) p ∙ ap (λ x. seen_of (handed_core core now x places dumper)) o ∙ ap (λ x. seen_of (handed_core core now out places x)) d

module _ {core : Parts} {seen : CoreView} {lane : ℕ} {made : Made} {phases : List Phase}
    {outs : List (Option RequestId)} {closed : Bool} {running : Running} {image : Making}
    (h : HandsDump core seen lane made phases outs closed running image) where
  abbrev pub it : HandsIt (seen_of core) made
  it = record {
    lane = lane;
    out = ap (λ (v : CoreView). slice_get v.outs lane) h.seen_is ∙ h.out;
    whose = h.whose;
    phase = h.follows.phase;
    phase_is = h.follows.is;
    running = running;
    was = h.was;
    image = image;
    making = h.making;
  }

  pub since_is : (since : ℕ) → since ≡ outcomes_since_freeze running core.dumper.since_freeze → since ≡ counted_by_outcome (seen_of core) Dumper
  since_is since is = is ∙ ap (λ b. if b then core.dumper.since_freeze + 1 else core.dumper.since_freeze)
      (sym (frozen_if (is_frozen_image running.image) running.number) ∙ ap is_some (sym (work h).pends ∙ h.sound.journal_is.frozen_for))

  pub phases_are : phases ≡ phases_after core.phases made.request.id h.follows.phase (is_done made.answer)
  phases_are = h.follows.phases

-- the image goes on
module _ {core : Parts} {seen : CoreView} {lane : ℕ} {made : Made} {phases : List Phase}
    {outs : List (Option RequestId)} {places : Places} {dumper : Dumping}
    (g : GoesOn core seen lane made phases outs places dumper) where
  pub goes_on_next : dumper.since_freeze ≡ outcomes_since_freeze g.running core.dumper.since_freeze
      → NextByDumpersOutcome seen made reply.Worked (seen_of (handed_core core phases outs places dumper))
  goes_on_next since = subst (λ v. NextByDumpersOutcome v made reply.Worked (seen_of (handed_core core phases outs places dumper))) g.hands.seen_is
      (goes_on refl (record {
        it = it g.hands;
        next = g.next;
        goes = g.goes;
        places = places;
        leaves = subst (λ b. LeavesCatalog b made.request.id.slot core.places places) g.hands.follows.closes g.leaves;
        new_is = handed_seen core phases _ outs _ places dumper _ (phases_are g.hands) g.hands.outs_are
            (dumper_as dumper (Some (record g.running { image = Some g.next })) (counted_by_outcome (seen_of core) Dumper) g.is (since_is g.hands dumper.since_freeze since));
      }))

-- a pre-dump is open
module _ {core : Parts} {seen : CoreView} {lane : ℕ} {made : Made} {phases : List Phase}
    {outs : List (Option RequestId)} {places : Places} {dumper : Dumping} {opened : NewImage}
    (o : OpensDump core seen lane made phases outs places dumper opened false) where
  pub pre_dump_next : dumper.since_freeze ≡ outcomes_since_freeze o.running core.dumper.since_freeze
      → NextByDumpersOutcome seen made reply.Worked (seen_of (handed_core core phases outs places dumper))
  pre_dump_next since = subst (λ v. NextByDumpersOutcome v made reply.Worked (seen_of (handed_core core phases outs places dumper))) o.hands.seen_is
      (opens refl (record {
        it = it o.hands;
        image = opened;
        opens = o.opens;
        more = o.last_is;
        places = places;
        enters = o.changes;
        new_is = handed_seen core phases _ outs _ places dumper _ (phases_are o.hands) o.hands.outs_are
            (dumper_as dumper (Some (after_pre_dump o.running opened)) (counted_by_outcome (seen_of core) Dumper) o.is (since_is o.hands dumper.since_freeze since));
      }))

-- the dump is open
acked_seen : (core : Parts) (journal : JournalView) (n : ℕ) → journal.items ≡ Told (Acked n) ∷ core.journal.items → journal.held ≡ 0 → journal.limit ≡ core.journal.limit
    → seen_of (acked_core core journal) ≡ record (seen_of core) { items = Told (Acked n) ∷ core.journal.items; held = 0; grows = true; committing = false }
acked_seen core journal n items held limit = cc

module _ {core : Parts} {seen : CoreView} {lane : ℕ} {made : Made} {phases : List Phase}
    {outs : List (Option RequestId)} {places : Places} {dumper : Dumping} {opened : NewImage}
    (o : OpensDump core seen lane made phases outs places dumper opened true) where
  pub dump_free : (journal : JournalView) → journal.held + 1 ≡ core.journal.held → journal.held ≡ 0
  dump_free journal less =
      let one : core.journal.held ≡ 1 = o.hands.sound.held ∙ ap (λ f. held_for f core.dumper.running core.opener) (pends o) in
      omega (arith, less, one)

  pub dump_next : dumper.since_freeze ≡ outcomes_since_freeze o.running core.dumper.since_freeze
      → (journal : JournalView) → journal.items ≡ Told (Acked core.numbers.begun) ∷ core.journal.items → journal.limit ≡ core.journal.limit → journal.held ≡ 0
      → NextByDumpersOutcome seen made (reply.Acked core.numbers.begun) (seen_of (acked_core (handed_core core phases outs places dumper) journal))
  dump_next since journal items limit held =
      subst (λ v. NextByDumpersOutcome v made (reply.Acked core.numbers.begun) (seen_of (acked_core (handed_core core phases outs places dumper) journal))) o.hands.seen_is
      (acknowledges core.numbers.begun refl (record {
        it = it o.hands;
        number = sym (work o.hands).number;
        image = opened;
        opens = o.opens;
        dump = o.last_is;
        places = places;
        enters = o.changes;
        new_is = acked_seen (handed_core core phases outs places dumper) journal core.numbers.begun items held limit
            ∙ ap (λ (v : CoreView). record v { items = Told (Acked core.numbers.begun) ∷ core.journal.items; held = 0; grows = true; committing = false })
            (handed_seen core phases _ outs _ places dumper _ (phases_are o.hands) o.hands.outs_are
            (dumper_as dumper None (counted_by_outcome (seen_of core) Dumper) o.is (since_is o.hands dumper.since_freeze since)));
      }))

-- its call failed
abbrev pub down_core : Parts → JournalView → List Phase → List (Option RequestId) → Dumping → Option merger.Running → Parts
down_core core journal phases outs dumper merge = record core { journal = journal; standing = Down; phases = phases; outs = outs; dumper = dumper; merger = merge }

pub down_seen : (core : Parts) (journal : JournalView) (phases now : List Phase) (outs out : List (Option RequestId)) (dumper next : Dumping) (merge : Option merger.Running) (held : ℕ)
    → journal.items ≡ core.journal.items → journal.limit ≡ core.journal.limit → journal.held ≡ held → phases ≡ now → outs ≡ out → dumper ≡ next → merge ≡ None
    → seen_of (down_core core journal phases outs dumper merge) ≡ record (seen_of core) { held = held; standing = Down; phases = now; outs = out; dumper = next; merger = None }
down_seen core journal phases now outs out dumper next merge held items limit count p o d m = cc

module _ {core : Parts} {seen : CoreView} {lane : ℕ} {made : Made} {phases : List Phase}
    {outs : List (Option RequestId)} {closed : Bool} {running : Running} {image : Making}
    (h : HandsDump core seen lane made phases outs closed running image) where
  pub down_next : (journal : JournalView) (dumper : Dumping) (merge : Option merger.Running) → is_done made.answer ≡ false → journal.items ≡ core.journal.items → journal.limit ≡ core.journal.limit
      → journal.held ≡ held_for core.frozen None None → dumper.running ≡ None → dumper.since_freeze ≡ outcomes_since_freeze running core.dumper.since_freeze → merge ≡ None
      → NextByDumpersOutcome seen made (reply.Refused StoreDown) (seen_of (down_core core journal phases outs dumper merge))
  down_next journal dumper merge failed items limit held idle since none =
      subst (λ v. NextByDumpersOutcome v made (reply.Refused StoreDown) (seen_of (down_core core journal phases outs dumper merge))) h.seen_is
      (goes_down refl (it h) (record {
        failed = failed;
        new_is = down_seen core journal phases _ outs _ dumper (record { running = None; since_freeze = counted_by_outcome (seen_of core) Dumper }) merge
            (held_for (pending (entries_of core.journal.items)) None core.opener) items limit
            (held ∙ ap (λ f. held_for f None None) h.sound.journal_is.frozen_for ∙ ap (held_for (pending (entries_of core.journal.items)) None) (sym (work h).closed))
            (phases_are h) h.outs_are (dumper_as dumper None (counted_by_outcome (seen_of core) Dumper) idle (since_is h dumper.since_freeze since)) none;
      }))
