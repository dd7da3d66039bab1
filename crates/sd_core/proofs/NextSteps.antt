-- A step of the dumper is one of the steps of a core.
use Rattle.std.proofs.Common.{◌≡◌, ◌⊎◌, ℕ, ◌+◌, Bool, true, false, List, Option, Some, None, IsSome, slice_get, subst, arith}
use Rattle.sd_gate.specs.declared.request_id.RequestId.{RequestId}
use Rattle.sd_gate.specs.declared.worker.Worker.TheVariants.{Dumper}
use Rattle.sd_journal.specs.Kept.{JournalView}
use Rattle.sd_journal.specs.Marked.{Marked}
use Rattle.sd_pagetable.specs.Contents.{Contents, plain_of}
use Rattle.sd_rounds.specs.Dumper.{Dumping, Running}
use Rattle.sd_rounds.specs.Waits.{dumper_must_wait}
use Rattle.sd_crash_safety.specs.View.{CoreView}
use Rattle.sd_core.specs.declared.numbers.Numbers.{Numbers}
use Rattle.sd_core.specs.Flags.{numbers_asked, ticket_after}
use Rattle.sd_chain.specs.Catalog.{Places}
use Rattle.sd_core.specs.Next.{CopiesSector, VisitsPage}
use Rattle.sd_core.specs.Refusals.{work_refusal}
use Rattle.sd_core.specs.Sound.{Parts}
use Rattle.sd_core.proofs.CoreParts.{seen_of}
use Rattle.sd_core.proofs.NextHands.{dumper_as}

pub may_step : (core : CoreView) → slice_get core.outs 0 ≡ Some None → IsSome core.dumper.running → dumper_must_wait core.dumper.running (plain_of core.memory) ≡ false
    → work_refusal core Dumper ≡ None
may_step core rests runs goes = grind arith

-- the core after a step, where each part is as the step leaves it
pub stepped_seen : (core : Parts) (journal : JournalView) (memory : Contents) (outs now : List (Option RequestId)) (dumper : Dumping) (since : ℕ) (running : Option Running) (committing gate : Bool)
    (items : Marked) (held : ℕ) (frozen : Option ℕ) (swept : Bool) → journal.items ≡ items → journal.held ≡ held → journal.limit ≡ core.journal.limit → memory ≡ core.memory → outs ≡ now
    → dumper.running ≡ running → dumper.since_freeze ≡ since → committing ≡ gate
    → seen_of (record core { journal = journal; memory = memory; outs = outs; dumper = dumper; committing = committing; frozen = frozen; swept = swept })
    ≡ record (seen_of core) { items = items; held = held; outs = now; dumper = record { running = running; since_freeze = since }; committing = gate }
stepped_seen core journal memory outs now dumper since running committing gate items held frozen swept i h l m o r s g = let d = dumper_as dumper running since r s in cc

-- with the next ticket
pub asked_seen : (core : Parts) (journal : JournalView) (memory : Contents) (outs now : List (Option RequestId)) (dumper : Dumping) (since : ℕ) (running : Option Running) (committing gate : Bool)
    (items : Marked) (held : ℕ) (swept : Bool) (numbers : Numbers) → journal.items ≡ items → journal.held ≡ held → journal.limit ≡ core.journal.limit → memory ≡ core.memory → outs ≡ now
    → dumper.running ≡ running → dumper.since_freeze ≡ since → committing ≡ gate
    → numbers.begun ≡ core.numbers.begun → numbers.given ≡ core.numbers.given → numbers.checkpoint ≡ core.numbers.checkpoint → numbers.serial ≡ core.numbers.serial
    → numbers.ticket ≡ ticket_after core.numbers.ticket
    → seen_of (record core { journal = journal; memory = memory; outs = outs; dumper = dumper; committing = committing; numbers = numbers; swept = swept })
    ≡ record (seen_of core) { items = items; held = held; outs = now; dumper = record { running = running; since_freeze = since }; committing = gate; numbers = numbers_asked false (seen_of core).numbers }
asked_seen core journal memory outs now dumper since running committing gate items held swept numbers i h l m o r s g b v c e t = let d = dumper_as dumper running since r s in cc

-- a page was visited
pub visited_seen : (core : Parts) (journal : JournalView) (memory : Contents) (dumper : Dumping) (since : ℕ) (running : Option Running) (items : Marked)
    → journal.items ≡ items → journal.held ≡ core.journal.held → journal.limit ≡ core.journal.limit → dumper.running ≡ running → dumper.since_freeze ≡ since
    → seen_of (record core { journal = journal; memory = memory; dumper = dumper })
    ≡ record (seen_of core) { items = items; memory = memory; dumper = record { running = running; since_freeze = since } }
visited_seen core journal memory dumper since running items i h l r s = let d = dumper_as dumper running since r s in cc

pub pass_seen : (inside now new : CoreView) → inside ≡ now → VisitsPage inside new ⊎ CopiesSector inside new → VisitsPage now new ⊎ CopiesSector now new
pass_seen inside now new same = subst (λ v. VisitsPage v new ⊎ CopiesSector v new) same

-- an image began
pub begun_image_seen : (core : Parts) (journal : JournalView) (memory : Contents) (outs now : List (Option RequestId)) (places : Places) (dumper : Dumping) (since : ℕ) (running : Option Running)
    (committing gate : Bool) (items : Marked) (numbers : Numbers) → journal.items ≡ items → journal.held ≡ core.journal.held → journal.limit ≡ core.journal.limit → memory ≡ core.memory → outs ≡ now
    → dumper.running ≡ running → dumper.since_freeze ≡ since → committing ≡ gate
    → numbers.begun ≡ core.numbers.begun → numbers.given ≡ core.numbers.serial + 1 → numbers.checkpoint ≡ core.numbers.checkpoint → numbers.serial ≡ core.numbers.serial + 1
    → numbers.ticket ≡ ticket_after core.numbers.ticket
    → seen_of (record core { journal = journal; memory = memory; outs = outs; places = places; dumper = dumper; committing = committing; numbers = numbers })
    ≡ record (seen_of core) { items = items; outs = now; catalog = places; dumper = record { running = running; since_freeze = since }; committing = gate; numbers = numbers_asked true (seen_of core).numbers }
begun_image_seen core journal memory outs now places dumper since running committing gate items numbers i h l m o r s g b v c e t = let d = dumper_as dumper running since r s in cc
