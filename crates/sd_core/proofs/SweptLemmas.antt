-- The table of the pending checkpoint's dump: its pass is over.
use Rattle.std.proofs.Common.{◌≡◌, ◌==◌, ◌&&◌, ◌||◌, Bool, true, if◌then◌else◌, ℕ, Some, None, IsSome, is_some, refl, sym, ◌∙◌, ap, subst, arith}
use Rattle.sd_gate.specs.Requests.{Asked}
use Rattle.sd_image.specs.declared.header.Kind.TheVariants.{Dump, PreDump}
use Rattle.sd_image.specs.Words.{kind_number}
use Rattle.sd_journal.specs.Marked.{Marked}
use Rattle.sd_pagetable.specs.Contents.{Contents}
use Rattle.sd_rounds.specs.declared.image_order.ImageOrder.{ImageOrder}
use Rattle.sd_rounds.specs.Dumper.{Running, is_frozen_image, is_last, order_of}
use Rattle.sd_rounds.specs.Making.{Making, WritesTable, is_frozen_dump, is_past_freeze}
use Rattle.sd_core.specs.LittleWork.{TakesLittle}
use Rattle.sd_core.specs.Sound.{IsCore, Parts}
use Rattle.sd_core.specs.Visited.{HasVisitedAll}
use Rattle.sd_core.proofs.WorkLemmas.{at_work}

some_if : (b : Bool) (n : ℕ) → is_some (if b then Some n else None) ≡ b
some_if b n = grind arith

is_dump : (last : Bool) → ((kind_number (if last then Dump else PreDump) == 2) && true) ≡ last
is_dump last = grind arith

-- in the pass of an image, a checkpoint is pending exactly where that is its dump
pub pends_last : (core : Parts) (running : Running) (image : Making) → IsCore core → core.dumper.running ≡ Some running → running.image ≡ Some image
    → image.order ≡ order_of running image.order.serial image.order.state → is_past_freeze image.stage ≡ true → is_some core.frozen ≡ is_last running
pends_last core running image sound was making own past = grind arith

pub table_swept : (core : Parts) (running : Running) (image next : Making) (request : Asked) (new : Contents) (items : Marked) → IsCore core → core.dumper.running ≡ Some running
    → running.image ≡ Some image → image.order ≡ order_of running image.order.serial image.order.state → WritesTable image core.memory request next → new ≡ core.memory
    → is_frozen_dump next ≡ is_frozen_dump image → TakesLittle core.base items new running.number next → HasVisitedAll (core.swept || is_last running) core.frozen new
table_swept core running image next request new items sound was making own writes same still little = by core.swept sound.visited_is
  where
    frozen : is_last running ≡ true → is_frozen_dump image ≡ true
    frozen last = ap (λ (o : ImageOrder). (kind_number o.kind == 2) && is_past_freeze image.stage) own
        ∙ ap (λ b. (kind_number (if b then Dump else PreDump) == 2) && is_past_freeze image.stage) last
        ∙ ap is_past_freeze writes.stage

    pends : is_last running ≡ true → IsSome core.frozen
    pends last = subst IsSome (sym ((at_work core running sound was).pends ∙ ap (λ i. if is_frozen_image i then Some running.number else None) making
        ∙ ap (λ b. if b then Some running.number else None) (frozen last))) refl

    by : (swept : Bool) → HasVisitedAll swept core.frozen core.memory → HasVisitedAll (swept || is_last running) core.frozen new
    by swept had is = grind arith
