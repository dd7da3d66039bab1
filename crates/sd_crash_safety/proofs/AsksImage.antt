-- The next call of an image's plan is asked for: what is believed and known after it.
use Rattle.std.proofs.Common.{◌≡◌, ℕ, List, Option, Some, None, MatchOption, refl, ◌∙◌, ap, subst, inl, inr, arith}
use Rattle.sd_areas.specs.PlainMemory.{Page, PlainMemory}
use Rattle.sd_areas.specs.Areas.{prot_in}
use Rattle.sd_image.specs.declared.header.Header.{Header}
use Rattle.sd_image.specs.Image.{Image}
use Rattle.sd_image.specs.Shows.{Holds, by_data, by_zero, by_parent, IsMemory, page_in}
use Rattle.sd_image.specs.Table.{Listed}
use Rattle.sd_gate.specs.declared.phase.Phase.{Phase}
use Rattle.sd_gate.specs.Plans.{Planned}
use Rattle.sd_gate.specs.Requests.{Asked}
use Rattle.sd_pagetable.specs.Contents.{Contents, plain_of}
use Rattle.sd_rounds.specs.declared.image_order.ImageOrder.{ImageOrder}
use Rattle.sd_rounds.specs.declared.stage.Stage.{Stage}
use Rattle.sd_rounds.specs.declared.stage.Stage.TheVariants.{Format, Close}
use Rattle.sd_rounds.specs.Files.{FilesImage, HasAreasAtFreeze, HasAreasIn, IsFiled, IsFiledIn}
use Rattle.sd_rounds.specs.Made.{MadeLaws}
use Rattle.sd_writing.specs.Files.{listed_pages, Pages, image_of}
use Rattle.sd_rounds.specs.Making.{Making, plan_of, with_plan}
use Rattle.sd_rounds.specs.MakingLaws.{DumpsImage, IsDumpedIn, IsKeptIn}
use Rattle.sd_rounds.specs.Pass.{Pass}
use Rattle.sd_rounds.specs.Keeps.{Chain}
use Rattle.sd_store_laws.specs.Beliefs.{Belief}
use Rattle.sd_store_laws.specs.Makers.{HasMemory, HasOver}
use Rattle.sd_crash_safety.specs.LiveImages.{IsSlotFor}

-- ---- a plan that goes on leaves what is known of the image

pub kept_with : (stage : Stage) (plan next : Planned) → plan_of stage ≡ Some plan → (pages : Pages) (chain : Chain) (pass : Pass) (memory : Contents)
    → IsKeptIn stage pages chain pass memory → IsKeptIn (with_plan stage next) pages chain pass memory
kept_with stage plan next was pages chain pass memory is = grind arith

-- ---- a plan is on its slot

pub plan_on : (stage : Stage) (order : ImageOrder) (pages : Pages) (phase : Phase) (body : List ℕ) (request : Option Asked) (belief : Belief) (dump : Option Image) (plan : Planned)
    → plan_of stage ≡ Some plan → IsSlotFor stage order pages phase body request belief dump → plan.slot ≡ order.slot
plan_on (Format own) order pages phase body request belief dump plan was s = ap (λ (p : Planned). p.slot) (own_plan was) ∙ s.0.on
  where
    own_plan : Some own ≡ Some plan → plan ≡ own
    own_plan e = cc
plan_on (Close own header tables) order pages phase body request belief dump plan was s = ap (λ (p : Planned). p.slot) (own_plan was) ∙ s.on
  where
    own_plan : Some own ≡ Some plan → plan ≡ own
    own_plan e = cc
plan_on _ order pages phase body request belief dump plan was s = absurd (let no : None ≡ Some plan = was in cc)

-- ---- what an image holds over others

over_from : (images : List Image) (space page : ℕ) (bytes : List ℕ) (i : Image) → Holds images space page bytes i → HasOver images i space page bytes
over_from _ _ _ _ _ (by_data i place listed stored) = inl (inl (place, listed, stored))
over_from _ _ _ _ _ (by_zero i listed zeros) = inl (inr (listed, zeros))
over_from _ _ _ _ _ (by_parent i parent listed named holds) = inr (listed, (parent, named, holds))

pub memory_has : (images : List Image) (i : Image) (memory : PlainMemory) → IsMemory images i memory → HasMemory images i memory
memory_has images i memory is = record {
  alive = is.alive;
  pages = λ s member page. each s page (page_in memory s.space page) (is.pages s member page);
}
  where
    each : (s : Listed) (page : ℕ) (there : Option Page)
        → MatchOption there (prot_in s.areas page ≡ None) (λ found. (prot_in s.areas page ≡ Some found.prot) × Holds images s.space page found.bytes i)
        → MatchOption there (prot_in s.areas page ≡ None) (λ found. (prot_in s.areas page ≡ Some found.prot) × HasOver images i s.space page found.bytes)
    each s page None none = none
    each s page (Some found) has = (has.0, over_from images s.space page found.bytes i has.1)

-- the dump of a frozen memory has it, once its table is written
pub dump_has : MadeLaws → (images : List Image) (number : ℕ) (cut : Contents) (pages : Pages) (image : Making) (plan : Planned) (header : Header) (tables : List Listed) (memory : Contents)
    → image.stage ≡ Close plan header tables → image.order.parent ≡ number → FilesImage pages image → HasAreasAtFreeze cut image
    → DumpsImage cut pages (record { images = images; number = number }) image memory → HasMemory images (image_of header pages tables) (plain_of cut)
dump_has made images number cut pages image plan header tables memory stage parent files areas dumps =
    let filed : IsFiled image.order image.pass pages header tables = subst (λ s. IsFiledIn s image.order image.pass pages) stage files in
    let its_areas = subst (λ s. HasAreasIn s cut) stage areas in
    let dumped = subst (λ s. IsDumpedIn s cut pages (record { images = images; number = number }) image.pass memory) stage dumps in
    memory_has images (image_of header pages tables) (plain_of cut)
    (made.dumps (listed_pages pages) (record { images = images; number = number }) cut image.pass (image_of header pages tables)
    (record { parent = ap (λ h. h.parent) filed.numbers ∙ parent; lists = filed.lists; pages = λ place less. refl }) its_areas dumped)
