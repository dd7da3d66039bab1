-- The file of an image whose table is written.
use Rattle.std.specs.List.{concat}
use Rattle.std.proofs.Common.{◌≡◌, ◌≢◌, ◌↔◌, Contains, List, ℕ, ◌<◌, Bool, [], ◌∷◌, Option, Some, is_some, sym, ◌∙◌, ap, subst, arith}
use Rattle.std.specs.Option.{option_map}
use Rattle.sd_image.specs.declared.header.Header.{Header}
use Rattle.sd_image.specs.declared.header.Kind.{Kind}
use Rattle.sd_image.specs.declared.header.Kind.TheVariants.{Dump, Merged, PreDump}
use Rattle.sd_image.specs.declared.run.RunKind.{RunKind}
use Rattle.sd_image.specs.Header.{AreNumbers}
use Rattle.sd_image.specs.Image.{image_text}
use Rattle.sd_image.specs.Laws.{TextIsImage}
use Rattle.sd_image.specs.Shows.{IsMemory, IsNamed, pages_of}
use Rattle.sd_image.specs.Table.{Listed, table_text}
use Rattle.sd_gate.specs.Laws.{BodiesFill, pages_body}
use Rattle.sd_gate.specs.PlanRuns.{body_closed}
use Rattle.sd_gate.specs.Plans.{Planned, plan_after}
use Rattle.sd_gate.specs.Requests.{Asked, Made}
use Rattle.sd_gate.specs.Sequences.{Calls}
use Rattle.sd_pagetable.specs.Contents.{Contents, page_at, plain_of}
use Rattle.sd_pagetable.specs.Law.{PlainLaw}
use Rattle.sd_pagetable.specs.Page.{PageState, plain_page}
use Rattle.sd_rounds.specs.declared.image_order.ImageOrder.{ImageOrder}
use Rattle.sd_writing.specs.declared.written.Written.TheVariants.{More}
use Rattle.sd_rounds.specs.declared.image_step.ImageStep.TheVariants.{Call, TableCall}
use Rattle.sd_writing.specs.declared.new_image.NewImage.{NewImage}
use Rattle.sd_rounds.specs.declared.stage.Stage.{Stage}
use Rattle.sd_rounds.specs.declared.stage.Stage.TheVariants.{Pass as PassStage}
use Rattle.sd_rounds.specs.Dump.{IsDumped, right_kind}
use Rattle.sd_rounds.specs.Files.{FileLaws, FilesImage, HasAreasAtFreeze, HasAreasIn, IsFiled, IsFiledIn}
use Rattle.sd_rounds.specs.Keeps.{Chain, ChainWithin, Rests}
use Rattle.sd_writing.specs.Files.{Stored, listed_pages, Pages, image_of}
use Rattle.sd_rounds.specs.Made.{HasTheAreas, IsImageOf, MadeLaws}
use Rattle.sd_rounds.specs.Making.{AreThePages, HandsIn, HasTable, Making, Opens, PlanGoesOn, Steps, TablesMemory, WritesTable, is_past_freeze, stage_after, stage_when_done, with_plan}
use Rattle.sd_writing.specs.Tables.{TablesEntries}
use Rattle.sd_rounds.specs.MakingLaws.{AreItsNumbers, DumpsImage, IsDumpedIn, IsKeptIn, KeepsImage, MakingLaws}
use Rattle.sd_rounds.specs.Pass.{Pass}
use Rattle.sd_writing.specs.Entries.{Place, pages_by}
use Rattle.sd_rounds.specs.Rises.{IsRising, kind_at}
use Rattle.sd_rounds.proofs.WayLemmas.{way}

-- ---- the entries of a dump

some_due : (takes_all : Bool) (o : Option PageState) → is_some (right_kind takes_all o) ≡ is_some o
some_due takes_all o = grind arith

some_plain : (o : Option PageState) → is_some (option_map plain_page o) ≡ is_some o
some_plain o = grind arith

pub are_the_pages : PlainLaw → (cut memory : Contents) (pass : Pass) → ((at : Place) → kind_at pass.entries at ≡ right_kind pass.takes_all (page_at cut at.0 at.1))
    → plain_of memory ≡ plain_of cut → AreThePages pass.entries memory
are_the_pages law cut memory pass ways same space page = grind arith

entries : PlainLaw → (stored : Stored) (chain : Chain) (cut memory : Contents) (pass : Pass) → IsDumped stored chain cut pass → plain_of memory ≡ plain_of cut
    → AreThePages pass.entries memory
entries law stored chain cut memory pass dumped same = are_the_pages law cut memory pass dumped.kinds same

-- ---- the table is written

own_numbers : (kind : Kind) (serial parent : ℕ) → kind ≢ Merged → parent < serial → AreNumbers kind serial serial parent
own_numbers kind serial parent own l = grind arith

filed : TextIsImage → (pages : Pages) (chain : Chain) (old new : Making) (memory : Contents) (request : Asked) (w : WritesTable old memory request new)
    → old.order.kind ≢ Merged → AreItsNumbers old.order → KeepsImage pages chain old memory → TablesEntries old.pass.entries w.header w.tables
    → IsFiled old.order old.pass pages w.header w.tables
filed law pages chain old new memory request w own numbers kept has = record {
  spelled = (law (image_of w.header pages w.tables) (record {
    words = w.fits.words;
    serial = subst (λ (h : Header). 0 < h.serial) (sym w.fits.numbers) numbers.serial;
    numbers = subst (λ (h : Header). AreNumbers h.kind h.serial h.stands_for h.parent) (sym w.fits.numbers) (own_numbers old.order.kind old.order.serial old.order.parent own numbers.parent);
    checkpoint = subst (λ (h : Header). 0 < h.checkpoint) (sym w.fits.numbers) numbers.checkpoint;
    table = has.is;
    stored = kept.count ∙ ap (λ (h : Header). h.pages) (sym w.fits.numbers);
    whole = kept.whole;
    table_len = ap (λ (h : Header). h.table_len) w.fits.numbers;
    digest = λ two. w.fits.digest (concat pages) kept.digested;
  })).0;
  numbers = w.fits.numbers;
  lists = has.lists;
}

files_new : (pages : Pages) (old new : Making) (memory : Contents) (request : Asked) (w : WritesTable old memory request new)
    → IsFiled old.order old.pass pages w.header w.tables → FilesImage pages new
files_new pages old new memory request w is = subst (λ (m : Making). FilesImage pages m) (sym w.is) is

pre_dump : TextIsImage → (ticket : ℕ) (pages : Pages) (chain : Chain) (old new : Making) (before after : Contents) (request : Asked) → Steps ticket old before (TableCall request) new after
    → old.order.kind ≡ PreDump → AreItsNumbers old.order → KeepsImage pages chain old before → FilesImage pages new
pre_dump law ticket pages chain old new before after request s kind numbers kept =
    files_new pages old new before request s.0
    (filed law pages chain old new before request s.0 (λ e. not_merged (sym kind ∙ e)) numbers kept
    (subst (λ k. HasTable k before old.pass.entries s.0.header s.0.tables) kind s.0.table))
  where
    not_merged : PreDump ≡ Merged → ⊥
    not_merged e = cc

pass_dumped : (stage : Stage) (cut : Contents) (pages : Pages) (chain : Chain) (pass : Pass) (memory : Contents) → stage ≡ PassStage → IsDumpedIn stage cut pages chain pass memory → IsDumpedIn PassStage cut pages chain pass memory
pass_dumped stage cut pages chain pass memory e is = subst (λ (s : Stage). IsDumpedIn s cut pages chain pass memory) e is

dump : TextIsImage → PlainLaw → MakingLaws → (ticket : ℕ) (cut : Contents) (pages : Pages) (chain : Chain) (old new : Making) (before after : Contents) (request : Asked)
    → Steps ticket old before (TableCall request) new after
    → old.order.kind ≡ Dump → AreItsNumbers old.order → IsRising old.pass → KeepsImage pages chain old before → DumpsImage cut pages chain old before
    → FilesImage pages new × HasAreasAtFreeze cut new
dump law plain making ticket cut pages chain old new before after request s kind numbers rising kept dumps = (
  files_new pages old new before request s.0 (filed law pages chain old new before request s.0 (λ e. not_merged (sym kind ∙ e)) numbers kept has.table),
  subst (λ (m : Making). HasAreasAtFreeze cut m) (sym s.0.is)
      (subst (λ m. HasTheAreas m s.0.tables) same has.areas),
)
  where
    not_merged : Dump ≡ Merged → ⊥
    not_merged e = cc

    same : plain_of before ≡ plain_of cut
    same = (pass_dumped old.stage cut pages chain old.pass before s.0.stage dumps).plain

    done : IsDumped (listed_pages pages) chain cut old.pass
    done = subst (λ (m : Making). DumpsImage cut pages chain m after) s.0.is
        (making.dumps ticket cut pages chain old new before after (TableCall request) s (ap is_past_freeze s.0.stage) rising kept dumps)

    has : TablesMemory before old.pass.entries s.0.header s.0.tables
    has = subst (λ k. HasTable k before old.pass.entries s.0.header s.0.tables) kind s.0.table
        (entries plain (listed_pages pages) chain cut before old.pass done same)

fills : BodiesFill → (order : ImageOrder) (pass : Pass) (pages : Pages) (header : Header) (tables : List Listed) → IsFiled order pass pages header tables
    → body_closed (pages_body pages) header (table_text tables) ≡ image_text (image_of header pages tables)
fills law order pass pages header tables is = law.image pages header (table_text tables) is.spelled.whole (sym is.spelled.stored) is.spelled.header.words

-- ---- until the image is open

pub asked_files : (stage : Stage) (plan : Planned) (order : ImageOrder) (pass : Pass) (pages : Pages) → IsFiledIn stage order pass pages → IsFiledIn (with_plan stage plan) order pass pages
asked_files stage plan order pass pages is = grind arith

pub asked_areas : (stage : Stage) (plan : Planned) (cut : Contents) → HasAreasIn stage cut → HasAreasIn (with_plan stage plan) cut
asked_areas stage plan cut is = grind arith

asks : (ticket : ℕ) (cut : Contents) (pages : Pages) (old new : Making) (before after : Contents) (request : Asked) → Steps ticket old before (Call request) new after
    → FilesImage pages old × HasAreasAtFreeze cut old → FilesImage pages new × HasAreasAtFreeze cut new
asks ticket cut pages old new before after request s was = grind arith

behind_files : (kind : Kind) (stage : Stage) (order : ImageOrder) (pass : Pass) (pages : Pages) → IsFiledIn (stage_when_done kind stage) order pass pages
behind_files kind stage order pass pages = grind arith

behind_areas : (kind : Kind) (stage : Stage) (cut : Contents) → HasAreasIn (stage_when_done kind stage) cut
behind_areas kind stage cut = grind arith

goes_on : (cut : Contents) (pages : Pages) (old new : Making) (made : Made) → PlanGoesOn old made new
    → FilesImage pages old × HasAreasAtFreeze cut old → FilesImage pages new × HasAreasAtFreeze cut new
goes_on cut pages old new made h was =
    subst (λ (m : Making). FilesImage pages m × HasAreasAtFreeze cut m) (sym h.is) (by (plan_after h.plan made).calls)
  where
    by : (calls : Calls)
        → IsFiledIn (stage_after old.order.kind old.stage (plan_after h.plan made) calls) old.order old.pass pages
        × HasAreasIn (stage_after old.order.kind old.stage (plan_after h.plan made) calls) cut
    by [] = (behind_files old.order.kind old.stage old.order old.pass pages, behind_areas old.order.kind old.stage cut)
    by (call ∷ calls) = (asked_files old.stage (plan_after h.plan made) old.order old.pass pages was.0, asked_areas old.stage (plan_after h.plan made) cut was.1)

hands : (cut : Contents) (pages : Pages) (old new : Making) (made : Made) → HandsIn old made More new
    → FilesImage pages old × HasAreasAtFreeze cut old → FilesImage pages new × HasAreasAtFreeze cut new
hands cut pages old new made given was = grind arith

-- ---- the image is open

filed_at : (pages : Pages) (old : Making) (made : Made) (opened : NewImage) → Opens old made opened → FilesImage pages old
    → IsFiled old.order old.pass pages opened.header opened.table
filed_at pages old made opened o is = subst (λ (s : Stage). IsFiledIn s old.order old.pass pages) o.was is

has_entries : (pages : Pages) (chain : Chain) (old : Making) (opened : NewImage) → chain.number ≡ old.order.parent
    → IsFiled old.order old.pass pages opened.header opened.table → IsImageOf (listed_pages pages) chain old.pass.entries (image_of opened.header pages opened.table)
has_entries pages chain old opened number is = grind arith

opens : (pages : Pages) (chain : Chain) (old : Making) (made : Made) (opened : NewImage) → Opens old made opened → chain.number ≡ old.order.parent
    → FilesImage pages old
    → IsFiled old.order old.pass pages opened.header opened.table
    × IsImageOf (listed_pages pages) chain old.pass.entries (image_of opened.header pages opened.table)
opens pages chain old made opened o number files = grind arith

shows : MadeLaws → (cut : Contents) (pages : Pages) (chain : Chain) (old : Making) (made : Made) (opened : NewImage) (memory : Contents) → Opens old made opened → chain.number ≡ old.order.parent
    → FilesImage pages old → HasAreasAtFreeze cut old → DumpsImage cut pages chain old memory
    → IsMemory chain.images (image_of opened.header pages opened.table) (plain_of cut)
shows law cut pages chain old made opened memory o number files areas dumps = grind arith

ways : (cut : Contents) (pages : Pages) (chain : Chain) (old : Making) (made : Made) (opened : NewImage) (memory : Contents) → Opens old made opened
    → FilesImage pages old → IsRising old.pass → DumpsImage cut pages chain old memory
    → (kind : RunKind) (at : Place) → Contains (pages_of kind opened.table) at ↔ right_kind old.pass.takes_all (page_at cut at.0 at.1) ≡ Some kind
ways cut pages chain old made opened memory o files rising dumps kind at = (
  λ c. sym (is.kinds at) ∙ listed.0 (subst (λ (l : List Place). Contains l at) lists c),
  λ e. subst (λ (l : List Place). Contains l at) (sym lists) (listed.1 (is.kinds at ∙ e)),
)
  where
    is : IsDumped (listed_pages pages) chain cut old.pass
    is = subst (λ (s : Stage). IsDumpedIn s cut pages chain old.pass memory) o.was dumps

    lists : pages_of kind opened.table ≡ pages_by kind old.pass.entries
    lists = (filed_at pages old made opened o files).lists kind

    listed : Contains (pages_by kind old.pass.entries) at ↔ kind_at old.pass.entries at ≡ Some kind
    listed = way kind old.pass.entries at rising.rises

commits : MadeLaws → (pages : Pages) (before after : Chain) (old : Making) (made : Made) (opened : NewImage) (memory : Contents) → Opens old made opened → after.number ≡ old.order.parent
    → FilesImage pages old → IsNamed after.images old.order.serial (image_of opened.header pages opened.table) → ChainWithin before after → KeepsImage pages before old memory
    → Rests (record { images = after.images; number = old.order.serial }) memory
commits law pages before after old made opened memory o number files named within kept =
    let is = filed_at pages old made opened o files in
    let stands : opened.header.stands_for ≡ old.order.serial = ap (λ (h : Header). h.stands_for) is.numbers in
    subst (λ n. Rests (record { images = after.images; number = n }) memory) stands
    (law.commits (listed_pages pages) before after old.pass.entries memory (image_of opened.header pages opened.table) (has_entries pages after old opened number is)
    (subst (λ n. IsNamed after.images n (image_of opened.header pages opened.table)) (sym stands) named) within
    (subst (λ (s : Stage). IsKeptIn s pages before old.pass memory) o.was kept.kept))

pub file_laws : TextIsImage → BodiesFill → PlainLaw → MadeLaws → MakingLaws → FileLaws
file_laws text fill plain made making = record {
  entries = entries plain;
  pre_dump = pre_dump text;
  dump = dump text plain making;
  fills = fills fill;
  asks = asks;
  hands = hands;
  opens = opens;
  shows = shows made;
  ways = ways;
  commits = commits made;
}
