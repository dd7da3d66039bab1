-- The file of a merged image.
use Rattle.std.proofs.Common.{◌≡◌, ℕ, ◌<◌, List, [], ◌++◌, length, map, Contains, Some, refl, sym, ◌∙◌, ap, subst, inl, inr, arith}
use Rattle.std.specs.Prelude.{slice_get, replicate}
use Rattle.std.specs.List.{AllByRecursion, concat}
use Rattle.std.proofs.lemmas.List.{append-nil}
use Rattle.sd_image.specs.declared.header.Header.{Header}
use Rattle.sd_image.specs.declared.header.Kind.TheVariants.{Merged, PreDump}
use Rattle.sd_image.specs.declared.run.RunKind.{RunKind}
use Rattle.sd_image.specs.declared.run.RunKind.TheVariants.{Data, Parent, Zero}
use Rattle.sd_image.specs.Header.{HasWords}
use Rattle.sd_image.specs.Image.{HasItsDigest, Image, image_text}
use Rattle.sd_image.specs.Laws.{HaveTables, HeldOnceAmong, IsComplete, SerialsDiffer, TextIsImage}
use Rattle.sd_image.specs.Shows.{Holds, IsRestorable, pages_of}
use Rattle.sd_image.specs.Table.{Listed, table_text}
use Rattle.sd_chain.specs.declared.way.Way.TheVariants as way
use Rattle.sd_chain.specs.Catalog.{Opened, Places}
use Rattle.sd_gate.specs.Laws.{BodiesFill, pages_body}
use Rattle.sd_gate.specs.PlanRuns.{body_closed}
use Rattle.sd_gate.specs.Plans.{Planned, plan_after}
use Rattle.sd_gate.specs.Requests.{Asked, Made}
use Rattle.sd_gate.specs.Sequences.{Calls}
use Rattle.sd_writing.specs.Entries.{Lists, entries_listed, ImageEntry, Place, data_pages, pages_by, place_of_entry}
use Rattle.sd_writing.specs.Files.{Pages, image_of}
use Rattle.sd_store_laws.specs.Makers.{HasItself, IsMergedOf, MergedRepeats}
use Rattle.sd_store_laws.specs.Store.{IsMergedCopy}
use Rattle.sd_merge.specs.declared.copy_order.CopyOrder.{CopyOrder}
use Rattle.sd_writing.specs.declared.written.Written.TheVariants as progress
use Rattle.sd_merge.specs.declared.merge_step.MergeStep.TheVariants as step
use Rattle.sd_merge.specs.declared.stage.Stage.{Stage}
use Rattle.sd_merge.specs.declared.stage.Stage.TheVariants.{Close}
use Rattle.sd_merge.specs.Copying.{Copying, HandsIn, Steps, copy_numbers, stage_after, with_plan}
use Rattle.sd_writing.specs.Endings.{header_with}
use Rattle.sd_merge.specs.Files.{AreItsNumbers, FileLaws, FilesCopy, HasItsNumbers, IsFiled, IsFiledIn}
use Rattle.sd_merge.specs.Gathered.{IsTableOf, RepeatsTable}
use Rattle.sd_merge.specs.Merging.{IsOverIn, IsSourceAt, KeepsCopy, listed_places}
use Rattle.sd_merge.proofs.MergingLemmas.{one_opened, one_some, over_of, source_table}
use Rattle.sd_merge.proofs.OrderLemmas.{In, at_in, contains_in, in_kind, listed_in}

-- ---- the table is written

filed : TextIsImage → (order : CopyOrder) (source : Image) (entries : List ImageEntry) (pages : Pages) (header : Header) (tables : List Listed)
    → header ≡ header_with (copy_numbers order) (data_pages entries) (length (table_text tables)) header.digest → HasWords header → AreItsNumbers order → RepeatsTable source.spaces entries header tables
    → length pages ≡ data_pages entries → AllByRecursion (λ page. length page ≡ 4096) pages → HasItsDigest (image_of header pages tables) → IsFiled order source entries pages header tables
filed law order source entries pages header tables numbers words own table count whole digest = record {
  spelled = (law (image_of header pages tables) complete).0;
  numbers = numbers;
  table = table;
}
  where
    serial : 0 < order.serial
    serial = (let a : 0 < order.source.stands_for = own.stands in let b : order.source.stands_for < order.serial = own.below in omega arith)

    complete : IsComplete (image_of header pages tables)
    complete = grind arith

files : ((l : List Listed) → Lists (entries_listed l) l) → TextIsImage → (ticket : ℕ) (places : Places) (catalog : List Image) (source : Image) (pages : Pages) (old new : Copying) (request : Asked)
    → Steps ticket places old (step.TableCall request) new → IsSourceAt places catalog old.order.source.serial source → IsRestorable source → AreItsNumbers old.order
    → KeepsCopy catalog source pages old → FilesCopy source pages new
files lists law ticket places catalog source pages old new request s is restorable own was =
    let w = s.0.writes in
    let over : was.rest ≡ [] = over_of lists places catalog source old was.rest is was.merging.all (s.0.over is.are) in
    let all : map place_of_entry old.entries ≡ listed_places source.spaces =
    sym (append-nil (map place_of_entry old.entries)) ∙ ap (λ (l : List Place). map place_of_entry old.entries ++ l) (sym over) ∙ was.merging.all in
    let same : w.source ≡ is.opened = one_opened w.source is.opened (sym w.there ∙ is.there) in
    let table : IsTableOf source.spaces old.entries w.tables =
    subst (λ (l : List Listed). IsTableOf l old.entries w.tables) (ap (λ (i : Opened). i.spaces) same ∙ sym is.told.spaces) w.table in
    subst (λ (m : Copying). FilesCopy source pages m) (sym w.is)
    (filed law old.order source old.entries pages w.header w.tables w.fits.numbers w.fits.words own
    (table source.header w.header (source_table places catalog old.order.source.serial source is) restorable all
    (ap (λ (h : Header). h.kind) w.fits.numbers) (ap (λ (h : Header). h.parent) w.fits.numbers) (ap (λ (h : Header). h.pages) w.fits.numbers))
    was.count was.whole (λ two. w.fits.digest (concat pages) was.digested))

fills : BodiesFill → (order : CopyOrder) (source : Image) (entries : List ImageEntry) (pages : Pages) (header : Header) (tables : List Listed) → IsFiled order source entries pages header tables
    → body_closed (pages_body pages) header (table_text tables) ≡ image_text (image_of header pages tables)
fills law order source entries pages header tables f = law.image pages header (table_text tables) f.spelled.whole (sym f.spelled.stored) f.spelled.header.words

-- ---- until it is open

pub filed_asked : (stage : Stage) (plan : Planned) (order : CopyOrder) (source : Image) (entries : List ImageEntry) (pages : Pages) → IsFiledIn stage order source entries pages
    → IsFiledIn (with_plan stage plan) order source entries pages
filed_asked stage plan order source entries pages is = grind arith

filed_after : (stage : Stage) (plan : Planned) (calls : Calls) (order : CopyOrder) (source : Image) (entries : List ImageEntry) (pages : Pages) → IsFiledIn stage order source entries pages
    → IsFiledIn (stage_after stage plan calls) order source entries pages
filed_after stage plan calls order source entries pages is = grind arith

asks : (ticket : ℕ) (places : Places) (source : Image) (pages : Pages) (old new : Copying) (request : Asked) → Steps ticket places old (step.Call request) new
    → FilesCopy source pages old → FilesCopy source pages new
asks ticket places source pages old new request s is =
    subst (λ (m : Copying). FilesCopy source pages m) (sym s.0.is) (filed_asked old.stage s.0.next old.order source old.entries pages is)

hands : (source : Image) (pages : Pages) (old new : Copying) (made : Made) → HandsIn old made progress.More new → FilesCopy source pages old → FilesCopy source pages new
hands source pages old new made h is =
    subst (λ (m : Copying). FilesCopy source pages m) (sym h.is) (filed_after old.stage (plan_after h.plan made) (plan_after h.plan made).calls old.order source old.entries pages is)

closes : (source : Image) (pages : Pages) (copy : Copying) (plan : Planned) (header : Header) (tables : List Listed) → copy.stage ≡ Close plan header tables
    → FilesCopy source pages copy → IsFiled copy.order source copy.entries pages header tables
closes source pages copy plan header tables was is = subst (λ (s : Stage). IsFiledIn s copy.order source copy.entries pages) was is

-- ---- what it holds

-- what an image holds stands at a page that it lists
holds_listed : ((l : List Listed) → Lists (entries_listed l) l) → (catalog : List Image) (space page : ℕ) (bytes : List ℕ) (i : Image) → Holds catalog space page bytes i → In (listed_places i.spaces) (space, page)
holds_listed lists catalog space page bytes _ (Holds.by_data i place there stored) = listed_in i.spaces (lists i.spaces) (space, page) (way.Data place, there)
holds_listed lists catalog space page bytes _ (Holds.by_zero i there zeros) = listed_in i.spaces (lists i.spaces) (space, page) (way.Zero, there)
holds_listed lists catalog space page bytes _ (Holds.by_parent i parent there named holds) = listed_in i.spaces (lists i.spaces) (space, page) (way.Parent, there)

merged : ((l : List Listed) → Lists (entries_listed l) l) → HeldOnceAmong → (catalog : List Image) (source : Image) (pages : Pages) (old : Copying) (plan : Planned) (header : Header) (table : List Listed)
    → old.stage ≡ Close plan header table
    → FilesCopy source pages old → KeepsCopy catalog source pages old → HasItsNumbers old.order source → SerialsDiffer catalog → HaveTables catalog → Contains catalog source
    → IsMergedOf catalog source (image_of header pages table)
merged lists once catalog source pages old plan header table closing is was own serials tables member = record {
  checkpoint = ap (λ (h : Header). h.checkpoint) filed_one.numbers ∙ own.checkpoint;
  stands = ap (λ (h : Header). h.stands_for) filed_one.numbers ∙ own.stands;
  areas = filed_one.table.areas;
  whole = same Parent ∙ was.merging.copy.none;
  bytes = λ space page bytes. (to space page bytes, from space page bytes);
}
  where
    filed_one : IsFiled old.order source old.entries pages header table
    filed_one = closes source pages old plan header table closing is

    same : (kind : RunKind) → pages_of kind table ≡ pages_by kind old.entries
    same = filed_one.table.table.lists

    over : was.rest ≡ []
    over = subst (λ (s : Stage). IsOverIn s was.rest) closing was.over

    all : map place_of_entry old.entries ≡ listed_places source.spaces
    all = sym (append-nil (map place_of_entry old.entries)) ∙ ap (λ (l : List Place). map place_of_entry old.entries ++ l) (sym over) ∙ was.merging.all

    to : (space page : ℕ) (bytes : List ℕ) → HasItself (image_of header pages table) space page bytes → Holds catalog space page bytes source
    to space page bytes (inl (place, there, stored)) =
        let own_page = was.merging.copy.pages place (space, page) (subst (λ (l : List Place). slice_get l place ≡ Some (space, page)) (same Data) there) in
        subst (λ (b : List ℕ). Holds catalog space page b source) (one_some own_page.0 bytes (sym own_page.1 ∙ stored)) own_page.2
    to space page bytes (inr (there, zeros)) =
        subst (λ (b : List ℕ). Holds catalog space page b source) (sym zeros)
        (was.merging.copy.zero (space, page) (subst (λ (l : List Place). Contains l (space, page)) (same Zero) there))

    from : (space page : ℕ) (bytes : List ℕ) → Holds catalog space page bytes source → HasItself (image_of header pages table) space page bytes
    from space page bytes holds = by kind.0 kind.1
      where
        there : In (map place_of_entry old.entries) (space, page)
        there = subst (λ (l : List Place). In l (space, page)) (sym all) (holds_listed lists catalog space page bytes source holds)

        kind : (kind : RunKind) × In (pages_by kind old.entries) (space, page)
        kind = in_kind old.entries (space, page) there

        by : (kind : RunKind) → In (pages_by kind old.entries) (space, page) → HasItself (image_of header pages table) space page bytes
        by Data has =
            let at = at_in (pages_by Data old.entries) (space, page) has in
            let own_page = was.merging.copy.pages at.0 (space, page) at.1 in
            inl (
              at.0,
              subst (λ (l : List Place). slice_get l at.0 ≡ Some (space, page)) (sym (same Data)) at.1,
              own_page.1 ∙ ap (λ (b : List ℕ). Some b) (once catalog space page own_page.0 bytes source serials tables member own_page.2 holds),
            )
        by Parent has = absurd (subst (λ (l : List Place). In l (space, page)) was.merging.copy.none has)
        by Zero has =
            let zero_there = contains_in (pages_by Zero old.entries) (space, page) has in
            inr (
              subst (λ (l : List Place). Contains l (space, page)) (sym (same Zero)) zero_there,
              once catalog space page bytes (replicate 4096 0) source serials tables member holds (was.merging.copy.zero (space, page) zero_there),
            )

no_pre_dump : Merged ≡ PreDump → ⊥
no_pre_dump e = cc

twin : ((l : List Listed) → Lists (entries_listed l) l) → HeldOnceAmong → MergedRepeats → (catalog : List Image) (source : Image) (pages : Pages) (copy : Copying) (plan : Planned) (header : Header) (tables : List Listed)
    → copy.stage ≡ Close plan header tables
    → FilesCopy source pages copy → KeepsCopy catalog source pages copy → HasItsNumbers copy.order source → SerialsDiffer catalog → HaveTables catalog → Contains catalog source
    → AreItsNumbers copy.order → ((j : Image) → Contains catalog j → j.header.serial < copy.order.serial)
    → IsMergedCopy catalog (Some source) (image_of header pages tables)
twin lists once repeats catalog source pages copy plan header tables closing is was own serials all member numbers above = record {
  source = source;
  running = refl;
  repeats = repeats catalog source (image_of header pages tables) (merged lists once catalog source pages copy plan header tables closing is was own serials all member);
  restorable = λ e. no_pre_dump (sym (ap (λ (h : Header). h.kind) filed_one.numbers) ∙ e);
  alone = ap (λ (h : Header). h.parent) filed_one.numbers;
  falls = subst (λ n. 0 < n) (sym (ap (λ (h : Header). h.stands_for) filed_one.numbers)) numbers.stands;
  serial = λ j there e. (let less : j.header.serial < copy.order.serial = above j there in let same : header.serial ≡ copy.order.serial = own_serial in omega (arith, e));
  above = λ j there stands. subst (λ n. j.header.serial < n) (sym own_serial) (above j there);
}
  where
    filed_one : IsFiled copy.order source copy.entries pages header tables
    filed_one = closes source pages copy plan header tables closing is

    own_serial : header.serial ≡ copy.order.serial
    own_serial = ap (λ (h : Header). h.serial) filed_one.numbers

pub file_laws : ((l : List Listed) → Lists (entries_listed l) l) → TextIsImage → BodiesFill → HeldOnceAmong → MergedRepeats → FileLaws
file_laws lists text bodies once repeats = record {
  files = files lists text;
  fills = fills bodies;
  asks = asks;
  hands = hands;
  closes = closes;
  merged = merged lists once;
  twin = twin lists once repeats;
}
