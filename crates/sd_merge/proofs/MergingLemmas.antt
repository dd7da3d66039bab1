-- What a merged image in the making has of its source, through each of its steps.
use Rattle.std.proofs.Common.{◌≡◌, ◌≢◌, ◌⊎◌, ℕ, zero, suc, ◌+◌, ◌≤◌, List, [], ◌∷◌, ◌++◌, length, map, filter, min, sum_by, Contains, Option, Some, None, refl, sym, ◌∙◌, ap, subst, inl, inr, arith}
use Rattle.std.specs.Prelude.{slice_get, replicate}
use Rattle.std.specs.List.{concat, flat_map}
use Rattle.std.proofs.lemmas.List.Folds.{concat-append}
use Rattle.std.proofs.lemmas.List.{map-append, append_assoc, append-nil, length-append, length-map}
use Rattle.std.proofs.lemmas.List.Elements.{filter-append}
use Rattle.std.proofs.lemmas.List.Sums.{sum_by-cons}
use Rattle.sd_writing.proofs.EntryLemmas.{length-pages_from, slice_get_back}
use Rattle.sd_chain.proofs.TablePages.{get_left}
use Rattle.sd_writing.proofs.TableLemmas.{all_put}
use Rattle.sd_areas.specs.declared.area.Area.{Area}
use Rattle.sd_areas.specs.Areas.{area_pages}
use Rattle.sd_image.specs.declared.header.Header.{Header}
use Rattle.sd_image.specs.declared.header.Kind.TheVariants.{PreDump}
use Rattle.sd_image.specs.declared.run.Run.{Run}
use Rattle.sd_image.specs.declared.run.RunKind.{RunKind}
use Rattle.sd_image.specs.declared.run.RunKind.TheVariants.{Data, Parent, Zero}
use Rattle.sd_image.specs.Digests.{HasFed}
use Rattle.sd_image.specs.Image.{Image}
use Rattle.sd_image.specs.Laws.{SerialsDiffer}
use Rattle.sd_image.specs.Shows.{Holds, IsNamed, IsRestorable, pages_of}
use Rattle.sd_image.specs.Table.{AreSpaces, IsTable, Listed, mapped_count, run_pages}
use Rattle.sd_image.proofs.Members.{contains_at, place_in}
use Rattle.sd_chain.specs.declared.found.Found.{Found}
use Rattle.sd_chain.specs.declared.found.Found.TheVariants as found
use Rattle.sd_chain.specs.Catalog.{IsSoundCatalog, Opened, Places, images}
use Rattle.sd_chain.specs.Recorded.{Agrees, HaveDataPages, IsRecordedAs}
use Rattle.sd_chain.specs.Passes.{IsListed, IsNextPageOfImage}
use Rattle.sd_chain.specs.Ways.{LiesAt, LiesBySerial}
use Rattle.sd_gate.specs.Plans.{Planned}
use Rattle.sd_gate.specs.declared.call.Call.{Call}
use Rattle.sd_gate.specs.declared.call.Call.TheVariants.{Read}
use Rattle.sd_gate.specs.Requests.{Asked, Made}
use Rattle.sd_gate.specs.Sequences.{Calls, data_place}
use Rattle.sd_writing.specs.Files.{Stored, listed_pages, Pages}
use Rattle.sd_writing.specs.Entries.{Lists, entries_listed, run_entries, ImageEntry, Place, data_pages, has_kind, pages_by, place_of_entry}
use Rattle.sd_store_laws.specs.Cut.{CutHoldsTheSame, IsCut, KeepsItsNumber}
use Rattle.sd_store_laws.specs.Needed.{IsCalled}
use Rattle.sd_store_laws.specs.Reached.{Reaches}
use Rattle.sd_merge.specs.declared.copy_order.CopyOrder.{CopyOrder}
use Rattle.sd_writing.specs.declared.written.Written.TheVariants as progress
use Rattle.sd_merge.specs.declared.merge_step.MergeStep.{MergeStep}
use Rattle.sd_merge.specs.declared.merge_step.MergeStep.TheVariants as step
use Rattle.sd_merge.specs.declared.stage.Stage.{Stage}
use Rattle.sd_merge.specs.declared.stage.Stage.TheVariants.{PageRead, PageWrite}
use Rattle.sd_merge.specs.Copying.{Copying, HandsIn, IsLost, Steps, begun_copy, cursor, is_taking, page_or_zeros, read_after, stage_after, with_plan}
use Rattle.sd_merge.specs.Sources.{few_pages, listed_count, runs_count}
use Rattle.sd_merge.specs.Merging.{IsCopy, IsFirstOf, IsOverIn, IsReadOf, IsSoundCopy, IsSourceAt, KeepsCopy, MergeLaws, ReadsSource, listed_places, pages_after}
use Rattle.sd_merge.proofs.OrderLemmas.{In, contains_in, next_is_first, none_is_over}
use Rattle.sd_merge.proofs.PageLemmas.{page_whole}
use Rattle.sd_merge.proofs.PlanLemmas.{free_in_pass}
use Rattle.sd_merge.proofs.TableLemmas.{covers, places_cons, runs_places}

-- ---- lists

no_some : {X : Type 0} (x : X) → None ≡ Some x → ⊥
no_some x e = cc

pub one_some : {X : Type 0} (x y : X) → Some x ≡ Some y → x ≡ y
one_some x y e = cc

abbrev put : List ImageEntry → Place → RunKind → List ImageEntry
put entries at kind = entries ++ (record { place = at; kind = kind }) ∷ []

pages_append : (kind : RunKind) (xs ys : List ImageEntry) → pages_by kind (xs ++ ys) ≡ pages_by kind xs ++ pages_by kind ys
pages_append kind xs ys = ap (map place_of_entry) (filter-append (has_kind kind) xs ys) ∙ map-append place_of_entry (filter (has_kind kind) xs) (filter (has_kind kind) ys)

-- a place in a list with one more at its end
slice_more : {X : Type 0} (xs : List X) (y : X) (k : ℕ) (x : X) → slice_get (xs ++ y ∷ []) k ≡ Some x → (slice_get xs k ≡ Some x) ⊎ ((k ≡ length xs) × (y ≡ x))
slice_more [] y zero x e = inr (refl, one_some y x e)
slice_more [] y (suc k) x e = absurd (no_some x e)
slice_more (z ∷ xs) y zero x e = inl e
slice_more (z ∷ xs) y (suc k) x e = elim (slice_more xs y k x e) [ inl f ↦ inl f | inr f ↦ inr (ap (λ n. suc n) f.0, f.1) ]

-- ---- one page more

places_put : (entries : List ImageEntry) (at : Place) (kind : RunKind) (rest later all : List Place) → map place_of_entry entries ++ rest ≡ all → rest ≡ at ∷ later
    → map place_of_entry (put entries at kind) ++ later ≡ all
places_put entries at kind rest later all e is = grind (arith, map-append, append_assoc)

copy_zero : (catalog : List Image) (source : Image) (stored : Stored) (entries : List ImageEntry) (at : Place) → IsCopy catalog source stored entries
    → Holds catalog at.0 at.1 (replicate 4096 0) source → IsCopy catalog source stored (put entries at Zero)
copy_zero catalog source stored entries at is holds = record {
  zero = λ p there. (let k = place_in (pages_by Zero (put entries at Zero)) p there in
      elim (slice_more (pages_by Zero entries) at k.0 p (subst (λ (l : List Place). slice_get l k.0 ≡ Some p) (pages_append Zero entries _) k.1)) [
        | inl f ↦ is.zero p (contains_at (pages_by Zero entries) k.0 p f)
        | inr f ↦ subst (λ (q : Place). Holds catalog q.0 q.1 (replicate 4096 0) source) f.1 holds
      ]);
  pages = λ place p there. is.pages place p (subst (λ (l : List Place). slice_get l place ≡ Some p) (pages_append Data entries _ ∙ append-nil (pages_by Data entries)) there);
  none = pages_append Parent entries _ ∙ append-nil (pages_by Parent entries) ∙ is.none;
}

copy_data : (catalog : List Image) (source : Image) (pages : Pages) (entries : List ImageEntry) (at : Place) (bytes : List ℕ) → length pages ≡ data_pages entries
    → IsCopy catalog source (listed_pages pages) entries → Holds catalog at.0 at.1 bytes source → IsCopy catalog source (listed_pages (pages ++ bytes ∷ [])) (put entries at Data)
copy_data catalog source pages entries at bytes count is holds = grind (arith, pages_append, append-nil, slice_more, get_left, slice_get_back)

counts_zero : (entries : List ImageEntry) (at : Place) → data_pages (put entries at Zero) ≡ data_pages entries
counts_zero entries at = ap (λ (l : List Place). length l) (pages_append Data entries _ ∙ append-nil (pages_by Data entries))

counts_data : (entries : List ImageEntry) (at : Place) → data_pages (put entries at Data) ≡ data_pages entries + 1
counts_data entries at = ap (λ (l : List Place). length l) (pages_append Data entries _) ∙ length-append (pages_by Data entries) (at ∷ [])

-- ---- what the catalog says

pub source_table : (places : Places) (catalog : List Image) (serial : ℕ) (source : Image) → IsSourceAt places catalog serial source → IsTable source.header source.spaces
source_table places catalog serial source at = grind arith

first_of : ((l : List Listed) → Lists (entries_listed l) l) → (places : Places) (catalog : List Image) (source : Image) (old : Copying) (rest : List Place) (at : Place)
    → IsSourceAt places catalog old.order.source.serial source → map place_of_entry old.entries ++ rest ≡ listed_places source.spaces
    → IsNextPageOfImage places old.order.source.serial (cursor old) (Some at) → IsFirstOf rest at
first_of lists places catalog source old rest at is all next = grind (arith, next_is_first, source_table)

pub over_of : ((l : List Listed) → Lists (entries_listed l) l) → (places : Places) (catalog : List Image) (source : Image) (old : Copying) (rest : List Place)
    → IsSourceAt places catalog old.order.source.serial source → map place_of_entry old.entries ++ rest ≡ listed_places source.spaces
    → IsNextPageOfImage places old.order.source.serial (cursor old) None → rest ≡ []
over_of lists places catalog source old rest is all next =
    none_is_over source.header source.spaces old.entries rest (source_table places catalog old.order.source.serial source is) (lists source.spaces) all
    (λ page listed behind. next.0 is.opened is.there page (subst (λ (l : List Listed). IsListed l page) is.told.spaces listed) behind)

pub one_opened : (a b : Opened) → Some (Some a) ≡ Some (Some b) → a ≡ b
one_opened a b e = cc

-- a page of zeros in the catalog is zeros that the source holds
holds_zero : (places : Places) (catalog : List Image) (serial : ℕ) (source : Image) (at : Place) → IsSourceAt places catalog serial source → LiesBySerial places serial at found.Zero
    → Holds catalog at.0 at.1 (replicate 4096 0) source
holds_zero places catalog serial source at is lies =
    let same : lies.0 ≡ is.opened = one_opened lies.0 is.opened (sym lies.1 ∙ is.there) in
    let held = is.agrees.lies is.pages at found.Zero is.opened source is.among is.member is.told (subst (λ (i : Opened). LiesAt places at found.Zero i) same lies.2) in
    subst (λ (b : List ℕ). Holds catalog at.0 at.1 b source) held.2 held.1

-- ---- the steps

pub over_asked : (stage : Stage) (plan : Planned) (rest : List Place) → IsOverIn stage rest → IsOverIn (with_plan stage plan) rest
over_asked stage plan rest is = grind arith

abbrev first_bytes : Calls → List ℕ
first_bytes [] = []
first_bytes (call ∷ calls) = call.1

zeros_more : (n a b : ℕ) → n ≡ 0 + b → b ≡ a + 1 → n ≡ 1 + a
zeros_more n a b e f = omega arith

-- one page fewer is to come
one_fewer : (rest later : List Place) (at : Place) (taking ahead : ℕ) → rest ≡ at ∷ later → length rest ≡ taking + ahead → length later + 1 ≡ taking + ahead
one_fewer rest later at taking ahead is e = (let f : length rest ≡ suc (length later) = ap (λ (l : List Place). length l) is in omega arith)

-- the bytes of one page more
concat_snoc : (pages : Pages) (page : List ℕ) → concat (pages ++ page ∷ []) ≡ concat pages ++ page
concat_snoc pages page = concat-append pages (page ∷ []) ∙ ap (λ (xs : List ℕ). concat pages ++ xs) (append-nil page)

steps : ((l : List Listed) → Lists (entries_listed l) l) → (ticket : ℕ) (places : Places) (catalog : List Image) (source : Image) (pages : Pages) (old new : Copying) (made : MergeStep)
    → Steps ticket places old made new → IsSoundCopy old → IsSourceAt places catalog old.order.source.serial source
    → KeepsCopy catalog source pages old → KeepsCopy catalog source (pages_after made pages) new
steps lists ticket places catalog source pages old new (step.Call request) s sound is was =
    subst (λ (m : Copying). KeepsCopy catalog source pages m) (sym s.0.is) (record {
      count = was.count;
      whole = was.whole;
      digested = was.digested;
      rest = was.rest;
      merging = was.merging;
      ahead = was.ahead;
      taking = was.taking;
      read = was.read;
      over = over_asked old.stage s.0.next was.rest was.over;
    })
steps lists ticket places catalog source pages old new (step.ReadCall request) s sound is was =
    subst (λ (m : Copying). KeepsCopy catalog source pages m) (sym s.0.reads.is) (record {
      count = was.count;
      whole = was.whole;
      digested = was.digested;
      rest = was.rest;
      merging = was.merging;
      ahead = zeros_more (length was.rest) new.ahead old.ahead (was.ahead ∙ ap (λ (o : Option Place). is_taking o + old.ahead) s.0.reads.free) s.0.reads.fewer;
      taking = λ at e. subst (λ (p : Place). IsFirstOf was.rest p) (one_some s.0.at at e)
          (first_of lists places catalog source old was.rest s.0.at is was.merging.all (s.0.next is.are).next);
      read = λ at bytes e f. absurd (no_some bytes (sym (free_in_pass old.entries old.taking old.read old.stage s.0.reads.stage s.0.reads.free sound).read ∙ f));
      over = tt;
    })
steps lists ticket places catalog source pages old new (step.PageCall request) s sound is was =
    subst (λ (m : Copying). KeepsCopy catalog source (pages ++ request.bytes ∷ []) m) (sym s.0.is)
    (subst (λ (b : List ℕ). KeepsCopy catalog source (pages ++ b ∷ [])
    (record old { entries = put old.entries s.0.at Data; taking = None; read = None; stage = PageWrite s.0.next; digester = new.digester })) (ap first_bytes s.0.gives.next) (record {
      count = length-append pages (s.0.bytes ∷ []) ∙ ap (λ n. n + 1) was.count ∙ sym (counts_data old.entries s.0.at);
      whole = all_put (λ page. length page ≡ 4096) pages s.0.bytes was.whole holds.0;
      digested = subst (HasFed new.digester) (sym (concat_snoc pages s.0.bytes)) (s.0.digester (concat pages) was.digested);
      rest = first.later;
      merging = record {
        all = places_put old.entries s.0.at Data was.rest first.later (listed_places source.spaces) was.merging.all first.is;
        copy = copy_data catalog source pages old.entries s.0.at s.0.bytes was.count was.merging.copy holds.1;
      };
      ahead = (let e : is_taking old.taking ≡ 1 = ap is_taking s.0.taking in let f : length first.later + 1 ≡ is_taking old.taking + old.ahead = one_fewer was.rest first.later s.0.at (is_taking old.taking) old.ahead first.is was.ahead in omega arith);
      taking = λ at e. absurd (no_some at e);
      read = λ at bytes e f. absurd (no_some at e);
      over = tt;
    }))
  where
    first : IsFirstOf was.rest s.0.at
    first = was.taking s.0.at s.0.taking

    holds : (length s.0.bytes ≡ 4096) × Holds catalog s.0.at.0 s.0.at.1 s.0.bytes source
    holds = was.read s.0.at s.0.bytes s.0.taking s.0.read
steps lists ticket places catalog source pages old new (step.TableCall request) s sound is was =
    subst (λ (m : Copying). KeepsCopy catalog source pages m) (sym s.0.writes.is) (record {
      count = was.count;
      whole = was.whole;
      digested = was.digested;
      rest = was.rest;
      merging = was.merging;
      ahead = was.ahead;
      taking = was.taking;
      read = was.read;
      over = over_of lists places catalog source old was.rest is was.merging.all (s.0.over is.are);
    })
steps lists ticket places catalog source pages old new step.Zero s sound is was =
    subst (λ (m : Copying). KeepsCopy catalog source pages m) (sym s.takes.is) (record {
      count = was.count ∙ sym (counts_zero old.entries s.at);
      whole = was.whole;
      digested = was.digested;
      rest = first.later;
      merging = record {
        all = places_put old.entries s.at Zero was.rest first.later (listed_places source.spaces) was.merging.all first.is;
        copy = copy_zero catalog source (listed_pages pages) old.entries s.at was.merging.copy (holds_zero places catalog old.order.source.serial source s.at is (s.next is.are).lies);
      };
      ahead = (let e : is_taking old.taking ≡ 0 = ap is_taking s.takes.free in let f : length first.later + 1 ≡ is_taking old.taking + old.ahead = one_fewer was.rest first.later s.at (is_taking old.taking) old.ahead first.is was.ahead in
          let g : old.ahead ≡ new.ahead + 1 = s.takes.fewer in omega arith);
      taking = λ at e. absurd (no_some at (sym s.takes.free ∙ e));
      read = λ at bytes e f. absurd (no_some at (sym s.takes.free ∙ e));
      over = subst (λ (g : Stage). IsOverIn g first.later) (sym s.takes.stage) tt;
    })
  where
    first : IsFirstOf was.rest s.at
    first = first_of lists places catalog source old was.rest s.at is was.merging.all (s.next is.are).next

-- ---- a read

-- the data page of an image that another reaches, and what that one holds
record IsPageOf (places : Places) (catalog : List Image) (page : Place) (slot offset : ℕ) (from : Image) : Type 0 where
  pub opened : Opened
  pub image : Image
  pub among : Contains (images places) opened
  pub member : Contains catalog image
  pub told : IsRecordedAs opened image
  pub own_slot : opened.slot ≡ slot
  pub reached : Reaches catalog image from
  pub place : ℕ
  pub here : offset ≡ data_place place
  pub bytes : List ℕ
  pub stored : slice_get image.pages place ≡ Some bytes
  pub holds : Holds catalog page.0 page.1 bytes from

slots : (slot offset other number : ℕ) → found.Data slot offset ≡ found.Data other number → other ≡ slot
slots slot offset other number e = cc

pub offsets : (slot offset other number : ℕ) → found.Data slot offset ≡ found.Data other number → offset ≡ number
offsets slot offset other number e = cc

pub no_zero : (slot offset : ℕ) → found.Data slot offset ≡ found.Zero → ⊥
no_zero slot offset e = cc

page_of_chain : (places : Places) (catalog : List Image) (page : Place) (slot offset : ℕ) (there : Found) → IsSoundCatalog places → Agrees places catalog → HaveDataPages catalog → there ≡ found.Data slot offset
    → (i : Opened) (image : Image) → Contains (images places) i → Contains catalog image → IsRecordedAs i image → LiesAt places page there i → IsPageOf places catalog page slot offset image
page_of_chain places catalog page slot offset there sound agrees pages e _ image among member told (LiesAt.by_data i place has is) =
    let listed = subst (λ (l : List Listed). slice_get (pages_of Data l) place ≡ Some page) (sym told.spaces) has in
    let stored = pages image member place page listed in
    record {
      opened = i;
      image = image;
      among = among;
      member = member;
      told = told;
      own_slot = slots slot offset i.slot _ (sym e ∙ is);
      reached = Reaches.itself;
      place = place;
      here = offsets slot offset i.slot _ (sym e ∙ is);
      bytes = stored.0;
      stored = stored.1;
      holds = Holds.by_data image place listed stored.1;
    }
page_of_chain places catalog page slot offset there sound agrees pages e _ image among member told (LiesAt.by_zero i has is) = absurd (no_zero slot offset (sym e ∙ is))
page_of_chain places catalog page slot offset there sound agrees pages e _ image among member told (LiesAt.by_parent i parent has names lies) =
    let found = agrees.at parent.header.serial parent (sound.own parent names.member) in
    let below = page_of_chain places catalog page slot offset there sound agrees pages e parent found.0 names.member found.1 found.2 lies in
    let named = subst (λ n. IsNamed catalog n found.0) (ap (λ (h : Header). h.parent) (sym told.header)) ((agrees.named i.header.parent parent found.0 names.member found.1 found.2).0 names) in
    record {
      opened = below.opened;
      image = below.image;
      among = below.among;
      member = below.member;
      told = below.told;
      own_slot = below.own_slot;
      reached = Reaches.beyond image found.0 named below.reached;
      place = below.place;
      here = below.here;
      bytes = below.bytes;
      stored = below.stored;
      holds = Holds.by_parent image found.0 (subst (λ (l : List Listed). Contains (pages_of Parent l) page) (sym told.spaces) has) named below.holds;
    }

abbrev first_call : Calls → Option Call
first_call [] = None
first_call (call ∷ calls) = Some call.0

reads : (ticket : ℕ) (places : Places) (catalog : List Image) (source : Image) (old new : Copying) (request : Asked)
    → Steps ticket places old (step.ReadCall request) new → IsSourceAt places catalog old.order.source.serial source → IsReadOf places catalog source request new.taking
reads ticket places catalog source old new request s is =
    let lies = (s.0.next is.are).lies in
    let same : lies.0 ≡ is.opened = one_opened lies.0 is.opened (sym lies.1 ∙ is.there) in
    let p = page_of_chain places catalog s.0.at s.0.slot (data_place s.0.place) (found.Data s.0.slot (data_place s.0.place)) is.sound is.agrees is.pages refl is.opened source is.among is.member is.told
    (subst (λ (i : Opened). LiesAt places s.0.at (found.Data s.0.slot (data_place s.0.place)) i) same lies.2) in
    record {
      at = s.0.at;
      taking = ap (λ (m : Copying). m.taking) s.0.reads.is;
      opened = p.opened;
      image = p.image;
      among = p.among;
      member = p.member;
      told = p.told;
      slot = p.own_slot ∙ sym s.0.reads.gives.slot;
      reached = p.reached;
      place = p.place;
      call = one_some _ _ (sym (ap first_call s.0.reads.gives.next)) ∙ ap (λ n. Read n) p.here;
      bytes = p.bytes;
      stored = p.stored;
      holds = p.holds;
    }

-- ---- outcomes

over_after : (stage : Stage) (plan : Planned) (calls : Calls) (rest : List Place) → IsOverIn stage rest → IsOverIn (stage_after stage plan calls) rest
over_after stage plan calls rest is = grind arith

-- what was read is what the source holds
read_more : (stage : Stage) (catalog : List Image) (source : Image) (entries : List ImageEntry) (taking : Option Place) (old : Option (List ℕ)) (made : Made)
    → ((at : Place) (bytes : List ℕ) → taking ≡ Some at → old ≡ Some bytes → (length bytes ≡ 4096) × Holds catalog at.0 at.1 bytes source)
    → ReadsSource stage catalog source taking made
    → (at : Place) (bytes : List ℕ) → taking ≡ Some at → read_after stage made old ≡ Some bytes → (length bytes ≡ 4096) × Holds catalog at.0 at.1 bytes source
read_more (PageRead plan) catalog source entries taking old made was tells at bytes e f =
    let told = tells at e in
    let same : made.request.bytes ≡ bytes = sym (page_whole made.request.bytes told.0) ∙ one_some (page_or_zeros made.request.bytes) bytes f in
    subst (λ (b : List ℕ). (length b ≡ 4096) × Holds catalog at.0 at.1 b source) same told
read_more _ catalog source entries taking old made was tells at bytes e f = was at bytes e f

hands : (catalog : List Image) (source : Image) (pages : Pages) (old new : Copying) (made : Made) → HandsIn old made progress.More new → IsSoundCopy old
    → ReadsSource old.stage catalog source old.taking made → KeepsCopy catalog source pages old → KeepsCopy catalog source pages new
hands catalog source pages old new made h sound tells was = grind (arith, read_more, over_after)

-- ---- the beginning

areas_long : (areas : List Area) → length (flat_map area_pages areas) ≡ sum_by (λ (a : Area). a.count) areas
areas_long [] = refl
areas_long (a ∷ areas) =
    length-append (area_pages a) (flat_map area_pages areas)
    ∙ omega (arith, length-pages_from a.first a.count, areas_long areas)
    ∙ sym (sum_by-cons (λ (a : Area). a.count) a areas)

abbrev areas_count : Listed → ℕ
areas_count s = sum_by (λ (a : Area). a.count) s.areas

places_long : (h : Header) (before : ℕ) (spaces : List Listed) → h.kind ≢ PreDump → AreSpaces h before spaces → length (listed_places spaces) ≡ mapped_count spaces
places_long h before [] other are = refl
places_long h before (s ∷ spaces) other are =
    ap (λ (l : List Place). length l) (places_cons s spaces)
    ∙ length-append _ (listed_places spaces)
    ∙ omega (arith, one, places_long h s.space spaces other are.1)
    ∙ sym (sum_by-cons areas_count s spaces)
  where
    one : length (map place_of_entry (flat_map (run_entries s.space) s.runs)) ≡ areas_count s
    one = ap (λ (l : List Place). length l) (runs_places s.space s.runs) ∙ length-map (flat_map run_pages s.runs) _
        ∙ ap (λ (l : List ℕ). length l) (covers h.kind s.areas s.runs other are.0.covers) ∙ areas_long s.areas

runs_long : (runs : List Run) → length (flat_map run_pages runs) ≡ runs_count runs
runs_long [] = refl
runs_long (r ∷ runs) =
    length-append (run_pages r) (flat_map run_pages runs)
    ∙ omega (arith, length-pages_from r.first r.count, runs_long runs)
    ∙ sym (sum_by-cons (λ (r : Run). r.count) r runs)

abbrev own_count : Listed → ℕ
own_count s = runs_count s.runs

listed_long : (spaces : List Listed) → length (listed_places spaces) ≡ listed_count spaces
listed_long [] = refl
listed_long (s ∷ spaces) =
    ap (λ (l : List Place). length l) (places_cons s spaces)
    ∙ length-append _ (listed_places spaces)
    ∙ omega (arith, one, listed_long spaces)
    ∙ sym (sum_by-cons own_count s spaces)
  where
    one : length (map place_of_entry (flat_map (run_entries s.space) s.runs)) ≡ own_count s
    one = ap (λ (l : List Place). length l) (runs_places s.space s.runs) ∙ length-map (flat_map run_pages s.runs) _ ∙ runs_long s.runs

begins : (catalog : List Image) (source : Image) (order : CopyOrder) → IsTable source.header source.spaces → IsRestorable source
    → order.source.pages ≡ few_pages (listed_count source.spaces) → KeepsCopy catalog source [] (begun_copy order)
begins catalog source order table restorable pages = record {
  count = refl;
  whole = tt;
  digested = refl;
  rest = listed_places source.spaces;
  merging = record {
    all = refl;
    copy = record {
      zero = λ at there. absurd (let k = place_in [] at there in no_some at k.1);
      pages = λ place at there. absurd (no_some at there);
      none = refl;
    };
  };
  ahead = (let few : mapped_count source.spaces ≤ 65536 = table.mapped in
      let long : length (listed_places source.spaces) ≡ mapped_count source.spaces = places_long source.header 0 source.spaces restorable table.each in
      let is : few_pages order.source.pages ≡ few_pages (few_pages (length (listed_places source.spaces))) = ap few_pages (pages ∙ ap few_pages (sym (listed_long source.spaces))) in
      least (length (listed_places source.spaces)) (few_pages order.source.pages) is (subst (λ n. n ≤ 65536) (sym long) few));
  taking = λ at e. absurd (no_some at e);
  read = λ at bytes e f. absurd (no_some at e);
  over = tt;
}
  where
    least : (n m : ℕ) → m ≡ min (min n 65536) 65536 → n ≤ 65536 → n ≡ 0 + m
    least n m e few = omega arith

-- ---- nothing is lost

finds : ((l : List Listed) → Lists (entries_listed l) l) → (places : Places) (catalog : List Image) (source : Image) (pages : Pages) (copy : Copying) → IsSourceAt places catalog copy.order.source.serial source
    → ((at : Place) → Contains (listed_places source.spaces) at → (bytes : List ℕ) × Holds catalog at.0 at.1 bytes source)
    → KeepsCopy catalog source pages copy → IsLost places copy → ⊥
finds lists places catalog source pages copy is held was lost =
    elim (lost.why is.are) [
      | inl absent ↦ absent is.opened is.there
      | inr at ↦ by at.0 at.1.next at.1.lost
    ]
  where
    by : (at : Place) → IsNextPageOfImage places copy.order.source.serial (cursor copy) (Some at) → (copy.ahead ≡ 0) ⊎ ((there : Found) → LiesBySerial places copy.order.source.serial at there → ⊥) → ⊥
    by at next (inl none) =
        let first = first_of lists places catalog source copy was.rest at is was.merging.all next in
        let long : length was.rest ≡ suc (length first.later) = ap (λ (l : List Place). length l) first.is in
        let ahead : length was.rest ≡ is_taking copy.taking + copy.ahead = was.ahead in
        let free : is_taking copy.taking ≡ 0 = ap is_taking lost.free in
        omega arith
    by at next (inr none) =
        let first = first_of lists places catalog source copy was.rest at is was.merging.all next in
        let bytes = held at (listed_at first) in
        let there = is.agrees.held at bytes.0 is.opened source is.among is.member is.told bytes.1 in
        none there.0 (is.opened, is.there, there.1)
      where
        put_in : (xs : List Place) (ys : List Place) → In (xs ++ at ∷ ys) at
        put_in [] ys = inl refl
        put_in (x ∷ xs) ys = inr (put_in xs ys)

        listed_at : IsFirstOf was.rest at → Contains (listed_places source.spaces) at
        listed_at first = contains_in (listed_places source.spaces) at
            (subst (λ (l : List Place). In l at) (ap (λ (l : List Place). map place_of_entry copy.entries ++ l) (sym first.is) ∙ was.merging.all) (put_in (map place_of_entry copy.entries) first.later))

-- ---- other images

pub stays : (catalog other : List Image) (source : Image) (pages : Pages) (copy : Copying)
    → ((space page : ℕ) (bytes : List ℕ) → Holds catalog space page bytes source → Holds other space page bytes source)
    → KeepsCopy catalog source pages copy → KeepsCopy other source pages copy
stays catalog other source pages copy holds was = record {
  count = was.count;
  whole = was.whole;
  digested = was.digested;
  rest = was.rest;
  merging = record {
    all = was.merging.all;
    copy = record {
      zero = λ at there. holds at.0 at.1 (replicate 4096 0) (was.merging.copy.zero at there);
      pages = λ place at there. (let old = was.merging.copy.pages place at there in (old.0, old.1, holds at.0 at.1 old.0 old.2));
      none = was.merging.copy.none;
    };
  };
  ahead = was.ahead;
  taking = was.taking;
  read = λ at bytes e f. (let old = was.read at bytes e f in (old.0, holds at.0 at.1 bytes old.1));
  over = was.over;
}

goes_on : CutHoldsTheSame → (catalog adding left : List Image) (jobs : List ℕ) (source : Image) (pages : Pages) (copy : Copying)
    → SerialsDiffer catalog → IsCut catalog adding jobs left → ((added : Image) → Contains adding added → KeepsItsNumber catalog jobs added)
    → IsCalled catalog jobs source.header.parent → KeepsCopy catalog source pages copy → KeepsCopy left source pages copy
goes_on law catalog adding left jobs source pages copy serials cut keeps called was =
    stays catalog left source pages copy (λ space page bytes holds. (law catalog adding left jobs source serials cut keeps called space page bytes).0 holds) was

pub merge_laws : ((l : List Listed) → Lists (entries_listed l) l) → CutHoldsTheSame → MergeLaws
merge_laws lists law = record {
  begins = begins;
  steps = steps lists;
  reads = reads;
  hands = hands;
  finds = finds lists;
  stays = stays;
  goes_on = goes_on law;
}
