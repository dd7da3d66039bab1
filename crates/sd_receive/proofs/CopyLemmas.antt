-- A memory whose pages were copied into a slot.
use Rattle.std.proofs.Common.{◌≡◌, ◌<◌, ◌+◌, ◌*◌, ℕ, zero, suc, List, [], ◌∷◌, ◌++◌, length, map, Option, Some, take, slice_get, slice_set, slice_index_or, get_or, refl, sym, ◌∙◌, ap, subst, arith}
use Rattle.std.specs.Prelude.{slice_range}
use Rattle.std.specs.List.{AllZip}
use Rattle.std.specs.FinMap as finmap
use Rattle.std.proofs.lemmas.List.{get_or-set_same, map-append, take_more}
use Rattle.std.proofs.lemmas.List.Elements.{AllZip-push}
use Rattle.std.proofs.lemmas.Option.{same_Some, slice_get-get_or, slice_get_within}
use Rattle.sd_areas.specs.PlainMemory.{PlainMemory}
use Rattle.sd_areas.specs.Memory.{put_page}
use Rattle.sd_disk.specs.Reads.{OnlyReads}
use Rattle.sd_disk.specs.Spans.{LeavesOnly}
use Rattle.sd_disk.specs.declared.disk.Disk.{Ghosts}
use Rattle.sd_image.specs.declared.digester.Digester.{Digester}
use Rattle.sd_image.specs.declared.run.RunKind.TheVariants.{Data}
use Rattle.sd_image.specs.Image.{Image, IsImage}
use Rattle.sd_image.specs.Laws.{ShownOnce}
use Rattle.sd_image.specs.Shows.{Shows, pages_of}
use Rattle.sd_image.specs.Table.{Listed, listing_of}
use Rattle.sd_image.specs.declared.table.SpaceTable.{SpaceTable}
use Rattle.sd_image.proofs.PageBytes.{counted_spaces, page_in_file_lem}
use Rattle.sd_chain.specs.declared.found.Found.{Found}
use Rattle.sd_chain.specs.declared.found.Found.TheVariants as found
use Rattle.sd_chain.specs.Store.{bytes_at}
use Rattle.sd_gate.specs.Sequences.{data_place}
use Rattle.sd_restore.specs.Placed.{PlacedPage, placed_memory, placed_page, with_pages, with_spaces}
use Rattle.sd_receive.specs.declared.copying.Copied.{Copied}
use Rattle.sd_receive.specs.declared.mapped.MappedPage.{MappedPage}
use Rattle.sd_receive.specs.declared.merging.Merged.{Merged}
use Rattle.sd_receive.specs.Arriving.{IsFilled, IsSettled, KeepsImages}
use Rattle.sd_receive.proofs.FillLemmas.{span_of_reads}
use Rattle.sd_receive.proofs.SettledLemmas.{filled_fewer, settled_leaves}
use Rattle.sd_receive.specs.Copies.{CopiesNewest, IsFoundAsCopied}
use Rattle.sd_receive.specs.Merged.{AddsBytes, AreAlikeBut, HasCopies, IsCopyOf, IsElsewhere, IsStoredAt, LiesAmong, page_of, pages_seen}

-- ---- lists

pub same_lists : {X : Type 0} (xs ys : List X) → length xs ≡ length ys → ((k : ℕ) (d : X) → k < length xs → slice_index_or xs k d ≡ slice_index_or ys k d) → xs ≡ ys
same_lists [] [] long each = refl
same_lists [] (y ∷ ys) long each = absurd (omega (arith, long))
same_lists (x ∷ xs) [] long each = absurd (omega (arith, long))
same_lists (x ∷ xs) (y ∷ ys) long each =
    let first : x ≡ y = each 0 x (omega arith) in
    ap (λ z. z ∷ xs) first ∙ ap (λ zs. y ∷ zs) (same_lists xs ys (omega (arith, long)) (λ k d less. each (suc k) d (omega (arith, less))))

-- ---- among more data pages

pub get_left : {X : Type 0} (xs ys : List X) (k : ℕ) (x : X) → slice_get xs k ≡ Some x → slice_get (xs ++ ys) k ≡ Some x
get_left {X = X} [] ys k x is = absurd (let no_it : slice_get {X = X} [] k ≡ Some x = is in cc)
get_left (y ∷ xs) ys zero x is = is
get_left (y ∷ xs) ys (suc k) x is = get_left xs ys k x is

pub get_last : {X : Type 0} (xs : List X) (x : X) → slice_get (xs ++ x ∷ []) (length xs) ≡ Some x
get_last [] x = refl
get_last (y ∷ xs) x = get_last xs x

lies_more : (pages later : List (List ℕ)) (slot : ℕ) (bytes : List ℕ) (there : Found) → LiesAmong pages slot bytes there → LiesAmong (pages ++ later) slot bytes there
lies_more pages later slot bytes found.Zero lies = lies
lies_more pages later slot bytes (found.Data other offset) lies = (lies.0, lies.1, lies.2, get_left pages later lies.1 bytes lies.3)

copies_more : (from pages later : List (List ℕ)) (slot : ℕ) (ps qs : List PlacedPage) → AllZip (IsCopyOf from pages slot) ps qs → AllZip (IsCopyOf from (pages ++ later) slot) ps qs
copies_more from pages later slot [] [] each = tt
copies_more from pages later slot [] (q ∷ qs) each = each
copies_more from pages later slot (p ∷ ps) [] each = each
copies_more from pages later slot (p ∷ ps) (q ∷ qs) each = (
  record { space = each.0.space; number = each.0.number; prot = each.0.prot; lies = lies_more pages later slot (bytes_at from p.there) q.there each.0.lies },
  copies_more from pages later slot ps qs each.1,
)

-- a page more
pub seen_more : (pages : List MappedPage) (i : ℕ) (page : MappedPage) → i < length pages → page ≡ slice_index_or pages i page
    → pages_seen (take (i + 1) pages) ≡ pages_seen (take i pages) ++ page_of page ∷ []
seen_more pages i page less is =
    ap pages_seen (take_more pages i page less) ∙ map-append page_of (take i pages) (slice_index_or pages i page ∷ []) ∙ ap (λ p. pages_seen (take i pages) ++ page_of p ∷ []) (sym is)

-- no copy yet
pub none_copied : (from pages : List (List ℕ)) (slot : ℕ) (copies : List MappedPage) → copies ≡ [] → AllZip (IsCopyOf from pages slot) [] (pages_seen copies)
none_copied from pages slot copies none = subst (λ (ps : List MappedPage). AllZip (IsCopyOf from pages slot) [] (pages_seen ps)) (sym none) tt

-- what lies elsewhere stays
pub bytes_alike : (slot count : ℕ) (from now : List (List ℕ)) (there : Found) → IsElsewhere slot count there → AreAlikeBut slot from now → bytes_at now there ≡ bytes_at from there
bytes_alike slot count from now found.Zero apart alike = refl
bytes_alike slot count from now (found.Data other offset) apart alike = ap (λ file. slice_range file offset (offset + 4096)) (alike other apart.0)

-- a data page more, which lies at its place
pub stored_more : (bytes : List ℕ) (pages contents : List (List ℕ)) (may_leave : List (List ℕ) → Type 0) (slot count : ℕ) (digester : Digester) → count ≡ length pages
    → AddsBytes bytes pages contents may_leave slot (count + 1) digester
    → IsStoredAt bytes pages contents may_leave slot (count + 1) digester (found.Data slot (4096 + 4096 * count))
stored_more bytes pages contents may_leave slot count digester counted adds = record {
  has = adds.has;
  later = bytes ∷ [];
  more = adds.more;
  lies = (
    refl,
    count,
    refl,
    subst (λ ds. slice_get ds count ≡ Some bytes) (sym adds.more) (subst (λ n. slice_get (pages ++ bytes ∷ []) n ≡ Some bytes) (sym counted) (get_last pages bytes)),
  );
}

module _ {D : Type 0} (g : Ghosts D) (old mid : D) where
  pub filled_read : (slot : ℕ) (pages : List (List ℕ)) → OnlyReads g old mid → IsFilled (g.contents old) (g.may_leave old) slot pages
      → IsFilled (g.contents mid) (g.may_leave mid) slot pages
  filled_read slot pages reads fill = subst (λ c. IsFilled c (g.may_leave mid) slot pages) (sym reads.same)
      (filled_fewer (g.contents old) (g.may_leave old) (g.may_leave mid) slot pages reads.crash fill)

  pub reads_keep : ((c : List (List ℕ)) → g.left_since old (g.moment old) c → g.may_leave old c) → ((c : List (List ℕ)) → g.may_leave old c → length c ≡ length (g.contents old))
      → OnlyReads g old mid → IsSettled (g.contents old) (g.may_leave old) → LeavesOnly g old mid (KeepsImages (g.contents old))
  reads_keep only_now same_slots reads rest = span_of_reads g old mid (KeepsImages (g.contents old)) reads only_now
      (λ files may. settled_leaves (g.contents old) files (g.may_leave old) rest (same_slots files may) may)

-- one copy more
pub copies_step : (from old now : List (List ℕ)) (was_may now_may : List (List ℕ) → Type 0) (slot : ℕ) (pages : List PlacedPage) (before after : Copied) (page copy : PlacedPage)
    → bytes_at old page.there ≡ bytes_at from page.there → (was : HasCopies from old was_may slot pages before)
    → IsStoredAt (bytes_at old page.there) was.has.pages now now_may slot after.stored after.digester copy.there
    → copy.space ≡ page.space → copy.page ≡ page.page → copy.prot ≡ page.prot
    → pages_seen after.pages.items ≡ pages_seen before.pages.items ++ copy ∷ [] → HasCopies from now now_may slot (pages ++ page ∷ []) after
copies_step from old now was_may now_may slot pages before after page copy same was stored space number prot seen = record {
  has = stored.has;
  each = subst (λ qs. AllZip (IsCopyOf from stored.has.pages slot) (pages ++ page ∷ []) qs) (sym seen)
      (AllZip-push (IsCopyOf from stored.has.pages slot) pages (pages_seen before.pages.items) page copy
      (subst (λ ds. AllZip (IsCopyOf from ds slot) pages (pages_seen before.pages.items)) (sym stored.more)
      (copies_more from was.has.pages stored.later slot pages (pages_seen before.pages.items) was.each))
      (record { space = space; number = number; prot = prot; lies = subst (λ bytes. LiesAmong stored.has.pages slot bytes copy.there) same stored.lies }));
}

-- ---- the memory of the copies

-- where the bytes of the copies are found, they make the same memory
pub with_copies : (from now pages : List (List ℕ)) (slot : ℕ) (memory : PlainMemory) (ps qs : List PlacedPage)
    → ((bytes : List ℕ) (there : Found) → LiesAmong pages slot bytes there → bytes_at now there ≡ bytes)
    → AllZip (IsCopyOf from pages slot) ps qs → with_pages now memory qs ≡ with_pages from memory ps
with_copies from now pages slot memory [] [] finds each = refl
with_copies from now pages slot memory [] (q ∷ qs) finds each = absurd each
with_copies from now pages slot memory (p ∷ ps) [] finds each = absurd each
with_copies from now pages slot memory (p ∷ ps) (q ∷ qs) finds each =
    ap (λ m. with_pages now m qs) same ∙ with_copies from now pages slot (put_page memory p.space p.page (placed_page from p)) ps qs finds each.1
  where
    same : put_page memory q.space q.page (placed_page now q) ≡ put_page memory p.space p.page (placed_page from p)
    same =
        ap (λ s. put_page memory s q.page (placed_page now q)) each.0.space
        ∙ ap (λ n. put_page memory p.space n (placed_page now q)) each.0.number
        ∙ ap (λ r. put_page memory p.space p.page (record { prot = r; bytes = bytes_at now q.there })) each.0.prot
        ∙ ap (λ b. put_page memory p.space p.page (record { prot = p.prot; bytes = b })) (finds (bytes_at from p.there) q.there each.0.lies)

-- the numbers of spaces
pub numbers_seen : (spaces : List SpaceTable) → map (λ (s : SpaceTable). s.space) spaces ≡ map (λ (s : Listed). s.space) (map listing_of spaces)
numbers_seen [] = refl
numbers_seen (s ∷ spaces) = ap (λ ns. s.space ∷ ns) (numbers_seen spaces)

abbrev numbers : List Listed → List ℕ
numbers = map (λ (s : Listed). s.space)

with_numbers : (memory : PlainMemory) (one other : List Listed) → numbers one ≡ numbers other → with_spaces memory one ≡ with_spaces memory other
with_numbers memory [] [] same = refl
with_numbers memory [] (t ∷ other) same = absurd cc
with_numbers memory (s ∷ one) [] same = absurd cc
with_numbers memory (s ∷ one) (t ∷ other) same =
    let first : s.space ≡ t.space = cc in
    let rest : numbers one ≡ numbers other = cc in
    ap (λ n. with_spaces (finmap.insert memory n finmap.empty) one) first ∙ with_numbers (finmap.insert memory t.space finmap.empty) one other rest

-- a copy is found in the file of its image
pub lies_in : (contents : List (List ℕ)) (slot : ℕ) (file : List ℕ) (image : Image) → slot < length contents → IsImage file image
    → (bytes : List ℕ) (there : Found) → LiesAmong image.pages slot bytes there → bytes_at (slice_set contents slot file) there ≡ bytes
lies_in contents slot file image within is bytes found.Zero lies = sym lies
lies_in contents slot file image within is bytes (found.Data other offset) lies =
    let place : ℕ = lies.1 in
    let few : place < length image.pages = slice_get_within image.pages place bytes lies.3 in
    let count = counted_spaces image.spaces in
    let inside : place < length (pages_of Data image.spaces) = omega (arith, few, count, is.table.«data», is.stored) in
    let cut = (page_in_file_lem file image (get_or (pages_of Data image.spaces) place (0, 0)) place is (slice_get-get_or (pages_of Data image.spaces) place (0, 0) inside)).1 in
    ap (λ s. bytes_at (slice_set contents slot file) (found.Data s offset)) lies.0
    ∙ ap (λ f. slice_range f offset (offset + 4096)) (get_or-set_same contents slot file [] within)
    ∙ ap (λ at. slice_range file at (at + 4096)) lies.2
    ∙ same_Some (slice_range file (data_place place) (data_place place + 4096)) bytes (sym cut ∙ lies.3)

-- once it is open, the store shows what it showed
pub copy_shows : (once : ShownOnce) (from contents : List (List ℕ)) (may_leave : List (List ℕ) → Type 0) (slot : ℕ) (merged : Merged) (file : List ℕ) (image : Image)
    (shown : Option (ℕ × PlainMemory)) → slot < length contents → IsImage file image → (copied : CopiesNewest from contents may_leave slot merged)
    → image.pages ≡ copied.arrived.pages → IsFoundAsCopied (slice_set contents slot file) merged.memory → Shows from shown → Shows (slice_set contents slot file) shown
copy_shows once from contents may_leave slot merged file image shown within is copied pages at shows =
    let after = slice_set contents slot file in
    let copies = pages_seen merged.memory.pages.items in
    let same : placed_memory after at.spaces copies ≡ placed_memory from copied.spaces copied.pages =
    with_copies from after image.pages slot (with_spaces finmap.empty at.spaces) copied.pages copies (lies_in contents slot file image within is)
    (subst (λ ds. AllZip (IsCopyOf from ds slot) copied.pages copies) (sym pages) copied.copies)
    ∙ ap (λ m. with_pages from m copied.pages) (with_numbers finmap.empty at.spaces copied.spaces (at.numbers ∙ sym copied.numbers)) in
    subst (Shows after) (ap (λ memory. Some (merged.memory.checkpoint, memory)) same ∙ sym (once from shown (Some (merged.memory.checkpoint, placed_memory from copied.spaces copied.pages)) shows copied.shown)) at.shows
