-- The gate of an image that has arrived is opened.
use Rattle.std.proofs.Common.{◌≡◌, ◌≢◌, ◌⊎◌, ⊎_elim, ◌<◌, ℕ, false, List, ◌∷◌, ◌++◌, length, Option, Some, Contains, Result, Ok, slice_set, refl, sym, ◌∙◌, ap, subst, inl, inr}
use Rattle.std.specs.List.{concat}
use Rattle.std.specs.FinMap as finmap
use Rattle.std.specs.Result.{IsErr}
use Rattle.std.proofs.lemmas.Result.{IfOk-from_err}
use Rattle.std.proofs.lemmas.Bool.{false≢true}
use Rattle.sd_areas.specs.PlainMemory.{PlainMemory}
use Rattle.sd_disk.specs.Contents.{file_at}
use Rattle.sd_disk.specs.Crash.{Within}
use Rattle.sd_disk.specs.Spans.{LeavesOnly, span_widened, spans_join}
use Rattle.sd_disk.specs.declared.disk.Disk.{Ghosts}
use Rattle.sd_image.specs.declared.header.Header.{Header}
use Rattle.sd_image.specs.declared.header.Kind.{Kind}
use Rattle.sd_image.specs.declared.header.Kind.TheVariants.{PreDump, Dump, Merged}
use Rattle.sd_image.specs.Header.{header_text}
use Rattle.sd_image.specs.Image.{Image, IsImage, OpenImages, gate, is_open}
use Rattle.sd_image.specs.Shows.{Shows}
use Rattle.sd_image.proofs.FileLaws.{text_is_image_lem}
use Rattle.sd_image.proofs.ReadyLemmas.{image_opens}
use Rattle.sd_chain.specs.Catalog.{Opened, Places, images}
use Rattle.sd_chain.specs.Store.{HasTheImages, IsCatalogOf}
use Rattle.sd_receive.specs.declared.arrived.Arrived.{Arrived}
use Rattle.sd_receive.specs.declared.receiver.Received.{Received}
use Rattle.sd_receive.specs.declared.receiver.Received.TheVariants as kinds
use Rattle.sd_receive.specs.Arrived.{AddsImage, HasArrived, IsReady, Receives, ShowsThen, image_with, opened_with}
use Rattle.sd_receive.specs.Arriving.{IsSettled, KeepsImages, file_of}
use Rattle.sd_receive.proofs.ArriveLemmas.{keeps_still}
use Rattle.sd_receive.proofs.CatalogLemmas.{catalog_kept, catalog_more}
use Rattle.sd_receive.proofs.FillLemmas.{filled_is_closed}
use Rattle.sd_receive.proofs.SettledLemmas.{settled_leaves}
use Rattle.sd_receive.proofs.ShowLemmas.{keeps_shows, pre_dump_shows}

pub is_pre_dump : (kind : Kind) → (kind ≡ PreDump) ⊎ (kind ≢ PreDump)
is_pre_dump PreDump = inl refl
is_pre_dump Dump = inr (λ same. absurd cc)
is_pre_dump Merged = inr (λ same. absurd cc)

-- an image has arrived in a slot of a store, and is added to its catalog
pub record Arrives (contents : List (List ℕ)) (may_leave : List (List ℕ) → Type 0) (places next : Places) (slot : ℕ) (header : Header) (arrived : Arrived) : Type 0 where
  pub catalog : IsCatalogOf contents places
  pub within : slot < length contents
  pub has : HasArrived contents may_leave slot header arrived
  pub adds : AddsImage places next (opened_with slot header arrived)
  pub under : (j : Opened) → Contains (images places) j → j.header.serial < header.serial
  pub all : (found : List Image) → OpenImages contents found → HasTheImages contents places found

module _ (contents : List (List ℕ)) (may_leave : List (List ℕ) → Type 0) (places next : Places) (slot : ℕ) (header : Header) (arrived : Arrived)
    (a : Arrives contents may_leave places next slot header arrived) where
  abbrev pub opened_file : List ℕ
  opened_file = file_of header a.has.pages arrived.bytes.items

  abbrev image : Image
  image = image_with header a.has.pages arrived

  pub its_image : IsImage opened_file image
  its_image = subst (λ (f : List ℕ). IsImage f image) (sym (ap (λ (table : List ℕ). gate ∷ header_text header ++ concat a.has.pages ++ table) a.has.spelled))
      (text_is_image_lem image a.has.complete).0

  pub its_slot : is_open (file_at contents slot) ≡ false
  its_slot = filled_is_closed contents may_leave slot a.has.pages a.has.fills

  pub catalog_after : IsCatalogOf (slice_set contents slot opened_file) next
  catalog_after = catalog_more contents places next opened_file (opened_with slot header arrived) image a.catalog a.within its_slot its_image refl refl a.adds

  pub pre_dump_after : (shown : Option (ℕ × PlainMemory)) → Shows contents shown → header.kind ≡ PreDump → Shows (slice_set contents slot opened_file) shown
  pre_dump_after shown shows kind = pre_dump_shows contents slot opened_file image shown shows a.within its_slot its_image
      (λ j c. let o = (a.all shows.images shows.store.slots).opened j c in subst (λ (h : Header). h.serial < header.serial) (sym o.2.header) (a.under o.0 o.1)) kind

  -- once it is open
  pub kept_after : (now : List (List ℕ)) → file_at now slot ≡ opened_file → KeepsImages contents now ⊎ KeepsImages (slice_set contents slot opened_file) now → KeepsImages (slice_set contents slot opened_file) now
  kept_after now here (inl keeps) = absurd (false≢true (sym (keeps.closed slot its_slot) ∙ ap is_open here ∙ image_opens opened_file image its_image))
  kept_after now here (inr keeps) = keeps

  pub ready_after : (now : List (List ℕ)) (may : List (List ℕ) → Type 0) → IsSettled now may → KeepsImages (slice_set contents slot opened_file) now → IsReady now may next
  ready_after now may rests keeps = record { rests = rests; catalog = catalog_kept (slice_set contents slot opened_file) now next keeps catalog_after }

  pub shows_after : (now : List (List ℕ)) (may : List (List ℕ) → Type 0) (shown : Option (ℕ × PlainMemory)) → IsSettled now may → ((c : List (List ℕ)) → may c → length c ≡ length now)
      → KeepsImages (slice_set contents slot opened_file) now → Shows (slice_set contents slot opened_file) shown → Within may (λ c. Shows c shown)
  shows_after now may shown rests counts keeps shows c left =
      keeps_shows now c shown (settled_leaves now c may rests (counts c left) left) (keeps_shows (slice_set contents slot opened_file) now shown keeps shows)

module _ {D : Type 0} (g : Ghosts D) (shown later : Option (ℕ × PlainMemory)) where
  abbrev Either : List (List ℕ) → Type 0
  Either c = Shows c shown ⊎ Shows c later

  -- calls that keep the images
  pub span_shows : (old new : D) → Shows (g.contents old) shown → LeavesOnly g old new (KeepsImages (g.contents old)) → LeavesOnly g old new Either
  span_shows old new shows keeps = span_widened g old new (KeepsImages (g.contents old)) Either (λ c k. inl (keeps_shows (g.contents old) c shown k shows)) keeps

  -- and those that open a gate
  pub span_opens : (old mid new : D) (after : List (List ℕ)) → Shows (g.contents old) shown → LeavesOnly g old mid (KeepsImages (g.contents old)) → KeepsImages (g.contents old) (g.contents mid)
      → LeavesOnly g mid new (λ c. KeepsImages (g.contents mid) c ⊎ KeepsImages after c) → Shows after shown ⊎ Shows after later → LeavesOnly g old new Either
  span_opens old mid new after shows keeps between opens then = spans_join g old mid new Either (span_shows old mid shows keeps)
      (span_widened g mid new (λ c. KeepsImages (g.contents mid) c ⊎ KeepsImages after c) Either (λ c k. by c k then) opens)
    where
      by : (c : List (List ℕ)) → KeepsImages (g.contents mid) c ⊎ KeepsImages after c → Shows after shown ⊎ Shows after later → Either c
      by c (inl k) then = inl (keeps_shows (g.contents mid) c shown k (keeps_shows (g.contents old) (g.contents mid) shown between shows))
      by c (inr k) (inl same) = inl (keeps_shows after c shown k same)
      by c (inr k) (inr other) = inr (keeps_shows after c later k other)

-- ---- what is received

abbrev pub no_memory : PlainMemory
no_memory = finmap.empty

module _ {D E : Type 0} (g : Ghosts D) (shown : Option (ℕ × PlainMemory)) (last : ℕ) where
  -- an error before a gate is opened
  pub receives_nothing : (old new : D) (result : Result Received E) → IsErr result → Shows (g.contents old) shown → LeavesOnly g old new (KeepsImages (g.contents old))
      → (memory : PlainMemory) × Receives g old new shown last memory result
  receives_nothing old new result is shows keeps = (
    no_memory,
    record {
      any_moment = span_shows g shown (Some (last, no_memory)) old new shows keeps;
      at_end = IfOk-from_err result (ShowsThen g old new shown last no_memory) is;
    },
  )

module _ (shown : Option (ℕ × PlainMemory)) (last : ℕ) where
  -- what the gate of an image opens to, by its kind
  pub opens_to : (contents : List (List ℕ)) (may_leave : List (List ℕ) → Type 0) (places next : Places) (slot : ℕ) (header : Header) (arrived : Arrived)
      (a : Arrives contents may_leave places next slot header arrived) → Shows contents shown
      → (header.kind ≢ PreDump → last ≡ header.checkpoint)
      → (header.kind ≢ PreDump → (c : List (List ℕ)) → IsCatalogOf c next → (memory : PlainMemory) × Shows c (Some (header.checkpoint, memory)))
      → (memory : PlainMemory)
      × (((header.kind ≡ PreDump) × Shows (slice_set contents slot (opened_file contents may_leave places next slot header arrived a)) shown)
      ⊎ ((header.kind ≢ PreDump) × Shows (slice_set contents slot (opened_file contents may_leave places next slot header arrived a)) (Some (last, memory))))
  opens_to contents may_leave places next slot header arrived a shows number commits = elim (is_pre_dump header.kind) [
    | inl pre ↦ (no_memory, inl (pre, pre_dump_after contents may_leave places next slot header arrived a shown shows pre))
    | inr dump ↦
        let m = commits dump (slice_set contents slot (opened_file contents may_leave places next slot header arrived a)) (catalog_after contents may_leave places next slot header arrived a) in
        (m.0, inr (dump, subst (λ (n : ℕ). Shows (slice_set contents slot (opened_file contents may_leave places next slot header arrived a)) (Some (n, m.0))) (sym (number dump)) m.1))
  ]

  pub received_then : {D : Type 0} (g : Ghosts D) (old new : D) (header : Header) (received : Received) (memory : PlainMemory)
      → (header.kind ≡ PreDump → received ≡ kinds.PreDump) → (header.kind ≢ PreDump → received ≡ kinds.Checkpoint header.checkpoint) → (header.kind ≢ PreDump → last ≡ header.checkpoint)
      → ((header.kind ≡ PreDump) × LeavesOnly g old new (λ c. Shows c shown)) ⊎ ((header.kind ≢ PreDump) × Within (g.may_leave new) (λ c. Shows c (Some (last, memory))))
      → ShowsThen g old new shown last memory received
  received_then g old new header received memory pre dump number (inl is) = subst (ShowsThen g old new shown last memory) (sym (pre is.0)) is.1
  received_then g old new header received memory pre dump number (inr is) = subst (ShowsThen g old new shown last memory) (sym (dump is.0)) (sym (number is.0), is.1)

-- a gate that is opened to what was shown
pub span_same : {D : Type 0} (g : Ghosts D) (shown : Option (ℕ × PlainMemory)) (old mid new : D) (after : List (List ℕ)) → Shows (g.contents old) shown
    → LeavesOnly g old mid (KeepsImages (g.contents old)) → KeepsImages (g.contents old) (g.contents mid)
    → LeavesOnly g mid new (λ c. KeepsImages (g.contents mid) c ⊎ KeepsImages after c) → Shows after shown → LeavesOnly g old new (λ c. Shows c shown)
span_same g shown old mid new after shows keeps between opens then =
    span_widened g old new (λ c. Shows c shown ⊎ Shows c shown) (λ c. Shows c shown) (λ c either. ⊎_elim (λ is. is) (λ is. is) either)
    (span_opens g shown shown old mid new after shows keeps between opens (inl then))

-- the end of a stream
pub receives_still : {D E : Type 0} (g : Ghosts D) (shown : Option (ℕ × PlainMemory)) (last : ℕ) (disk : D) → ((c : List (List ℕ)) → g.left_since disk (g.moment disk) c → g.may_leave disk c)
    → ((c : List (List ℕ)) → g.may_leave disk c → length c ≡ length (g.contents disk)) → IsSettled (g.contents disk) (g.may_leave disk) → Shows (g.contents disk) shown
    → (memory : PlainMemory) × Receives {D = D} {E = E} g disk disk shown last memory (Ok kinds.End)
receives_still g shown last disk only_now same_slots rests shows = (
  no_memory,
  record {
    any_moment = span_shows g shown (Some (last, no_memory)) disk disk shows (keeps_still g disk only_now same_slots rests);
    at_end = span_widened g disk disk (KeepsImages (g.contents disk)) (λ c. Shows c shown) (λ c k. keeps_shows (g.contents disk) c shown k shows) (keeps_still g disk only_now same_slots rests);
  },
)
