-- An image that nobody needs is closed.
use Rattle.std.proofs.Common.{◌≡◌, ◌≢◌, ◌⊎◌, ⊎_elim, ◌<◌, ℕ, Bool, true, false, not, cond, nat_eq, List, [], ◌∷◌, length, Contains, Option, Some, None, Result, slice_get, slice_set, refl, sym, ◌∙◌, ap, subst, inl, inr, arith}
use Rattle.std.proofs.lemmas.Bool.{cases_eq, eq-eqb, false≢true, ne_eqb}
use Rattle.std.proofs.lemmas.List.{get_or-set_same, get_or-set_other, length-set}
use Rattle.std.proofs.lemmas.List.Elements.{All-contains}
use Rattle.std.proofs.lemmas.Option.{get_or_from_slice_get, slice_get_within}
use Rattle.sd_areas.specs.PlainMemory.{PlainMemory}
use Rattle.sd_disk.specs.Contents.{file_at}
use Rattle.sd_disk.specs.Spans.{LeavesOnly, span_widened}
use Rattle.sd_disk.specs.declared.disk.Disk.{Ghosts}
use Rattle.sd_image.specs.Image.{Image, OpenImages, gate, is_open}
use Rattle.sd_image.specs.Shows.{Shows}
use Rattle.sd_image.specs.Table.{IsTable}
use Rattle.sd_image.proofs.ReadyLemmas.{image_opens}
use Rattle.sd_chain.specs.Catalog.{IsSoundCatalog, Opened, Places, images, place_of, without_slot}
use Rattle.sd_chain.specs.Store.{HasTheImages, IsCatalogOf}
use Rattle.sd_chain.specs.Ways.{AreImages}
use Rattle.sd_gate.specs.declared.phase.Phase.{Phase}
use Rattle.sd_gate.specs.declared.phase.Phase.TheVariants.{Whole, Bare}
use Rattle.sd_gate.specs.Fits.{DiskFits}
use Rattle.sd_gate.specs.PlanRuns.{PlansTake}
use Rattle.sd_gate.specs.Sequences.{closing_calls}
use Rattle.sd_drop.specs.Closing.{closed_at}
use Rattle.sd_drop.specs.Reached.{IsReachedAt, IsReachedIn}
use Rattle.sd_drop.proofs.ReachLemmas.{reached_in, unneeded_shows}
use Rattle.sd_image.proofs.OneImage.{one_image_lem, one_store_lem}
use Rattle.sd_receive.specs.Arrived.{IsReady}
use Rattle.sd_receive.specs.Arriving.{IsSettled, KeepsImages}
use Rattle.sd_receive.specs.Copies.{IsUnneededAt}
use Rattle.sd_receive.specs.PlanRuns.{IsLeftBeside, RunsCalls, RunsPlan}
use Rattle.sd_receive.proofs.CatalogLemmas.{catalog_kept, each_is}
use Rattle.sd_receive.proofs.FillLemmas.{settled_set, write_reads}
use Rattle.sd_receive.proofs.RunLemmas.{get_set_other, get_set_same}
use Rattle.sd_receive.proofs.SettledLemmas.{nothing_is_closed, open_is_whole, others_keep, phase_at, within_or_beyond}
use Rattle.sd_receive.proofs.ShowLemmas.{keeps_shows}

-- the file of a slot that is closed has no image
none_here : (contents : List (List ℕ)) (slot : ℕ) → is_open (file_at (closed_at contents slot) slot) ≡ false
none_here contents slot = ⊎_elim (λ inside. ap is_open (get_or-set_same contents slot [] [] inside))
    (λ beyond. nothing_is_closed (closed_at contents slot) slot (let same = length-set contents slot [] in omega (arith, beyond, same))) (within_or_beyond slot (length contents))

-- all the way through the calls that close a slot
pub beside_closes : (contents c : List (List ℕ)) (may_leave : List (List ℕ) → Type 0) (rest : IsSettled contents may_leave) (slot : ℕ) (image : List ℕ)
    → file_at contents slot ≡ gate ∷ image → IsLeftBeside rest.phases rest.bodies slot image c → KeepsImages contents c ⊎ KeepsImages (closed_at contents slot) c
beside_closes contents c may_leave rest slot image file left = ⊎_elim (λ shut. inr (closes shut)) (λ whole. inl (keeps whole)) left.here
  where
    many : length c ≡ length contents
    many = left.count ∙ sym rest.fits.slots

    apart_from : (other : ℕ) → other ≢ slot
        → (is_open (file_at contents other) ≡ true → file_at c other ≡ file_at contents other) × (is_open (file_at contents other) ≡ false → is_open (file_at c other) ≡ false)
    apart_from other apart = others_keep contents c may_leave rest slot image left other apart

    keeps : file_at c slot ≡ gate ∷ image → KeepsImages contents c
    keeps whole = record {
      count = many;
      opened = λ other opens. ⊎_elim (λ same. subst (λ s. file_at c s ≡ file_at contents s) (sym same) (whole ∙ sym file)) (λ apart. (apart_from other apart).0 opens) (cases_eq other slot);
      closed = λ other shut. ⊎_elim (λ same. subst (λ s. is_open (file_at c s) ≡ false) (sym same) (ap is_open (whole ∙ sym file) ∙ subst (λ s. is_open (file_at contents s) ≡ false) same shut))
          (λ apart. (apart_from other apart).1 shut) (cases_eq other slot);
    }

    closes : is_open (file_at c slot) ≡ false → KeepsImages (closed_at contents slot) c
    closes shut = record {
      count = many ∙ sym (length-set contents slot []);
      opened = λ other opens. ⊎_elim (λ same. absurd (false≢true (sym (none_here contents slot) ∙ ap (λ s. is_open (file_at (closed_at contents slot) s)) (sym same) ∙ opens)))
          (λ apart. (apart_from other apart).0 (subst (λ f. is_open f ≡ true) (get_or-set_other contents slot other [] [] apart) opens) ∙ sym (get_or-set_other contents slot other [] [] apart)) (cases_eq other slot);
      closed = λ other was. ⊎_elim (λ same. subst (λ s. is_open (file_at c s) ≡ false) (sym same) shut)
          (λ apart. (apart_from other apart).1 (subst (λ f. is_open f ≡ false) (get_or-set_other contents slot other [] [] apart) was)) (cases_eq other slot);
    }

-- ---- the catalog

-- of what was left of a place with an image
stays_at : (slot : ℕ) (place : Option (Option Opened)) (i : Opened) → without_slot slot place ≡ Some (Some i) → (place ≡ Some (Some i)) × (i.slot ≢ slot)
stays_at slot None i is = absurd cc
stays_at slot (Some None) i is = absurd cc
stays_at slot (Some (Some j)) i is = by (nat_eq j.slot slot) refl is
  where
    by : (b : Bool) → nat_eq j.slot slot ≡ b → without_slot slot (Some (Some j)) ≡ Some (Some i) → (Some (Some j) ≡ Some (Some i)) × (i.slot ≢ slot)
    by true at is = absurd (let none : None ≡ Some (Some i) = sym (ap (λ b. cond (not b) (Some (Some j)) None) at) ∙ is in cc)
    by false at is =
        let same : Some (Some j) ≡ Some (Some i) = sym (ap (λ b. cond (not b) (Some (Some j)) None) at) ∙ is in
        let e : j ≡ i = cc in
        (same, λ here. false≢true (sym at ∙ eq-eqb j.slot slot (ap (λ (o : Opened). o.slot) e ∙ here)))

-- what stays of one in another slot
stays_apart : (slot : ℕ) (i : Opened) → i.slot ≢ slot → without_slot slot (Some (Some i)) ≡ Some (Some i)
stays_apart slot i apart = ap (λ b. cond (not b) (Some (Some i)) None) (ne_eqb i.slot slot apart)

pub catalog_less : (contents : List (List ℕ)) (old new : Places) (slot : ℕ) → IsCatalogOf contents old
    → ((serial : ℕ) → place_of new serial ≡ without_slot slot (place_of old serial)) → IsCatalogOf (closed_at contents slot) new
catalog_less contents old new slot catalog removes = record {
  sound = λ serial i there. let was = stays_at slot (place_of old serial) i (sym (removes serial) ∙ there) in
      let opened = catalog.sound serial i was.0 in (
        opened.0,
        record {
          file = opened.1.file;
          slot = get_set_other contents slot i.slot [] was.1 ∙ opened.1.slot;
          spelled = opened.1.spelled;
          header = opened.1.header;
          spaces = opened.1.spaces;
        },
      );
  all = λ other file there opens. ⊎_elim
      (λ same. absurd (false≢true (sym (none_here contents slot) ∙ ap (λ s. is_open (file_at (closed_at contents slot) s)) (sym same)
      ∙ ap is_open (get_or_from_slice_get (closed_at contents slot) other file [] there) ∙ opens)))
      (λ apart. let was = catalog.all other file (sym (get_set_other contents slot other [] apart) ∙ there) opens in
      (was.0, was.1, removes was.0 ∙ ap (without_slot slot) was.2 ∙ stays_apart slot was.1 (λ here. apart (sym was.3 ∙ here)), was.3)) (cases_eq other slot);
}

pub images_less : (old new : Places) (slot : ℕ) → IsSoundCatalog old → IsSoundCatalog new → ((serial : ℕ) → place_of new serial ≡ without_slot slot (place_of old serial))
    → AreImages old → AreImages new
images_less old new slot was now removes are = record {
  tables = each_is (λ (j : Opened). IsTable j.header j.spaces) (images new) (λ j c. All-contains (λ (k : Opened). IsTable k.header k.spaces) (images old) j are.tables (before j c));
  fall = each_is (λ (j : Opened). j.header.parent < j.header.stands_for) (images new) (λ j c. All-contains (λ (k : Opened). k.header.parent < k.header.stands_for) (images old) j are.fall (before j c));
}
  where
    before : (j : Opened) → Contains (images new) j → Contains (images old) j
    before j c = was.member j.header.serial j (stays_at slot (place_of old j.header.serial) j (sym (removes j.header.serial) ∙ now.own j c)).0

-- ---- the calls that close a slot

-- the newest image doesn't lead to what stands in a slot
pub unreached : (contents : List (List ℕ)) (places : Places) (slot : ℕ) (shown : Option (ℕ × PlainMemory)) → IsSoundCatalog places → IsCatalogOf contents places
    → ((all : List Image) → OpenImages contents all → HasTheImages contents places all) → is_open (file_at contents slot) ≡ true → Shows contents shown
    → (IsReachedIn places slot → ⊥) → IsReachedAt contents slot → ⊥
unreached contents places slot shown sound catalog has opens shows free r =
    free (reached_in contents places shows.images slot one_image_lem one_store_lem sound catalog (has shows.images shows.store.slots) shows.store.slots opens r)

-- an image of a catalog stands in a slot that is open
pub opens_at : (contents : List (List ℕ)) (places : Places) (slot : ℕ) → IsSoundCatalog places → IsCatalogOf contents places → IsUnneededAt places slot
    → (slot < length contents) × (is_open (file_at contents slot) ≡ true)
opens_at contents places slot sound catalog un =
    let was = (catalog.sound un.image.header.serial un.image (sound.own un.image un.among)).1 in
    let there : slice_get contents slot ≡ Some was.file = ap (slice_get contents) (sym un.here) ∙ was.slot in (
      slice_get_within contents slot was.file there,
      ap is_open (get_or_from_slice_get contents slot was.file [] there) ∙ image_opens was.file _ was.spelled,
    )

module _ {D E X : Type 0} (g : Ghosts D) (old new : D) (result : Result X E) (slot : ℕ) (rest : IsSettled (g.contents old) (g.may_leave old))
    (inside : slot < length (g.contents old)) (opens : is_open (file_at (g.contents old) slot) ≡ true) where
  abbrev here : (phase : Phase) × (slice_get rest.phases slot ≡ Some phase)
  here = let many = rest.fits.slots in phase_at rest.phases slot (omega (arith, inside, many))

  abbrev body : List ℕ
  body = file_at rest.bodies slot

  whole : here.0 ≡ Whole
  whole = open_is_whole here.0 body (file_at (g.contents old) slot) (rest.settled slot here.0 here.1) (rest.fits.each slot here.0 here.1).reads opens

  is_whole : slice_get rest.phases slot ≡ Some Whole
  is_whole = here.1 ∙ ap Some whole

  file : file_at (g.contents old) slot ≡ gate ∷ body
  file = (rest.fits.each slot Whole is_whole).reads

  pub closing_runs : PlansTake → RunsCalls g slot closing_calls old new result → RunsPlan g rest.phases rest.bodies slot body Bare [] old new result
  closing_runs takes runs = runs rest.phases rest.bodies body Whole Bare [] is_whole (takes.retire body Whole body refl (λ f leaves. inr leaves)) rest.fits

  pub closing_leaves : RunsPlan g rest.phases rest.bodies slot body Bare [] old new result
      → LeavesOnly g old new (λ c. KeepsImages (g.contents old) c ⊎ KeepsImages (closed_at (g.contents old) slot) c)
  closing_leaves ran = span_widened g old new (IsLeftBeside rest.phases rest.bodies slot body) (λ c. KeepsImages (g.contents old) c ⊎ KeepsImages (closed_at (g.contents old) slot) c)
      (λ c left. beside_closes (g.contents old) c (g.may_leave old) rest slot body file left) ran.any_moment

  -- it is closed then
  pub closed_settled : DiskFits (slice_set rest.phases slot Bare) (slice_set rest.bodies slot []) (g.contents new) (g.may_leave new)
      → IsSettled (g.contents new) (g.may_leave new) × (is_open (file_at (g.contents new) slot) ≡ false)
  closed_settled fits = (
    settled_set (g.contents old) (g.contents new) (g.may_leave old) (g.may_leave new) rest slot Bare [] within fits refl,
    write_reads Bare (file_at (slice_set rest.bodies slot []) slot) (file_at (g.contents new) slot) refl (fits.each slot Bare (get_set_same rest.phases slot Bare within)).reads,
  )
    where
      within : slot < length rest.phases
      within = slice_get_within rest.phases slot Whole is_whole

-- what is shown without an image is shown at each moment while it is closed
pub closing_shows : {D : Type 0} (g : Ghosts D) (old new : D) (slot : ℕ) (shown : Option (ℕ × PlainMemory)) → Shows (g.contents old) shown → (IsReachedAt (g.contents old) slot → ⊥)
    → LeavesOnly g old new (λ c. KeepsImages (g.contents old) c ⊎ KeepsImages (closed_at (g.contents old) slot) c) → LeavesOnly g old new (λ c. Shows c shown)
closing_shows g old new slot shown shows free span = span_widened g old new (λ c. KeepsImages (g.contents old) c ⊎ KeepsImages (closed_at (g.contents old) slot) c) (λ c. Shows c shown)
    (λ c either. ⊎_elim (λ keeps. keeps_shows (g.contents old) c shown keeps shows)
    (λ keeps. keeps_shows (closed_at (g.contents old) slot) c shown keeps (unneeded_shows (g.contents old) slot shown shows free)) either) span

-- once it is closed, the catalog is without it
pub closed_ready : (contents now : List (List ℕ)) (may_leave : List (List ℕ) → Type 0) (slot : ℕ) → is_open (file_at contents slot) ≡ true → IsSettled now may_leave
    → is_open (file_at now slot) ≡ false → KeepsImages contents now ⊎ KeepsImages (closed_at contents slot) now → (next : Places) → IsCatalogOf (closed_at contents slot) next
    → IsReady now may_leave next
closed_ready contents now may_leave slot opens rests shut either next catalog = record {
  rests = rests;
  catalog = ⊎_elim (λ keeps. absurd (false≢true (sym shut ∙ ap is_open (keeps.opened slot opens) ∙ opens)))
      (λ keeps. catalog_kept (closed_at contents slot) now next keeps catalog) either;
}
