-- What a store shows, by its catalog and by where the pages of its newest image lie.
use Rattle.std.proofs.Common.{◌≡◌, ◌<◌, ℕ, zero, suc, true, nat_eq, ◌||◌, List, [], ◌∷◌, ◌++◌, length, Option, Some, None, MatchOption, Contains, Bor, refl, sym, ◌∙◌, ap, subst, arith, inl, inr}
use Rattle.std.specs.Prelude.{All, get_or}
use Rattle.std.specs.List.{list_any}
use Rattle.std.specs.Option.{option_map}
use Rattle.std.specs.FinMap as finmap
use Rattle.std.proofs.lemmas.Bool.Decides.{nat_tests}
use Rattle.std.proofs.lemmas.List.Elements.{All-contains}
use Rattle.std.proofs.Math.Bool.{or-true}
use Rattle.sd_areas.specs.declared.prot.Prot.{Prot}
use Rattle.sd_areas.specs.Areas.{prot_in}
use Rattle.sd_areas.specs.PlainMemory.{Page, PlainMemory}
use Rattle.sd_image.specs.declared.header.Header.{Header}
use Rattle.sd_image.specs.declared.reason.Reason.{Reason}
use Rattle.sd_image.specs.Image.{Image, OpenImages}
use Rattle.sd_image.specs.Laws.{OneStore, TipOnce}
use Rattle.sd_image.specs.Shows.{Holds, IsMemory, Shows, page_in}
use Rattle.sd_image.specs.Shows as image_shows
use Rattle.sd_image.specs.Table.{Listed, IsTable, AreSpaces}
use Rattle.sd_image.proofs.Members.{contains_map, from_map}
use Rattle.sd_chain.specs.Catalog.{Opened, Places, place_of, images}
use Rattle.sd_chain.specs.Store.{IsCatalogOf, FindsTip, bytes_at}
use Rattle.sd_restore.specs.At.{IsAmong, StandsFor}
use Rattle.sd_restore.specs.Mapped.{Mapped, mapped_pages}
use Rattle.sd_restore.specs.Placed.{PlacedPage, mapped_of, IsPlaced, ArePlaced, IsInSlots, MeetsBreak, with_spaces, placed_memory}
use Rattle.sd_chain.proofs.Ways.{space_once}
use Rattle.sd_restore.proofs.MappedLemmas.{into_mapped, from_mapped}
use Rattle.sd_restore.proofs.MemoryLemmas.{AreAlive, After, spaces_alive, spaces_bare, empty_bare, empty_dead, pages_alive, pages_are}
use Rattle.sd_restore.proofs.PlacedLemmas.{placed_in_slots}

-- ---- where the pages lie

abbrev PlacedOf : Places → Opened → List PlacedPage → Type 0
PlacedOf places tip pages = ArePlaced places tip.header.serial (mapped_pages tip.spaces) pages

same_tip : (places : Places) (tip i : Opened) → place_of places tip.header.serial ≡ Some (Some tip) → place_of places tip.header.serial ≡ Some (Some i) → i ≡ tip
same_tip places tip i own there = let both : Some (Some i) ≡ Some (Some tip) = sym there ∙ own in cc

pub pages_in_slots : (count : ℕ) (places : Places) (tip : Opened) (pages : List PlacedPage) → All (λ (i : Opened). i.slot < count) (images places)
    → place_of places tip.header.serial ≡ Some (Some tip) → Contains (images places) tip → PlacedOf places tip pages → All (λ (p : PlacedPage). IsInSlots count p.there) pages
pages_in_slots count places tip pages slots own member placed =
    placed_in_slots count places tip.header.serial (mapped_pages tip.spaces) pages slots
    (λ i there. subst (Contains (images places)) (sym (same_tip places tip i own there)) member) placed

-- a page that was placed is in a space of the image, with its permissions
placed_page : (h : Header) (places : Places) (tip : Opened) (pages : List PlacedPage) (p : PlacedPage) → AreSpaces h 0 tip.spaces → PlacedOf places tip pages → Contains pages p
    → (s : Listed) × Contains tip.spaces s × (p.space ≡ s.space) × (prot_in s.areas p.page ≡ Some p.prot)
placed_page h places tip pages p are placed c =
    from_mapped h tip.spaces (mapped_of p) are (subst (λ ms. Contains ms (mapped_of p)) placed.are (contains_map mapped_of pages p c))

-- ---- the spaces are alive

any_at : (spaces : List Listed) (s : Listed) → Contains spaces s → list_any (λ (t : Listed). nat_eq t.space s.space) spaces ≡ true
any_at spaces s c = by spaces c.0 c.1 c.2
  where
    self : (n : ℕ) → nat_eq n n ≡ true
    self n = grind (arith, nat_tests)

    by : (spaces : List Listed) (k : ℕ) → k < length spaces → get_or spaces k s ≡ s → list_any (λ (t : Listed). nat_eq t.space s.space) spaces ≡ true
    by [] k less is = absurd (omega (arith, less))
    by (t ∷ spaces) zero less is = ap (λ (u : Listed). nat_eq u.space s.space || list_any (λ (t : Listed). nat_eq t.space s.space) spaces) is
        ∙ ap (λ b. b || list_any (λ (t : Listed). nat_eq t.space s.space) spaces) (self s.space)
    by (t ∷ spaces) (suc k) less is = ap (λ b. nat_eq t.space s.space || b) (by spaces k (omega (arith, less)) is) ∙ or-true (nat_eq t.space s.space)

alive_in : (spaces : List Listed) (space : ℕ) → finmap.contains_key (with_spaces finmap.empty spaces) space ≡ list_any (λ (s : Listed). nat_eq s.space space) spaces
alive_in spaces space = spaces_alive finmap.empty spaces space ∙ ap (λ b. b || list_any (λ (s : Listed). nat_eq s.space space) spaces) (empty_dead finmap.empty space refl)

pub pages_live : (h : Header) (places : Places) (tip : Opened) (pages : List PlacedPage) → AreSpaces h 0 tip.spaces → PlacedOf places tip pages → AreAlive (with_spaces finmap.empty tip.spaces) pages
pages_live h places tip pages are placed k d less =
    let p = get_or pages k d in
    let s = placed_page h places tip pages p are placed (k, less, again pages k d less) in
    alive_in tip.spaces p.space ∙ ap (λ n. list_any (λ (t : Listed). nat_eq t.space n) tip.spaces) s.2 ∙ any_at tip.spaces s.0 s.1
  where
    again : (pages : List PlacedPage) (k : ℕ) (d : PlacedPage) → k < length pages → get_or pages k (get_or pages k d) ≡ get_or pages k d
    again [] k d less = refl
    again (q ∷ pages) zero d less = refl
    again (q ∷ pages) (suc k) d less = again pages k d (omega (arith, less))

-- ---- the memory

-- a page of a restored image has the bytes that it holds
holds_there : (contents : List (List ℕ)) (all : List Image) (places : Places) (tip : Opened) (image : Image) (pages : List PlacedPage) (p : PlacedPage)
    → IsCatalogOf contents places → OpenImages contents all → Contains all image → image.header ≡ tip.header → PlacedOf places tip pages → Contains pages p
    → Holds all p.space p.page (bytes_at contents p.there) image
holds_there contents all places tip image pages p catalog slots member header placed c =
    let one = All-contains (IsPlaced places tip.header.serial) pages p placed.each c in
    (one.held contents all catalog slots image member (ap (λ (h : Header). h.serial) header) (bytes_at contents p.there)).1 refl

pub is_memory : (contents : List (List ℕ)) (all : List Image) (places : Places) (tip : Opened) (image : Image) (pages : List PlacedPage)
    → IsCatalogOf contents places → OpenImages contents all → Contains all image → IsTable image.header image.spaces → image.header ≡ tip.header → image.spaces ≡ tip.spaces
    → PlacedOf places tip pages → IsMemory all image (placed_memory contents tip.spaces pages)
is_memory contents all places tip image pages catalog slots member table header spaces placed = record {
  alive = λ space. pages_alive contents (with_spaces finmap.empty tip.spaces) pages space (pages_live image.header places tip pages are placed)
      ∙ alive_in tip.spaces space ∙ ap (list_any (λ (s : Listed). nat_eq s.space space)) (sym spaces);
  pages = λ s c page. at s (subst (λ xs. Contains xs s) spaces c) page (page_in (placed_memory contents tip.spaces pages) s.space page)
      (pages_are contents (with_spaces finmap.empty tip.spaces) pages s.space page);
}
  where
    are : AreSpaces image.header 0 tip.spaces
    are = subst (AreSpaces image.header 0) spaces table.each

    clash : (found : Page) → None ≡ Some found → ⊥
    clash found e = absurd cc

    none_mapped : (s : Listed) (page : ℕ) (o : Option Prot) → prot_in s.areas page ≡ o → Contains tip.spaces s
        → ((p : PlacedPage) → Contains pages p → (p.space ≡ s.space) × (p.page ≡ page) → ⊥) → o ≡ None
    none_mapped s page None is c none = refl
    none_mapped s page (Some prot) is c none =
        let among = subst (λ ms. Contains ms (record { space = s.space; page = page; prot = prot })) (sym placed.are) (into_mapped tip.spaces s page prot c is) in
        let p = from_map mapped_of pages (record { space = s.space; page = page; prot = prot }) among in
        absurd (none p.0 p.1 (sym (ap (λ (m : Mapped). m.space) p.2), sym (ap (λ (m : Mapped). m.page) p.2)))

    at : (s : Listed) → Contains tip.spaces s → (page : ℕ) (o : Option Page) → After contents (with_spaces finmap.empty tip.spaces) pages s.space page o
        → MatchOption o (prot_in s.areas page ≡ None) (λ found. (prot_in s.areas page ≡ Some found.prot) × Holds all s.space page found.bytes image)
    at s c page None none = none_mapped s page (prot_in s.areas page) refl c none.1
    at s c page (Some found) (inl before) = absurd (clash found (sym (spaces_bare finmap.empty tip.spaces empty_bare s.space page) ∙ before))
    at s c page (Some found) (inr put) =
        let p = put.one in
        let listed = placed_page image.header places tip pages p are placed put.among in
        let same : listed.0 ≡ s = space_once image.header 0 tip.spaces listed.0 s are listed.1 c (sym listed.2 ∙ put.space_is) in
        let prot : prot_in s.areas page ≡ Some p.prot = ap (λ (t : Listed). prot_in t.areas page) (sym same) ∙ ap (prot_in listed.0.areas) (sym put.page_is) ∙ listed.3 in
        let holds : Holds all s.space page (bytes_at contents p.there) image =
        subst (λ n. Holds all n page (bytes_at contents p.there) image) put.space_is
        (subst (λ n. Holds all p.space n (bytes_at contents p.there) image) put.page_is (holds_there contents all places tip image pages p catalog slots member header placed put.among)) in
        subst (λ (f : Page). (prot_in s.areas page ≡ Some f.prot) × Holds all s.space page f.bytes image) (sym put.is) (prot, holds)

-- ---- what contents show

-- an image stands for the memory of its pages
pub stands_for : (contents : List (List ℕ)) (places : Places) (i : Opened) (pages : List PlacedPage) → IsCatalogOf contents places → PlacedOf places i pages
    → StandsFor contents i (placed_memory contents i.spaces pages)
stands_for contents places i pages catalog placed all image among =
    is_memory contents all places i image pages catalog among.slots among.member among.opened.spelled.table among.opened.header among.opened.spaces placed

-- they show the memory for which their newest image stands
pub tip_shows : (contents : List (List ℕ)) (tip : Bor Opened) (memory : PlainMemory) → FindsTip contents (Some tip) → StandsFor contents tip.now memory
    → Shows contents (Some (tip.now.header.checkpoint, memory))
tip_shows contents tip memory finds stands =
    let image = finds.newest in
    record {
      images = finds.images;
      store = finds.store;
      newest = (
        image.0,
        image.2,
        ap (λ (h : Header). h.checkpoint) image.1.header,
        stands finds.images image.0 (record { slots = finds.store.slots; member = image.2.member; opened = image.1 }),
      );
    }

pub shows_tip : (contents : List (List ℕ)) (places : Places) (tip : Bor Opened) (pages : List PlacedPage) → IsCatalogOf contents places → FindsTip contents (Some tip)
    → PlacedOf places tip.now pages → Shows contents (Some (tip.now.header.checkpoint, placed_memory contents tip.now.spaces pages))
shows_tip contents places tip pages catalog finds placed = tip_shows contents tip _ finds (stands_for contents places tip.now pages catalog placed)

pub shows_none : (contents : List (List ℕ)) → FindsTip contents None → Shows contents None
shows_none contents finds = record { images = finds.images; store = finds.store; newest = finds.newest }

pub none_is_no_moment : (moment : ℕ × PlainMemory) → None ≡ Some moment → ⊥
none_is_no_moment moment e = absurd (let f : None ≡ Some moment = e in cc)

-- the checkpoint of what contents show is that of their newest image
pub checkpoint_shown : OneStore → TipOnce → (contents : List (List ℕ)) (chosen : Option (Bor Opened)) (shown : Option (ℕ × PlainMemory)) → FindsTip contents chosen → Shows contents shown
    → option_map (λ (i : Bor Opened). i.now.header.checkpoint) chosen ≡ option_map (λ (moment : ℕ × PlainMemory). moment.0) shown
checkpoint_shown one_store tip_once contents None None finds shows = refl
checkpoint_shown one_store tip_once contents None (Some moment) finds shows =
    let same : shows.images ≡ finds.images = one_store contents shows.images finds.images shows.store.slots finds.store.slots in
    absurd (finds.newest shows.newest.0 (subst (λ all. Contains all shows.newest.0) same shows.newest.1.member) shows.newest.1.restorable)
checkpoint_shown one_store tip_once contents (Some tip) None finds shows =
    let same : finds.images ≡ shows.images = one_store contents finds.images shows.images finds.store.slots shows.store.slots in
    absurd (shows.newest finds.newest.0 (subst (λ all. Contains all finds.newest.0) same finds.newest.2.member) finds.newest.2.restorable)
checkpoint_shown one_store tip_once contents (Some tip) (Some moment) finds shows =
    let same : finds.images ≡ shows.images = one_store contents finds.images shows.images finds.store.slots shows.store.slots in
    let there : image_shows.IsTip shows.images finds.newest.0 = subst (λ all. image_shows.IsTip all finds.newest.0) same finds.newest.2 in
    let is : finds.newest.0 ≡ shows.newest.0 = tip_once contents shows.images finds.newest.0 shows.newest.0 shows.store there shows.newest.1 in
    ap Some (ap (λ (h : Header). h.checkpoint) (sym finds.newest.1.header) ∙ ap (λ (i : Image). i.header.checkpoint) is ∙ shows.newest.2)

-- ---- a chain that breaks

-- an image of contents whose chain breaks stands for no memory
pub stands_for_none : (contents : List (List ℕ)) (places : Places) (i : Opened) (slot : ℕ) (reason : Reason) (all : List Image) (image : Image) (memory : PlainMemory) → IsCatalogOf contents places
    → MeetsBreak places i.header.serial (mapped_pages i.spaces) slot reason → IsAmong contents all i image → IsMemory all image memory → ⊥
stands_for_none contents places i slot reason all image memory catalog met among is =
    let s = from_mapped image.header i.spaces met.first.page (subst (AreSpaces image.header 0) among.opened.spaces among.opened.spelled.table.each) listed in
    found s.0 s.2 s.3 (page_in memory s.0.space met.first.page.page)
    (is.pages s.0 (subst (λ xs. Contains xs s.0) (sym among.opened.spaces) s.1) met.first.page.page)
  where
    clash : (prot : Prot) → None ≡ Some prot → ⊥
    clash prot e = absurd cc

    listed : Contains (mapped_pages i.spaces) met.first.page
    listed = subst (λ ms. Contains ms met.first.page) (sym met.first.are) (behind met.first.before)
      where
        behind : (before : List Mapped) → Contains (before ++ met.first.page ∷ met.first.after) met.first.page
        behind [] = (0, omega arith, refl)
        behind (m ∷ before) = let rest = behind before in (suc rest.0, omega (arith, rest.1), rest.2)

    found : (s : Listed) → met.first.page.space ≡ s.space → prot_in s.areas met.first.page.page ≡ Some met.first.page.prot → (o : Option Page)
        → MatchOption o (prot_in s.areas met.first.page.page ≡ None) (λ page. (prot_in s.areas met.first.page.page ≡ Some page.prot) × Holds all s.space met.first.page.page page.bytes image) → ⊥
    found s space prot None none = clash met.first.page.prot (sym none ∙ prot)
    found s space prot (Some page) has =
        (met.unheld contents all catalog among.slots image among.member (ap (λ (h : Header). h.serial) among.opened.header) page.bytes).0
        (subst (λ n. Holds all n met.first.page.page page.bytes image) (sym space) has.1)

-- contents that show something have none
pub no_break : OneStore → TipOnce → (contents : List (List ℕ)) (places : Places) (tip : Bor Opened) (slot : ℕ) (reason : Reason) (shown : Option (ℕ × PlainMemory)) → IsCatalogOf contents places → FindsTip contents (Some tip)
    → MeetsBreak places tip.now.header.serial (mapped_pages tip.now.spaces) slot reason → Shows contents shown → ⊥
no_break one_store tip_once contents places tip slot reason shown catalog finds met shows = by shown shows
  where
    image : Image
    image = finds.newest.0

    same : {shown : Option (ℕ × PlainMemory)} (shows : Shows contents shown) → finds.images ≡ shows.images
    same shows = one_store contents finds.images shows.images finds.store.slots shows.store.slots

    by : (shown : Option (ℕ × PlainMemory)) → Shows contents shown → ⊥
    by None shows = shows.newest image (subst (λ all. Contains all image) (same shows) finds.newest.2.member) finds.newest.2.restorable
    by (Some moment) shows =
        let tip_there : image_shows.IsTip shows.images image = subst (λ all. image_shows.IsTip all image) (same shows) finds.newest.2 in
        let is : shows.newest.0 ≡ image = tip_once contents shows.images shows.newest.0 image shows.store shows.newest.1 tip_there in
        stands_for_none contents places tip.now slot reason shows.images image moment.1 catalog met
        (record { slots = shows.store.slots; member = tip_there.member; opened = finds.newest.1 })
        (subst (λ i. IsMemory shows.images i moment.1) is shows.newest.3)
