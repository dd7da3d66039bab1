-- The memory at a checkpoint, by its image in a catalog.
use Rattle.std.proofs.Common.{◌≡◌, ◌<◌, ◌≤◌, ℕ, List, length, Option, Some, None, Result, Ok, Err, Contains, Bor, refl, sym, ◌∙◌, ap, subst, arith, inl, inr}
use Rattle.std.specs.Prelude.{IfOk, IfErr}
use Rattle.sd_areas.specs.PlainMemory.{PlainMemory}
use Rattle.sd_image.specs.declared.header.Header.{Header}
use Rattle.sd_image.specs.declared.reason.Reason.{Reason}
use Rattle.sd_image.specs.Image.{Image, OpenImages}
use Rattle.sd_image.specs.Laws.{OneStore}
use Rattle.sd_image.specs.Shows.{IsMemory, IsStore, Shows, IsNotAfter, IsRestorable}
use Rattle.sd_image.proofs.OneImage.{serial_once}
use Rattle.sd_chain.specs.Catalog.{IsSoundCatalog, IsTip, Opened, Places}
use Rattle.sd_chain.specs.Catalog as catalog
use Rattle.sd_chain.specs.Checkpoints.{FindsCheckpoint, IsOfCheckpoint, IsOfCheckpointAmong, LackCheckpoint}
use Rattle.sd_chain.specs.Store.{FindsTip, IsCatalogOf}
use Rattle.sd_restore.specs.declared.fault.Fault.{Fault}
use Rattle.sd_restore.specs.At.{HasPagesWithinAt, IsAmong, IsBrokenAt, LacksAt, ShowsAt, ShownIsAt, StandsFor}
use Rattle.sd_restore.specs.Faulty.{FaultNames, IsBrokenChain}
use Rattle.sd_restore.specs.Mapped.{mapped_pages}
use Rattle.sd_restore.specs.Placed.{MeetsBreak}
use Rattle.sd_restore.proofs.ScanLemmas.{names_more}
use Rattle.sd_restore.proofs.ShowLemmas.{stands_for_none}

-- ---- results

pub ok_both : {T E : Type 0} (P Q R : T → Type 0) (r : Result T E) → ((x : T) → P x → Q x → R x) → IfOk r P → IfOk r Q → IfOk r R
ok_both P Q R (Ok x) give p q = give x p q
ok_both P Q R (Err e) give p q = tt

pub err_more : {T : Type 0} (P Q : ℕ → Reason → Type 0) (r : Result T Fault) → ((slot : ℕ) (reason : Reason) → P slot reason → Q slot reason) → IfErr r (FaultNames P) → IfErr r (FaultNames Q)
err_more P Q (Ok x) more p = tt
err_more P Q (Err fault) more p = names_more P Q fault more p

-- ---- a checkpoint has one image

number_once : (contents : List (List ℕ)) (images : List Image) (number : ℕ) (i j : Image) → IsStore contents images → IsOfCheckpoint images number i → IsOfCheckpoint images number j → i ≡ j
number_once contents images number i j store a b =
    let up = a.greatest j b.member b.restorable b.checkpoint in
    let down = b.greatest i a.member a.restorable a.checkpoint in
    serial_once images i j store.serials a.member b.member (omega (arith, up, down))

-- what contents have at a checkpoint is what its image stands for
pub at_shows : (contents : List (List ℕ)) (number : ℕ) (i : Bor Opened) (memory : PlainMemory) → FindsCheckpoint contents number (Some i) → StandsFor contents i.now memory → ShowsAt contents number memory
at_shows contents number i memory finds stands =
    let image = finds.found in
    record {
      images = finds.images;
      store = finds.store;
      image = image.0;
      chosen = image.2;
      is = stands finds.images image.0 (record { slots = finds.store.slots; member = image.2.member; opened = image.1 });
    }

pub at_among : (contents : List (List ℕ)) (number : ℕ) (i : Bor Opened) → (finds : FindsCheckpoint contents number (Some i)) → IsAmong contents finds.images i.now finds.found.0
at_among contents number i finds = record { slots = finds.store.slots; member = finds.found.2.member; opened = finds.found.1 }

pub tip_among : (contents : List (List ℕ)) (tip : Bor Opened) → (finds : FindsTip contents (Some tip)) → IsAmong contents finds.images tip.now finds.newest.0
tip_among contents tip finds = record { slots = finds.store.slots; member = finds.newest.2.member; opened = finds.newest.1 }

pub at_lacks : (contents : List (List ℕ)) (number : ℕ) → FindsCheckpoint contents number None → LacksAt contents number
at_lacks contents number finds = record { images = finds.images; store = finds.store; none = finds.found }

-- contents that have a memory at a checkpoint have its image
pub shows_found : OneStore → (contents : List (List ℕ)) (number : ℕ) (memory : PlainMemory) → FindsCheckpoint contents number None → ShowsAt contents number memory → ⊥
shows_found one_store contents number memory finds shows =
    let same : shows.images ≡ finds.images = one_store contents shows.images finds.images shows.store.slots finds.store.slots in
    finds.found shows.image (subst (λ all. Contains all shows.image) same shows.chosen.member) shows.chosen.restorable shows.chosen.checkpoint

pub lacks_found : OneStore → (contents : List (List ℕ)) (number : ℕ) (i : Bor Opened) → FindsCheckpoint contents number (Some i) → LacksAt contents number → ⊥
lacks_found one_store contents number i finds lacks =
    let image = finds.found in
    let same : finds.images ≡ lacks.images = one_store contents finds.images lacks.images finds.store.slots lacks.store.slots in
    lacks.none image.0 (subst (λ all. Contains all image.0) same image.2.member) image.2.restorable image.2.checkpoint

-- and its chain doesn't break
pub no_break_at : OneStore → (contents : List (List ℕ)) (places : Places) (number : ℕ) (i : Bor Opened) (slot : ℕ) (reason : Reason) (memory : PlainMemory) → IsCatalogOf contents places → FindsCheckpoint contents number (Some i)
    → MeetsBreak places i.now.header.serial (mapped_pages i.now.spaces) slot reason → ShowsAt contents number memory → ⊥
no_break_at one_store contents places number i slot reason memory files finds met shows =
    let image = finds.found in
    let same : finds.images ≡ shows.images = one_store contents finds.images shows.images finds.store.slots shows.store.slots in
    let there : IsOfCheckpoint shows.images number image.0 = subst (λ all. IsOfCheckpoint all number image.0) same image.2 in
    let is : shows.image ≡ image.0 = number_once contents shows.images number shows.image image.0 shows.store shows.chosen there in
    stands_for_none contents places i.now slot reason shows.images image.0 memory files met
    (record { slots = shows.store.slots; member = there.member; opened = image.1 })
    (subst (λ k. IsMemory shows.images k memory) is shows.is)

pub broken_at : (contents : List (List ℕ)) (places : Places) (number : ℕ) (i : Bor Opened) (slot : ℕ) (reason : Reason) → IsSoundCatalog places → IsCatalogOf contents places → FindsCheckpoint contents number (Some i)
    → IsOfCheckpointAmong (catalog.images places) number i.now → MeetsBreak places i.now.header.serial (mapped_pages i.now.spaces) slot reason → IsBrokenAt contents number slot reason
broken_at contents places number i slot reason sound files finds chosen met = record {
  images = finds.images;
  store = finds.store;
  places = places;
  order = sound.order;
  files = files;
  image = i.now;
  chosen = chosen;
  first = met.first;
}

-- so it is of the newest image
pub broken_tip : (contents : List (List ℕ)) (places : Places) (tip : Bor Opened) (slot : ℕ) (reason : Reason) → IsSoundCatalog places → IsCatalogOf contents places → FindsTip contents (Some tip)
    → IsTip places tip.now → MeetsBreak places tip.now.header.serial (mapped_pages tip.now.spaces) slot reason → IsBrokenChain contents slot reason
broken_tip contents places tip slot reason sound files finds newest met = record {
  images = finds.images;
  store = finds.store;
  places = places;
  order = sound.order;
  catalog = files;
  tip = tip.now;
  newest = newest;
  first = met.first;
}

-- the mapped pages of a checkpoint's image
pub within_at : (contents : List (List ℕ)) (number : ℕ) (i : Bor Opened) (count : ℕ) → FindsCheckpoint contents number (Some i) → HasPagesWithinAt contents number count → length (mapped_pages i.now.spaces) ≤ count
within_at contents number i count finds within =
    subst (λ spaces. length (mapped_pages spaces) ≤ count) finds.found.1.spaces (within finds.images finds.found.0 finds.store finds.found.2)

-- ---- the newest

pub shown_at : ShownIsAt
shown_at contents number memory shows =
    let newest = shows.newest in
    record {
      images = shows.images;
      store = shows.store;
      image = newest.0;
      chosen = record {
        member = newest.1.member;
        restorable = newest.1.restorable;
        checkpoint = newest.2;
        greatest = λ j c restorable is. below newest.0 j (newest.1.greatest j c restorable) (is ∙ sym newest.2);
      };
      is = newest.3;
    }
  where
    below : (i j : Image) → IsNotAfter j i → j.header.checkpoint ≡ i.header.checkpoint → j.header.serial ≤ i.header.serial
    below i j (inl less) same = absurd (omega (arith, less, same))
    below i j (inr also) same = also.1
