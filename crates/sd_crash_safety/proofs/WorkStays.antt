-- What is known of the checkpoint that runs stays while a merge goes on.
use Rattle.std.proofs.Common.{◌≡◌, ◌⊎◌, ℕ, ◌≤◌, Bool, true, List, length, Option, Some, None, Contains, option_and_then, slice_get, refl, sym, ◌∙◌, ap, subst, inl, inr, arith}
use Rattle.sd_image.specs.Image.{Image}
use Rattle.sd_image.specs.Shows.{IsRestorable, IsTip}
use Rattle.sd_gate.specs.Requests.{Asked}
use Rattle.sd_journal.specs.History.{Base, History}
use Rattle.sd_pagetable.specs.Contents.{Contents}
use Rattle.sd_rounds.specs.Dumper.{IsReserved, Running, slot_of}
use Rattle.sd_rounds.specs.Keeps.{ChainWithin, Rests}
use Rattle.sd_rounds.specs.Making.{Making}
use Rattle.sd_rounds.specs.MakingLaws.{MakingLaws}
use Rattle.sd_store_laws.specs.Beliefs.{image_at, image_in}
use Rattle.sd_store_laws.specs.Needs.{IsNeededIn}
use Rattle.sd_store_laws.specs.Store.{Store}
use Rattle.sd_crash_safety.specs.LiveImages.{IsAtWork, IsFrozenAs, IsImageOn, IsMakingOn, IsNewNumber, IsRunningOn, IsSlotFor, chain_of, ArePagesOf, body_written, lanes_of}
use Rattle.sd_crash_safety.specs.MergerSteps.{MakesInItsSlot, MakesItInSlot}
use Rattle.sd_crash_safety.specs.Merges.{IsOtherImage, MakesOther}
use Rattle.sd_crash_safety.proofs.MergeStays.{IsSameSlot, Slots}
use Rattle.sd_disk.specs.Contents.{file_at}

-- the number of the image that the checkpoint makes
abbrev pub IsMakingNumber : Option Running → ℕ → Type 0
IsMakingNumber running number = (one : Running) × (image : Making) × (running ≡ Some one) × (one.image ≡ Some image) × (image.order.serial ≡ number)

-- The checkpoint's slots are as they were, nobody needs more in them, and what its numbers give is as before.
pub record LeavesWork (store : Store) (running : Option Running) (memory : Contents) (old : Slots) (last last_now : ℕ) (store_now : Store) (new : Slots) : Type 0 where
  pub count : length new.phases ≡ length old.phases
  pub same : (slot : ℕ) (one : Running) → running ≡ Some one → IsReserved one slot → IsSameSlot old new slot
  pub last_is : last ≤ last_now
  pub chain : store_now.chain ≡ store.chain
  pub newest : (j : Image) → Contains store_now.catalog j → IsRestorable j
      → (i : Image) × Contains store.catalog i × IsRestorable i × (j.header.checkpoint ≡ i.header.checkpoint)
  pub needs : (slot : ℕ) (i : Image) (one : Running) → running ≡ Some one → IsReserved one slot → image_at old.beliefs slot ≡ Some i → IsNeededIn store_now i → IsNeededIn store i
  pub gives : (one : Running) → running ≡ Some one → ChainWithin (chain_of store one.parent) (chain_of store_now one.parent)
  pub rests : running ≡ None → store.grows ≡ true → ((tip : Image) → IsTip store.catalog tip → Rests (chain_of store tip.header.stands_for) memory)
      → (tip : Image) → IsTip store_now.catalog tip → Rests (chain_of store_now tip.header.stands_for) memory
  pub numbers : (number : ℕ) → IsMakingNumber running number → IsNewNumber store number → IsNewNumber store_now number
  pub images : (slot : ℕ) (j : Image) → image_at new.beliefs slot ≡ Some j → (image_at old.beliefs slot ≡ Some j) ⊎ MakesOther running j.header.serial

module _ (making : MakingLaws) (base : Base) (history : History) (memory : Contents) (store : Store) (old : Slots) (last last_now : ℕ) (store_now : Store) (new : Slots)
    (dump : Option Image) (asked asked_now : List (Option Asked)) (own_same : slice_get asked_now 0 ≡ slice_get asked 0)
    (lanes_same : lanes_of asked_now ≡ lanes_of asked) where
  module _ (running : Running) (leaves : LeavesWork store (Some running) memory old last last_now store_now new) where
    gives : ChainWithin (chain_of store running.parent) (chain_of store_now running.parent)
    gives = leaves.gives running refl

    frozen_beside : (image : Making) (pages : List (List ℕ)) → IsFrozenAs base history running.number memory pages (chain_of store running.parent) image
        → IsFrozenAs base history running.number memory pages (chain_of store_now running.parent) image
    frozen_beside image pages f = record {
      cut = f.cut;
      pends = f.pends;
      shown = f.shown;
      still = f.still;
      dumps = making.agrees_dump f.cut pages (chain_of store running.parent) (chain_of store_now running.parent) image memory gives f.dumps;
      areas = f.areas;
    }

    making_beside : (image : Making) → running.image ≡ Some image → image.order.slot ≡ slot_of running
        → IsMakingOn base history memory old.phases asked old.bodies last store dump old.beliefs running.parent running.number image
        → IsMakingOn base history memory new.phases asked_now new.bodies last_now store_now dump new.beliefs running.parent running.number image
    making_beside image is own m =
        let reserved : IsReserved running image.order.slot = record { place = running.opened; from = omega arith; is = own } in
        let same = leaves.same image.order.slot running refl reserved in
        record {
          pages = m.pages;
          keeps = making.agrees m.pages (chain_of store running.parent) (chain_of store_now running.parent) image memory gives m.keeps;
          files = m.files;
          frozen = λ past. frozen_beside image m.pages (m.frozen past);
          serial = (let low = m.serial in let more = leaves.last_is in omega (arith, low, more));
          fresh = leaves.numbers image.order.serial (running, image, refl, is, refl) m.fresh;
          low = m.low;
          others = λ slot i has differs. elim (leaves.images slot i has) [
            | inl before ↦ m.others slot i before differs
            | inr other ↦ (λ serial. subst (λ x. IsOtherImage x i.header.serial) is other (sym serial))
          ];
          phase = m.phase;
          phase_is = same.phase ∙ m.phase_is;
          belief = m.belief;
          belief_is = same.belief ∙ m.belief_is;
          request = m.request;
          own = own_same ∙ m.own;
          asked_at = m.asked_at;
          rests = m.rests;
          writing = subst (ArePagesOf image.order.slot) (sym lanes_same) m.writing;
          slot_is = subst (λ body. IsSlotFor image.stage image.order m.pages m.phase body m.request m.belief dump)
              (sym (ap (λ body. body_written body (lanes_of asked_now)) same.body ∙ ap (body_written (file_at old.bodies image.order.slot)) lanes_same)) m.slot_is;
        }

    image_beside : (image : Option Making) → running.image ≡ image → MakesItInSlot running image
        → IsImageOn base history memory old.phases asked old.bodies last store dump old.beliefs running.parent running.number image
        → IsImageOn base history memory new.phases asked_now new.bodies last_now store_now dump new.beliefs running.parent running.number image
    image_beside None is own m = record {
      rests = λ some space number bytes clean. gives (space, number) bytes (m.rests some space number bytes clean);
      none = own_same ∙ m.none;
      alone = m.alone;
    }
    image_beside (Some image) is own m = making_beside image is own m

    running_beside : MakesInItsSlot (Some running) → IsRunningOn base history memory old.phases asked old.bodies last store dump old.beliefs running
        → IsRunningOn base history memory new.phases asked_now new.bodies last_now store_now dump new.beliefs running
    running_beside own w = record {
      some = w.some;
      chain = leaves.chain ∙ w.chain;
      newest = λ j member restored. (let i = leaves.newest j member restored in let less = w.newest i.0 i.1 i.2 in let same = i.3 in omega (arith, less, same));
      within = λ slot r. (let below = w.within slot r in let count = leaves.count in omega (arith, below, count));
      unneeded = λ slot i r has needed.
          let had = sym (ap (λ o. option_and_then image_in o) (leaves.same slot running refl r).belief) ∙ has in
          w.unneeded slot i r had (leaves.needs slot i running refl r had needed);
      apart = w.apart;
      image = image_beside running.image refl own w.image;
    }

  pub work_beside : (grows : Bool) (running : Option Running) → store.grows ≡ grows → MakesInItsSlot running → LeavesWork store running memory old last last_now store_now new
      → IsAtWork base history grows memory old.phases asked old.bodies last store dump old.beliefs running
      → IsAtWork base history grows memory new.phases asked_now new.bodies last_now store_now dump new.beliefs running
  work_beside grows None is own leaves w = record {
    gives = λ grown. leaves.rests refl (is ∙ grown) (w.gives grown);
    none = own_same ∙ w.none;
    alone = w.alone;
    idle = leaves.chain ∙ w.idle;
  }
  work_beside grows (Some running) is own leaves w = running_beside running leaves own w
