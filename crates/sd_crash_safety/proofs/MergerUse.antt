-- What is known of an open store once a call of the merger was asked for.
use Rattle.std.proofs.Common.{◌≡◌, ◌≢◌, ◌⊎◌, ◌↔◌, ℕ, ◌≤◌, Bool, List, Option, Some, None, option_and_then, slice_get, slice_set, sym, ◌∙◌, ap, subst, inl, inr, arith}
use Rattle.std.proofs.lemmas.Bool.{cases_eq}
use Rattle.sd_image.specs.Image.{Image}
use Rattle.sd_chain.specs.Catalog.{Places}
use Rattle.sd_gate.specs.declared.phase.Phase.{Phase}
use Rattle.sd_gate.specs.Requests.{Asked}
use Rattle.sd_journal.specs.History.{Base, History}
use Rattle.sd_pagetable.specs.Contents.{Contents}
use Rattle.sd_rounds.specs.Dumper.{IsReserved, Running}
use Rattle.sd_rounds.specs.MakingLaws.{MakingLaws}
use Rattle.sd_store_laws.specs.Beliefs.{Belief, image_at, image_in}
use Rattle.sd_store_laws.specs.LiveImages.{CatalogFollows}
use Rattle.sd_store_laws.specs.Store.{Store}
use Rattle.sd_crash_safety.specs.LiveImages.{IsLiveOn, NoneAt, ids_of}
use Rattle.sd_crash_safety.specs.MergerSteps.{MakesInItsSlot}
use Rattle.sd_crash_safety.specs.Merges.{IsSpared, MakesOther}
use Rattle.sd_crash_safety.proofs.Asks.{HasIt, IsChangedAt, same_images}
use Rattle.sd_crash_safety.proofs.MergeStays.{slots_at}
use Rattle.sd_store_laws.proofs.SlotSteps.{set_other}
use Rattle.sd_crash_safety.proofs.Places.{set_same}
use Rattle.sd_crash_safety.proofs.WorkStays.{LeavesWork, work_beside}
use Rattle.sd_crash_safety.proofs.Lanes.{lanes_beside}

-- a slot that the checkpoint spares is none of its slots
pub other_slot : (running : Option Running) (slot k : ℕ) → IsSpared running slot → (one : Running) → running ≡ Some one → IsReserved one k → k ≢ slot
other_slot running slot k spared one is r same = subst (λ x. IsSpared x slot) is spared (subst (IsReserved one) same r)

module _ (follows : CatalogFollows) (making : MakingLaws) (base : Base) (history : History) (places : Places) (grows : Bool) (memory : Contents) (phases : List Phase) (asked : List (Option Asked)) (bodies : List (List ℕ))
    (last : ℕ) (store : Store) (dump : Option Image) (beliefs then : List Belief) (running : Option Running) (slot : ℕ) (belief belief_now : Belief) (request : Asked)
    (u : IsLiveOn base history places grows memory phases asked bodies last store dump beliefs running)
    (free : slice_get asked 1 ≡ Some None) (on : request.id.slot ≡ slot) (at : slice_get beliefs slot ≡ Some belief)
    (changed : IsChangedAt beliefs slot belief_now then) (same : (i : Image) → HasIt belief i ↔ HasIt belief_now i)
    (few : (i : Image) → image_in belief_now ≡ Some i → i.header.serial ≤ last)
    (other : (i : Image) → image_in belief_now ≡ Some i → (image_in belief ≡ Some i) ⊎ MakesOther running i.header.serial)
    (spared : IsSpared running slot) (own : MakesInItsSlot running) where
  abbrev asked_now : List (Option Asked)
  asked_now = slice_set asked 1 (Some request)

  own_now : slice_get asked_now 1 ≡ Some (Some request)
  own_now = set_same asked 1 None (Some request) free

  none_then : (k : ℕ) → NoneAt asked_now k → NoneAt asked k
  none_then k none worker r out here = elim (cases_eq worker 1) [
    | inl its ↦ (let no : Some None ≡ Some (Some r) = sym free ∙ ap (slice_get asked) (sym its) ∙ out in cc)
    | inr differs ↦ none worker r (set_other asked 1 worker (Some request) differs ∙ out) here
  ]

  image_else : (k : ℕ) → k ≢ slot → image_at then k ≡ image_at beliefs k
  image_else k differs = ap (λ o. option_and_then image_in o) (changed.others k differs)

  image_here : (k : ℕ) → k ≡ slot → image_at then k ≡ image_in belief_now
  image_here k its = ap (image_at then) its ∙ ap (λ o. option_and_then image_in o) changed.there

  leaves : LeavesWork store running memory (slots_at phases bodies beliefs) last last store (slots_at phases bodies then)
  leaves = grind arith

  pub use_then : IsLiveOn base history places grows memory phases asked_now bodies last store dump then running
  use_then = record {
    catalog = follows.stays places beliefs then (same_images beliefs then slot belief belief_now at changed same) u.catalog;
    grows_is = u.grows_is;
    used = record {
      above = u.used.above;
      slots = λ k i has. elim (cases_eq k slot) [
        | inl its ↦ few i (sym (image_here k its) ∙ has)
        | inr differs ↦ u.used.slots k i (sym (image_else k differs) ∙ has)
      ];
    };
    exact = λ k phase b here of none. u.exact k phase b here (sym (changed.others k (λ its. none 1 request own_now (on ∙ sym its))) ∙ of) (none_then k none);
    writes = ap ids_of (lanes_beside asked 1 (Some request) (omega arith)) ∙ u.writes;
    job = work_beside making base history memory store (slots_at phases bodies beliefs) last last store (slots_at phases bodies then) dump asked asked_now
        (set_other asked 1 0 (Some request) (λ zero_is. (let no : 0 ≡ 1 = zero_is in omega (arith, no)))) (lanes_beside asked 1 (Some request) (omega arith)) grows running u.grows_is own leaves u.job;
  }
