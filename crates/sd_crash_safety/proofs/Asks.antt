-- What is known of an open store once the next call of an image's plan was asked for.
use Rattle.std.proofs.Common.{◌≡◌, ◌≢◌, ◌⊎◌, ◌↔◌, ℕ, ◌≤◌, ◌==◌, ◌&&◌, Bool, true, List, Option, Some, None, option_and_then, slice_get, slice_set, refl, sym, ◌∙◌, ap, subst, inl, inr, arith}
use Rattle.std.proofs.lemmas.Bool.{cases_eq}
use Rattle.sd_disk.specs.Contents.{file_at}
use Rattle.sd_image.specs.Image.{Image}
use Rattle.sd_image.specs.Words.{kind_number}
use Rattle.sd_chain.specs.Catalog.{Places}
use Rattle.sd_gate.specs.declared.phase.Phase.{Phase}
use Rattle.sd_gate.specs.Plans.{Planned}
use Rattle.sd_gate.specs.Requests.{Asked}
use Rattle.sd_journal.specs.History.{Base, History}
use Rattle.sd_pagetable.specs.Contents.{Contents}
use Rattle.sd_rounds.specs.Dumper.{IsReserved, Running, writes_of_image}
use Rattle.sd_rounds.specs.Making.{Making, is_frozen_dump, plan_of, with_plan}
use Rattle.sd_rounds.specs.Writes.{no_writes}
use Rattle.sd_store_laws.specs.Beliefs.{Belief, Kept, Closing, image_at, image_in}
use Rattle.sd_store_laws.specs.LiveImages.{CatalogFollows, SlotHasImage}
use Rattle.sd_store_laws.specs.Needs.{IsNeededIn}
use Rattle.sd_store_laws.specs.Store.{Store}
use Rattle.sd_crash_safety.specs.LiveImages.{ArePagesOf, IsFrozenAs, IsLiveOn, IsMakingOn, IsRunningOn, IsSlotFor, NoneAt, body_written, chain_of, ids_of, lanes_of}
use Rattle.sd_rounds.proofs.DumperLemmas.{past_with}
use Rattle.sd_rounds.proofs.FileLemmas.{asked_files as files_with, asked_areas as areas_with}
use Rattle.sd_rounds.proofs.MakingLemmas.{asked_dumps as dumps_with}
use Rattle.sd_crash_safety.proofs.AsksImage.{kept_with}
use Rattle.sd_crash_safety.proofs.Lanes.{body_still, lanes_beside, no_pages, plan_outside}
use Rattle.sd_store_laws.proofs.SlotSteps.{set_other}
use Rattle.sd_crash_safety.proofs.Places.{set_same}

-- one belief changed
pub record IsChangedAt (beliefs : List Belief) (slot : ℕ) (new : Belief) (then : List Belief) : Type 0 where
  pub there : slice_get then slot ≡ Some new
  pub others : (k : ℕ) → k ≢ slot → slice_get then k ≡ slice_get beliefs k

pub changed_by : (beliefs : List Belief) (slot : ℕ) (old new : Belief) → slice_get beliefs slot ≡ Some old → IsChangedAt beliefs slot new (slice_set beliefs slot new)
changed_by beliefs slot old new at = record { there = set_same beliefs slot old new at; others = λ k differs. set_other beliefs slot k new differs }

pub unchanged_at : (beliefs : List Belief) (slot : ℕ) (belief : Belief) → slice_get beliefs slot ≡ Some belief → IsChangedAt beliefs slot belief beliefs
unchanged_at beliefs slot belief at = record { there = at; others = λ k differs. refl }

-- a belief in which an image stands for sure, or is being closed
abbrev pub HasIt : Belief → Image → Type 0
HasIt belief i = (belief ≡ Kept i) ⊎ (belief ≡ Closing i)

has_it : (beliefs : List Belief) (slot : ℕ) (belief : Belief) (i : Image) → slice_get beliefs slot ≡ Some belief → SlotHasImage beliefs slot i → HasIt belief i
has_it beliefs slot belief i at given = grind arith

it_has : (beliefs : List Belief) (slot : ℕ) (belief : Belief) (i : Image) → slice_get beliefs slot ≡ Some belief → HasIt belief i → SlotHasImage beliefs slot i
it_has beliefs slot belief i at (inl kept) = inl (at ∙ ap Some kept)
it_has beliefs slot belief i at (inr closing) = inr (at ∙ ap Some closing)

pub same_images : (beliefs then : List Belief) (slot : ℕ) (old new : Belief) → slice_get beliefs slot ≡ Some old → IsChangedAt beliefs slot new then → ((i : Image) → HasIt old i ↔ HasIt new i)
    → (k : ℕ) (i : Image) → SlotHasImage beliefs k i ↔ SlotHasImage then k i
same_images beliefs then slot old new at changed same k i = elim (cases_eq k slot) [
  | inl its ↦ (
    λ has. subst (λ s. SlotHasImage then s i) (sym its) (it_has then slot new i changed.there ((same i).0 (has_it beliefs slot old i at (subst (λ s. SlotHasImage beliefs s i) its has)))),
    λ has. subst (λ s. SlotHasImage beliefs s i) (sym its) (it_has beliefs slot old i at ((same i).1 (has_it then slot new i changed.there (subst (λ s. SlotHasImage then s i) its has)))),
  )
  | inr differs ↦ (
    λ has. subst (λ o. (o ≡ Some (Kept i)) ⊎ (o ≡ Some (Closing i))) (sym (changed.others k differs)) has,
    λ has. subst (λ o. (o ≡ Some (Kept i)) ⊎ (o ≡ Some (Closing i))) (changed.others k differs) has,
  )
]

-- an image that stands in another slot, or in this one
image_else : (beliefs then : List Belief) (slot : ℕ) (new : Belief) → IsChangedAt beliefs slot new then → (k : ℕ) → k ≢ slot → image_at then k ≡ image_at beliefs k
image_else beliefs then slot new changed k differs = ap (λ o. option_and_then image_in o) (changed.others k differs)

image_here : (beliefs then : List Belief) (slot : ℕ) (new : Belief) → IsChangedAt beliefs slot new then → image_at then slot ≡ image_in new
image_here beliefs then slot new changed = ap (λ o. option_and_then image_in o) changed.there

-- ---- in any lane

module _ (follows : CatalogFollows) (base : Base) (history : History) (places : Places) (grows : Bool) (memory : Contents) (phases : List Phase) (asked : List (Option Asked)) (bodies : List (List ℕ))
    (last : ℕ) (store : Store) (dump dump_now : Option Image) (beliefs then : List Belief) (running : Running) (image : Making) (request : Asked) (belief_now : Belief)
    (u : IsLiveOn base history places grows memory phases asked bodies last store dump beliefs (Some running))
    (m : IsMakingOn base history memory phases asked bodies last store dump beliefs running.parent running.number image)
    (lane : ℕ) (free : slice_get asked lane ≡ Some None) (on : request.id.slot ≡ image.order.slot)
    (changed : IsChangedAt beliefs image.order.slot belief_now then) (same : (i : Image) → HasIt m.belief i ↔ HasIt belief_now i)
    (few : (i : Image) → image_in belief_now ≡ Some i → i.header.serial ≤ last)
    (unneeded : (i : Image) → IsReserved running image.order.slot → image_in belief_now ≡ Some i → IsNeededIn store i → ⊥) where
  abbrev slot : ℕ
  slot = image.order.slot

  abbrev asked_now : List (Option Asked)
  asked_now = slice_set asked lane (Some request)

  own_now : slice_get asked_now lane ≡ Some (Some request)
  own_now = set_same asked lane None (Some request) free

  -- no request was out on a slot on which none is
  none_then : (k : ℕ) → NoneAt asked_now k → NoneAt asked k
  none_then k none worker r out here = elim (cases_eq worker lane) [
    | inl its ↦ (let no : Some None ≡ Some (Some r) = sym free ∙ ap (slice_get asked) (sym its) ∙ out in cc)
    | inr differs ↦ none worker r (set_other asked lane worker (Some request) differs ∙ out) here
  ]

  else_where : (k : ℕ) → NoneAt asked_now k → k ≢ slot
  else_where k none its = none lane request own_now (on ∙ sym its)

  pub in_use_from : (later_image : Making) → ids_of (lanes_of asked_now) ≡ later_image.writes → IsMakingOn base history memory phases asked_now bodies last store dump_now then running.parent running.number later_image
      → IsLiveOn base history places grows memory phases asked_now bodies last store dump_now then (Some (record running { image = Some later_image }))
  in_use_from later_image writes_now making_it =
      let w : IsRunningOn base history memory phases asked bodies last store dump beliefs running = u.job in
      record {
        catalog = follows.stays places beliefs then (same_images beliefs then slot m.belief belief_now m.belief_is changed same) u.catalog;
        grows_is = u.grows_is;
        used = record {
          above = u.used.above;
          slots = λ k i has. elim (cases_eq k slot) [
            | inl its ↦ few i (sym (image_here beliefs then slot belief_now changed) ∙ ap (image_at then) (sym its) ∙ has)
            | inr differs ↦ u.used.slots k i (sym (image_else beliefs then slot belief_now changed k differs) ∙ has)
          ];
        };
        exact = λ k phase belief at of none. u.exact k phase belief at (sym (changed.others k (else_where k none)) ∙ of) (none_then k none);
        writes = writes_now;
        job = record {
          some = w.some;
          chain = w.chain;
          newest = w.newest;
          within = λ k r. w.within k (record { place = r.place; from = r.from; is = r.is });
          unneeded = λ k i r has needed. elim (cases_eq k slot) [
            | inl its ↦ unneeded i (record { place = r.place; from = r.from; is = sym its ∙ r.is }) (sym (image_here beliefs then slot belief_now changed) ∙ ap (image_at then) (sym its) ∙ has) needed
            | inr differs ↦ w.unneeded k i (record { place = r.place; from = r.from; is = r.is }) (sym (image_else beliefs then slot belief_now changed k differs) ∙ has) needed
          ];
          apart = w.apart;
          image = making_it;
        };
      }

-- ---- a call of a plan

module _ (follows : CatalogFollows) (base : Base) (history : History) (places : Places) (grows : Bool) (memory : Contents) (phases : List Phase) (asked : List (Option Asked)) (bodies : List (List ℕ))
    (last : ℕ) (store : Store) (dump dump_now : Option Image) (beliefs then : List Belief) (running : Running) (image : Making) (request : Asked) (belief_now : Belief)
    (u : IsLiveOn base history places grows memory phases asked bodies last store dump beliefs (Some running))
    (m : IsMakingOn base history memory phases asked bodies last store dump beliefs running.parent running.number image)
    (free : slice_get asked 0 ≡ Some None) (on : request.id.slot ≡ image.order.slot)
    (changed : IsChangedAt beliefs image.order.slot belief_now then) (same : (i : Image) → HasIt m.belief i ↔ HasIt belief_now i)
    (few : (i : Image) → image_in belief_now ≡ Some i → i.header.serial ≤ last)
    (making : running.image ≡ Some image) (unneeded : (i : Image) → IsReserved running image.order.slot → image_in belief_now ≡ Some i → IsNeededIn store i → ⊥) where
  abbrev its_slot : ℕ
  its_slot = image.order.slot

  abbrev asked_call : List (Option Asked)
  asked_call = slice_set asked 0 (Some request)

  lanes_call : lanes_of asked_call ≡ lanes_of asked
  lanes_call = lanes_beside asked 0 (Some request) (omega arith)

  -- no data page is being written while a plan is made
  none_writing : (plan : Planned) → plan_of image.stage ≡ Some plan → image.writes ≡ no_writes
  none_writing plan was = m.rests (plan_outside image.stage plan was)

  lanes_empty : (plan : Planned) → plan_of image.stage ≡ Some plan → ids_of (lanes_of asked) ≡ no_writes
  lanes_empty plan was = u.writes ∙ ap writes_of_image making ∙ none_writing plan was

  abbrev next : Planned → Making
  next p = record image { stage = with_plan image.stage p }

  frozen_then : (p : Planned) → is_frozen_dump (next p) ≡ true → IsFrozenAs base history running.number memory m.pages (chain_of store running.parent) (next p)
  frozen_then p is =
      let before : is_frozen_dump image ≡ true = ap (λ past. (kind_number image.order.kind == 2) && past) (sym (past_with image.stage p)) ∙ is in
      let f = m.frozen before in
      record {
        cut = f.cut;
        pends = f.pends;
        shown = f.shown;
        still = f.still;
        dumps = dumps_with image.stage p f.cut m.pages (chain_of store running.parent) image.pass memory f.dumps;
        areas = areas_with image.stage p f.cut f.areas;
      }

  pub making_then : (plan p : Planned) → plan_of image.stage ≡ Some plan → IsSlotFor (with_plan image.stage p) image.order m.pages m.phase (file_at bodies its_slot) (Some request) belief_now dump_now
      → IsMakingOn base history memory phases asked_call bodies last store dump_now then running.parent running.number (next p)
  making_then plan p was slot_is = record {
    pages = m.pages;
    keeps = record {
      count = m.keeps.count;
      whole = m.keeps.whole;
      digested = m.keeps.digested;
      kept = kept_with image.stage plan p was m.pages (chain_of store running.parent) image.pass memory m.keeps.kept;
    };
    files = files_with image.stage p image.order image.pass m.pages m.files;
    frozen = frozen_then p;
    serial = m.serial;
    fresh = m.fresh;
    low = m.low;
    others = λ k i has differs. m.others k i (sym (image_else beliefs then its_slot belief_now changed k differs) ∙ has) differs;
    phase = m.phase;
    phase_is = m.phase_is;
    belief = belief_now;
    belief_is = changed.there;
    request = Some request;
    own = set_same asked 0 None (Some request) free;
    asked_at = on;
    rests = λ outside. none_writing plan was;
    writing = subst (ArePagesOf its_slot) (sym lanes_call) (no_pages its_slot (lanes_of asked) (lanes_empty plan was));
    slot_is = subst (λ body. IsSlotFor (with_plan image.stage p) image.order m.pages m.phase body (Some request) belief_now dump_now)
        (sym (ap (body_written (file_at bodies its_slot)) lanes_call ∙ body_still (file_at bodies its_slot) (lanes_of asked) (lanes_empty plan was))) slot_is;
  }

  pub in_use_then : (plan p : Planned) → plan_of image.stage ≡ Some plan → IsSlotFor (with_plan image.stage p) image.order m.pages m.phase (file_at bodies its_slot) (Some request) belief_now dump_now
      → IsLiveOn base history places grows memory phases asked_call bodies last store dump_now then (Some (record running { image = Some (next p) }))
  in_use_then plan p was slot_is =
      in_use_from follows base history places grows memory phases asked bodies last store dump dump_now beliefs then running image request belief_now u m 0 free on changed same few unneeded
      (next p) (ap ids_of lanes_call ∙ u.writes ∙ ap writes_of_image making) (making_then plan p was slot_is)
