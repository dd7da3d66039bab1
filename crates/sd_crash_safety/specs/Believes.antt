-- What a core believes of the slots, whose bytes it doesn't hold.
use Rattle.std.specs.Prelude.{◌≡◌, ℕ, Bool, List, ◌∷◌, length, Option, Some, IfSome, slice_get}
use Rattle.sd_disk.specs.Contents.{file_at}
use Rattle.sd_gate.specs.declared.phase.Phase.{Phase}
use Rattle.sd_gate.specs.Phases.{Waits, after, body_after}
use Rattle.sd_gate.specs.Requests.{Asked}
use Rattle.sd_image.specs.Image.{Image}
use Rattle.sd_image.specs.Shows.{ImagesShow}
use Rattle.sd_journal.specs.Allowed.{Shown, IsLastPair, IsPendingPair}
use Rattle.sd_journal.specs.History.{Base, History}
use Rattle.sd_store_laws.specs.Beliefs.{AreSlotsOf, Belief}
use Rattle.sd_store_laws.specs.Gates.{AreBelieved, MayBelieve}
use Rattle.sd_store_laws.specs.Store.{IsSoundStore, Store}
use Rattle.sd_crash_safety.specs.Knows.{Knows}
use Rattle.sd_crash_safety.specs.View.{CoreView, history_of}

-- A request that is out: its slot is ready for its call, and what is believed of the slot holds whatever comes of it.
pub record IsCovered (phases : List Phase) (bodies : List (List ℕ)) (beliefs : List Belief)
    (request : Asked) : Type 0 where
  pub phase : Phase
  pub waits : Waits phases request.id phase
  pub belief : Belief
  pub is : slice_get beliefs request.id.slot ≡ Some belief
  pub believed : (done : Bool) → MayBelieve (after phase request.id.call done)
      (body_after (file_at bodies request.id.slot) request.id.call request.bytes) belief

-- the images show the last pair of the journal
pub record ShowsLast (base : Base) (history : History) (images : List Image) : Type 0 where
  pub shown : Shown
  pub is : IsLastPair base history shown
  pub shows : ImagesShow images shown

-- the images show the pending pair of the journal
pub record ShowsPending (base : Base) (history : History) (images : List Image) : Type 0 where
  pub shown : Shown
  pub is : IsPendingPair base history shown
  pub shows : ImagesShow images shown

-- With these bodies after the gates, and these requests out: the slots are believed to be those of this sound store,
-- which shows the last pair; and with the dump that is being opened, if one is, it would show the pending pair.
pub record HasStore (base : Base) (history : History) (phases : List Phase) (asked : List (Option Asked))
    (bodies : List (List ℕ))
    (store : Store) (dump : Option Image) (beliefs : List Belief) : Type 0 where
  pub sound : IsSoundStore store
  pub slots : AreSlotsOf store dump beliefs
  pub believed : AreBelieved phases bodies beliefs
  pub stored : length bodies ≡ length phases
  pub waiting : (worker : ℕ) (request : Asked) → slice_get asked worker ≡ Some (Some request)
      → IsCovered phases bodies beliefs request
  pub last : ShowsLast base history store.catalog
  pub next : IfSome dump (λ image. ShowsPending base history (image ∷ store.catalog))

-- What a core believes of these slots, and what it knows of these files.
pub record Believes (core : CoreView) (asked : List (Option Asked)) (bodies files : List (List ℕ)) : Type 0 where
  pub store : Store
  pub dump : Option Image
  pub beliefs : List Belief
  pub has : HasStore core.base (history_of core) core.phases asked bodies store dump beliefs
  pub knows : Knows core asked bodies files store dump beliefs
