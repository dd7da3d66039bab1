-- How what is believed of a store changes where a gate is opened or closed, an image enters or leaves the catalog, and
-- a job begins or is cancelled.
use Rattle.std.specs.Prelude.{◌≡◌, ◌≢◌, ℕ, true, ◌∷◌, List, Option, Some, None, Contains, IfSome, slice_get, slice_set}
use Rattle.sd_gate.specs.declared.call.Call.TheVariants.{Close}
use Rattle.sd_gate.specs.declared.phase.Phase.{Phase}
use Rattle.sd_gate.specs.declared.phase.Phase.TheVariants.{Whole}
use Rattle.sd_gate.specs.Requests.{Asked}
use Rattle.sd_image.specs.Image.{Image}
use Rattle.sd_image.specs.Shows.{IsTip}
use Rattle.sd_journal.specs.declared.entry.Entry.TheVariants.{Acked}
use Rattle.sd_journal.specs.History.{Base, History}
use Rattle.sd_journal.specs.Legal.{IsLegal}
use Rattle.sd_store_laws.specs.Beliefs.{Belief, Closed, Kept, Closing, Opening, IsAdded}
use Rattle.sd_store_laws.specs.Needed.{IsNeeded}
use Rattle.sd_store_laws.specs.SlotSteps.{Lacks, with_belief}
use Rattle.sd_store_laws.specs.Steps.{added, cancelled, checkpoint_begun, committed, merging, replaced, retired}
use Rattle.sd_store_laws.specs.Store.{IsNextDump, IsNextPreDump, IsMergedCopy, Store, jobs}
use Rattle.sd_crash_safety.specs.Believes.{HasStore, ShowsPending}
use Rattle.sd_crash_safety.specs.LiveImages.{NoneAt}
use Rattle.sd_crash_safety.specs.StoreSteps.{IsShut, MayAsk, MayOpen, SlotIsOpened}

-- a worker may ask for the gate of an image to be closed: its slot keeps it, and nobody needs it
pub record MayClose (phases : List Phase) (asked : List (Option Asked)) (store : Store) (beliefs : List Belief)
    (worker : ℕ) (request : Asked) (i : Image) : Type 0 where
  pub may : MayAsk phases asked worker request
  pub none : NoneAt asked request.id.slot
  pub call : request.id.call ≡ Close
  pub phase : may.phase ≡ Whole
  pub belief : slice_get beliefs request.id.slot ≡ Some (Kept i)
  pub unneeded : IsNeeded store.catalog (jobs store) i → ⊥

-- the merged image that is being opened is the only one, and no dump
pub record IsOnlyMergedCopy (store : Store) (dump : Option Image) (beliefs : List Belief) (i : Image) : Type 0 where
  pub twin : IsMergedCopy store.catalog store.source i
  pub only : (j : Image) → Contains beliefs (Opening j) → IsMergedCopy store.catalog store.source j → j ≡ i
  pub serial : IfSome dump (λ d. i.header.serial ≢ d.header.serial)

module _ (base : Base) (history : History) (phases : List Phase) (asked : List (Option Asked))
    (bodies : List (List ℕ)) where
  abbrev pub Has : List (Option Asked) → Store → Option Image → List Belief → Type 0
  Has requests store dump beliefs = HasStore base history phases requests bodies store dump beliefs

  pub record GateStepsAt : Type 0 where
    -- the opening of the dump's gate is taken up: with its image the store would show the pending pair
    pub opens_dump : (store : Store) (beliefs : List Belief) (worker : ℕ) (request : Asked) (i : Image)
        → MayOpen phases asked bodies beliefs worker request i → IsNextDump store i
        → ShowsPending base history (i ∷ store.catalog)
        → Has asked store None beliefs
        → Has (slice_set asked worker (Some request)) store (Some i) (with_belief beliefs request.id.slot (Opening i))
    -- that of a pre-dump or a merged image
    pub opens : (store : Store) (dump : Option Image) (beliefs : List Belief) (worker : ℕ) (request : Asked) (i : Image)
        → MayOpen phases asked bodies beliefs worker request i → IsAdded store dump i → Has asked store dump beliefs
        → Has (slice_set asked worker (Some request)) store dump (with_belief beliefs request.id.slot (Opening i))
    pub closes : (store : Store) (dump : Option Image) (beliefs : List Belief) (worker : ℕ) (request : Asked)
        (i : Image)
        → MayClose phases asked store beliefs worker request i → Has asked store dump beliefs
        → Has (slice_set asked worker (Some request)) store dump (with_belief beliefs request.id.slot (Closing i))
    -- a pre-dump is open for sure
    pub adds : (store : Store) (beliefs : List Belief) (slot : ℕ) (i : Image)
        → SlotIsOpened phases asked beliefs slot i → IsNextPreDump store i → Has asked store None beliefs
        → Has asked (added store (i ∷ store.catalog) i.header.stands_for) None (with_belief beliefs slot (Kept i))
    -- a dump is open for sure, and acknowledged
    pub commits : (store : Store) (beliefs : List Belief) (slot n : ℕ) (i : Image)
        → SlotIsOpened phases asked beliefs slot i → IsLegal base (Acked n ∷ history) → Has asked store (Some i) beliefs
        → HasStore base (Acked n ∷ history) phases asked bodies (committed store (i ∷ store.catalog)) None
        (with_belief beliefs slot (Kept i))
    -- a merged image is open for sure
    pub replaces : (store : Store) (dump : Option Image) (beliefs : List Belief) (slot : ℕ) (i : Image)
        → SlotIsOpened phases asked beliefs slot i → IsOnlyMergedCopy store dump beliefs i
        → Has asked store dump beliefs
        → Has asked (replaced store (i ∷ store.catalog)) dump (with_belief beliefs slot (Kept i))
    -- an image is closed for sure, and leaves the catalog
    pub retires : (store : Store) (dump : Option Image) (beliefs : List Belief) (slot : ℕ) (i : Image)
        → IsShut phases asked slot → slice_get beliefs slot ≡ Some (Closing i) → Has asked store dump beliefs
        → (new : List Image) × Lacks store.catalog i new
        × Has asked (retired store new) dump (with_belief beliefs slot Closed)
    -- one that was given up is closed for sure, and was in no catalog
    pub drops : (store : Store) (dump : Option Image) (beliefs : List Belief) (slot : ℕ) (i : Image)
        → IsShut phases asked slot → slice_get beliefs slot ≡ Some (Opening i) → Has asked store dump beliefs
        → Has asked store dump (with_belief beliefs slot Closed)
    pub begins : (store : Store) (beliefs : List Belief) (tip : Image) → store.grows ≡ true → IsTip store.catalog tip
        → Has asked store None beliefs → Has asked (checkpoint_begun store tip.header.stands_for) None beliefs
    pub begins_whole : (store : Store) (beliefs : List Belief) → Has asked store None beliefs
        → Has asked (checkpoint_begun store 0) None beliefs
    pub cancels : (store : Store) (beliefs : List Belief) → Has asked store None beliefs
        → Has asked (cancelled store) None beliefs
    pub merges : (store : Store) (dump : Option Image) (beliefs : List Belief) (tip : Image) → IsTip store.catalog tip
        → store.source ≡ None
        → Has asked store dump beliefs → Has asked (merging store tip) dump beliefs

abbrev pub GateSteps : Type 0
GateSteps =
    (base : Base) (history : History) (phases : List Phase) (asked : List (Option Asked)) (bodies : List (List ℕ))
    → GateStepsAt base history phases asked bodies
