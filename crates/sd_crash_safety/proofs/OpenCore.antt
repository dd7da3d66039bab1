-- A core whose store is open, from what is known of its parts.
use Rattle.std.proofs.Common.{◌≡◌, ℕ, Bool, false, List, length, Option, None, arith}
use Rattle.sd_image.specs.Image.{Image}
use Rattle.sd_chain.specs.Catalog.{Places}
use Rattle.sd_gate.specs.declared.phase.Phase.{Phase}
use Rattle.sd_gate.specs.Requests.{Asked}
use Rattle.sd_journal.specs.History.{Base, History}
use Rattle.sd_merge.specs.Merger as merger
use Rattle.sd_pagetable.specs.Contents.{Contents}
use Rattle.sd_rounds.specs.Dumper.{Running}
use Rattle.sd_store_laws.specs.Beliefs.{Belief}
use Rattle.sd_store_laws.specs.Store.{Store}
use Rattle.sd_crash_safety.specs.Believes.{Believes, HasStore}
use Rattle.sd_crash_safety.specs.LiveImages.{IsLiveOn, ids_of}
use Rattle.sd_crash_safety.specs.Merges.{IsLiveMerge}
use Rattle.sd_crash_safety.specs.View.{CoreView, history_of}

-- the fields of a core
pub record HasParts (core : CoreView) (base : Base) (history : History) (places : Places) (grows : Bool) (memory : Contents) (phases : List Phase) (last : ℕ) (running : Option Running) (merge : Option merger.Running) : Type 0 where
  pub base_is : core.base ≡ base
  pub history_is : history_of core ≡ history
  pub places_is : core.catalog ≡ places
  pub grows_is : core.grows ≡ grows
  pub memory_is : core.memory ≡ memory
  pub phases_is : core.phases ≡ phases
  pub last_is : core.numbers.serial ≡ last
  pub running_is : core.dumper.running ≡ running
  pub merger_is : core.merger ≡ merge
  pub closed : core.opener ≡ None

module _ (core : CoreView) (base : Base) (history : History) (places : Places) (grows : Bool) (memory : Contents) (phases : List Phase) (last : ℕ) (running : Option Running)
    (merge : Option merger.Running) (is : HasParts core base history places grows memory phases last running merge)
    (asked : List (Option Asked)) (bodies files : List (List ℕ)) (store : Store) (dump : Option Image) (beliefs : List Belief) where
  has_parts : HasStore base history phases asked bodies store dump beliefs → HasStore core.base (history_of core) core.phases asked bodies store dump beliefs
  has_parts has = grind arith

  pub in_use_parts : IsLiveOn base history places grows memory phases asked bodies last store dump beliefs running
      → IsLiveOn core.base (history_of core) core.catalog core.grows core.memory core.phases asked bodies core.numbers.serial store dump beliefs core.dumper.running
  in_use_parts u = grind arith

  pub merging_parts : IsLiveMerge phases asked bodies last store beliefs running merge
      → IsLiveMerge core.phases asked bodies core.numbers.serial store beliefs core.dumper.running core.merger
  merging_parts m = grind arith

  pub believes_parts : (core.committing ≡ false → dump ≡ None) → length files ≡ length phases → ids_of asked ≡ core.outs → HasStore base history phases asked bodies store dump beliefs
      → IsLiveOn base history places grows memory phases asked bodies last store dump beliefs running → IsLiveMerge phases asked bodies last store beliefs running merge
      → Believes core asked bodies files
  believes_parts sure count out has u m = grind arith
