-- What a core goes on believing.
use Rattle.std.specs.Prelude.{◌≡◌, ◌⊎◌, ℕ, List, ◌∷◌, ◌≤◌, drop, true, false, length, map, Option, Some, None}
use Rattle.std.specs.Prelude.{slice_get, slice_set}
use Rattle.sd_chain.specs.Catalog.{AreInOrder, Opened, place_of}
use Rattle.sd_chain.specs.Store.{IsCatalogOf}
use Rattle.sd_gate.specs.Calls.{AreKept, IsLook}
use Rattle.sd_gate.specs.Fits.{DiskLeaves}
use Rattle.sd_gate.specs.Laws.{found_phase}
use Rattle.sd_gate.specs.Requests.{Asked, Made}
use Rattle.sd_image.specs.Shows.{Shows}
use Rattle.sd_journal.specs.declared.entry.Entry.TheVariants.{Reopened}
use Rattle.sd_journal.specs.Allowed.{Shown, IsLastPair, IsPendingPair, shown_number}
use Rattle.sd_journal.specs.Legal.{IsLegal}
use Rattle.sd_journal.specs.Marked.{Told}
use Rattle.sd_opener.specs.Looking.{Looking}
use Rattle.sd_opener.specs.Sees.{Sees}
use Rattle.sd_crash_safety.specs.declared.standing.Standing.TheVariants.{Open}
use Rattle.sd_crash_safety.specs.Believes.{Believes}
use Rattle.sd_crash_safety.specs.Calls.{NoneOut}
use Rattle.sd_crash_safety.specs.LiveImages.{ids_of}
use Rattle.sd_crash_safety.specs.OpenerSteps.{nobody}
use Rattle.sd_crash_safety.specs.Shown.{ShowsAllowed}
use Rattle.sd_crash_safety.specs.View.{CoreView, history_of}

-- what a device call makes of a request: the bytes of a read, and of the files: nothing where it only looks
pub record IsMadeOf (request : Asked) (made : Made) (files new : List (List ℕ)) : Type 0 where
  pub id : made.request.id ≡ request.id
  pub bytes : AreKept request.id.call request.bytes made.request.bytes
  pub looks : IsLook request.id.call → new ≡ files
  pub count : length new ≡ length files

-- Where the call of a request that is out was made, the core believes the same, with the request as it stands in the
-- outcome.
abbrev pub PerformedIsBelieved : Type 0
PerformedIsBelieved = (core : CoreView) (asked : List (Option Asked)) (bodies files new : List (List ℕ)) (worker : ℕ)
    (request : Asked) (made : Made)
    → slice_get asked worker ≡ Some (Some request) → IsMadeOf request made files new
    → Believes core asked bodies files → Believes core (slice_set asked worker (Some made.request)) bodies new

-- an open store has the catalog of its files, and nothing runs in it
pub record IsOpenAs (core : CoreView) (files : List (List ℕ)) : Type 0 where
  pub catalog : IsCatalogOf files core.catalog
  pub order : AreInOrder core.catalog
  pub serials : (serial : ℕ) (i : Opened) → place_of core.catalog serial ≡ Some (Some i)
      → i.header.serial ≤ core.numbers.serial
  pub grows : core.grows ≡ false
  pub idle : core.dumper.running ≡ None
  pub unmerged : core.merger ≡ None
  pub outs : core.outs ≡ nobody

-- Files that show the last pair are believed, where each slot is in the phase that its file shows, nothing is out, and
-- no opener runs: so a core begins, and so it is when a store was opened again.
abbrev pub FoundIsBelieved : Type 0
FoundIsBelieved = (core : CoreView) (asked : List (Option Asked)) (files : List (List ℕ)) (shown : Shown)
    → core.phases ≡ map found_phase files → core.opener ≡ None → NoneOut asked → ids_of asked ≡ core.outs
    → (core.standing ≡ Open → IsOpenAs core files)
    → Shows files shown → IsLastPair core.base (history_of core) shown → Believes core asked (map (drop 1) files) files

-- Whatever a crash leaves of the slots shows a pair that the journal allows.
abbrev pub LeftShowsAllowed : Type 0
LeftShowsAllowed = (core : CoreView) (asked : List (Option Asked)) (bodies files left : List (List ℕ))
    → Believes core asked bodies files → DiskLeaves core.phases bodies left
    → ShowsAllowed core.base (history_of core) left

-- files that show the last pair; or, where the opening of the dump's gate was taken up, the pending one
pub record ShowsAwaited (core : CoreView) (files : List (List ℕ)) : Type 0 where
  pub shown : Shown
  pub shows : Shows files shown
  pub awaited : IsLastPair core.base (history_of core) shown
      ⊎ ((core.committing ≡ true) × IsPendingPair core.base (history_of core) shown)

-- What an opener finds in a store that is as it is believed to be.
pub record OpenerFinds : Type 0 where
  -- while none of its requests is out it sees the files
  pub sees : (core : CoreView) (opener : Looking) (asked : List (Option Asked)) (bodies files : List (List ℕ))
      → core.opener ≡ Some opener → slice_get core.outs 2 ≡ Some None → Believes core asked bodies files
      → Sees files None opener
  -- and these show the last pair, or the pending one
  pub shows : (core : CoreView) (asked : List (Option Asked)) (bodies files left : List (List ℕ))
      → Believes core asked bodies files → DiskLeaves core.phases bodies left → ShowsAwaited core left

-- a store was opened again: the journal has the checkpoint that its files show, and each slot is in the phase that its
-- file shows
pub record StoreIsReopened (old new : CoreView) (files : List (List ℕ)) (found : Option ℕ) : Type 0 where
  pub base : new.base ≡ old.base
  pub items : new.items ≡ Told (Reopened found) ∷ old.items
  pub legal : IsLegal old.base (Reopened found ∷ history_of old)
  pub number : (shown : Shown) → Shows files shown → shown_number shown ≡ found
  pub phases : new.phases ≡ map found_phase files
  pub outs : new.outs ≡ old.outs
  pub opener : new.opener ≡ None
  pub open_as : (shown : Shown) → Shows files shown → IsOpenAs new files

-- What is believed then starts anew from the files, which are as a crash could have left them.
abbrev pub ReopenedIsBelieved : Type 0
ReopenedIsBelieved =
    (old new : CoreView) (asked : List (Option Asked)) (bodies files : List (List ℕ)) (found : Option ℕ)
    → NoneOut asked → Believes old asked bodies files → DiskLeaves old.phases bodies files
    → StoreIsReopened old new files found
    → Believes new asked (map (drop 1) files) files
