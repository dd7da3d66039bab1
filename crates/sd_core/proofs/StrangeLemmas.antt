-- When an opener refuses a store as damaged.
use Rattle.std.proofs.Common.{◌≡◌, ◌≢◌, ◌⊎◌, ℕ, true, if◌then◌else◌, List, Some, None, Result, Ok, Err, IfErr, slice_get, refl, sym, ◌∙◌, ap, subst, inl, inr}
use Rattle.sd_image.specs.Shows.{Shows}
use Rattle.sd_journal.specs.Allowed.{IsLastPair, IsPendingPair, Shown}
use Rattle.sd_journal.specs.History.{last, pending}
use Rattle.sd_opener.specs.declared.opened.Opened.{Opened}
use Rattle.sd_opener.specs.Looking.{Looking}
use Rattle.sd_restore.specs.declared.fault.Fault.{Fault}
use Rattle.sd_restore.specs.declared.fault.Fault.TheVariants.{EmptyChain, Damaged, Device, OutOfMemory}
use Rattle.sd_restore.specs.Faulty.{FaultNames, IsDamage}
use Rattle.sd_crash_safety.specs.Laws.{OpenerFinds}
use Rattle.sd_crash_safety.specs.View.{CoreView, history_of}
use Rattle.sd_core.specs.declared.taken.Taken.{Taken}
use Rattle.sd_core.specs.Grown.{has_visited_all}
use Rattle.sd_core.specs.Opening.{IsDamaged, IsOwnStore, OpensBelieved, RefusesRightly, awaited_checkpoint}

is_own : (core : CoreView) (files : List (List ℕ)) (shown : Shown) → (core.committing ≡ true → has_visited_all core.items ≡ true) → Shows files shown
    → IsLastPair core.base (history_of core) shown ⊎ ((core.committing ≡ true) × IsPendingPair core.base (history_of core) shown)
    → IsOwnStore (last core.base (history_of core)) (awaited_checkpoint core) files
is_own core files None sure shows (inl is) = record { images = shows.images; store = shows.store; number = None; tip = shows.newest; expected = inl (sym is) }
is_own core files None sure shows (inr is) = absurd is.1
is_own core files (Some pair) sure shows (inl is) =
    record { images = shows.images; store = shows.store; number = Some pair.0; tip = (shows.newest.0, shows.newest.1, shows.newest.2); expected = inl (sym is.0) }
is_own core files (Some pair) sure shows (inr is) =
    let pends : awaited_checkpoint core ≡ Some pair.0 = ap (λ b. if b then pending (history_of core) else None) (sure is.0) ∙ is.1.0 in
    record {
      images = shows.images;
      store = shows.store;
      number = Some pair.0;
      tip = (shows.newest.0, shows.newest.1, shows.newest.2);
      expected = inr ((λ none. (let no : Some pair.0 ≡ None = sym pends ∙ none in cc)), sym pends);
    }

-- an opening that failed names a slot as a scan does
pub failed_damage : (files : List (List ℕ)) (read : Result Opened Fault) → ((opened : Opened) → read ≢ Ok opened) → IfErr read (FaultNames (IsDamage files))
    → read ≢ Err EmptyChain → read ≢ Err Device → read ≢ Err OutOfMemory → IsDamaged files
failed_damage files (Ok opened) failed named empty device memory = absurd (failed opened refl)
failed_damage files (Err EmptyChain) failed named empty device memory = absurd (empty refl)
failed_damage files (Err (Damaged slot reason)) failed named empty device memory = record { slot = slot; reason = reason; damage = named }
failed_damage files (Err Device) failed named empty device memory = absurd (device refl)
failed_damage files (Err OutOfMemory) failed named empty device memory = absurd (memory refl)

-- a store that is as it is believed to be isn't refused
pub believed_opens : OpenerFinds → (core : CoreView) (made : Taken) (opener : Looking) → (core.committing ≡ true → has_visited_all core.items ≡ true) → core.opener ≡ Some opener → slice_get core.outs 2 ≡ Some None → RefusesRightly core made
    → OpensBelieved core made
believed_opens finds core made opener sure is rests refuses asked bodies files b left same =
    let s = finds.shows core asked bodies files files b left in
    subst (RefusesRightly core) same refuses refl opener is files (finds.sees core opener asked bodies files is rests b) (is_own core files s.shown sure s.shows s.awaited)
