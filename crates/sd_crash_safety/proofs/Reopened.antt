-- What a crash leaves of a store, and a store that is opened again.
use Rattle.std.proofs.Common.{◌≡◌, ℕ, List, ◌∷◌, Option, Some, None, sym, ◌∙◌, subst, inl, inr, arith}
use Rattle.sd_gate.specs.Fits.{DiskLeaves}
use Rattle.sd_gate.specs.Requests.{Asked}
use Rattle.sd_image.specs.Image.{Image}
use Rattle.sd_journal.specs.declared.entry.Entry.TheVariants.{Reopened}
use Rattle.sd_journal.specs.Allowed.{Shown, IsAllowed, IsLastPair, IsPendingPair, shown_number}
use Rattle.sd_journal.specs.History.{Base, History}
use Rattle.sd_journal.specs.Laws.{JournalLaws}
use Rattle.sd_journal.specs.Legal.{IsLegal}
use Rattle.sd_journal.specs.Marked.{entries_of}
use Rattle.sd_store_laws.specs.Beliefs.{ContentsShow, Belief}
use Rattle.sd_store_laws.specs.Gates.{LeftAsBelieved}
use Rattle.sd_crash_safety.specs.Believes.{HasStore}
use Rattle.sd_crash_safety.specs.Laws.{FoundIsBelieved, LeftShowsAllowed, ReopenedIsBelieved}
use Rattle.sd_crash_safety.specs.Shown.{ShowsAllowed}
use Rattle.sd_crash_safety.specs.View.{history_of}
use Rattle.sd_gate.specs.declared.phase.Phase.{Phase}
use Rattle.sd_store_laws.specs.Store.{Store}

left_by : LeftAsBelieved → ContentsShow → (base : Base) (history : History) (phases : List Phase) (asked : List (Option Asked)) (bodies left : List (List ℕ))
    (store : Store) (dump : Option Image) (beliefs : List Belief) → HasStore base history phases asked bodies store dump beliefs
    → DiskLeaves phases bodies left → ShowsAllowed base history left
left_by leaves show base history phases asked bodies left store None beliefs has is = record {
  shown = has.last.shown;
  allowed = inl has.last.is;
  shows = show.last store beliefs left has.last.shown has.sound has.slots (leaves phases bodies left beliefs has.believed is) has.last.shows;
}
left_by leaves show base history phases asked bodies left store (Some dump) beliefs has is =
    elim (show.pending store dump beliefs left has.last.shown has.next.shown has.sound has.slots (leaves phases bodies left beliefs has.believed is) has.last.shows has.next.shows) [
      | inl last ↦ record { shown = has.last.shown; allowed = inl has.last.is; shows = last }
      | inr next ↦ record { shown = has.next.shown; allowed = inr has.next.is; shows = next }
    ]

pub left_shows_lem : LeftAsBelieved → ContentsShow → LeftShowsAllowed
left_shows_lem leaves show core asked bodies files left b is =
    left_by leaves show core.base (history_of core) core.phases asked bodies left b.store b.dump b.beliefs b.has is

-- a reopening leaves nothing pending
none_pends : (base : Base) (history : History) (found : Option ℕ) (shown : Shown) → IsPendingPair base (Reopened found ∷ history) shown → ⊥
none_pends base history found shown is = grind arith

last_then : JournalLaws → (base : Base) (history : History) (found : Option ℕ) (shown : Shown) → IsLegal base (Reopened found ∷ history)
    → IsAllowed base history shown → shown_number shown ≡ found → IsLastPair base (Reopened found ∷ history) shown
last_then laws base history found shown legal allowed number = grind arith

pub reopened_lem : LeftShowsAllowed → FoundIsBelieved → JournalLaws → ReopenedIsBelieved
reopened_lem shows found_is laws old new asked bodies files found none b left is =
    let now = shows old asked bodies files files b left in
    let last : IsLastPair old.base (Reopened found ∷ history_of old) now.shown =
    last_then laws old.base (history_of old) found now.shown is.legal now.allowed (is.number now.shown now.shows) in
    found_is new asked files now.shown is.phases is.opener none (b.knows.out ∙ sym is.outs) (λ stands. is.open_as now.shown now.shows) now.shows
    (subst (λ base. IsLastPair base (history_of new) now.shown) (sym is.base)
    (subst (λ items. IsLastPair old.base (entries_of items) now.shown) (sym is.items) last))
