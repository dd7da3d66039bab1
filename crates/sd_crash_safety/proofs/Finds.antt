-- What an opener finds in a store that is as it is believed to be.
use Rattle.std.proofs.Common.{◌≡◌, ◌⊎◌, ℕ, true, false, List, Option, Some, None, IfSome, slice_get, subst, inl, inr, arith}
use Rattle.std.proofs.lemmas.Bool.{cases_Bool}
use Rattle.sd_gate.specs.Fits.{DiskLeaves}
use Rattle.sd_gate.specs.Requests.{Asked}
use Rattle.sd_image.specs.Image.{Image}
use Rattle.sd_opener.specs.Looking.{Looking}
use Rattle.sd_opener.specs.Sees.{Sees}
use Rattle.sd_store_laws.specs.Beliefs.{Belief, ContentsShow}
use Rattle.sd_store_laws.specs.Gates.{LeftAsBelieved}
use Rattle.sd_store_laws.specs.Store.{Store}
use Rattle.sd_crash_safety.specs.Believes.{Believes, HasStore}
use Rattle.sd_crash_safety.specs.Knows.{SeesStore}
use Rattle.sd_crash_safety.specs.Laws.{OpenerFinds, ShowsAwaited}
use Rattle.sd_crash_safety.specs.View.{CoreView, history_of}
use Rattle.sd_crash_safety.proofs.Places.{id_there}

sees_lem : (core : CoreView) (opener : Looking) (asked : List (Option Asked)) (bodies files : List (List ℕ))
    → core.opener ≡ Some opener → slice_get core.outs 2 ≡ Some None → Believes core asked bodies files → Sees files None opener
sees_lem core opener asked bodies files is rests b = subst (λ r. Sees files r opener) (nothing_out s.request s.own) s.sees
  where
    s : SeesStore files core.phases asked opener
    s = subst (λ o. IfSome o (SeesStore files core.phases asked)) is b.knows.sees

    nothing_out : (r : Option Asked) → slice_get asked 2 ≡ Some r → r ≡ None
    nothing_out r out = grind (arith, id_there)

shows_by : LeftAsBelieved → ContentsShow → (core : CoreView) (asked : List (Option Asked)) (bodies left : List (List ℕ)) (store : Store) (dump : Option Image) (beliefs : List Belief)
    → HasStore core.base (history_of core) core.phases asked bodies store dump beliefs → (core.committing ≡ false → dump ≡ None)
    → DiskLeaves core.phases bodies left → ShowsAwaited core left
shows_by leaves show core asked bodies left store None beliefs has sure is = record {
  shown = has.last.shown;
  shows = show.last store beliefs left has.last.shown has.sound has.slots (leaves core.phases bodies left beliefs has.believed is) has.last.shows;
  awaited = inl has.last.is;
}
shows_by leaves show core asked bodies left store (Some dump) beliefs has sure is =
    elim (show.pending store dump beliefs left has.last.shown has.next.shown has.sound has.slots (leaves core.phases bodies left beliefs has.believed is) has.last.shows has.next.shows) [
      | inl last ↦ record { shown = has.last.shown; shows = last; awaited = inl has.last.is }
      | inr next ↦ record { shown = has.next.shown; shows = next; awaited = inr (commits (cases_Bool core.committing), has.next.is) }
    ]
  where
    commits : (core.committing ≡ true) ⊎ (core.committing ≡ false) → core.committing ≡ true
    commits (inl is_so) = is_so
    commits (inr is_not) = absurd (let none : Some dump ≡ None = sure is_not in cc)

pub opener_finds_lem : LeftAsBelieved → ContentsShow → OpenerFinds
opener_finds_lem leaves show = record {
  sees = sees_lem;
  shows = λ core asked bodies files left b is. shows_by leaves show core asked bodies left b.store b.dump b.beliefs b.has b.knows.sure is;
}
