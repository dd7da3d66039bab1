-- What contents show after an acknowledgement or a reopening.
use Rattle.std.proofs.Common.{◌≡◌, ℕ, ◌==◌, Bool, true, List, [], ◌∷◌, Option, Some, None, MatchOption, refl, sym, ◌∙◌, ap, subst, inl, inr, arith}
use Rattle.std.proofs.lemmas.Option.{same_Some}
use Rattle.std.proofs.lemmas.Bool.Decides.{nat_tests}
use Rattle.sd_areas.specs.PlainMemory.{PlainMemory}
use Rattle.sd_pagetable.specs.declared.access_error.AccessError.{AccessError}
use Rattle.sd_command.specs.declared.command.Command.{Command}
use Rattle.sd_command.specs.declared.reply.Reply.{Reply}
use Rattle.sd_command.specs.declared.reply.Reply.TheVariants as reply
use Rattle.sd_command.specs.Replies.{Accepts, IsLegalReply, reply_of as access_reply}
use Rattle.sd_image.specs.Shows.{Shows}
use Rattle.sd_journal.specs.declared.entry.Entry.TheVariants.{Acked, Reopened}
use Rattle.sd_journal.specs.Allowed.{IsLastPair, IsPendingPair, Shown}
use Rattle.sd_journal.specs.History.{Base, History, at_freeze, last, pending, unless_it_is}
use Rattle.sd_journal.specs.Legal.{IsLegal}
use Rattle.sd_journal.specs.Marked.{IsMarked, Marked, Noted, Told, entries_of}
use Rattle.sd_crash_safety.specs.Calls.{AddsByCancel, AddsByOrder}
use Rattle.sd_crash_safety.specs.Shown.{ShowsAllowed}
use Rattle.sd_crash_safety.specs.View.{CoreView, history_of}
use Rattle.sd_gate.specs.declared.worker.Worker.{Worker}
use Rattle.sd_world.specs.declared.event.Event.{Event}
use Rattle.sd_world.specs.Adds.{AddsByCommand, AddsByPerform, AddsByTrim, AddsByWork, AddsToJournal}
use Rattle.sd_world.specs.Runs.{ShowsFreeze, ShowsReply}

pub marked_legal : (base : Base) (items : Marked) → IsMarked base items → IsLegal base (entries_of items)
marked_legal base [] marked = tt
marked_legal base (Told entry ∷ earlier) marked = (marked.0, marked_legal base earlier marked.1)
marked_legal base (Noted mark ∷ earlier) marked = marked_legal base earlier marked.1

-- ---- replies of which nothing is said

module _ (base : Base) (history : History) (contents : List (List ℕ)) where
  abbrev pub Says : Reply → Type 0
  Says answer = ShowsReply answer base history contents

  says_done : (answer : Reply) → answer ≡ reply.Done → Says answer
  says_done answer is = subst (λ a. ShowsReply a base history contents) (sym is) tt

  says_access : (why : AccessError) → ShowsReply (access_reply why) base history contents
  says_access why = grind arith

  says_accepted : (asked : Command) (memory : PlainMemory) (answer : Reply) → Accepts asked memory answer → Says answer
  says_accepted asked memory answer is = grind arith

  says_judged : (due : Option AccessError) (asked : Command) (memory : PlainMemory) (answer : Reply)
      → MatchOption due (Accepts asked memory answer) (λ why. answer ≡ access_reply why) → Says answer
  says_judged due asked memory answer is = grind arith

  says_legal : (memory : PlainMemory) (frozen : Bool) (asked : Command) (answer : Reply) → IsLegalReply memory frozen asked answer → Says answer
  says_legal memory frozen asked answer is = grind arith

  says_order : (answer : Reply) (old new : History) → AddsByOrder answer old new → Says answer
  says_order answer old new adds = grind arith

  says_cancel : (answer : Reply) (old new : History) → AddsByCancel answer old new → Says answer
  says_cancel answer old new adds = grind arith

  says_perform : (answer : Reply) (old new : History) → AddsByPerform answer old new → Says answer
  says_perform answer old new adds = grind arith

-- ---- an acknowledgement, and a reopening

same_test : (n : ℕ) → (n == n) ≡ true
same_test n = grind (arith, nat_tests)

ended : (n : ℕ) (was : Option ℕ) → was ≡ Some n → unless_it_is n was ≡ None
ended n was is = grind arith

module _ (base : Base) (earlier : History) (contents : List (List ℕ)) where
  last_shown : (history : History) (n : ℕ) (shown : Shown) → last base history ≡ Some n → IsLastPair base history shown → Shows contents shown
      → ShowsFreeze base history n contents
  last_shown history n None is pair shows = absurd (none_some (sym pair ∙ is))
    where
      none_some : (let none : Option ℕ = None in none ≡ Some n) → ⊥
      none_some e = cc
  last_shown history n (Some pair) is it shows =
      let same : pair.0 ≡ n = same_Some pair.0 n (sym it.0 ∙ is) in
      record {
        memory = pair.1;
        freeze = ap (at_freeze base history) (sym same) ∙ it.1;
        shows = subst (λ k. Shows contents (Some (k, pair.1))) same shows;
      }

  none_shown : (history : History) (shown : Shown) → last base history ≡ None → IsLastPair base history shown → Shows contents shown → Shows contents None
  none_shown history None is pair shows = shows
  none_shown history (Some pair) is it shows = absurd (none_some (sym is ∙ it.0))
    where
      none_some : (let none : Option ℕ = None in none ≡ Some pair.0) → ⊥
      none_some e = cc

  not_pending : (history : History) (shown : Shown) → pending history ≡ None → IsPendingPair base history shown → ⊥
  not_pending history None is pair = pair
  not_pending history (Some pair) is it = none_some (sym is ∙ it.0)
    where
      none_some : (let none : Option ℕ = None in none ≡ Some pair.0) → ⊥
      none_some e = cc

  acked_shows : (n : ℕ) → IsLegal base (Acked n ∷ earlier) → ShowsAllowed base (Acked n ∷ earlier) contents → ShowsFreeze base (Acked n ∷ earlier) n contents
  acked_shows n legal allowed = elim allowed.allowed [
    | inl it ↦ last_shown (Acked n ∷ earlier) n allowed.shown refl it allowed.shows
    | inr it ↦ absurd (not_pending (Acked n ∷ earlier) allowed.shown (ended n (pending earlier) legal.0) it)
  ]

  reopened_shows : (m : Option ℕ) → ShowsAllowed base (Reopened m ∷ earlier) contents → ShowsReply (reply.Reopened m) base (Reopened m ∷ earlier) contents
  reopened_shows None allowed = elim allowed.allowed [
    | inl it ↦ none_shown (Reopened None ∷ earlier) allowed.shown refl it allowed.shows
    | inr it ↦ absurd (not_pending (Reopened None ∷ earlier) allowed.shown refl it)
  ]
  reopened_shows (Some n) allowed = elim allowed.allowed [
    | inl it ↦ last_shown (Reopened (Some n) ∷ earlier) n allowed.shown refl it allowed.shows
    | inr it ↦ absurd (not_pending (Reopened (Some n) ∷ earlier) allowed.shown refl it)
  ]

says_work : (base : Base) (contents : List (List ℕ)) (worker : Worker) (core : CoreView) (answer : Reply) (old new : History)
    → AddsByWork worker core answer old new → IsLegal base new → ShowsAllowed base new contents → ShowsReply answer base new contents
says_work base contents worker core (reply.Acked n) old new adds legal allowed =
    subst (λ h. ShowsFreeze base h n contents) (sym adds.1)
    (acked_shows base old contents n (subst (IsLegal base) adds.1 legal) (subst (λ h. ShowsAllowed base h contents) adds.1 allowed))
says_work base contents worker core (reply.Reopened m) old new adds legal allowed =
    subst (λ h. ShowsReply (reply.Reopened m) base h contents) (sym adds.1)
    (reopened_shows base old contents m (subst (λ h. ShowsAllowed base h contents) adds.1 allowed))
says_work base contents worker core _ old new adds legal allowed = tt

says_command : (base : Base) (contents : List (List ℕ)) (seat : ℕ) (asked : Command) (answer : Reply) (old new : History)
    → AddsByCommand seat asked answer old new → IsLegal base new → ShowsReply answer base new contents
says_command base contents seat asked answer old new adds legal = grind arith

says_trim : (base : Base) (history : History) (contents : List (List ℕ)) (answer : Reply) (old new : History) → AddsByTrim answer old new → ShowsReply answer base history contents
says_trim base history contents answer old new adds = grind arith

pub says : (event : Event) (answer : Reply) (old new : CoreView) (contents : List (List ℕ)) → AddsToJournal event answer old new → IsLegal new.base (history_of new)
    → ShowsAllowed new.base (history_of new) contents → ShowsReply answer new.base (history_of new) contents
says event answer old new contents adds legal allowed = grind (arith, says_command, says_work, says_trim)
