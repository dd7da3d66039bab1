-- From each point at which a world stands a step goes to one at which it stands then; by the base of its journal.
use Rattle.std.proofs.Common.{◌≡◌, ◌≢◌, ◌⊎◌, ◌==◌, ℕ, ◌≤◌, Bool, true, false, cond, [], ◌∷◌, ◌++◌, Option, Some, None, refl, sym, ◌∙◌, ap, subst, inl, inr, arith}
use Rattle.std.proofs.lemmas.Bool.{ne_eqb}
use Rattle.std.proofs.lemmas.List.{append_assoc}
use Rattle.sd_command.specs.declared.command.Command.{Command}
use Rattle.sd_command.specs.declared.refusal.Refusal.{Refusal}
use Rattle.sd_command.specs.declared.reply.Reply.{Reply}
use Rattle.sd_command.specs.declared.reply.Reply.TheVariants as reply
use Rattle.sd_disk.specs.Spans.{LeavesOnly, span_widened}
use Rattle.sd_disk.specs.declared.disk.Disk.{Ghosts}
use Rattle.sd_gate.specs.declared.worker.Worker.{Worker}
use Rattle.sd_journal.specs.declared.entry.Entry.TheVariants.{Applied, Freeze}
use Rattle.sd_journal.specs.History.{Base, History, at_freeze, memory_after}
use Rattle.sd_journal.specs.Legal.{IsAbove, IsLegal}
use Rattle.sd_journal.specs.Marked.{Marked, Noted, Told, entries_of}
use Rattle.sd_journal.specs.Trimming.{TrimLaws}
use Rattle.sd_crash_safety.specs.Calls.{AddsByCancel, AddsByOrder, IsJournaled, IsUnjournaled, running_number}
use Rattle.sd_crash_safety.specs.Shown.{ShowsAllowed}
use Rattle.sd_crash_safety.specs.View.{CoreView, history_of}
use Rattle.sd_core.specs.Called.{IsBegun}
use Rattle.sd_world.specs.declared.event.Event.{Event}
use Rattle.sd_world.specs.declared.event.Event.TheVariants.{Command as CommandEvent, Begin, Work, TakeUp, HandInAt, Cancel, Trim}
use Rattle.sd_world.specs.Adds.{AddsByCommand, AddsByPerform, AddsByWork, AddsToJournal}
use Rattle.sd_world.specs.Points.{Folds}
use Rattle.sd_world.specs.Promise.{begun_after}
use Rattle.sd_world.specs.Runs.{IsStep}
use Rattle.sd_world.specs.Steps.{Does}
use Rattle.sd_world.specs.Trims.{TrimsJournal}
use Rattle.sd_world.specs.View.{WorldView}
use Rattle.sd_world.proofs.BasePoints.{AddsByReply, AddsCancelled, AddsCommand, AddsEntry, BasePoint, EntersFollow, FreezesAtBase, StandsAtBase}
use Rattle.sd_world.proofs.FoldLemmas.{above_back, legal_behind, shows_back, told_back}
use Rattle.sd_world.proofs.NumberLemmas.{IsCounted, begun_is, begun_number, count_goes, number_goes}
use Rattle.sd_world.proofs.ReplyLemmas.{marked_legal}
use Rattle.sd_world.proofs.TrimLemmas.{trim_cases}

-- ---- what an event adds to the entries of a core, it adds to those of the whole run

module _ (old new gone : History) where
  adds_order : (answer : Reply) → AddsByOrder answer old new → new ++ gone ≡ old ++ gone
  adds_order answer adds = grind arith

  adds_perform : (answer : Reply) → AddsByPerform answer old new → new ++ gone ≡ old ++ gone
  adds_perform answer adds = grind arith

  adds_cancel : (answer : Reply) → AddsByCancel answer old new → AddsCancelled answer (old ++ gone) (new ++ gone)
  adds_cancel answer adds = grind arith

  adds_work : (worker : Worker) (core : CoreView) (base : Base) (begun : Option ℕ) (answer : Reply)
      → ((n : ℕ) → running_number core.dumper.running ≡ Some n → begun ≡ Some n)
      → ((n : ℕ) → new ≡ Freeze n ∷ old → IsAbove base (old ++ gone) n)
      → AddsByWork worker core answer old new → AddsByReply worker answer base begun (old ++ gone) (new ++ gone)
  adds_work worker core base begun answer last fresh adds = grind arith

  journaled : (seat : ℕ) (command : Command) (answer : Reply) → IsJournaled answer → new ≡ Applied seat command answer ∷ old
      → AddsCommand seat command answer (old ++ gone) (new ++ gone)
  journaled seat command answer is adds = grind arith

  unjournaled : (seat : ℕ) (command : Command) (why : Refusal) → IsUnjournaled why → new ≡ old
      → AddsCommand seat command (reply.Refused why) (old ++ gone) (new ++ gone)
  unjournaled seat command why either same = grind arith

  adds_command : (seat : ℕ) (command : Command) (answer : Reply) → AddsByCommand seat command answer old new
      → AddsCommand seat command answer (old ++ gone) (new ++ gone)
  adds_command seat command answer adds = grind arith

adds_entry : (event : Event) (answer : Reply) (old new : CoreView) (base : Base) (begun : Option ℕ) (gone : History) → event ≢ Trim
    → ((n : ℕ) → running_number old.dumper.running ≡ Some n → begun ≡ Some n)
    → ((n : ℕ) → history_of new ≡ Freeze n ∷ history_of old → IsAbove base (history_of old ++ gone) n)
    → AddsToJournal event answer old new → AddsEntry event answer base begun (history_of old ++ gone) (history_of new ++ gone)
adds_entry event answer old new base begun gone other last fresh adds = grind arith

-- ---- the number that was begun last

begins_so : (answer : Reply) (rounds : ℕ) (one other : Option ℕ) → ((n : ℕ) → one ≡ Some n → other ≡ Some n)
    → (n : ℕ) → begun_after (Begin rounds) answer one ≡ Some n → begun_after (Begin rounds) answer other ≡ Some n
begins_so answer rounds one other so n is = grind arith

cancels_so : (answer : Reply) (one other : Option ℕ) → ((n : ℕ) → one ≡ Some n → other ≡ Some n)
    → (n : ℕ) → begun_after Cancel answer one ≡ Some n → begun_after Cancel answer other ≡ Some n
cancels_so (reply.Cancelled m) one other so n is = is
cancels_so _ one other so n is = so n is

begun_so : (event : Event) (answer : Reply) (one other : Option ℕ) → ((n : ℕ) → one ≡ Some n → other ≡ Some n)
    → (n : ℕ) → begun_after event answer one ≡ Some n → begun_after event answer other ≡ Some n
begun_so (Begin rounds) answer one other so n is = begins_so answer rounds one other so n is
begun_so Cancel answer one other so n is = cancels_so answer one other so n is
begun_so _ answer one other so n is = so n is

-- ---- what a trim folds

-- what is gone after an event, with the entries that are left then
record Went (event : Event) (answer : Reply) (begun : Option ℕ) (base : Base) (before : History) (new : CoreView) : Type 0 where
  pub gone : History
  pub folds : Folds base gone new.base
  pub adds : AddsEntry event answer base begun before (history_of new ++ gone)

both : (kept front : Marked) → entries_of (kept ++ front) ≡ entries_of kept ++ entries_of front
both [] front = refl
both (Told entry ∷ kept) front = ap (λ h. entry ∷ h) (both kept front)
both (Noted mark ∷ kept) front = both kept front

went_by_trim : (answer : Reply) (begun : Option ℕ) (old new : CoreView) (base : Base) (gone : History) → Folds base gone old.base
    → IsLegal old.base (history_of old) → TrimsJournal old answer new → Went Trim answer begun base (history_of old ++ gone) new
went_by_trim answer begun old new base gone folds legal trims = elim (trim_cases old answer new trims) [
  | inl it ↦ let parts = ap entries_of it.parts ∙ both it.kept it.front in record {
    gone = entries_of it.front ++ gone;
    folds = Folds.more _ _ old.base gone (entries_of it.front) it.n folds
        (legal_behind old.base (entries_of it.kept) (entries_of it.front) (subst (IsLegal old.base) parts legal)) it.ended.ended refl
        (ap (λ (c : CoreView). c.base) it.is);
    adds = ap (λ (c : CoreView). history_of c ++ (entries_of it.front ++ gone)) it.is
        ∙ sym (append_assoc (entries_of it.kept) (entries_of it.front) gone) ∙ ap (λ h. h ++ gone) (sym parts);
  }
  | inr all ↦ record {
    gone = gone;
    folds = subst (Folds base gone) (sym (ap (λ (c : CoreView). c.base) all.is)) folds;
    adds = ap (λ (c : CoreView). history_of c ++ gone) all.is;
  }
]

went_by_other : (event : Event) (answer : Reply) (begun : Option ℕ) (old new : CoreView) (base : Base) (gone : History) → event ≢ Trim
    → Folds base gone old.base → new.base ≡ old.base → ((n : ℕ) → running_number old.dumper.running ≡ Some n → begun ≡ Some n)
    → ((n : ℕ) → history_of new ≡ Freeze n ∷ history_of old → IsAbove base (history_of old ++ gone) n)
    → AddsToJournal event answer old new → Went event answer begun base (history_of old ++ gone) new
went_by_other event answer begun old new base gone other folds same last fresh adds = record {
  gone = gone;
  folds = subst (Folds base gone) (sym same) folds;
  adds = adds_entry event answer old new base begun gone other last fresh adds;
}

-- ---- the numbers of freezes

-- a freeze of another number changes nothing for this one
other_freeze : (base : Base) (old new : History) (number n : ℕ) → new ≡ Freeze number ∷ old → number ≢ n → at_freeze base old n ≡ None
    → at_freeze base new n ≡ None
other_freeze base old new number n entry other none = ap (λ h. at_freeze base h n) entry ∙ by (number == n) (ne_eqb number n other)
  where
    by : (b : Bool) → b ≡ false → cond b (Some (memory_after base old)) (at_freeze base old n) ≡ None
    by true e = cc
    by false e = none

freeze_none : (base : Base) (begun : Option ℕ) (old new : History) (n : ℕ) → FreezesAtBase base begun old new → begun ≢ Some n
    → at_freeze base old n ≡ None → at_freeze base new n ≡ None
freeze_none base begun old new n freezes other none =
    other_freeze base old new freezes.number n freezes.entry (λ same. other (freezes.last ∙ ap Some same)) none

-- nor does any other entry
reply_none : (worker : Worker) (answer : Reply) (base : Base) (begun : Option ℕ) (old new : History) (n : ℕ) → AddsByReply worker answer base begun old new
    → begun ≢ Some n → at_freeze base old n ≡ None → at_freeze base new n ≡ None
reply_none worker answer base begun old new n adds other none = grind (arith, freeze_none)

command_none : (seat : ℕ) (command : Command) (answer : Reply) (base : Base) (old new : History) (n : ℕ) → AddsCommand seat command answer old new
    → at_freeze base old n ≡ None → at_freeze base new n ≡ None
command_none seat command answer base old new n adds none = grind arith

cancelled_none : (answer : Reply) (base : Base) (old new : History) (n : ℕ) → AddsCancelled answer old new → at_freeze base old n ≡ None
    → at_freeze base new n ≡ None
cancelled_none answer base old new n adds none = grind arith

same_none : (base : Base) (old new : History) (n : ℕ) → new ≡ old → at_freeze base old n ≡ None → at_freeze base new n ≡ None
same_none base old new n same none = ap (λ h. at_freeze base h n) same ∙ none

entry_none : (event : Event) (answer : Reply) (base : Base) (begun : Option ℕ) (old new : History) (n : ℕ) → AddsEntry event answer base begun old new
    → begun ≢ Some n → at_freeze base old n ≡ None → at_freeze base new n ≡ None
entry_none (CommandEvent seat command) answer base begun old new n adds other none = command_none seat command answer base old new n adds none
entry_none (Work worker) answer base begun old new n adds other none = reply_none worker answer base begun old new n adds other none
entry_none (TakeUp worker) answer base begun old new n adds other none = reply_none worker answer base begun old new n adds other none
entry_none (HandInAt worker place) answer base begun old new n adds other none = reply_none worker answer base begun old new n adds other none
entry_none Cancel answer base begun old new n adds other none = cancelled_none answer base old new n adds none
entry_none _ answer base begun old new n adds other none = same_none base old new n adds none

-- ---- all of it

trims_of : {D : Type 0} (g : Ghosts D) (event : Event) (answer : Reply) (old new : WorldView D) → Does g event old answer new → event ≡ Trim
    → TrimsJournal old.core answer new.core
trims_of g event answer old new does is = (subst (λ e. Does g e old answer new) is does).trims

no_trim : (event : Event) → (event ≡ Trim) ⊎ (event ≢ Trim)
no_trim event = grind arith

module _ (laws : TrimLaws) {D : Type 0} (g : Ghosts D) where
  went : (event : Event) (old : WorldView D) (answer : Reply) (new : WorldView D) → IsStep g event old answer new → (first : BasePoint D)
      → (stands : StandsAtBase old first) → Went event answer first.begun first.base (history_of old.core ++ stands.gone) new.core
  went event old answer new step first stands = elim (no_trim event) [
    | inl is ↦ subst (λ e. Went e answer first.begun first.base (history_of old.core ++ stands.gone) new.core) (sym is)
        (went_by_trim answer first.begun old.core new.core first.base stands.gone stands.folds stands.legal (trims_of g event answer old new step.does is))
    | inr other ↦ went_by_other event answer first.begun old.core new.core first.base stands.gone other stands.folds (step.base other) stands.begun
        (λ n is. let legal = subst (λ b. IsLegal b (Freeze n ∷ history_of old.core)) (step.base other)
        (subst (IsLegal new.core.base) is (marked_legal new.core.base new.core.items step.tracked.marked)) in
        above_back laws first.base stands.gone (history_of old.core) old.core.base n stands.folds legal.1 legal.0.1) step.adds
  ]

  -- the number that was begun last is within the numbers that were
  last_within : (event : Event) (old : WorldView D) (answer : Reply) (new : WorldView D) (begun : Option ℕ) → Does g event old answer new
      → IsCounted old.core → ((n : ℕ) → begun ≡ Some n → n ≤ old.core.numbers.begun)
      → (n : ℕ) → begun_after event answer begun ≡ Some n → n ≤ new.core.numbers.begun
  last_within event old answer new begun does counted last n is = elim (begun_is event answer begun n is) [
    | inl same ↦ let before = last n same in
        let up = (count_goes g event old answer new does counted).0 in omega (arith, before, up)
    | inr now ↦ let next = begun_number old.core now.0 n new.core
        (subst (λ a. IsBegun now.0 a old.core new.core) now.2 (subst (λ e. Does g e old answer new) now.1 does).1) in
        let begun_is = next.begun in omega (arith, begun_is)
  ]

  pub enters_follow : EntersFollow g
  enters_follow event old answer new step honest first stands =
      let w = went event old answer new step first stands in
      let legal = marked_legal new.core.base new.core.items step.tracked.marked in
      let counts = count_goes g event old answer new step.does stands.counted in
      let last : BasePoint D = record {
        disk = new.disk;
        base = first.base;
        entries = history_of new.core ++ w.gone;
        begun = begun_after event answer first.begun;
      } in (
        last,
        record {
          disk = refl;
          gone = w.gone;
          folds = w.folds;
          entries = refl;
          legal = legal;
          begun = λ n is. begun_so event answer (running_number old.core.dumper.running) first.begun stands.begun n
              (number_goes g event old answer new step.does n is);
          used = λ n above. let up = counts.0 in
              entry_none event answer first.base first.begun (history_of old.core ++ stands.gone) (history_of new.core ++ w.gone) n w.adds
              (λ same. let within = stands.last n same in absurd (omega (arith, within, up, above)))
              (subst (λ h. at_freeze first.base h n ≡ None) stands.entries (stands.used n (omega (arith, up, above))));
          last = λ n is. last_within event old answer new first.begun step.does stands.counted stands.last n is;
          counted = counts.1;
        },
        record {
          base = refl;
          entries = subst (λ h. AddsEntry event answer first.base first.begun h (history_of new.core ++ w.gone)) (sym stands.entries) w.adds;
          begun = refl;
          any_moment = subst (λ d. LeavesOnly g d new.disk (ShowsAllowed first.base first.entries)) (sym stands.disk)
              (subst (λ h. LeavesOnly g old.disk new.disk (ShowsAllowed first.base h)) (sym stands.entries)
              (span_widened g old.disk new.disk (ShowsAllowed old.core.base (history_of old.core)) (ShowsAllowed first.base (history_of old.core ++ stands.gone))
              (shows_back laws first.base stands.gone (history_of old.core) old.core.base stands.folds stands.legal) (step.any_moment honest)));
          at_end = λ c may. shows_back laws first.base w.gone (history_of new.core) new.core.base w.folds legal c (step.at_end honest c may);
          told = λ c may. told_back laws answer first.base w.gone (history_of new.core) new.core.base w.folds c (step.shows honest c may);
        },
      )
