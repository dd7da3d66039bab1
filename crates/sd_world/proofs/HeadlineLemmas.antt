-- A step, as the fold over the journal has it.
use Rattle.std.proofs.Common.{◌≡◌, ◌⊎◌, ◌==◌, ℕ, ◌<◌, ◌≤◌, Bool, true, false, cond, List, [], ◌∷◌, ◌++◌, Option, MatchOption, Some, None, IfSome, refl, sym, ◌∙◌, ap, subst, inl, inr, append-nil, append_assoc, arith}
use Rattle.std.proofs.Math.Nat.{lt_of_not-le}
use Rattle.std.proofs.lemmas.Bool.{ne_eqb}
use Rattle.std.proofs.lemmas.Option.{same_Some}
use Rattle.std.specs.List.{AllByRecursion}
use Rattle.std.specs.Option.{option_map}
use Rattle.sd_areas.specs.PlainMemory.{PlainMemory}
use Rattle.sd_command.specs.declared.command.Command.{Command}
use Rattle.sd_command.specs.declared.refusal.Refusal.{Refusal}
use Rattle.sd_command.specs.declared.refusal.Refusal.TheVariants as refusal
use Rattle.sd_command.specs.declared.reply.Reply.{Reply}
use Rattle.sd_command.specs.declared.reply.Reply.TheVariants as reply
use Rattle.sd_command.specs.Replies.{Accepts, IsLegalReply, denial_in, reply_of}
use Rattle.sd_core.specs.Called.{IsBegun}
use Rattle.sd_core.specs.Flags.{number_or_zero}
use Rattle.sd_core.specs.Starts.{shown_base}
use Rattle.sd_disk.specs.Spans.{span_widened}
use Rattle.sd_disk.specs.declared.disk.Disk.{Ghosts}
use Rattle.sd_gate.specs.declared.worker.Worker.{Worker}
use Rattle.sd_gate.specs.declared.worker.Worker.TheVariants.{Dumper, Opener}
use Rattle.sd_image.specs.Shows.{Shows}
use Rattle.sd_journal.specs.declared.entry.Entry.{Entry}
use Rattle.sd_pagetable.specs.declared.access_error.AccessError.{AccessError}
use Rattle.sd_journal.specs.declared.entry.Entry.TheVariants.{Applied, Freeze, Acked, Cancelled, Reopened}
use Rattle.sd_journal.specs.Allowed.{IsLastPair, Shown, shown_number}
use Rattle.sd_journal.specs.History.{Base, History, at_base, at_freeze, last, memory_after}
use Rattle.sd_journal.specs.Legal.{IsAbove, IsLegal}
use Rattle.sd_journal.specs.Marked.{Marked, entries_of}
use Rattle.sd_journal.specs.Trimming.{TrimLaws}
use Rattle.sd_crash_safety.specs.Calls.{AddsByCancel, AddsByOrder, running_number}
use Rattle.sd_crash_safety.specs.Shown.{ShowsAllowed}
use Rattle.sd_crash_safety.specs.View.{CoreView, Numbers, history_of}
use Rattle.sd_world.specs.declared.event.Event.{Event}
use Rattle.sd_world.specs.declared.event.Event.TheVariants.{Command as CommandEvent, Begin, Work, TakeUp, HandInAt, Perform, PerformAt, Merge, Cancel, Reopen, Trim}
use Rattle.sd_world.specs.Acked.{DoesAck, IsAckedThere}
use Rattle.sd_world.specs.Adds.{AddsByPerform, AddsByTrim, AddsByWork, AddsToJournal}
use Rattle.sd_world.specs.Opens.{bare_memory}
use Rattle.sd_world.specs.Points.{FirstStands, Folds, PointsFollow, StandsAt}
use Rattle.sd_world.specs.Promise.{Freezes, IsNextNumber, IsOf, Moves, Point, ShowsAnswer, ShowsWhatRunAllows, entry_made_by}
use Rattle.sd_world.specs.Runs.{IsStep, ShowsFreeze, ShowsReply}
use Rattle.sd_world.specs.Steps.{Does}
use Rattle.sd_world.proofs.BasePoints.{AddsByReply, AddsCancelled, AddsCommand, AddsEntry, BasePoint, Enters, FreezesAtBase, StandsAtBase}
use Rattle.sd_journal.specs.Tell.{tell}
use Rattle.sd_journal.specs.RunLaws.{IsPendingAs, StartsAs}
use Rattle.sd_world.specs.View.{WorldView}
use Rattle.sd_journal.proofs.HistoryLemmas.{same}
use Rattle.sd_world.proofs.FoldLemmas.{legal_back}
use Rattle.sd_world.proofs.NumberLemmas.{begun_or, merge_begins_none, reopen_begins_none}
use Rattle.sd_world.proofs.PromiseLemmas.{enters_follow}
use Rattle.sd_journal.proofs.TellLemmas.{last_is, run_laws}

-- ---- what a run starts from

module _ (base : Base) (bare : base.number ≡ None → base.memory ≡ bare_memory) where
  pub starts_as : StartsAs base (shown_base base.number base.memory)
  starts_as = by base.number refl
    where
      by : (number : Option ℕ) → base.number ≡ number → StartsAs base (shown_base base.number base.memory)
      by None is = subst (λ number. StartsAs base (shown_base number base.memory)) (sym is) (record { number = is; memory = bare is })
      by (Some n) is = subst (λ number. StartsAs base (shown_base number base.memory)) (sym is) (record { number = is; memory = refl })

-- no number above the base's is its own
above_base : (memory : PlainMemory) (number : Option ℕ) (n : ℕ) → number_or_zero number < n → at_base number memory n ≡ None
above_base memory None n above = refl
above_base memory (Some own) n above = by (own == n) (ne_eqb own n (λ same. omega (arith, same, above)))
  where
    by : (b : Bool) → b ≡ false → cond b (Some memory) None ≡ None
    by true e = cc
    by false e = refl

pub first_stands : {D : Type 0} → FirstStands D
first_stands opened empty idle numbers bare = record {
  disk = refl;
  base = opened.core.base;
  starts = starts_as opened.core.base bare;
  gone = [];
  folds = Folds.none _ _ refl refl;
  entries = ap (λ (items : Marked). entries_of items ++ []) (sym empty);
  legal = subst (λ (items : Marked). IsLegal opened.core.base (entries_of items)) (sym empty) tt;
  begun = λ n is. sym (ap running_number idle) ∙ is;
  used = λ n above. above_base opened.core.base.memory opened.core.base.number n (subst (λ k. k < n) (ap (λ (k : Numbers). k.begun) numbers) above);
  last = λ n is. absurd (none_some n is);
  counted = let begun = ap (λ (k : Numbers). k.begun) numbers in
      let checkpoint = ap (λ (k : Numbers). k.checkpoint) numbers in omega (arith, begun, checkpoint);
}
  where
    none_some : (n : ℕ) → (let none : Option ℕ = None in none ≡ Some n) → ⊥
    none_some n e = cc

-- ---- what an event adds

-- where no freeze has this number or a greater one, each has a lesser one
some_is_none : {A : Type 0} {fact : Type 0} (a : A) → (let s : Option A = Some a in s ≡ None) → fact
some_is_none a e = cc

lesser : (base : Base) (history : History) (n : ℕ) → ((k : ℕ) → n ≤ k → at_freeze base history k ≡ None)
    → AllByRecursion (λ (entry : Entry). (m : ℕ) → entry ≡ Freeze m → m < n) history
lesser base [] n none = tt
lesser base (Applied seat command reply ∷ earlier) n none = (λ m e. absurd (let f : Applied seat command reply ≡ Freeze m = e in cc), lesser base earlier n none)
lesser base (Acked a ∷ earlier) n none = (λ m e. absurd (let f : Acked a ≡ Freeze m = e in cc), lesser base earlier n none)
lesser base (Cancelled a ∷ earlier) n none = (λ m e. absurd (let f : Cancelled a ≡ Freeze m = e in cc), lesser base earlier n none)
lesser base (Reopened a ∷ earlier) n none = (λ m e. absurd (let f : Reopened a ≡ Freeze m = e in cc), lesser base earlier n none)
lesser base (Freeze a ∷ earlier) n none = (λ m e. subst (λ k. k < n) (same_number m e) below, lesser base earlier n (λ k least. rest k (none k least)))
  where
    same_number : (m : ℕ) → Freeze a ≡ Freeze m → a ≡ m
    same_number m e = cc

    own : at_freeze base (Freeze a ∷ earlier) a ≡ Some (memory_after base earlier)
    own = rw (same a) refl

    below : a < n
    below = lt_of_not-le (λ least. some_is_none (memory_after base earlier) (sym own ∙ none a least))

    rest : (k : ℕ) → at_freeze base (Freeze a ∷ earlier) k ≡ None → at_freeze base earlier k ≡ None
    rest k = by (a == k)
      where
        by : (b : Bool) → cond b (Some (memory_after base earlier)) (at_freeze base earlier k) ≡ None → at_freeze base earlier k ≡ None
        by true e = some_is_none (memory_after base earlier) e
        by false e = e

-- nor is it the base's
not_first : (base : Base) (history : History) (n : ℕ) → at_freeze base history n ≡ None → base.number ≡ Some n → ⊥
not_first base [] n none is = some_is_none base.memory (sym (own base.number is) ∙ none)
  where
    some_is_none : {A : Type 0} (a : A) → (let s : Option A = Some a in s ≡ None) → ⊥
    some_is_none a e = cc

    own : (number : Option ℕ) → number ≡ Some n → at_base number base.memory n ≡ Some base.memory
    own number e = ap (λ k. at_base k base.memory n) e ∙ (let f : at_base (Some n) base.memory n ≡ Some base.memory = rw (same n) refl in f)
not_first base (Applied seat command reply ∷ earlier) n none is = not_first base earlier n none is
not_first base (Acked m ∷ earlier) n none is = not_first base earlier n none is
not_first base (Cancelled m ∷ earlier) n none is = not_first base earlier n none is
not_first base (Reopened m ∷ earlier) n none is = not_first base earlier n none is
not_first base (Freeze m ∷ earlier) n none is = by (m == n) none (λ h. not_first base earlier n h is)
  where
    some_is_none : {A : Type 0} (a : A) → (let s : Option A = Some a in s ≡ None) → ⊥
    some_is_none a e = cc

    by : (b : Bool) → cond b (Some (memory_after base earlier)) (at_freeze base earlier n) ≡ None → (at_freeze base earlier n ≡ None → ⊥) → ⊥
    by true h rest = some_is_none (memory_after base earlier) h
    by false h rest = rest h

-- nor is the base's so great
start_lesser : (base : Base) (start : Shown) → base.number ≡ shown_number start → (n : ℕ) → ((m : ℕ) → base.number ≡ Some m → m < n)
    → (m : ℕ) (memory : PlainMemory) → start ≡ Some (m, memory) → m < n
start_lesser base start number n below m memory is = below m (number ∙ ap shown_number is)

next_number : (base : Base) (start : Shown) → base.number ≡ shown_number start → (history : History) (n : ℕ)
    → ((k : ℕ) → n ≤ k → at_freeze base history k ≡ None) → IsNextNumber n start history
next_number base start number history n none = (
  lesser base history n none,
  start_lesser base start number n (λ m is. lt_of_not-le (λ least. not_first base history m (none m least) is)),
)

-- so it is of a number above all
freezes_below : (base : Base) (history : History) (n : ℕ) → IsAbove base history n → AllByRecursion (λ (entry : Entry). (m : ℕ) → entry ≡ Freeze m → m < n) history
freezes_below base [] n above = tt
freezes_below base (Applied seat command reply ∷ earlier) n above = (λ m e. absurd (let f : Applied seat command reply ≡ Freeze m = e in cc), freezes_below base earlier n above)
freezes_below base (Acked a ∷ earlier) n above = (λ m e. absurd (let f : Acked a ≡ Freeze m = e in cc), freezes_below base earlier n above.1)
freezes_below base (Cancelled a ∷ earlier) n above = (λ m e. absurd (let f : Cancelled a ≡ Freeze m = e in cc), freezes_below base earlier n above.1)
freezes_below base (Reopened a ∷ earlier) n above = (λ m e. absurd (let f : Reopened a ≡ Freeze m = e in cc), freezes_below base earlier n above.1)
freezes_below base (Freeze a ∷ earlier) n above = (λ m e. subst (λ k. k < n) (same_number m e) above.0, freezes_below base earlier n above.1)
  where
    same_number : (m : ℕ) → Freeze a ≡ Freeze m → a ≡ m
    same_number m e = cc

base_below : (base : Base) (history : History) (n : ℕ) → IsAbove base history n → IfSome base.number (λ own. own < n)
base_below base [] n above = above
base_below base (Applied seat command reply ∷ earlier) n above = base_below base earlier n above
base_below base (Freeze m ∷ earlier) n above = base_below base earlier n above.1
base_below base (Acked m ∷ earlier) n above = base_below base earlier n above.1
base_below base (Cancelled m ∷ earlier) n above = base_below base earlier n above.1
base_below base (Reopened m ∷ earlier) n above = base_below base earlier n above.1

next_above : (base : Base) (start : Shown) → base.number ≡ shown_number start → (history : History) (n : ℕ) → IsAbove base history n
    → IsNextNumber n start history
next_above base start number history n above = (
  freezes_below base history n above,
  start_lesser base start number n (λ m is. subst (λ o. IfSome o (λ own. own < n)) is (base_below base history n above)),
)

told_command : (seat : ℕ) (command : Command) (answer : Reply) (old new : History) → AddsCommand seat command answer old new
    → new ≡ entry_made_by (CommandEvent seat command) answer ++ old
told_command seat command answer old new adds = grind arith

quiet_begin : (rounds : ℕ) (answer : Reply) (one other : History) → AddsByOrder answer one other → entry_made_by (Begin rounds) answer ≡ []
quiet_begin rounds answer one other adds = grind arith

quiet_merge : (answer : Reply) (one other : History) → AddsByOrder answer one other → entry_made_by Merge answer ≡ []
quiet_merge answer one other adds = grind arith

quiet_reopen : (answer : Reply) (one other : History) → AddsByOrder answer one other → entry_made_by Reopen answer ≡ []
quiet_reopen answer one other adds = grind arith

quiet_perform : (worker : Worker) (answer : Reply) (one other : History) → AddsByPerform answer one other → entry_made_by (Perform worker) answer ≡ []
quiet_perform worker answer one other adds = grind arith

quiet_perform_at : (worker : Worker) (place : ℕ) (answer : Reply) (one other : History) → AddsByPerform answer one other → entry_made_by (PerformAt worker place) answer ≡ []
quiet_perform_at worker place answer one other adds = grind arith

quiet_trim : (answer : Reply) (one other : History) → AddsByTrim answer one other → entry_made_by Trim answer ≡ []
quiet_trim answer one other adds = grind arith

told_cancel : (answer : Reply) (one other old new : History) → AddsByCancel answer one other → AddsCancelled answer old new → new ≡ entry_made_by Cancel answer ++ old
told_cancel answer one other old new adds entry = grind arith

-- what is said, or the freeze
abbrev Tells : Event → Reply → Option ℕ → Shown → History → History → Type 0
Tells event answer begun first old new = (new ≡ entry_made_by event answer ++ old) ⊎ Freezes event answer begun first old new

module _ (base : Base) (begun : Option ℕ) (first : Shown) (number : base.number ≡ shown_number first) (old new one other : History) where
  frozen : (event : Event) (worker : Worker) → (worker ≡ Dumper → IsOf Dumper event)
      → (worker ≡ Dumper) × FreezesAtBase base begun old new → Tells event reply.Worked begun first old new
  frozen event worker dumper is = inr (record {
    dumper = dumper is.0;
    worked = refl;
    number = is.1.number;
    last = is.1.last;
    next = next_above base first number old is.1.number is.1.above;
    entry = is.1.entry;
  })

  by_work : (worker : Worker) (core : CoreView) (answer : Reply) → AddsByWork worker core answer one other → AddsByReply worker answer base begun old new
      → Tells (Work worker) answer begun first old new
  by_work worker core reply.Worked adds (inl e) = inl e
  by_work worker core reply.Worked adds (inr f) = frozen (Work worker) worker (λ d. inl (ap Work d)) f
  by_work worker core (reply.Acked n) adds e = inl e.1
  by_work worker core (reply.Reopened m) adds e = inl e.1
  by_work worker core (reply.Merged serial) adds e = inl e
  by_work worker core (reply.Refused why) adds e = inl e
  by_work worker core _ adds e = absurd adds

  by_take_up : (worker : Worker) (core : CoreView) (answer : Reply) → AddsByWork worker core answer one other → AddsByReply worker answer base begun old new
      → Tells (TakeUp worker) answer begun first old new
  by_take_up worker core reply.Worked adds (inl e) = inl e
  by_take_up worker core reply.Worked adds (inr f) = frozen (TakeUp worker) worker (λ d. inr (inl (ap TakeUp d))) f
  by_take_up worker core (reply.Acked n) adds e = inl e.1
  by_take_up worker core (reply.Reopened m) adds e = inl e.1
  by_take_up worker core (reply.Merged serial) adds e = inl e
  by_take_up worker core (reply.Refused why) adds e = inl e
  by_take_up worker core _ adds e = absurd adds

  by_hand_in : (worker : Worker) (place : ℕ) (core : CoreView) (answer : Reply) → AddsByWork worker core answer one other → AddsByReply worker answer base begun old new
      → Tells (HandInAt worker place) answer begun first old new
  by_hand_in worker place core reply.Worked adds (inl e) = inl e
  by_hand_in worker place core reply.Worked adds (inr f) = frozen (HandInAt worker place) worker (λ d. inr (inr (place, ap (λ w. HandInAt w place) d))) f
  by_hand_in worker place core (reply.Acked n) adds e = inl e.1
  by_hand_in worker place core (reply.Reopened m) adds e = inl e.1
  by_hand_in worker place core (reply.Merged serial) adds e = inl e
  by_hand_in worker place core (reply.Refused why) adds e = inl e
  by_hand_in worker place core _ adds e = absurd adds

quiet : (event : Event) (answer : Reply) (begun : Option ℕ) (first : Shown) (old new : History) → entry_made_by event answer ≡ [] → new ≡ old → Tells event answer begun first old new
quiet event answer begun first old new none same = inl (same ∙ sym (ap (λ (l : History). l ++ old) none))

pub entries_told : (event : Event) (answer : Reply) (before after : CoreView) (base : Base) (begun : Option ℕ) (first : Shown) (number : base.number ≡ shown_number first) (old new : History)
    → AddsToJournal event answer before after → AddsEntry event answer base begun old new → Tells event answer begun first old new
entries_told (CommandEvent seat command) answer before after base begun first number old new adds entry = inl (told_command seat command answer old new entry)
entries_told (Begin rounds) answer before after base begun first number old new adds entry = quiet (Begin rounds) answer begun first old new (quiet_begin rounds answer _ _ adds) entry
entries_told (Work worker) answer before after base begun first number old new adds entry = by_work base begun first number old new (history_of before) (history_of after) worker before answer adds entry
entries_told (TakeUp worker) answer before after base begun first number old new adds entry = by_take_up base begun first number old new (history_of before) (history_of after) worker before answer adds entry
entries_told (HandInAt worker place) answer before after base begun first number old new adds entry =
    by_hand_in base begun first number old new (history_of before) (history_of after) worker place before answer adds entry
entries_told (Perform worker) answer before after base begun first number old new adds entry = quiet (Perform worker) answer begun first old new (quiet_perform worker answer _ _ adds) entry
entries_told (PerformAt worker place) answer before after base begun first number old new adds entry =
    quiet (PerformAt worker place) answer begun first old new (quiet_perform_at worker place answer _ _ adds) entry
entries_told Merge answer before after base begun first number old new adds entry = quiet Merge answer begun first old new (quiet_merge answer _ _ adds) entry
entries_told Cancel answer before after base begun first number old new adds entry = inl (told_cancel answer _ _ old new adds entry)
entries_told Reopen answer before after base begun first number old new adds entry = quiet Reopen answer begun first old new (quiet_reopen answer _ _ adds) entry
entries_told Trim answer before after base begun first number old new adds entry = quiet Trim answer begun first old new (quiet_trim answer _ _ adds) entry

-- ---- an acknowledgement or a reopening is the newest entry then

-- a reply about a checkpoint
abbrev IsOfJob : Reply → Type 0
IsOfJob (reply.Begun n) = Unit {0}
IsOfJob (reply.Acked n) = Unit {0}
IsOfJob (reply.Cancelled n) = Unit {0}
IsOfJob (reply.Reopened m) = Unit {0}
IsOfJob _ = ⊥

never_accepted : (command : Command) (memory : PlainMemory) (answer : Reply) → IsOfJob answer → Accepts command memory answer → ⊥
never_accepted command memory answer is accepts = grind arith

never_due : (answer : Reply) (why : AccessError) → IsOfJob answer → answer ≡ reply_of why → ⊥
never_due answer why is e = grind arith

-- no command is answered so
illegal : (memory : PlainMemory) (frozen : Bool) (command : Command) (answer : Reply) → IsOfJob answer → IsLegalReply memory frozen command answer → ⊥
illegal memory true command answer is legal = never_frozen answer is legal
  where
    never_frozen : (answer : Reply) → IsOfJob answer → answer ≡ reply.Refused refusal.Frozen → ⊥
    never_frozen answer is e = grind arith
illegal memory false command answer is legal = by (denial_in memory command) legal
  where
    by : (denied : Option AccessError) → MatchOption denied (Accepts command memory answer) (λ why. answer ≡ reply_of why) → ⊥
    by None accepts = never_accepted command memory answer is accepts
    by (Some why) e = never_due answer why is e

abbrev NoCommand : Event → Type 0
NoCommand event = (seat : ℕ) (command : Command) → event ≡ CommandEvent seat command → ⊥

no_command : (base : Base) (event : Event) (answer : Reply) (old history : History) → IsLegal base history → IsOfJob answer → history ≡ entry_made_by event answer ++ old
    → NoCommand event
no_command base event answer old history legal is e seat command same =
    let entry : history ≡ Applied seat command answer ∷ old = e ∙ ap (λ ev. entry_made_by ev answer ++ old) same ∙ ap (λ (l : History). l ++ old) (command_tells seat command answer is) in
    illegal _ _ command answer is (subst (IsLegal base) entry legal).0
  where
    command_tells : (seat : ℕ) (command : Command) (answer : Reply) → IsOfJob answer → entry_made_by (CommandEvent seat command) answer ≡ Applied seat command answer ∷ []
    command_tells seat command (reply.Begun n) is = refl
    command_tells seat command (reply.Acked n) is = refl
    command_tells seat command (reply.Cancelled n) is = refl
    command_tells seat command (reply.Reopened m) is = refl
    command_tells seat command _ is = absurd is

acked_tells : (event : Event) (n : ℕ) (one other : CoreView) → NoCommand event → AddsToJournal event (reply.Acked n) one other → entry_made_by event (reply.Acked n) ≡ Acked n ∷ []
acked_tells (CommandEvent seat command) n one other never adds = absurd (never seat command refl)
acked_tells (Begin rounds) n one other never adds = absurd adds
acked_tells (Work worker) n one other never adds = refl
acked_tells (TakeUp worker) n one other never adds = refl
acked_tells (HandInAt worker place) n one other never adds = refl
acked_tells (Perform worker) n one other never adds = absurd adds
acked_tells (PerformAt worker place) n one other never adds = absurd adds
acked_tells Merge n one other never adds = absurd adds
acked_tells Cancel n one other never adds = absurd adds
acked_tells Reopen n one other never adds = absurd adds
acked_tells Trim n one other never adds = absurd adds

reopened_tells : (event : Event) (m : Option ℕ) (one other : CoreView) → NoCommand event → AddsToJournal event (reply.Reopened m) one other
    → entry_made_by event (reply.Reopened m) ≡ Reopened m ∷ []
reopened_tells (CommandEvent seat command) m one other never adds = absurd (never seat command refl)
reopened_tells (Begin rounds) m one other never adds = absurd adds
reopened_tells (Work worker) m one other never adds = refl
reopened_tells (TakeUp worker) m one other never adds = refl
reopened_tells (HandInAt worker place) m one other never adds = refl
reopened_tells (Perform worker) m one other never adds = absurd adds
reopened_tells (PerformAt worker place) m one other never adds = absurd adds
reopened_tells Merge m one other never adds = absurd adds
reopened_tells Cancel m one other never adds = absurd adds
reopened_tells Reopen m one other never adds = absurd adds
reopened_tells Trim m one other never adds = absurd adds

-- ---- who says it

of_work : (worker whose : Worker) → worker ≡ whose → IsOf whose (Work worker)
of_work worker whose is = inl (ap Work is)

of_take_up : (worker whose : Worker) → worker ≡ whose → IsOf whose (TakeUp worker)
of_take_up worker whose is = inr (inl (ap TakeUp is))

of_hand_in : (worker whose : Worker) (place : ℕ) → worker ≡ whose → IsOf whose (HandInAt worker place)
of_hand_in worker whose place is = inr (inr (place, ap (λ w. HandInAt w place) is))

acked_by : (event : Event) (n : ℕ) (one other : CoreView) → NoCommand event → AddsToJournal event (reply.Acked n) one other → IsOf Dumper event
acked_by (CommandEvent seat command) n one other never adds = absurd (never seat command refl)
acked_by (Begin rounds) n one other never adds = absurd adds
acked_by (Work worker) n one other never adds = of_work worker Dumper adds.0
acked_by (TakeUp worker) n one other never adds = of_take_up worker Dumper adds.0
acked_by (HandInAt worker place) n one other never adds = of_hand_in worker Dumper place adds.0
acked_by (Perform worker) n one other never adds = absurd adds
acked_by (PerformAt worker place) n one other never adds = absurd adds
acked_by Merge n one other never adds = absurd adds
acked_by Cancel n one other never adds = absurd adds
acked_by Reopen n one other never adds = absurd adds
acked_by Trim n one other never adds = absurd adds

reopened_by : (event : Event) (m : Option ℕ) (one other : CoreView) → NoCommand event → AddsToJournal event (reply.Reopened m) one other → IsOf Opener event
reopened_by (CommandEvent seat command) m one other never adds = absurd (never seat command refl)
reopened_by (Begin rounds) m one other never adds = absurd adds
reopened_by (Work worker) m one other never adds = of_work worker Opener adds.0
reopened_by (TakeUp worker) m one other never adds = of_take_up worker Opener adds.0
reopened_by (HandInAt worker place) m one other never adds = of_hand_in worker Opener place adds.0
reopened_by (Perform worker) m one other never adds = absurd adds
reopened_by (PerformAt worker place) m one other never adds = absurd adds
reopened_by Merge m one other never adds = absurd adds
reopened_by Cancel m one other never adds = absurd adds
reopened_by Reopen m one other never adds = absurd adds
reopened_by Trim m one other never adds = absurd adds

cancelled_by : (event : Event) (n : ℕ) (one other : CoreView) → NoCommand event → AddsToJournal event (reply.Cancelled n) one other → event ≡ Cancel
cancelled_by (CommandEvent seat command) n one other never adds = absurd (never seat command refl)
cancelled_by (Begin rounds) n one other never adds = absurd adds
cancelled_by (Work worker) n one other never adds = absurd adds
cancelled_by (TakeUp worker) n one other never adds = absurd adds
cancelled_by (HandInAt worker place) n one other never adds = absurd adds
cancelled_by (Perform worker) n one other never adds = absurd adds
cancelled_by (PerformAt worker place) n one other never adds = absurd adds
cancelled_by Merge n one other never adds = absurd adds
cancelled_by Cancel n one other never adds = refl
cancelled_by Reopen n one other never adds = absurd adds
cancelled_by Trim n one other never adds = absurd adds

-- only an order to begin is answered so
begun_by : {D : Type 0} (g : Ghosts D) (event : Event) (n : ℕ) (old new : WorldView D) → NoCommand event → Does g event old (reply.Begun n) new
    → AddsToJournal event (reply.Begun n) old.core new.core → (rounds : ℕ) × (event ≡ Begin rounds)
begun_by g (CommandEvent seat command) n old new never does adds = absurd (never seat command refl)
begun_by g (Begin rounds) n old new never does adds = (rounds, refl)
begun_by g (Work worker) n old new never does adds = absurd adds
begun_by g (TakeUp worker) n old new never does adds = absurd adds
begun_by g (HandInAt worker place) n old new never does adds = absurd adds
begun_by g (Perform worker) n old new never does adds = absurd adds
begun_by g (PerformAt worker place) n old new never does adds = absurd adds
begun_by g Merge n old new never does adds = absurd (merge_begins_none old.core n new.core does.1)
begun_by g Cancel n old new never does adds = absurd adds
begun_by g Reopen n old new never does adds = absurd (reopen_begins_none old.core n new.core does.1)
begun_by g Trim n old new never does adds = absurd adds

no_worked : (answer : Reply) → IsOfJob answer → answer ≡ reply.Worked → ⊥
no_worked answer is e = grind arith

module _ (base : Base) (history : History) (legal : IsLegal base history) (event : Event) (begun : Option ℕ) (first : Shown) (old : History) where
  pub never : (answer : Reply) → IsOfJob answer → Tells event answer begun first old history → NoCommand event
  never answer is (inl e) = no_command base event answer old history legal is e
  never answer is (inr f) = absurd (no_worked answer is f.worked)

-- the entry of an acknowledgement
acked_entry : (base : Base) (history : History) (legal : IsLegal base history) (event : Event) (n : ℕ) (begun : Option ℕ) (first : Shown) (old : History) (one other : CoreView)
    → AddsToJournal event (reply.Acked n) one other → Tells event (reply.Acked n) begun first old history → history ≡ Acked n ∷ old
acked_entry base history legal event n begun first old one other adds (inl e) =
    e ∙ ap (λ (l : History). l ++ old) (acked_tells event n one other (no_command base event (reply.Acked n) old history legal tt e) adds)
acked_entry base history legal event n begun first old one other adds (inr f) = absurd (no_worked (reply.Acked n) tt f.worked)

-- what is acknowledged was being written
pub was_pending : (base : Base) (first : Shown) (starts : StartsAs base first) (old : History) (n : ℕ) → IsLegal base (Acked n ∷ old)
    → (memory : PlainMemory) × ((tell first old).pending ≡ Some (n, memory))
was_pending base first starts old n legal = by (tell first old).pending refl (run_laws.agrees base first old starts legal.1).pending
  where
    some_is_none : {A : Type 0} (a : A) → (let s : Option A = Some a in s ≡ None) → ⊥
    some_is_none a e = cc

    by : (told : Shown) → (tell first old).pending ≡ told → IsPendingAs base old told
        → (memory : PlainMemory) × ((tell first old).pending ≡ Some (n, memory))
    by None is none = absurd (some_is_none n (sym legal.0 ∙ none))
    by (Some pair) is pends =
        let number : pair.0 ≡ n = same_Some pair.0 n (sym pends.0 ∙ legal.0) in
        (pair.1, is ∙ ap (λ k. Some (k, pair.1)) number)

-- and it is the checkpoint that ran
ran : {D : Type 0} {g : Ghosts D} {n : ℕ} {old new : WorldView D} → IsAckedThere g n old new → running_number old.core.dumper.running ≡ Some n
ran there = ap running_number there.was ∙ ap Some (sym there.number)

pub acked_running : {D : Type 0} (g : Ghosts D) (event : Event) (n : ℕ) (old new : WorldView D) → IsOf Dumper event → DoesAck g event old (reply.Acked n) new
    → running_number old.core.dumper.running ≡ Some n
acked_running g event n old new (inl work) acks = ran (subst (λ e. DoesAck g e old (reply.Acked n) new) work acks n refl)
acked_running g event n old new (inr (inl take)) acks = ran (subst (λ e. DoesAck g e old (reply.Acked n) new) take acks n refl)
acked_running g event n old new (inr (inr hand)) acks = ran (subst (λ e. DoesAck g e old (reply.Acked n) new) hand.1 acks n refl)

-- ---- what contents show

module _ (laws : TrimLaws) where
  legal_whole : (first : Base) (gone kept : History) (now : Base) → Folds first gone now → IsLegal now kept → IsLegal first (kept ++ gone)
  legal_whole first gone kept now (Folds.none _ _ empty same) legal =
      subst (λ g. IsLegal first (kept ++ g)) (sym empty) (subst (λ h. IsLegal first h) (sym (append-nil kept)) (subst (λ b. IsLegal b kept) same legal))
  legal_whole first gone kept now (Folds.more _ _ mid earlier front n folds before ended parts is) legal =
      let whole = legal_back laws mid n front kept ended before (subst (λ b. IsLegal b kept) is legal) in
      subst (λ g. IsLegal first (kept ++ g)) (sym parts)
      (subst (λ h. IsLegal first h) (append_assoc kept front earlier) (legal_whole first earlier (kept ++ front) mid folds whole))

  pub legal_at : {D : Type 0} (world : WorldView D) (point : BasePoint D) → StandsAtBase world point → IsLegal point.base point.entries
  legal_at world point stands =
      subst (IsLegal point.base) (sym stands.entries) (legal_whole point.base stands.gone (history_of world.core) world.core.base stands.folds stands.legal)

module _ (base : Base) (first : Shown) (starts : StartsAs base first) (history : History) (legal : IsLegal base history) where
  pub shows_told : (contents : List (List ℕ)) → ShowsAllowed base history contents → ShowsWhatRunAllows (tell first history) contents
  shows_told contents is = record {
    shown = is.shown;
    allowed = (run_laws.allowed base first history is.shown starts legal).0 is.allowed;
    shows = is.shows;
  }

  last_shown : (n : ℕ) (contents : List (List ℕ)) → last base history ≡ Some n → ShowsFreeze base history n contents
      → (option_map (λ (pair : ℕ × PlainMemory). pair.0) (tell first history).last ≡ Some n) × Shows contents (tell first history).last
  last_shown n contents number is =
      let told = tell first history in
      let found = last_is base history n told.last number (run_laws.agrees base first history starts legal).last in
      let m : found.0 ≡ is.memory = same_Some found.0 is.memory (sym found.2 ∙ is.freeze) in (
        ap (option_map (λ (pair : ℕ × PlainMemory). pair.0)) found.1,
        subst (Shows contents) (sym (found.1 ∙ ap (λ k. Some (n, k)) m)) is.shows,
      )

  none_shown : (contents : List (List ℕ)) → last base history ≡ None → Shows contents None
      → (option_map (λ (pair : ℕ × PlainMemory). pair.0) (tell first history).last ≡ None) × Shows contents (tell first history).last
  none_shown contents number is = by (tell first history).last (run_laws.agrees base first history starts legal).last
    where
      some_is_none : {A : Type 0} (a : A) → (let s : Option A = Some a in s ≡ None) → ⊥
      some_is_none a e = cc

      by : (x : Shown) → IsLastPair base history x → (option_map (λ (pair : ℕ × PlainMemory). pair.0) x ≡ None) × Shows contents x
      by None l = (refl, is)
      by (Some p) l = absurd (some_is_none p.0 (sym l.0 ∙ number))

  pub answer_shown : (event : Event) (answer : Reply) (begun : Option ℕ) (old : History) (one other : CoreView) (contents : List (List ℕ))
      → AddsToJournal event answer one other → Tells event answer begun first old history → ShowsReply answer base history contents → ShowsAnswer answer (tell first history) contents
  answer_shown event (reply.Acked n) begun old one other contents adds (inl e) is =
      last_shown n contents (ap (last base) (acked_entry base history legal event n begun first old one other adds (inl e))) is
  answer_shown event (reply.Acked n) begun old one other contents adds (inr f) is = absurd (no_work n f.worked)
    where
      no_work : (n : ℕ) → reply.Acked n ≡ reply.Worked → ⊥
      no_work n e = absurd (let f : reply.Acked n ≡ reply.Worked = e in cc)
  answer_shown event (reply.Reopened None) begun old one other contents adds (inl e) is =
      let entry : history ≡ Reopened None ∷ old = e ∙ ap (λ (l : History). l ++ old) (reopened_tells event None one other (no_command base event (reply.Reopened None) old history legal tt e) adds) in
      none_shown contents (ap (last base) entry) is
  answer_shown event (reply.Reopened (Some n)) begun old one other contents adds (inl e) is =
      let entry : history ≡ Reopened (Some n) ∷ old = e ∙ ap (λ (l : History). l ++ old) (reopened_tells event (Some n) one other (no_command base event (reply.Reopened (Some n)) old history legal tt e) adds) in
      last_shown n contents (ap (last base) entry) is
  answer_shown event (reply.Reopened m) begun old one other contents adds (inr f) is = absurd (no_work m f.worked)
    where
      no_work : (m : Option ℕ) → reply.Reopened m ≡ reply.Worked → ⊥
      no_work m e = absurd (let f : reply.Reopened m ≡ reply.Worked = e in cc)
  answer_shown event _ begun old one other contents adds told is = tt

-- ---- a step

module _ (laws : TrimLaws) {D : Type 0} (g : Ghosts D) (event : Event) (old : WorldView D) (answer : Reply) (new : WorldView D) (step : IsStep g event old answer new) where
  told_point : BasePoint D → Shown → Point D
  told_point point shown = record { disk = point.disk; start = shown; entries = point.entries; begun = point.begun }

  -- an order to begin is answered by the next number, or refused
  begins_next : (first : BasePoint D) (shown : Shown) → StartsAs first.base shown → StandsAtBase old first → (rounds : ℕ) → event ≡ Begin rounds
      → ((n : ℕ) × (answer ≡ reply.Begun n) × IsNextNumber n shown first.entries) ⊎ ((why : Refusal) × (answer ≡ reply.Refused why))
  begins_next first shown starts stands rounds is_begin =
      let does : IsBegun rounds answer old.core new.core = (subst (λ e. Does g e old answer new) is_begin step.does).1 in
      elim (begun_or old.core rounds answer new.core does) [
        | inl begun ↦
            let next = begun.2.next in
            let counted = stands.counted in
            inl (
              begun.0,
              begun.1,
              next_number first.base shown starts.number first.entries begun.0
                  (λ k least. stands.used k (omega (arith, next, counted, least))),
            )
        | inr refused ↦ inr refused
      ]

  never_command : (history : History) (base : Base) (legal : IsLegal base history) (first : BasePoint D) (shown : Shown) (entries : History)
      → Tells event answer first.begun shown entries history → (is : Reply) → IsOfJob is → answer ≡ is → NoCommand event
  never_command history base legal first shown entries told is of_job e =
      never base history legal event first.begun shown entries is of_job (subst (λ a. Tells event a first.begun shown entries history) e told)

  -- what is acknowledged is the checkpoint that was begun last, and was being written
  acks_pending : (first last : BasePoint D) (shown : Shown) → StartsAs first.base shown → StandsAtBase old first → IsLegal first.base last.entries
      → Tells event answer first.begun shown first.entries last.entries → (n : ℕ) → answer ≡ reply.Acked n → g.is_honest new.disk
      → IsOf Dumper event × (first.begun ≡ Some n) × ((memory : PlainMemory) × ((tell shown first.entries).pending ≡ Some (n, memory)))
  acks_pending first last shown starts stands legal told n is honest =
      let adds : AddsToJournal event (reply.Acked n) old.core new.core = subst (λ a. AddsToJournal event a old.core new.core) is step.adds in
      let tells : Tells event (reply.Acked n) first.begun shown first.entries last.entries =
      subst (λ a. Tells event a first.begun shown first.entries last.entries) is told in
      let by_dumper = acked_by event n old.core new.core (never first.base last.entries legal event first.begun shown first.entries (reply.Acked n) tt tells) adds in
      let entry = acked_entry first.base last.entries legal event n first.begun shown first.entries old.core new.core adds tells in (
        by_dumper,
        stands.begun n (acked_running g event n old new by_dumper (subst (λ a. DoesAck g event old a new) is (step.acked honest))),
        was_pending first.base shown starts first.entries n (subst (IsLegal first.base) entry legal),
      )

  moves_told : (first last : BasePoint D) (shown : Shown) → StartsAs first.base shown → StandsAtBase old first → StandsAtBase new last → Enters g event answer first last
      → g.is_honest new.disk → Moves g event answer (told_point first shown) (told_point last shown)
  unfolding told_point
  moves_told first last shown starts stands stood enters honest =
      let base = first.base in
      let before = legal_at laws old first stands in
      let after : IsLegal base last.entries = subst (λ b. IsLegal b last.entries) enters.base (legal_at laws new last stood) in
      let told = entries_told event answer old.core new.core base first.begun shown starts.number first.entries last.entries step.adds enters.entries in
      record {
        start = refl;
        entries = told;
        begins = λ rounds is_begin. begins_next first shown starts stands rounds is_begin;
        begun_by = λ n is. begun_by g event n old new (never_command last.entries base after first shown first.entries told (reply.Begun n) tt is)
            (subst (λ a. Does g event old a new) is step.does) (subst (λ a. AddsToJournal event a old.core new.core) is step.adds);
        acks = λ n is. acks_pending first last shown starts stands after told n is honest;
        reopens = λ m is. reopened_by event m old.core new.core (never_command last.entries base after first shown first.entries told (reply.Reopened m) tt is)
            (subst (λ a. AddsToJournal event a old.core new.core) is step.adds);
        cancels = λ n is. cancelled_by event n old.core new.core (never_command last.entries base after first shown first.entries told (reply.Cancelled n) tt is)
            (subst (λ a. AddsToJournal event a old.core new.core) is step.adds);
        begun = enters.begun;
        any_moment = span_widened g first.disk last.disk (ShowsAllowed base first.entries) (ShowsWhatRunAllows (tell shown first.entries))
            (shows_told base shown starts first.entries before) enters.any_moment;
        at_end = λ c may. shows_told base shown starts last.entries after c (subst (λ b. ShowsAllowed b last.entries c) enters.base (enters.at_end c may));
        told = λ c may. answer_shown base shown starts last.entries after event answer first.begun first.entries old.core new.core c step.adds told
            (subst (λ b. ShowsReply answer b last.entries c) enters.base (enters.told c may));
      }

  pub point_follows : g.is_honest new.disk → (first : Point D) → StandsAt old first → (last : Point D) × StandsAt new last × Moves g event answer first last
  unfolding told_point
  point_follows honest first stands =
      let from : BasePoint D = record { disk = first.disk; base = stands.base; entries = first.entries; begun = first.begun } in
      let at : StandsAtBase old from = record {
        disk = stands.disk;
        gone = stands.gone;
        folds = stands.folds;
        entries = stands.entries;
        legal = stands.legal;
        begun = stands.begun;
        used = stands.used;
        last = stands.last;
        counted = stands.counted;
      } in
      let one = enters_follow laws g event old answer new step honest from at in (
        told_point one.0 first.start,
        record {
          disk = one.1.disk;
          base = one.0.base;
          starts = subst (λ b. StartsAs b first.start) (sym one.2.base) stands.starts;
          gone = one.1.gone;
          folds = one.1.folds;
          entries = one.1.entries;
          legal = one.1.legal;
          begun = one.1.begun;
          used = one.1.used;
          last = one.1.last;
          counted = one.1.counted;
        },
        moves_told from one.0 first.start stands.starts at one.1 one.2 honest,
      )

pub points_follow : (laws : TrimLaws) {D : Type 0} (g : Ghosts D) → PointsFollow g
points_follow laws g event old answer new step honest first stands = point_follows laws g event old answer new step honest first stands
