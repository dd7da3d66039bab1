-- The requests that are out keep tickets of their own.
use Rattle.std.proofs.Common.{◌≡◌, ◌≢◌, ◌⊎◌, ℕ, ◌+◌, ◌^◌, ◌<◌, ◌≤◌, Bool, List, [], ◌∷◌, Option, Some, None, slice_get, slice_set, replicate, zero, suc, sym, ◌∙◌, ap, subst, inl, inr, arith}
use Rattle.std.proofs.lemmas.Bool.{cases_eq, cases_lt}
use Rattle.std.proofs.lemmas.Option.{same_Some}
use Rattle.sd_command.specs.declared.reply.Reply.{Reply}
use Rattle.sd_disk.specs.declared.disk.Disk.{Ghosts}
use Rattle.sd_gate.specs.declared.request_id.RequestId.{RequestId}
use Rattle.sd_gate.specs.declared.worker.Worker.{Worker}
use Rattle.sd_gate.specs.Requests.{Asked, Made}
use Rattle.sd_crash_safety.specs.Calls.{HandsOut, IsOut, MakesStep, Stays}
use Rattle.sd_crash_safety.specs.OpenerSteps.{nobody}
use Rattle.sd_crash_safety.specs.View.{CoreView, Numbers}
use Rattle.sd_core.specs.declared.taken.Taken.TheVariants.{Step}
use Rattle.sd_core.specs.Called.{IsHandedIn, IsTakenUp}
use Rattle.sd_core.specs.Flags.{AsksFlags, FlagsByBegin, FlagsByCancel, FlagsByOutcome, FlagsByReply, HasFlags, begins_image, numbers_asked, ticket_after}
use Rattle.sd_world.specs.declared.event.Event.{Event}
use Rattle.sd_world.specs.declared.event.Event.TheVariants.{Command as CommandEvent, Begin, Work, TakeUp, HandInAt, Merge, Cancel, Reopen, Trim}
use Rattle.sd_world.specs.Steps.{Does, HandsInIfAny, WorkerTakesUp, WorkerWorks}
use Rattle.sd_world.specs.Tickets.{HasOwnTickets, TicketsLast}
use Rattle.sd_world.specs.Trims.{TrimsJournal}
use Rattle.sd_world.specs.View.{WorldView}
use Rattle.sd_core.proofs.FallenLemmas.{less_out as out_still}
use Rattle.sd_store_laws.proofs.SlotSteps.{set_other as get_set_other}
use Rattle.sd_world.proofs.Lists.{get_set_same}
use Rattle.sd_world.proofs.TrimLemmas.{trim_cases}

-- ---- the next ticket

same_numbers : (old new : CoreView) (grows committing : Bool) → HasFlags grows committing old.numbers new → new.numbers.ticket ≡ old.numbers.ticket
same_numbers old new grows committing flags = ap (λ (n : Numbers). n.ticket) flags.numbers_are

begin_ticket : (old : CoreView) (answer : Reply) (new : CoreView) → FlagsByBegin old answer new → new.numbers.ticket ≡ old.numbers.ticket
begin_ticket old answer new flags = grind arith

cancel_ticket : (old : CoreView) (answer : Reply) (new : CoreView) → FlagsByCancel old answer new → new.numbers.ticket ≡ old.numbers.ticket
cancel_ticket old answer new flags = grind arith

reply_ticket : (old : CoreView) (answer : Reply) (new : CoreView) → FlagsByReply old answer new → new.numbers.ticket ≡ old.numbers.ticket
reply_ticket old answer new flags = grind arith

outcome_ticket : (old : CoreView) (answer : Reply) (new : CoreView) → FlagsByOutcome old answer new → new.numbers.ticket ≡ old.numbers.ticket
outcome_ticket old answer new flags = grind arith

asked_ticket : (begins : Bool) (numbers : Numbers) → (numbers_asked begins numbers).ticket ≡ ticket_after numbers.ticket
asked_ticket begins numbers = grind arith

next_ticket : (ticket : ℕ) → ticket + 1 < 2 ^ 64 → ticket_after ticket ≡ ticket + 1
next_ticket ticket less = omega (arith, less)

at_none : (count lane : ℕ) (o : Option RequestId) → slice_get (replicate count None) lane ≡ Some o → o ≡ None
at_none zero lane o at = absurd (let no : (let none : Option (Option RequestId) = None in none ≡ Some o) = at in cc)
at_none (suc count) zero o at = same_Some o None (sym at)
at_none (suc count) (suc lane) o at = at_none count lane o at

-- nothing is out
pub none_has : (core : CoreView) → core.outs ≡ nobody → HasOwnTickets core
none_has core none = record {
  given = λ lane id is. absurd (nothing lane id (ap (λ all. slice_get all lane) (sym none) ∙ is));
  own = λ one other first second here there same. absurd (nothing one first (ap (λ all. slice_get all one) (sym none) ∙ here));
}
  where
    nothing : (lane : ℕ) (id : RequestId) → slice_get nobody lane ≡ Some (Some id) → ⊥
    nothing lane id is = let gone : Some id ≡ None = at_none 11 lane (Some id) is in cc

-- ---- one call

-- what a call does to the tickets, where the next one has room in its 64 bits
abbrev pub KeepsTickets : CoreView → CoreView → Type 0
KeepsTickets old new = old.numbers.ticket + 1 < 2 ^ 64 → HasOwnTickets old → (new.numbers.ticket ≤ old.numbers.ticket + 1) × HasOwnTickets new

same_outs : (old new : CoreView) → new.outs ≡ old.outs → new.numbers.ticket ≡ old.numbers.ticket → KeepsTickets old new
same_outs old new outs ticket room has = grind arith

same_core : (old new : CoreView) → new ≡ old → KeepsTickets old new
same_core old new same = same_outs old new (ap (λ (c : CoreView). c.outs) same) (ap (λ (c : CoreView). c.numbers.ticket) same)

stays : (old new : CoreView) → Stays old new → new.numbers.ticket ≡ old.numbers.ticket → KeepsTickets old new
stays old new same ticket = same_outs old new same.outs ticket

step_keeps : (old : CoreView) (worker : Worker) (answer : Reply) (new : CoreView) → MakesStep old worker answer new → FlagsByReply old answer new
    → KeepsTickets old new
step_keeps old worker answer new makes flags = grind arith

-- what is out after a request that is handed out
module _ (outs : List (Option RequestId)) (lane : ℕ) (id : RequestId) (free : slice_get outs lane ≡ Some None) where
  out_before : (at : ℕ) (one : RequestId) → slice_get (slice_set outs lane (Some id)) at ≡ Some (Some one)
      → ((at ≡ lane) × (one ≡ id)) ⊎ ((at ≢ lane) × (slice_get outs at ≡ Some (Some one)))
  out_before at one is = elim (cases_eq at lane) [
    | inl same ↦ inl (same, own one (sym (get_set_same outs lane None (Some id) free) ∙ ap (slice_get (slice_set outs lane (Some id))) (sym same) ∙ is))
    | inr other ↦ inr (other, sym (get_set_other outs lane at (Some id) other) ∙ is)
  ]
    where
      own : (one : RequestId) → ◌≡◌ {A = Option (Option RequestId)} (Some (Some id)) (Some (Some one)) → one ≡ id
      own one e = cc

call_keeps : (old : CoreView) (worker : Worker) (request : Asked) (new : CoreView) → HandsOut old worker request new → AsksFlags old worker request new
    → KeepsTickets old new
call_keeps old worker request new out flags room has = (omega (arith, next), record { given = given; own = own })
  where
    next : new.numbers.ticket ≡ old.numbers.ticket + 1
    next = ap (λ (n : Numbers). n.ticket) flags.flags.numbers_are ∙ asked_ticket (begins_image old worker) old.numbers
        ∙ next_ticket old.numbers.ticket room

    before : (at : ℕ) (one : RequestId) → slice_get new.outs at ≡ Some (Some one)
        → ((at ≡ out.lane) × (one ≡ request.id)) ⊎ ((at ≢ out.lane) × (slice_get old.outs at ≡ Some (Some one)))
    before at one is = out_before old.outs out.lane request.id out.free at one (ap (λ all. slice_get all at) (sym out.outs) ∙ is)

    given : (lane : ℕ) (id : RequestId) → slice_get new.outs lane ≡ Some (Some id) → id.ticket < new.numbers.ticket
    given lane id is = elim (before lane id is) [
      | inl this ↦ let mine : id.ticket ≡ old.numbers.ticket = ap (λ (i : RequestId). i.ticket) this.1 ∙ flags.ticket in omega (arith, mine, next)
      | inr that ↦ let less = has.given lane id that.1 in omega (arith, less, next)
    ]

    apart : (lane : ℕ) (id : RequestId) → slice_get old.outs lane ≡ Some (Some id) → (one : RequestId) → one ≡ request.id → id.ticket ≡ one.ticket → ⊥
    apart lane id is one mine same = grind arith

    own : (one other : ℕ) (first second : RequestId) → slice_get new.outs one ≡ Some (Some first) → slice_get new.outs other ≡ Some (Some second)
        → first.ticket ≡ second.ticket → one ≡ other
    own one other first second here there same = elim (before one first here) [
      | inl this ↦ elim (before other second there) [
        | inl that ↦ this.0 ∙ sym that.0
        | inr that ↦ absurd (apart other second that.1 first this.1 (sym same))
      ]
      | inr this ↦ elim (before other second there) [
        | inl that ↦ absurd (apart one first this.1 second that.1 same)
        | inr that ↦ has.own one other first second this.1 that.1 same
      ]
    ]

taken_keeps : (old : CoreView) (worker : Worker) (new : CoreView) (answer : Reply) → IsTakenUp worker old (Step answer) new → KeepsTickets old new
taken_keeps old worker new answer up = step_keeps old worker answer new up.takes up.flags

-- ---- an outcome

handed_keeps : (old new : CoreView) (made : Made) (answer : Reply) → IsHandedIn made answer old new → KeepsTickets old new
handed_keeps old new made answer handed room has = (omega (arith, ticket), record { given = given; own = own })
  where
    ticket : new.numbers.ticket ≡ old.numbers.ticket
    ticket = outcome_ticket old answer new handed.flags

    -- whether the request is out need not be known: each of these can be decided
    given : (lane : ℕ) (id : RequestId) → slice_get new.outs lane ≡ Some (Some id) → id.ticket < new.numbers.ticket
    given lane id is = elim (below_or id.ticket new.numbers.ticket) [
      | inl less ↦ less
      | inr not ↦
          let late : IsOut old made.request.id → ⊥ = λ out. not (subst (λ t. id.ticket < t) (sym ticket) (has.given lane id
          (out_still old.outs out.lane lane id (ap (λ all. slice_get all lane) (sym (handed.handed out).outs) ∙ is)))) in
          ((same_core old new (handed.strange late).1) room has).1.given lane id is
    ]
      where
        below_or : (a b : ℕ) → (a < b) ⊎ (a < b → ⊥)
        below_or a b = elim (cases_lt a b) [ inl less ↦ inl less | inr not ↦ inr (λ less. omega (arith, less, not)) ]

    own : (one other : ℕ) (first second : RequestId) → slice_get new.outs one ≡ Some (Some first) → slice_get new.outs other ≡ Some (Some second)
        → first.ticket ≡ second.ticket → one ≡ other
    own one other first second here there same = elim (cases_eq one other) [
      | inl is ↦ is
      | inr not ↦
          let late : IsOut old made.request.id → ⊥ = λ out. not (has.own one other first second
          (out_still old.outs out.lane one first (ap (λ all. slice_get all one) (sym (handed.handed out).outs) ∙ here))
          (out_still old.outs out.lane other second (ap (λ all. slice_get all other) (sym (handed.handed out).outs) ∙ there)) same) in
          ((same_core old new (handed.strange late).1) room has).1.own one other first second here there same
    ]

-- ---- all events

module _ {D : Type 0} (g : Ghosts D) where
  takes_keeps : (worker : Worker) (old : WorldView D) (answer : Reply) (new : WorldView D) → WorkerTakesUp worker old.core old.kept answer new.core new.kept
      → KeepsTickets old.core new.core
  takes_keeps worker old answer new (WorkerTakesUp.step taken left) = taken_keeps old.core worker new.core answer taken
  takes_keeps worker old answer new (WorkerTakesUp.call request taken left worked) = call_keeps old.core worker request new.core taken.takes taken.flags

  works_keeps : (worker : Worker) (old : WorldView D) (answer : Reply) (new : WorldView D) → WorkerWorks worker old.core old.kept answer new.core new.kept
      → KeepsTickets old.core new.core
  works_keeps worker old answer new (WorkerWorks.hands_in hands) = handed_keeps old.core new.core hands.made answer hands.hands.does
  works_keeps worker old answer new (WorkerWorks.takes_up none takes) = takes_keeps worker old answer new takes

  hands_keeps : (worker : Worker) (place : ℕ) (old : WorldView D) (answer : Reply) (new : WorldView D)
      → HandsInIfAny worker place old.core old.kept answer new.core new.kept → KeepsTickets old.core new.core
  hands_keeps worker place old answer new given = grind (arith, handed_keeps, same_core)

  trim_keeps : (old new : CoreView) (answer : Reply) → TrimsJournal old answer new → KeepsTickets old new
  trim_keeps old new answer trims = elim (trim_cases old answer new trims) [
    | inl gone ↦ same_outs old new (ap (λ (c : CoreView). c.outs) gone.is) (ap (λ (c : CoreView). c.numbers.ticket) gone.is)
    | inr all ↦ same_core old new all.is
  ]

  event_keeps : (event : Event) (old : WorldView D) (answer : Reply) (new : WorldView D) → Does g event old answer new → KeepsTickets old.core new.core
  event_keeps (CommandEvent seat command) old answer new does =
      stays old.core new.core does.applied.keeps (same_numbers old.core new.core _ _ does.applied.flags)
  event_keeps (Begin rounds) old answer new does = stays old.core new.core does.1.keeps (begin_ticket old.core answer new.core does.1.flags)
  event_keeps (Work worker) old answer new does = works_keeps worker old answer new does.works
  event_keeps (TakeUp worker) old answer new does = takes_keeps worker old answer new does.takes
  event_keeps (HandInAt worker place) old answer new does = hands_keeps worker place old answer new does.hands
  event_keeps Merge old answer new does = stays old.core new.core does.1.keeps (same_numbers old.core new.core _ _ does.1.flags)
  event_keeps Cancel old answer new does = stays old.core new.core does.1.keeps (cancel_ticket old.core answer new.core does.1.flags)
  event_keeps Reopen old answer new does = stays old.core new.core does.1.keeps (same_numbers old.core new.core _ _ does.1.flags)
  event_keeps Trim old answer new does = trim_keeps old.core new.core answer does.trims
  event_keeps _ old answer new does = same_core old.core new.core does.core

  pub tickets_last : TicketsLast g
  tickets_last first last [] [] runs has room = subst (λ (w : WorldView D). HasOwnTickets w.core) (sym runs) has
  tickets_last first last (e ∷ events) (a ∷ answers) runs has room =
      let one = event_keeps e first a runs.0 runs.1.does (omega (arith, room)) has in
      let less = one.0 in
      tickets_last runs.0 last events answers runs.2 one.1 (omega (arith, room, less))
  tickets_last first last _ _ runs has room = absurd runs
