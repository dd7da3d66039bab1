-- The opener's steps, as the calls of a core say them.
use Rattle.std.proofs.Common.{◌≡◌, ℕ, suc, Bool, List, [], ◌∷◌, length, map, Option, Some, None, slice_get, slice_set, refl, sym, ◌∙◌, ap, subst, inl, inr, arith}
use Rattle.std.proofs.lemmas.Option.{same_Some}
use Rattle.sd_gate.specs.declared.phase.Phase.{Phase}
use Rattle.sd_gate.specs.declared.request_id.RequestId.{RequestId}
use Rattle.sd_gate.specs.declared.worker.Worker.{Worker}
use Rattle.sd_gate.specs.declared.worker.Worker.TheVariants.{Opener}
use Rattle.sd_gate.specs.Calls.{is_done}
use Rattle.sd_gate.specs.Laws.{found_phase}
use Rattle.sd_gate.specs.Phases.{Waits, given_up, phases_after}
use Rattle.sd_gate.specs.Requests.{Asked, Made}
use Rattle.sd_command.specs.declared.reply.Reply.{Reply}
use Rattle.sd_command.specs.declared.reply.Reply.TheVariants as reply
use Rattle.sd_command.specs.declared.refusal.Refusal.{Refusal}
use Rattle.sd_journal.specs.declared.entry.Entry.TheVariants.{Reopened}
use Rattle.sd_journal.specs.Allowed.{Shown, shown_number}
use Rattle.sd_journal.specs.Legal.{IsLegal}
use Rattle.sd_journal.specs.Marked.{Told, entries_of}
use Rattle.sd_image.specs.Shows.{Shows}
use Rattle.sd_opener.specs.Looking.{Looking}
use Rattle.sd_opener.specs.Sees.{Sees}
use Rattle.sd_crash_safety.specs.Calls.{AreGivenUp, HandedIn, HandsOut, IsFree, MakesStep, Stays}
use Rattle.sd_crash_safety.specs.Laws.{IsOpenAs, ReopenedIsBelieved}
use Rattle.sd_crash_safety.specs.OpenerSteps.{Decodes, GivesUpOpening, IsHandedToOpener, IsTaught, LooksOn, OnlyOpens, OpenerSteps, Reopens, nobody, opener_alone}
use Rattle.sd_crash_safety.specs.View.{CoreView, history_of}
use Rattle.sd_rounds.specs.Dumper.{Running}
use Rattle.sd_core.specs.Following.{FollowsOutcome}
use Rattle.sd_core.specs.Opening.{with_opening}
use Rattle.sd_core.specs.Sound.{held_for}
use Rattle.sd_crash_safety.proofs.OpenerSteps.{given_up_at as given_at}
use Rattle.sd_core.proofs.ApplyLemmas.{same_phases}
use Rattle.sd_core.proofs.OutsLemmas.{nobody_out}

free_of_nobody : (outs : List (Option RequestId)) (slot : ℕ) → outs ≡ nobody → IsFree outs slot
free_of_nobody outs slot is lane id out same = nobody_out lane id (ap (λ all. slice_get all lane) (sym is) ∙ out)

pub given_count : (phases : List Phase) → length (map given_up phases) ≡ length phases
given_count [] = refl
given_count (p ∷ phases) = ap suc (given_count phases)

-- ---- it begins, and ends

pub stays_reopened : OpenerSteps → (old new : CoreView) (opener : Looking) → Reopens old opener new → Stays old new
stays_reopened steps old new opener r = record {
  base = r.rest.base;
  outs = r.outs;
  phases = subst (λ p. AreGivenUp new.outs old.phases p) (sym r.phases) (record {
    count = given_count old.phases;
    each = λ slot phase at.
        let was = given_at old.phases slot phase at in
        (was.0, was.1, inr (was.2, free_of_nobody new.outs slot (r.outs ∙ r.none)));
  });
  goes_on = λ asked bodies files b. steps.reopens old new opener asked bodies files r b;
}

stays_ended : OpenerSteps → (old new : CoreView) → GivesUpOpening old new → Stays old new
stays_ended steps old new g = record {
  base = g.rest.base;
  outs = g.outs;
  phases = subst (λ p. AreGivenUp new.outs old.phases p) (sym g.phases) (same_phases new.outs old.phases);
  goes_on = λ asked bodies files b. steps.ends old new asked bodies files g b;
}

pub ends_refused : OpenerSteps → (old new : CoreView) (why : Refusal) → GivesUpOpening old new → MakesStep old Opener (reply.Refused why) new
ends_refused steps old new why g = record { keeps = inl (stays_ended steps old new g); adds = ap entries_of g.rest.items }

-- ---- its steps

pub hands_out : OpenerSteps → (old new : CoreView) (opener next : Looking) (number : ℕ) (request : Asked) → LooksOn old opener number request next new
    → opener.slots ≡ length old.phases → HandsOut old Opener request new
hands_out steps old new opener next number request l slots = record {
  lane = 2;
  free = ap (λ outs. slice_get outs 2) l.none;
  base = l.rest.base;
  history = ap entries_of l.rest.items;
  phases = l.phases;
  outs = l.outs ∙ ap (λ outs. slice_set outs 2 (Some request.id)) (sym l.none);
  whose = l.asked.worker;
  slot = (let slot = l.asked.slot in let within = l.asked.within in omega (arith, slot, within, slots));
  apart = λ lane id out same. absurd (free_of_nobody old.outs request.id.slot l.none lane id out same);
  pages = λ few. absurd (omega (arith, few));
  beside = λ lane id out same. absurd (free_of_nobody old.outs request.id.slot l.none lane id out same);
  goes_on = λ asked bodies files b. steps.looks old new opener next number request asked bodies files l b;
}

pub decoded : OpenerSteps → (old new : CoreView) (opener next : Looking) → Decodes old opener next new → MakesStep old Opener reply.Worked new
decoded steps old new opener next d = record {
  keeps = inl (record {
    base = d.rest.base;
    outs = d.outs;
    phases = subst (λ p. AreGivenUp new.outs old.phases p) (sym d.phases) (same_phases new.outs old.phases);
    goes_on = λ asked bodies files b. steps.decodes old new opener next asked bodies files d b;
  });
  adds = inl (ap entries_of d.rest.items);
}

-- ---- its last step

-- the store is open
pub record IsAnew (old : CoreView) (opener : Looking) (found : Option ℕ) (new : CoreView) : Type 0 where
  pub base : new.base ≡ old.base
  pub items : new.items ≡ Told (Reopened found) ∷ old.items
  pub outs : new.outs ≡ old.outs
  pub none : old.outs ≡ nobody
  pub legal : IsLegal old.base (Reopened found ∷ history_of old)
  pub was : old.opener ≡ Some opener
  pub all : length opener.told ≡ opener.slots
  pub slots : opener.slots ≡ length old.phases
  pub closed : new.opener ≡ None
  pub count : length new.phases ≡ length old.phases

pub starts_anew : ReopenedIsBelieved → OpenerSteps → (old new : CoreView) (opener : Looking) (found : Option ℕ) → IsAnew old opener found new
    → ((files : List (List ℕ)) → Sees files None opener → length opener.told ≡ length files → new.phases ≡ map found_phase files)
    → ((files : List (List ℕ)) → Sees files None opener → length opener.told ≡ length files → (shown : Shown) → Shows files shown → shown_number shown ≡ found)
    → ((files : List (List ℕ)) → Sees files None opener → length opener.told ≡ length files → (shown : Shown) → Shows files shown → IsOpenAs new files)
    → MakesStep old Opener (reply.Reopened found) new
starts_anew reopened steps old new opener found a phases number opens = record {
  keeps = inr (record {
    base = a.base;
    outs = a.outs;
    none = λ worker id out. free_of_nobody old.outs id.slot a.none worker id out refl;
    count = a.count;
    refound = λ asked bodies files none b. (steps.refinds old opener asked bodies files a.was a.all none b).1;
    phases = λ asked bodies files none b left.
        let r = steps.refinds old opener asked bodies files a.was a.all none b in
        phases files r.0 (a.all ∙ sym r.0.count);
    believes = λ asked bodies files none b left.
        let r = steps.refinds old opener asked bodies files a.was a.all none b in
        reopened old new asked bodies files found none b left (record {
          base = a.base;
          items = a.items;
          legal = a.legal;
          number = number files r.0 (a.all ∙ sym r.0.count);
          phases = phases files r.0 (a.all ∙ sym r.0.count);
          outs = a.outs;
          opener = a.closed;
          open_as = opens files r.0 (a.all ∙ sym r.0.count);
        });
  });
  adds = (refl, ap entries_of a.items);
}

-- ---- outcomes

pub record IsAfter (old : CoreView) (made : Made) (new : CoreView) : Type 0 where
  pub rest : OnlyOpens old new
  pub alone : old.outs ≡ opener_alone made.request.id
  pub outs : new.outs ≡ nobody
  pub whose : made.request.id.worker ≡ Opener
  pub sure : Bool
  pub follows : FollowsOutcome old.phases made new.phases sure

phases_at : (old new : CoreView) (made : Made) → IsAfter old made new → (phase : Phase) → slice_get old.phases made.request.id.slot ≡ Some phase
    → new.phases ≡ phases_after old.phases made.request.id phase (is_done made.answer)
phases_at old new made a phase is = a.follows.phases ∙ ap (λ p. phases_after old.phases made.request.id p (is_done made.answer)) (same_Some a.follows.phase phase (sym a.follows.is ∙ is))

outs_after : (id : RequestId) (outs now : List (Option RequestId)) → outs ≡ opener_alone id → now ≡ nobody → now ≡ slice_set outs 2 None
outs_after id outs now alone none = none ∙ sym (ap (λ all. slice_set all 2 None) alone)

handed_after : (old new : CoreView) (made : Made) → IsAfter old made new → (phase : Phase) → Waits old.phases made.request.id phase → IsHandedToOpener old made phase new
handed_after old new made a phase waits = record { rest = a.rest; alone = a.alone; outs = a.outs; waits = waits; phases = phases_at old new made a phase waits.is }

-- it goes on, or ends with a failure
pub handed_on : OpenerSteps → (old new : CoreView) (made : Made) (opener next : Looking) → IsAfter old made new
    → ((phase : Phase) → IsHandedToOpener old made phase new → IsTaught old opener made phase next new) → HandedIn old 2 made reply.Worked new
handed_on steps old new made opener next a taught = record {
  base = a.rest.base;
  outs = outs_after made.request.id old.outs new.outs a.alone a.outs;
  count = a.follows.count;
  phases = λ phase waits. subst (λ p. AreGivenUp new.outs (phases_after old.phases made.request.id phase (is_done made.answer)) p)
      (sym (phases_at old new made a phase waits.is)) (same_phases new.outs (phases_after old.phases made.request.id phase (is_done made.answer)));
  goes_on = λ asked bodies files at told b.
      let covered = b.has.waiting 2 made.request at in
      steps.teaches old new opener next made covered.phase asked bodies files (taught covered.phase (handed_after old new made a covered.phase covered.waits)) at told b;
  adds = ap entries_of a.rest.items;
}

pub handed_failed : OpenerSteps → (old new : CoreView) (made : Made) (why : Refusal) → IsAfter old made new → new.opener ≡ None → HandedIn old 2 made (reply.Refused why) new
handed_failed steps old new made why a ended = record {
  base = a.rest.base;
  outs = outs_after made.request.id old.outs new.outs a.alone a.outs;
  count = a.follows.count;
  phases = λ phase waits. subst (λ p. AreGivenUp new.outs (phases_after old.phases made.request.id phase (is_done made.answer)) p)
      (sym (phases_at old new made a phase waits.is)) (same_phases new.outs (phases_after old.phases made.request.id phase (is_done made.answer)));
  goes_on = λ asked bodies files at told b.
      let covered = b.has.waiting 2 made.request at in
      steps.fails old new made covered.phase asked bodies files (handed_after old new made a covered.phase covered.waits) ended at b;
  adds = ap entries_of a.rest.items;
}

-- ---- the core as it is seen, in place of its fields

pub step_seen : (worker : Worker) (answer : Reply) (seen now new : CoreView) → seen ≡ now → MakesStep seen worker answer new → MakesStep now worker answer new
step_seen worker answer seen now new is makes = subst (λ old. MakesStep old worker answer new) is makes

pub hands_seen : (worker : Worker) (request : Asked) (seen now new : CoreView) → seen ≡ now → HandsOut seen worker request new → HandsOut now worker request new
hands_seen worker request seen now new is hands = subst (λ old. HandsOut old worker request new) is hands

pub stays_seen : (seen now new : CoreView) → seen ≡ now → Stays seen new → Stays now new
stays_seen seen now new is stays = subst (λ old. Stays old new) is stays

-- ---- the entry of an opener that begins

pub held_opened : (pending : Option ℕ) (running : Option Running) (opener : Option Looking) (next : Looking) (held now : ℕ) → now ≡ with_opening pending held
    → held ≡ held_for pending running opener → running ≡ None → opener ≡ None → now ≡ held_for pending running (Some next)
held_opened pending running opener next held now is was idle none =
    by_pending pending (is ∙ ap (with_opening pending) (was ∙ ap (λ r. held_for pending r opener) idle ∙ ap (held_for pending None) none))
    ∙ ap (λ r. held_for pending r (Some next)) (sym idle)
  where
    by_pending : (p : Option ℕ) → now ≡ with_opening p (held_for p None None) → now ≡ held_for p None (Some next)
    by_pending None all = all
    by_pending (Some n) all = all
