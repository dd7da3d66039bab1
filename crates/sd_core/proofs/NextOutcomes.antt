-- What follows of an outcome of the dumper, by its step: where the core is sound before it and after it.
use Rattle.std.proofs.Common.{◌≡◌, ℕ, suc, Bool, true, false, List, ◌∷◌, length, Option, Some, None, slice_get, slice_set, refl, sym, ◌∙◌, ap, subst, arith}
use Rattle.sd_command.specs.declared.refusal.Refusal.TheVariants.{StoreDown}
use Rattle.sd_command.specs.declared.reply.Reply.{Reply}
use Rattle.sd_command.specs.declared.reply.Reply.TheVariants as reply
use Rattle.sd_gate.specs.declared.phase.Phase.{Phase}
use Rattle.sd_gate.specs.declared.request_id.RequestId.{RequestId}
use Rattle.sd_gate.specs.declared.worker.Worker.TheVariants.{Dumper}
use Rattle.sd_gate.specs.Calls.{is_done}
use Rattle.sd_gate.specs.Phases.{after, phases_after}
use Rattle.sd_gate.specs.Requests.{Asked, Made}
use Rattle.sd_journal.specs.declared.entry.Entry.TheVariants.{Acked}
use Rattle.sd_journal.specs.History.{pending}
use Rattle.sd_journal.specs.Marked.{Told}
use Rattle.sd_journal.specs.TrackedLaws.{MustDumpLaws, TrackedLaws}
use Rattle.sd_pagetable.specs.Law.{PlainLaw}
use Rattle.sd_rounds.specs.Dumper.{Running, after_pre_dump}
use Rattle.sd_rounds.specs.LittleWork.{LittleLaws}
use Rattle.sd_rounds.specs.Sound.{HasSoundImage}
use Rattle.sd_crash_safety.specs.Calls.{HandedIn, IsOut}
use Rattle.sd_crash_safety.specs.DumperOutcomes.{DumperOutcomes, closes_for_sure}
use Rattle.sd_crash_safety.specs.declared.standing.Standing.TheVariants.{Down}
use Rattle.sd_crash_safety.specs.View.{CoreView, history_of}
use Rattle.sd_core.specs.Counted.{counted_by_outcome}
use Rattle.sd_core.specs.Kept.{KeepsEach}
use Rattle.sd_core.specs.LittleWork.{IsLittleDump, IsLittlePreDump, OpensPreDump}
use Rattle.sd_core.specs.Next.{Acknowledges, GoesDown, HandsIt, ImageGoesOn, NextByDumpersOutcome, PreDumpOpens, acknowledges, goes_down, goes_on, opens}
use Rattle.sd_core.specs.Rounds.{OpensItsGate, SameRound, TurnsRound}
use Rattle.sd_core.specs.Sound.{Parts, held_for}
use Rattle.sd_core.specs.SoundView.{IsSoundView, parts_in}
use Rattle.sd_core.proofs.HandsDump.{GoesOn, HandsDump, OpensDump, acked_core, dump_gates, dump_handed, dump_little, goes_on_handed, goes_on_same, keeps_entered, handed_as, handed_core, has, its_outcome, pre_dump_gates, pre_dump_handed, pre_dump_little, work}
use Rattle.sd_core.proofs.CoreParts.{seen_of}
use Rattle.sd_core.proofs.LaneLemmas.{same_lane}
use Rattle.sd_core.proofs.OthersLemmas.{keeps_left, keeps_same}
use Rattle.sd_core.proofs.RoundLemmas.{ends_opens, next_turns, none_opens, none_turns, turns_same}

-- each case of it, for whatever is said of an answer and the core after it
pub by_outcome : (P : Reply → CoreView → Type 0) (old : CoreView) (made : Made) (answer : Reply) (new : CoreView)
    → (ImageGoesOn old made new → P reply.Worked new) → (PreDumpOpens old made new → P reply.Worked new)
    → ((n : ℕ) → Acknowledges old made n new → P (reply.Acked n) new)
    → ((it : HandsIt old made) → GoesDown old made it.lane it.phase (counted_by_outcome old Dumper) new → P (reply.Refused StoreDown) new)
    → NextByDumpersOutcome old made answer new → P answer new
by_outcome P old made answer new a b c d (goes_on is step) = subst (λ r. P r new) (sym is) (a step)
by_outcome P old made answer new a b c d (opens is step) = subst (λ r. P r new) (sym is) (b step)
by_outcome P old made answer new a b c d (acknowledges n is step) = subst (λ r. P r new) (sym is) (c n step)
by_outcome P old made answer new a b c d (goes_down is it step) = subst (λ r. P r new) (sym is) (d it step)

set_count : (phases : List Phase) (slot : ℕ) (phase : Phase) → length (slice_set phases slot phase) ≡ length phases
set_count (p ∷ phases) (suc slot) phase = ap suc (set_count phases slot phase)
set_count _ _ phase = refl

pub count_stays : (phases : List Phase) (id : RequestId) (phase : Phase) (done : Bool) → length (phases_after phases id phase done) ≡ length phases
count_stays phases id phase done = set_count phases id.slot (after phase id.call done)

-- an answer by its name
named : (old new : CoreView) (lane : ℕ) (made : Made) (m n : ℕ) → m ≡ n → HandedIn old lane made (reply.Acked m) new → HandedIn old lane made (reply.Acked n) new
named old new lane made m n same h = subst (λ k. HandedIn old lane made (reply.Acked k) new) same h

renamed : (old new : CoreView) (lane : ℕ) (request : Asked) (m n : ℕ) → m ≡ n → OpensItsGate old lane request (reply.Acked m) new → OpensItsGate old lane request (reply.Acked n) new
renamed old new lane request m n same h = subst (λ k. OpensItsGate old lane request (reply.Acked k) new) same h

-- no image enters
no_more : (running : Running) (old new : CoreView) → SameRound old.dumper.running new.dumper.running → OpensPreDump running old new → ⊥
no_more running old new same one = grind arith

none_more : (running : Running) (old new : CoreView) → new.dumper.running ≡ None → OpensPreDump running old new → ⊥
none_more running old new none one = grind arith

seen_running : (old new : CoreView) (next : Option Running) → new.dumper.running ≡ next → SameRound old.dumper.running next → SameRound old.dumper.running new.dumper.running
seen_running old new next is same = subst (SameRound old.dumper.running) (sym is) same

module _ (old : CoreView) (sound : IsSoundView old) (made : Made) where
  -- what is known at each
  abbrev pub known : (it : HandsIt old made) → HandsDump (parts_in old sound.room) old it.lane made (phases_after old.phases made.request.id it.phase (is_done made.answer))
      (slice_set old.outs it.lane None) (closes_for_sure it.phase made.request.id.call) it.running it.image
  known it = record {
    sound = sound.is;
    seen_is = refl;
    out = it.out;
    whose = it.whose;
    was = it.was;
    making = it.making;
    orders = sound.orders;
    images = sound.images;
    follows = record { phase = it.phase; is = it.phase_is; count = count_stays old.phases made.request.id it.phase (is_done made.answer); phases = refl; closes = refl };
    outs_are = refl;
  }

  module _ (new : CoreView) (after : IsSoundView new) where
    abbrev pub more : (g : ImageGoesOn old made new)
        → GoesOn (parts_in old sound.room) old g.it.lane made (phases_after old.phases made.request.id g.it.phase (is_done made.answer)) (slice_set old.outs g.it.lane None) g.places
        (record { running = Some (record g.it.running { image = Some g.next }); since_freeze = counted_by_outcome old Dumper })
    more g = record {
      closed = closes_for_sure g.it.phase made.request.id.call;
      running = g.it.running;
      image = g.it.image;
      next = g.next;
      hands = known g.it;
      goes = g.goes;
      is = refl;
      images = subst (λ (v : CoreView). HasSoundImage v.dumper.running) g.new_is after.images;
      leaves = g.leaves;
    }

    abbrev pub pre_dump : (o : PreDumpOpens old made new)
        → OpensDump (parts_in old sound.room) old o.it.lane made (phases_after old.phases made.request.id o.it.phase (is_done made.answer)) (slice_set old.outs o.it.lane None) o.places
        (record { running = Some (after_pre_dump o.it.running o.image); since_freeze = counted_by_outcome old Dumper }) o.image false
    pre_dump o = record {
      closed = closes_for_sure o.it.phase made.request.id.call;
      running = o.it.running;
      image = o.it.image;
      hands = known o.it;
      opens = o.opens;
      last_is = o.more;
      is = refl;
      changes = o.enters;
    }

    abbrev pub dump : (n : ℕ) (o : Acknowledges old made n new)
        → OpensDump (parts_in old sound.room) old o.it.lane made (phases_after old.phases made.request.id o.it.phase (is_done made.answer)) (slice_set old.outs o.it.lane None) o.places
        (record { running = None; since_freeze = counted_by_outcome old Dumper }) o.image true
    dump n o = record {
      closed = closes_for_sure o.it.phase made.request.id.call;
      running = o.it.running;
      image = o.it.image;
      hands = known o.it;
      opens = o.opens;
      last_is = o.dump;
      is = refl;
      changes = o.enters;
    }

    -- one image more of the checkpoint is open, or none
    pub rounds : (answer : Reply) → NextByDumpersOutcome old made answer new → TurnsRound old.dumper.running new.dumper.running new.catalog
    rounds answer = by_outcome (λ a v. TurnsRound old.dumper.running v.dumper.running v.catalog) old made answer new
        (λ g. subst (λ (v : CoreView). TurnsRound old.dumper.running v.dumper.running v.catalog) (sym g.new_is) (turns_same old.dumper.running (Some (record g.it.running { image = Some g.next })) g.places (goes_on_same (more g))))
        (λ o. subst (λ (v : CoreView). TurnsRound old.dumper.running v.dumper.running v.catalog) (sym o.new_is)
        (next_turns old.dumper.running (Some (after_pre_dump o.it.running o.image)) o.places o.it.running (after_pre_dump o.it.running o.image) o.it.was refl (record { job = refl; opened = refl; image = record { slot = o.image.slot; header = o.image.header; spaces = o.image.table }; has = has (pre_dump o); parent = refl })))
        (λ n o. subst (λ (v : CoreView). TurnsRound old.dumper.running v.dumper.running v.catalog) (sym o.new_is) (none_turns old.dumper.running None o.places refl))
        (λ it d. subst (λ (v : CoreView). TurnsRound old.dumper.running v.dumper.running v.catalog) (sym d.new_is) (none_turns old.dumper.running None old.catalog refl))

    -- the core after a call that failed
    abbrev down : HandsIt old made → Parts
    down it = record (parts_in old sound.room) {
      journal = record { first = old.base.folded; items = old.items; held = held_for (pending (history_of old)) None old.opener; limit = old.limit; room = 0; mark_room = 0 };
      standing = Down;
      phases = phases_after old.phases made.request.id it.phase (is_done made.answer);
      outs = slice_set old.outs it.lane None;
      dumper = record { running = None; since_freeze = counted_by_outcome old Dumper };
      merger = None;
    }

    down_handed : DumperOutcomes → (it : HandsIt old made) → HandedIn old it.lane made (reply.Refused StoreDown) (seen_of (down it))
    down_handed laws it =
        let outcome = its_outcome (known it) (down it) it.lane refl refl refl refl refl refl in
        handed_as (known it) (down it) it.lane (reply.Refused StoreDown) refl outcome
        (λ asked bodies files. laws.fails _ _ it.lane made it.phase asked bodies files (record { outcome = outcome; history = refl; down = refl; committing = refl })) refl

    -- what is believed of the store stays
    pub believed : DumperOutcomes → TrackedLaws → (answer : Reply) → NextByDumpersOutcome old made answer new → (lane : ℕ) × (slice_get old.outs lane ≡ Some (Some made.request.id)) × HandedIn old lane made answer new
    believed laws tracked answer = by_outcome (λ a v. (lane : ℕ) × (slice_get old.outs lane ≡ Some (Some made.request.id)) × HandedIn old lane made a v) old made answer new
        (λ g. (g.it.lane, g.it.out, subst (HandedIn old g.it.lane made reply.Worked) (sym g.new_is) (goes_on_handed (more g) laws)))
        (λ o. (o.it.lane, o.it.out, subst (HandedIn old o.it.lane made reply.Worked) (sym o.new_is) (pre_dump_handed (pre_dump o) laws)))
        (λ n o.
        let begun : old.numbers.begun ≡ n = sym (work (known o.it)).number ∙ sym o.number in (
          o.it.lane,
          o.it.out,
          subst (HandedIn old o.it.lane made (reply.Acked n)) (sym o.new_is)
              (named old (seen_of (acked_core (handed_core (parts_in old sound.room) (phases_after old.phases made.request.id o.it.phase (is_done made.answer)) (slice_set old.outs o.it.lane None) o.places
              (record { running = None; since_freeze = counted_by_outcome old Dumper })) (record { first = old.base.folded; items = Told (Acked n) ∷ old.items; held = 0; limit = old.limit; room = 0; mark_room = 0 })))
              o.it.lane made old.numbers.begun n begun
              (dump_handed (dump n o) laws tracked (record { first = old.base.folded; items = Told (Acked n) ∷ old.items; held = 0; limit = old.limit; room = 0; mark_room = 0 })
              (ap (λ m. Told (Acked m) ∷ old.items) (sym begun)))),
        ))
        (λ it d. (it.lane, it.out, subst (HandedIn old it.lane made (reply.Refused StoreDown)) (sym d.new_is) (down_handed laws it)))

    -- a pre-dump has no pages but those that its visits found touched
    pub round : LittleLaws → (answer : Reply) → NextByDumpersOutcome old made answer new → (running : Running) → OpensPreDump running old new → IsLittlePreDump running old new
    round laws answer step running = by_outcome (λ a v. OpensPreDump running old v → IsLittlePreDump running old v) old made answer new
        (λ g one. absurd (no_more running old new (seen_running old new _ (ap (λ (v : CoreView). v.dumper.running) g.new_is) (goes_on_same (more g))) one))
        (λ o. subst (λ v. OpensPreDump running old v → IsLittlePreDump running old v) (sym o.new_is) (pre_dump_little (pre_dump o) laws running))
        (λ n o one. absurd (none_more running old new (ap (λ (v : CoreView). v.dumper.running) o.new_is) one))
        (λ it d one. absurd (none_more running old new (ap (λ (v : CoreView). v.dumper.running) d.new_is) one)) step

    same_number : (n m : ℕ) → reply.Acked n ≡ reply.Acked m → n ≡ m
    same_number n m is = cc

    not_acked : (n : ℕ) → reply.Worked ≡ reply.Acked n → ⊥
    not_acked n is = cc

    not_told : (n : ℕ) → reply.Refused StoreDown ≡ reply.Acked n → ⊥
    not_told n is = cc

    -- the dump has exactly the pages that must be dumped
    pub little : LittleLaws → PlainLaw → MustDumpLaws → (answer : Reply) → NextByDumpersOutcome old made answer new → (n : ℕ) → answer ≡ reply.Acked n → IsLittleDump n old new
    little laws plain due answer step n = by_outcome (λ a v. a ≡ reply.Acked n → IsLittleDump n old v) old made answer new
        (λ g is. absurd (not_acked n is))
        (λ o is. absurd (not_acked n is))
        (λ m o is. subst (λ v. IsLittleDump n old v) (sym o.new_is)
        (dump_little (dump m o) laws plain due (record { first = old.base.folded; items = Told (Acked m) ∷ old.items; held = 0; limit = old.limit; room = 0; mark_room = 0 }) n
        (sym (work (known o.it)).number ∙ sym o.number ∙ same_number m n is)))
        (λ it d is. absurd (not_told n is)) step

    -- where an image enters, the gate of its slot is open
    pub gates : DumperOutcomes → (answer : Reply) → NextByDumpersOutcome old made answer new → (lane : ℕ) × (slice_get old.outs lane ≡ Some (Some made.request.id)) × OpensItsGate old lane made.request answer new
    gates laws answer = by_outcome (λ a v. (lane : ℕ) × (slice_get old.outs lane ≡ Some (Some made.request.id)) × OpensItsGate old lane made.request a v) old made answer new
        (λ g. (
          g.it.lane,
          g.it.out,
          λ running asked bodies files enters at b. absurd (none_opens running old new reply.Worked not_acked
              (seen_running old new _ (ap (λ (v : CoreView). v.dumper.running) g.new_is) (goes_on_same (more g))) enters),
        ))
        (λ o. (o.it.lane, o.it.out, subst (OpensItsGate old o.it.lane made.request reply.Worked) (sym o.new_is) (pre_dump_gates (pre_dump o) laws)))
        (λ n o. (
          o.it.lane,
          o.it.out,
          subst (OpensItsGate old o.it.lane made.request (reply.Acked n)) (sym o.new_is)
              (renamed old _ o.it.lane made.request old.numbers.begun n (sym (work (known o.it)).number ∙ sym o.number)
              (dump_gates (dump n o) laws (record { first = old.base.folded; items = Told (Acked n) ∷ old.items; held = 0; limit = old.limit; room = 0; mark_room = 0 }))),
        ))
        (λ it d. (it.lane, it.out, λ running asked bodies files enters at b. absurd (ends_opens running old new (reply.Refused StoreDown) not_told (ap (λ (v : CoreView). v.dumper.running) d.new_is) enters)))

    -- of the request that is out, in whichever lane it was found
    abbrev lane_of : (lane : ℕ) → slice_get old.outs lane ≡ Some (Some made.request.id) → (out : IsOut old made.request.id) → lane ≡ out.lane
    lane_of lane is out = same_lane (parts_in old sound.room) lane out.lane made.request.id sound.is is out.is

    pub handed_out : DumperOutcomes → TrackedLaws → (answer : Reply) → NextByDumpersOutcome old made answer new → (out : IsOut old made.request.id) → HandedIn old out.lane made answer new
    handed_out laws tracked answer step out =
        let h = believed laws tracked answer step in
        subst (λ lane. HandedIn old lane made answer new) (lane_of h.0 h.1 out) h.2

    pub gates_out : DumperOutcomes → (answer : Reply) → NextByDumpersOutcome old made answer new → (out : IsOut old made.request.id) → OpensItsGate old out.lane made.request answer new
    gates_out laws answer step out =
        let h = gates laws answer step in
        subst (λ lane. OpensItsGate old lane made.request answer new) (lane_of h.0 h.1 out) h.2

    -- no image changes under its serial
    pub images : (answer : Reply) → NextByDumpersOutcome old made answer new → KeepsEach old.catalog new.catalog
    images answer = by_outcome (λ a v. KeepsEach old.catalog v.catalog) old made answer new
        (λ g. subst (λ (v : CoreView). KeepsEach old.catalog v.catalog) (sym g.new_is) (keeps_left (closes_for_sure g.it.phase made.request.id.call) made.request.id.slot old.catalog g.places g.leaves))
        (λ o. subst (λ (v : CoreView). KeepsEach old.catalog v.catalog) (sym o.new_is) (keeps_entered (pre_dump o)))
        (λ n o. subst (λ (v : CoreView). KeepsEach old.catalog v.catalog) (sym o.new_is) (keeps_entered (dump n o)))
        (λ it d. subst (λ (v : CoreView). KeepsEach old.catalog v.catalog) (sym d.new_is) (keeps_same old.catalog old.catalog refl))
