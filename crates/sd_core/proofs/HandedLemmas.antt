-- The outcomes of a merger's calls, and of those that come late.
use Rattle.std.proofs.Common.{◌≡◌, ◌≢◌, ◌⊎◌, ℕ, Bool, true, false, List, ◌∷◌, length, is_none, Option, Some, None, slice_get, slice_set, refl, sym, ◌∙◌, ap, subst, arith}
use Rattle.std.proofs.lemmas.Option.{same_Some}
use Rattle.std.proofs.lemmas.Bool.{and_parts}
use Rattle.sd_chain.specs.Catalog.{Places}
use Rattle.sd_command.specs.declared.refusal.Refusal.TheVariants.{StoreDown}
use Rattle.sd_command.specs.declared.reply.Reply.{Reply}
use Rattle.sd_command.specs.declared.reply.Reply.TheVariants as reply
use Rattle.sd_gate.specs.declared.call.Call.{Call}
use Rattle.sd_gate.specs.declared.call.Call.TheVariants as call
use Rattle.sd_gate.specs.declared.phase.Phase.{Phase}
use Rattle.sd_gate.specs.declared.request_id.RequestId.{RequestId}
use Rattle.sd_gate.specs.declared.worker.Worker.{Worker}
use Rattle.sd_gate.specs.declared.worker.Worker.TheVariants.{Dumper, Merger, Opener}
use Rattle.sd_gate.specs.Calls.{is_done}
use Rattle.sd_gate.specs.Phases.{phases_after}
use Rattle.sd_gate.specs.Requests.{Made}
use Rattle.sd_opener.specs.Looking.{Looking}
use Rattle.sd_rounds.specs.Writes.{no_writes}
use Rattle.sd_crash_safety.specs.declared.standing.Standing.{Standing}
use Rattle.sd_crash_safety.specs.declared.standing.Standing.TheVariants.{NotOpen, Open, Down}
use Rattle.sd_crash_safety.specs.Calls.{AddsByOutcome, AreGivenUp, HandedIn}
use Rattle.sd_crash_safety.specs.DumperOutcomes.{DumperOutcomes, IsDumpersOutcome, closes_for_sure, is_being_closed, is_sync}
use Rattle.sd_crash_safety.specs.MergerOutcomes.{IsMergersOutcome, MergerOutcomes, OutcomeIsBelieved}
use Rattle.sd_crash_safety.specs.View.{CoreView, history_of}
use Rattle.sd_core.specs.Refusals.{is_idle}
use Rattle.sd_core.specs.Sound.{AreInPages, IsCore, Parts, worker_of_lane}
use Rattle.sd_core.specs.Following.{FollowsOutcome}
use Rattle.sd_core.proofs.ApplyLemmas.{same_phases}
use Rattle.sd_core.proofs.CoreParts.{seen_of}
use Rattle.sd_core.proofs.FallenLemmas.{apart_after}
use Rattle.sd_core.proofs.OutcomeLemmas.{handed_dumper}
use Rattle.sd_core.proofs.OutsLemmas.{nobody_out}

-- ---- the merger's

pub handed_merger : (old new : CoreView) (made : Made) (phase : Phase) (answer : Reply) → IsMergersOutcome old made phase new → new.base ≡ old.base
    → length new.phases ≡ length old.phases → OutcomeIsBelieved old new made → AddsByOutcome made.request.id.worker answer (history_of old) (history_of new) → HandedIn old 1 made answer new
handed_merger old new made phase answer o base count goes adds = record {
  base = base;
  outs = o.outs;
  count = count;
  phases = λ other waits.
      let same : phase ≡ other = same_Some phase other (sym o.phase_is ∙ waits.is) in
      let now = o.phases ∙ ap (λ p. phases_after old.phases made.request.id p (is_done made.answer)) same in
      subst (λ p. AreGivenUp new.outs (phases_after old.phases made.request.id other (is_done made.answer)) p) (sym now)
      (same_phases new.outs (phases_after old.phases made.request.id other (is_done made.answer)));
  goes_on = λ asked bodies files at told b. goes asked bodies files at told b;
  adds = adds;
}

-- a call that closes a slot for sure is a sync
pub sync_of : (phase : Phase) (one : Call) → closes_for_sure phase one ≡ true → one ≡ call.Sync
sync_of phase one is = by one ((and_parts (is_being_closed phase) (is_sync one) is).1)
  where
    by : (one : Call) → is_sync one ≡ true → one ≡ call.Sync
    by call.Sync e = refl
    by _ e = absurd (let no : false ≡ true = e in cc)

-- ---- one whose job has ended

pub record IsLate (core : Parts) (id : RequestId) : Type 0 where
  pub down : core.standing ≡ Down
  pub closed : core.opener ≡ None
  pub other : id.worker ≢ Opener

none_is : {X : Type 0} (one : Option X) → is_none one ≡ true → one ≡ None
none_is one e = grind arith

-- what is so of the worker whose job has ended
idle_one : (core : Parts) (worker : Worker) → is_idle (seen_of core) worker ≡ true
    → ((worker ≡ Dumper) × (core.dumper.running ≡ None)) ⊎ (((worker ≡ Merger) × (core.merger ≡ None)) ⊎ ((worker ≡ Opener) × (core.opener ≡ None)))
idle_one core worker is = grind arith

pub is_late : (core : Parts) (lane : ℕ) (id : RequestId) → IsCore core → slice_get core.outs lane ≡ Some (Some id) → is_idle (seen_of core) id.worker ≡ true → IsLate core id
is_late core lane id sound out ended = record { down = stands core.standing refl; closed = none; other = other }
  where
    idle : ((id.worker ≡ Dumper) × (core.dumper.running ≡ None)) ⊎ (((id.worker ≡ Merger) × (core.merger ≡ None)) ⊎ ((id.worker ≡ Opener) × (core.opener ≡ None)))
    idle = idle_one core id.worker ended

    whose : id.worker ≡ worker_of_lane lane
    whose = sound.outs_are.whose lane id out

    not_dumper : id.worker ≡ Merger → id.worker ≡ Dumper → ⊥
    not_dumper one other = (let no : Merger ≡ Dumper = sym one ∙ other in cc)

    not_opener : id.worker ≡ Opener → id.worker ≡ Dumper → ⊥
    not_opener one other = (let no : Opener ≡ Dumper = sym one ∙ other in cc)

    opener_merger : id.worker ≡ Opener → id.worker ≡ Merger → ⊥
    opener_merger one other = (let no : Opener ≡ Merger = sym one ∙ other in cc)

    -- one that is out while an opener runs is its own
    in_opener : (o : Option RequestId) (at : ℕ) → slice_get (None ∷ None ∷ o ∷ no_writes) at ≡ Some (Some id) → worker_of_lane at ≡ Opener
    in_opener o at e = grind arith

    no_opener : (o : Option Looking) → core.opener ≡ o → core.opener ≡ None
    no_opener o is = grind arith

    none : core.opener ≡ None
    none = no_opener core.opener refl

    other : id.worker ≢ Opener
    other same = grind arith

    not_open : core.standing ≡ Open → ⊥
    not_open is = grind arith

    nobody : core.standing ≡ NotOpen → ⊥
    nobody is = nobody_out lane id (ap (λ all. slice_get all lane) (sym (sound.outs_are.none is none)) ∙ out)

    stands : (st : Standing) → core.standing ≡ st → core.standing ≡ Down
    stands NotOpen is = absurd (nobody is)
    stands Open is = absurd (not_open is)
    stands Down is = is

pub merger_lane : (lane : ℕ) → worker_of_lane lane ≡ Merger → lane ≡ 1
merger_lane lane is = grind arith

pub opener_lane : (lane : ℕ) → worker_of_lane lane ≡ Opener → lane ≡ 2
opener_lane lane is = grind arith

-- nothing but the request and its slot's phase changes
pub handed_late : DumperOutcomes → {places : Places} → MergerOutcomes places → (core : Parts) (lane : ℕ) (made : Made) (phases : List Phase) (outs : List (Option RequestId)) (closed : Bool) → IsCore core
    → IsLate core made.request.id → slice_get core.outs lane ≡ Some (Some made.request.id) → outs ≡ slice_set core.outs lane None → FollowsOutcome core.phases made phases closed
    → HandedIn (seen_of core) lane made (reply.Refused StoreDown) (seen_of (record core { phases = phases; outs = outs }))
handed_late dumper merges core lane made phases outs closed sound late own are n = by made.request.id.worker refl
  where
    apart : (at : ℕ) (id : RequestId) → slice_get (slice_set core.outs lane None) at ≡ Some (Some id) → id.slot ≡ made.request.id.slot → AreInPages lane at made.request.id id
    apart = apart_after core.standing core.outs core.phases core.dumper.running core.merger core.opener lane made.request.id sound.outs_are own

    by : (worker : Worker) → made.request.id.worker ≡ worker → HandedIn (seen_of core) lane made (reply.Refused StoreDown) (seen_of (record core { phases = phases; outs = outs }))
    by Dumper is =
        let outcome : IsDumpersOutcome (seen_of core) lane made n.phase (seen_of (record core { phases = phases; outs = outs })) = record {
          base = refl;
          closed = late.closed;
          memory = refl;
          out = own;
          outs = are;
          apart = λ at id out same. (apart at id out same).are;
          phase_is = n.is;
          phases = n.phases;
        } in
        handed_dumper _ _ lane made n.phase (reply.Refused StoreDown) outcome n.count
        (λ asked bodies files. dumper.fails _ _ lane made n.phase asked bodies files (record { outcome = outcome; history = refl; down = late.down; committing = refl })) refl
    by Merger is =
        let one : lane ≡ 1 = merger_lane lane (sym (sound.outs_are.whose lane made.request.id own) ∙ is) in
        let outcome : IsMergersOutcome (seen_of core) made n.phase (seen_of (record core { phases = phases; outs = outs })) = record {
          out = ap (slice_get core.outs) (sym one) ∙ own;
          outs = are ∙ ap (λ k. slice_set core.outs k None) one;
          apart = λ at id out same. (let far = (apart at id (ap (λ k. slice_get (slice_set core.outs k None) at) one ∙ out) same).first in omega (arith, far, one));
          phase_is = n.is;
          phases = n.phases;
        } in
        subst (λ k. HandedIn (seen_of core) k made (reply.Refused StoreDown) (seen_of (record core { phases = phases; outs = outs }))) (sym one)
        (handed_merger _ _ made n.phase (reply.Refused StoreDown) outcome refl n.count
        (merges.fails _ _ made n.phase (record { outcome = outcome; base = refl; history = refl; closed = late.closed; down = late.down; committing = refl })) refl)
    by Opener is = absurd (late.other is)
