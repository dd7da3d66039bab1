-- What a core believes stays through the steps of its opener.
use Rattle.std.proofs.Common.{◌≡◌, ◌≢◌, ◌⊎◌, ℕ, zero, suc, ◌<◌, true, List, [], ◌∷◌, length, map, Option, Some, None, IfSome, slice_get, slice_index_or, slice_set, refl, sym, ◌∙◌, ap, subst, inl, inr, arith}
use Rattle.std.proofs.lemmas.Bool.{cases_eq}
use Rattle.std.proofs.lemmas.Option.{same_Some, slice_get-get_or, slice_get_within}
use Rattle.sd_disk.specs.Contents.{file_at}
use Rattle.sd_gate.specs.declared.call.Call.{Call}
use Rattle.sd_gate.specs.declared.call.Call.TheVariants.{Len, Close, Open, Sync}
use Rattle.sd_gate.specs.declared.phase.Phase.{Phase}
use Rattle.sd_gate.specs.declared.phase.Phase.TheVariants.{Raw}
use Rattle.sd_gate.specs.Calls.{IsLook, is_done}
use Rattle.sd_gate.specs.Looks.{IsCallAt, Look, calls_left_after}
use Rattle.sd_gate.specs.Phases.{after, bodies_after, given_up, is_ready, phases_after, synced}
use Rattle.sd_gate.specs.Plans.{Planned}
use Rattle.sd_gate.specs.Requests.{Asked, Made}
use Rattle.sd_gate.specs.Sequences.{Calls, first_looks}
use Rattle.sd_store_laws.specs.GateSteps.{GivenUpSyncs}
use Rattle.sd_opener.specs.declared.stage.Stage.{Stage}
use Rattle.sd_opener.specs.declared.stage.Stage.TheVariants.{Asking}
use Rattle.sd_opener.specs.Looking.{IsAtNext, Looking, OpenerAsks}
use Rattle.sd_opener.specs.Sees.{IsLookOf, Sees, SeesSlot}
use Rattle.sd_crash_safety.specs.declared.standing.Standing.TheVariants as standing
use Rattle.sd_crash_safety.specs.Believes.{Believes, HasStore}
use Rattle.sd_crash_safety.specs.Calls.{NoneOut, WasLookedAt}
use Rattle.sd_crash_safety.specs.LiveImages.{ids_of}
use Rattle.sd_crash_safety.specs.Knows.{AreLooks, HasSynced, IsPastSync, IsRefound, Knows, SeesStore}
use Rattle.sd_crash_safety.specs.OpenerSteps.{Decodes, GivesUpOpening, IsHandedToOpener, IsTaught, LooksOn, OnlyOpens, OpenerSteps, Reopens, opener_alone}
use Rattle.sd_crash_safety.specs.StoreSteps.{IsOutcomeOf, MayAsk, QuietSteps}
use Rattle.sd_crash_safety.specs.View.{CoreView, history_of}
use Rattle.sd_rounds.specs.Writes.{no_writes}
use Rattle.sd_rounds.proofs.WriteLemmas.{none_at as nobody_writes}
use Rattle.sd_store_laws.proofs.SlotSteps.{set_other}
use Rattle.sd_crash_safety.proofs.Places.{free_there, id_there, ids_set, nobody_out, set_count, set_same}

-- ---- phases

-- a slot that was synced is found so, also when it is synced again
synced_is_found : (phase : Phase) → IsRefound (synced phase) → IsRefound (synced (synced phase))
synced_is_found phase is = grind arith

-- a call that looks leaves the phase, but for a sync
after_look : (phase : Phase) (call : Call) → IsLook call → (after phase call true ≡ phase) ⊎ (after phase call true ≡ synced phase)
after_look phase call look = grind arith

after_is_found : (phase : Phase) (call : Call) → IsLook call → IsRefound (synced phase) → (call ≢ Sync → IsRefound phase) → IsRefound (after phase call true)
after_is_found phase call look syncs other = grind arith

after_syncs : (phase : Phase) (call : Call) → IsLook call → IsRefound (synced phase) → IsRefound (synced (after phase call true))
after_syncs phase call look syncs = grind arith

look_is_ready : (phase : Phase) (call : Call) → IsLook call → is_ready phase call ≡ true
look_is_ready phase call look = grind arith

look_opens_none : (call : Call) → IsLook call → call ≢ Open
look_opens_none call look same = subst IsLook same look

look_closes_none : (call : Call) → IsLook call → call ≢ Close
look_closes_none call look same = subst IsLook same look

-- ---- the call that is out

is_look_at : (look : Look) (call : Call) (count : ℕ) → IsCallAt look call count → IsLook call
is_look_at look call count is = grind arith

behind_is_less : (look : Look) → calls_left_after look ≢ first_looks
behind_is_less look is = grind arith

pub record IsLooking (slot : ℕ) (request : Asked) (stage : Stage) : Type 0 where
  pub look : IsLook request.id.call
  pub on : request.id.slot ≡ slot
  pub past : request.id.call ≢ Sync → IsPastSync stage

looks_out : (slot : ℕ) (file : List ℕ) (request : Asked) (stage : Stage) → SeesSlot slot file (Some request) stage → IsLooking slot request stage
looks_out slot file request stage given = grind arith

-- ---- what is believed of the store

-- the same beliefs, in another core
moved : (old new : CoreView) (phases : List Phase) (asked : List (Option Asked)) (bodies : List (List ℕ)) (files : List (List ℕ)) (b : Believes old asked bodies files)
    (requests : List (Option Asked)) (then : List (List ℕ)) → OnlyOpens old new → new.phases ≡ phases
    → HasStore old.base (history_of old) phases requests then b.store b.dump b.beliefs → Knows new requests then files b.store b.dump b.beliefs
    → Believes new requests then files
moved old new phases asked bodies files b requests then rest same has knows = grind arith

-- the store isn't open
not_open : (old new : CoreView) → OnlyOpens old new → new.standing ≡ standing.Open → ⊥
not_open old new rest is = rest.closed (sym rest.standing ∙ is)

none_looks : (asked : List (Option Asked)) → NoneOut asked → AreLooks asked
none_looks asked none worker request out = absurd (none worker request out)

-- ---- an opener begins

given_up_count : (phases : List Phase) → length (map given_up phases) ≡ length phases
given_up_count [] = refl
given_up_count (p ∷ phases) = ap suc (given_up_count phases)

pub given_up_at : (phases : List Phase) (slot : ℕ) (phase : Phase) → slice_get (map given_up phases) slot ≡ Some phase
    → (was : Phase) × (slice_get phases slot ≡ Some was) × (phase ≡ given_up was)
given_up_at [] slot phase is = absurd cc
given_up_at (p ∷ phases) zero phase is = (p, refl, first is)
  where
    first : Some (given_up p) ≡ Some phase → phase ≡ given_up p
    first e = cc
given_up_at (p ∷ phases) (suc slot) phase is = given_up_at phases slot phase is

pub reopens_lem : QuietSteps → GivenUpSyncs → (old new : CoreView) (opener : Looking) (asked : List (Option Asked)) (bodies files : List (List ℕ))
    → Reopens old opener new → Believes old asked bodies files → Believes new asked bodies files
reopens_lem quiet syncs old new opener asked bodies files r b =
    let none = nobody_out asked (b.knows.out ∙ r.none) in
    let count : length files ≡ length new.phases = b.knows.count ∙ sym (ap length r.phases ∙ given_up_count old.phases) in
    moved old new (map given_up old.phases) asked bodies files b asked bodies r.rest r.phases
    (quiet.given_up old.base (history_of old) old.phases (map given_up old.phases) asked bodies b.store b.dump b.beliefs
    (record {
      count = given_up_count old.phases;
      each = λ slot phase at.
          let was = given_up_at old.phases slot phase at in
          (was.0, was.1, inr (was.2, λ worker request out same. none worker request out));
    }) b.has)
    (record {
      count = count;
      out = b.knows.out ∙ sym r.outs;
      sees = subst (λ o. IfSome o (SeesStore files new.phases asked)) (sym r.is) (record {
        looks = none_looks asked none;
        request = None;
        own = free_there asked 2 (ap (λ ids. slice_get ids 2) (b.knows.out ∙ r.none));
        sees = r.sees files (b.knows.count ∙ sym r.slots);
        syncs = λ slot phase at.
            let was = given_up_at old.phases slot phase (ap (λ p. slice_get p slot) (sym r.phases) ∙ at) in
            subst (λ p. IsRefound (synced p)) (sym was.2) (syncs was.0);
        told = λ slot phase at below. absurd (let few : slot < 0 = subst (λ t. slot < length t) r.told below in omega (arith, few));
        current = λ past. absurd (HasSynced.asked (subst IsPastSync r.stage past) refl);
      });
      sure = λ is. b.knows.sure (sym r.rest.committing ∙ is);
      is_live = λ is. absurd (not_open old new r.rest is);
      merging = λ is. absurd (not_open old new r.rest is);
    })

-- ---- its next call is asked for

abbrev first_call : Calls → Call
first_call [] = Len
first_call ((call, bytes) ∷ calls) = call

pub looks_lem : QuietSteps → (old new : CoreView) (opener next : Looking) (number : ℕ) (request : Asked) (asked : List (Option Asked)) (bodies files : List (List ℕ))
    → LooksOn old opener number request next new → Believes old asked bodies files
    → Believes new (slice_set asked 2 (Some request)) bodies files
looks_lem quiet old new opener next number request asked bodies files l b =
    let none = nobody_out asked (b.knows.out ∙ l.none) in
    let free : slice_get asked 2 ≡ Some None = free_there asked 2 (ap (λ ids. slice_get ids 2) (b.knows.out ∙ l.none)) in
    let s : SeesStore files old.phases asked opener = subst (λ o. IfSome o (SeesStore files old.phases asked)) l.was b.knows.sees in
    let before : Sees files None opener = subst (λ r. Sees files r opener) (same_Some s.request None (sym s.own ∙ free)) s.sees in
    let now = l.sees files before in
    let out = looks_out (length next.told) (file_at files (length next.told)) request next.stage now.slot in
    let within : request.id.slot < length old.phases =
    (let slot = l.asked.slot in let below = l.asked.within in let count = before.count in let files_count = b.knows.count in omega (arith, slot, below, count, files_count)) in
    let phase = slice_index_or old.phases request.id.slot Raw in
    let may : MayAsk old.phases asked 2 request = record {
      free = free;
      phase = phase;
      waits = record { is = slice_get-get_or old.phases request.id.slot Raw within; ready = look_is_ready phase request.id.call out.look };
    } in
    moved old new old.phases asked bodies files b (slice_set asked 2 (Some request)) bodies l.rest l.phases
    (quiet.asks old.base (history_of old) old.phases asked bodies b.store b.dump b.beliefs 2 request may
    (record { opens = look_opens_none request.id.call out.look; closes = λ is. absurd (look_closes_none request.id.call out.look is) }) b.has)
    (record {
      count = b.knows.count ∙ ap length (sym l.phases);
      out = ids_set asked 2 (Some request) ∙ ap (λ ids. slice_set ids 2 (Some request.id)) (b.knows.out ∙ l.none) ∙ sym l.outs;
      sees = subst (λ o. IfSome o (SeesStore files new.phases (slice_set asked 2 (Some request)))) (sym l.is)
          (subst (λ p. SeesStore files p (slice_set asked 2 (Some request)) next) (sym l.phases) (record {
            looks = only_look asked request free none out.look;
            request = Some request;
            own = set_same asked 2 None (Some request) free;
            sees = now;
            syncs = s.syncs;
            told = λ slot p at below. s.told slot p at (subst (λ t. slot < length t) l.asked.told below);
            current = λ past p at. s.current (was_past opener next past l.asked) p (ap (λ t. slice_get old.phases (length t)) (sym l.asked.told) ∙ at);
          }));
      sure = λ is. b.knows.sure (sym l.rest.committing ∙ is);
      is_live = λ is. absurd (not_open old new l.rest is);
      merging = λ is. absurd (not_open old new l.rest is);
    })
  where
    only_look : (a : List (Option Asked)) (r : Asked) → slice_get a 2 ≡ Some None → NoneOut a → IsLook r.id.call → AreLooks (slice_set a 2 (Some r))
    only_look a r at none look worker other is = elim (cases_eq worker 2) [
      | inl same ↦ subst (λ q. IsLook q.id.call)
          (same_Some r other (same_Some (Some r) (Some other) (sym (set_same a 2 None (Some r) at) ∙ ap (slice_get (slice_set a 2 (Some r))) (sym same) ∙ is))) look
      | inr differs ↦ absurd (none worker other (sym (set_other a 2 worker (Some r) differs) ∙ is))
    ]

    was_past : (o n : Looking) → IsPastSync n.stage → OpenerAsks number o request n → IsPastSync o.stage
    was_past o n past asks = grind arith

-- ---- an open slot was decoded

at_next : (phases : List Phase) (old new : Looking) → IsAtNext old new
    → ((slot : ℕ) (phase : Phase) → slice_get phases slot ≡ Some phase → slot < length old.told → IsRefound phase)
    → ((phase : Phase) → slice_get phases (length old.told) ≡ Some phase → IsRefound phase)
    → (slot : ℕ) (phase : Phase) → slice_get phases slot ≡ Some phase → slot < length new.told → IsRefound phase
at_next phases old new next before own slot phase at below = grind arith

fresh_is_not_past : (old new : Looking) → IsAtNext old new → IsPastSync new.stage → ⊥
fresh_is_not_past old new next past = HasSynced.asked (subst IsPastSync next.stage past) refl

read_is_past : (stage : Stage) → ((plan : Planned) → stage ≢ Asking plan) → IsPastSync stage
read_is_past stage read = grind arith

pub decodes_lem : (old new : CoreView) (opener next : Looking) (asked : List (Option Asked)) (bodies files : List (List ℕ))
    → Decodes old opener next new → Believes old asked bodies files → Believes new asked bodies files
decodes_lem old new opener next asked bodies files d b =
    let none = nobody_out asked (b.knows.out ∙ d.none) in
    let free : slice_get asked 2 ≡ Some None = free_there asked 2 (ap (λ ids. slice_get ids 2) (b.knows.out ∙ d.none)) in
    let s : SeesStore files old.phases asked opener = subst (λ o. IfSome o (SeesStore files old.phases asked)) d.was b.knows.sees in
    let before : Sees files None opener = subst (λ r. Sees files r opener) (same_Some s.request None (sym s.own ∙ free)) s.sees in
    moved old new old.phases asked bodies files b asked bodies d.rest d.phases b.has
    (record {
      count = b.knows.count ∙ ap length (sym d.phases);
      out = b.knows.out ∙ sym d.outs;
      sees = subst (λ o. IfSome o (SeesStore files new.phases asked)) (sym d.is)
          (subst (λ p. SeesStore files p asked next) (sym d.phases) (record {
            looks = s.looks;
            request = None;
            own = free;
            sees = d.sees files before;
            syncs = s.syncs;
            told = at_next old.phases opener next d.decoded.next s.told (s.current (read_is_past opener.stage d.decoded.read));
            current = λ past. absurd (fresh_is_not_past opener next d.decoded.next past);
          }));
      sure = λ is. b.knows.sure (sym d.rest.committing ∙ is);
      is_live = λ is. absurd (not_open old new d.rest is);
      merging = λ is. absurd (not_open old new d.rest is);
    })

-- ---- outcomes

module _ (old new : CoreView) (made : Made) (phase : Phase) (asked : List (Option Asked)) (bodies files : List (List ℕ))
    (h : IsHandedToOpener old made phase new) (at : slice_get asked 2 ≡ Some (Some made.request)) (b : Believes old asked bodies files) where
  abbrev handed_phases : List Phase
  handed_phases = phases_after old.phases made.request.id phase (is_done made.answer)

  only_two : (worker : ℕ) (request : Asked) → slice_get asked worker ≡ Some (Some request) → worker ≡ 2
  only_two worker request out = alone worker (ap (λ ids. slice_get ids worker) (sym (b.knows.out ∙ h.alone)) ∙ id_there asked worker request out)
    where
      alone : (w : ℕ) → slice_get (opener_alone made.request.id) w ≡ Some (Some request.id) → w ≡ 2
      alone zero e = absurd (let no : Some None ≡ Some (Some request.id) = e in cc)
      alone (suc zero) e = absurd (let no : Some None ≡ Some (Some request.id) = e in cc)
      alone (suc (suc zero)) e = refl
      alone (suc (suc (suc w))) e = absurd (nobody_writes no_writes w request.id refl e)

  abbrev handed_outcome : IsOutcomeOf old.phases asked 2 made
  handed_outcome = record { out = at; others = λ other request differs out same. absurd (differs (only_two other request out)); phase = phase; waits = h.waits }

  handed_ids : ids_of (slice_set asked 2 None) ≡ new.outs
  handed_ids = ids_set asked 2 None ∙ ap (λ ids. slice_set ids 2 None) (b.knows.out ∙ h.alone) ∙ sym h.outs

  handed_count : length files ≡ length new.phases
  handed_count = b.knows.count ∙ sym (ap length h.phases ∙ set_count old.phases made.request.id.slot (after phase made.request.id.call (is_done made.answer)))

  handed_on : QuietSteps → Knows new (slice_set asked 2 None) (bodies_after bodies made.request.id made.request.bytes) files b.store b.dump b.beliefs
      → Believes new (slice_set asked 2 None) (bodies_after bodies made.request.id made.request.bytes) files
  handed_on quiet knows = moved old new handed_phases asked bodies files b (slice_set asked 2 None) (bodies_after bodies made.request.id made.request.bytes) h.rest h.phases
      (quiet.handed old.base (history_of old) old.phases asked bodies b.store b.dump b.beliefs 2 made handed_outcome b.has) knows

  pub fails_on : QuietSteps → new.opener ≡ None → Believes new (slice_set asked 2 None) (bodies_after bodies made.request.id made.request.bytes) files
  fails_on quiet ended = handed_on quiet (record {
    count = handed_count;
    out = handed_ids;
    sees = subst (λ o. IfSome o (SeesStore files new.phases (slice_set asked 2 None))) (sym ended) tt;
    sure = λ is. b.knows.sure (sym h.rest.committing ∙ is);
    is_live = λ is. absurd (not_open old new h.rest is);
    merging = λ is. absurd (not_open old new h.rest is);
  })

  module _ (opener next : Looking) (t : IsTaught old opener made phase next new) (was_told : WasLookedAt old.phases bodies files made) where
    abbrev slot : ℕ
    slot = made.request.id.slot

    s : SeesStore files old.phases asked opener
    s = subst (λ o. IfSome o (SeesStore files old.phases asked)) t.was b.knows.sees

    before : Sees files (Some made.request) opener
    before = subst (λ r. Sees files r opener) (same_Some s.request (Some made.request) (sym s.own ∙ at)) s.sees

    out : IsLooking (length opener.told) made.request opener.stage
    out = looks_out (length opener.told) (file_at files (length opener.told)) made.request opener.stage before.slot

    told_of : IsLookOf (file_at files (length opener.told)) made.request made
    told_of = grind arith

    then_phases : handed_phases ≡ slice_set old.phases slot (after phase made.request.id.call true)
    then_phases = ap (λ done. slice_set old.phases slot (after phase made.request.id.call done)) t.done

    own_found : IsRefound (after phase made.request.id.call true)
    own_found = after_is_found phase made.request.id.call out.look (s.syncs slot phase h.waits.is)
        (λ other. s.current (out.past other) phase (ap (slice_get old.phases) (sym out.on) ∙ h.waits.is))

    is_own : (p : Phase) → slice_get handed_phases slot ≡ Some p → p ≡ after phase made.request.id.call true
    is_own p is = same_Some p (after phase made.request.id.call true)
        (sym is ∙ ap (λ all. slice_get all slot) then_phases ∙ set_same old.phases slot phase (after phase made.request.id.call true) h.waits.is)

    is_other : (k : ℕ) (p : Phase) → k ≢ slot → slice_get handed_phases k ≡ Some p → slice_get old.phases k ≡ Some p
    is_other k p differs is = sym (set_other old.phases slot k (after phase made.request.id.call (is_done made.answer)) differs) ∙ is

    own_is : (p : Phase) → slice_get handed_phases (length opener.told) ≡ Some p → IsRefound p
    own_is p is = subst IsRefound (sym (is_own p (ap (slice_get handed_phases) out.on ∙ is))) own_found

    below_is : (k : ℕ) (p : Phase) → slice_get handed_phases k ≡ Some p → k < length opener.told → IsRefound p
    below_is k p is below = s.told k p (is_other k p (λ same. (let on = out.on in omega (arith, same, on, below))) is) below

    syncs_then : (k : ℕ) (p : Phase) → slice_get handed_phases k ≡ Some p → IsRefound (synced p)
    syncs_then k p is = elim (cases_eq k slot) [
      | inl same ↦ subst (λ q. IsRefound (synced q)) (sym (is_own p (ap (slice_get handed_phases) (sym same) ∙ is)))
          (after_syncs phase made.request.id.call out.look (s.syncs slot phase h.waits.is))
      | inr differs ↦ s.syncs k p (is_other k p differs is)
    ]

    told_then : (k : ℕ) (p : Phase) → slice_get handed_phases k ≡ Some p → k < length next.told → IsRefound p
    told_then k p is below = elim t.moves [
      | inl same ↦ below_is k p is (subst (λ told. k < length told) same below)
      | inr on ↦ at_next handed_phases opener next on below_is own_is k p is below
    ]

    current_then : IsPastSync next.stage → (p : Phase) → slice_get handed_phases (length next.told) ≡ Some p → IsRefound p
    current_then past p is = elim t.moves [
      | inl same ↦ own_is p (ap (λ told. slice_get handed_phases (length told)) (sym same) ∙ is)
      | inr on ↦ absurd (fresh_is_not_past opener next on past)
    ]

    pub teaches_on : QuietSteps → Believes new (slice_set asked 2 None) (bodies_after bodies made.request.id made.request.bytes) files
    teaches_on quiet = handed_on quiet (record {
      count = handed_count;
      out = handed_ids;
      sees = subst (λ o. IfSome o (SeesStore files new.phases (slice_set asked 2 None))) (sym t.is)
          (subst (λ p. SeesStore files p (slice_set asked 2 None) next) (sym h.phases) (record {
            looks = none_looks (slice_set asked 2 None) (nobody_out (slice_set asked 2 None) (handed_ids ∙ h.outs));
            request = None;
            own = set_same asked 2 (Some made.request) None at;
            sees = t.sees files told_of before;
            syncs = syncs_then;
            told = told_then;
            current = current_then;
          }));
      sure = λ is. b.knows.sure (sym h.rest.committing ∙ is);
      is_live = λ is. absurd (not_open old new h.rest is);
      merging = λ is. absurd (not_open old new h.rest is);
    })

-- ---- it ends

pub ends_lem : (old new : CoreView) (asked : List (Option Asked)) (bodies files : List (List ℕ))
    → GivesUpOpening old new → Believes old asked bodies files → Believes new asked bodies files
ends_lem old new asked bodies files g b = grind arith

pub refinds_lem : (core : CoreView) (opener : Looking) (asked : List (Option Asked)) (bodies files : List (List ℕ))
    → core.opener ≡ Some opener → length opener.told ≡ opener.slots → NoneOut asked → Believes core asked bodies files
    → Sees files None opener × ((slot : ℕ) (phase : Phase) → slice_get core.phases slot ≡ Some phase → IsRefound phase)
refinds_lem core opener asked bodies files is all none b =
    let s : SeesStore files core.phases asked opener = subst (λ o. IfSome o (SeesStore files core.phases asked)) is b.knows.sees in
    let free : s.request ≡ None = nothing_out s.request s.own in
    let sees : Sees files None opener = subst (λ r. Sees files r opener) free s.sees in (
      sees,
      λ slot phase at.
          let within : slot < length core.phases = slice_get_within core.phases slot phase at in
          let count = b.knows.count in let slots = sees.count in
          s.told slot phase at (omega (arith, within, count, slots, all)),
    )
  where
    nothing_out : (r : Option Asked) → slice_get asked 2 ≡ Some r → r ≡ None
    nothing_out None out = refl
    nothing_out (Some request) out = absurd (none 2 request out)

pub opener_steps_lem : QuietSteps → GivenUpSyncs → OpenerSteps
opener_steps_lem quiet syncs = record {
  reopens = reopens_lem quiet syncs;
  looks = looks_lem quiet;
  decodes = decodes_lem;
  teaches = λ old new opener next made phase asked bodies files t at told b.
      teaches_on old new made phase asked bodies files t.handed at b opener next t told quiet;
  fails = λ old new made phase asked bodies files h ended at b. fails_on old new made phase asked bodies files h at b quiet ended;
  ends = ends_lem;
  refinds = refinds_lem;
}
