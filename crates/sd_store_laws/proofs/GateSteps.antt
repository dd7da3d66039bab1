-- How what may be believed of a slot follows its calls.
use Rattle.std.proofs.Common.{◌≡◌, ◌≢◌, ◌⊎◌, ℕ, zero, suc, ◌<◌, ◌≤◌, Bool, true, false, List, [], ◌∷◌, drop, length, map, cond, nat_eq, nat_le, Some, slice_get, slice_index, slice_index_or, slice_set, refl, sym, ◌∙◌, ap, subst, inl, inr, arith}
use Rattle.std.specs.List.{AllZip}
use Rattle.std.proofs.lemmas.Bool.{and_from, cases_eq, cases_lt, eq-eqb, false≢true, le-leb, le-ltb, lt-ltb, ne_eqb}
use Rattle.std.proofs.lemmas.Option.{same_Some}
use Rattle.sd_disk.specs.Contents.{file_at}
use Rattle.sd_image.specs.Image.{Image, IsImage, gate, is_open}
use Rattle.sd_gate.specs.declared.call.Call.{Call}
use Rattle.sd_gate.specs.declared.call.Call.TheVariants.{Write, WriteHeader, Close, Open, Cut, Sync}
use Rattle.sd_gate.specs.declared.phase.Phase.{Phase}
use Rattle.sd_gate.specs.declared.phase.Phase.TheVariants.{Raw, RawClosing, Whole, Closing as ClosingPhase, Shut, ShutSynced, Bare, Writing, Ready, Opening as OpeningPhase, Doubt, DoubtSynced}
use Rattle.sd_gate.specs.Fits.{IsShort, SlotFits}
use Rattle.sd_gate.specs.Laws.{FoundFits, found_phase}
use Rattle.sd_gate.specs.Phases.{after, body_after, closing, filled, given_up, is_ready, may_write, synced}
use Rattle.sd_store_laws.specs.Beliefs.{Belief, Closed, Kept, Closing, Opening, FitsBelief}
use Rattle.sd_store_laws.specs.SlotSteps.{IsFoundAs}
use Rattle.sd_store_laws.specs.Gates.{BeliefsWeaken, GivenUpIsBelieved, IsBelievedAs, IsInDoubt, IsWeaker, MayBelieve}
use Rattle.sd_store_laws.specs.GateSteps.{BeliefsFollowCalls, FilesAreBelieved, FoundIsExact, GivenUpSyncs, OneBeliefChanges, SyncedIsFound}
use Rattle.sd_store_laws.proofs.SlotSteps.{set_other}

-- ---- weaker beliefs

itself : (phase : Phase) (body : List ℕ) (belief : Belief) → IsBelievedAs phase body belief → MayBelieve phase body belief
itself phase body belief is = record { strong = belief; is = is; weaker = λ file fits. fits }

less : (phase : Phase) (body : List ℕ) (belief weak : Belief) → MayBelieve phase body belief → IsWeaker belief weak → MayBelieve phase body weak
less phase body belief weak may weaker = record { strong = may.strong; is = may.is; weaker = λ file fits. weaker file (may.weaker file fits) }

pub beliefs_weaken_lem : BeliefsWeaken
beliefs_weaken_lem = grind arith

-- ---- one call

-- another phase allows what this one does
abbrev AllowsOn : Phase → Phase → List ℕ → List ℕ → Type 0
AllowsOn phase next body new = (strong : Belief) → IsBelievedAs phase body strong → (other : Belief) × IsBelievedAs next new other × IsWeaker other strong

-- the same belief in both
same : (phase next : Phase) (body new : List ℕ) → ((strong : Belief) → IsBelievedAs phase body strong → IsBelievedAs next new strong) → AllowsOn phase next body new
same phase next body new moves strong is = (strong, moves strong is, λ file fits. fits)

follows : (phase next : Phase) (body new : List ℕ) (belief : Belief) → AllowsOn phase next body new → MayBelieve phase body belief → MayBelieve next new belief
follows phase next body new belief allows may = grind arith

-- an image in doubt that is closed for sure
shuts : (body : List ℕ) (strong : Belief) → IsInDoubt body strong → IsWeaker Closed strong
shuts body strong doubt = grind arith

-- and one that is there for sure
keeps : (body : List ℕ) (strong : Belief) → (d : IsInDoubt body strong) → IsWeaker (Kept d.0) strong
keeps body strong d = grind arith

gives_up : (phase : Phase) (body : List ℕ) → AllowsOn phase (given_up phase) body body
gives_up Raw body = same Raw Raw body body (λ b is. is)
gives_up RawClosing body = same RawClosing Raw body body (λ b is. is)
gives_up Whole body = same Whole Whole body body (λ b is. is)
gives_up ClosingPhase body = same ClosingPhase Doubt body body (λ b is. is)
gives_up Shut body = same Shut Shut body body (λ b is. is)
gives_up ShutSynced body = same ShutSynced Shut body body (λ b is. is)
gives_up Bare body = same Bare Bare body body (λ b is. is)
gives_up Writing body = same Writing Shut body body (λ b is. is)
gives_up Ready body = same Ready Shut body body (λ b is. is)
gives_up OpeningPhase body = same OpeningPhase Doubt body body (λ b is. is)
gives_up Doubt body = same Doubt Doubt body body (λ b is. is)
gives_up DoubtSynced body = same DoubtSynced Doubt body body (λ b is. is)

syncs : (phase : Phase) (body : List ℕ) → AllowsOn phase (synced phase) body body
syncs Raw body = same Raw Raw body body (λ b is. is)
syncs RawClosing body = same RawClosing Shut body body (λ b is. is)
syncs Whole body = same Whole Whole body body (λ b is. is)
syncs ClosingPhase body = λ strong doubt. (Closed, refl, shuts body strong doubt)
syncs Shut body = same Shut ShutSynced body body (λ b is. is)
syncs ShutSynced body = same ShutSynced ShutSynced body body (λ b is. is)
syncs Bare body = same Bare ShutSynced body body (λ b is. is)
syncs Writing body = same Writing Ready body body (λ b is. is)
syncs Ready body = same Ready Ready body body (λ b is. is)
syncs OpeningPhase body = λ strong doubt. (Kept doubt.0, (doubt.0, refl, doubt.2), keeps body strong doubt)
syncs Doubt body = same Doubt DoubtSynced body body (λ b is. is)
syncs DoubtSynced body = same DoubtSynced DoubtSynced body body (λ b is. is)

-- a 0 over the gate, of a slot that isn't whole
closes_on : (phase : Phase) (body : List ℕ) → phase ≢ Whole → AllowsOn phase (closing phase) body body
closes_on Raw body other = same Raw RawClosing body body (λ b is. is)
closes_on RawClosing body other = same RawClosing RawClosing body body (λ b is. is)
closes_on Whole body other = absurd (other refl)
closes_on ClosingPhase body other = same ClosingPhase ClosingPhase body body (λ b is. is)
closes_on Shut body other = same Shut Shut body body (λ b is. is)
closes_on ShutSynced body other = same ShutSynced Shut body body (λ b is. is)
closes_on Bare body other = same Bare Shut body body (λ b is. is)
closes_on Writing body other = same Writing Shut body body (λ b is. is)
closes_on Ready body other = same Ready Shut body body (λ b is. is)
closes_on OpeningPhase body other = same OpeningPhase ClosingPhase body body (λ b is. is)
closes_on Doubt body other = same Doubt ClosingPhase body body (λ b is. is)
closes_on DoubtSynced body other = same DoubtSynced ClosingPhase body body (λ b is. is)

closes_failed : (phase : Phase) (body : List ℕ) → phase ≢ Whole → AllowsOn phase (given_up (closing phase)) body body
closes_failed phase body other strong is = grind (arith, closes_on, gives_up)

-- a slot that is written is closed before and afterwards
written : (phase : Phase) (body new : List ℕ) → may_write phase ≡ true → AllowsOn phase (filled phase) body new
written phase body new ready = grind arith

pub is_closed : (phase : Phase) (body : List ℕ) (strong : Belief) → may_write phase ≡ true → IsBelievedAs phase body strong → strong ≡ Closed
is_closed phase body strong ready is = grind arith

to_shut : (phase : Phase) (body new : List ℕ) → may_write phase ≡ true → AllowsOn phase Shut body new
to_shut phase body new ready = same phase Shut body new (λ strong is. is_closed phase body strong ready is)

to_bare : (phase : Phase) (body new : List ℕ) → may_write phase ≡ true → AllowsOn phase Bare body new
to_bare phase body new ready = same phase Bare body new (λ strong is. is_closed phase body strong ready is)

-- done, or failed
either : (phase first second : Phase) (body new : List ℕ) (done : Bool) → AllowsOn phase first body new → AllowsOn phase second body new → AllowsOn phase (cond done first second) body new
either phase first second body new true one other = one
either phase first second body new false one other = other

allows : (phase : Phase) (body bytes : List ℕ) (call : Call) (done : Bool) → is_ready phase call ≡ true → call ≢ Open → (call ≡ Close → phase ≢ Whole)
    → AllowsOn phase (after phase call done) body (body_after body call bytes)
allows phase body bytes (Write at) done ready other unkept =
    let new : List ℕ = body_after body (Write at) bytes in
    either phase (filled phase) Shut body new done (written phase body new ready) (to_shut phase body new ready)
allows phase body bytes WriteHeader done ready other unkept =
    let new : List ℕ = body_after body WriteHeader bytes in
    either phase (filled phase) Shut body new done (written phase body new ready) (to_shut phase body new ready)
allows phase body bytes Close done ready other unkept =
    either phase (closing phase) (given_up (closing phase)) body body done (closes_on phase body (unkept refl)) (closes_failed phase body (unkept refl))
allows phase body bytes Open done ready other unkept = absurd (other refl)
allows phase body bytes Cut done ready other unkept = either phase Bare Shut body [] done (to_bare phase body [] ready) (to_shut phase body [] ready)
allows phase body bytes Sync done ready other unkept = either phase (synced phase) (given_up phase) body body done (syncs phase body) (gives_up phase body)
allows phase body bytes _ done ready other unkept = same phase phase body body (λ b is. is)

-- ---- the calls on a gate

doubtful : (body : List ℕ) (first second : Phase) (done : Bool) (belief : Belief) → MayBelieve first body belief → MayBelieve second body belief → MayBelieve (cond done first second) body belief
doubtful body first second done belief one other = grind arith

before_open : (phase : Phase) (body : List ℕ) (i : Image) → is_ready phase Open ≡ true → MayBelieve phase body (Opening i)
before_open phase body i ready = grind arith

opening : (phase : Phase) (body : List ℕ) (done : Bool) (i : Image) → IsImage (gate ∷ body) i → MayBelieve (after phase Open done) body (Opening i)
opening phase body done i is = doubtful body OpeningPhase Doubt done (Opening i)
    (itself OpeningPhase body (Opening i) (i, inr refl, is)) (itself Doubt body (Opening i) (i, inr refl, is))

-- the body of a slot that may be believed to have an image is that image's
is_its : (body : List ℕ) (i j : Image) (strong : Belief) → IsImage (gate ∷ body) j → FitsBelief strong (gate ∷ body) → IsWeaker strong (Opening i) → IsImage (gate ∷ body) i
is_its body i j strong there fits weaker = grind arith

doubt_there : (body : List ℕ) (strong : Belief) → IsInDoubt body strong → FitsBelief strong (gate ∷ body)
doubt_there body strong doubt = grind arith

opened_it : (body : List ℕ) (i : Image) → MayBelieve OpeningPhase body (Opening i) → MayBelieve Whole body (Kept i)
opened_it body i may =
    let doubt : IsInDoubt body may.strong = may.is in
    itself Whole body (Kept i) (i, refl, is_its body i doubt.0 may.strong doubt.2 (doubt_there body may.strong doubt) may.weaker)

-- the body of a whole file that is believed to be kept is that image's
kept_it : (body : List ℕ) (i : Image) → MayBelieve Whole body (Kept i) → IsImage (gate ∷ body) i
kept_it body i may =
    let whole : (j : Image) × (may.strong ≡ Kept j) × IsImage (gate ∷ body) j = may.is in
    may.weaker (gate ∷ body) (subst (λ b. FitsBelief b (gate ∷ body)) (sym whole.1) whole.2)

closes_it : (body : List ℕ) (done : Bool) (i : Image) → IsImage (gate ∷ body) i → MayBelieve (after Whole Close done) body (Closing i)
closes_it body done i is = doubtful body ClosingPhase Doubt done (Closing i)
    (itself ClosingPhase body (Closing i) (i, inl refl, is)) (itself Doubt body (Closing i) (i, inl refl, is))

gives_up_it : (phase : Phase) (body : List ℕ) (belief : Belief) → MayBelieve phase body belief → MayBelieve (given_up phase) body belief
gives_up_it phase body belief may = follows phase (given_up phase) body body belief (gives_up phase body) may

pub beliefs_follow_calls_lem : BeliefsFollowCalls
beliefs_follow_calls_lem = record {
  stays = λ phase body bytes call done belief ready other unkept may.
      follows phase (after phase call done) body (body_after body call bytes) belief (allows phase body bytes call done ready other unkept) may;
  opens = λ phase body bytes done i ready is. (before_open phase body i ready, opening phase body done i is);
  closes = λ body bytes done i may. (less Whole body (Kept i) (Closing i) may (λ file fits. inr fits), closes_it body done i (kept_it body i may));
  opened = λ body bytes i may. opened_it body i may;
  closed = λ body bytes. itself Shut body Closed refl;
  given_up = gives_up_it;
}

-- ---- all slots

pub given_up_is_believed_lem : GivenUpIsBelieved
given_up_is_believed_lem phases bodies beliefs are = record {
  count = are.count ∙ sym (map_count phases);
  each = λ slot phase belief at has.
      let was = mapped phases slot phase at in
      subst (λ p. MayBelieve p (file_at bodies slot) belief) was.2 (gives_up_it was.0 (file_at bodies slot) belief (are.each slot was.0 belief was.1 has));
}
  where
    map_count : (phases : List Phase) → length (map given_up phases) ≡ length phases
    map_count [] = refl
    map_count (phase ∷ phases) = ap suc (map_count phases)

    mapped : (phases : List Phase) (slot : ℕ) (phase : Phase) → slice_get (map given_up phases) slot ≡ Some phase → (was : Phase) × (slice_get phases slot ≡ Some was) × (given_up was ≡ phase)
    mapped [] slot phase e = absurd cc
    mapped (p ∷ phases) zero phase e = (p, refl, same_Some (given_up p) phase e)
    mapped (p ∷ phases) (suc slot) phase e = mapped phases slot phase e

set_count : {X : Type 0} (xs : List X) (slot : ℕ) (y : X) → length (slice_set xs slot y) ≡ length xs
set_count (x ∷ xs) (suc slot) y = ap suc (set_count xs slot y)
set_count _ _ y = refl

set_at : {X : Type 0} (xs : List X) (slot : ℕ) (y : X) → slot < length xs → slice_get (slice_set xs slot y) slot ≡ Some y
set_at [] slot y within = absurd (omega (arith, within))
set_at (x ∷ xs) zero y within = refl
set_at (x ∷ xs) (suc slot) y within = set_at xs slot y (omega (arith, within))

file_set : (files : List (List ℕ)) (slot : ℕ) (file : List ℕ) → slot < length files → slice_index_or (slice_set files slot file) slot [] ≡ file
file_set [] slot file within = absurd (omega (arith, within))
file_set (f ∷ files) zero file within = refl
file_set (f ∷ files) (suc slot) file within = file_set files slot file (omega (arith, within))

file_other : (files : List (List ℕ)) (slot k : ℕ) (file : List ℕ) → k ≢ slot → slice_index_or (slice_set files slot file) k [] ≡ slice_index_or files k []
file_other (f ∷ files) zero zero file other = absurd (other refl)
file_other (f ∷ files) (suc slot) (suc k) file other = file_other files slot k file (λ same. other (ap suc same))
file_other _ _ _ file other = refl

pub one_belief_changes_lem : OneBeliefChanges
one_belief_changes_lem phases bodies beliefs slot phase body belief stored within are may = record {
  count = set_count beliefs slot belief ∙ are.count ∙ sym (set_count phases slot phase);
  each = λ k p b at has. elim (cases_eq k slot) [
    | inl is ↦ here k p b is at has
    | inr other ↦
        subst (λ f. MayBelieve p f b) (sym (file_other bodies slot k body other))
        (are.each k p b (sym (set_other phases slot k phase other) ∙ at) (sym (set_other beliefs slot k belief other) ∙ has))
  ];
}
  where
    here : (k : ℕ) (p : Phase) (b : Belief) → k ≡ slot → slice_get (slice_set phases slot phase) k ≡ Some p → slice_get (slice_set beliefs slot belief) k ≡ Some b
        → MayBelieve p (file_at (slice_set bodies slot body) k) b
    here k p b is at has =
        let phase_is : phase ≡ p = same_Some phase p (sym (set_at phases slot phase within) ∙ ap (slice_get (slice_set phases slot phase)) (sym is) ∙ at) in
        let belief_is : belief ≡ b = same_Some belief b
        (sym (set_at beliefs slot belief (let count = are.count in omega (arith, within, count))) ∙ ap (slice_get (slice_set beliefs slot belief)) (sym is) ∙ has) in
        let body_is : body ≡ file_at (slice_set bodies slot body) k =
        sym (ap (λ n. slice_index_or (slice_set bodies slot body) n []) is ∙ file_set bodies slot body (omega (arith, within, stored))) in
        subst (λ q. MayBelieve q (file_at (slice_set bodies slot body) k) b) phase_is
        (subst (λ f. MayBelieve phase f b) body_is (subst (MayBelieve phase body) belief_is may))

-- ---- slots that are found

-- the phase that a file shows, by its length and its gate
phase_by : (file : List ℕ) → (IsShort file × (found_phase file ≡ Raw))
    ⊎ ((4096 ≤ length file) × (((slice_index file 0 ≡ gate) × (found_phase file ≡ Whole)) ⊎ ((slice_index file 0 ≢ gate) × (found_phase file ≡ Shut))))
phase_by file = elim (cases_lt (length file) 4096) [
  | inl short ↦ inl (short, ap (λ b. cond b Raw (cond (nat_eq (slice_index file 0) gate) Whole Shut)) (lt-ltb (length file) 4096 short))
  | inr long ↦ inr (
    long,
    elim (cases_eq (slice_index file 0) gate) [
      | inl opens ↦ inl (opens, long_phase file long ∙ ap (λ b. cond b Whole Shut) (eq-eqb (slice_index file 0) gate opens))
      | inr shut ↦ inr (shut, long_phase file long ∙ ap (λ b. cond b Whole Shut) (ne_eqb (slice_index file 0) gate shut))
    ],
  )
]
  where
    long_phase : (file : List ℕ) → 4096 ≤ length file → found_phase file ≡ cond (nat_eq (slice_index file 0) gate) Whole Shut
    long_phase file long = ap (λ b. cond b Raw (cond (nat_eq (slice_index file 0) gate) Whole Shut)) (le-ltb (length file) 4096 long)

opens_so : (file : List ℕ) → 4096 ≤ length file → slice_index file 0 ≡ gate → is_open file ≡ true
opens_so file long opens = and_from (nat_le 4096 (length file)) (nat_eq (slice_index file 0) gate) (le-leb 4096 (length file) long) (eq-eqb (slice_index file 0) gate opens)

found_one : (file : List ℕ) (belief : Belief) → IsFoundAs belief file → IsBelievedAs (found_phase file) (drop 1 file) belief
found_one file belief found = grind arith

found_each : (contents : List (List ℕ)) (beliefs : List Belief) → AllZip IsFoundAs beliefs contents → (slot : ℕ) (phase : Phase) (belief : Belief)
    → slice_get (map found_phase contents) slot ≡ Some phase → slice_get beliefs slot ≡ Some belief → MayBelieve phase (file_at (map (drop 1) contents) slot) belief
found_each [] beliefs all slot phase belief at has = absurd cc
found_each (file ∷ contents) [] all slot phase belief at has = absurd all
found_each (file ∷ contents) (b ∷ beliefs) all zero phase belief at has =
    subst (λ p. MayBelieve p (drop 1 file) belief) (same_Some (found_phase file) phase at)
    (subst (MayBelieve (found_phase file) (drop 1 file)) (same_Some b belief has) (itself (found_phase file) (drop 1 file) b (found_one file b all.0)))
found_each (file ∷ contents) (b ∷ beliefs) all (suc slot) phase belief at has = found_each contents beliefs all.1 slot phase belief at has

found_count : (contents : List (List ℕ)) (beliefs : List Belief) → AllZip IsFoundAs beliefs contents → length beliefs ≡ length (map found_phase contents)
found_count [] [] all = refl
found_count (file ∷ contents) (b ∷ beliefs) all = ap suc (found_count contents beliefs all.1)
found_count _ _ all = absurd all

pub found_is_exact_lem : FoundIsExact
found_is_exact_lem [] beliefs all slot phase belief at has = absurd cc
found_is_exact_lem (file ∷ contents) [] all slot phase belief at has = absurd all
found_is_exact_lem (file ∷ contents) (b ∷ beliefs) all zero phase belief at has =
    subst (λ p. IsBelievedAs p (drop 1 file) belief) (same_Some (found_phase file) phase at)
    (subst (IsBelievedAs (found_phase file) (drop 1 file)) (same_Some b belief has) (found_one file b all.0))
found_is_exact_lem (file ∷ contents) (b ∷ beliefs) all (suc slot) phase belief at has = found_is_exact_lem contents beliefs all.1 slot phase belief at has

pub found_is_believed_lem : FilesAreBelieved
found_is_believed_lem contents beliefs all = record { count = found_count contents beliefs all; each = found_each contents beliefs all }

pub synced_is_found_lem : (contents : List (List ℕ)) (may_leave : List (List ℕ) → Type 0) → FoundFits contents may_leave → SyncedIsFound contents may_leave
synced_is_found_lem contents may_leave law phase body slot (inl is) fits = law slot (fits.as_read is)
synced_is_found_lem contents may_leave law phase body slot (inr raw) fits =
    let was : SlotFits Raw body slot contents may_leave = subst (λ p. SlotFits p body slot contents may_leave) raw fits in
    let short : length (file_at contents slot) < 4096 = was.reads in
    elim (phase_by (file_at contents slot)) [
      | inl is ↦ subst (λ p. SlotFits p (drop 1 (file_at contents slot)) slot contents may_leave) (sym is.1)
          (record { reads = short; leaves = was.leaves; as_read = λ never. absurd (false≢true never) })
      | inr long ↦ let more = long.0 in absurd (omega (arith, short, more))
    ]

pub given_up_syncs_lem : GivenUpSyncs
given_up_syncs_lem Raw = inr refl
given_up_syncs_lem RawClosing = inr refl
given_up_syncs_lem _ = inl refl
