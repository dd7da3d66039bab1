-- The calls of a plan, one after the other.
use Rattle.std.proofs.Common.{◌≡◌, ◌≢◌, ◌⊎◌, ⊎_elim, ℕ, zero, suc, ◌<◌, Bool, true, false, List, [], ◌∷◌, length, slice_get, slice_set, Some, refl, sym, ◌∙◌, ap, subst, arith}
use Rattle.std.proofs.lemmas.List.{get_or-set_same, get_or-set_other, length-set}
use Rattle.std.proofs.lemmas.Option.{slice_get_within}
use Rattle.sd_disk.specs.Contents.{file_at}
use Rattle.sd_disk.specs.Crash.{Within}
use Rattle.sd_disk.specs.Spans.{LeavesOnly, nothing_called, span_widened, spans_join}
use Rattle.sd_disk.specs.declared.disk.Disk.{Ghosts}
use Rattle.sd_gate.specs.declared.phase.Phase.{Phase}
use Rattle.sd_gate.specs.declared.request_id.RequestId.{RequestId}
use Rattle.sd_gate.specs.Fits.{DiskFits, DiskLeaves, PhaseLeaves}
use Rattle.sd_gate.specs.Calls.{is_done}
use Rattle.sd_gate.specs.PlanRuns.{LeavesAtMost, Takes}
use Rattle.sd_gate.specs.Phases.{Waits, after, body_after, bodies_after, phases_after}
use Rattle.sd_gate.specs.Sequences.{Calls}
use Rattle.sd_gate.specs.Plans.{Planned, plan_after}
use Rattle.sd_gate.specs.Inspections.{nothing}
use Rattle.sd_gate.specs.Requests.{Made}
use Rattle.sd_receive.specs.PlanRuns.{IsLeftBeside}

-- ---- lists

pub set_twice : {A : Type 0} (xs : List A) (i : ℕ) (y z : A) → slice_set (slice_set xs i y) i z ≡ slice_set xs i z
set_twice [] i y z = refl
set_twice (x ∷ xs) zero y z = refl
set_twice (x ∷ xs) (suc i) y z = ap (λ l. x ∷ l) (set_twice xs i y z)

pub get_set_same : {A : Type 0} (xs : List A) (i : ℕ) (y : A) → i < length xs → slice_get (slice_set xs i y) i ≡ Some y
get_set_same [] i y within = absurd (omega (arith, within))
get_set_same (x ∷ xs) zero y within = refl
get_set_same (x ∷ xs) (suc i) y within = get_set_same xs i y (omega (arith, within))

pub get_set_other : {A : Type 0} (xs : List A) (i j : ℕ) (y : A) → j ≢ i → slice_get (slice_set xs i y) j ≡ slice_get xs j
get_set_other [] i j y apart = refl
get_set_other (x ∷ xs) zero zero y apart = absurd (apart refl)
get_set_other (x ∷ xs) zero (suc j) y apart = refl
get_set_other (x ∷ xs) (suc i) zero y apart = refl
get_set_other (x ∷ xs) (suc i) (suc j) y apart = get_set_other xs i j y (λ same. apart (ap suc same))

pub set_same : {A : Type 0} (xs : List A) (i : ℕ) (y : A) → slice_get xs i ≡ Some y → slice_set xs i y ≡ xs
set_same [] i y is = refl
set_same (x ∷ xs) zero y is = ap (λ z. z ∷ xs) (let same : Some x ≡ Some y = is in cc)
set_same (x ∷ xs) (suc i) y is = ap (λ l. x ∷ l) (set_same xs i y is)

pub set_file_same : (files : List (List ℕ)) (i : ℕ) → slice_set files i (file_at files i) ≡ files
set_file_same [] i = refl
set_file_same (x ∷ xs) zero = refl
set_file_same (x ∷ xs) (suc i) = ap (λ l. x ∷ l) (set_file_same xs i)

-- ---- what a crash leaves

takes_now : (image : List ℕ) (phase last : Phase) (body final : List ℕ) (calls : Calls) → Takes image phase body calls last final → LeavesAtMost image phase body
takes_now image phase last body final [] takes = takes.0
takes_now image phase last body final ((call, bytes) ∷ calls) takes = takes.0

left : (phases : List Phase) (bodies : List (List ℕ)) (slot : ℕ) (phase : Phase) (body image : List ℕ) → slot < length phases → length bodies ≡ length phases
    → LeavesAtMost image phase body → Within (DiskLeaves (slice_set phases slot phase) (slice_set bodies slot body)) (IsLeftBeside phases bodies slot image)
left phases bodies slot phase body image within as_many most c leaves = record {
  count = leaves.count ∙ length-set phases slot phase;
  here = most (file_at c slot) (subst (λ b. PhaseLeaves phase b (file_at c slot)) (get_or-set_same bodies slot body [] (omega (arith, within, as_many)))
      (leaves.each slot phase (get_set_same phases slot phase within)));
  others = λ other p apart is. subst (λ b. PhaseLeaves p b (file_at c other)) (get_or-set_other bodies slot other body [] apart)
      (leaves.each other p (get_set_other phases slot other phase apart ∙ is));
}

module _ {D : Type 0} (g : Ghosts D) where
  -- so far: the slot is in a phase that takes the calls that are left
  pub record GoesOn (phases : List Phase) (bodies : List (List ℕ)) (slot : ℕ) (image : List ℕ) (last : Phase) (final : List ℕ) (old now : D) (calls : Calls) : Type 0 where
    pub phase : Phase
    pub body : List ℕ
    pub within : slot < length phases
    pub as_many : length bodies ≡ length phases
    pub fits : DiskFits (slice_set phases slot phase) (slice_set bodies slot body) (g.contents now) (g.may_leave now)
    pub takes : Takes image phase body calls last final
    pub span : LeavesOnly g old now (IsLeftBeside phases bodies slot image)

  -- nothing was called yet
  pub goes_on_first : (phases : List Phase) (bodies : List (List ℕ)) (slot : ℕ) (image : List ℕ) (phase last : Phase) (final : List ℕ) (old : D) (calls : Calls)
      → ((c : List (List ℕ)) → g.left_since old (g.moment old) c → g.may_leave old c) → ((c : List (List ℕ)) → g.may_leave old c → length c ≡ length (g.contents old))
      → slice_get phases slot ≡ Some phase → Takes image phase (file_at bodies slot) calls last final → DiskFits phases bodies (g.contents old) (g.may_leave old)
      → GoesOn phases bodies slot image last final old old calls
  goes_on_first phases bodies slot image phase last final old calls only_now same_slots is takes fits = record {
    phase = phase;
    body = file_at bodies slot;
    within = slice_get_within phases slot phase is;
    as_many = fits.count;
    fits = subst (λ bs. DiskFits (slice_set phases slot phase) bs (g.contents old) (g.may_leave old)) (sym (set_file_same bodies slot))
        (subst (λ ps. DiskFits ps bodies (g.contents old) (g.may_leave old)) (sym (set_same phases slot phase is)) fits);
    takes = takes;
    span = nothing_called g old (IsLeftBeside phases bodies slot image) (g.may_leave old) only_now (λ c may. record {
      count = same_slots c may ∙ fits.slots;
      here = takes_now image phase last (file_at bodies slot) final calls takes (file_at c slot) ((fits.each slot phase is).leaves c may);
      others = λ other p apart at. (fits.each other p at).leaves c may;
    });
  }

  -- one call more
  module _ (phases : List Phase) (bodies : List (List ℕ)) (image : List ℕ) (last : Phase) (final : List ℕ) (old now new : D) (id : RequestId) (bytes : List ℕ) (calls : Calls) (done : Bool)
      (has : GoesOn phases bodies id.slot image last final old now ((id.call, bytes) ∷ calls)) where
    abbrev ps : List Phase
    ps = slice_set phases id.slot has.phase

    abbrev bs : List (List ℕ)
    bs = slice_set bodies id.slot has.body

    abbrev next : Phase
    next = after has.phase id.call done

    abbrev body : List ℕ
    body = body_after has.body id.call bytes

    its_phases : phases_after ps id has.phase done ≡ slice_set phases id.slot next
    its_phases = set_twice phases id.slot has.phase next

    its_bodies : bodies_after bs id bytes ≡ slice_set bodies id.slot body
    its_bodies = set_twice bodies id.slot has.body (body_after (file_at bs id.slot) id.call bytes)
        ∙ ap (λ b. slice_set bodies id.slot (body_after b id.call bytes)) (get_or-set_same bodies id.slot has.body [] (let inside = has.within in let many = has.as_many in omega (arith, inside, many)))

    waits : Waits ps id has.phase
    waits = record { is = get_set_same phases id.slot has.phase has.within; ready = has.takes.1 }

    at_most : (d : Bool) → LeavesAtMost image (after has.phase id.call d) body
    at_most true = takes_now image (after has.phase id.call true) last body final calls has.takes.3
    at_most false = has.takes.2

    pub fits_after : ((phases : List Phase) (bodies : List (List ℕ)) (phase : Phase) → Waits phases id phase → DiskFits phases bodies (g.contents now) (g.may_leave now)
        → DiskFits (phases_after phases id phase done) (bodies_after bodies id bytes) (g.contents new) (g.may_leave new))
        → DiskFits (slice_set phases id.slot next) (slice_set bodies id.slot body) (g.contents new) (g.may_leave new)
    fits_after every_slot = subst (λ b. DiskFits (slice_set phases id.slot next) b (g.contents new) (g.may_leave new)) its_bodies
        (subst (λ p. DiskFits p (bodies_after bs id bytes) (g.contents new) (g.may_leave new)) its_phases (every_slot ps bs has.phase waits has.fits))

    pub span_after : ((phases : List Phase) (bodies : List (List ℕ)) (phase : Phase) → Waits phases id phase → DiskFits phases bodies (g.contents now) (g.may_leave now)
        → LeavesOnly g now new (λ c. DiskLeaves phases bodies c ⊎ DiskLeaves (phases_after phases id phase done) (bodies_after bodies id bytes) c))
        → LeavesOnly g old new (IsLeftBeside phases bodies id.slot image)
    span_after every_moment = spans_join g old now new (IsLeftBeside phases bodies id.slot image) has.span
        (span_widened g now new (λ c. DiskLeaves ps bs c ⊎ DiskLeaves (phases_after ps id has.phase done) (bodies_after bs id bytes) c) (IsLeftBeside phases bodies id.slot image)
        (λ c. ⊎_elim (left phases bodies id.slot has.phase has.body image has.within has.as_many (takes_now image has.phase last has.body final ((id.call, bytes) ∷ calls) has.takes) c)
        (λ leaves. left phases bodies id.slot next body image has.within has.as_many (at_most done) c
        (subst (λ b. DiskLeaves (slice_set phases id.slot next) b c) its_bodies (subst (λ p. DiskLeaves p (bodies_after bs id bytes) c) its_phases leaves))))
        (every_moment ps bs has.phase waits has.fits))

    pub goes_on_more : done ≡ true → ((phases : List Phase) (bodies : List (List ℕ)) (phase : Phase) → Waits phases id phase → DiskFits phases bodies (g.contents now) (g.may_leave now)
        → DiskFits (phases_after phases id phase done) (bodies_after bodies id bytes) (g.contents new) (g.may_leave new))
        → LeavesOnly g old new (IsLeftBeside phases bodies id.slot image) → GoesOn phases bodies id.slot image last final old new calls
    goes_on_more made every_slot spans = record {
      phase = after has.phase id.call true;
      body = body;
      within = has.within;
      as_many = has.as_many;
      fits = subst (λ d. DiskFits (slice_set phases id.slot (after has.phase id.call d)) (slice_set bodies id.slot body) (g.contents new) (g.may_leave new)) made (fits_after every_slot);
      takes = has.takes.3;
      span = spans;
    }

  -- the last call was made
  pub ends : (phases : List Phase) (bodies : List (List ℕ)) (slot : ℕ) (image : List ℕ) (last : Phase) (final : List ℕ) (old now : D) → GoesOn phases bodies slot image last final old now []
      → DiskFits (slice_set phases slot last) (slice_set bodies slot final) (g.contents now) (g.may_leave now)
  ends phases bodies slot image last final old now has = subst (λ b. DiskFits (slice_set phases slot last) (slice_set bodies slot b) (g.contents now) (g.may_leave now)) has.takes.2
      (subst (λ p. DiskFits (slice_set phases slot p) (slice_set bodies slot has.body) (g.contents now) (g.may_leave now)) has.takes.1 has.fits)

-- ---- the calls of a plan that are left

-- a plan that awaits nothing goes on with the calls that it has
pub calls_left : (asked new : Planned) (made : Made) → asked.awaits ≡ nothing → is_done made.answer ≡ true → new ≡ plan_after asked made → new.calls ≡ asked.calls
calls_left asked new made known done is = grind arith
