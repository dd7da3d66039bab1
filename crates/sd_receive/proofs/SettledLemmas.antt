-- What a crash leaves of a disk on which each slot is closed or has its image.
use Rattle.std.proofs.Common.{◌≡◌, ◌≢◌, ◌⊎◌, ⊎_elim, ℕ, zero, suc, ◌<◌, ◌≤◌, Bool, true, false, List, [], ◌∷◌, length, slice_get, slice_set, drop, map, Some, inl, inr, refl, sym, ◌∙◌, ap, subst, arith}
use Rattle.std.proofs.lemmas.Bool.{cases_eq}
use Rattle.std.proofs.lemmas.List.{get_or-set_same, get_or-set_other, length-set}
use Rattle.sd_disk.specs.Contents.{file_at}
use Rattle.sd_disk.specs.Crash.{OnlyAt, Within}
use Rattle.sd_image.specs.Image.{gate, is_open}
use Rattle.sd_gate.specs.declared.phase.Phase.{Phase}
use Rattle.sd_gate.specs.declared.phase.Phase.TheVariants.{Raw, RawClosing, Whole, Closing, Shut, ShutSynced, Bare}
use Rattle.sd_gate.specs.declared.phase.Phase.TheVariants.{Writing, Ready, Opening, Doubt, DoubtSynced}
use Rattle.sd_gate.specs.Fits.{IsBehindClosed, IsClosed, IsShort, PhaseLeaves, PhaseReads, SlotFits}
use Rattle.sd_gate.specs.Laws.{AllFoundFit, FoundFits, IsClosedOrWhole, found_phase}
use Rattle.sd_receive.specs.Arriving.{IsFilled, IsSettled, KeepsImages, is_settled}
use Rattle.sd_receive.specs.PlanRuns.{IsLeftBeside}
use Rattle.sd_receive.proofs.RunLemmas.{get_set_other, get_set_same}

-- ---- files that are closed

pub short_is_closed : (file : List ℕ) → IsShort file → is_open file ≡ false
short_is_closed file short = grind arith

pub shut_is_closed : (file : List ℕ) → IsClosed file → is_open file ≡ false
shut_is_closed file shut = grind arith

pub slot_closed : (body file : List ℕ) → IsBehindClosed body file → is_open file ≡ false
slot_closed body file is = grind arith

pub nothing_is_closed : (c : List (List ℕ)) (slot : ℕ) → length c ≤ slot → is_open (file_at c slot) ≡ false
nothing_is_closed [] slot beyond = refl
nothing_is_closed (x ∷ xs) zero beyond = absurd (omega (arith, beyond))
nothing_is_closed (x ∷ xs) (suc slot) beyond = nothing_is_closed xs slot (omega (arith, beyond))

-- a byte alone is no image
pub closed_of_nothing : (file : List ℕ) → IsClosedOrWhole [] file → is_open file ≡ false
closed_of_nothing file (inl closed) = closed
closed_of_nothing file (inr whole) = subst (λ f. is_open f ≡ false) (sym whole) refl

-- a slot in a phase that is closed, or has its image
data Rests (phase : Phase) (body : List ℕ) : Type 0 where
  has_image : phase ≡ Whole → Rests phase body
  has_none : ((file : List ℕ) → PhaseReads phase body file → is_open file ≡ false) → ((file : List ℕ) → PhaseLeaves phase body file → is_open file ≡ false) → Rests phase body

rests : (phase : Phase) (body : List ℕ) → is_settled phase ≡ true → Rests phase body
rests Raw body is = Rests.has_none short_is_closed short_is_closed
rests RawClosing body is = Rests.has_none shut_is_closed short_is_closed
rests Whole body is = Rests.has_image refl
rests Closing body is = absurd (let no_it : false ≡ true = is in cc)
rests Shut body is = Rests.has_none shut_is_closed shut_is_closed
rests ShutSynced body is = Rests.has_none shut_is_closed shut_is_closed
rests Bare body is = Rests.has_none (λ file reads. slot_closed [] file reads.1) shut_is_closed
rests Writing body is = Rests.has_none (slot_closed body) shut_is_closed
rests Ready body is = Rests.has_none (slot_closed body) (slot_closed body)
rests Opening body is = absurd (let no_it : false ≡ true = is in cc)
rests Doubt body is = absurd (let no_it : false ≡ true = is in cc)
rests DoubtSynced body is = absurd (let no_it : false ≡ true = is in cc)

pub phase_at : (phases : List Phase) (slot : ℕ) → slot < length phases → (phase : Phase) × (slice_get phases slot ≡ Some phase)
phase_at [] slot inside = absurd (omega (arith, inside))
phase_at (p ∷ ps) zero inside = (p, refl)
phase_at (p ∷ ps) (suc slot) inside = phase_at ps slot (omega (arith, inside))

pub within_or_beyond : (slot count : ℕ) → (slot < count) ⊎ (count ≤ slot)
within_or_beyond zero zero = inr (omega arith)
within_or_beyond zero (suc count) = inl (omega arith)
within_or_beyond (suc slot) zero = inr (omega arith)
within_or_beyond (suc slot) (suc count) = ⊎_elim (λ less. inl (omega (arith, less))) (λ more. inr (omega (arith, more))) (within_or_beyond slot count)

-- ---- what a crash leaves

-- one slot: the same image, or closed
slot_keeps : (phase : Phase) (body before after : List ℕ) → is_settled phase ≡ true → PhaseReads phase body before → PhaseLeaves phase body after
    → (is_open before ≡ true → after ≡ before) × (is_open before ≡ false → is_open after ≡ false)
slot_keeps phase body before after settled reads leaves = by (rests phase body settled)
  where
    clash : (b : Bool) → b ≡ true → b ≡ false → ⊥
    clash true is not = cc
    clash false is not = cc

    by : Rests phase body → (is_open before ≡ true → after ≡ before) × (is_open before ≡ false → is_open after ≡ false)
    by (Rests.has_image is) =
        let was : before ≡ gate ∷ body = subst (λ p. PhaseReads p body before) is reads in
        let now : after ≡ gate ∷ body = subst (λ p. PhaseLeaves p body after) is leaves in
        (λ opens. now ∙ sym was, λ closed. ap is_open (now ∙ sym was) ∙ closed)
    by (Rests.has_none was now) = (λ opens. absurd (clash (is_open before) opens (was before reads)), λ closed. now after leaves)

pub settled_leaves : (contents c : List (List ℕ)) (may_leave : List (List ℕ) → Type 0) → IsSettled contents may_leave → length c ≡ length contents → may_leave c → KeepsImages contents c
settled_leaves contents c may_leave rest count may = record {
  count = count;
  opened = λ slot opens. ⊎_elim (λ inside. (at slot inside).0 opens)
      (λ beyond. absurd (let no_it : true ≡ false = sym opens ∙ nothing_is_closed contents slot beyond in cc)) (within_or_beyond slot (length contents));
  closed = λ slot shut. ⊎_elim (λ inside. (at slot inside).1 shut) (λ beyond. nothing_is_closed c slot (omega (arith, beyond, count))) (within_or_beyond slot (length contents));
}
  where
    at : (slot : ℕ) → slot < length contents → (is_open (file_at contents slot) ≡ true → file_at c slot ≡ file_at contents slot) × (is_open (file_at contents slot) ≡ false → is_open (file_at c slot) ≡ false)
    at slot inside =
        let many = rest.fits.slots in
        let p = phase_at rest.phases slot (omega (arith, inside, many)) in
        let fits = rest.fits.each slot p.0 p.1 in
        slot_keeps p.0 (file_at rest.bodies slot) (file_at contents slot) (file_at c slot) (rest.settled slot p.0 p.1) fits.reads (fits.leaves c may)

-- all the way through the calls of a plan on a closed slot, of which a crash leaves no image
pub beside_keeps : (contents c : List (List ℕ)) (may_leave : List (List ℕ) → Type 0) (rest : IsSettled contents may_leave) (slot : ℕ) → is_open (file_at contents slot) ≡ false
    → IsLeftBeside rest.phases rest.bodies slot [] c → KeepsImages contents c
beside_keeps contents c may_leave rest slot shut left = record {
  count = left.count ∙ sym rest.fits.slots;
  opened = λ other opens. ⊎_elim (λ same. absurd (let no_it : true ≡ false = sym opens ∙ ap (λ s. is_open (file_at contents s)) same ∙ shut in cc))
      (λ apart. ⊎_elim (λ inside. (at other apart inside).0 opens) (λ beyond. absurd (let no_it : true ≡ false = sym opens ∙ nothing_is_closed contents other beyond in cc))
      (within_or_beyond other (length contents))) (cases_eq other slot);
  closed = λ other closed. ⊎_elim (λ same. subst (λ s. is_open (file_at c s) ≡ false) (sym same) (closed_of_nothing (file_at c slot) left.here))
      (λ apart. ⊎_elim (λ inside. (at other apart inside).1 closed) (λ beyond. nothing_is_closed c other (let count = left.count in let many = rest.fits.slots in omega (arith, beyond, count, many)))
      (within_or_beyond other (length contents))) (cases_eq other slot);
}
  where
    at : (other : ℕ) → other ≢ slot → other < length contents
        → (is_open (file_at contents other) ≡ true → file_at c other ≡ file_at contents other) × (is_open (file_at contents other) ≡ false → is_open (file_at c other) ≡ false)
    at other apart inside =
        let many = rest.fits.slots in
        let p = phase_at rest.phases other (omega (arith, inside, many)) in
        slot_keeps p.0 (file_at rest.bodies other) (file_at contents other) (file_at c other) (rest.settled other p.0 p.1) (rest.fits.each other p.0 p.1).reads (left.others other p.0 apart p.1)

-- all the way through the calls of a plan each other slot has its image, or none, as before
pub others_keep : (contents c : List (List ℕ)) (may_leave : List (List ℕ) → Type 0) (rest : IsSettled contents may_leave) (slot : ℕ) (image : List ℕ)
    → IsLeftBeside rest.phases rest.bodies slot image c → (other : ℕ) → other ≢ slot
    → (is_open (file_at contents other) ≡ true → file_at c other ≡ file_at contents other) × (is_open (file_at contents other) ≡ false → is_open (file_at c other) ≡ false)
others_keep contents c may_leave rest slot image left other apart = ⊎_elim
    (λ inside. (let many = rest.fits.slots in
    let p = phase_at rest.phases other (omega (arith, inside, many)) in
    slot_keeps p.0 (file_at rest.bodies other) (file_at contents other) (file_at c other) (rest.settled other p.0 p.1) (rest.fits.each other p.0 p.1).reads (left.others other p.0 apart p.1)))
    (λ beyond. (
      λ opens. absurd (let no_it : true ≡ false = sym opens ∙ nothing_is_closed contents other beyond in cc),
      λ closed. nothing_is_closed c other (let count = left.count in let many = rest.fits.slots in omega (arith, beyond, count, many)),
    )) (within_or_beyond other (length contents))

-- a slot that is open has its whole image
pub open_is_whole : (phase : Phase) (body file : List ℕ) → is_settled phase ≡ true → PhaseReads phase body file → is_open file ≡ true → phase ≡ Whole
open_is_whole phase body file settled reads opens = by (rests phase body settled)
  where
    by : Rests phase body → phase ≡ Whole
    by (Rests.has_image is) = is
    by (Rests.has_none was now) = absurd (let no_it : true ≡ false = sym opens ∙ was file reads in cc)

-- ---- a slot that was synced is in the phase of its file

module _ (contents : List (List ℕ)) (before now : List (List ℕ) → Type 0) (slot : ℕ) (rest : IsSettled contents before) (inside : slot < length contents) (fewer : Within now before)
    (only : OnlyAt slot (file_at contents slot) now) (found : FoundFits contents now) (shut : is_open (file_at contents slot) ≡ false) where
  abbrev file : List ℕ
  file = file_at contents slot

  abbrev here : slot < length rest.phases
  here = let many = rest.fits.slots in omega (arith, inside, many)

  fits_of : (other : ℕ) (phase : Phase) → slice_get (slice_set rest.phases slot (found_phase file)) other ≡ Some phase
      → (((other ≡ slot) × (phase ≡ found_phase file)) ⊎ ((other ≢ slot) × (slice_get rest.phases other ≡ Some phase)))
  fits_of other phase is = ⊎_elim
      (λ same. inl (same, (let e : Some (found_phase file) ≡ Some phase = sym (get_set_same rest.phases slot (found_phase file) here) ∙ ap (slice_get (slice_set rest.phases slot (found_phase file))) (sym same) ∙ is in cc)))
      (λ apart. inr (apart, sym (get_set_other rest.phases slot other (found_phase file) apart) ∙ is)) (cases_eq other slot)

  pub settled_synced : IsSettled contents now
  settled_synced = record {
    phases = slice_set rest.phases slot (found_phase file);
    bodies = slice_set rest.bodies slot (drop 1 file);
    fits = record {
      count = length-set rest.bodies slot (drop 1 file) ∙ rest.fits.count ∙ sym (length-set rest.phases slot (found_phase file));
      slots = rest.fits.slots ∙ sym (length-set rest.phases slot (found_phase file));
      each = λ other phase is. ⊎_elim
          (λ it. subst (λ s. SlotFits phase (file_at (slice_set rest.bodies slot (drop 1 file)) s) s contents now) (sym it.0)
          (subst (λ b. SlotFits phase b slot contents now) (sym (get_or-set_same rest.bodies slot (drop 1 file) [] (let many = rest.fits.count in omega (arith, here, many))))
          (subst (λ p. SlotFits p (drop 1 file) slot contents now) (sym it.1) (found slot only))))
          (λ it. subst (λ b. SlotFits phase b other contents now) (sym (get_or-set_other rest.bodies slot other (drop 1 file) [] it.0)) (kept other phase (rest.fits.each other phase it.1)))
          (fits_of other phase is);
    };
    settled = λ other phase is. ⊎_elim (λ it. subst (λ p. is_settled p ≡ true) (sym it.1) (found_settled file)) (λ it. rest.settled other phase it.1) (fits_of other phase is);
  }
    where
      found_settled : (f : List ℕ) → is_settled (found_phase f) ≡ true
      found_settled f = grind arith

      kept : (other : ℕ) (phase : Phase) → SlotFits phase (file_at rest.bodies other) other contents before → SlotFits phase (file_at rest.bodies other) other contents now
      kept other phase fits = record { reads = fits.reads; leaves = λ c may. fits.leaves c (fewer c may); as_read = λ synced c may. fits.as_read synced c (fewer c may) }

  pub synced_phase : slice_get settled_synced.phases slot ≡ Some (found_phase file)
  unfolding settled_synced
  synced_phase = get_set_same rest.phases slot (found_phase file) here

-- so is each slot of a disk whose slots were all synced
pub all_settled : (contents : List (List ℕ)) (may_leave : List (List ℕ) → Type 0) → AllFoundFit contents may_leave
    → ((slot : ℕ) → slot < length contents → OnlyAt slot (file_at contents slot) may_leave) → IsSettled contents may_leave
all_settled contents may_leave fits synced = record {
  phases = map found_phase contents;
  bodies = map (drop 1) contents;
  fits = fits synced;
  settled = settled contents;
}
  where
    found_settled : (f : List ℕ) → is_settled (found_phase f) ≡ true
    found_settled f = grind arith

    settled : (files : List (List ℕ)) (slot : ℕ) (phase : Phase) → slice_get (map found_phase files) slot ≡ Some phase → is_settled phase ≡ true
    settled [] slot phase is = absurd (let no_it : slice_get {X = Phase} [] slot ≡ Some phase = is in cc)
    settled (f ∷ files) zero phase is = subst (λ p. is_settled p ≡ true) (let e : Some (found_phase f) ≡ Some phase = is in cc) (found_settled f)
    settled (f ∷ files) (suc slot) phase is = settled files slot phase is

-- where a crash leaves less
pub settled_fewer : (contents : List (List ℕ)) (before now : List (List ℕ) → Type 0) → Within now before → IsSettled contents before → IsSettled contents now
settled_fewer contents before now fewer rest = record {
  phases = rest.phases;
  bodies = rest.bodies;
  fits = record {
    count = rest.fits.count;
    slots = rest.fits.slots;
    each = λ slot phase is. let fits = rest.fits.each slot phase is in
        record { reads = fits.reads; leaves = λ c may. fits.leaves c (fewer c may); as_read = λ synced c may. fits.as_read synced c (fewer c may) };
  };
  settled = rest.settled;
}

-- a slot is as full after reads
pub filled_fewer : (contents : List (List ℕ)) (before now : List (List ℕ) → Type 0) (slot : ℕ) (pages : List (List ℕ)) → Within now before
    → IsFilled contents before slot pages → IsFilled contents now slot pages
unfolding settled_fewer
filled_fewer contents before now slot pages fewer fill = record {
  rests = settled_fewer contents before now fewer fill.rests;
  phase = fill.phase;
  is = fill.is;
  ready = fill.ready;
  fills = fill.fills;
  body = fill.body;
  whole = fill.whole;
}
