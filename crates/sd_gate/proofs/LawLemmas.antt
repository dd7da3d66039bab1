-- The laws of the phases.
use Rattle.std.proofs.Common.{◌≡◌, ◌≢◌, ⊎_elim, ℕ, ◌<◌, ◌≤◌, true, false, List, [], ◌∷◌, length, drop, map, slice_get, slice_index, slice_range, Some, ◌+◌, refl, sym, ◌∙◌, subst, arith}
use Rattle.std.proofs.lemmas.Bool.{cases_eq, cases_lt, false≢true}
use Rattle.std.proofs.lemmas.Bool.Decides.{nat_tests}
use Rattle.std.proofs.lemmas.List.{get_or-map, length-map}
use Rattle.std.proofs.lemmas.Option.{slice_get_within, get_or_from_slice_get}
use Rattle.sd_disk.specs.Contents.{file_at}
use Rattle.sd_disk.specs.Crash.{OnlyAt}
use Rattle.sd_image.specs.declared.header.Header.{Header}
use Rattle.sd_image.specs.Header.{header_text}
use Rattle.sd_image.specs.Image.{gate, is_open}
use Rattle.sd_gate.specs.declared.call.Call.TheVariants.{Write, WriteHeader, Close, Open, Cut, Sync}
use Rattle.sd_gate.specs.declared.phase.Phase.{Phase}
use Rattle.sd_gate.specs.declared.phase.Phase.TheVariants.{Raw, RawClosing, Whole, Closing, Shut, ShutSynced, Bare, Writing, Ready, Opening}
use Rattle.sd_gate.specs.Fits.{IsClosed, IsBodyOf, IsShort, PhaseLeaves, PhaseReads, SlotFits}
use Rattle.sd_gate.specs.Laws.{IsClosedOrWhole, CrashLeaves, found_phase, phase_looked_up, InspectionFindsPhase, Leads, no_call, one_call, PlansLead, AllFoundFit}
use Rattle.sd_gate.specs.Phases.{may_close, may_write, closing, filled, body_after, state_of}
use Rattle.sd_gate.specs.Sequences.{format_calls, closing_calls, body_calls, table_place}
use Rattle.sd_gate.proofs.FitLemmas.{behind_is_closed}

short_not_open : (file : List ℕ) → IsShort file → is_open file ≡ false
short_not_open file short = grind (arith, nat_tests)

closed_not_open : (file : List ℕ) → IsClosed file → is_open file ≡ false
closed_not_open file closed = let shut = closed.shut in grind (arith, nat_tests)

pub behind_whole : (body file : List ℕ) → IsBodyOf body file → IsClosedOrWhole body file
behind_whole body file behind = grind arith

pub leaves_whole_or_closed : (phase : Phase) (body file : List ℕ) → PhaseLeaves phase body file → CrashLeaves phase body file
leaves_whole_or_closed Raw body file is = short_not_open file is
leaves_whole_or_closed RawClosing body file is = short_not_open file is
leaves_whole_or_closed Whole body file is = is
leaves_whole_or_closed Shut body file is = closed_not_open file is
leaves_whole_or_closed ShutSynced body file is = closed_not_open file is
leaves_whole_or_closed Bare body file is = closed_not_open file is
leaves_whole_or_closed Writing body file is = closed_not_open file is
leaves_whole_or_closed Ready body file is = closed_not_open file (behind_is_closed body file is)
leaves_whole_or_closed _ body file is = behind_whole body file is

cut_leads : (phase : Phase) (body : List ℕ) → may_write phase ≡ true → Leads phase body ((Cut, []) ∷ []) Bare []
cut_leads phase body ready = one_call phase Bare body [] Cut [] [] ready (no_call Bare [])

-- a gate that may be open is closed
open_leads : (phase : Phase) (body : List ℕ) → may_close phase ≡ true → closing phase ≡ Closing → Leads phase body closing_calls Bare []
open_leads phase body ready is = one_call phase Bare body [] Close [] ((Sync, []) ∷ (Cut, []) ∷ []) ready
    (subst (λ p. Leads p body ((Sync, []) ∷ (Cut, []) ∷ []) Bare []) (sym is)
    (one_call Closing Bare body [] Sync [] ((Cut, []) ∷ []) refl (cut_leads Shut body refl)))

-- and so is a file that is shorter than a header
short_leads : (phase : Phase) (body : List ℕ) → may_close phase ≡ true → closing phase ≡ RawClosing → Leads phase body closing_calls Bare []
short_leads phase body ready is = one_call phase Bare body [] Close [] ((Sync, []) ∷ (Cut, []) ∷ []) ready
    (subst (λ p. Leads p body ((Sync, []) ∷ (Cut, []) ∷ []) Bare []) (sym is)
    (one_call RawClosing Bare body [] Sync [] ((Cut, []) ∷ []) refl (cut_leads Shut body refl)))

pub close_leads : (phase : Phase) (body : List ℕ) → may_close phase ≡ true → Leads phase body closing_calls Bare []
close_leads phase body ready = grind (arith, short_leads, open_leads, false≢true)

format_leads : (phase : Phase) (body : List ℕ) → Leads phase body (format_calls (state_of phase)) Bare []
format_leads phase body = grind (arith, close_leads, cut_leads)

opened_leads : (body : List ℕ) → Leads Writing body ((Sync, []) ∷ (Open, []) ∷ (Sync, []) ∷ []) Whole body
opened_leads body = one_call Writing Whole body body Sync [] ((Open, []) ∷ (Sync, []) ∷ []) refl
    (one_call Ready Whole body body Open [] ((Sync, []) ∷ []) refl
    (one_call Opening Whole body body Sync [] [] refl (no_call Whole body)))

headed_leads : (body : List ℕ) (header : Header)
    → Leads Writing body ((WriteHeader, header_text header) ∷ (Sync, []) ∷ (Open, []) ∷ (Sync, []) ∷ []) Whole (body_after body WriteHeader (header_text header))
headed_leads body header = one_call Writing Whole body (body_after body WriteHeader (header_text header)) WriteHeader (header_text header)
    ((Sync, []) ∷ (Open, []) ∷ (Sync, []) ∷ []) refl (opened_leads (body_after body WriteHeader (header_text header)))

body_leads : (phase : Phase) (body : List ℕ) (header : Header) (table : List ℕ) → may_write phase ≡ true → filled phase ≡ Writing
    → Leads phase body (body_calls header table) Whole
    (body_after (body_after body (Write (table_place header)) table) WriteHeader (header_text header))
body_leads phase body header table ready is =
    let tabled : List ℕ = body_after body (Write (table_place header)) table in
    one_call phase Whole body (body_after tabled WriteHeader (header_text header)) (Write (table_place header)) table
    ((WriteHeader, header_text header) ∷ (Sync, []) ∷ (Open, []) ∷ (Sync, []) ∷ []) ready
    (subst (λ p. Leads p tabled ((WriteHeader, header_text header) ∷ (Sync, []) ∷ (Open, []) ∷ (Sync, []) ∷ []) Whole (body_after tabled WriteHeader (header_text header))) (sym is)
    (headed_leads tabled header))

pub plans_lead : PlansLead
plans_lead = record {
  format = format_leads;
  retire = close_leads;
  page = λ phase body place page ready. one_call phase (filled phase) body (body_after body (Write place) page) (Write place) page [] ready
      (no_call (filled phase) (body_after body (Write place) page));
  close_body = body_leads;
}

found_raw : (file : List ℕ) → length file < 4096 → found_phase file ≡ Raw
found_raw file short = grind (arith, nat_tests)

found_whole : (file : List ℕ) → 4096 ≤ length file → slice_index file 0 ≡ gate → found_phase file ≡ Whole
found_whole file long is = grind (arith, nat_tests)

found_closed : (file : List ℕ) → 4096 ≤ length file → slice_index file 0 ≢ gate → found_phase file ≡ Shut
found_closed file long other = grind (arith, nat_tests)

first_same : (file first : List ℕ) → first ≡ slice_range file 0 (0 + 4096) → 4096 ≤ length file → slice_index first 0 ≡ slice_index file 0
first_same file first is long = grind arith

told_raw : (file first : List ℕ) → length file < 4096 → phase_looked_up (length file) first ≡ found_phase file
told_raw file first short = grind (arith, nat_tests)

told_long : (file first : List ℕ) → 4096 ≤ length file → slice_index first 0 ≡ slice_index file 0 → phase_looked_up (length file) first ≡ found_phase file
told_long file first long same = rw same refl

pub inspection_finds_phase : InspectionFindsPhase
inspection_finds_phase file first is = ⊎_elim (λ short. told_raw file first short) (λ long. told_long file first long (first_same file first (is long) long)) (cases_lt (length file) 4096)

spelled_open : (file : List ℕ) → 4096 ≤ length file → slice_index file 0 ≡ gate → file ≡ gate ∷ drop 1 file
spelled_open file long is = grind arith

module _ (slot : ℕ) (contents : List (List ℕ)) (may_leave : List (List ℕ) → Type 0) (only : OnlyAt slot (file_at contents slot) may_leave) where
  abbrev file : List ℕ
  file = file_at contents slot

  found_as : (phase : Phase) → found_phase file ≡ phase → PhaseReads phase (drop 1 file) file → PhaseLeaves phase (drop 1 file) file
      → SlotFits (found_phase file) (drop 1 file) slot contents may_leave
  found_as phase is reads leaves = subst (λ p. SlotFits p (drop 1 file) slot contents may_leave) (sym is) (record {
    reads = reads;
    leaves = λ c may. subst (PhaseLeaves phase (drop 1 file)) (sym (only c may)) leaves;
    as_read = λ sync. only;
  })

  pub found : SlotFits (found_phase file) (drop 1 file) slot contents may_leave
  found = ⊎_elim
      (λ short. found_as Raw (found_raw file short) short short)
      (λ long. ⊎_elim
      (λ is. found_as Whole (found_whole file long is) (spelled_open file long is) (spelled_open file long is))
      (λ other. let closed : IsClosed file = record { some = omega (arith, long); shut = other } in found_as Shut (found_closed file long other) closed closed)
      (cases_eq (slice_index file 0) gate))
      (cases_lt (length file) 4096)

-- the phase and the body of a slot, by its file
module _ (contents : List (List ℕ)) (slot : ℕ) (phase : Phase) (is : slice_get (map found_phase contents) slot ≡ Some phase) where
  there : slot < length contents
  there = subst (λ n. slot < n) (length-map contents found_phase) (slice_get_within (map found_phase contents) slot phase is)

  phase_is : found_phase (file_at contents slot) ≡ phase
  phase_is = sym (get_or-map found_phase contents slot [] Raw there) ∙ get_or_from_slice_get (map found_phase contents) slot phase Raw is

  body_is : file_at (map (drop 1) contents) slot ≡ drop 1 (file_at contents slot)
  body_is = get_or-map (drop 1) contents slot [] [] there

pub all_found : (contents : List (List ℕ)) (may_leave : List (List ℕ) → Type 0) → AllFoundFit contents may_leave
all_found contents may_leave synced = record {
  count = length-map contents (drop 1) ∙ sym (length-map contents found_phase);
  slots = sym (length-map contents found_phase);
  each = λ slot phase is.
      subst (λ p. SlotFits p (file_at (map (drop 1) contents) slot) slot contents may_leave) (phase_is contents slot phase is)
      (subst (λ b. SlotFits (found_phase (file_at contents slot)) b slot contents may_leave) (sym (body_is contents slot phase is))
      (found slot contents may_leave (synced slot (there contents slot phase is))));
}
