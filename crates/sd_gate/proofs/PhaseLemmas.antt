-- A slot through one call: from the phase that waits for it to the phase that follows.
use Rattle.std.proofs.Common.{◌≡◌, ℕ, ◌-◌, ◌<◌, ◌≤◌, true, List, [], ◌∷◌, length, take, slice_set, refl, sym, ◌∙◌, ap, subst, arith}
use Rattle.std.proofs.lemmas.Bool.{false≢true}
use Rattle.std.proofs.lemmas.List.{get_or-set_same}
use Rattle.sd_disk.specs.Contents.{file_at, file_after_write, Torn, AtSlot, Cut as CutTo}
use Rattle.sd_disk.specs.Crash.{Follows, OnlyAt}
use Rattle.sd_image.specs.Image.{gate}
use Rattle.sd_gate.specs.declared.phase.Phase.{Phase}
use Rattle.sd_gate.specs.declared.phase.Phase.TheVariants.{Raw, RawClosing, Whole, Closing, Shut, ShutSynced, Bare, Writing, Ready, Opening, Doubt, DoubtSynced}
use Rattle.sd_gate.specs.Phases.{may_close, may_write, given_up, synced, closing, filled}
use Rattle.sd_gate.specs.Fits.{IsClosed, IsBehindClosed, PhaseReads, PhaseLeaves, is_synced, SlotFits}
use Rattle.sd_gate.proofs.FitLemmas.{behind_is_closed, closed_is_behind, open_is_behind, torn_closed, cut_closed, torn_behind, torn_short, zeroed_closed, zeroed_behind, opened, filled_behind, cut_bare, written_closed}

-- a slot that may be written after its gate is closed
leaves_closed : (phase : Phase) (body file : List ℕ) → may_write phase ≡ true → PhaseLeaves phase body file → IsClosed file
leaves_closed phase body file ready is = grind arith

-- what a phase reads and leaves after a write after the gate
filled_reads : (phase : Phase) (at : ℕ) (body bytes file : List ℕ) → may_write phase ≡ true → 0 < at → PhaseReads phase body file
    → PhaseReads (filled phase) (file_after_write body (at - 1) bytes) (file_after_write file at bytes)
filled_reads Shut at body bytes file ready behind is = written_closed at bytes file behind is
filled_reads ShutSynced at body bytes file ready behind is = written_closed at bytes file behind is
filled_reads Bare at body bytes file ready behind is = subst (λ b. IsBehindClosed (file_after_write b (at - 1) bytes) (file_after_write file at bytes)) (sym is.0) (filled_behind at [] bytes file behind is.1)
filled_reads Writing at body bytes file ready behind is = filled_behind at body bytes file behind is
filled_reads Ready at body bytes file ready behind is = filled_behind at body bytes file behind is
filled_reads _ at body bytes file ready behind is = absurd (false≢true ready)

filled_leaves : (phase : Phase) (body file : List ℕ) → may_write phase ≡ true → IsClosed file → PhaseLeaves (filled phase) body file
filled_leaves Shut body file ready is = is
filled_leaves ShutSynced body file ready is = is
filled_leaves Bare body file ready is = is
filled_leaves Writing body file ready is = is
filled_leaves Ready body file ready is = is
filled_leaves _ body file ready is = absurd (false≢true ready)

filled_unsynced : (phase : Phase) → may_write phase ≡ true → is_synced (filled phase) ≡ true → ⊥
filled_unsynced phase ready sync = grind arith

-- after a 0 over the gate
closing_reads : (phase : Phase) (body file : List ℕ) → may_close phase ≡ true → PhaseLeaves phase body file → PhaseReads (closing phase) body (file_after_write file 0 (0 ∷ []))
closing_reads Raw body file ready is = zeroed_closed file
closing_reads RawClosing body file ready is = zeroed_closed file
closing_reads Whole body file ready is = zeroed_behind body file (open_is_behind body file is)
closing_reads Closing body file ready is = zeroed_behind body file is
closing_reads Opening body file ready is = zeroed_behind body file is
closing_reads Doubt body file ready is = zeroed_behind body file is
closing_reads DoubtSynced body file ready is = zeroed_behind body file is
closing_reads _ body file ready is = absurd (false≢true ready)

closing_leaves : (phase : Phase) (body old new : List ℕ) → may_close phase ≡ true → PhaseLeaves phase body old → Torn 0 1 old new → PhaseLeaves (closing phase) body new
closing_leaves Raw body old new ready is torn = torn_short old new is torn
closing_leaves RawClosing body old new ready is torn = torn_short old new is torn
closing_leaves Whole body old new ready is torn = torn_behind body old new (open_is_behind body old is) torn
closing_leaves Closing body old new ready is torn = torn_behind body old new is torn
closing_leaves Opening body old new ready is torn = torn_behind body old new is torn
closing_leaves Doubt body old new ready is torn = torn_behind body old new is torn
closing_leaves DoubtSynced body old new ready is torn = torn_behind body old new is torn
closing_leaves _ body old new ready is torn = absurd (false≢true ready)

closing_unsynced : (phase : Phase) → may_close phase ≡ true → is_synced (closing phase) ≡ true → ⊥
closing_unsynced phase ready sync = grind arith

-- a failed write over the gate
failed_closing_leaves : (phase : Phase) (body file : List ℕ) → may_close phase ≡ true → PhaseLeaves (closing phase) body file → PhaseLeaves (given_up (closing phase)) body file × PhaseReads (given_up (closing phase)) body file
failed_closing_leaves Shut body file ready is = absurd (false≢true ready)
failed_closing_leaves ShutSynced body file ready is = absurd (false≢true ready)
failed_closing_leaves Bare body file ready is = absurd (false≢true ready)
failed_closing_leaves Writing body file ready is = absurd (false≢true ready)
failed_closing_leaves Ready body file ready is = absurd (false≢true ready)
failed_closing_leaves _ body file ready is = (is, is)

failed_closing_unsynced : (phase : Phase) → may_close phase ≡ true → is_synced (given_up (closing phase)) ≡ true → ⊥
failed_closing_unsynced phase ready sync = grind arith

-- after a sync what is read is what a crash leaves
synced_reads : (phase : Phase) (body file : List ℕ) → PhaseReads phase body file → PhaseReads (synced phase) body file
synced_reads Closing body file is = behind_is_closed body file is
synced_reads Bare body file is = behind_is_closed [] file is.1
synced_reads _ body file is = is

synced_leaves : (phase : Phase) (body file : List ℕ) → PhaseReads (synced phase) body file → PhaseLeaves (synced phase) body file
synced_leaves Raw body file is = is
synced_leaves _ body file is = is

-- a job that is given up
given_up_reads : (phase : Phase) (body file : List ℕ) → PhaseReads phase body file → PhaseLeaves phase body file → PhaseReads (given_up phase) body file
given_up_reads RawClosing body file is may = may
given_up_reads Closing body file is may = may
given_up_reads Writing body file is may = may
given_up_reads Ready body file is may = behind_is_closed body file may
given_up_reads Opening body file is may = may
given_up_reads _ body file is may = is

given_up_leaves : (phase : Phase) (body file : List ℕ) → PhaseLeaves phase body file → PhaseLeaves (given_up phase) body file
given_up_leaves Ready body file may = behind_is_closed body file may
given_up_leaves _ body file may = may

given_up_synced : (phase : Phase) → is_synced (given_up phase) ≡ true → is_synced phase ≡ true
given_up_synced phase sync = grind arith

module _ (slot : ℕ) (old : List (List ℕ)) (before : List (List ℕ) → Type 0) (now_read : before old) where
  -- what is read is one outcome of a crash
  pub may_read : (phase : Phase) (body : List ℕ) → SlotFits phase body slot old before → PhaseLeaves phase body (file_at old slot)
  may_read phase body fits = fits.leaves old now_read

  pub slot_given_up : (phase : Phase) (body : List ℕ) → SlotFits phase body slot old before → SlotFits (given_up phase) body slot old before
  slot_given_up phase body fits = record {
    reads = given_up_reads phase body (file_at old slot) fits.reads (may_read phase body fits);
    leaves = λ c may. given_up_leaves phase body (file_at c slot) (fits.leaves c may);
    as_read = λ sync. fits.as_read (given_up_synced phase sync);
  }

  pub cut_inside : (phase : Phase) (body : List ℕ) → may_write phase ≡ true → SlotFits phase body slot old before → 1 ≤ length (file_at old slot)
  cut_inside phase body ready fits = let closed = leaves_closed phase body (file_at old slot) ready (may_read phase body fits) in omega (arith, closed.some)

  -- a call that changes nothing
  pub slot_kept : (phase : Phase) (body : List ℕ) (new : List (List ℕ)) (after_it : List (List ℕ) → Type 0) → new ≡ old
      → Follows (λ c d. d ≡ c) before after_it → SlotFits phase body slot old before → SlotFits phase body slot new after_it
  slot_kept phase body new after_it same crash fits = record {
    reads = subst (λ c. PhaseReads phase body (file_at c slot)) (sym same) fits.reads;
    leaves = λ c may. let was = crash c may in subst (λ d. PhaseLeaves phase body (file_at d slot)) (sym was.2) (fits.leaves was.0 was.1);
    as_read = λ sync c may. let was = crash c may in ap (λ d. file_at d slot) was.2 ∙ fits.as_read sync was.0 was.1 ∙ ap (λ d. file_at d slot) (sym same);
  }

  pub slot_synced : (phase : Phase) (body : List ℕ) (new : List (List ℕ)) (after_it : List (List ℕ) → Type 0) → new ≡ old
      → OnlyAt slot (file_at old slot) after_it → SlotFits phase body slot old before → SlotFits (synced phase) body slot new after_it
  slot_synced phase body new after_it same durable fits =
      let here : PhaseReads (synced phase) body (file_at old slot) = synced_reads phase body (file_at old slot) fits.reads in
      record {
        reads = subst (λ c. PhaseReads (synced phase) body (file_at c slot)) (sym same) here;
        leaves = λ c may. subst (PhaseLeaves (synced phase) body) (sym (durable c may)) (synced_leaves phase body (file_at old slot) here);
        as_read = λ sync c may. durable c may ∙ ap (λ d. file_at d slot) (sym same);
      }

  module _ (new : List (List ℕ)) (after_it : List (List ℕ) → Type 0) (there : slot < length old) where
    here : (file : List ℕ) → new ≡ slice_set old slot file → file_at new slot ≡ file
    here file is = ap (λ c. file_at c slot) is ∙ get_or-set_same old slot file [] there

    pub slot_filled : (phase : Phase) (body bytes : List ℕ) (at : ℕ) → may_write phase ≡ true → 0 < at
        → new ≡ slice_set old slot (file_after_write (file_at old slot) at bytes) → Follows (AtSlot slot (Torn at (length bytes))) before after_it
        → SlotFits phase body slot old before → SlotFits (filled phase) (file_after_write body (at - 1) bytes) slot new after_it
    slot_filled phase body bytes at ready behind is crash fits = record {
      reads = subst (PhaseReads (filled phase) (file_after_write body (at - 1) bytes)) (sym (here (file_after_write (file_at old slot) at bytes) is))
          (filled_reads phase at body bytes (file_at old slot) ready behind fits.reads);
      leaves = λ c may. let was = crash c may in
          filled_leaves phase (file_after_write body (at - 1) bytes) (file_at c slot) ready
          (torn_closed at (length bytes) (file_at was.0 slot) (file_at c slot) behind (leaves_closed phase body (file_at was.0 slot) ready (fits.leaves was.0 was.1)) was.2.here);
      as_read = λ sync. absurd (filled_unsynced phase ready sync);
    }

    pub slot_not_filled : (phase : Phase) (body other : List ℕ) (at n : ℕ) → may_write phase ≡ true → 0 < at
        → AtSlot slot (Torn at n) old new → Follows (AtSlot slot (Torn at n)) before after_it
        → SlotFits phase body slot old before → SlotFits Shut other slot new after_it
    slot_not_filled phase body other at n ready behind torn crash fits = record {
      reads = torn_closed at n (file_at old slot) (file_at new slot) behind (leaves_closed phase body (file_at old slot) ready (may_read phase body fits)) torn.here;
      leaves = λ c may. let was = crash c may in
          torn_closed at n (file_at was.0 slot) (file_at c slot) behind (leaves_closed phase body (file_at was.0 slot) ready (fits.leaves was.0 was.1)) was.2.here;
      as_read = λ sync. absurd (false≢true sync);
    }

    pub slot_cut : (phase : Phase) (body : List ℕ) → may_write phase ≡ true
        → new ≡ slice_set old slot (take 1 (file_at old slot)) → Follows (AtSlot slot (CutTo 1)) before after_it
        → SlotFits phase body slot old before → SlotFits Bare [] slot new after_it
    slot_cut phase body ready is crash fits = record {
      reads = (refl, subst (IsBehindClosed []) (sym (here (take 1 (file_at old slot)) is)) (cut_bare (file_at old slot) (leaves_closed phase body (file_at old slot) ready (may_read phase body fits))));
      leaves = λ c may. let was = crash c may in
          cut_closed (file_at was.0 slot) (file_at c slot) (leaves_closed phase body (file_at was.0 slot) ready (fits.leaves was.0 was.1)) was.2.here;
      as_read = λ sync. absurd (false≢true sync);
    }

    pub slot_not_cut : (phase : Phase) (body other : List ℕ) → may_write phase ≡ true
        → AtSlot slot (CutTo 1) old new → Follows (AtSlot slot (CutTo 1)) before after_it
        → SlotFits phase body slot old before → SlotFits Shut other slot new after_it
    slot_not_cut phase body other ready torn crash fits = record {
      reads = cut_closed (file_at old slot) (file_at new slot) (leaves_closed phase body (file_at old slot) ready (may_read phase body fits)) torn.here;
      leaves = λ c may. let was = crash c may in
          cut_closed (file_at was.0 slot) (file_at c slot) (leaves_closed phase body (file_at was.0 slot) ready (fits.leaves was.0 was.1)) was.2.here;
      as_read = λ sync. absurd (false≢true sync);
    }

    pub slot_closing : (phase : Phase) (body : List ℕ) → may_close phase ≡ true
        → new ≡ slice_set old slot (file_after_write (file_at old slot) 0 (0 ∷ [])) → Follows (AtSlot slot (Torn 0 1)) before after_it
        → SlotFits phase body slot old before → SlotFits (closing phase) body slot new after_it
    slot_closing phase body ready is crash fits = record {
      reads = subst (PhaseReads (closing phase) body) (sym (here (file_after_write (file_at old slot) 0 (0 ∷ [])) is))
          (closing_reads phase body (file_at old slot) ready (may_read phase body fits));
      leaves = λ c may. let was = crash c may in
          closing_leaves phase body (file_at was.0 slot) (file_at c slot) ready (fits.leaves was.0 was.1) was.2.here;
      as_read = λ sync. absurd (closing_unsynced phase ready sync);
    }

    pub slot_not_closing : (phase : Phase) (body : List ℕ) → may_close phase ≡ true
        → AtSlot slot (Torn 0 1) old new → Follows (AtSlot slot (Torn 0 1)) before after_it
        → SlotFits phase body slot old before → SlotFits (given_up (closing phase)) body slot new after_it
    slot_not_closing phase body ready torn crash fits = record {
      reads = (failed_closing_leaves phase body (file_at new slot) ready
          (closing_leaves phase body (file_at old slot) (file_at new slot) ready (may_read phase body fits) torn.here)).1;
      leaves = λ c may. let was = crash c may in
          (failed_closing_leaves phase body (file_at c slot) ready
          (closing_leaves phase body (file_at was.0 slot) (file_at c slot) ready (fits.leaves was.0 was.1) was.2.here)).0;
      as_read = λ sync. absurd (failed_closing_unsynced phase ready sync);
    }

    pub slot_opening : (body : List ℕ)
        → new ≡ slice_set old slot (file_after_write (file_at old slot) 0 (gate ∷ [])) → Follows (AtSlot slot (Torn 0 1)) before after_it
        → SlotFits Ready body slot old before → SlotFits Opening body slot new after_it
    slot_opening body is crash fits = record {
      reads = here (file_after_write (file_at old slot) 0 (gate ∷ [])) is ∙ opened body (file_at old slot) (closed_is_behind body (file_at old slot) fits.reads);
      leaves = λ c may. let was = crash c may in
          torn_behind body (file_at was.0 slot) (file_at c slot) (closed_is_behind body (file_at was.0 slot) (fits.leaves was.0 was.1)) was.2.here;
      as_read = λ sync. absurd (false≢true sync);
    }

    pub slot_not_opening : (body : List ℕ)
        → AtSlot slot (Torn 0 1) old new → Follows (AtSlot slot (Torn 0 1)) before after_it
        → SlotFits Ready body slot old before → SlotFits Doubt body slot new after_it
    slot_not_opening body torn crash fits = record {
      reads = torn_behind body (file_at old slot) (file_at new slot) (closed_is_behind body (file_at old slot) fits.reads) torn.here;
      leaves = λ c may. let was = crash c may in
          torn_behind body (file_at was.0 slot) (file_at c slot) (closed_is_behind body (file_at was.0 slot) (fits.leaves was.0 was.1)) was.2.here;
      as_read = λ sync. absurd (false≢true sync);
    }
