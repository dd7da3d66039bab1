-- A slot through any one call.
use Rattle.std.proofs.Common.{◌≡◌, ◌≢◌, ℕ, ◌<◌, lit<, Bool, true, false, List, length, refl, sym, ◌∙◌, subst, arith}
use Rattle.std.proofs.lemmas.Bool.{false≢true}
use Rattle.sd_disk.specs.Contents.{file_at}
use Rattle.sd_disk.specs.Crash.{Follows, OnlyAt}
use Rattle.sd_gate.specs.declared.call.Call.{Call}
use Rattle.sd_gate.specs.declared.call.Call.TheVariants.{Write, WriteHeader, Close, Open, Cut, Sync}
use Rattle.sd_gate.specs.declared.phase.Phase.{Phase}
use Rattle.sd_gate.specs.declared.phase.Phase.TheVariants.{Ready}
use Rattle.sd_gate.specs.Calls.{contents_after, Makes, IsBehindGate, IsLook, IsSoundOrder, call_of}
use Rattle.sd_gate.specs.declared.order.Order.{Order}
use Rattle.sd_gate.specs.Phases.{may_open, is_ready, after, body_after}
use Rattle.sd_gate.specs.Fits.{PhaseReads, PhaseLeaves, SlotFits}
use Rattle.sd_gate.proofs.PhaseLemmas.{slot_given_up, slot_kept, slot_synced, slot_filled, slot_not_filled, slot_cut, slot_not_cut, slot_closing, slot_not_closing, slot_opening, slot_not_opening}

-- what is known of a call that was made
pub record IsMade (slot : ℕ) (call : Call) (bytes : List ℕ) (done : Bool) (old new : List (List ℕ)) (before now : List (List ℕ) → Type 0) : Type 0 where
  pub there : slot < length old
  pub behind : IsBehindGate call
  pub now_read : before old
  pub whole : done ≡ true → new ≡ contents_after call bytes slot old
  pub torn : Makes call bytes slot old new
  pub crash : Follows (Makes call bytes slot) before now
  pub durable : call ≡ Sync → done ≡ true → OnlyAt slot (file_at old slot) now

-- a sound order leaves the gate
pub behind_gate : (order : Order) → IsSoundOrder order → IsBehindGate (call_of order)
behind_gate order sound = grind arith

module _ (slot : ℕ) (bytes : List ℕ) (old new : List (List ℕ)) (before now : List (List ℕ) → Type 0) where
  opens : (phase : Phase) (body : List ℕ) (done : Bool) → may_open phase ≡ true → IsMade slot Open bytes done old new before now
      → SlotFits phase body slot old before → SlotFits (after phase Open done) body slot new now
  opens Ready body true ready made fits = slot_opening slot old before made.now_read new now made.there body (made.whole refl) made.crash fits
  opens Ready body false ready made fits = slot_not_opening slot old before made.now_read new now made.there body made.torn made.crash fits
  opens _ body done ready made fits = absurd (false≢true ready)

  pub follows : (call : Call) (done : Bool) (phase : Phase) (body : List ℕ) → IsMade slot call bytes done old new before now → is_ready phase call ≡ true
      → SlotFits phase body slot old before → SlotFits (after phase call done) (body_after body call bytes) slot new now
  follows (Write at) true phase body made ready fits = slot_filled slot old before made.now_read new now made.there phase body bytes at ready made.behind (made.whole refl) made.crash fits
  follows (Write at) false phase body made ready fits = slot_not_filled slot old before made.now_read new now made.there phase body _ at (length bytes) ready made.behind made.torn made.crash fits
  follows WriteHeader true phase body made ready fits = slot_filled slot old before made.now_read new now made.there phase body bytes 1 ready (lit< tt) (made.whole refl) made.crash fits
  follows WriteHeader false phase body made ready fits = slot_not_filled slot old before made.now_read new now made.there phase body _ 1 (length bytes) ready (lit< tt) made.torn made.crash fits
  follows Close true phase body made ready fits = slot_closing slot old before made.now_read new now made.there phase body ready (made.whole refl) made.crash fits
  follows Close false phase body made ready fits = slot_not_closing slot old before made.now_read new now made.there phase body ready made.torn made.crash fits
  follows Open done phase body made ready fits = opens phase body done ready made fits
  follows Cut true phase body made ready fits = slot_cut slot old before made.now_read new now made.there phase body ready (made.whole refl) made.crash fits
  follows Cut false phase body made ready fits = slot_not_cut slot old before made.now_read new now made.there phase body _ ready made.torn made.crash fits
  follows Sync true phase body made ready fits = slot_synced slot old before made.now_read phase body new now made.torn (made.durable refl refl) fits
  follows Sync false phase body made ready fits = slot_kept slot old before made.now_read _ body new now made.torn made.crash (slot_given_up slot old before made.now_read phase body fits)
  follows _ done phase body made ready fits = slot_kept slot old before made.now_read phase body new now made.torn made.crash fits

-- a call changes one slot
pub makes_elsewhere : (call : Call) (bytes : List ℕ) (slot : ℕ) (old new : List (List ℕ)) (other : ℕ) → other ≢ slot → Makes call bytes slot old new
    → file_at new other ≡ file_at old other
makes_elsewhere call bytes slot old new other apart makes = grind arith

-- and no call changes how many there are
pub makes_as_many : (call : Call) (bytes : List ℕ) (slot : ℕ) (old new : List (List ℕ)) → Makes call bytes slot old new → length new ≡ length old
makes_as_many call bytes slot old new makes = grind arith

-- one that only looks changes nothing
pub makes_nothing : (call : Call) (bytes : List ℕ) (slot : ℕ) (old new : List (List ℕ)) → IsLook call → Makes call bytes slot old new → new ≡ old
makes_nothing call bytes slot old new looks makes = grind arith

pub kept_elsewhere : (call : Call) (bytes : List ℕ) (slot : ℕ) (old new : List (List ℕ)) (before now : List (List ℕ) → Type 0)
    → Makes call bytes slot old new → Follows (Makes call bytes slot) before now
    → (other : ℕ) (phase : Phase) (body : List ℕ) → other ≢ slot → SlotFits phase body other old before → SlotFits phase body other new now
kept_elsewhere call bytes slot old new before now torn crash other phase body apart fits =
    let same : file_at new other ≡ file_at old other = makes_elsewhere call bytes slot old new other apart torn in
    record {
      reads = subst (PhaseReads phase body) (sym same) fits.reads;
      leaves = λ c may. let was = crash c may in
          subst (PhaseLeaves phase body) (sym (makes_elsewhere call bytes slot was.0 c other apart was.2)) (fits.leaves was.0 was.1);
      as_read = λ synced c may. let was = crash c may in
          makes_elsewhere call bytes slot was.0 c other apart was.2 ∙ fits.as_read synced was.0 was.1 ∙ sym same;
    }
