-- A whole disk through one call, and a crash within it.
use Rattle.std.proofs.Common.{◌≡◌, ◌≢◌, ◌⊎◌, ⊎_elim, ℕ, ◌<◌, List, [], length, slice_get, slice_set, get_or, Some, sym, ◌∙◌, ap, subst, arith}
use Rattle.std.proofs.lemmas.Bool.{cases_eq}
use Rattle.std.proofs.lemmas.List.{get_or-set_same, get_or-set_other, length-set}
use Rattle.std.proofs.lemmas.Option.{slice_get_within, get_or_from_slice_get, slice_get-get_or}
use Rattle.sd_disk.specs.Contents.{file_at}
use Rattle.sd_disk.specs.Crash.{Within, Elapses}
use Rattle.sd_disk.specs.Spans.{LeavesOnly}
use Rattle.sd_disk.specs.declared.disk.Disk.{Ghosts}
use Rattle.sd_gate.specs.declared.phase.Phase.{Phase}
use Rattle.sd_gate.specs.declared.phase.Phase.TheVariants.{Raw}
use Rattle.sd_gate.specs.Fits.{SlotFits, DiskFits, DiskLeaves}

module _ (phases : List Phase) (bodies old new : List (List ℕ)) (before now : List (List ℕ) → Type 0) (slot : ℕ) (phase next : Phase) (body : List ℕ) where
  pub each_slot : length new ≡ length old → DiskFits phases bodies old before → slice_get phases slot ≡ Some phase
      → (SlotFits phase (file_at bodies slot) slot old before → SlotFits next body slot new now)
      → ((other : ℕ) (p : Phase) (b : List ℕ) → other ≢ slot → SlotFits p b other old before → SlotFits p b other new now)
      → DiskFits (slice_set phases slot next) (slice_set bodies slot body) new now
  each_slot same_count fits is here elsewhere =
      let there : slot < length phases = slice_get_within phases slot phase is in
      let stored : slot < length bodies = omega (arith, there, fits.count) in
      record {
        count = length-set bodies slot body ∙ fits.count ∙ sym (length-set phases slot next);
        slots = same_count ∙ fits.slots ∙ sym (length-set phases slot next);
        each = λ number p found. ⊎_elim
            (λ same.
            let now_next : next ≡ p = sym (get_or-set_same phases slot next Raw there) ∙ ap (λ n. get_or (slice_set phases slot next) n Raw) (sym same)
            ∙ get_or_from_slice_get (slice_set phases slot next) number p Raw found in
            subst (λ n. SlotFits p (file_at (slice_set bodies slot body) n) n new now) (sym same)
            (subst (λ q. SlotFits q (file_at (slice_set bodies slot body) slot) slot new now) now_next
            (subst (λ b. SlotFits next b slot new now) (sym (get_or-set_same bodies slot body [] stored))
            (here (fits.each slot phase is)))))
            (λ other.
            let within : number < length phases = omega (arith, slice_get_within (slice_set phases slot next) number p found, length-set phases slot next) in
            let was : slice_get phases number ≡ Some p = slice_get-get_or phases number Raw within
            ∙ ap (λ q. Some q) (sym (get_or-set_other phases slot number next Raw other) ∙ get_or_from_slice_get (slice_set phases slot next) number p Raw found) in
            subst (λ b. SlotFits p b number new now) (sym (get_or-set_other bodies slot number body [] other))
            (elsewhere number p (file_at bodies number) other (fits.each number p was)))
            (cases_eq number slot);
      }

-- a crash leaves each slot as its phase says
pub each_left : (phases : List Phase) (bodies contents : List (List ℕ)) (may_leave : List (List ℕ) → Type 0)
    → ((c : List (List ℕ)) → may_leave c → length c ≡ length contents) → DiskFits phases bodies contents may_leave
    → Within may_leave (DiskLeaves phases bodies)
each_left phases bodies contents may_leave same_slots fits = λ c may. record { count = same_slots c may ∙ fits.slots; each = λ slot phase is. (fits.each slot phase is).leaves c may }

module _ {D : Type 0} (g : Ghosts D) where
  -- a crash at any moment of a call leaves what it may leave before or after
  pub within_call : (old new : D) (P Q before now : List (List ℕ) → Type 0) → Within (g.left_since old (g.moment old)) before
      → Elapses (g.moment old) (g.moment new) (g.left_since old) (g.left_since new) now → Within before P → Within now Q
      → LeavesOnly g old new (λ c. P c ⊎ Q c)
  within_call old new P Q before now only time was is = grind arith
