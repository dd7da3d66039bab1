-- What the calls that close a slot leave of it.
use Rattle.std.proofs.Common.{◌≡◌, ◌≢◌, ◌⊎◌, ◌<◌, ◌≤◌, ℕ, zero, suc, true, false, nat_le, ◌==◌, List, [], ◌∷◌, length, Option, slice_set, slice_index, refl, sym, ◌∙◌, ap, subst, inl, inr, arith, take}
use Rattle.std.proofs.Math.Nat.{le_refl}
use Rattle.std.proofs.lemmas.Bool.{and_right, cases_eq, ne_eqb}
use Rattle.std.proofs.lemmas.Bool.Decides.{nat_tests}
use Rattle.std.proofs.lemmas.Grind.{same_number_lists}
use Rattle.std.proofs.lemmas.List.{set-set}
use Rattle.sd_areas.specs.PlainMemory.{PlainMemory}
use Rattle.sd_disk.specs.Contents.{AtSlot, Cut, Torn, file_after_write, file_at}
use Rattle.sd_disk.specs.Crash.{Elapses, Follows, Only, OnlyAt, Outcomes, Within}
use Rattle.sd_disk.specs.Reads.{OnlyReads}
use Rattle.sd_disk.specs.Spans.{LeavesOnly, nothing_called, one_call}
use Rattle.sd_disk.specs.declared.disk.Disk.{Ghosts}
use Rattle.sd_image.specs.Image.{is_open}
use Rattle.sd_image.specs.Shows.{Shows}
use Rattle.sd_drop.specs.Closing.{IsClosing, closed_at}
use Rattle.sd_drop.proofs.FileLemmas.{AreAlikeBut, at_set, closed_alike}

-- a first byte that is no gate closes a file
pub no_gate : (file : List ℕ) → slice_index file 0 ≢ 165 → is_open file ≡ false
no_gate file apart = and_right (nat_le 4096 (length file)) (slice_index file 0 == 165) (ne_eqb (slice_index file 0) 165 apart)

opens_long : (file : List ℕ) → is_open file ≡ true → 4096 ≤ length file
opens_long file opens = grind (arith, nat_tests)

opens_gate : (file : List ℕ) → is_open file ≡ true → slice_index file 0 ≡ 165
opens_gate file opens = grind (arith, nat_tests)

-- a write of one byte over the gate of an open file, also one that failed, closes it or leaves it
torn_gate : (old new : List ℕ) → is_open old ≡ true → Torn 0 1 old new → (is_open new ≡ false) ⊎ (new ≡ old)
torn_gate old new opens torn = elim (cases_eq (slice_index new 0) 165) [
  | inl gate ↦ inr (same_number_lists new old (omega (arith, long, torn.no_shorter, torn.no_longer)) (λ k within. by k gate within))
  | inr other ↦ inl (no_gate new other)
]
  where
    long : 4096 ≤ length old
    long = opens_long old opens

    by : (k : ℕ) → slice_index new 0 ≡ 165 → k < length new → slice_index new k ≡ slice_index old k
    by zero gate within = gate ∙ sym (opens_gate old opens)
    by (suc k) gate within = torn.above (suc k) (omega (arith, long, within, torn.no_longer)) (omega arith)

-- a cut to one byte, also one that failed, leaves that byte
cut_byte : (old new : List ℕ) → slice_index old 0 ≡ 0 → Cut 1 old new → slice_index new 0 ≡ 0
cut_byte old [] closed cut = refl
cut_byte old (byte ∷ new) closed cut = cut.below 0 (omega (arith, cut.no_longer)) (omega arith) ∙ closed

-- what a step of one slot leaves
stepped : (slot : ℕ) (step : List ℕ → List ℕ → Type 0) (d c : List (List ℕ)) → AtSlot slot step d c → AreAlikeBut slot c d
stepped slot step d c at = record { count = at.count; others = at.others }

-- counted as closed it is the same
pub counted_step : (slot count : ℕ) (step : List ℕ → List ℕ → Type 0) (old new : Outcomes) (shown : Option (ℕ × PlainMemory))
    → slot < count → ((c : List (List ℕ)) → new c → length c ≡ count)
    → Within old (λ c. Shows (closed_at c slot) shown) → Follows (AtSlot slot step) old new → Within new (λ c. Shows (closed_at c slot) shown)
counted_step slot count step old new shown within counts was follows c left =
    let before = follows c left in
    subst (λ files. Shows files shown) (sym (closed_alike slot c before.0 (subst (λ n. slot < n) (sym (counts c left)) within) (stepped slot step before.0 c before.2))) (was before.0 before.1)

-- before the first call
pub closing_begins : (contents : List (List ℕ)) (slot : ℕ) (old : Outcomes) → Only contents old → Within old (IsClosing contents slot)
closing_begins contents slot old only c left = subst (IsClosing contents slot) (sym (only c left)) (record { count = refl; here = inr refl; others = λ other apart. refl })

-- after the write
pub closing_written : (contents : List (List ℕ)) (slot : ℕ) (old new : Outcomes) → Only contents old → is_open (file_at contents slot) ≡ true
    → Follows (AtSlot slot (Torn 0 1)) old new → Within new (IsClosing contents slot)
closing_written contents slot old new only opens follows c left =
    let before = follows c left in
    let at : AtSlot slot (Torn 0 1) contents c = subst (λ d. AtSlot slot (Torn 0 1) d c) (only before.0 before.1) before.2 in
    record { count = at.count; here = torn_gate (file_at contents slot) (file_at c slot) opens at.here; others = at.others }

-- after the cut
pub closing_cut : (contents : List (List ℕ)) (slot : ℕ) (file : List ℕ) (old new : Outcomes) → OnlyAt slot file old → slice_index file 0 ≡ 0
    → Within old (IsClosing contents slot) → Follows (AtSlot slot (Cut 1)) old new → Within new (IsClosing contents slot)
closing_cut contents slot file old new only none was follows c left =
    let before = follows c left in
    let d = before.0 in
    let at : AtSlot slot (Cut 1) d c = before.2 in
    let is : IsClosing contents slot d = was d before.1 in
    let byte : slice_index (file_at c slot) 0 ≡ 0 =
    cut_byte (file_at d slot) (file_at c slot) (ap (λ f. slice_index f 0) (only d before.1) ∙ none) at.here in
    record {
      count = at.count ∙ is.count;
      here = inl (no_gate (file_at c slot) (λ gate. absurd (let e : 0 ≡ 165 = sym byte ∙ gate in omega (arith, e))));
      others = λ other apart. at.others other apart ∙ is.others other apart;
    }

-- the file that is written
pub written_byte : (file : List ℕ) → slice_index (file_after_write file 0 (0 ∷ [])) 0 ≡ 0
written_byte file = refl

-- it is in its slot
pub at_written : (contents : List (List ℕ)) (slot : ℕ) (file : List ℕ) (written : List (List ℕ)) → slot < length contents → written ≡ slice_set contents slot file
    → file_at written slot ≡ file
at_written contents slot file written within is = ap (λ files. file_at files slot) is ∙ at_set contents slot file within

-- and after the cut and the last sync its first byte
pub cut_files : (contents : List (List ℕ)) (slot : ℕ) (file : List ℕ) (written cut last : List (List ℕ)) → slot < length contents
    → written ≡ slice_set contents slot file → take 1 file ≡ 0 ∷ [] → cut ≡ slice_set written slot (take 1 (file_at written slot)) → last ≡ cut
    → last ≡ slice_set contents slot (0 ∷ [])
cut_files contents slot file written cut last within is first was same =
    same ∙ was ∙ ap (slice_set written slot) (ap (take 1) (at_written contents slot file written within is) ∙ first)
    ∙ ap (λ files. slice_set files slot (0 ∷ [])) is ∙ set-set contents slot file (0 ∷ [])

-- A crash within some calls left what has P, and leaves it now.
module _ {D : Type 0} (g : Ghosts D) (P : Outcomes) where
  abbrev pub IsSpan : D → D → Type 0
  IsSpan old new = LeavesOnly g old new P × Within (g.may_leave new) P

  -- no call
  pub span_begins : (old : D) → Within (g.left_since old (g.moment old)) (g.may_leave old) → Within (g.may_leave old) P → IsSpan old old
  span_begins old only_now before = (nothing_called g old P (g.may_leave old) only_now before, before)

  -- one call more
  pub span_more : (old mid new : D) → IsSpan old mid
      → Elapses (g.moment mid) (g.moment new) (g.left_since mid) (g.left_since new) (g.may_leave new) → Within (g.may_leave new) P → IsSpan old new
  span_more old mid new span time after = (one_call g old mid new P (g.may_leave new) span.0 time after, after)

  -- and one that changes nothing
  pub span_same : (old mid new : D) → IsSpan old mid
      → Elapses (g.moment mid) (g.moment new) (g.left_since mid) (g.left_since new) (g.may_leave new) → Within (g.may_leave new) (g.may_leave mid) → IsSpan old new
  span_same old mid new span time less = span_more old mid new span time (λ c left. span.1 c (less c left))

-- calls that only read leave what was left
pub reads_leave : {D : Type 0} (g : Ghosts D) (P : Outcomes) (old new : D) → Within (g.left_since old (g.moment old)) (g.may_leave old)
    → Within (g.may_leave old) P → OnlyReads g old new → LeavesOnly g old new P
reads_leave g P old new only_now before reads = record {
  later = reads.time;
  each = λ c left. before c (only_now c (reads.left (g.moment old) c (le_refl (g.moment old)) left));
  before = λ t c since left. inl (reads.left t c since left);
}
