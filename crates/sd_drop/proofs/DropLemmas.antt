-- What is shown while a slot is being closed, and afterwards.
use Rattle.std.proofs.Common.{◌≡◌, ◌⊎◌, ◌<◌, ◌≤◌, ℕ, false, List, [], length, Option, refl, sym, ◌∙◌, ap, subst, inl, inr}
use Rattle.std.proofs.lemmas.List.{get_or_past, length-set}
use Rattle.sd_areas.specs.PlainMemory.{PlainMemory}
use Rattle.sd_disk.specs.Contents.{file_at}
use Rattle.sd_disk.specs.Crash.{Within}
use Rattle.sd_disk.specs.Reads.{OnlyReads}
use Rattle.sd_disk.specs.Spans.{LeavesOnly, span_widened, spans_join}
use Rattle.sd_disk.specs.declared.disk.Disk.{Ghosts}
use Rattle.sd_image.specs.Image.{is_open}
use Rattle.sd_image.specs.Shows.{Shows}
use Rattle.sd_image.proofs.ReadyLemmas.{shown_still_lem}
use Rattle.sd_drop.specs.Closing.{IsClosing, closed_at}
use Rattle.sd_drop.specs.Needed.{IsNeeded}
use Rattle.sd_drop.proofs.CloseLemmas.{reads_leave}
use Rattle.sd_drop.proofs.FileLemmas.{alike_same, alike_set, other_set}
use Rattle.sd_drop.proofs.NeedLemmas.{counts_closed}
use Rattle.sd_drop.proofs.ReachLemmas.{unneeded_shows}

-- a slot that isn't there is closed
pub past_closed : (contents : List (List ℕ)) (slot : ℕ) → length contents ≤ slot → is_open (file_at contents slot) ≡ false
past_closed contents slot past = ap is_open (get_or_past contents slot [] past)

-- once it is closed, what is shown with the slot counted as closed is shown
pub closed_shows : (contents c : List (List ℕ)) (slot : ℕ) (shown : Option (ℕ × PlainMemory)) → slot < length contents → Shows (closed_at contents slot) shown
    → IsClosing contents slot c → is_open (file_at c slot) ≡ false → Shows c shown
closed_shows contents c slot shown within shows is shut =
    let inside : slot < length (closed_at contents slot) = subst (λ n. slot < n) (sym (length-set contents slot [])) within in
    subst (λ files. Shows files shown)
    (alike_set slot (closed_at contents slot) c (file_at c slot) inside
    (record { count = length-set contents slot [] ∙ sym is.count; others = λ other apart. other_set contents slot other [] apart ∙ sym (is.others other apart) }) refl)
    (shown_still_lem (closed_at contents slot) shown slot (file_at c slot) shows inside (counts_closed contents slot) shut)

-- so while it is being closed, where it isn't needed
pub closing_shows : (contents c : List (List ℕ)) (slot : ℕ) (shown : Option (ℕ × PlainMemory)) → slot < length contents → Shows contents shown
    → (IsNeeded contents slot → ⊥) → IsClosing contents slot c → Shows c shown
closing_shows contents c slot shown within shows free is = elim is.here [
  | inl shut ↦ closed_shows contents c slot shown within (unneeded_shows contents slot shown shows (λ r. free (inl r))) is shut
  | inr same ↦ subst (λ files. Shows files shown) (sym (alike_same slot c contents (record { count = is.count; others = is.others }) same)) shows
]

-- either reading is shown with the slot counted as closed
pub either_shows : (contents : List (List ℕ)) (slot : ℕ) (shown : Option (ℕ × PlainMemory)) → (IsNeeded contents slot → ⊥)
    → Shows contents shown ⊎ Shows (closed_at contents slot) shown → Shows (closed_at contents slot) shown
either_shows contents slot shown free (inl shows) = unneeded_shows contents slot shown shows (λ r. free (inl r))
either_shows contents slot shown free (inr shows) = shows

-- ---- calls that read, and then those that close

pub kept_span : {D : Type 0} (g : Ghosts D) (slot : ℕ) (shown : Option (ℕ × PlainMemory)) (old mid new : D)
    → Within (g.left_since old (g.moment old)) (g.may_leave old) → OnlyReads g old mid → slot < length (g.contents old) → Shows (g.contents old) shown
    → (IsNeeded (g.contents old) slot → ⊥) → Within (g.may_leave old) (λ c. Shows c shown) → LeavesOnly g mid new (IsClosing (g.contents mid) slot)
    → LeavesOnly g old new (λ c. Shows c shown)
kept_span g slot shown old mid new only_now reads within shows free before closing =
    spans_join g old mid new (λ c. Shows c shown) (reads_leave g (λ c. Shows c shown) old mid only_now before reads)
    (span_widened g mid new (IsClosing (g.contents mid) slot) (λ c. Shows c shown)
    (λ c is. closing_shows (g.contents old) c slot shown within shows free (subst (λ files. IsClosing files slot c) reads.same is)) closing)

pub counted_span : {D : Type 0} (g : Ghosts D) (slot : ℕ) (shown : Option (ℕ × PlainMemory)) (old mid new : D)
    → Within (g.left_since old (g.moment old)) (g.may_leave old) → OnlyReads g old mid → Within (g.may_leave old) (λ c. Shows (closed_at c slot) shown)
    → (Within (g.may_leave mid) (λ c. Shows (closed_at c slot) shown) → LeavesOnly g mid new (λ c. Shows (closed_at c slot) shown))
    → LeavesOnly g old new (λ c. Shows (closed_at c slot) shown)
counted_span g slot shown old mid new only_now reads before closing =
    spans_join g old mid new (λ c. Shows (closed_at c slot) shown) (reads_leave g (λ c. Shows (closed_at c slot) shown) old mid only_now before reads)
    (closing (λ c left. before c (reads.crash c left)))
