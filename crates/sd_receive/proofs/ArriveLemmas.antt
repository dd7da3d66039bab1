-- An image that arrives, step by step, while the store keeps its images.
use Rattle.std.proofs.Common.{◌≡◌, ◌≤◌, ◌+◌, ℕ, List, [], ◌∷◌, ◌++◌, length, refl, sym, ◌∙◌, ap, arith}
use Rattle.std.specs.List.{concat}
use Rattle.std.proofs.lemmas.List.{append-nil, length-append}
use Rattle.std.proofs.lemmas.List.Folds.{concat-append}
use Rattle.sha2.specs.Sha256.{sha256}
use Rattle.sd_disk.specs.Spans.{LeavesOnly, nothing_called, span_widened, spans_join}
use Rattle.sd_disk.specs.declared.disk.Disk.{Ghosts}
use Rattle.sd_image.specs.declared.header.Header.{Header}
use Rattle.sd_image.specs.Header.{IsHeader, header_front}
use Rattle.sd_image.specs.Image.{is_open}
use Rattle.sd_receive.specs.declared.arrived.Arrived.{Arrived}
use Rattle.sd_receive.specs.Arrived.{GoesWith, HasArrived}
use Rattle.sd_receive.specs.Arriving.{IsFilled, IsSettled, KeepsImages}
use Rattle.sd_receive.proofs.SettledLemmas.{settled_leaves}

pub keeps_trans : (a b c : List (List ℕ)) → KeepsImages a b → KeepsImages b c → KeepsImages a c
keeps_trans a b c first second = record {
  count = second.count ∙ first.count;
  opened = λ slot opens. let same = first.opened slot opens in second.opened slot (ap is_open same ∙ opens) ∙ same;
  closed = λ slot shut. second.closed slot (first.closed slot shut);
}

module _ {D : Type 0} (g : Ghosts D) where
  -- nothing was called
  pub keeps_still : (disk : D) → ((c : List (List ℕ)) → g.left_since disk (g.moment disk) c → g.may_leave disk c)
      → ((c : List (List ℕ)) → g.may_leave disk c → length c ≡ length (g.contents disk))
      → IsSettled (g.contents disk) (g.may_leave disk) → LeavesOnly g disk disk (KeepsImages (g.contents disk))
  keeps_still disk only_now same_slots rest = nothing_called g disk (KeepsImages (g.contents disk)) (g.may_leave disk) only_now
      (λ c may. settled_leaves (g.contents disk) c (g.may_leave disk) rest (same_slots c may) may)

  -- what is read at the end
  pub at_end : (old new : D) (P : List (List ℕ) → Type 0) → g.may_leave new (g.contents new)
      → ((t : ℕ) (c : List (List ℕ)) → t ≤ g.moment new → g.may_leave new c → g.left_since new t c) → LeavesOnly g old new P → P (g.contents new)
  at_end old new P as_read counts_now span = span.each (g.contents new) (counts_now (g.moment old) (g.contents new) span.later as_read)

  -- calls that keep the images, and others
  pub keeps_join : (old mid new : D) → LeavesOnly g old mid (KeepsImages (g.contents old)) → KeepsImages (g.contents old) (g.contents mid)
      → LeavesOnly g mid new (KeepsImages (g.contents mid)) → LeavesOnly g old new (KeepsImages (g.contents old))
  keeps_join old mid new first between second = spans_join g old mid new (KeepsImages (g.contents old)) first
      (span_widened g mid new (KeepsImages (g.contents mid)) (KeepsImages (g.contents old)) (λ c. keeps_trans (g.contents old) (g.contents mid) c between) second)

-- a page more
pub pages_more : (pages : List (List ℕ)) (page : List ℕ) → concat pages ++ page ≡ concat (pages ++ page ∷ [])
pages_more pages page = sym (concat-append pages (page ∷ []) ∙ ap (λ last. concat pages ++ last) (append-nil page))

pub one_longer : (pages : List (List ℕ)) (page : List ℕ) (place : ℕ) → place ≡ length pages → place + 1 ≡ length (pages ++ page ∷ [])
one_longer pages page place is = let both = length-append pages (page ∷ []) in omega (arith, is, both)

-- all parts of an image have arrived
pub has_arrived : (contents : List (List ℕ)) (may_leave : List (List ℕ) → Type 0) (slot len : ℕ) (header : Header) (arrived : Arrived) (pages : List (List ℕ))
    → IsFilled contents may_leave slot pages → header.pages ≡ length pages → IsHeader header len → GoesWith header pages arrived → HasArrived contents may_leave slot header arrived
has_arrived contents may_leave slot len header arrived pages fills counted is good = record {
  pages = pages;
  fills = fills;
  complete = record {
    words = is.words;
    serial = is.serial;
    numbers = is.numbers;
    checkpoint = is.checkpoint;
    table = good.table;
    stored = sym counted;
    whole = fills.whole;
    table_len = sym good.long ∙ ap length good.spelled;
    digest = λ two. good.digest two ∙ ap sha256 (append_assoc (concat pages) arrived.bytes.items (header_front header) ∙ ap (λ text. concat pages ++ text ++ header_front header) good.spelled);
  };
  spelled = good.spelled;
}
  where
    append_assoc : (a b c : List ℕ) → (a ++ b) ++ c ≡ a ++ b ++ c
    append_assoc [] b c = refl
    append_assoc (x ∷ a) b c = ap (λ l. x ∷ l) (append_assoc a b c)

-- with the same data pages
pub arrived_pages : (contents : List (List ℕ)) (may_leave : List (List ℕ) → Type 0) (slot len : ℕ) (header : Header) (arrived : Arrived) (pages : List (List ℕ))
    (fills : IsFilled contents may_leave slot pages) (counted : header.pages ≡ length pages) (is : IsHeader header len) (good : GoesWith header pages arrived)
    → (has_arrived contents may_leave slot len header arrived pages fills counted is good).pages ≡ pages
unfolding has_arrived
arrived_pages contents may_leave slot len header arrived pages fills counted is good = refl
