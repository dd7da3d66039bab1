-- A page that is clean after an event.
use Rattle.std.proofs.Common.{◌≡◌, ℕ, Bool, true, false, cond, List, Option, Some, None, refl, sym, ◌∙◌, ap, arith}
use Rattle.sd_pagetable.specs.Page.{PageState}
use Rattle.sd_pagetable.specs.Contents.{Contents, page_at}
use Rattle.sd_pagetable.specs.Tracking.{MemoryEvent, clears}
use Rattle.sd_pagetable.specs.PageLaw.{ComesFrom, CleanLaw, clean_at, clean_bytes}
use Rattle.sd_pagetable.proofs.LawEvents.{page_law}

-- a page with clean bytes
clean_page : (o : Option PageState) (bytes : List ℕ) → clean_bytes o ≡ Some bytes → (page : PageState) × (o ≡ Some page) × (page.soft_dirty ≡ false) × (page.bytes ≡ bytes)
clean_page None bytes e = absurd (let f : ◌≡◌ {A = Option (List ℕ)} None (Some bytes) = e in cc)
clean_page (Some page) bytes e = by page.soft_dirty refl
  where
    by : (b : Bool) → page.soft_dirty ≡ b → (x : PageState) × (◌≡◌ {A = Option PageState} (Some page) (Some x)) × (x.soft_dirty ≡ false) × (x.bytes ≡ bytes)
    by true d = absurd (let f : ◌≡◌ {A = Option (List ℕ)} None (Some bytes) = sym (ap (λ b. cond b None (Some page.bytes)) d) ∙ e in cc)
    by false d = (page, refl, d, (let f : Some page.bytes ≡ Some bytes = sym (ap (λ b. cond b None (Some page.bytes)) d) ∙ e in cc))

clean_there : (o : Option PageState) (page : PageState) (bytes : List ℕ) → o ≡ Some page → page.soft_dirty ≡ false → page.bytes ≡ bytes → clean_bytes o ≡ Some bytes
clean_there o page bytes there d b = ap clean_bytes there ∙ ap (λ x. cond x None (Some page.bytes)) d ∙ ap Some b

was_clean : (old : Contents) (event : MemoryEvent) (space number : ℕ) (bytes : List ℕ) (after : PageState) → clears space number event ≡ false → after.soft_dirty ≡ false → after.bytes ≡ bytes
    → ComesFrom old event space number after → clean_at old space number ≡ Some bytes
was_clean old event space number bytes after c d b given = grind arith

pub clean_law : CleanLaw
clean_law old new event space number bytes sound step c clean =
    let page = clean_page (page_at new space number) bytes clean in
    was_clean old event space number bytes page.0 c page.2 page.3 (page_law old new event space number page.0 sound step page.1)
