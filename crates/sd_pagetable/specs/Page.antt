-- A mapped page, with what the page table knows of it.
use Rattle.std.specs.Prelude.{ℕ, Bool, true, false, List, Option, Some, None, refl}
use Rattle.std.specs.Coded.{Coded, code_by, coded×, coded_bool, coded_ℕ, coded_list, coded_option}
use Rattle.sd_areas.specs.declared.prot.Prot.{Prot}
use Rattle.sd_areas.specs.Codes.{prot_code}
use Rattle.sd_areas.specs.PlainMemory as plain
use Rattle.sd_tables.specs.declared.run_change.RunChange.{RunChange}
use Rattle.sd_tables.specs.declared.run_change.RunChange.TheVariants.{Renew, Protect}
unfoldable pub use Rattle.sd_frames.specs.Bytes.{zeros}

-- its permissions, its bytes, the number of its frame class (none where no frame was needed yet), and the two bits of
-- its entry
pub record PageState : Type 0 where
  pub prot : Prot
  pub bytes : List ℕ
  pub class : Option ℕ
  pub writable : Bool
  pub soft_dirty : Bool

-- a page just mapped: zeros, in no class, soft-dirty
abbrev pub fresh_page : Prot → PageState
fresh_page prot = record { prot = prot; bytes = zeros; class = None; writable = false; soft_dirty = true }

-- the page without what the page table knows of it
abbrev pub plain_page : PageState → plain.Page
plain_page page = record { prot = page.prot; bytes = page.bytes }

-- after a test and clear
abbrev pub cleared_page : PageState → PageState
cleared_page page = record page { writable = false; soft_dirty = false }

-- after `mprotect`
abbrev pub protected_page : Prot → PageState → PageState
protected_page prot page = record page { prot = prot; writable = false }

-- a page of a run after a change
abbrev pub changed_page : RunChange → PageState → PageState
changed_page (Renew prot) page = fresh_page prot
changed_page (Protect prot) page = protected_page prot page

-- a page of the parent after `fork`
abbrev pub shared_page : PageState → PageState
shared_page page = record page { writable = false }

-- a page of the child after `fork`
abbrev pub inherited_page : PageState → PageState
inherited_page page = record page { writable = false; soft_dirty = true }

-- a page after an accepted fault or store: writable, soft-dirty, in a class with these bytes
abbrev pub writable_page : PageState → ℕ → List ℕ → PageState
writable_page page class bytes =
    record { prot = page.prot; bytes = bytes; class = Some class; writable = true; soft_dirty = true }

-- after a store to a writable page
abbrev pub stored_page : PageState → List ℕ → PageState
stored_page page bytes = record page { bytes = bytes }

-- how pages are stored as values
abbrev pub page_code : Coded PageState
page_code = code_by (Prot × (List ℕ × (Option ℕ × (Bool × Bool))))
    (coded× prot_code (coded× (coded_list coded_ℕ) (coded× (coded_option coded_ℕ) (coded× coded_bool coded_bool))))
    (λ p. (p.prot, (p.bytes, (p.class, (p.writable, p.soft_dirty)))))
    (λ t. record { prot = t.0; bytes = t.1.0; class = t.1.1.0; writable = t.1.1.1.0; soft_dirty = t.1.1.1.1 })
    (λ _. refl)
