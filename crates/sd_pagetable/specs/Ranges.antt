-- Runs of pages, and the pages of a child that is being made.
use Rattle.std.specs.Prelude.{◌≡◌, ℕ, Bool, cond, None}
use Rattle.sd_pagetable.specs.Nested.{inside}
use Rattle.sd_pagetable.specs.Page.{PageState, fresh_page}
use Rattle.sd_pagetable.specs.Contents.{Contents, page_at}
use Rattle.sd_pagetable.specs.Tracking.{with_space}

-- a page of the child before it is put into the class of the parent's
abbrev pub bare_page : PageState → PageState
bare_page page = fresh_page page.prot

-- the pages of a space that pass a test are gone, and all else is as before
pub record IsCleared (old new : Contents) (space : ℕ) (test : ℕ → Bool) : Type 0 where
  pub pages : (page : ℕ) → page_at new space page ≡ cond (test page) None (page_at old space page)
  pub others : new ≡ with_space old space (inside new.spaces space)
