-- What differs between two memories.
use Rattle.std.specs.Prelude.{◌≡◌, ◌≢◌, ◌↔◌, ◌⊎◌, ℕ, ◌+◌, ◌<◌, ◌≤◌, List, Option, Some, None, Contains}
use Rattle.std.specs.Option.{option_map}
use Rattle.sd_areas.specs.declared.prot.Prot.{Prot}
use Rattle.sd_areas.specs.PlainMemory.{Page, PlainMemory}
use Rattle.sd_image.specs.Shows.{page_in}
use Rattle.sd_chain.specs.declared.found.Found.{Found}
use Rattle.sd_chain.specs.Store.{bytes_at}
use Rattle.sd_restore.specs.At.{ShowsAt}
use Rattle.sd_diff.specs.declared.difference.PageRun.{PageRun}
use Rattle.sd_diff.specs.declared.difference.AreaChange.{AreaChange}
use Rattle.sd_diff.specs.declared.difference.Difference.{Difference}
use Rattle.sd_diff.specs.Held.{Held}

-- a page of a space is one of a run
pub record IsIn (run : PageRun) (space page : ℕ) : Type 0 where
  pub space_is : run.space ≡ space
  pub first : run.first ≤ page
  pub last : page < run.first + run.count

-- one of these runs has a page
abbrev pub HasPage : List PageRun → ℕ → ℕ → Type 0
HasPage runs space page = (run : PageRun) × Contains runs run × IsIn run space page

-- a page is one of those that had these permissions and have those
pub record IsChangedIn (change : AreaChange) (space page : ℕ) (old new : Option Prot) : Type 0 where
  pub page_is : IsIn change.pages space page
  pub old_is : change.old ≡ old
  pub new_is : change.new ≡ new

-- one of these changes is of a page, from these permissions to those
abbrev pub HasChange : List AreaChange → ℕ → ℕ → Option Prot → Option Prot → Type 0
HasChange changes space page old new =
    (change : AreaChange) × Contains changes change × IsChangedIn change space page old new

-- the permissions of a page, where it is mapped
abbrev pub prot_of : Option Page → Option Prot
prot_of = option_map (λ page. page.prot)

-- a page is mapped in both, with other bytes
abbrev pub DifferInBytes : Option Page → Option Page → Type 0
DifferInBytes None after = ⊥
DifferInBytes (Some page) None = ⊥
DifferInBytes (Some page) (Some other) = page.bytes ≢ other.bytes

-- This differs between two memories. Permissions are none where a page isn't mapped: so it came, or went, or was
-- protected otherwise.
pub record IsDifference (before after : PlainMemory) (d : Difference) : Type 0 where
  pub areas : (space page : ℕ) (old new : Option Prot) → HasChange d.areas.items space page old new
      ↔ ((old ≡ prot_of (page_in before space page)) × (new ≡ prot_of (page_in after space page)) × (old ≢ new))
  pub written : (space page : ℕ) → HasPage d.written.items space page
      ↔ DifferInBytes (page_in before space page) (page_in after space page)

-- contents have a memory at both checkpoints
pub record HasBoth (contents : List (List ℕ)) (old new : ℕ) : Type 0 where
  pub before : PlainMemory
  pub after : PlainMemory
  pub old_is : ShowsAt contents old before
  pub new_is : ShowsAt contents new after

-- The same of where pages lie.

abbrev pub held_prot : Option Held → Option Prot
held_prot = option_map (λ held. held.prot)

-- these are the permissions of a page before and after, and they differ
pub record IsChange (before after : Option Held) (old new : Option Prot) : Type 0 where
  pub old_is : old ≡ held_prot before
  pub new_is : new ≡ held_prot after
  pub differ : old ≢ new

-- a page lies somewhere before and after, with other bytes
abbrev pub IsWritten : List (List ℕ) → Option Held → Option Held → Type 0
IsWritten contents None after = ⊥
IsWritten contents (Some held) None = ⊥
IsWritten contents (Some held) (Some other) = bytes_at contents held.there ≢ bytes_at contents other.there

-- a page is one of a space, from one page up to another
pub record IsBetween (space from to : ℕ) (at page : ℕ) : Type 0 where
  pub space_is : at ≡ space
  pub from_is : from ≤ page
  pub to_is : page < to

-- to these changes those of the pages of a space were put, from one page up to another
abbrev pub AddsChanges : ℕ → ℕ → ℕ → (ℕ → Option Held) → (ℕ → Option Held) → List AreaChange → List AreaChange
    → Type 0
AddsChanges space from to before after old new =
    (at page : ℕ) (was is : Option Prot) → HasChange new at page was is
    ↔ (HasChange old at page was is ⊎ (IsBetween space from to at page × IsChange (before page) (after page) was is))

-- these pages were put, where they have other permissions than before
abbrev pub AddsProts : PageRun → Option Prot → Option Prot → List AreaChange → List AreaChange → Type 0
AddsProts run before after old new =
    (at page : ℕ) (was is : Option Prot) → HasChange new at page was is
    ↔ (HasChange old at page was is ⊎ (IsIn run at page × (was ≡ before) × (is ≡ after) × (was ≢ is)))

-- and to these runs the pages there that were written
abbrev pub AddsWritten : List (List ℕ) → ℕ → ℕ → ℕ → (ℕ → Option Held) → (ℕ → Option Held) → List PageRun
    → List PageRun → Type 0
AddsWritten contents space from to before after old new =
    (at page : ℕ) → HasPage new at page
    ↔ (HasPage old at page ⊎ (IsBetween space from to at page × IsWritten contents (before page) (after page)))

-- the one page of a run that lies at two places was put, where its bytes differ there
abbrev pub AddsPage : List (List ℕ) → PageRun → Found → Found → List PageRun → List PageRun → Type 0
AddsPage contents run before after old new =
    (at page : ℕ) → HasPage new at page
    ↔ (HasPage old at page ⊎ (IsIn run at page × (bytes_at contents before ≢ bytes_at contents after)))

-- both
pub record Adds (contents : List (List ℕ)) (space from to : ℕ) (before after : ℕ → Option Held) (old new : Difference)
    : Type 0 where
  pub areas : AddsChanges space from to before after old.areas.items new.areas.items
  pub written : AddsWritten contents space from to before after old.written.items new.written.items
