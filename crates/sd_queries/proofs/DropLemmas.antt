-- What came of closing a slot.
use Rattle.std.proofs.Common.{◌≡◌, ◌≢◌, ◌⊎◌, ℕ, Bool, false, List, [], ◌∷◌, slice_set, Option, Result, Ok, Err, IfErr, OnOk, refl, arith}
use Rattle.sd_areas.specs.PlainMemory.{PlainMemory}
use Rattle.sd_disk.specs.Contents.{file_at}
use Rattle.sd_disk.specs.Crash.{Within}
use Rattle.sd_disk.specs.Reads.{OnlyReads}
use Rattle.sd_disk.specs.Spans.{LeavesOnly}
use Rattle.sd_disk.specs.declared.disk.Disk.{Ghosts}
use Rattle.sd_drop.specs.Closing.{closed_at}
use Rattle.sd_drop.specs.Errors.{ErrorSays}
use Rattle.sd_drop.specs.Needed.{IsDamagedBeside, IsNeeded, IsUnneeded}
use Rattle.sd_drop.specs.declared.drop_error.DropError.{DropError}
use Rattle.sd_drop.specs.declared.drop_error.DropError.TheVariants as drop
use Rattle.sd_image.specs.Image.{is_open}
use Rattle.sd_image.specs.Shows.{Shows}
use Rattle.sd_queries.specs.Dropping.{CameOfDrop}

module _ {D : Type 0} (g : Ghosts D) (slot : ℕ) (force : Bool) (old new : D) where
  -- each error but that of the device comes of a disk that was only read
  pub came_of : (ended : Result Unit DropError)
      → (g.is_honest new → force ≡ false → (shown : Option (ℕ × PlainMemory)) → Shows (g.contents old) shown
      → Within (g.may_leave old) (λ c. Shows c shown) → LeavesOnly g old new (λ c. Shows c shown))
      → ((shown : Option (ℕ × PlainMemory)) → Within (g.may_leave old) (λ c. Shows (closed_at c slot) shown)
      → LeavesOnly g old new (λ c. Shows (closed_at c slot) shown))
      → ((other : ℕ) → other ≢ slot → file_at (g.contents new) other ≡ file_at (g.contents old) other)
      → (g.is_honest new → force ≡ false → (shown : Option (ℕ × PlainMemory))
      → Shows (g.contents old) shown ⊎ Shows (closed_at (g.contents old) slot) shown
      → OnOk ended (Within (g.may_leave new) (λ c. Shows c shown)))
      → OnOk ended (g.contents new ≡ slice_set (g.contents old) slot (0 ∷ []))
      → (g.is_honest new → force ≡ false → OnOk ended (IsUnneeded (g.contents old) slot))
      → (g.is_honest new → IfErr ended (ErrorSays (is_open (file_at (g.contents old) slot) ≡ false) (IsNeeded (g.contents old) slot) (IsDamagedBeside (g.contents old) slot)))
      → IfErr ended (λ error. error ≢ drop.Device → OnlyReads g old new)
      → CameOfDrop g (g.contents old) slot force ended
  came_of (Ok value) kept counted others shown dropped unneeded says refused = record {
    closes = record { old = old; new = new; opened = refl; kept = kept; counted = counted; others = others };
    dropped = dropped;
    shown = shown;
    unneeded = unneeded;
  }
  came_of (Err drop.Needed) kept counted others shown dropped unneeded says refused =
      let other : drop.Needed ≢ drop.Device = grind arith in
      record { keeps = record { old = old; new = new; opened = refl; reads = refused other }; needed = says }
  came_of (Err drop.Device) kept counted others shown dropped unneeded says refused =
      record { old = old; new = new; opened = refl; kept = kept; counted = counted; others = others }
  came_of (Err drop.Closed) kept counted others shown dropped unneeded says refused =
      let other : drop.Closed ≢ drop.Device = grind arith in
      record { old = old; new = new; opened = refl; reads = refused other }
  came_of (Err (drop.Damaged at reason)) kept counted others shown dropped unneeded says refused =
      let other : drop.Damaged at reason ≢ drop.Device = grind arith in
      record { old = old; new = new; opened = refl; reads = refused other }
  came_of (Err drop.OutOfMemory) kept counted others shown dropped unneeded says refused =
      let other : drop.OutOfMemory ≢ drop.Device = grind arith in
      record { old = old; new = new; opened = refl; reads = refused other }
