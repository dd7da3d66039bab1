-- What is restored of contents that show this.
use Rattle.std.proofs.Common.{◌≡◌, ℕ, List, Option, MatchOption, Some, None, Result, Ok, Err, OnOk, IfErr, sym, subst}
use Rattle.std.specs.Io.KnownBytes.{Appends}
use Rattle.sd_areas.specs.PlainMemory.{PlainMemory}
use Rattle.sd_image.specs.Laws.{ShownOnce}
use Rattle.sd_image.specs.Shows.{Shows}
use Rattle.sd_restore.specs.declared.fault.Fault.TheVariants.{EmptyChain, Damaged, Device, OutOfMemory}
use Rattle.sd_exit.specs.declared.stop.Stop.{Stop}
use Rattle.sd_exit.specs.declared.stop.Stop.TheVariants as stop
use Rattle.sd_readers.specs.declared.steady.Reader.TheVariants.{Restore}
use Rattle.sd_readers.specs.Ending.{NamesNoSlot}
use Rattle.sd_readers.specs.Printed.{PrintsMemory}
use Rattle.sd_readers.specs.Reading.{IsWhy}
use Rattle.sd_readers.specs.Restored.{RestoresAs}
use Rattle.sd_readers.specs.Texts.{memory_text}

pub restores_as : ShownOnce → (contents : List (List ℕ)) (shown : Option (ℕ × PlainMemory)) (failed now : ℕ) (before printed : Option (List ℕ)) (ended : Result Unit Stop)
    → Shows contents shown → OnOk ended (PrintsMemory contents before printed) → IfErr ended (IsWhy Restore contents failed now) → IfErr ended NamesNoSlot
    → RestoresAs shown failed now before printed ended
restores_as once contents shown failed now before printed (Ok done) shows text why good =
    subst (λ (s : Option (ℕ × PlainMemory)). MatchOption s ⊥ (λ moment. Appends before printed (memory_text moment)))
    (sym (once contents shown (Some text.moment) shows text.shows)) text.printed
restores_as once contents shown failed now before printed (Err (stop.Fault EmptyChain)) shows text why good = once contents shown None shows why.1
restores_as once contents shown failed now before printed (Err (stop.Fault (Damaged slot reason))) shows text why good = good
restores_as once contents shown failed now before printed (Err other) shows text why good = why

-- what is so of contents that stayed the same
pub good_still : (one other : List (List ℕ)) (ended : Result Unit Stop) → one ≡ other
    → ((shown : Option (ℕ × PlainMemory)) → Shows one shown → IfErr ended NamesNoSlot)
    → (shown : Option (ℕ × PlainMemory)) → Shows other shown → IfErr ended NamesNoSlot
good_still one other ended same good shown shows = good shown (subst (λ c. Shows c shown) (sym same) shows)
