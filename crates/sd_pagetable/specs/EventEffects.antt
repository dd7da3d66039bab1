-- What an event makes of the plain memory: the effect of the call, in the words of histories.
use Rattle.std.specs.Prelude.{◌≡◌, ℕ, List}
use Rattle.std.specs.Option.{option_map_or}
use Rattle.std.specs.FinMap as finmap
use Rattle.sd_areas.specs.PlainMemory.{Page, PlainMemory}
use Rattle.sd_pagetable.specs.Nested.{inside, value_at, put_at, set_within, remove_within, change_within}
use Rattle.sd_pagetable.specs.Page.{zeros}
use Rattle.sd_pagetable.specs.Access.{stored_at}
use Rattle.sd_pagetable.specs.Contents.{Contents, plain_of}
use Rattle.sd_pagetable.specs.Tracking.{MemoryEvent, Mapped, Unmapped, Protected, Forked, Exited, Faulted, Tried}
use Rattle.sd_pagetable.specs.Tracking.{Stored}
use Rattle.sd_pagetable.specs.Tracking.{Cleared, Passed, Step}

-- bytes stand at an offset of a page, if it is mapped
abbrev pub after_write : PlainMemory → ℕ → ℕ → ℕ → List ℕ → PlainMemory
after_write memory space page offset bytes =
    option_map_or (λ (found : Page). put_at memory space page
    (record found { bytes = stored_at found.bytes offset bytes }))
    (value_at memory space page) memory

-- faults and clears leave it
abbrev pub after_event : MemoryEvent → PlainMemory → PlainMemory
after_event (Mapped space first count prot) memory =
    finmap.insert memory space (set_within (inside memory space) first count (record { prot = prot; bytes = zeros }))
after_event (Unmapped space first count) memory =
    finmap.insert memory space (remove_within (inside memory space) first count)
after_event (Protected space first count prot) memory =
    finmap.insert memory space
    (change_within (λ (page : Page). record page { prot = prot }) (inside memory space) first count)
after_event (Forked parent child) memory = finmap.insert memory child (inside memory parent)
after_event (Exited space) memory = finmap.remove memory space
after_event (Faulted space page) memory = memory
after_event (Tried space page offset bytes) memory = after_write memory space page offset bytes
after_event (Stored space page offset bytes) memory = after_write memory space page offset bytes
after_event (Cleared space page) memory = memory
after_event Passed memory = memory

-- a memory's history makes its plain memory
abbrev pub EventEffectLaw : Type 0
EventEffectLaw =
    (old new : Contents) (event : MemoryEvent) → Step old event new → plain_of new ≡ after_event event (plain_of old)
