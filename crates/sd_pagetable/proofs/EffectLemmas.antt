-- What an event makes of the plain memory.
use Rattle.std.proofs.Common.{◌≡◌, ℕ, List, Some, refl, sym, ◌∙◌, ap, arith}
use Rattle.std.specs.FinMap as finmap
use Rattle.sd_areas.specs.declared.prot.Prot.{Prot}
use Rattle.sd_areas.specs.PlainMemory as plain
use Rattle.sd_pagetable.specs.Nested.{inside, set_within, remove_within, change_within}
use Rattle.sd_pagetable.specs.Page.{PageState, plain_page, fresh_page, protected_page, cleared_page, stored_page, writable_page, zeros}
use Rattle.sd_pagetable.specs.Access.{stored_at}
use Rattle.sd_pagetable.specs.Contents.{Contents, page_at, put_page, plain_of}
use Rattle.sd_pagetable.specs.Tracking.{Mapped, Unmapped, Protected, Forked, Exited, Faulted, Tried, Stored, Cleared, Passed, with_space}
use Rattle.sd_pagetable.specs.EventEffects.{after_write, EventEffectLaw}
use Rattle.sd_pagetable.proofs.PlainRanges.{map_set, map_remove, map_change, plain_with, plain_inside}
use Rattle.sd_pagetable.proofs.MemoryLemmas.{plain_at, plain_put, plain_same, plain_made_writable}
use Rattle.sd_pagetable.proofs.ForkCalls.{apart_from, plain_forked, plain_ended}

plain_set : (c : Contents) (s first count : ℕ) (prot : Prot)
    → plain_of (with_space c s (set_within (inside c.spaces s) first count (fresh_page prot))) ≡ finmap.insert (plain_of c) s (set_within (inside (plain_of c) s) first count (record { prot = prot; bytes = zeros }))
plain_set c s first count prot = grind (arith, plain_with, map_set, plain_inside)

plain_removed : (c : Contents) (s first count : ℕ)
    → plain_of (with_space c s (remove_within (inside c.spaces s) first count)) ≡ finmap.insert (plain_of c) s (remove_within (inside (plain_of c) s) first count)
plain_removed c s first count = plain_with c s _
    ∙ ap (finmap.insert (plain_of c) s) (map_remove plain_page (inside c.spaces s) first count ∙ ap (λ t. remove_within t first count) (sym (plain_inside c s)))

plain_changed : (c : Contents) (s first count : ℕ) (prot : Prot)
    → plain_of (with_space c s (change_within (protected_page prot) (inside c.spaces s) first count))
    ≡ finmap.insert (plain_of c) s (change_within (λ (page : plain.Page). record page { prot = prot }) (inside (plain_of c) s) first count)
plain_changed c s first count prot = grind (arith, plain_with, map_change, plain_inside)

plain_written : (c : Contents) (s p offset : ℕ) (bytes : List ℕ) (x y : PageState) → page_at c s p ≡ Some x → plain_page y ≡ record { prot = x.prot; bytes = stored_at x.bytes offset bytes }
    → plain_of (put_page c s p y) ≡ after_write (plain_of c) s p offset bytes
plain_written c s p offset bytes x y h e = grind (arith, plain_put, plain_at)

pub effect_law : EventEffectLaw
effect_law old new (Mapped s first count prot) step = ap plain_of step ∙ plain_set old s first count prot
effect_law old new (Unmapped s first count) step = ap plain_of step ∙ plain_removed old s first count
effect_law old new (Protected s first count prot) step = ap plain_of step ∙ plain_changed old s first count prot
effect_law old new (Forked parent child) (alive, dead, is) = ap plain_of is ∙ plain_forked old parent child (apart_from old parent child alive dead) alive
effect_law old new (Exited s) step = ap plain_of step ∙ plain_ended old s
effect_law old new (Faulted s p) step = plain_made_writable old new s p step
effect_law old new (Tried s p offset bytes) (x, there, writable, is) = ap plain_of is ∙ plain_written old s p offset bytes x (stored_page x (stored_at x.bytes offset bytes)) there refl
effect_law old new (Stored s p offset bytes) (x, class, there, own, is) = ap plain_of is ∙ plain_written old s p offset bytes x (writable_page x class (stored_at x.bytes offset bytes)) there refl
effect_law old new (Cleared s p) (x, there, is) = ap plain_of is ∙ plain_same old s p x (cleared_page x) there refl
effect_law old new Passed step = ap plain_of step
