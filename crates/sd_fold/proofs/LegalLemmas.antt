-- What a legal reply says of a command that was carried out, and a legal journal of each of its entries.
use Rattle.std.proofs.Common.{◌≡◌, ◌⊎◌, ℕ, suc, ◌+◌, ◌<◌, ◌≤◌, ◌^◌, ◌%◌, ◌==◌, Bool, true, false, not, cond, List, [], ◌∷◌, ◌++◌, length, take, drop, get_or, reverse, Option, Some, None, is_some, refl, sym, ◌∙◌, ap, subst, arith, inl, inr}
use Rattle.std.proofs.lemmas.Bool.Decides.{nat_tests}
use Rattle.std.proofs.lemmas.List.{reverse-append, take-append-drop}
use Rattle.std.proofs.Math.Seq.{take-suc}
use Rattle.std.specs.Prelude.{Result, Ok, Err, MatchOption}
use Rattle.sd_areas.specs.declared.errno.Errno.{Errno}
use Rattle.sd_areas.specs.declared.errno.Errno.TheVariants.{Einval, Enomem}
use Rattle.sd_areas.specs.declared.prot.Prot.{Prot}
use Rattle.sd_areas.specs.Areas.{PageMap}
use Rattle.sd_areas.specs.Calls.{map_result, unmap_result, protect_result}
use Rattle.sd_areas.specs.Pages.{page_of, pages_for, is_invalid, is_outside}
use Rattle.sd_areas.specs.PlainMemory.{PlainMemory}
use Rattle.sd_pagetable.specs.declared.access_error.AccessError.{AccessError}
use Rattle.sd_pagetable.specs.declared.access_error.AccessError.TheVariants.{Refused, Segv}
use Rattle.sd_pagetable.specs.RefusalOrder.{or_else, area_refusal, prots_in}
use Rattle.sd_pagetable.specs.Nested.{inside, is_alive}
use Rattle.sd_command.specs.declared.command.Command.{Command}
use Rattle.sd_command.specs.declared.command.Command.TheVariants as command
use Rattle.sd_command.specs.declared.refusal.Refusal.TheVariants.{Frozen}
use Rattle.sd_command.specs.declared.reply.Reply.{Reply}
use Rattle.sd_command.specs.declared.reply.Reply.TheVariants as told
use Rattle.sd_command.specs.Replies.{IsLegalReply, reply_of, denial_in}
use Rattle.sd_journal.specs.declared.entry.Entry.{Entry}
use Rattle.sd_journal.specs.declared.entry.Entry.TheVariants.{Applied}
use Rattle.sd_journal.specs.History.{Base, History, memory_after, pending}
use Rattle.sd_journal.specs.Legal.{IsLegal, MayFollow}

-- a command that was carried out wasn't denied
undenied : (due : Option AccessError) (P : Type 0) → MatchOption due P (λ why. told.Done ≡ reply_of why) → due ≡ None
undenied None P legal = refl
undenied (Some (Refused why)) P legal = absurd (cc)
undenied (Some (Segv why)) P legal = absurd (cc)

alive_due : (b : Bool) (due : Option AccessError) (other : AccessError) → cond b due (Some other) ≡ None → (b ≡ true) × (due ≡ None)
alive_due true due other e = (refl, e)
alive_due false due other e = absurd (cc)

first_due : (one other : Option AccessError) → or_else one other ≡ None → one ≡ None
first_due None other e = refl
first_due (Some why) other e = e

area_ok : (result : Result PageMap Errno) → area_refusal result ≡ None → (pages : PageMap) × (result ≡ Ok pages)
area_ok (Ok pages) e = (pages, refl)
area_ok (Err errno) e = absurd (cc)

passed : (b : Bool) (errno : Errno) (result : Result PageMap Errno) (pages : PageMap) → cond b (Err errno) result ≡ Ok pages → (b ≡ false) × (result ≡ Ok pages)
passed true errno result pages e = absurd (cc)
passed false errno result pages e = (refl, e)

some_bytes : (address bytes : ℕ) → is_invalid address bytes ≡ false → 0 < bytes
some_bytes address bytes e = grind (arith, nat_tests)

pub fits : (address bytes : ℕ) → is_outside address bytes ≡ false → page_of address + pages_for bytes ≤ 2 ^ 35
fits address bytes e = grind (arith, nat_tests)

-- a range within the addresses, with a length
abbrev pub IsRange : ℕ → ℕ → Type 0
IsRange address bytes = (0 < bytes) × (page_of address + pages_for bytes ≤ 2 ^ 35)

mapped_range : (pages : PageMap) (address bytes : ℕ) (prot : Prot) (found : PageMap) → map_result pages address bytes prot ≡ Ok found → IsRange address bytes
unfolding map_result
mapped_range pages address bytes prot found e =
    let valid = passed (is_invalid address bytes) Einval _ found e in
    let inner = passed (is_outside address bytes) Enomem _ found valid.1 in
    (some_bytes address bytes valid.0, fits address bytes inner.0)

unmapped_range : (pages : PageMap) (address bytes : ℕ) (found : PageMap) → unmap_result pages address bytes ≡ Ok found → IsRange address bytes
unfolding unmap_result
unmapped_range pages address bytes found e =
    let valid = passed (is_invalid address bytes) Einval _ found e in
    let inner = passed (is_outside address bytes) Einval _ found valid.1 in
    (some_bytes address bytes valid.0, fits address bytes inner.0)

not_zero : (bytes : ℕ) → 0 < bytes → (bytes == 0) ≡ false
not_zero bytes some = grind (arith, nat_tests)

protected_range : (pages : PageMap) (address bytes : ℕ) (prot : Prot) (found : PageMap) → protect_result pages address bytes prot ≡ Ok found → 0 < bytes
    → page_of address + pages_for bytes ≤ 2 ^ 35
unfolding protect_result
protected_range pages address bytes prot found e some =
    let start = passed (not (address % 4096 == 0)) Einval _ found e in
    let rest = rw (not_zero bytes some) at start.1 in
    let inner = passed (is_outside address bytes) Enomem _ found rest in
    fits address bytes inner.0

pub mmap_range : (memory : PlainMemory) (space address bytes : ℕ) (prot : Prot) → IsLegalReply memory false (command.Mmap space address bytes prot) told.Done → IsRange address bytes
mmap_range memory space address bytes prot legal =
    let none = undenied (denial_in memory (command.Mmap space address bytes prot)) _ legal in
    let alive = alive_due (is_alive memory space) _ _ none in
    let found = area_ok (map_result (prots_in (inside memory space)) address bytes prot) (first_due _ _ alive.1) in
    mapped_range (prots_in (inside memory space)) address bytes prot found.0 found.1

pub munmap_range : (memory : PlainMemory) (space address bytes : ℕ) → IsLegalReply memory false (command.Munmap space address bytes) told.Done → IsRange address bytes
munmap_range memory space address bytes legal =
    let none = undenied (denial_in memory (command.Munmap space address bytes)) _ legal in
    let alive = alive_due (is_alive memory space) _ _ none in
    let found = area_ok (unmap_result (prots_in (inside memory space)) address bytes) alive.1 in
    unmapped_range (prots_in (inside memory space)) address bytes found.0 found.1

pub mprotect_range : (memory : PlainMemory) (space address bytes : ℕ) (prot : Prot) → IsLegalReply memory false (command.Mprotect space address bytes prot) told.Done
    → 0 < bytes → page_of address + pages_for bytes ≤ 2 ^ 35
mprotect_range memory space address bytes prot legal some =
    let none = undenied (denial_in memory (command.Mprotect space address bytes prot)) _ legal in
    let alive = alive_due (is_alive memory space) _ _ none in
    let found = area_ok (protect_result (prots_in (inside memory space)) address bytes prot) alive.1 in
    protected_range (prots_in (inside memory space)) address bytes prot found.0 found.1 some

-- ---- the entries of a legal journal in order of time

older_legal : (start : Base) (newer older : History) → IsLegal start (newer ++ older) → IsLegal start older
older_legal start [] older legal = legal
older_legal start (entry ∷ newer) older legal = older_legal start newer older legal.1

pub next_entry : (entries : List Entry) (k : ℕ) (entry : Entry) → k < length entries → entry ≡ get_or entries k entry → reverse (take (k + 1) entries) ≡ entry ∷ reverse (take k entries)
next_entry entries k entry within e =
    let more : take (suc k) entries ≡ take k entries ++ (get_or entries k entry ∷ []) = take-suc entries k entry within in
    let same : take k entries ++ (get_or entries k entry ∷ []) ≡ take k entries ++ (entry ∷ []) = ap (λ x. take k entries ++ (x ∷ [])) (sym e) in
    let one : k + 1 ≡ suc k = omega arith in
    ap (λ n. reverse (take n entries)) one ∙ ap reverse (more ∙ same) ∙ reverse-append (take k entries) (entry ∷ [])

pub legal_at : (start : Base) (entries : List Entry) (k : ℕ) (entry : Entry) → k < length entries → entry ≡ get_or entries k entry → IsLegal start (reverse entries)
    → MayFollow start (reverse (take k entries)) entry
legal_at start entries k entry within e legal =
    let parts : reverse entries ≡ reverse (drop (k + 1) entries) ++ reverse (take (k + 1) entries) =
    ap reverse (sym (take-append-drop (k + 1) entries)) ∙ reverse-append (take (k + 1) entries) (drop (k + 1) entries) in
    let upto : IsLegal start (reverse (take (k + 1) entries)) = older_legal start (reverse (drop (k + 1) entries)) (reverse (take (k + 1) entries)) (subst (IsLegal start) parts legal) in
    let both : IsLegal start (entry ∷ reverse (take k entries)) = subst (IsLegal start) (next_entry entries k entry within e) upto in
    both.0

by_freeze : (frozen : Bool) (memory : PlainMemory) (command : Command) (reply : Reply) → IsLegalReply memory frozen command reply
    → IsLegalReply memory false command reply ⊎ (reply ≡ told.Refused Frozen)
by_freeze true memory command reply legal = inr legal
by_freeze false memory command reply legal = inl legal

-- a command of a legal journal has a legal reply in a memory that isn't frozen, or is refused as it is frozen
pub legal_command : (start : Base) (history : History) (now : PlainMemory) (seat : ℕ) (command : Command) (reply : Reply) → now ≡ memory_after start history
    → MayFollow start history (Applied seat command reply) → IsLegalReply now false command reply ⊎ (reply ≡ told.Refused Frozen)
legal_command start history now seat command reply e may =
    subst (λ memory. IsLegalReply memory false command reply ⊎ (reply ≡ told.Refused Frozen)) (sym e)
    (by_freeze (is_some (pending history)) (memory_after start history) command reply may)
