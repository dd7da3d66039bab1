-- Which refusal applies to a call over a range, and the areas after it.
use Rattle.std.proofs.Common.{◌≡◌, ℕ, ◌+◌, ◌-◌, ◌%◌, ◌<◌, ◌≤◌, ◌^◌, Bool, true, false, not, cond, nat_eq, nat_lt, ◌&&◌, ◌||◌, is_some, IsSome, Option, Some, None, Result, Ok, Err, refl, sym, ◌∙◌, ap, subst, arith}
use Rattle.std.proofs.lemmas.Bool.Decides.{nat_tests}
use Rattle.std.proofs.lemmas.Bool.{eq-eqb, ne_eqb, cond-true, cond-false}
use Rattle.std.specs.Ordering.{nat_cmp}
use Rattle.std.specs.BTreeMap.{BTreeMap, get}
use Rattle.std.specs.Option.{option_map, option_or}
use Rattle.std.specs.FinMap as finmap
use Rattle.sd_areas.specs.declared.prot.Prot.{Prot}
use Rattle.sd_areas.specs.declared.errno.Errno.{Errno}
use Rattle.sd_areas.specs.declared.errno.Errno.TheVariants.{Einval, Enomem}
use Rattle.sd_areas.specs.Areas.{PageMap}
use Rattle.sd_areas.specs.Calls.{AllHave, map_result, unmap_result, protect_result}
use Rattle.sd_areas.specs.Pages.{is_within, is_invalid, is_outside, page_of, pages_for}
use Rattle.sd_pagetable.specs.declared.access_error.AccessError.{AccessError}
use Rattle.sd_pagetable.specs.declared.access_error.AccessError.TheVariants.{Refused}
use Rattle.sd_pagetable.specs.declared.memory_refusal.MemoryRefusal.TheVariants.{NoSuchSpace, Einval as BadRange, Enomem as NoMemory}
use Rattle.sd_pagetable.specs.Nested.{Table, inside, is_alive, set_within, remove_within, change_within, fill_within}
use Rattle.sd_pagetable.specs.Page.{PageState, fresh_page, protected_page}
use Rattle.sd_pagetable.specs.Contents.{Contents, plain_of, page_count, page_at}
use Rattle.sd_pagetable.specs.RefusalOrder.{answer, area_refusal, in_space, or_else, mmap_refusal, munmap_refusal, mprotect_refusal}
use Rattle.sd_pagetable.specs.Effects.{after_mmap}
use Rattle.sd_pagetable.specs.Kept.{prots_of, HasAreas}
use Rattle.sd_pagetable.specs.Ranges.{IsCleared}
use Rattle.sd_pagetable.specs.Tracking.{with_space}
use Rattle.sd_pagetable.proofs.TableLemmas.{same_table, get-map_values, get-set_within, get-remove_within, get-change_within, get-fill_within}
use Rattle.std.specs.Prelude.{nat_le}
use Rattle.sd_pagetable.proofs.MemoryLemmas.{plain_alive}
use Rattle.sd_pagetable.proofs.RangeLemmas.{with_itself, with_twice, inside_with, at_table, change_none}
use Rattle.sd_pagetable.proofs.PlainRanges.{prots_seen, plain_mapped, plain_many}

-- ---- which refusal applies, by the contents
pub seen_due : (c : Contents) (s : ℕ) (due : PageMap → Option AccessError) (seen : PageMap) → seen ≡ prots_of (inside c.spaces s) → in_space (plain_of c) s (due seen) ≡ in_space c.spaces s (due (prots_of (inside c.spaces s)))
seen_due c s due seen same = ap (λ b. cond b (due seen) (Some (Refused NoSuchSpace))) (plain_alive c s) ∙ ap (λ p. in_space c.spaces s (due p)) same

pub munmap_seen : (c : Contents) (s address bytes : ℕ) → munmap_refusal (plain_of c) s address bytes ≡ in_space c.spaces s (area_refusal (unmap_result (prots_of (inside c.spaces s)) address bytes))
munmap_seen c s address bytes = seen_due c s (λ p. area_refusal (unmap_result p address bytes)) _ (prots_seen c s)

pub mprotect_seen : (c : Contents) (s address bytes : ℕ) (prot : Prot) → mprotect_refusal (plain_of c) s address bytes prot ≡ in_space c.spaces s (area_refusal (protect_result (prots_of (inside c.spaces s)) address bytes prot))
mprotect_seen c s address bytes prot = seen_due c s (λ p. area_refusal (protect_result p address bytes prot)) _ (prots_seen c s)

too_many : ℕ → Option AccessError
too_many pages = cond (nat_lt 65536 pages) (Some (Refused NoMemory)) None

pub mapped_pages : (c : Contents) (s address bytes : ℕ) (prot : Prot)
    → page_count (after_mmap (plain_of c) s address bytes prot) ≡ page_count (with_space c s (set_within (inside c.spaces s) (page_of address) (pages_for bytes) (fresh_page prot))).spaces
mapped_pages c s address bytes prot = sym (ap page_count (plain_mapped c s address bytes prot)) ∙ plain_many _

pub mmap_seen : (c : Contents) (s address bytes : ℕ) (prot : Prot)
    → mmap_refusal (plain_of c) s address bytes prot
    ≡ in_space c.spaces s (or_else (area_refusal (map_result (prots_of (inside c.spaces s)) address bytes prot))
    (cond (nat_lt 65536 (page_count (with_space c s (set_within (inside c.spaces s) (page_of address) (pages_for bytes) (fresh_page prot))).spaces)) (Some (Refused NoMemory)) None))
mmap_seen c s address bytes prot =
    seen_due c s (λ p. or_else (area_refusal (map_result p address bytes prot)) (cond (nat_lt 65536 (page_count (after_mmap (plain_of c) s address bytes prot))) (Some (Refused NoMemory)) None)) _ (prots_seen c s)
    ∙ ap (λ n. in_space c.spaces s (or_else (area_refusal (map_result (prots_of (inside c.spaces s)) address bytes prot)) (cond (nat_lt 65536 n) (Some (Refused NoMemory)) None))) (mapped_pages c s address bytes prot)

-- where they are few after the call, they are few in the plain memory
pub mapped_fits : (c : Contents) (s address bytes : ℕ) (prot : Prot)
    → page_count (with_space c s (set_within (inside c.spaces s) (page_of address) (pages_for bytes) (fresh_page prot))).spaces ≤ 65536
    → page_count (after_mmap (plain_of c) s address bytes prot) ≤ 65536
mapped_fits c s address bytes prot few = subst (λ n. n ≤ 65536) (sym (mapped_pages c s address bytes prot)) few

-- no refusal applies to an accepted call
pub nothing_due : (c : Contents) (s : ℕ) (answer : Result PageMap Errno) (own : PageMap) → is_alive c.spaces s ≡ true → answer ≡ Ok own → in_space c.spaces s (area_refusal answer) ≡ None
nothing_due c s answer own alive is = ap (λ b. cond b (area_refusal answer) (Some (Refused NoSuchSpace))) alive ∙ ap area_refusal is

-- a first refusal comes before a second
pub first_due : (alive : Bool) (first second : Option AccessError) (denied : AccessError) → cond alive first (Some (Refused NoSuchSpace)) ≡ Some denied → cond alive (or_else first second) (Some (Refused NoSuchSpace)) ≡ Some denied
first_due alive first second denied e = grind arith

pub many_pages : (n : ℕ) → 65536 < n → nat_lt 65536 n ≡ true
many_pages n less = grind (arith, nat_tests)

pub few_pages : (n : ℕ) → n ≤ 65536 → nat_lt 65536 n ≡ false
few_pages n le = grind (arith, nat_tests)

-- ---- where an accepted range lies
tested : (invalid outside : Bool) (e : Errno) (rest : Result PageMap Errno) (own : PageMap) → cond invalid (Err Einval) (cond outside (Err e) rest) ≡ Ok own → (invalid ≡ false) × (outside ≡ false)
tested invalid outside e rest own is = grind arith

within_space : (address bytes : ℕ) → is_outside address bytes ≡ false → page_of address + pages_for bytes ≤ 2 ^ 35
within_space address bytes outside = grind (arith, nat_tests)

has_bytes : (address bytes : ℕ) → is_invalid address bytes ≡ false → 0 < bytes
has_bytes address bytes valid = some bytes (not (nat_eq (address % 4096) 0)) valid
  where
    some : (bytes : ℕ) (b : Bool) → (nat_eq bytes 0 || b) ≡ false → 0 < bytes
    some bytes b e = grind (arith, nat_tests)

pub unmapped_within : (pages : PageMap) (address bytes : ℕ) (own : PageMap) → unmap_result pages address bytes ≡ Ok own → (page_of address + pages_for bytes ≤ 2 ^ 35) × (0 < bytes)
unfolding unmap_result
unmapped_within pages address bytes own is = grind arith

pub mapped_within : (pages : PageMap) (address bytes : ℕ) (prot : Prot) (own : PageMap) → map_result pages address bytes prot ≡ Ok own → (page_of address + pages_for bytes ≤ 2 ^ 35) × (0 < bytes)
unfolding map_result
mapped_within pages address bytes prot own is = grind arith

third : (invalid none outside : Bool) (pages : PageMap) (rest : Result PageMap Errno) (own : PageMap) → none ≡ false → cond invalid (Err Einval) (cond none (Ok pages) (cond outside (Err Enomem) rest)) ≡ Ok own → outside ≡ false
third invalid none outside pages rest own e is = grind arith

pub protected_within : (pages : PageMap) (address bytes : ℕ) (prot : Prot) (own : PageMap) → protect_result pages address bytes prot ≡ Ok own → (bytes ≡ 0 → ⊥) → page_of address + pages_for bytes ≤ 2 ^ 35
unfolding protect_result
protected_within pages address bytes prot own is some =
    within_space address bytes (third (not (nat_eq (address % 4096) 0)) (nat_eq bytes 0) (is_outside address bytes) pages _ own (differs bytes some) is)
  where
    differs : (bytes : ℕ) → (bytes ≡ 0 → ⊥) → nat_eq bytes 0 ≡ false
    differs bytes some = grind (arith, nat_tests)

-- ---- the areas afterwards
set_prot : (b : Bool) (prot : Prot) (o : Option PageState) → cond b (Some prot) (option_map (λ (page : PageState). page.prot) o) ≡ option_map (λ (page : PageState). page.prot) (cond b (Some (fresh_page prot)) o)
set_prot b prot o = grind arith

pub own_mapped : (t : Table PageState) (own : PageMap) (first count : ℕ) (prot : Prot) → ((q : ℕ) → finmap.get own q ≡ cond (is_within first count q) (Some prot) (finmap.get (prots_of t) q)) → own ≡ prots_of (set_within t first count (fresh_page prot))
own_mapped t own first count prot law = same_table _ _ (λ q. law q ∙ ap (cond (is_within first count q) (Some prot)) (get-map_values (λ (page : PageState). page.prot) t q) ∙ set_prot (is_within first count q) prot (finmap.get t q)
    ∙ ap (option_map (λ (page : PageState). page.prot)) (sym (get-set_within t first count (fresh_page prot) q)) ∙ sym (get-map_values (λ (page : PageState). page.prot) (set_within t first count (fresh_page prot)) q))

remove_prot : (b : Bool) (o : Option PageState) → cond b None (option_map (λ (page : PageState). page.prot) o) ≡ option_map (λ (page : PageState). page.prot) (cond b None o)
remove_prot b o = grind arith

pub own_unmapped : (t : Table PageState) (own : PageMap) (first count : ℕ) → ((q : ℕ) → finmap.get own q ≡ cond (is_within first count q) None (finmap.get (prots_of t) q)) → own ≡ prots_of (remove_within t first count)
own_unmapped t own first count law = same_table _ _ (λ q. law q ∙ ap (cond (is_within first count q) None) (get-map_values (λ (page : PageState). page.prot) t q) ∙ remove_prot (is_within first count q) (finmap.get t q)
    ∙ ap (option_map (λ (page : PageState). page.prot)) (sym (get-remove_within t first count q)) ∙ sym (get-map_values (λ (page : PageState). page.prot) (remove_within t first count) q))

change_prot : (b : Bool) (prot : Prot) (o : Option PageState) → (b ≡ true → IsSome (option_map (λ (page : PageState). page.prot) o))
    → cond b (Some prot) (option_map (λ (page : PageState). page.prot) o) ≡ option_map (λ (page : PageState). page.prot) (option_map (λ x. cond b (protected_page prot x) x) o)
change_prot b prot o there = grind arith

pub own_protected : (t : Table PageState) (own : PageMap) (first count : ℕ) (prot : Prot)
    → ((q : ℕ) → (finmap.get own q ≡ cond (is_within first count q) (Some prot) (finmap.get (prots_of t) q)) × (is_within first count q ≡ true → IsSome (finmap.get (prots_of t) q)))
    → own ≡ prots_of (change_within (protected_page prot) t first count)
own_protected t own first count prot law = grind (arith, same_table, get-map_values, change_prot, get-change_within)

-- a range of no bytes has no page
pub no_bytes : (c : Contents) (s address bytes : ℕ) (change : PageState → PageState) → is_alive c.spaces s ≡ true → bytes ≡ 0 → c ≡ with_space c s (change_within change (inside c.spaces s) (page_of address) (pages_for bytes))
no_bytes c s address bytes change alive none =
    let count : pages_for bytes ≡ page_of address - page_of address = omega (arith, none) in
    sym (ap (λ n. with_space c s (change_within change (inside c.spaces s) (page_of address) n)) count ∙ ap (with_space c s) (change_none change (inside c.spaces s) (page_of address)) ∙ with_itself c s alive)

-- a hole by the areas is one by the pages
hole_by_areas : (o : Option PageState) → not (is_some (option_map (λ (page : PageState). page.prot) o)) ≡ not (is_some o)
hole_by_areas o = grind arith

-- ---- mapping a run
or_filled : (within hole : Bool) (o : Option PageState) (x : PageState) → hole ≡ not (is_some o) → cond (within && hole) None (option_or o (cond within (Some x) None)) ≡ o
or_filled within hole o x e = grind arith

-- what was filled was taken out again
pub filled_back : (old mid new : Contents) (s first reached : ℕ) (x : PageState) (own : PageMap) → is_alive old.spaces s ≡ true → own ≡ prots_of (inside old.spaces s)
    → mid ≡ with_space old s (fill_within (inside old.spaces s) first (reached - first) x) → IsCleared mid new s (λ q. is_within first (reached - first) q && not (is_some (finmap.get own q))) → new ≡ old
filled_back old mid new s first reached x own alive are filled cleared =
    cleared.others ∙ ap (λ c. with_space c s (inside new.spaces s)) filled ∙ with_twice old s _ (inside new.spaces s) ∙ ap (with_space old s) same ∙ with_itself old s alive
  where
    at : (q : ℕ) → page_at new s q ≡ page_at old s q
    at q = cleared.pages q ∙ ap (cond (is_within first (reached - first) q && not (is_some (finmap.get own q))) None) (ap (λ c. page_at c s q) filled ∙ at_table old s q _ ∙ get-fill_within (inside old.spaces s) first (reached - first) x q)
        ∙ or_filled (is_within first (reached - first) q) (not (is_some (finmap.get own q))) (page_at old s q) x
        (ap (λ m. not (is_some (finmap.get m q))) are ∙ ap (λ o. not (is_some o)) (get-map_values (λ (page : PageState). page.prot) (inside old.spaces s) q) ∙ hole_by_areas (finmap.get (inside old.spaces s) q))

    same : inside new.spaces s ≡ inside old.spaces s
    same = same_table _ _ at

in_the_run : (first end q : ℕ) → first ≤ q → q < end → is_within first (end - first) q ≡ true
in_the_run first end q from below = grind (arith, nat_tests)

-- a page that isn't mapped doesn't have the permissions
no_prot : (o : Option PageState) (prot : Prot) → o ≡ None → option_map (λ (page : PageState). page.prot) o ≡ Some prot → ⊥
no_prot None prot e f = cc
no_prot (Some page) prot e f = cc

pub hole_lacks : (c : Contents) (s first end q : ℕ) (own : PageMap) (prot : Prot) → own ≡ prots_of (inside c.spaces s) → first ≤ q → q < end → page_at c s q ≡ None → AllHave own first (end - first) (Some prot) → ⊥
hole_lacks c s first end q own prot are from below hole all =
    no_prot (finmap.get (inside c.spaces s) q) prot hole
    (sym (ap (λ m. finmap.get m q) are ∙ get-map_values (λ (page : PageState). page.prot) (inside c.spaces s) q) ∙ all q (in_the_run first end q from below))

filled_some : (o : Option PageState) (x : PageState) → IsSome (option_or o (Some x))
filled_some o x = grind arith

pub filled_there : (old mid : Contents) (s first end q : ℕ) (x : PageState) → mid ≡ with_space old s (fill_within (inside old.spaces s) first (end - first) x) → first ≤ q → q < end → IsSome (page_at mid s q)
filled_there old mid s first end q x filled from below = grind (arith, at_table, get-fill_within, in_the_run, filled_some)

set_over : (b : Bool) (o : Option PageState) (x : PageState) → cond b (Some x) (option_or o (cond b (Some x) None)) ≡ cond b (Some x) o
set_over b o x = grind arith

pub renewed_run : (old mid new : Contents) (s first end : ℕ) (x : PageState) → mid ≡ with_space old s (fill_within (inside old.spaces s) first (end - first) x)
    → new ≡ with_space mid s (set_within (inside mid.spaces s) first (end - first) x) → new ≡ with_space old s (set_within (inside old.spaces s) first (end - first) x)
renewed_run old mid new s first end x filled renewed = grind (arith, inside_with, same_table, get-set_within, get-fill_within, set_over, with_twice)

pub is_at_most : (n : ℕ) → nat_le n 65536 ≡ true → n ≤ 65536
is_at_most n e = grind (arith, nat_tests)

pub is_above : (n : ℕ) → nat_le n 65536 ≡ false → 65536 < n
is_above n e = grind (arith, nat_tests)

-- ---- what is tested before memory is taken
tested_first : {own : PageMap} (invalid outside : Bool) (past : Errno) (r : Result PageMap Errno) → cond invalid (Err Einval) (cond outside (Err past) r) ≡ Ok own → (invalid ≡ false) × (outside ≡ false)
tested_first {own} true outside past r e = absurd (let f : ◌≡◌ {A = Result PageMap Errno} (Err Einval) (Ok own) = e in cc)
tested_first {own} false true past r e = absurd (let f : ◌≡◌ {A = Result PageMap Errno} (Err past) (Ok own) = e in cc)
tested_first {own} false false past r e = (refl, refl)

pub mapped_range : (pages : PageMap) (address bytes : ℕ) (prot : Prot) (own : PageMap) → map_result pages address bytes prot ≡ Ok own → (is_invalid address bytes ≡ false) × (is_outside address bytes ≡ false)
unfolding map_result
mapped_range pages address bytes prot own is = tested_first _ _ Enomem _ is

-- `mprotect` of no bytes
still_some : (o : Option (Table PageState)) → is_some (option_map prots_of o) ≡ is_some o
still_some o = grind arith

pub alive_areas : (areas : BTreeMap ℕ PageMap) (c : Contents) (s : ℕ) (found : Bool) → HasAreas areas c → is_some (get nat_cmp areas s) ≡ found → is_alive c.spaces s ≡ found
alive_areas areas c s found kept is = sym (still_some (finmap.get c.spaces s)) ∙ ap is_some (sym (kept s)) ∙ is

pub nothing_dead : (c : Contents) (s address : ℕ) (prot : Prot) → is_alive c.spaces s ≡ false → mprotect_refusal (plain_of c) s address 0 prot ≡ Some (Refused NoSuchSpace)
nothing_dead c s address prot dead = mprotect_seen c s address 0 prot ∙ cond-false _ _ _ dead

pub nothing_between : (c : Contents) (s address : ℕ) (prot : Prot) → is_alive c.spaces s ≡ true → (address % 4096 ≡ 0 → ⊥) → mprotect_refusal (plain_of c) s address 0 prot ≡ Some (Refused BadRange)
unfolding protect_result
nothing_between c s address prot alive between = mprotect_seen c s address 0 prot ∙ cond-true _ _ _ alive ∙ ap area_refusal (cond-true _ _ _ (ap not (ne_eqb _ _ between)))

pub nothing_refused : (c : Contents) (s address : ℕ) (prot : Prot) → is_alive c.spaces s ≡ true → address % 4096 ≡ 0 → mprotect_refusal (plain_of c) s address 0 prot ≡ None
unfolding protect_result
nothing_refused c s address prot alive starts = mprotect_seen c s address 0 prot ∙ cond-true _ _ _ alive ∙ ap area_refusal (cond-false _ _ _ (ap not (eq-eqb _ _ starts)))

pub accepted_alive : (c : Contents) (s address : ℕ) (prot : Prot) → ◌≡◌ {A = Result (Unit {0}) AccessError} (Ok tt) (answer (mprotect_refusal (plain_of c) s address 0 prot) tt) → is_alive c.spaces s ≡ true
accepted_alive c s address prot e = by (is_alive c.spaces s) refl
  where
    by : (b : Bool) → is_alive c.spaces s ≡ b → is_alive c.spaces s ≡ true
    by true is = is
    by false is = absurd (let f : ◌≡◌ {A = Result (Unit {0}) AccessError} (Ok tt) (Err (Refused NoSuchSpace)) = e ∙ ap (λ (due : Option AccessError). answer due (tt {0})) (nothing_dead c s address prot is) in cc)
