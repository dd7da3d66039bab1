-- What a call over a range makes of the areas, and what it is refused.
use Rattle.std.proofs.Common.{◌≡◌, ◌⊎◌, ℕ, ◌<◌, ◌≤◌, length, Bool, true, false, cond, nat_eq, nat_lt, is_some, Option, Some, None, Result, Ok, Err, is_ok, IfOk, OnOk, OnErr, IfErr, MatchResult, refl, sym, ◌∙◌, ap, subst, arith}
use Rattle.std.proofs.lemmas.Bool.{cond-true, cond-false, lt-ltb, le-ltb}
use Rattle.std.proofs.lemmas.Bool.Decides.{nat_tests}
use Rattle.std.specs.Ordering.{nat_cmp}
use Rattle.std.specs.BTreeMap.{BTreeMap, get, is_at}
use Rattle.std.specs.Option.{option_map}
use Rattle.std.specs.FinMap as finmap
use Rattle.sd_areas.specs.declared.errno.Errno.{Errno}
use Rattle.sd_areas.specs.declared.errno.Errno.TheVariants.{Enomem}
use Rattle.sd_areas.specs.Areas.{PageMap, areas_of}
use Rattle.sd_areas.specs.Calls.{within_areas, map_result}
use Rattle.sd_areas.specs.Pages.{page_of, pages_for}
use Rattle.sd_areas.specs.declared.prot.Prot.{Prot}
use Rattle.sd_pagetable.specs.declared.access_error.AccessError.{AccessError}
use Rattle.sd_pagetable.specs.declared.access_error.AccessError.TheVariants.{Refused}
use Rattle.sd_pagetable.specs.declared.memory_error.MemoryError.{MemoryError}
use Rattle.sd_pagetable.specs.declared.memory_error.MemoryError.TheVariants.{Denied as DeniedError, OutOfMemory}
use Rattle.sd_pagetable.specs.declared.memory_refusal.MemoryRefusal.TheVariants.{NoSuchSpace, Enomem as NoMemory}
use Rattle.sd_pagetable.specs.Nested.{Table, inside, is_alive, set_within}
use Rattle.sd_pagetable.specs.Page.{PageState, fresh_page}
use Rattle.sd_pagetable.specs.Contents.{Contents, page_count, plain_of}
use Rattle.sd_pagetable.specs.RefusalOrder.{Answers, area_refusal, in_space, or_else, mmap_refusal}
use Rattle.sd_pagetable.specs.Kept.{prots_of, HasAreas}
use Rattle.sd_pagetable.specs.RangeCalls.{Refuses, HasPut, HasSame, pages_refusal}
use Rattle.sd_pagetable.specs.Tracking.{with_space}
use Rattle.sd_pagetable.proofs.RangeRefusals.{mmap_seen}

-- ---- areas that were changed where they stand
turned : (a b : ℕ) → is_at (nat_cmp a) b ≡ nat_eq b a
turned a b = grind (arith, nat_tests)

pub areas_put : (old new : BTreeMap ℕ PageMap) (s : ℕ) (own : PageMap) → ((q : ℕ) → get nat_cmp new q ≡ cond (is_at (nat_cmp s) q) (Some own) (get nat_cmp old q)) → HasPut old new s own
areas_put old new s own written = λ q. written q ∙ ap (λ b. cond b (Some own) (get nat_cmp old q)) (turned s q)

pub areas_same : (old new : BTreeMap ℕ PageMap) (s : ℕ) (was own : PageMap) → Some was ≡ get nat_cmp old s → own ≡ was → HasPut old new s own → HasSame old new
areas_same old new s was own found e put = grind arith

pub still_kept : (old new : BTreeMap ℕ PageMap) (c : Contents) → HasSame old new → HasAreas old c → HasAreas new c
still_kept old new c same kept = λ q. same q ∙ kept q

-- ---- the areas that a look-up found
seen_table : (own : PageMap) (o : Option (Table PageState)) → Some own ≡ option_map prots_of o → (t : Table PageState) × (o ≡ Some t) × (own ≡ prots_of t)
seen_table own None e = absurd (cc)
seen_table own (Some t) e = (t, refl, let f : own ≡ prots_of t = cc in f)

pub areas_found : (areas : BTreeMap ℕ PageMap) (c : Contents) (s : ℕ) (own : PageMap) → HasAreas areas c → Some own ≡ get nat_cmp areas s → (is_alive c.spaces s ≡ true) × (own ≡ prots_of (inside c.spaces s))
areas_found areas c s own kept found = grind arith

pub areas_absent : (areas : BTreeMap ℕ PageMap) (c : Contents) (s : ℕ) → HasAreas areas c → None ≡ get nat_cmp areas s → is_alive c.spaces s ≡ false
areas_absent areas c s kept none = absent (finmap.get c.spaces s) (none ∙ kept s)
  where
    absent : (o : Option (Table PageState)) → None ≡ option_map prots_of o → is_some o ≡ false
    absent None e = refl
    absent (Some t) e = absurd (cc)

pub dead_due : (c : Contents) (s : ℕ) (due : Option AccessError) → is_alive c.spaces s ≡ false → in_space c.spaces s due ≡ Some (Refused NoSuchSpace)
dead_due c s due dead = cond-false _ _ _ dead

-- ---- refusals

-- over 65,536 pages, and perhaps over 1,024 areas
pub refused_by_pages : (pages : PageMap) (after : Contents) → 65536 < page_count after.spaces → or_else (area_refusal (within_areas pages)) (pages_refusal after) ≡ Some (Refused NoMemory)
unfolding within_areas
refused_by_pages pages after many = by_limit (nat_lt 1024 (length (areas_of pages)))
  where
    by_limit : (b : Bool) → or_else (area_refusal (cond b (Err Enomem) (Ok pages))) (pages_refusal after) ≡ Some (Refused NoMemory)
    by_limit true = refl
    by_limit false = cond-true _ _ _ (lt-ltb _ _ many)

pub nothing_over : (r : Result PageMap Errno) (own : PageMap) (after : Contents) → r ≡ Ok own → page_count after.spaces ≤ 65536 → or_else (area_refusal r) (pages_refusal after) ≡ None
nothing_over r own after is few = ap (λ x. or_else (area_refusal x) (pages_refusal after)) is ∙ cond-false _ _ _ (le-ltb _ _ few)

pub pages_refused : (e : MemoryError) (pages : PageMap) (r : Result PageMap Errno) (after : Contents) → r ≡ within_areas pages → (e ≡ OutOfMemory) ⊎ (e ≡ DeniedError (Refused NoMemory))
    → (e ≡ DeniedError (Refused NoMemory) → 65536 < page_count after.spaces) → Refuses e (or_else (area_refusal r) (pages_refusal after))
pages_refused e pages r after is given many = grind (arith, refused_by_pages)

-- what `map_err` leaves at `Ok`
pub passed_on : {A D E : Type 0} (Q : E → Type 0) (r : Result A E) (s : Result A D) (x : A) (P : A → Type 0) → MatchResult r (λ y. s ≡ Ok y) Q → is_ok s ≡ is_ok r → s ≡ Ok x → IfOk r P → P x
passed_on Q (Ok y) s x P cases variant was holds = subst P (let e : Ok y ≡ Ok x = sym cases ∙ was in let f : y ≡ x = cc in f) holds
passed_on Q (Err e) s x P cases variant was holds = absurd (let f : true ≡ false = sym (ap is_ok was) ∙ variant in cc)

pub on_both : {A E : Type 0} (P Q : Type 0) (r : Result A E) → OnOk r P → OnOk r Q → OnOk r (P × Q)
on_both P Q (Ok x) p q = (p, q)
on_both P Q (Err e) p q = tt

pub by_result : {A E : Type 0} (P Q S : Type 0) (r : Result A E) → OnOk r P → OnErr r Q → (P → S) → (Q → S) → S
by_result P Q S (Ok x) p q f g = f p
by_result P Q S (Err e) p q f g = g q

-- ---- which refusal of `mmap` applies
pub answers_by : {T : Type 0} (due : Option AccessError) (r : Result T MemoryError) → OnOk r (due ≡ None) → IfErr r (λ e. Refuses e due) → Answers due r
answers_by due r none refused = grind arith

pub mmap_due_is : (c : Contents) (s address bytes : ℕ) (prot : Prot) (own : PageMap) → is_alive c.spaces s ≡ true → own ≡ prots_of (inside c.spaces s)
    → mmap_refusal (plain_of c) s address bytes prot
    ≡ or_else (area_refusal (map_result own address bytes prot)) (pages_refusal (with_space c s (set_within (inside c.spaces s) (page_of address) (pages_for bytes) (fresh_page prot))))
mmap_due_is c s address bytes prot own alive are = grind (arith, mmap_seen, cond-true)
