-- The dump of a frozen memory.
use Rattle.std.proofs.Common.{◌≡◌, ◌⊎◌, ℕ, zero, suc, Bool, true, false, cond, ◌||◌, ◌==◌, List, [], ◌++◌, length, replicate, Option, Some, None, IsSome, refl, sym, ◌∙◌, ap, subst, inl, inr, arith}
use Rattle.std.specs.List.{list_all}
use Rattle.std.specs.Option.{option_map, is_some}
use Rattle.std.proofs.lemmas.Bool.{cases_Bool, both_ways}
use Rattle.sd_areas.specs.PlainMemory as plain
use Rattle.sd_image.specs.declared.run.RunKind.TheVariants.{Data, Parent, Zero}
use Rattle.sd_pagetable.specs.Nested.{value_at}
use Rattle.sd_pagetable.specs.Page.{PageState, zeros, cleared_page, plain_page}
use Rattle.sd_pagetable.specs.Contents.{Contents, page_at, plain_of}
use Rattle.sd_pagetable.specs.Law.{ClearLaw, IsClearedAt, PlainLaw}
use Rattle.sd_pagetable.specs.Order.{IsNextPage}
use Rattle.sd_pagetable.specs.PageLaw.{clean_at}
use Rattle.sd_pagetable.specs.Tracking.{Step, Cleared}
use Rattle.sd_writing.specs.Entries.{Place}
use Rattle.sd_rounds.specs.Pass.{Taking, Pass, has_passed, opened, visited, begun_to_take, left_to_parent, with_entry, copied_more, taken_as_zero}
use Rattle.sd_writing.specs.Files.{Stored}
use Rattle.sd_rounds.specs.Keeps.{Chain, Keeps}
use Rattle.sd_rounds.specs.Rises.{IsRising, kind_at}
use Rattle.sd_rounds.specs.Dump.{kind_of_bytes, right_kind, WasToBeTaken, IsDumping, IsDumped, DumpLaws}
use Rattle.sd_rounds.proofs.Clean.{no_some, one_some, clean_there}
use Rattle.sd_rounds.proofs.KeepsLemmas.{none_taken, is_at, long_zeros}
use Rattle.sd_rounds.proofs.Lists.{put_after}
use Rattle.sd_rounds.proofs.Orders.{apart_page, same_or_apart, passed_here, ahead_more, above_not_passed, passed_next, passed_all}
use Rattle.sd_rounds.proofs.RisesLemmas.{kind_put_other, kind_put_here, missing}

-- ---- two memories with one plain memory

some_or_none : {X : Type 0} (o : Option X) → (o ≡ None) ⊎ ((x : X) × (o ≡ Some x))
some_or_none None = inl refl
some_or_none (Some x) = inr (x, refl)

is_some_at : {X : Type 0} (o : Option X) (x : X) → o ≡ Some x → IsSome o
is_some_at o x e = ap is_some e

-- what the plain memory has at a page, by the memory
plain_at : PlainLaw → (memory cut : Contents) → plain_of memory ≡ plain_of cut → (at : Place)
    → option_map plain_page (page_at memory at.0 at.1) ≡ option_map plain_page (page_at cut at.0 at.1)
plain_at law memory cut same at =
    sym (law.pages memory at.0 at.1) ∙ ap (λ p. value_at p at.0 at.1) same ∙ law.pages cut at.0 at.1

-- a page of one is a page of the other, with the same bytes
pub other_page : PlainLaw → (memory cut : Contents) → plain_of memory ≡ plain_of cut → (at : Place) (page : PageState) → page_at cut at.0 at.1 ≡ Some page
    → (found : PageState) × (page_at memory at.0 at.1 ≡ Some found) × (found.bytes ≡ page.bytes)
other_page law memory cut same at page there = by (page_at memory at.0 at.1) (plain_at law memory cut same at ∙ ap (option_map plain_page) there)
  where
    by : (o : Option PageState) → option_map plain_page o ≡ Some (plain_page page) → (found : PageState) × (o ≡ Some found) × (found.bytes ≡ page.bytes)
    by None e = absurd (no_some (plain_page page) refl e)
    by (Some found) e = (found, refl, ap (λ (p : plain.Page). p.bytes) (one_some (plain_page found) (plain_page page) refl e))

-- ---- the steps

freezes : (takes_all : Bool) (memory : Contents) → IsDumping memory (opened takes_all) memory
freezes takes_all memory = grind arith

-- ---- a visit

-- the page that is visited is that of the freeze
at_freeze : (cut : Contents) (pass : Pass) (old : Contents) (at : Place) (page : PageState) → IsNextPage old.spaces pass.after (Some at)
    → page_at old at.0 at.1 ≡ Some page → IsDumping cut pass old → page_at cut at.0 at.1 ≡ Some page
at_freeze cut pass old at page next there dumping = sym (dumping.ahead at (above_not_passed pass.after at next.1)) ∙ there

-- a page that the cursor passes without visiting it isn't mapped, and has no entry
kind_before : (cut : Contents) (pass : Pass) (old : Contents) (at q : Place) → pass.taking ≡ None → IsRising pass
    → IsNextPage old.spaces pass.after (Some at) → IsDumping cut pass old → has_passed (Some at) q ≡ true → (at ≡ q → ⊥)
    → kind_at pass.entries q ≡ right_kind pass.takes_all (page_at cut q.0 q.1)
kind_before cut pass old at q none rising next dumping passed apart = grind (arith, cases_Bool, none_taken, some_or_none, missing, passed_next, is_some_at, both_ways)

-- what a visit does to the memory
pub record Visits (cut old new : Contents) (pass : Pass) (at : Place) (page : PageState) : Type 0 where
  pub none : pass.taking ≡ None
  pub rising : IsRising pass
  pub next : IsNextPage old.spaces pass.after (Some at)
  pub there : page_at old at.0 at.1 ≡ Some page
  pub cleared : IsClearedAt at.0 at.1 old new
  pub same : plain_of new ≡ plain_of old
  pub dumping : IsDumping cut pass old

ahead_visited : (cut old new : Contents) (pass : Pass) (at : Place) (page : PageState) → Visits cut old new pass at page → (q : Place) → has_passed (Some at) q ≡ false
    → page_at new q.0 q.1 ≡ page_at cut q.0 q.1
ahead_visited cut old new pass at page v q ahead = grind (arith, both_ways, passed_here, apart_page, ahead_more)

passed_visited : (cut old new : Contents) (pass : Pass) (at : Place) (page : PageState) → Visits cut old new pass at page → (q : Place) (found : PageState) → has_passed (Some at) q ≡ true
    → page_at new q.0 q.1 ≡ Some found → found.soft_dirty ≡ false
passed_visited cut old new pass at page v q found passed there = elim (same_or_apart at q) [
  | inl e ↦
      let now : page_at new q.0 q.1 ≡ Some (cleared_page page) =
      subst (λ (p : Place). page_at new p.0 p.1 ≡ Some (cleared_page page)) e (v.cleared.here ∙ ap (option_map cleared_page) v.there) in
      ap (λ (p : PageState). p.soft_dirty) (one_some found (cleared_page page) there now)
  | inr apart ↦
      let before : page_at old q.0 q.1 ≡ Some found = sym (v.cleared.others q.0 q.1 (apart_page at q apart)) ∙ there in
      elim (passed_next old.spaces pass.after at q v.next (is_some_at (page_at old q.0 q.1) found before) passed) [
        | inl e ↦ absurd (apart e)
        | inr was ↦ v.dumping.passed q found was before
      ]
]

visit_takes : (cut old new : Contents) (pass : Pass) (at : Place) (page : PageState) → Visits cut old new pass at page → (pass.takes_all || page.soft_dirty) ≡ true
    → IsDumping cut (begun_to_take pass at) new
visit_takes cut old new pass at page v takes = record {
  plain = v.same ∙ v.dumping.plain;
  ahead = ahead_visited cut old new pass at page v;
  passed = passed_visited cut old new pass at page v;
  kinds = λ q passed untaken. elim (same_or_apart at q) [
    | inl e ↦ absurd (untaken (record { place = at; copied = [] }) (record { is = refl; here = e }))
    | inr apart ↦ kind_before cut pass old at q v.none v.rising v.next v.dumping passed apart
  ];
  taken = λ taking is. subst (λ (t : Taking). WasToBeTaken cut (begun_to_take pass at) t) (one_some (record { place = at; copied = [] }) taking refl is)
      (record { page = page; there = at_freeze cut pass old at page v.next v.there v.dumping; is = takes });
}

visit_leaves : (cut old new : Contents) (pass : Pass) (at : Place) (page : PageState) → Visits cut old new pass at page → (pass.takes_all || page.soft_dirty) ≡ false
    → IsDumping cut (left_to_parent pass at) new
visit_leaves cut old new pass at page v leaves = record {
  plain = v.same ∙ v.dumping.plain;
  ahead = ahead_visited cut old new pass at page v;
  passed = passed_visited cut old new pass at page v;
  kinds = λ q passed untaken. elim (same_or_apart at q) [
    | inl e ↦ subst (λ (p : Place). kind_at (put_after pass.entries at Parent) p ≡ right_kind pass.takes_all (page_at cut p.0 p.1)) e
        (kind_put_here pass.entries at Parent (missing pass.entries at v.rising.rises (v.rising.ahead at (above_not_passed pass.after at v.next.1)))
        ∙ sym (ap (right_kind pass.takes_all) (at_freeze cut pass old at page v.next v.there v.dumping)
        ∙ ap (λ b. Some (cond b (kind_of_bytes page.bytes) Parent)) leaves))
    | inr apart ↦ kind_put_other pass.entries at q Parent apart ∙ kind_before cut pass old at q v.none v.rising v.next v.dumping passed apart
  ];
  taken = λ taking is. absurd (no_some taking refl is);
}

visits : ClearLaw → (cut : Contents) (pass : Pass) (old new : Contents) (at : Place) (page : PageState) → pass.taking ≡ None → IsRising pass
    → IsNextPage old.spaces pass.after (Some at) → page_at old at.0 at.1 ≡ Some page → Step old (Cleared at.0 at.1) new → plain_of new ≡ plain_of old
    → IsDumping cut pass old → IsDumping cut (visited pass at page.soft_dirty) new
visits law cut pass old new at page none rising next there step same dumping = by (pass.takes_all || page.soft_dirty) refl
  where
    v : Visits cut old new pass at page
    v = record { none = none; rising = rising; next = next; there = there; cleared = law old new at.0 at.1 step; same = same; dumping = dumping }

    by : (b : Bool) → (pass.takes_all || page.soft_dirty) ≡ b → IsDumping cut (cond b (begun_to_take pass at) (left_to_parent pass at)) new
    by true e = visit_takes cut old new pass at page v e
    by false e = visit_leaves cut old new pass at page v e

-- ---- the page that is being taken

copies : (cut : Contents) (pass : Pass) (memory : Contents) (taking : Taking) (more : List ℕ) → pass.taking ≡ Some taking
    → IsDumping cut pass memory → IsDumping cut (copied_more pass taking more) memory
copies cut pass memory taking more is dumping = record {
  plain = dumping.plain;
  ahead = dumping.ahead;
  passed = dumping.passed;
  kinds = λ q passed untaken. dumping.kinds q passed (λ other taken.
      untaken (record { place = taking.place; copied = taking.copied ++ more }) (record { is = refl; here = is_at pass q taking other is taken }));
  taken = λ other t. subst (λ (x : Taking). WasToBeTaken cut (copied_more pass taking more) x)
      (one_some (record { place = taking.place; copied = taking.copied ++ more }) other refl t)
      (let was = dumping.taken taking is in record { page = was.page; there = was.there; is = was.is });
}

never_drops : PlainLaw → (cut : Contents) (pass : Pass) (memory : Contents) (taking : Taking) → pass.taking ≡ Some taking → IsDumping cut pass memory
    → page_at memory taking.place.0 taking.place.1 ≡ None → ⊥
never_drops law cut pass memory taking is dumping gone =
    let was = dumping.taken taking is in
    let found = other_page law memory cut dumping.plain taking.place was.page was.there in
    no_some found.0 gone found.1

-- what was copied of a page that is whole is what stood there at the freeze
same_bytes : PlainLaw → (stored : Stored) (chain : Chain) (cut : Contents) (pass : Pass) (memory : Contents) (taking : Taking) → pass.taking ≡ Some taking → IsRising pass
    → length taking.copied ≡ 4096 → Keeps stored chain pass memory → IsDumping cut pass memory → (was : WasToBeTaken cut pass taking)
    → taking.copied ≡ was.page.bytes
same_bytes law stored chain cut pass memory taking is rising long keeps dumping was =
    let found = other_page law memory cut dumping.plain taking.place was.page was.there in
    let passed : has_passed pass.after taking.place ≡ true =
    subst (λ (a : Option Place). has_passed a taking.place ≡ true) (sym (rising.taken taking is).0) (passed_here taking.place) in
    let clean : clean_at memory taking.place.0 taking.place.1 ≡ Some found.0.bytes =
    clean_there (page_at memory taking.place.0 taking.place.1) found.0 found.0.bytes found.1 (dumping.passed taking.place found.0 passed found.1) refl in
    (keeps taking.place.0 taking.place.1 found.0.bytes clean (λ _. passed)).full taking (record { is = is; here = refl }) long ∙ found.2

-- a page whose copy is what stood there at the freeze
pub enters_same : (cut : Contents) (pass : Pass) (memory : Contents) (taking : Taking) → pass.taking ≡ Some taking → IsRising pass
    → (dumping : IsDumping cut pass memory) → (was : WasToBeTaken cut pass taking) → taking.copied ≡ was.page.bytes
    → IsDumping cut (with_entry pass taking.place (kind_of_bytes taking.copied)) memory
enters_same cut pass memory taking is rising dumping was same = record {
  plain = dumping.plain;
  ahead = dumping.ahead;
  passed = dumping.passed;
  kinds = λ q passed _. elim (same_or_apart taking.place q) [
    | inl e ↦ subst (λ (p : Place). kind_at (put_after pass.entries taking.place (kind_of_bytes taking.copied)) p ≡ right_kind pass.takes_all (page_at cut p.0 p.1)) e
        (kind_put_here pass.entries taking.place (kind_of_bytes taking.copied) (missing pass.entries taking.place rising.rises (rising.taken taking is).1) ∙ sym must_dump)
    | inr apart ↦ kind_put_other pass.entries taking.place q (kind_of_bytes taking.copied) apart
        ∙ dumping.kinds q passed (λ other taken. apart (is_at pass q taking other is taken))
  ];
  taken = λ other t. absurd (no_some other refl t);
}
  where
    must_dump : right_kind pass.takes_all (page_at cut taking.place.0 taking.place.1) ≡ Some (kind_of_bytes taking.copied)
    must_dump = ap (right_kind pass.takes_all) was.there ∙ ap (λ b. Some (cond b (kind_of_bytes was.page.bytes) Parent)) was.is
        ∙ ap (λ (b : List ℕ). Some (kind_of_bytes b)) (sym same)

enters : PlainLaw → (stored : Stored) (chain : Chain) (cut : Contents) (pass : Pass) (memory : Contents) (taking : Taking) → pass.taking ≡ Some taking → IsRising pass
    → length taking.copied ≡ 4096 → Keeps stored chain pass memory
    → IsDumping cut pass memory → IsDumping cut (with_entry pass taking.place (kind_of_bytes taking.copied)) memory
enters law stored chain cut pass memory taking is rising long keeps dumping =
    let was = dumping.taken taking is in
    enters_same cut pass memory taking is rising dumping was (same_bytes law stored chain cut pass memory taking is rising long keeps dumping was)

all_zeros : (n : ℕ) → list_all (λ byte. byte == 0) (replicate n 0) ≡ true
all_zeros zero = refl
all_zeros (suc n) = all_zeros n

pub zeros_are_zero : kind_of_bytes zeros ≡ Zero
unfolding zeros
zeros_are_zero = ap (λ b. cond b Zero Data) (all_zeros 4096)

enters_zero : PlainLaw → (stored : Stored) (chain : Chain) (cut : Contents) (pass : Pass) (memory : Contents) (taking : Taking) → pass.taking ≡ Some taking → IsRising pass
    → taking.copied ≡ zeros → Keeps stored chain pass memory → IsDumping cut pass memory → IsDumping cut (taken_as_zero pass taking) memory
enters_zero law stored chain cut pass memory taking is rising zeroed keeps dumping =
    subst (λ kind. IsDumping cut (with_entry pass taking.place kind) memory) (ap kind_of_bytes zeroed ∙ zeros_are_zero)
    (enters law stored chain cut pass memory taking is rising (ap (λ (b : List ℕ). length b) zeroed ∙ long_zeros) keeps dumping)

-- ---- the end

pub ends_ways : (cut : Contents) (pass : Pass) (memory : Contents) → pass.taking ≡ None → IsRising pass
    → IsNextPage memory.spaces pass.after None → IsDumping cut pass memory → (at : Place) → kind_at pass.entries at ≡ right_kind pass.takes_all (page_at cut at.0 at.1)
ends_ways cut pass memory none rising next dumping at = grind (arith, cases_Bool, none_taken, some_or_none, missing, both_ways, passed_all, is_some_at)

ends : PlainLaw → (stored : Stored) (chain : Chain) (cut : Contents) (pass : Pass) (memory : Contents) → pass.taking ≡ None → IsRising pass
    → IsNextPage memory.spaces pass.after None → Keeps stored chain pass memory → IsDumping cut pass memory → IsDumped stored chain cut pass
ends law stored chain cut pass memory none rising next keeps dumping = record {
  kinds = ends_ways cut pass memory none rising next dumping;
  bytes = λ at page there.
      let found = other_page law memory cut dumping.plain at page there in
      let passed = passed_all memory.spaces pass.after at next (is_some_at (page_at memory at.0 at.1) found.0 found.1) in
      let clean = clean_there (page_at memory at.0 at.1) found.0 page.bytes found.1 (dumping.passed at found.0 passed found.1) found.2 in
      (keeps at.0 at.1 page.bytes clean (λ _. passed)).passed passed (none_taken pass at none);
}

pub dump_laws : ClearLaw → PlainLaw → DumpLaws
dump_laws clear law = record {
  freezes = freezes;
  visits = visits clear;
  copies = copies;
  never_drops = never_drops law;
  enters = enters law;
  enters_zero = enters_zero law;
  ends = ends law;
}
