-- What an image in the making and the images below it give, through each step.
use Rattle.std.proofs.Common.{◌≡◌, ◌⊎◌, ℕ, ◌*◌, ◌<◌, Bool, true, false, cond, ◌||◌, List, [], ◌++◌, length, take, Contains, Some, None, refl, sym, ◌∙◌, ap, subst, inl, inr, arith}
use Rattle.std.specs.Prelude.{slice_get}
use Rattle.std.specs.Option.{option_map}
use Rattle.std.proofs.lemmas.Bool.{both_ways, or_parts}
use Rattle.std.proofs.lemmas.List.{length-replicate, take_all}
use Rattle.std.proofs.lemmas.List.Elements.{Contains-append_left, Contains-push}
use Rattle.std.proofs.lemmas.Option.{slice_get_within}
use Rattle.sd_image.specs.declared.run.RunKind.{RunKind}
use Rattle.sd_image.specs.declared.run.RunKind.TheVariants.{Data, Parent, Zero}
use Rattle.sd_pagetable.specs.Page.{PageState, zeros, cleared_page}
use Rattle.sd_pagetable.specs.Contents.{Contents, IsSound, page_at}
use Rattle.sd_pagetable.specs.Law.{ClearLaw, IsClearedAt}
use Rattle.sd_pagetable.specs.Order.{IsNextPage}
use Rattle.sd_pagetable.specs.PageLaw.{CleanLaw, clean_at, clean_bytes}
use Rattle.sd_pagetable.specs.Tracking.{MemoryEvent, Step, Cleared}
use Rattle.sd_writing.specs.Entries.{Place, ImageEntry, pages_by, data_pages}
use Rattle.sd_rounds.specs.Pass.{Taking, Pass, IsTaken, has_passed, opened, visited, begun_to_take, left_to_parent, with_entry, sector_of, copied_more, dropped, taken_as_zero, taken_as_data}
use Rattle.sd_writing.specs.Files.{Stored}
use Rattle.sd_rounds.specs.Keeps.{Chain, EntriesGive, Gave, PageIsHeld, Keeps, Rests, AgreeAt, ChainWithin, IsCall, KeepsLaws, below_of}
use Rattle.sd_rounds.specs.Keeps.EntriesGive.{by_data, by_zero, by_parent}
use Rattle.sd_rounds.proofs.Clean.{no_some, one_some, clean_mapped, clean_is, clean_there, no_clean}
use Rattle.sd_rounds.proofs.Lists.{put_after, slice_get_front, front_more}
use Rattle.sd_writing.proofs.EntryLemmas.{pages_append, slice_get_back}
use Rattle.sd_rounds.proofs.Orders.{apart_page, same_or_apart, passed_here, ahead_more, above_not_passed, passed_next, passed_all}

-- ---- what entries give

pub gives_agrees : (old new : Stored) (one other : Chain) (entries : List ImageEntry) (q : Place) (bytes : List ℕ) → AgreeAt entries old new → ChainWithin one other
    → EntriesGive old one entries q bytes → EntriesGive new other entries q bytes
gives_agrees old new one other entries q bytes agree within (by_data place listed there) =
    by_data place listed (agree place (slice_get_within (pages_by Data entries) place q listed) ∙ there)
gives_agrees old new one other entries q bytes agree within (by_zero listed is) = by_zero listed is
gives_agrees old new one other entries q bytes agree within (by_parent listed below) = by_parent listed (within q bytes below)

pub gives_more : (stored : Stored) (chain : Chain) (entries : List ImageEntry) (at : Place) (kind : RunKind) (q : Place) (bytes : List ℕ)
    → EntriesGive stored chain entries q bytes → EntriesGive stored chain (put_after entries at kind) q bytes
gives_more stored chain entries at kind q bytes (by_data place listed there) =
    by_data place (subst (λ l. slice_get l place ≡ Some q) (sym (pages_append Data entries _)) (slice_get_front (pages_by Data entries) _ place q listed)) there
gives_more stored chain entries at kind q bytes (by_zero listed is) =
    by_zero (subst (λ l. Contains l q) (sym (pages_append Zero entries _)) (Contains-append_left (pages_by Zero entries) _ q listed)) is
gives_more stored chain entries at kind q bytes (by_parent listed below) =
    by_parent (subst (λ l. Contains l q) (sym (pages_append Parent entries _)) (Contains-append_left (pages_by Parent entries) _ q listed)) below

gives_data : (stored : Stored) (chain : Chain) (entries : List ImageEntry) (at : Place) (bytes : List ℕ) → stored (data_pages entries) ≡ Some bytes
    → EntriesGive stored chain (put_after entries at Data) at bytes
gives_data stored chain entries at bytes there =
    by_data (data_pages entries) (subst (λ l. slice_get l (data_pages entries) ≡ Some at) (sym (pages_append Data entries _)) (slice_get_back (pages_by Data entries) at)) there

gives_zero : (stored : Stored) (chain : Chain) (entries : List ImageEntry) (at : Place) (bytes : List ℕ) → bytes ≡ zeros
    → EntriesGive stored chain (put_after entries at Zero) at bytes
gives_zero stored chain entries at bytes is =
    by_zero (subst (λ l. Contains l at) (sym (pages_append Zero entries _)) (Contains-push (pages_by Zero entries) at)) is

gives_parent : (stored : Stored) (chain : Chain) (entries : List ImageEntry) (at : Place) (bytes : List ℕ) → below_of chain at bytes
    → EntriesGive stored chain (put_after entries at Parent) at bytes
gives_parent stored chain entries at bytes below =
    by_parent (subst (λ l. Contains l at) (sym (pages_append Parent entries _)) (Contains-push (pages_by Parent entries) at)) below

-- ---- no page is being taken, or which one

pub none_taken : (pass : Pass) (q : Place) → pass.taking ≡ None → (taking : Taking) → IsTaken pass q taking → ⊥
none_taken pass q none taking taken = no_some taking none taken.is

pub is_at : (pass : Pass) (q : Place) (taking other : Taking) → pass.taking ≡ Some taking → IsTaken pass q other → taking.place ≡ q
is_at pass q taking other is taken = ap (λ (t : Taking). t.place) (one_some taking other is taken.is) ∙ taken.here

-- ---- the steps

calls : CleanLaw → (stored : Stored) (chain : Chain) (pass : Pass) (old new : Contents) (event : MemoryEvent) → IsSound old → Step old event new → IsCall event
    → Keeps stored chain pass old → Keeps stored chain pass new
calls law stored chain pass old new event sound step call keeps = λ space number bytes clean due.
    keeps space number bytes (law old new event space number bytes sound step (call space number) clean) due

opens : (stored : Stored) (chain : Chain) (memory : Contents) → Rests chain memory → Keeps stored chain (opened false) memory
opens stored chain memory rests = grind arith

opens_whole : (stored : Stored) (chain : Chain) (memory : Contents) → Keeps stored chain (opened true) memory
opens_whole stored chain memory = λ space number bytes clean due. absurd (both_ways false refl (due refl))

-- a page other than the one that is visited was clean before the visit
was_clean : (old new : Contents) (at q : Place) (bytes : List ℕ) → IsClearedAt at.0 at.1 old new → clean_at new q.0 q.1 ≡ Some bytes
    → (at ≡ q → ⊥) → clean_at old q.0 q.1 ≡ Some bytes
was_clean old new at q bytes cleared clean apart = ap clean_bytes (sym (cleared.others q.0 q.1 (apart_page at q apart))) ∙ clean

-- what is held of another page before the visit
held_before : (stored : Stored) (chain : Chain) (pass : Pass) (old new : Contents) (at q : Place) (bytes : List ℕ)
    → IsNextPage old.spaces pass.after (Some at) → IsClearedAt at.0 at.1 old new → Keeps stored chain pass old → (at ≡ q → ⊥)
    → clean_at new q.0 q.1 ≡ Some bytes → (pass.takes_all ≡ true → has_passed (Some at) q ≡ true) → PageIsHeld stored chain pass q bytes
held_before stored chain pass old new at q bytes next cleared keeps apart clean due =
    let before = was_clean old new at q bytes cleared clean apart in
    keeps q.0 q.1 bytes before (λ all. elim (passed_next old.spaces pass.after at q next (clean_mapped (page_at old q.0 q.1) bytes before) (due all)) [
      | inl e ↦ absurd (apart e)
      | inr passed ↦ passed
    ])

-- the cursor moves on to the next page, and another page stays held
moved_on : (stored : Stored) (chain : Chain) (pass moved : Pass) (old : Contents) (at q : Place) (bytes : List ℕ)
    → IsNextPage old.spaces pass.after (Some at) → pass.taking ≡ None → (at ≡ q → ⊥) → clean_at old q.0 q.1 ≡ Some bytes
    → moved.after ≡ Some at → ((taking : Taking) → IsTaken moved q taking → ⊥) → (EntriesGive stored chain pass.entries q bytes → EntriesGive stored chain moved.entries q bytes)
    → PageIsHeld stored chain pass q bytes → PageIsHeld stored chain moved q bytes
moved_on stored chain pass moved old at q bytes next none apart clean after untaken more held = record {
  copied = λ taking taken. absurd (untaken taking taken);
  full = λ taking taken. absurd (untaken taking taken);
  passed = λ passed _.
      elim (passed_next old.spaces pass.after at q next (clean_mapped (page_at old q.0 q.1) bytes clean) (subst (λ a. has_passed a q ≡ true) after passed)) [
        | inl e ↦ absurd (apart e)
        | inr before ↦ more (held.passed before (none_taken pass q none))
      ];
  ahead = λ ahead. held.ahead (ahead_more pass.after at q next.1 (subst (λ a. has_passed a q ≡ false) after ahead));
}

visit_takes : (stored : Stored) (chain : Chain) (pass : Pass) (old new : Contents) (at : Place) → pass.taking ≡ None
    → IsNextPage old.spaces pass.after (Some at) → IsClearedAt at.0 at.1 old new
    → Keeps stored chain pass old → Keeps stored chain (begun_to_take pass at) new
visit_takes stored chain pass old new at none next cleared keeps = λ space number bytes clean due. by (space, number) bytes clean due (same_or_apart at (space, number))
  where
    began : Taking
    began = record { place = at; copied = [] }

    here : (q : Place) (bytes : List ℕ) → at ≡ q → PageIsHeld stored chain (begun_to_take pass at) q bytes
    here q bytes e = record {
      copied = λ taking taken. ap (λ (t : Taking). t.copied) (sym (one_some began taking refl taken.is))
          ∙ ap (λ (t : Taking). take (length t.copied) bytes) (one_some began taking refl taken.is);
      full = λ taking taken long. absurd (let f : 0 ≡ 4096 = ap (λ (t : Taking). length t.copied) (one_some began taking refl taken.is) ∙ long in omega arith);
      passed = λ passed untaken. absurd (untaken began (record { is = refl; here = e }));
      ahead = λ ahead. absurd (both_ways (has_passed (Some at) q) ahead (subst (λ (p : Place). has_passed (Some at) p ≡ true) e (passed_here at)));
    }

    by : (q : Place) (bytes : List ℕ) → clean_at new q.0 q.1 ≡ Some bytes → (pass.takes_all ≡ true → has_passed (Some at) q ≡ true)
        → (at ≡ q) ⊎ (at ≡ q → ⊥) → PageIsHeld stored chain (begun_to_take pass at) q bytes
    by q bytes clean due (inl e) = here q bytes e
    by q bytes clean due (inr apart) =
        moved_on stored chain pass (begun_to_take pass at) old at q bytes next none apart (was_clean old new at q bytes cleared clean apart) refl
        (λ taking taken. apart (ap (λ (t : Taking). t.place) (one_some began taking refl taken.is) ∙ taken.here)) (λ gives. gives)
        (held_before stored chain pass old new at q bytes next cleared keeps apart clean due)

visit_leaves : (stored : Stored) (chain : Chain) (pass : Pass) (old new : Contents) (at : Place) (page : PageState) → pass.taking ≡ None
    → IsNextPage old.spaces pass.after (Some at) → page_at old at.0 at.1 ≡ Some page → page.soft_dirty ≡ false → pass.takes_all ≡ false
    → IsClearedAt at.0 at.1 old new → Keeps stored chain pass old → Keeps stored chain (left_to_parent pass at) new
visit_leaves stored chain pass old new at page none next there clean_page part cleared keeps =
    λ space number bytes clean due. by (space, number) bytes clean due (same_or_apart at (space, number))
  where
    same_bytes : (bytes : List ℕ) → clean_at new at.0 at.1 ≡ Some bytes → page.bytes ≡ bytes
    same_bytes bytes clean = (clean_is (page_at new at.0 at.1) (cleared_page page) bytes (cleared.here ∙ ap (option_map cleared_page) there) clean).1

    below : (bytes : List ℕ) → clean_at new at.0 at.1 ≡ Some bytes → below_of chain at bytes
    below bytes clean =
        (keeps at.0 at.1 bytes (clean_there (page_at old at.0 at.1) page bytes there clean_page (same_bytes bytes clean))
        (λ all. absurd (both_ways pass.takes_all part all))).ahead (above_not_passed pass.after at next.1)

    here : (q : Place) (bytes : List ℕ) → clean_at new q.0 q.1 ≡ Some bytes → at ≡ q → PageIsHeld stored chain (left_to_parent pass at) q bytes
    here q bytes clean e = record {
      copied = λ taking taken. absurd (none_taken (left_to_parent pass at) q refl taking taken);
      full = λ taking taken. absurd (none_taken (left_to_parent pass at) q refl taking taken);
      passed = λ _ _. subst (λ (p : Place). EntriesGive stored chain (put_after pass.entries at Parent) p bytes) e
          (gives_parent stored chain pass.entries at bytes (below bytes (subst (λ (p : Place). clean_at new p.0 p.1 ≡ Some bytes) (sym e) clean)));
      ahead = λ ahead. absurd (both_ways (has_passed (Some at) q) ahead (subst (λ (p : Place). has_passed (Some at) p ≡ true) e (passed_here at)));
    }

    by : (q : Place) (bytes : List ℕ) → clean_at new q.0 q.1 ≡ Some bytes → (pass.takes_all ≡ true → has_passed (Some at) q ≡ true)
        → (at ≡ q) ⊎ (at ≡ q → ⊥) → PageIsHeld stored chain (left_to_parent pass at) q bytes
    by q bytes clean due (inl e) = here q bytes clean e
    by q bytes clean due (inr apart) =
        moved_on stored chain pass (left_to_parent pass at) old at q bytes next none apart (was_clean old new at q bytes cleared clean apart) refl
        (none_taken (left_to_parent pass at) q refl) (gives_more stored chain pass.entries at Parent q bytes)
        (held_before stored chain pass old new at q bytes next cleared keeps apart clean due)

visits : ClearLaw → (stored : Stored) (chain : Chain) (pass : Pass) (old new : Contents) (at : Place) (page : PageState) → pass.taking ≡ None
    → IsNextPage old.spaces pass.after (Some at) → page_at old at.0 at.1 ≡ Some page → Step old (Cleared at.0 at.1) new
    → Keeps stored chain pass old → Keeps stored chain (visited pass at page.soft_dirty) new
visits law stored chain pass old new at page none next there step keeps = by (pass.takes_all || page.soft_dirty) refl
  where
    by : (b : Bool) → (pass.takes_all || page.soft_dirty) ≡ b → Keeps stored chain (cond b (begun_to_take pass at) (left_to_parent pass at)) new
    by true e = visit_takes stored chain pass old new at none next (law old new at.0 at.1 step) keeps
    by false e =
        let parts = or_parts pass.takes_all page.soft_dirty e in
        visit_leaves stored chain pass old new at page none next there parts.1 parts.0 (law old new at.0 at.1 step) keeps

copies : (stored : Stored) (chain : Chain) (pass : Pass) (memory : Contents) (taking : Taking) (page : PageState) (sector : ℕ) → pass.taking ≡ Some taking
    → page_at memory taking.place.0 taking.place.1 ≡ Some page → length page.bytes ≡ 4096 → sector < 8 → length taking.copied ≡ 512 * sector
    → Keeps stored chain pass memory → Keeps stored chain (copied_more pass taking (sector_of page.bytes sector)) memory
copies stored chain pass memory taking page sector is there whole within at_sector keeps = λ space number bytes clean due.
    still (space, number) bytes clean (keeps space number bytes clean due)
  where
    more : Taking
    more = record { place = taking.place; copied = taking.copied ++ sector_of page.bytes sector }

    now : Pass
    now = copied_more pass taking (sector_of page.bytes sector)

    same_bytes : (q : Place) (bytes : List ℕ) → clean_at memory q.0 q.1 ≡ Some bytes → taking.place ≡ q → page.bytes ≡ bytes
    same_bytes q bytes clean e =
        (clean_is (page_at memory q.0 q.1) page bytes (subst (λ (p : Place). page_at memory p.0 p.1 ≡ Some page) e there) clean).1

    front : (q : Place) (bytes : List ℕ) → clean_at memory q.0 q.1 ≡ Some bytes → PageIsHeld stored chain pass q bytes → taking.place ≡ q
        → more.copied ≡ take (length more.copied) bytes
    front q bytes clean held e = grind (arith, front_more)

    still : (q : Place) (bytes : List ℕ) → clean_at memory q.0 q.1 ≡ Some bytes → PageIsHeld stored chain pass q bytes → PageIsHeld stored chain now q bytes
    still q bytes clean held = record {
      copied = λ other taken.
          let e = one_some more other refl taken.is in
          subst (λ (t : Taking). t.copied ≡ take (length t.copied) bytes) e (front q bytes clean held (is_at now q more other refl taken));
      full = λ other taken long.
          let e = one_some more other refl taken.is in
          let at_q = is_at now q more other refl taken in
          let f = subst (λ (t : Taking). t.copied ≡ take (length t.copied) bytes) e (front q bytes clean held at_q) in
          let w : length bytes ≡ 4096 = ap (λ (b : List ℕ). length b) (sym (same_bytes q bytes clean at_q)) ∙ whole in
          f ∙ take_all (length other.copied) bytes (omega arith);
      passed = λ passed untaken. held.passed passed (λ other taken. untaken more (record { is = refl; here = is_at pass q taking other is taken }));
      ahead = held.ahead;
    }

drops : (stored : Stored) (chain : Chain) (pass : Pass) (memory : Contents) (taking : Taking) → pass.taking ≡ Some taking
    → page_at memory taking.place.0 taking.place.1 ≡ None → Keeps stored chain pass memory → Keeps stored chain (dropped pass) memory
drops stored chain pass memory taking is gone keeps = λ space number bytes clean due. still (space, number) bytes clean (keeps space number bytes clean due)
  where
    still : (q : Place) (bytes : List ℕ) → clean_at memory q.0 q.1 ≡ Some bytes → PageIsHeld stored chain pass q bytes → PageIsHeld stored chain (dropped pass) q bytes
    still q bytes clean held = record {
      copied = λ other taken. absurd (none_taken (dropped pass) q refl other taken);
      full = λ other taken. absurd (none_taken (dropped pass) q refl other taken);
      passed = λ passed _. held.passed passed (λ other taken.
          no_clean (page_at memory q.0 q.1) bytes (subst (λ (p : Place). page_at memory p.0 p.1 ≡ None) (is_at pass q taking other is taken) gone) clean);
      ahead = held.ahead;
    }

-- the page that was being taken gets its entry
enters : (old new : Stored) (chain : Chain) (pass : Pass) (memory : Contents) (taking : Taking) (kind : RunKind) → pass.taking ≡ Some taking
    → length taking.copied ≡ 4096 → AgreeAt pass.entries old new
    → ((bytes : List ℕ) → taking.copied ≡ bytes → EntriesGive new chain (put_after pass.entries taking.place kind) taking.place bytes)
    → Keeps old chain pass memory → Keeps new chain (with_entry pass taking.place kind) memory
enters old new chain pass memory taking kind is long agree gives keeps = λ space number bytes clean due.
    still (space, number) bytes (keeps space number bytes clean due) (same_or_apart taking.place (space, number))
  where
    still : (q : Place) (bytes : List ℕ) → PageIsHeld old chain pass q bytes → (taking.place ≡ q) ⊎ (taking.place ≡ q → ⊥) → PageIsHeld new chain (with_entry pass taking.place kind) q bytes
    still q bytes held (inl e) = record {
      copied = λ other taken. absurd (none_taken (with_entry pass taking.place kind) q refl other taken);
      full = λ other taken. absurd (none_taken (with_entry pass taking.place kind) q refl other taken);
      passed = λ _ _. subst (λ (p : Place). EntriesGive new chain (put_after pass.entries taking.place kind) p bytes) e
          (gives bytes (held.full taking (record { is = is; here = e }) long));
      ahead = held.ahead;
    }
    still q bytes held (inr apart) = record {
      copied = λ other taken. absurd (none_taken (with_entry pass taking.place kind) q refl other taken);
      full = λ other taken. absurd (none_taken (with_entry pass taking.place kind) q refl other taken);
      passed = λ passed _. gives_more new chain pass.entries taking.place kind q bytes
          (gives_agrees old new chain chain pass.entries q bytes agree (λ _ _ below. below)
          (held.passed passed (λ other taken. apart (is_at pass q taking other is taken))));
      ahead = held.ahead;
    }

pub long_zeros : length zeros ≡ 4096
unfolding zeros
long_zeros = length-replicate {A = ℕ} 4096 0

zero : (stored : Stored) (chain : Chain) (pass : Pass) (memory : Contents) (taking : Taking) → pass.taking ≡ Some taking
    → taking.copied ≡ zeros → Keeps stored chain pass memory → Keeps stored chain (taken_as_zero pass taking) memory
zero stored chain pass memory taking is zeroed =
    enters stored stored chain pass memory taking Zero is (ap (λ (b : List ℕ). length b) zeroed ∙ long_zeros) (λ _ _. refl)
    (λ bytes same. gives_zero stored chain pass.entries taking.place bytes (sym same ∙ zeroed))

pub writes : (old new : Stored) (chain : Chain) (pass : Pass) (memory : Contents) (taking : Taking) → pass.taking ≡ Some taking
    → length taking.copied ≡ 4096 → AgreeAt pass.entries old new → new (data_pages pass.entries) ≡ Some taking.copied
    → Keeps old chain pass memory → Keeps new chain (taken_as_data pass taking) memory
writes old new chain pass memory taking is long agree there =
    enters old new chain pass memory taking Data is long agree
    (λ bytes same. gives_data new chain pass.entries taking.place bytes (there ∙ ap (λ (b : List ℕ). Some b) same))

agrees : (old new : Stored) (one other : Chain) (pass : Pass) (memory : Contents) → AgreeAt pass.entries old new → ChainWithin one other
    → Keeps old one pass memory → Keeps new other pass memory
agrees old new one other pass memory agree within keeps = λ space number bytes clean due. still (space, number) bytes (keeps space number bytes clean due)
  where
    still : (q : Place) (bytes : List ℕ) → PageIsHeld old one pass q bytes → PageIsHeld new other pass q bytes
    still q bytes held = record {
      copied = held.copied;
      full = held.full;
      passed = λ passed untaken. gives_agrees old new one other pass.entries q bytes agree within (held.passed passed untaken);
      ahead = λ ahead. within q bytes (held.ahead ahead);
    }

ends : (stored : Stored) (chain : Chain) (pass : Pass) (memory : Contents) → pass.taking ≡ None → IsNextPage memory.spaces pass.after None
    → Keeps stored chain pass memory → Gave stored chain pass.entries memory
ends stored chain pass memory none next keeps = λ space number bytes clean.
    let passed = passed_all memory.spaces pass.after (space, number) next (clean_mapped (page_at memory space number) bytes clean) in
    (keeps space number bytes clean (λ _. passed)).passed passed (none_taken pass (space, number) none)

still_gave : CleanLaw → (old new : Stored) (one other : Chain) (entries : List ImageEntry) (before after : Contents) (event : MemoryEvent) → IsSound before → Step before event after → IsCall event
    → AgreeAt entries old new → ChainWithin one other → Gave old one entries before → Gave new other entries after
still_gave law old new one other entries before after event sound step call agree within gave = λ space number bytes clean.
    gives_agrees old new one other entries (space, number) bytes agree within
    (gave space number bytes (law before after event space number bytes sound step (call space number) clean))

still_rests : CleanLaw → (one other : Chain) (before after : Contents) (event : MemoryEvent) → IsSound before → Step before event after → IsCall event
    → ChainWithin one other → Rests one before → Rests other after
still_rests law one other before after event sound step call within rests = λ space number bytes clean.
    within (space, number) bytes (rests space number bytes (law before after event space number bytes sound step (call space number) clean))

pub keeps_laws : CleanLaw → ClearLaw → KeepsLaws
keeps_laws clean clear = record {
  calls = calls clean;
  opens = opens;
  opens_whole = opens_whole;
  visits = visits clear;
  copies = copies;
  drops = drops;
  zero = zero;
  writes = writes;
  agrees = agrees;
  ends = ends;
  still_gave = still_gave clean;
  still_rests = still_rests clean;
}
