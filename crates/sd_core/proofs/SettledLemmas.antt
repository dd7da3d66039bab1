-- Which pages a trim finds visited, after each step.
use Rattle.std.proofs.Common.{◌≡◌, ◌⊎◌, ℕ, Bool, true, false, [], ◌∷◌, Option, Some, None, IsSome, is_some, refl, sym, ◌∙◌, ap, subst, inl, inr, arith}
use Rattle.std.proofs.lemmas.Bool.{both_ways, cases_Bool}
use Rattle.std.proofs.lemmas.Bool.Decides.{nat_tests}
use Rattle.std.specs.Option.{option_map}
use Rattle.sd_command.specs.declared.command.Command.{Command}
use Rattle.sd_command.specs.declared.reply.Reply.{Reply}
use Rattle.sd_journal.specs.declared.entry.Entry.{Entry}
use Rattle.sd_journal.specs.History.{Base}
use Rattle.sd_journal.specs.Marked.{Item, IsTracked, Marked, Told, entries_of, events_of, must_dump, is_mapped, memory_at}
use Rattle.sd_journal.specs.Trimming.{Ends, HasVisited, IsEnded}
use Rattle.sd_pagetable.specs.Contents.{Contents, IsSound, page_at}
use Rattle.sd_pagetable.specs.Law.{ClearLaw, IsClearedAt, PlainLaw}
use Rattle.sd_pagetable.specs.Page.{PageState, cleared_page, plain_page}
use Rattle.sd_pagetable.specs.Tracking.{Cleared, Step, is_page, is_writable}
use Rattle.sd_core.specs.Answering.{IsAnswered}
use Rattle.sd_core.specs.Visited.{HasSettled, HasVisitedAll, IsClean}

-- ---- the front that ended the last checkpoint

-- it stays the front, whatever comes next
pub settled_more : (base : Base) (items now : Marked) (item : Item) (newest : Option ℕ) → now ≡ item ∷ items → HasSettled base items newest → HasSettled base now newest
settled_more base items now item newest is (inl own) = inl own
settled_more base items now item newest is (inr was) = inr (
  was.0,
  was.1,
  record {
    kept = item ∷ was.2.kept;
    folded = was.2.folded;
    parts = is ∙ ap (λ all. item ∷ all) was.2.parts;
    front = was.2.front;
    visited = was.2.visited;
  },
)

no_true : {P : Type 0} → false ≡ true → P
no_true is = absurd (let no : false ≡ true = is in cc)

-- a clean memory was visited page by page
pub visited_now : PlainLaw → (base : Base) (items : Marked) (memory : Contents) → IsTracked base items memory → IsSound memory → IsClean memory → HasVisited base items
visited_now law base items memory tracked sound clean = record {
  clean = λ space page mapped. due space page (page_at memory space page) refl (there space page mapped);
  protected = λ space page mapped. still space page (page_at memory space page) refl (there space page mapped);
}
  where
    there : (space page : ℕ) → is_mapped (memory_at base items) space page ≡ true → is_some (option_map plain_page (page_at memory space page)) ≡ true
    there space page mapped = ap is_some (sym (law.pages memory space page)) ∙ ap (λ m. is_mapped m space page) tracked.memory ∙ mapped

    due : (space page : ℕ) (o : Option PageState) → page_at memory space page ≡ o → is_some (option_map plain_page o) ≡ true → must_dump base items space page ≡ false
    due space page o is some = grind arith

    still : (space page : ℕ) (o : Option PageState) → page_at memory space page ≡ o → is_some (option_map plain_page o) ≡ true → is_writable (events_of items) space page ≡ false
    still space page None is some = no_true some
    still space page (Some found) is some = sym (tracked.bits.writable space page found is) ∙ by (cases_Bool found.writable)
      where
        by : (found.writable ≡ true) ⊎ (found.writable ≡ false) → found.writable ≡ false
        by (inl writable) = absurd (both_ways found.soft_dirty (clean space page found is) (sound.writable space page found is writable).soft_dirty)
        by (inr not) = not

-- an entry that ends the last checkpoint's pending, after which the memory is clean
pub settled_now : PlainLaw → (base : Base) (items now : Marked) (memory : Contents) (n : ℕ) (entry : Entry) → now ≡ Told entry ∷ items → Ends n (entries_of items) entry
    → IsTracked base now memory → IsSound memory → IsClean memory → HasSettled base now (Some n)
settled_now law base items now memory n entry is ends tracked sound clean = inr (
  n,
  refl,
  record {
    kept = [];
    folded = now;
    parts = refl;
    front = record {
      newest = (entry, items, is);
      ended = subst (λ all. IsEnded n (entries_of all)) (sym is) ends;
    };
    visited = visited_now law base now memory tracked sound clean;
  },
)

-- ---- the pass of the pending checkpoint's dump

-- nothing changed
pub swept_same : (swept now : Bool) (frozen after : Option ℕ) (memory new : Contents) → now ≡ swept → after ≡ frozen → new ≡ memory → HasVisitedAll swept frozen memory → HasVisitedAll now after new
swept_same swept now frozen after memory new same pends still was is =
    let had = was (sym same ∙ is) in
    (subst IsSome (sym after_is) had.0, subst IsClean (sym still) had.1)
  where
    after_is : after ≡ frozen
    after_is = pends

-- it isn't over
pub not_swept : (now : Bool) (frozen : Option ℕ) (memory : Contents) → now ≡ false → HasVisitedAll now frozen memory
not_swept now frozen memory none is = no_true (sym none ∙ is)

-- while nothing is pending it isn't over
pub unswept : (swept : Bool) (frozen : Option ℕ) (memory : Contents) → frozen ≡ None → HasVisitedAll swept frozen memory → swept ≡ false
unswept swept frozen memory none was = grind arith

pub none_swept : (swept : Bool) (frozen after : Option ℕ) (memory new : Contents) → frozen ≡ None → HasVisitedAll swept frozen memory → HasVisitedAll swept after new
none_swept swept frozen after memory new none was is = no_true (subst IsSome none (was is).0)

-- a command that comes then changes nothing
pub swept_answered : (swept : Bool) (frozen : Option ℕ) (command : Command) (reply : Reply) (memory new : Contents) → IsAnswered (is_some frozen) command reply memory new
    → HasVisitedAll swept frozen memory → HasVisitedAll swept frozen new
swept_answered swept frozen command reply memory new answered was is = grind arith

same_space : (s p space page : ℕ) → is_page s p space page ≡ true → s ≡ space
same_space s p space page e = grind (arith, nat_tests)

same_number : (s p space page : ℕ) → is_page s p space page ≡ true → p ≡ page
same_number s p space page e = grind (arith, nat_tests)

-- a page is cleared
pub clean_cleared : ClearLaw → (old new : Contents) (space number : ℕ) → Step old (Cleared space number) new → IsClean old → IsClean new
clean_cleared law old new space number step clean at page found there = by (is_page space number at page) refl
  where
    done : IsClearedAt space number old new
    done = law old new space number step

    cleared : (o : Option PageState) → option_map cleared_page o ≡ Some found → found.soft_dirty ≡ false
    cleared None e = absurd (let no : None ≡ Some found = e in cc)
    cleared (Some was) e = ap (λ (p : PageState). p.soft_dirty) (sym (same was e))
      where
        same : (was : PageState) → Some (cleared_page was) ≡ Some found → cleared_page was ≡ found
        same was e = cc

    by : (b : Bool) → is_page space number at page ≡ b → found.soft_dirty ≡ false
    by true here = cleared (page_at old space number) (sym done.here ∙ ap (λ s. page_at new s number) (same_space space number at page here) ∙ ap (page_at new at) (same_number space number at page here) ∙ there)
    by false there_not = clean at page found (sym (done.others at page there_not) ∙ there)
