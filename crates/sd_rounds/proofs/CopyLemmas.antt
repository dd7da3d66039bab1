-- One sector of a page is copied.
use Rattle.std.proofs.Common.{◌≡◌, ℕ, ◌+◌, ◌*◌, ◌/◌, Bool, true, false, ◌==◌, nat_eq, List, ◌++◌, length, replicate, Option, Some, None, refl, sym, ◌∙◌, ap, subst, arith}
use Rattle.std.specs.Prelude.{IfSome, is_some, slice_range}
use Rattle.std.specs.List.{list_all}
use Rattle.std.proofs.lemmas.Bool.{both_ways, and_parts, eqb-true}
use Rattle.std.proofs.lemmas.List.{length-append}
use Rattle.sd_image.specs.declared.run.RunKind.TheVariants.{Data, Parent, Zero}
use Rattle.sd_image.specs.declared.table.SpaceTable.{SpaceTable}
use Rattle.sd_pagetable.specs.Page.{PageState, zeros}
use Rattle.sd_pagetable.specs.Contents.{Contents, page_at}
use Rattle.sd_writing.specs.Entries.{Place}
use Rattle.sd_rounds.specs.Pass.{Pass, Taking, copied_more, sector_of, with_entry}
use Rattle.sd_rounds.specs.Rounds.{CopiesMore, CopiesZeros, IsCopied, IsCopying, IsNextSector, IsRound, TakesPage, is_page_of_zeros, pass_of, taking_of}
use Rattle.sd_writing.specs.Tables.{IsPushed, listed}
use Rattle.sd_rounds.proofs.PageCopyLemmas.{all_zero}
use Rattle.sd_rounds.proofs.RoundLemmas.{entered_view}
use Rattle.sd_rounds.proofs.Clean.{one_some}

-- a sector of a page was read
pub record WasRead (memory : Contents) (at : Place) (sector : ℕ) (bytes : List ℕ) : Type 0 where
  pub page : PageState
  pub there : page_at memory at.0 at.1 ≡ Some page
  pub whole : length page.bytes ≡ 4096
  pub same : bytes ≡ sector_of page.bytes sector

pub was_read : (memory : Contents) (at : Place) (sector : ℕ) (bytes : List ℕ) → is_some (page_at memory at.0 at.1) ≡ true
    → IfSome (page_at memory at.0 at.1) (λ (p : PageState). length p.bytes ≡ 4096)
    → IfSome (page_at memory at.0 at.1) (λ (p : PageState). bytes ≡ slice_range p.bytes (512 * sector) (512 * sector + 512))
    → WasRead memory at sector bytes
was_read memory at sector bytes = by (page_at memory at.0 at.1) refl
  where
    by : (o : Option PageState) → page_at memory at.0 at.1 ≡ o → is_some o ≡ true → IfSome o (λ (p : PageState). length p.bytes ≡ 4096)
        → IfSome o (λ (p : PageState). bytes ≡ slice_range p.bytes (512 * sector) (512 * sector + 512)) → WasRead memory at sector bytes
    by None e some whole same = absurd (both_ways false refl some)
    by (Some page) e some whole same = record { page = page; there = e; whole = whole; same = same }

pub taken_is : (takes_all : Bool) (tables : List SpaceTable) (after taking : Option Place) (buffer : List ℕ) (at : Place) → taking ≡ Some at
    → (pass_of takes_all tables after taking buffer).taking ≡ Some (taking_of buffer at)
taken_is takes_all tables after taking buffer at is = ap (λ (t : Option Place). (pass_of takes_all tables after t buffer).taking) is

next_is : (takes_all : Bool) (tables : List SpaceTable) (after taking : Option Place) (buffer : List ℕ) (at : Place) (memory : Contents) (bytes : List ℕ)
    → IsRound takes_all tables after taking buffer → taking ≡ Some at → IsCopying (pass_of takes_all tables after taking buffer)
    → (read : WasRead memory at (length buffer / 512) bytes)
    → IsNextSector (pass_of takes_all tables after taking buffer) memory (taking_of buffer at) read.page (length buffer / 512)
next_is takes_all tables after taking buffer at memory bytes round is copying read = grind arith

pub copies_more : (takes_all : Bool) (tables : List SpaceTable) (after taking : Option Place) (buffer : List ℕ) (at : Place) (memory : Contents) (bytes : List ℕ) (old new : Pass)
    → pass_of takes_all tables after taking buffer ≡ old → IsRound takes_all tables after taking buffer → taking ≡ Some at → IsCopying old
    → WasRead memory at (length buffer / 512) bytes → is_page_of_zeros (buffer ++ bytes) ≡ false
    → ((t : Taking) → old.taking ≡ Some t → new ≡ copied_more old t bytes) → CopiesMore old memory new
copies_more takes_all tables after taking buffer at memory bytes old new view round is copying read some more = grind arith

page_of_zeros : (xs : List ℕ) → list_all (λ byte. byte == 0) xs ≡ true → length xs ≡ 4096 → xs ≡ zeros
unfolding zeros
page_of_zeros xs e long = all_zero xs e ∙ ap (λ n. replicate n 0) long

pub copies_zeros : (takes_all : Bool) (tables : List SpaceTable) (after taking : Option Place) (buffer : List ℕ) (at : Place) (memory : Contents) (bytes : List ℕ) (old new : Pass)
    → pass_of takes_all tables after taking buffer ≡ old → IsRound takes_all tables after taking buffer → taking ≡ Some at → IsCopying old
    → WasRead memory at (length buffer / 512) bytes → length bytes ≡ 512 → is_page_of_zeros (buffer ++ bytes) ≡ true
    → new ≡ with_entry old at Zero → CopiesZeros old memory new
copies_zeros takes_all tables after taking buffer at memory bytes old new view round is copying read long zeroed entered =
    let next = next_is takes_all tables after taking buffer at memory bytes round is (subst (λ (p : Pass). IsCopying p) (sym view) copying) read in
    let now = subst (λ (p : Pass). IsNextSector p memory (taking_of buffer at) read.page (length buffer / 512)) view next in
    let both = and_parts (nat_eq (length (buffer ++ bytes)) 4096) (list_all (λ byte. byte == 0) (buffer ++ bytes)) zeroed in
    let whole : length (buffer ++ bytes) ≡ 4096 = eqb-true (length (buffer ++ bytes)) 4096 both.0 in
    let parts : length (buffer ++ bytes) ≡ length buffer + 512 = length-append buffer bytes ∙ ap (λ n. length buffer + n) long in
    let seventh : length buffer / 512 ≡ 7 = omega arith in
    record {
      taking = taking_of buffer at;
      page = read.page;
      next = subst (λ n. IsNextSector old memory (taking_of buffer at) read.page n) seventh now;
      zeroed = ap (λ n. buffer ++ sector_of read.page.bytes n) (sym seventh) ∙ ap (λ (b : List ℕ). buffer ++ b) (sym read.same)
          ∙ page_of_zeros (buffer ++ bytes) both.1 whole;
      is = entered;
    }

pub data_is_own : Data ≡ Parent → ⊥
data_is_own e = cc

pub takes_page : (takes_all : Bool) (old new : List SpaceTable) (after taking : Option Place) (buffer empty bytes : List ℕ) (at : Place) (parent : ℕ) (pass : Pass)
    → pass_of takes_all old after taking buffer ≡ pass → IsRound takes_all old after taking buffer → IsCopied pass → taking ≡ Some at → bytes ≡ buffer
    → IsPushed parent 1 (listed old) (listed new) at Data → TakesPage pass bytes (pass_of takes_all new after None empty)
takes_page takes_all old new after taking buffer empty bytes at parent pass view round copied is same pushed = record {
  taking = taking_of buffer at;
  was = was;
  same = same;
  whole = ap (λ (b : List ℕ). length b) same ∙ ap (λ (t : Taking). length t.copied) (one_some (taking_of buffer at) copied.taking was copied.is) ∙ copied.whole;
  some = subst (λ (b : List ℕ). is_page_of_zeros b ≡ false) (sym same) (round.some at is);
  is = entered_view takes_all old new after taking buffer at Data parent pushed ∙ ap (λ (p : Pass). with_entry p at Data) view;
}
  where
    was : pass.taking ≡ Some (taking_of buffer at)
    was = sym (ap (λ (p : Pass). p.taking) view) ∙ taken_is takes_all old after taking buffer at is
