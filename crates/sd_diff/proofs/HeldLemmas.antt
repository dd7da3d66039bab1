-- What a memory has is what its runs have.
use Rattle.std.proofs.Common.{◌≡◌, ◌≢◌, ◌+◌, ◌-◌, ◌<◌, ◌≤◌, ℕ, zero, suc, Bool, true, false, nat_eq, is_some, List, [], ◌∷◌, Contains, Option, Some, None, MatchOption, refl, sym, ◌∙◌, ap, subst, inl, inr, arith}
use Rattle.std.specs.List.{list_any}
use Rattle.std.specs.Option.{option_map, option_and_then}
use Rattle.std.specs.FinMap as finmap
use Rattle.std.proofs.lemmas.Bool.{cond-false, eqb-true}
use Rattle.std.proofs.lemmas.Bool.Decides.{nat_tests}
use Rattle.std.proofs.lemmas.List.Elements.{All-contains}
use Rattle.std.proofs.lemmas.List.Folds.{Any-from_list_any}
use Rattle.sd_areas.specs.Areas.{prot_in}
use Rattle.sd_areas.specs.Pages.{is_within, pages_from}
use Rattle.sd_areas.specs.PlainMemory.{Page, PlainMemory, Space}
use Rattle.sd_image.specs.Image.{Image}
use Rattle.sd_image.specs.Laws.{OneStore}
use Rattle.sd_image.specs.Shows.{Holds, IsMemory, IsStore, page_in}
use Rattle.sd_image.specs.Table.{Listed}
use Rattle.sd_image.proofs.Members.{contains_cases, contains_front, contains_later, contains_map, contains_none, from_map, from_parts, into_parts}
use Rattle.sd_image.proofs.OneImage.{image_of_file, serial_once}
use Rattle.sd_image.proofs.OneMemory.{held_once_lem}
use Rattle.sd_chain.specs.Checkpoints.{IsOfCheckpoint}
use Rattle.sd_chain.specs.Chains.{found_on}
use Rattle.sd_chain.specs.Store.{bytes_at}
use Rattle.sd_restore.specs.declared.placed_run.PlacedRun.{PlacedRun}
use Rattle.sd_restore.specs.At.{LacksAt, ShowsAt}
use Rattle.sd_restore.specs.Placed.{PlacedPage, page_of_run, pages_in, placed_memory, placed_page, placed_pages, with_spaces}
use Rattle.sd_restore.proofs.MappedLemmas.{contains-pages_from, space_of}
use Rattle.sd_restore.proofs.MemoryLemmas.{After, empty_bare, pages_are, spaces_bare}
use Rattle.sd_diff.specs.Held.{AreRising, Held, held_at, held_by}
use Rattle.sd_diff.specs.Spaces.{IsNumbered, held_of, runs_in}
use Rattle.sd_diff.proofs.LaidLemmas.{from_filter, in_filter}
use Rattle.sd_diff.proofs.PartLemmas.{held_first, held_later}

-- ---- lookups

covers : (first count page : ℕ) → is_within first count page ≡ true → (first ≤ page) × (page < first + count)
covers first count page is = grind (arith, nat_tests)

held_some : (runs : List PlacedRun) (page : ℕ) (h : Held) → held_at runs page ≡ Some h → (r : PlacedRun) × Contains runs r × (r.first ≤ page) × (page < r.first + r.count)
held_some [] page h is = absurd (let e : None ≡ Some h = is in cc)
held_some (r ∷ runs) page h is = by (is_within r.first r.count page) refl (held_some runs page h)
  where
    by : (b : Bool) → is_within r.first r.count page ≡ b → (held_at runs page ≡ Some h → (s : PlacedRun) × Contains runs s × (s.first ≤ page) × (page < s.first + s.count))
        → (s : PlacedRun) × Contains (r ∷ runs) s × (s.first ≤ page) × (page < s.first + s.count)
    by true e others = let in_it = covers r.first r.count page e in (r, contains_front r runs, in_it.0, in_it.1)
    by false e others = let rest = others (sym (cond-false _ _ _ e) ∙ is) in (rest.0, contains_later r rest.0 runs rest.1, rest.2, rest.3)

held_here : (runs : List PlacedRun) (r : PlacedRun) (page : ℕ) → AreRising runs → Contains runs r → r.first ≤ page → page < r.first + r.count → held_at runs page ≡ Some (held_by r page)
held_here [] r page rising c low high = absurd (contains_none r c)
held_here (s ∷ runs) r page rising c low high = elim (contains_cases s r runs c) [
  | inl same ↦ subst (λ (x : PlacedRun). held_at (x ∷ runs) page ≡ Some (held_by r page)) same (held_first r runs page low high)
  | inr later ↦ (let behind = All-contains (λ (x : PlacedRun). s.first + s.count ≤ x.first) runs r rising.0 later in
      held_later s runs page (omega (arith, behind, low)) ∙ held_here runs r page rising.1 later low high)
]

from_pages : (first count page : ℕ) → Contains (pages_from first count) page → (first ≤ page) × (page < first + count)
unfolding pages_from
from_pages first zero page c = absurd (contains_none page c)
from_pages first (suc count) page c = elim (contains_cases first page (pages_from (suc first) count) c) [
  | inl same ↦ (omega (arith, same), omega (arith, same))
  | inr later ↦ (let rest = from_pages (suc first) count page later in (omega (arith, rest.0), omega (arith, rest.1)))
]

-- ---- the pages of the memory that runs make

-- the page that lies somewhere
abbrev pub page_of : List (List ℕ) → Held → Page
page_of contents held = record { prot = held.prot; bytes = bytes_at contents held.there }

module _ (contents : List (List ℕ)) (spaces : List Listed) (runs : List PlacedRun) (q page : ℕ) (rising : AreRising (runs_in q runs)) where
  abbrev memory : PlainMemory
  memory = placed_memory contents spaces (placed_pages runs)

  none_held : (o : Option Held) → held_of runs q page ≡ o → ((p : PlacedPage) → Contains (placed_pages runs) p → (p.space ≡ q) × (p.page ≡ page) → ⊥) → o ≡ None
  none_held None is none = refl
  none_held (Some h) is none =
      let r = held_some (runs_in q runs) page h is in
      let kept = from_filter (λ (s : PlacedRun). nat_eq s.space q) runs r.0 r.1 in
      let low = r.2 in
      let high = r.3 in
      let k : ℕ = page - r.0.first in
      let number = contains-pages_from 0 r.0.count k (omega (arith, low, high)) in
      let one : Contains (pages_in r.0) (page_of_run r.0 k) = contains_map (page_of_run r.0) (pages_from 0 r.0.count) k (subst (Contains (pages_from 0 r.0.count)) (let e : 0 + k ≡ k = omega arith in e) number) in
      absurd (none (page_of_run r.0 k) (into_parts pages_in runs r.0 (page_of_run r.0 k) kept.0 one) (eqb-true r.0.space q kept.1, (let e : r.0.first + k ≡ page = omega (arith, low) in e)))

  pub page_held : page_in memory q page ≡ option_map (page_of contents) (held_of runs q page)
  page_held = by (page_in memory q page) refl (pages_are contents (with_spaces finmap.empty spaces) (placed_pages runs) q page)
    where
      of_run : (r : PlacedRun) (k : ℕ) → r.first + k ≡ page → placed_page contents (page_of_run r k) ≡ page_of contents (held_by r page)
      of_run r k is = ap (λ n. record { prot = r.prot; bytes = bytes_at contents (found_on r.there n) }) (let e : k ≡ page - r.first = omega (arith, is) in e)

      same_number : (a b : ℕ) → a ≡ b → nat_eq a b ≡ true
      same_number a b e = grind (arith, nat_tests)

      by : (o : Option Page) → page_in memory q page ≡ o → After contents (with_spaces finmap.empty spaces) (placed_pages runs) q page o → o ≡ option_map (page_of contents) (held_of runs q page)
      by None is none = sym (ap (option_map (page_of contents)) (none_held (held_of runs q page) refl none.1))
      by (Some found) is (inl before) = absurd (let e : None ≡ Some found = sym (spaces_bare finmap.empty spaces empty_bare q page) ∙ before in cc)
      by (Some found) is (inr put) =
          let r = from_parts pages_in runs put.one put.among in
          let k = from_map (page_of_run r.0) (pages_from 0 r.0.count) put.one r.2 in
          let number = from_pages 0 r.0.count k.0 k.1 in
          let at : r.0.first + k.0 ≡ page = sym (ap (λ (p : PlacedPage). p.page) k.2) ∙ put.page_is in
          let space : r.0.space ≡ q = sym (ap (λ (p : PlacedPage). p.space) k.2) ∙ put.space_is in
          let kept = in_filter (λ (s : PlacedRun). nat_eq s.space q) runs r.0 r.1 (same_number r.0.space q space) in
          ap Some (put.is ∙ ap (placed_page contents) k.2 ∙ of_run r.0 k.0 at)
          ∙ sym (ap (option_map (page_of contents)) (held_here (runs_in q runs) r.0 page rising kept (omega (arith, at)) (omega (arith, at, number.1))))

-- ---- the memory at a checkpoint is one, and its spaces have numbers of 1 to 16

same_page : (p q : Page) → p.prot ≡ q.prot → p.bytes ≡ q.bytes → p ≡ q
same_page p q a b = rw (a, b) refl

found_once : (contents : List (List ℕ)) (images : List Image) (i : Image) (s : Listed) (page : ℕ) (a b : Option Page) → IsStore contents images → Contains images i
    → MatchOption a (prot_in s.areas page ≡ None) (λ found. (prot_in s.areas page ≡ Some found.prot) × Holds images s.space page found.bytes i)
    → MatchOption b (prot_in s.areas page ≡ None) (λ found. (prot_in s.areas page ≡ Some found.prot) × Holds images s.space page found.bytes i)
    → a ≡ b
found_once contents images i s page None None store among x y = refl
found_once contents images i s page None (Some q) store among x y = let e = y.0 in absurd cc
found_once contents images i s page (Some p) None store among x y = let e = x.0 in absurd cc
found_once contents images i s page (Some p) (Some q) store among x y =
    let a = x.0 in
    let b = y.0 in
    let prot : p.prot ≡ q.prot = cc in
    ap Some (same_page p q prot (held_once_lem contents images s.space page p.bytes q.bytes i store among x.1 y.1))

listed_with : (number : ℕ) (spaces : List Listed) → list_any (λ (s : Listed). nat_eq s.space number) spaces ≡ true → (s : Listed) × Contains spaces s × (s.space ≡ number)
listed_with number spaces any =
    let found = Any-from_list_any (λ (s : Listed). nat_eq s.space number) spaces any in
    (found.1, (found.0, found.2, found.3), eqb-true _ _ found.4)

no_space : (m : PlainMemory) (space page : ℕ) (o : Option Space) → finmap.get m space ≡ o → is_some o ≡ false → page_in m space page ≡ None
no_space m space page None is dead = ap (option_and_then (λ (pages : Space). finmap.get pages page)) is
no_space m space page (Some pages) is dead = absurd (let e : true ≡ false = dead in cc)

memory_once : (contents : List (List ℕ)) (images : List Image) (i : Image) (m n : PlainMemory) (space page : ℕ) → IsStore contents images → Contains images i
    → IsMemory images i m → IsMemory images i n → page_in m space page ≡ page_in n space page
memory_once contents images i m n space page store among a b = by (list_any (λ (s : Listed). nat_eq s.space space) i.spaces) refl
  where
    by : (alive : Bool) → list_any (λ (s : Listed). nat_eq s.space space) i.spaces ≡ alive → page_in m space page ≡ page_in n space page
    by true is =
        let s = listed_with space i.spaces is in
        subst (λ (k : ℕ). page_in m k page ≡ page_in n k page) s.2
        (found_once contents images i s.0 page (page_in m s.0.space page) (page_in n s.0.space page) store among (a.pages s.0 s.1 page) (b.pages s.0 s.1 page))
    by false is = no_space m space page (finmap.get m space) refl (a.alive space ∙ is) ∙ sym (no_space n space page (finmap.get n space) refl (b.alive space ∙ is))

image_once : (images : List Image) (contents : List (List ℕ)) (number : ℕ) (i j : Image) → IsStore contents images → IsOfCheckpoint images number i → IsOfCheckpoint images number j → i ≡ j
image_once images contents number i j store a b =
    let up = a.greatest j b.member b.restorable b.checkpoint in
    let down = b.greatest i a.member a.restorable a.checkpoint in
    serial_once images i j store.serials a.member b.member (omega (arith, up, down))

-- a page at a checkpoint is one
pub page_once : OneStore → (contents : List (List ℕ)) (number : ℕ) (m n : PlainMemory) → ShowsAt contents number m → ShowsAt contents number n → (space page : ℕ) → page_in m space page ≡ page_in n space page
page_once one_store contents number m n a b space page =
    let same : b.images ≡ a.images = one_store contents b.images a.images b.store.slots a.store.slots in
    let chosen : IsOfCheckpoint a.images number b.image = subst (λ all. IsOfCheckpoint all number b.image) same b.chosen in
    let one : b.image ≡ a.image = image_once a.images contents number b.image a.image a.store chosen a.chosen in
    memory_once contents a.images a.image m n space page a.store a.chosen.member a.is
    (subst (λ k. IsMemory a.images k n) one (subst (λ all. IsMemory all b.image n) same b.is))

-- a checkpoint that is there isn't lacking
pub not_lacking : OneStore → (contents : List (List ℕ)) (number : ℕ) (m : PlainMemory) → ShowsAt contents number m → LacksAt contents number → ⊥
not_lacking one_store contents number m shows lacks =
    let same : shows.images ≡ lacks.images = one_store contents shows.images lacks.images shows.store.slots lacks.store.slots in
    lacks.none shows.image (subst (λ all. Contains all shows.image) same shows.chosen.member) shows.chosen.restorable shows.chosen.checkpoint

-- a space with a page has a number of 1 to 16
pub page_numbered : (contents : List (List ℕ)) (number : ℕ) (m : PlainMemory) → ShowsAt contents number m → (space page : ℕ) → (page_in m space page ≢ None) → IsNumbered 17 space
page_numbered contents number m shows space page there = by (list_any (λ (s : Listed). nat_eq s.space space) shows.image.spaces) refl
  where
    by : (alive : Bool) → list_any (λ (s : Listed). nat_eq s.space space) shows.image.spaces ≡ alive → IsNumbered 17 space
    by true is =
        let s = listed_with space shows.image.spaces is in
        let table = (image_of_file contents shows.images shows.image shows.store.slots shows.chosen.member).1.table in
        let in_it = space_of shows.image.header 0 shows.image.spaces s.0 table.each s.1 in
        let above = in_it.2 in
        let within = in_it.1.within in
        let number_is = s.2 in
        (omega (arith, above, number_is), omega (arith, within, number_is))
    by false is = absurd (there (no_space m space page (finmap.get m space) refl (shows.is.alive space ∙ is)))
