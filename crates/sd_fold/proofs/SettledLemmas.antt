-- Changes that are put into a memory with room for them, space by space and page by page.
use Rattle.std.proofs.Common.{◌≡◌, ℕ, true, cond, is_some, [], ◌∷◌, Option, Some, IsSome, unwrap_or, sym, ◌∙◌, ap, subst}
use Rattle.std.specs.FinMap as finmap
use Rattle.std.specs.BTreeMap.{BTreeMap}
use Rattle.sd_areas.specs.declared.snapshot_page.SnapshotPage.{SnapshotPage}
use Rattle.sd_areas.specs.PlainMemory.{Page, Space, PlainMemory}
use Rattle.sd_pagetable.specs.Nested.{inside, is_alive, put_at}
use Rattle.sd_fold.specs.Overlay.{PageChanges, Layers, with_page, with_space, pages_over, memory_over}
use Rattle.sd_fold.specs.Room.{HasPages, HasRoom}
use Rattle.sd_fold.proofs.OverLemmas.{change_of, get_with, over_apart}
use Rattle.sd_fold.proofs.OverlayLemmas.{Layer, space_over, next_memory, other_space}
use Rattle.sd_fold.proofs.RoomLemmas.{inside_put, put_twice, put_alive, space_stays}
use Rattle.sd_fold.proofs.WalkLemmas.{Rising, at_head, gone_on, not_left, later, still_later}

-- the pages of a space so far: with those left they are as they are to be
pub record PagesSettled (all rest : PageChanges) (old now : PlainMemory) (s : ℕ) : Type 0 where
  pub rises : Rising rest
  pub alive : is_alive now s ≡ true
  pub made : finmap.insert now s (pages_over rest (inside now s)) ≡ finmap.insert old s (pages_over all (inside old s))
  pub room : HasPages rest (inside now s)

pub pages_next : (all rest left : PageChanges) (old now new : PlainMemory) (s k : ℕ) (c : Option SnapshotPage) → PagesSettled all rest old now s → rest ≡ (k, c) ∷ left
    → new ≡ finmap.insert now s (with_page (inside now s) k (change_of c)) → PagesSettled all left old new s
pages_next all rest left old now new s k c so e put =
    let pages : Space = with_page (inside now s) k (change_of c) in
    let within : inside new s ≡ pages = ap (λ m. inside m s) put ∙ inside_put now s pages in
    record {
      rises = gone_on rest left k c so.rises e;
      alive = ap (λ m. is_alive m s) put ∙ put_alive now s pages;
      made = ap (λ p. finmap.insert new s (pages_over left p)) within ∙ ap (λ m. finmap.insert m s (pages_over left pages)) put
          ∙ put_twice now s pages (pages_over left pages)
          ∙ ap (finmap.insert now s) (over_apart left (inside now s) k (change_of c) (not_left rest left k c so.rises e))
          ∙ sym (ap (λ (es : PageChanges). finmap.insert now s (pages_over es (inside now s))) e) ∙ so.made;
      room = λ q x found.
          let apart = still_later rest left k q c (Some x) so.rises e found in
          subst IsSome (sym (ap (λ (p : Space). finmap.get p q) within ∙ get_with (inside now s) k (change_of c) q ∙ ap (λ b. cond b (change_of c) (finmap.get (inside now s) q)) apart))
          (so.room q x (later rest left k q c e apart ∙ found));
    }

pub pages_end : (all rest : PageChanges) (old now : PlainMemory) (s : ℕ) → PagesSettled all rest old now s → rest ≡ [] → now ≡ finmap.insert old s (pages_over all (inside old s))
pages_end all rest old now s so none = space_stays now s so.alive ∙ sym (ap (λ (es : PageChanges). finmap.insert now s (pages_over es (inside now s))) none) ∙ so.made

-- the page that is put next is there
pub next_there : (all rest left : PageChanges) (old now : PlainMemory) (s k : ℕ) (found : SnapshotPage) → PagesSettled all rest old now s → rest ≡ (k, Some found) ∷ left → IsSome (finmap.get (inside now s) k)
next_there all rest left old now s k found so e = so.room k found (at_head rest left k (Some found) e)

pub put_settled : (now new : PlainMemory) (s k : ℕ) (found : Page) → new ≡ put_at now s k found → new ≡ finmap.insert now s (with_page (inside now s) k (Some found))
unfolding put_at
put_settled now new s k found put = put

-- ---- spaces

-- the spaces so far: with those left they are as they are to be
pub record SpacesSettled (all rest : Layers) (old now : PlainMemory) : Type 0 where
  pub rises : Rising rest
  pub made : memory_over rest now ≡ memory_over all old
  pub room : HasRoom rest now

pub spaces_next : (all rest left : Layers) (old now new : PlainMemory) (k : ℕ) (layer : Layer) → SpacesSettled all rest old now → rest ≡ (k, layer) ∷ left
    → new ≡ with_space now k (space_over now k layer) → SpacesSettled all left old new
spaces_next all rest left old now new k layer so e put = record {
  rises = gone_on rest left k layer so.rises e;
  made = next_memory rest left now new k layer so.rises e put ∙ so.made;
  room = λ s changes found.
      let apart = still_later rest left k s layer (Some changes) so.rises e found in
      let room = so.room s changes (later rest left k s layer e apart ∙ found) in (
        ap is_some (other_space now new k s (space_over now k layer) put apart) ∙ room.0,
        subst (HasPages changes.entries) (sym (ap (λ o. unwrap_or o finmap.empty) (other_space now new k s (space_over now k layer) put apart))) room.1,
      );
}

pub spaces_end : (all rest : Layers) (old now : PlainMemory) → SpacesSettled all rest old now → rest ≡ [] → now ≡ memory_over all old
spaces_end all rest old now so none = sym (ap (λ (es : Layers). memory_over es now) none) ∙ so.made

-- the space that is changed next has room
pub next_roomy : (all rest left : Layers) (old now : PlainMemory) (k : ℕ) (changes : BTreeMap ℕ (Option SnapshotPage)) → SpacesSettled all rest old now → rest ≡ (k, Some changes) ∷ left
    → (is_alive now k ≡ true) × HasPages changes.entries (inside now k)
next_roomy all rest left old now k changes so e = so.room k changes (at_head rest left k (Some changes) e)
