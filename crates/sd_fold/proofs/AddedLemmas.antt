-- What is new to a memory is put into it, space by space and page by page; what is left is to be put in place of what is there.
use Rattle.std.proofs.Common.{◌≡◌, ℕ, Bool, true, false, cond, nat_eq, is_some, List, [], ◌∷◌, reverse, Option, Some, None, IsSome, unwrap_or, refl, sym, ◌∙◌, ap, subst}
use Rattle.std.specs.Ordering.{nat_cmp}
use Rattle.std.specs.FinMap as finmap
use Rattle.std.specs.Map.{lookup}
use Rattle.std.specs.BTreeMap.{BTreeMap, is_at}
use Rattle.sd_areas.specs.declared.snapshot_page.SnapshotPage.{SnapshotPage}
use Rattle.sd_areas.specs.Memory.{page_of_snapshot}
use Rattle.sd_areas.specs.PlainMemory.{Page, Space, PlainMemory}
use Rattle.sd_pagetable.specs.Nested.{inside, is_alive, put_at}
use Rattle.sd_fold.specs.declared.added.Added.{Added}
use Rattle.sd_fold.specs.Overlay.{PageChanges, Layers, changes_of, with_page, pages_over, memory_over}
use Rattle.sd_fold.specs.Room.{before, HasPages, HasRoom}
use Rattle.sd_fold.proofs.OverLemmas.{change_of, over_put, over_apart}
use Rattle.sd_fold.proofs.OverlayLemmas.{space_under, space_under_same, get_memory_over, next_memory}
use Rattle.sd_fold.proofs.RoomLemmas.{inside_put, put_twice, put_alive, space_stays}
use Rattle.sd_fold.proofs.Tables.{same_table, get_put, same_of}
use Rattle.sd_fold.proofs.WalkLemmas.{Rising, at_head, gone_on, not_left, later, still_later}

none_found : {X : Type 0} (es : List (ℕ × X)) (q : ℕ) (x : X) → es ≡ [] → lookup (is_at (nat_cmp q)) es ≡ Some x → ⊥
none_found es q x none found = let f : None ≡ Some x = sym (ap (lookup (is_at (nat_cmp q))) none) ∙ found in cc

-- an entry was put
abbrev pub IsPut : {X : Type 0} → List (ℕ × X) → List (ℕ × X) → ℕ → X → Type 0
IsPut old new k x = (q : ℕ) → lookup (is_at (nat_cmp q)) new ≡ cond (nat_eq q k) (Some x) (lookup (is_at (nat_cmp q)) old)

-- what is still to come isn't kept
abbrev pub IsApart : {X : Type 0} → List (ℕ × X) → List (ℕ × X) → Type 0
IsApart {X} rest kept = (q : ℕ) (x : X) → lookup (is_at (nat_cmp q)) rest ≡ Some x → lookup (is_at (nat_cmp q)) kept ≡ None

apart_next : {X : Type 0} (rest left kept : List (ℕ × X)) (k : ℕ) (x : X) → Rising rest → rest ≡ (k, x) ∷ left → IsApart rest kept → IsApart left kept
apart_next rest left kept k x rises e apart q y found = apart q y (later rest left k q x e (still_later rest left k q x y rises e found) ∙ found)

apart_put : {X : Type 0} (rest left kept more : List (ℕ × X)) (k : ℕ) (x : X) → Rising rest → rest ≡ (k, x) ∷ left → IsApart rest kept → IsPut kept more k x → IsApart left more
apart_put rest left kept more k x rises e apart put q y found =
    put q ∙ ap (λ b. cond b (Some x) (lookup (is_at (nat_cmp q)) kept)) (still_later rest left k q x y rises e found) ∙ apart_next rest left kept k x rises e apart q y found

-- the pages of a space so far: those that are left and those that are kept make together what they are to be
pub record PagesAdded (all rest kept : PageChanges) (first added : List Added) (old now : PlainMemory) (s : ℕ) : Type 0 where
  pub rises : Rising rest
  pub apart : IsApart rest kept
  pub alive : is_alive now s ≡ true
  pub others : now ≡ finmap.insert old s (inside now s)
  pub same : pages_over rest (pages_over kept (inside now s)) ≡ pages_over all (inside old s)
  pub room : HasPages kept (inside now s)
  pub undo : before (reverse added) now ≡ before (reverse first) old

pub pages_begin : (all rest kept : PageChanges) (first : List Added) (old : PlainMemory) (s : ℕ) → rest ≡ all → kept ≡ [] → Rising all → is_alive old s ≡ true
    → PagesAdded all rest kept first first old old s
pages_begin all rest kept first old s e none rises alive = record {
  rises = subst Rising (sym e) rises;
  apart = λ q x found. ap (lookup (is_at (nat_cmp q))) none;
  alive = alive;
  others = space_stays old s alive;
  same = ap (λ (es : PageChanges). pages_over rest (pages_over es (inside old s))) none ∙ ap (λ (es : PageChanges). pages_over es (inside old s)) e;
  room = λ q x found. absurd (none_found kept q (Some x) none found);
  undo = refl;
}

-- the first of what is left, put below the others
first_below : (rest left : PageChanges) (pages : Space) (k : ℕ) (c : Option SnapshotPage) → Rising rest → rest ≡ (k, c) ∷ left
    → pages_over left (with_page pages k (change_of c)) ≡ pages_over rest pages
first_below rest left pages k c rises e = over_apart left pages k (change_of c) (not_left rest left k c rises e) ∙ sym (ap (λ (es : PageChanges). pages_over es pages) e)

pub pages_keep : (all rest left kept more : PageChanges) (first added : List Added) (old now : PlainMemory) (s k : ℕ) (c : Option SnapshotPage) → PagesAdded all rest kept first added old now s
    → rest ≡ (k, c) ∷ left → IsPut kept more k c → changes_of more ≡ finmap.insert (changes_of kept) k (change_of c)
    → ((x : SnapshotPage) → c ≡ Some x → IsSome (finmap.get (inside now s) k)) → PagesAdded all left more first added old now s
pages_keep all rest left kept more first added old now s k c so e put put_of there = record {
  rises = gone_on rest left k c so.rises e;
  apart = apart_put rest left kept more k c so.rises e so.apart put;
  alive = so.alive;
  others = so.others;
  same = ap (pages_over left) (over_put kept more k (change_of c) (inside now s) put_of) ∙ first_below rest left (pages_over kept (inside now s)) k c so.rises e ∙ so.same;
  room = λ q x found. by q x (nat_eq q k) refl (sym (put q) ∙ found);
  undo = so.undo;
}
  where
    some_is : (a b : Option SnapshotPage) → Some a ≡ Some b → a ≡ b
    some_is a b h = cc

    by : (q : ℕ) (x : SnapshotPage) (b : Bool) → nat_eq q k ≡ b → cond (nat_eq q k) (Some c) (lookup (is_at (nat_cmp q)) kept) ≡ Some (Some x) → IsSome (finmap.get (inside now s) q)
    by q x false apart found = so.room q x (sym (ap (λ b. cond b (Some c) (lookup (is_at (nat_cmp q)) kept)) apart) ∙ found)
    by q x true same found = subst (λ n. IsSome (finmap.get (inside now s) n)) (sym (same_of q k same))
        (there x (some_is c (Some x) (sym (ap (λ b. cond b (Some c) (lookup (is_at (nat_cmp q)) kept)) same) ∙ found)))

pub pages_add : (all rest left kept : PageChanges) (first added more : List Added) (old now new : PlainMemory) (s k : ℕ) (found : SnapshotPage) → PagesAdded all rest kept first added old now s
    → rest ≡ (k, Some found) ∷ left → new ≡ put_at now s k (page_of_snapshot found) → before (reverse more) new ≡ before (reverse added) now
    → PagesAdded all left kept first more old new s
unfolding put_at
pages_add all rest left kept first added more old now new s k found so e put undone =
    let pages : Space = finmap.insert (inside now s) k (page_of_snapshot found) in
    let within : inside new s ≡ pages = ap (λ m. inside m s) put ∙ inside_put now s pages in
    record {
      rises = gone_on rest left k (Some found) so.rises e;
      apart = apart_next rest left kept k (Some found) so.rises e so.apart;
      alive = ap (λ m. is_alive m s) put ∙ put_alive now s pages;
      others = put ∙ ap (λ m. finmap.insert m s pages) so.others ∙ put_twice old s (inside now s) pages ∙ ap (finmap.insert old s) (sym within);
      same = ap (λ p. pages_over left (pages_over kept p)) within
          ∙ ap (pages_over left) (over_apart kept (inside now s) k (Some (page_of_snapshot found)) (so.apart k (Some found) (at_head rest left k (Some found) e)))
          ∙ first_below rest left (pages_over kept (inside now s)) k (Some found) so.rises e ∙ so.same;
      room = λ q x here. subst IsSome (sym (ap (λ (p : Space). finmap.get p q) within ∙ get_put (inside now s) k (page_of_snapshot found) q))
          (either (nat_eq q k) (finmap.get (inside now s) q) (so.room q x here));
      undo = undone ∙ so.undo;
    }
  where
    either : (b : Bool) (o : Option Page) → IsSome o → IsSome (cond b (Some (page_of_snapshot found)) o)
    either true o some = refl
    either false o some = some

pub pages_left : (all rest kept : PageChanges) (first added : List Added) (old now : PlainMemory) (s : ℕ) → PagesAdded all rest kept first added old now s → rest ≡ []
    → pages_over kept (inside now s) ≡ pages_over all (inside old s)
pages_left all rest kept first added old now s so none = sym (ap (λ (es : PageChanges). pages_over es (pages_over kept (inside now s))) none) ∙ so.same

-- ---- spaces

-- the spaces so far
pub record SpacesAdded (all rest kept : Layers) (first added : List Added) (old now : PlainMemory) : Type 0 where
  pub rises : Rising rest
  pub apart : IsApart rest kept
  pub same : memory_over rest (memory_over kept now) ≡ memory_over all old
  pub room : HasRoom kept now
  pub undo : before (reverse added) now ≡ before (reverse first) old

pub spaces_end : (all rest left kept more : Layers) (first added : List Added) (old now : PlainMemory) (k : ℕ) → SpacesAdded all rest kept first added old now → rest ≡ (k, None) ∷ left
    → IsPut kept more k None → memory_over more now ≡ finmap.remove (memory_over kept now) k → SpacesAdded all left more first added old now
spaces_end all rest left kept more first added old now k so e put gone = record {
  rises = gone_on rest left k None so.rises e;
  apart = apart_put rest left kept more k None so.rises e so.apart put;
  same = next_memory rest left (memory_over kept now) (memory_over more now) k None so.rises e gone ∙ so.same;
  room = λ s changes found. by s changes (nat_eq s k) refl (sym (put s) ∙ found);
  undo = so.undo;
}
  where
    by : (s : ℕ) (changes : BTreeMap ℕ (Option SnapshotPage)) (b : Bool) → nat_eq s k ≡ b → cond (nat_eq s k) (Some None) (lookup (is_at (nat_cmp s)) kept) ≡ Some (Some changes)
        → (is_alive now s ≡ true) × HasPages changes.entries (inside now s)
    by s changes false apart found = so.room s changes (sym (ap (λ b. cond b (Some None) (lookup (is_at (nat_cmp s)) kept)) apart) ∙ found)
    by s changes true same found =
        let e : Some None ≡ Some (Some changes) = sym (ap (λ b. cond b (Some None) (lookup (is_at (nat_cmp s)) kept)) same) ∙ found in
        absurd (cc)

pub spaces_add : (all rest left kept more : Layers) (first added last : List Added) (old now new : PlainMemory) (k : ℕ) (c d : BTreeMap ℕ (Option SnapshotPage)) → SpacesAdded all rest kept first added old now
    → rest ≡ (k, Some c) ∷ left → new ≡ finmap.insert now k (inside new k) → pages_over d.entries (inside new k) ≡ pages_over c.entries (inside now k) → HasPages d.entries (inside new k)
    → IsPut kept more k (Some d) → memory_over more new ≡ finmap.insert (memory_over kept new) k (pages_over d.entries (inside new k))
    → before (reverse last) new ≡ before (reverse added) now → SpacesAdded all left more first last old new
spaces_add all rest left kept more first added last old now new k c d so e whole shown has put made undone = record {
  rises = gone_on rest left k (Some c) so.rises e;
  apart = λ q y found. put q ∙ ap (λ b. cond b (Some (Some d)) (lookup (is_at (nat_cmp q)) kept)) (still_later rest left k q (Some c) y so.rises e found)
      ∙ apart_next rest left kept k (Some c) so.rises e so.apart q y found;
  same = next_memory rest left (memory_over kept now) (memory_over more new) k (Some c) so.rises e below ∙ so.same;
  room = λ s changes found. by s changes (nat_eq s k) refl (sym (put s) ∙ found);
  undo = undone ∙ so.undo;
}
  where
    not_kept : lookup (is_at (nat_cmp k)) kept ≡ None
    not_kept = so.apart k (Some c) (at_head rest left k (Some c) e)

    other : (q : ℕ) → nat_eq q k ≡ false → finmap.get new q ≡ finmap.get now q
    other q apart = ap (λ m. finmap.get m q) whole ∙ get_put now k (inside new k) q ∙ ap (λ b. cond b (Some (inside new k)) (finmap.get now q)) apart

    -- below the layer the space is as it was
    within : inside (memory_over kept now) k ≡ inside now k
    within = ap (λ o. unwrap_or o finmap.empty) (get_memory_over kept now k ∙ ap (λ o. space_under o now k) not_kept)

    around : (q : ℕ) (b : Bool) → nat_eq q k ≡ b → cond (nat_eq q k) (Some (pages_over d.entries (inside new k))) (finmap.get (memory_over kept new) q)
        ≡ cond (nat_eq q k) (Some (pages_over c.entries (inside (memory_over kept now) k))) (finmap.get (memory_over kept now) q)
    around q true same = ap (λ b. cond b (Some (pages_over d.entries (inside new k))) (finmap.get (memory_over kept new) q)) same
        ∙ ap (λ (p : Space). Some p) (shown ∙ ap (pages_over c.entries) (sym within))
        ∙ sym (ap (λ b. cond b (Some (pages_over c.entries (inside (memory_over kept now) k))) (finmap.get (memory_over kept now) q)) same)
    around q false apart = ap (λ b. cond b (Some (pages_over d.entries (inside new k))) (finmap.get (memory_over kept new) q)) apart
        ∙ get_memory_over kept new q ∙ space_under_same (lookup (is_at (nat_cmp q)) kept) new now q (other q apart) ∙ sym (get_memory_over kept now q)
        ∙ sym (ap (λ b. cond b (Some (pages_over c.entries (inside (memory_over kept now) k))) (finmap.get (memory_over kept now) q)) apart)

    below : memory_over more new ≡ finmap.insert (memory_over kept now) k (pages_over c.entries (inside (memory_over kept now) k))
    below = made ∙ same_table _ _ (λ q. get_put (memory_over kept new) k (pages_over d.entries (inside new k)) q ∙ around q (nat_eq q k) refl
        ∙ sym (get_put (memory_over kept now) k (pages_over c.entries (inside (memory_over kept now) k)) q))

    some_is : (a b : BTreeMap ℕ (Option SnapshotPage)) → Some (Some a) ≡ Some (Some b) → a ≡ b
    some_is a b h = cc

    by : (s : ℕ) (changes : BTreeMap ℕ (Option SnapshotPage)) (b : Bool) → nat_eq s k ≡ b → cond (nat_eq s k) (Some (Some d)) (lookup (is_at (nat_cmp s)) kept) ≡ Some (Some changes)
        → (is_alive new s ≡ true) × HasPages changes.entries (inside new s)
    by s changes false apart found =
        let room = so.room s changes (sym (ap (λ b. cond b (Some (Some d)) (lookup (is_at (nat_cmp s)) kept)) apart) ∙ found) in (
          ap is_some (other s apart) ∙ room.0,
          subst (HasPages changes.entries) (sym (ap (λ o. unwrap_or o finmap.empty) (other s apart))) room.1,
        )
    by s changes true same found =
        let at : s ≡ k = same_of s k same in
        let is : d ≡ changes = some_is d changes (sym (ap (λ b. cond b (Some (Some d)) (lookup (is_at (nat_cmp s)) kept)) same) ∙ found) in
        subst (λ n. (is_alive new n ≡ true) × HasPages changes.entries (inside new n)) (sym at)
        (subst (λ (m : BTreeMap ℕ (Option SnapshotPage)). (is_alive new k ≡ true) × HasPages m.entries (inside new k)) is (ap (λ m. is_alive m k) whole ∙ put_alive now k (inside new k), has))
