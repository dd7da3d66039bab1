-- Memories seen through the changes over them.
use Rattle.std.proofs.Common.{◌≡◌, ℕ, Bool, true, false, cond, nat_eq, is_some, List, [], ◌∷◌, Option, Some, None, unwrap_or, refl, sym, ◌∙◌, ap}
use Rattle.std.specs.Option.{option_map}
use Rattle.std.specs.Ordering.{nat_cmp}
use Rattle.std.specs.FinMap as finmap
use Rattle.std.specs.Map.{lookup}
use Rattle.std.specs.BTreeMap.{BTreeMap, is_at}
use Rattle.sd_areas.specs.declared.snapshot_page.SnapshotPage.{SnapshotPage}
use Rattle.sd_areas.specs.PlainMemory.{Space, PlainMemory}
use Rattle.sd_pagetable.specs.Nested.{inside, is_alive}
use Rattle.sd_fold.specs.Overlay.{Layers, with_space, pages_over, memory_over}
use Rattle.sd_fold.proofs.WalkLemmas.{Rising, at_head, later, not_left}
use Rattle.sd_fold.proofs.Tables.{same_table, get_put, get_removed, same_key, same_of, turned_test}

-- what was changed of a space's pages, or None: the space is gone
abbrev pub Layer : Type 0
Layer = Option (BTreeMap ℕ (Option SnapshotPage))

-- a space with a layer over it
abbrev pub space_over : PlainMemory → ℕ → Layer → Option Space
space_over memory space layer = option_map (λ changes. pages_over changes.entries (inside memory space)) layer

-- a space of a memory under what became of it
abbrev pub space_under : Option Layer → PlainMemory → ℕ → Option Space
space_under None memory space = finmap.get memory space
space_under (Some layer) memory space = space_over memory space layer

pub get_with_space : (memory : PlainMemory) (k : ℕ) (v : Option Space) (q : ℕ) → finmap.get (with_space memory k v) q ≡ cond (nat_eq q k) v (finmap.get memory q)
get_with_space memory k None q = get_removed memory k q
get_with_space memory k (Some pages) q = get_put memory k pages q

first_layer : (memory : PlainMemory) (k q : ℕ) (b : Bool) (v : Layer) (o : Option Layer) → (b ≡ true → q ≡ k)
    → cond b (space_over memory k v) (space_under o memory q) ≡ space_under (cond b (Some v) o) memory q
first_layer memory k q true v o at = ap (λ n. space_over memory n v) (sym (at refl))
first_layer memory k q false v o at = refl

pub get_memory_over : (es : Layers) (memory : PlainMemory) (q : ℕ) → finmap.get (memory_over es memory) q ≡ space_under (lookup (is_at (nat_cmp q)) es) memory q
get_memory_over [] memory q = refl
get_memory_over (e ∷ es) memory q = get_with_space (memory_over es memory) e.0 (space_over memory e.0 e.1) q
    ∙ ap (cond (nat_eq q e.0) (space_over memory e.0 e.1)) (get_memory_over es memory q)
    ∙ first_layer memory e.0 q (nat_eq q e.0) e.1 (lookup (is_at (nat_cmp q)) es) (same_of q e.0)
    ∙ ap (λ b. space_under (cond b (Some e.1) (lookup (is_at (nat_cmp q)) es)) memory q) (sym (same_key q e.0))

pub layer_put : (old new : Layers) (memory : PlainMemory) (k : ℕ) (v : Layer)
    → ((q : ℕ) → lookup (is_at (nat_cmp q)) new ≡ cond (is_at (nat_cmp k) q) (Some v) (lookup (is_at (nat_cmp q)) old))
    → memory_over new memory ≡ with_space (memory_over old memory) k (space_over memory k v)
layer_put old new memory k v is = same_table _ _ (λ q. get_memory_over new memory q
    ∙ ap (λ o. space_under o memory q) (is q ∙ ap (λ b. cond b (Some v) (lookup (is_at (nat_cmp q)) old)) (turned_test k q))
    ∙ sym (first_layer memory k q (nat_eq q k) v (lookup (is_at (nat_cmp q)) old) (same_of q k))
    ∙ ap (cond (nat_eq q k) (space_over memory k v)) (sym (get_memory_over old memory q))
    ∙ sym (get_with_space (memory_over old memory) k (space_over memory k v) q))

pub found_changes : (es : Layers) (memory : PlainMemory) (s : ℕ) (changes : BTreeMap ℕ (Option SnapshotPage)) → Some (Some changes) ≡ lookup (is_at (nat_cmp s)) es
    → pages_over changes.entries (inside memory s) ≡ inside (memory_over es memory) s
found_changes es memory s changes e = sym (ap (λ o. unwrap_or o finmap.empty) (get_memory_over es memory s ∙ ap (λ o. space_under o memory s) (sym e)))

pub gone_changes : (es : Layers) (memory : PlainMemory) (s : ℕ) → Some None ≡ lookup (is_at (nat_cmp s)) es → is_alive (memory_over es memory) s ≡ true → ⊥
gone_changes es memory s e alive =
    absurd (let f : false ≡ true = sym (ap is_some (get_memory_over es memory s ∙ ap (λ o. space_under o memory s) (sym e))) ∙ alive in cc)

pub no_changes : (es : Layers) (memory : PlainMemory) (s : ℕ) (none : BTreeMap ℕ (Option SnapshotPage)) → None ≡ lookup (is_at (nat_cmp s)) es → none.entries ≡ []
    → pages_over none.entries (inside memory s) ≡ inside (memory_over es memory) s
no_changes es memory s none e empty = ap (λ (entries : List (ℕ × Option SnapshotPage)). pages_over entries (inside memory s)) empty
    ∙ sym (ap (λ o. unwrap_or o finmap.empty) (get_memory_over es memory s ∙ ap (λ o. space_under o memory s) (sym e)))

same_but : {X : Type 0} (b : Bool) (v : Option X) (o p : Option X) → (b ≡ false → o ≡ p) → cond b v o ≡ cond b v p
same_but true v o p is = refl
same_but false v o p is = is refl

-- a space's changes were taken out, and its pages are put anew
pub taken_changes : (old new : Layers) (memory : PlainMemory) (k : ℕ) (pages : Space)
    → ((q : ℕ) → lookup (is_at (nat_cmp q)) new ≡ cond (is_at (nat_cmp k) q) None (lookup (is_at (nat_cmp q)) old))
    → finmap.insert (memory_over new memory) k pages ≡ finmap.insert (memory_over old memory) k pages
taken_changes old new memory k pages is = same_table _ _ (λ q. get_put (memory_over new memory) k pages q
    ∙ same_but (nat_eq q k) (Some pages) (finmap.get (memory_over new memory) q) (finmap.get (memory_over old memory) q) (other q)
    ∙ sym (get_put (memory_over old memory) k pages q))
  where
    other : (q : ℕ) → nat_eq q k ≡ false → finmap.get (memory_over new memory) q ≡ finmap.get (memory_over old memory) q
    other q apart = get_memory_over new memory q
        ∙ ap (λ o. space_under o memory q) (is q ∙ ap (λ b. cond b None (lookup (is_at (nat_cmp q)) old)) (turned_test k q ∙ apart))
        ∙ sym (get_memory_over old memory q)

-- a space whose changes were taken out, gone on with and put back
pub changed_memory : (old taken new : Layers) (memory : PlainMemory) (s : ℕ) (changed pages : Space) → changed ≡ pages
    → memory_over new memory ≡ finmap.insert (memory_over taken memory) s changed
    → ((base : PlainMemory) (pages : Space) → finmap.insert (memory_over taken base) s pages ≡ finmap.insert (memory_over old base) s pages)
    → memory_over new memory ≡ finmap.insert (memory_over old memory) s pages
changed_memory old taken new memory s changed pages is put rest = put ∙ rest memory changed ∙ ap (finmap.insert (memory_over old memory) s) is

pub space_under_same : (o : Option Layer) (m n : PlainMemory) (q : ℕ) → finmap.get m q ≡ finmap.get n q → space_under o m q ≡ space_under o n q
space_under_same None m n q e = e
space_under_same (Some None) m n q e = refl
space_under_same (Some (Some changes)) m n q e = ap (λ o. Some (pages_over changes.entries (unwrap_or o finmap.empty))) e

pub other_space : (now new : PlainMemory) (k q : ℕ) (v : Option Space) → new ≡ with_space now k v → nat_eq q k ≡ false → finmap.get new q ≡ finmap.get now q
other_space now new k q v put apart = ap (λ m. finmap.get m q) put ∙ get_with_space now k v q ∙ ap (λ b. cond b v (finmap.get now q)) apart

-- the first of the layers put into the memory below the others
pub next_memory : (rest left : Layers) (now new : PlainMemory) (k : ℕ) (layer : Layer) → Rising rest → rest ≡ (k, layer) ∷ left
    → new ≡ with_space now k (space_over now k layer) → memory_over left new ≡ memory_over rest now
next_memory rest left now new k layer rises e put = same_table _ _ (λ q. get_memory_over left new q ∙ by q (nat_eq q k) refl ∙ sym (get_memory_over rest now q))
  where
    by : (q : ℕ) (b : Bool) → nat_eq q k ≡ b → space_under (lookup (is_at (nat_cmp q)) left) new q ≡ space_under (lookup (is_at (nat_cmp q)) rest) now q
    by q false apart = space_under_same (lookup (is_at (nat_cmp q)) left) new now q (other_space now new k q (space_over now k layer) put apart)
        ∙ ap (λ o. space_under o now q) (sym (later rest left k q layer e apart))
    by q true same =
        let at : q ≡ k = same_of q k same in
        ap (λ o. space_under o new q) (ap (λ n. lookup (is_at (nat_cmp n)) left) at ∙ not_left rest left k layer rises e)
        ∙ ap (λ m. finmap.get m q) put ∙ get_with_space now k (space_over now k layer) q ∙ ap (λ b. cond b (space_over now k layer) (finmap.get now q)) same
        ∙ sym (ap (λ n. space_under (lookup (is_at (nat_cmp n)) rest) now n) at ∙ ap (λ o. space_under o now k) (at_head rest left k layer e))
