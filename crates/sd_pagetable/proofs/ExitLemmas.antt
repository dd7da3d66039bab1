-- The pages of a space, which give their frames up one after the other.
use Rattle.std.proofs.Common.{◌≡◌, ℕ, ◌+◌, Bool, true, false, cond, nat_eq, IsSome, Option, Some, None, refl, sym, ◌∙◌, ap, subst, arith}
use Rattle.std.specs.Ordering.{nat_cmp}
use Rattle.std.specs.declared.ops.Bound.{Bound}
use Rattle.std.specs.declared.ops.Bound.TheVariants.{Excluded, Unbounded}
use Rattle.std.specs.FinMap as finmap
use Rattle.std.specs.FinMap.{get-empty, get-retain_keys, nat_cmp-IsAntisymmetric}
use Rattle.sd_tables.specs.declared.entry.Entry.{Entry}
use Rattle.sd_tables.specs.Firsts.{is_from, IsFirstFrom}
use Rattle.sd_frames.specs.Frames.{Pool}
use Rattle.sd_pagetable.specs.Nested.{Table, Nested, inside, value_at, is_alive, remove_at, total}
use Rattle.sd_pagetable.specs.Page.{PageState}
use Rattle.sd_pagetable.specs.Contents.{Contents, page_count, remove_page}
use Rattle.sd_pagetable.specs.Owning.{ReleasesFrame}
use Rattle.sd_pagetable.specs.Tracking.{with_space}
use Rattle.sd_pagetable.specs.View.{page_of_entry, contents_of, IsKept}
use Rattle.sd_pagetable.proofs.TableLemmas.{same_table, get_put, get_removed, len-map_values}
use Rattle.sd_pagetable.proofs.NestedLemmas.{inside-map, tests}
use Rattle.sd_pagetable.proofs.TotalLemmas.{total-empty, total_within-insert}
use Rattle.sd_pagetable.proofs.RangeLemmas.{inside_with, remove_in}
use Rattle.sd_pagetable.proofs.RunKept.{inside_put, insert_itself, insert_twice}
use Rattle.sd_pagetable.proofs.ReleaseLemmas.{view_removed, kept_removed}
use Rattle.sd_pagetable.proofs.SpaceLemmas.{kept_gone, view_gone}
use Rattle.sd_pagetable.proofs.ForkLemmas.{from_next, no_longer}
use Rattle.sd_pagetable.proofs.ForkCalls.{ended, len_total}
use Rattle.sd_pagetable.proofs.FirstLemmas.{first_seen}

-- ---- the pages of a table from a bound on
pub left : {X : Type 0} → Bound ℕ → Table X → Table X
left start t = finmap.retain_keys t (λ q. is_from start q)

pub get-left : {X : Type 0} (start : Bound ℕ) (t : Table X) (q : ℕ) → finmap.get (left start t) q ≡ cond (is_from start q) (finmap.get t q) None
unfolding left
get-left start t q = get-retain_keys t (λ k. is_from start k) q (λ x e. ap (is_from start) (sym (nat_cmp-IsAntisymmetric q x e)))

module _ {X : Type 0} (start : Bound ℕ) (t : Table X) where
  none_left : (q : ℕ) (o : Option X) → (IsSome o → is_from start q ≡ false) → cond (is_from start q) o None ≡ None
  none_left q None none = nothing (is_from start q)
    where
      nothing : (b : Bool) → cond {A = Option X} b None None ≡ None
      nothing true = refl
      nothing false = refl
  none_left q (Some x) none = ap (λ b. cond b (Some x) None) (none refl)

  pub left-all : IsFirstFrom t start None → left start t ≡ finmap.empty
  left-all none = same_table _ _ (λ q. get-left start t q ∙ none_left q (finmap.get t q) (none q) ∙ sym (get-empty nat_cmp q))

  module _ (page : ℕ) (first : IsFirstFrom t start (Some page)) where
    next_left : (q : ℕ) (here : Bool) → nat_eq q page ≡ here → (o : Option X) → finmap.get t q ≡ o → cond here None (cond (is_from start q) o None) ≡ cond (is_from (Excluded page) q) o None
    next_left q true e o f = sym (ap (λ b. cond b o None) (ap (is_from (Excluded page)) (tests q page e) ∙ no_longer page))
    next_left q false e None f = nothing (is_from start q) (is_from (Excluded page) q)
      where
        nothing : (a b : Bool) → cond {A = Option X} a None None ≡ cond b None None
        nothing true true = refl
        nothing true false = refl
        nothing false true = refl
        nothing false false = refl
    next_left q false e (Some y) f = ap (λ b. cond b (Some y) None) (from_next t start page q first (subst IsSome (sym f) refl) e)

    pub left-next : finmap.remove (left start t) page ≡ left (Excluded page) t
    left-next = same_table _ _ (λ q. get_removed (left start t) page q ∙ ap (cond (nat_eq q page) None) (get-left start t q)
        ∙ next_left q (nat_eq q page) refl (finmap.get t q) refl ∙ sym (get-left (Excluded page) t q))

pub left-none : {X : Type 0} (t : Table X) → left Unbounded t ≡ t
left-none t = same_table _ _ (λ q. get-left Unbounded t q)

-- ---- the tables where pages before a bound gave their frames up
abbrev pub so_far : Nested Entry → ℕ → Bound ℕ → Nested Entry
so_far tables s start = finmap.insert tables s (left start (inside tables s))

-- what is kept, whatever the number of pages
abbrev pub Kept : Pool → Nested Entry → Type 0
Kept pool tables = IsKept pool tables (page_count (contents_of pool tables).spaces)

pub kept_any : (pool : Pool) (tables : Nested Entry) (n : ℕ) → IsKept pool tables n → Kept pool tables
kept_any pool tables n kept = subst (IsKept pool tables) kept.mapped kept

abbrev pub cleared_so_far : Contents → ℕ → Bound ℕ → Contents
cleared_so_far c s start = with_space c s (left start (inside c.spaces s))

module _ (tables : Nested Entry) (s : ℕ) where
  pub so_far-none : is_alive tables s ≡ true → so_far tables s Unbounded ≡ tables
  so_far-none alive = ap (finmap.insert tables s) (left-none (inside tables s)) ∙ insert_itself tables s alive

  pub so_far-there : (start : Bound ℕ) (page : ℕ) (e : Entry) → is_from start page ≡ true → value_at tables s page ≡ Some e → value_at (so_far tables s start) s page ≡ Some e
  so_far-there start page e from there = ap (λ t. finmap.get t page) (inside_put tables s (left start (inside tables s))) ∙ get-left start (inside tables s) page
      ∙ ap (λ b. cond b (value_at tables s page) None) from ∙ there

  pub so_far-next : (start : Bound ℕ) (page : ℕ) → IsFirstFrom (inside tables s) start (Some page) → remove_at (so_far tables s start) s page ≡ so_far tables s (Excluded page)
  unfolding remove_at
  so_far-next start page first = ap (λ u. finmap.insert (so_far tables s start) s (finmap.remove u page)) (inside_put tables s (left start (inside tables s)))
      ∙ insert_twice tables s (left start (inside tables s)) (finmap.remove (left start (inside tables s)) page) ∙ ap (finmap.insert tables s) (left-next start (inside tables s) page first)

  -- ---- one page more
  module _ (first_pool old new : Pool) (start : Bound ℕ) (page : ℕ) (e : Entry) (first : IsFirstFrom (inside tables s) start (Some page)) (there : value_at tables s page ≡ Some e)
      (kept : Kept old (so_far tables s start)) (released : ReleasesFrame old new e.frame) where
    here : value_at (so_far tables s start) s page ≡ Some e
    here = so_far-there start page e first.1 there

    pub kept-next : Kept new (so_far tables s (Excluded page))
    kept-next =
        let gone = (kept_removed old new (so_far tables s start) _ s page e kept here released).1 in
        subst (Kept new) (so_far-next start page first) (kept_any new (remove_at (so_far tables s start) s page) _ gone)

    pub view-next : contents_of old (so_far tables s start) ≡ cleared_so_far (contents_of first_pool tables) s start → contents_of new (so_far tables s (Excluded page)) ≡ cleared_so_far (contents_of first_pool tables) s (Excluded page)
    view-next done =
        let c = contents_of first_pool tables in
        sym (ap (contents_of new) (so_far-next start page first)) ∙ view_removed old new (so_far tables s start) _ s page e kept here released
        ∙ ap (λ (m : Contents). remove_page m s page) done ∙ remove_in c s page (left start (inside c.spaces s))
        ∙ ap (with_space c s) (left-next start (inside c.spaces s) page (first_seen first_pool tables c s refl start (Some page) first))

-- ---- the space, once its frames were given up
emptied_twice : {X : Type 0} (b : Bool) (o : Option X) (t : X) → cond b None (cond b (Some t) o) ≡ cond b None o
emptied_twice b o t = grind arith

pub removed_put : (tables : Nested Entry) (s : ℕ) (t : Table Entry) → finmap.remove (finmap.insert tables s t) s ≡ finmap.remove tables s
removed_put tables s t = same_table _ _ (λ q. get_removed (finmap.insert tables s t) s q ∙ ap (cond (nat_eq q s) None) (get_put tables s t q)
    ∙ emptied_twice (nat_eq q s) (finmap.get tables q) t ∙ sym (get_removed tables s q))

module _ (old new : Pool) (tables : Nested Entry) (n s : ℕ) (kept : IsKept old tables n) (after : Kept new (finmap.insert tables s finmap.empty))
    (view : contents_of new (finmap.insert tables s finmap.empty) ≡ with_space (contents_of old tables) s finmap.empty) where
  pub ended_view : contents_of new (finmap.remove tables s) ≡ record { pool = (contents_of old tables).pool; spaces = finmap.remove (contents_of old tables).spaces s }
  ended_view = ended (contents_of old tables) (contents_of new (finmap.insert tables s finmap.empty)) (contents_of new (finmap.remove tables s)) s view
      (ap (contents_of new) (sym (removed_put tables s finmap.empty)) ∙ view_gone new (finmap.insert tables s finmap.empty) s)

  pub ended_count : n ≡ page_count (contents_of new (finmap.insert tables s finmap.empty)).spaces + finmap.len (inside tables s)
  ended_count =
      let c = contents_of old tables in
      let counted = kept.mapped in
      let now = ap (λ (m : Contents). page_count m.spaces) view in
      let less = total_within-insert (λ (_ : PageState). 1) c.spaces s finmap.empty in
      let none : total (λ (_ : PageState). 1) finmap.empty ≡ 0 = total-empty (λ (_ : PageState). 1) in
      let len = len_total (inside c.spaces s) in
      let same : finmap.len (inside c.spaces s) ≡ finmap.len (inside tables s) = ap finmap.len (inside-map (page_of_entry old) tables s) ∙ len-map_values (page_of_entry old) (inside tables s) in
      omega (arith, counted, now, less, none, len, same)

  pub ended_kept : (count : ℕ) → n ≡ count + finmap.len (inside tables s) → IsKept new (finmap.remove tables s) count
  ended_kept count is =
      let T = finmap.insert tables s finmap.empty in
      let bare : inside (contents_of new T).spaces s ≡ finmap.empty = ap (λ (m : Contents). inside m.spaces s) view ∙ inside_with (contents_of old tables) s finmap.empty in
      let same : page_count (contents_of new T).spaces ≡ count = (let e = ended_count in omega (arith, e, is)) in
      subst (λ (t : Nested Entry). IsKept new t count) (removed_put tables s finmap.empty) (subst (IsKept new (finmap.remove T s)) same (kept_gone new T _ s after bare))
