-- What a change of one entry keeps.
use Rattle.std.proofs.Common.{◌≡◌, ℕ, ◌+◌, ◌<◌, ◌≤◌, ◌^◌, true, false, cond, nat_eq, List, Option, Some, None, IsSome, refl, sym, ◌∙◌, ap, subst, inl, inr, arith}
use Rattle.std.proofs.lemmas.Bool.Decides.{nat_tests}
use Rattle.std.proofs.lemmas.Bool.{cases_Bool, cases_eq, cond-false, ne_eqb, both_ways}
use Rattle.std.specs.Option.{option_map_or}
use Rattle.sd_tables.specs.declared.entry.Entry.{Entry}
use Rattle.sd_pagetable.specs.Nested.{Nested, value_at, is_alive, put_at, total}
use Rattle.sd_pagetable.specs.Page.{PageState, zeros}
use Rattle.sd_pagetable.specs.Contents.{Contents, page_at, put_page, members, share_of, page_count, IsWritable, IsSound}
use Rattle.sd_frames.specs.Frames.{Pool, Cell, cell_at, count_at, SetsCell, frame_bytes}
use Rattle.sd_pagetable.specs.View.{page_of_entry, contents_of, IsKept}
use Rattle.sd_pagetable.proofs.NestedLemmas.{same_nested, value_at-put, alive-put_same, alive-map, alive_at}
use Rattle.sd_pagetable.proofs.TotalLemmas.{total_within-put, total_within_ge}
use Rattle.sd_pagetable.proofs.ViewLemmas.{view_put, same_pool, SameOthers, is_at, entry_there, alone_apart, alone_in, is_alone_in, sound_put, one_share}

-- no other open page is in the page's class
abbrev pub IsApart : Contents → ℕ → ℕ → PageState → Type 0
IsApart m s p x = (q r : ℕ) (y : PageState) (k : ℕ) → is_at s p q r ≡ false → page_at m q r ≡ Some y → y.writable ≡ true → y.class ≡ Some k → members m k ≡ 1 → share_of k x ≡ 0

pub share_class : (k : ℕ) (x y : PageState) → x.class ≡ y.class → share_of k x ≡ share_of k y
share_class k x y e = ap (λ o. option_map_or (λ j. cond (nat_eq j k) 1 0) o 0) e

-- a page that stays in its class
pub apart_same : (m : Contents) (s p : ℕ) (x old : PageState) → page_at m s p ≡ Some old → x.class ≡ old.class → IsApart m s p x
apart_same m s p x old h e q r y k apart hy w c one = share_class k x old e ∙ alone_apart m s p q r old y k one h hy c apart

-- a page without a class
pub apart_none : (m : Contents) (s p : ℕ) (x : PageState) → x.class ≡ None → IsApart m s p x
apart_none m s p x e q r y k apart hy w c one = ap (λ o. option_map_or (λ j. cond (nat_eq j k) 1 0) o 0) e

pub other_class : (j k : ℕ) → (j ≡ k → ⊥) → cond {A = ℕ} (nat_eq j k) 1 0 ≡ 0
other_class j k n = cond-false (nat_eq j k) 1 0 (ne_eqb j k n)

-- a page in a class that had no page
pub apart_new : (m : Contents) (s p : ℕ) (x : PageState) (j : ℕ) → x.class ≡ Some j → members m j ≡ 0 → IsApart m s p x
apart_new m s p x j e none q r y k apart hy w c one = ap (λ o. option_map_or (λ i. cond (nat_eq i k) 1 0) o 0) e
    ∙ other_class j k (λ same. let f : members m j ≡ members m k = ap (members m) same in absurd (omega (arith, f, none, one)))

abbrev pub one_page : PageState → ℕ
one_page _ = 1

module _ (old new : Pool) (tables : Nested Entry) (n count : ℕ) (s p : ℕ) (e : Entry) (before : Option PageState) (kept : IsKept old tables n) (size : new.size ≡ old.size) (alive : is_alive tables s ≡ true) (others : SameOthers old new tables s p) (there : page_at (contents_of old tables) s p ≡ before) where
  pub kept_put : p < 2 ^ 35 → ((k : ℕ) → count_at new k + option_map_or (share_of k) before 0 ≡ count_at old k + share_of k (page_of_entry new e))
      → ((k : ℕ) (c : Cell) → cell_at new k ≡ Some c → 0 < c.count) → count + option_map_or one_page before 0 ≡ n + 1 → count ≤ 65536 → ((k : ℕ) → e.frame ≡ Some k → k < old.size)
      → (e.writable ≡ true → IsWritable (put_page (contents_of old tables) s p (page_of_entry new e)) (page_of_entry new e))
      → IsApart (contents_of old tables) s p (page_of_entry new e)
      → IsKept new (put_at tables s p e) count
  kept_put number counts used total few class opening apart =
      let m = contents_of old tables in
      let x = page_of_entry new e in
      let v = view_put old new tables s p size alive others e in
      let spaces_alive : is_alive m.spaces s ≡ true = alive-map (page_of_entry old) tables s ∙ alive in
      let pages = total_within-put one_page m.spaces s p x in
      let was : option_map_or one_page (value_at m.spaces s p) 0 ≡ option_map_or one_page before 0 = ap (λ o. option_map_or one_page o 0) there in
      let k_mapped = kept.mapped in
      let page_total : count ≡ page_count (put_at m.spaces s p x) = omega (arith, pages, was, total, k_mapped) in
      let fits : page_count (put_at m.spaces s p x) ≤ 65536 = omega (arith, page_total, few) in
      record {
        sound = subst IsSound (sym v) (sound_put m kept.sound s p x spaces_alive number class fits opening apart);
        counts = λ k.
            let a = total_within-put (share_of k) m.spaces s p x in
            let b : option_map_or (share_of k) (value_at m.spaces s p) 0 ≡ option_map_or (share_of k) before 0 = ap (λ o. option_map_or (share_of k) o 0) there in
            let c = counts k in
            let d = kept.counts k in
            let f : members (contents_of new (put_at tables s p e)) k ≡ members (put_page m s p x) k = ap (λ (z : Contents). members z k) v in
            omega (arith, a, b, c, d, f);
        used = used;
        mapped = page_total ∙ sym (ap (λ (z : Contents). page_count z.spaces) v);
      }

-- ---- facts of what is kept
share_le : (old : Pool) (tables : Nested Entry) (s p : ℕ) (e : Entry) (k : ℕ) → value_at tables s p ≡ Some e → e.frame ≡ Some k → 0 < members (contents_of old tables) k
share_le old tables s p e k h f =
    let a = total_within_ge (share_of k) (contents_of old tables).spaces s p (page_of_entry old e) (entry_there old tables s p e h) in
    let b = one_share k (page_of_entry old e) f in
    omega (arith, a, b)

pub frame_counted : (old : Pool) (tables : Nested Entry) (n s p : ℕ) (e : Entry) (k : ℕ) → IsKept old tables n → value_at tables s p ≡ Some e → e.frame ≡ Some k → 0 < count_at old k
frame_counted old tables n s p e k kept h f = (let a = share_le old tables s p e k h f in let b = kept.counts k in omega (arith, a, b))

pub frame_used : (old : Pool) (tables : Nested Entry) (n s p : ℕ) (e : Entry) (k : ℕ) → IsKept old tables n → value_at tables s p ≡ Some e → e.frame ≡ Some k → IsSome (cell_at old k)
frame_used old tables n s p e k kept h f = counted (cell_at old k) (frame_counted old tables n s p e k kept h f)
  where
    counted : (o : Option Cell) → 0 < option_map_or (λ (cell : Cell). cell.count) o 0 → IsSome o
    counted None l = absurd (omega arith)
    counted (Some c) l = refl

-- an entry with the same frame, which isn't writable
pub kept_write_protected : (old : Pool) (tables : Nested Entry) (n s p : ℕ) (e was : Entry) → IsKept old tables n → value_at tables s p ≡ Some was → e.frame ≡ was.frame → e.writable ≡ false → IsKept old (put_at tables s p e) n
kept_write_protected old tables n s p e was kept h same closed =
    let there = entry_there old tables s p was h in
    let k_few = kept.sound.few in
    let k_mapped = kept.mapped in
    kept_put old old tables n n s p e (Some (page_of_entry old was)) kept refl (alive_at tables s p was h) (same_pool old tables s p) there
    (kept.sound.numbers s p (page_of_entry old was) there)
    (λ k. let a = share_class k (page_of_entry old e) (page_of_entry old was) same in omega (arith, a))
    kept.used refl (omega (arith, k_few, k_mapped))
    (λ k f. kept.sound.classes s p (page_of_entry old was) k there (sym same ∙ f))
    (λ t. absurd (both_ways e.writable closed t))
    (apart_same (contents_of old tables) s p (page_of_entry old e) (page_of_entry old was) there same)

-- a page mapped where none was
pub kept_added : (old : Pool) (tables : Nested Entry) (n s p : ℕ) (e : Entry) → IsKept old tables n → is_alive tables s ≡ true → page_at (contents_of old tables) s p ≡ None → p < 2 ^ 35 → n < 65536 → e.frame ≡ None → e.writable ≡ false → IsKept old (put_at tables s p e) (n + 1)
kept_added old tables n s p e kept alive hole number few none closed =
    kept_put old old tables n (n + 1) s p e None kept refl alive (same_pool old tables s p) hole number
    (λ k. let a : share_of k (page_of_entry old e) ≡ 0 = ap (λ o. option_map_or (λ j. cond (nat_eq j k) 1 0) o 0) none in omega (arith, a))
    kept.used (omega arith) (omega (arith, few))
    (λ k f. absurd (let g : ◌≡◌ {A = Option ℕ} None (Some k) = sym none ∙ f in cc))
    (λ t. absurd (both_ways e.writable closed t))
    (apart_none (contents_of old tables) s p (page_of_entry old e) none)

cell_kept : (old new : Pool) (j : ℕ) (cell : Option Cell) (k : ℕ) → SetsCell old new j cell → (k ≡ j → ⊥) → count_at new k ≡ count_at old k
cell_kept old new j cell k sets n = ap (λ o. option_map_or (λ (c : Cell). c.count) o 0) (sets.others k n)

cell_here : (old new : Pool) (j : ℕ) (cell : Option Cell) → SetsCell old new j cell → count_at new j ≡ option_map_or (λ (c : Cell). c.count) cell 0
cell_here old new j cell sets = ap (λ o. option_map_or (λ (c : Cell). c.count) o 0) sets.here

-- bytes of frames that an operation leaves
pub same_frame : (old new : Pool) (j : ℕ) (cell : Option Cell) (e : Entry) → SetsCell old new j cell → (e.frame ≡ Some j → ⊥) → page_of_entry new e ≡ page_of_entry old e
same_frame old new j cell e sets n = ap (λ (bytes : List ℕ). record { prot = e.prot; bytes = bytes; class = e.frame; writable = e.writable; soft_dirty = e.soft_dirty }) (bytes_same e.frame refl)
  where
    bytes_same : (f : Option ℕ) → e.frame ≡ f → frame_bytes new f ≡ frame_bytes old f
    bytes_same None h = refl
    bytes_same (Some k) h = ap (λ o. option_map_or (λ (c : Cell). c.bytes) o zeros) (sets.others k (λ same. n (h ∙ ap Some same)))

-- bytes were written into the frame of a writable page
pub kept_written : (old new : Pool) (tables : Nested Entry) (n s p : ℕ) (e : Entry) (j : ℕ) (bytes : List ℕ) → IsKept old tables n → value_at tables s p ≡ Some e → e.frame ≡ Some j → e.writable ≡ true
    → SetsCell old new j (Some (record { count = count_at old j; bytes = bytes })) → IsKept new tables n × (contents_of new tables ≡ put_page (contents_of old tables) s p (record { prot = e.prot; bytes = bytes; class = e.frame; writable = e.writable; soft_dirty = e.soft_dirty }))
kept_written old new tables n s p e j bytes kept h f w sets =
    let m = contents_of old tables in
    let there = entry_there old tables s p e h in
    let open_page = kept.sound.writable s p (page_of_entry old e) there w in
    let a = alone_in m (page_of_entry old e) open_page.alone in
    let a_is : a.0 ≡ j = (let g : ◌≡◌ {A = Option ℕ} (Some a.0) (Some j) = sym a.1 ∙ f in cc) in
    let one : members m j ≡ 1 = ap (members m) (sym a_is) ∙ a.2 in
    let others : SameOthers old new tables s p = λ q r y apart hy. same_frame old new j _ y sets (λ fy. let z = alone_apart m s p q r (page_of_entry old e) (page_of_entry old y) j one there (entry_there old tables q r y hy) fy apart in let o = one_share j (page_of_entry old e) f in absurd (omega (arith, z, o))) in
    let again : put_at tables s p e ≡ tables = put_same tables s p e h in
    let count_same : (k : ℕ) → count_at new k ≡ count_at old k = λ k. elim (cases_eq k j) [
      | inl same ↦ ap (count_at new) same ∙ cell_here old new j _ sets ∙ ap (count_at old) (sym same)
      | inr other ↦ cell_kept old new j _ k sets other
    ] in
    let v = view_put old new tables s p sets.size (alive_at tables s p e h) others e in
    let page_is : page_of_entry new e ≡ record { prot = e.prot; bytes = bytes; class = e.frame; writable = e.writable; soft_dirty = e.soft_dirty } =
    ap (λ (b : List ℕ). record { prot = e.prot; bytes = b; class = e.frame; writable = e.writable; soft_dirty = e.soft_dirty }) (ap (frame_bytes new) f ∙ ap (λ o. option_map_or (λ (c : Cell). c.bytes) o zeros) sets.here) in
    let k_few = kept.sound.few in
    let k_mapped = kept.mapped in
    let kept' = kept_put old new tables n n s p e (Some (page_of_entry old e)) kept sets.size (alive_at tables s p e h) others there (kept.sound.numbers s p (page_of_entry old e) there)
    (λ k. let b = share_class k (page_of_entry new e) (page_of_entry old e) refl in let c = count_same k in omega (arith, b, c))
    (λ k c hc. elim (cases_eq k j) [
      | inl same ↦ (let d = frame_counted old tables n s p e j kept h f in let g : c.count ≡ count_at old j = sym (ap (λ o. option_map_or (λ (c : Cell). c.count) o 0) hc) ∙ ap (count_at new) same ∙ cell_here old new j _ sets in omega (arith, d, g))
      | inr other ↦ kept.used k c (sym (sets.others k other) ∙ hc)
    ])
    refl (omega (arith, k_few, k_mapped)) (λ k g. kept.sound.classes s p (page_of_entry old e) k there g)
    (λ _.
    let t = total_within-put (share_of j) m.spaces s p (page_of_entry new e) in
    let b = share_class j (page_of_entry new e) (page_of_entry old e) refl in
    let c : option_map_or (share_of j) (value_at m.spaces s p) 0 ≡ share_of j (page_of_entry old e) = ap (λ o. option_map_or (share_of j) o 0) there in
    record { soft_dirty = open_page.soft_dirty; permitted = open_page.permitted; alone = is_alone_in (put_page m s p (page_of_entry new e)) (page_of_entry new e) j f (omega (arith, t, b, c, one)) })
    (apart_same m s p (page_of_entry new e) (page_of_entry old e) there refl) in
    (subst (λ (t : Nested Entry). IsKept new t n) again kept', sym (ap (contents_of new) again) ∙ v ∙ ap (put_page m s p) page_is)
  where
    put_same : (t : Nested Entry) (s' p' : ℕ) (e' : Entry) → value_at t s' p' ≡ Some e' → put_at t s' p' e' ≡ t
    put_same t s' p' e' g = same_nested _ _ (λ q. alive-put_same t s' p' e' q (alive_at t s' p' e' g)) (λ q r. value_at-put t s' p' e' q r ∙ here q r)
      where
        here : (q r : ℕ) → cond (is_at s' p' q r) (Some e') (value_at t q r) ≡ value_at t q r
        here q r = elim (cases_Bool (is_at s' p' q r)) [
          | inl b ↦ ap (λ b. cond b (Some e') (value_at t q r)) b ∙ sym (ap (λ a. value_at t a r) (let g : q ≡ s' = grind (arith, nat_tests) in g) ∙ ap (value_at t s') (let g : r ≡ p' = grind (arith, nat_tests) in g) ∙ g)
          | inr o ↦ ap (λ b. cond b (Some e') (value_at t q r)) o
        ]
