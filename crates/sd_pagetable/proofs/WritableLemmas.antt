-- What a fault keeps.
use Rattle.std.proofs.Common.{◌≡◌, ℕ, ◌+◌, ◌<◌, ◌≤◌, Bool, true, false, cond, nat_eq, List, Option, Some, None, refl, sym, ◌∙◌, ap, subst, inl, inr, arith}
use Rattle.std.proofs.lemmas.Bool.{cases_eq, eqb-true, eqb-false, eq-eqb}
use Rattle.std.specs.Option.{option_map_or}
use Rattle.sd_pagetable.proofs.LoadedLemmas.{count_none}
use Rattle.sd_tables.specs.declared.entry.Entry.{Entry}
use Rattle.sd_pagetable.specs.Nested.{Nested, value_at, put_at}
use Rattle.sd_pagetable.specs.Page.{zeros, writable_page}
use Rattle.sd_pagetable.specs.Contents.{Contents, put_page, members, share_of}
use Rattle.sd_frames.specs.Frames.{Pool, Cell, cell_at, count_at, frame_bytes}
use Rattle.sd_pagetable.specs.View.{page_of_entry, contents_of, IsKept}
use Rattle.sd_pagetable.specs.Owning.{is_own, TakesFrame}
use Rattle.sd_pagetable.proofs.NestedLemmas.{alive_at}
use Rattle.sd_pagetable.proofs.TotalLemmas.{total_within-put, total_within_ge}
use Rattle.sd_pagetable.proofs.ViewLemmas.{view_put, same_pool, SameOthers, entry_there, is_alone_in, one_share}
use Rattle.sd_pagetable.proofs.KeptLemmas.{kept_put, apart_same, apart_new, frame_counted, share_class}

pub own_at : (pool : Pool) (frame : Option ℕ) (own : ℕ) → is_own pool frame ≡ true → frame ≡ Some own → count_at pool own ≡ 1
own_at pool frame own h e = eqb-true _ _ (sym (ap (is_own pool) e) ∙ h)

not_own_at : (pool : Pool) (frame : Option ℕ) (k : ℕ) → is_own pool frame ≡ false → frame ≡ Some k → count_at pool k ≡ 1 → ⊥
not_own_at pool frame k h e = eqb-false _ _ (sym (ap (is_own pool) e) ∙ h)

module _ (old : Pool) (tables : Nested Entry) (n s p : ℕ) (e : Entry) (own : ℕ) (kept : IsKept old tables n) (h : value_at tables s p ≡ Some e) (permitted : e.prot.write ≡ true) where
  m : Contents
  m = contents_of old tables

  k_few : n ≤ 65536
  k_few = (let a = kept.mapped in let b = kept.sound.few in omega (arith, a, b))

  -- the page is alone in its class already
  pub kept_own : e.frame ≡ Some own → count_at old own ≡ 1 → IsKept old (put_at tables s p (record { prot = e.prot; frame = Some own; writable = true; soft_dirty = true })) n
  kept_own f one =
      let there = entry_there old tables s p e h in
      let e' : Entry = record { prot = e.prot; frame = Some own; writable = true; soft_dirty = true } in
      kept_put old old tables n n s p e' (Some (page_of_entry old e)) kept refl (alive_at tables s p e h) (same_pool old tables s p) there
      (kept.sound.numbers s p (page_of_entry old e) there)
      (λ k. let a = share_class k (page_of_entry old e') (page_of_entry old e) (sym f) in omega (arith, a))
      kept.used refl k_few
      (λ k g. kept.sound.classes s p (page_of_entry old e) k there (f ∙ g))
      (λ _.
      let t = total_within-put (share_of own) (contents_of old tables).spaces s p (page_of_entry old e') in
      let a = share_class own (page_of_entry old e') (page_of_entry old e) (sym f) in
      let b : option_map_or (share_of own) (value_at (contents_of old tables).spaces s p) 0 ≡ share_of own (page_of_entry old e) = ap (λ o. option_map_or (share_of own) o 0) there in
      let c = kept.counts own in
      record { soft_dirty = refl; permitted = permitted; alone = is_alone_in (put_page (contents_of old tables) s p (page_of_entry old e')) (page_of_entry old e') own refl (omega (arith, t, a, b, c, one)) })
      (apart_same (contents_of old tables) s p (page_of_entry old e') (page_of_entry old e) there (sym f))

  -- the page takes a free frame
  module _ (new : Pool) (shared : is_own old e.frame ≡ false) (takes : TakesFrame old new e.frame own) where
    pub no_member : members (contents_of old tables) own ≡ 0
    no_member = sym (kept.counts own) ∙ count_none old own takes.free

    not_in : (q r : ℕ) (y : Entry) → value_at tables q r ≡ Some y → y.frame ≡ Some own → ⊥
    not_in q r y hy f = (let a = frame_counted old tables n q r y own kept hy f in let b = count_none old own takes.free in omega (arith, a, b))

    same_bytes : (f : Option ℕ) → (f ≡ Some own → ⊥) → frame_bytes new f ≡ frame_bytes old f
    same_bytes None g = refl
    same_bytes (Some k) g = by_test (option_map_or (λ j. nat_eq j k) e.frame false) refl
      where
        shared_is : (o : Option ℕ) → option_map_or (λ j. nat_eq j k) o false ≡ true → o ≡ Some k
        shared_is None t = absurd (let f : false ≡ true = t in cc)
        shared_is (Some j) t = ap Some (eqb-true j k t)

        shared_not : (o : Option ℕ) → option_map_or (λ j. nat_eq j k) o false ≡ false → o ≡ Some k → ⊥
        shared_not o t i = (let f : false ≡ true = sym t ∙ ap (λ u. option_map_or (λ j. nat_eq j k) u false) i ∙ eq-eqb k k refl in cc)

        by_test : (b : Bool) → option_map_or (λ j. nat_eq j k) e.frame false ≡ b → frame_bytes new (Some k) ≡ frame_bytes old (Some k)
        by_test b t = grind arith

    others : SameOthers old new tables s p
    others q r y apart hy = ap (λ (bytes : List ℕ). record { prot = y.prot; bytes = bytes; class = y.frame; writable = y.writable; soft_dirty = y.soft_dirty }) (same_bytes y.frame (not_in q r y hy))

    share_here : (k : ℕ) (o : Option ℕ) → ℕ
    share_here k o = option_map_or (λ j. cond {A = ℕ} (nat_eq j k) 1 0) o 0

    counts_here : (k : ℕ) (b : Bool) (o : Option ℕ) → e.frame ≡ o → nat_eq own k ≡ b → count_at new k + share_of k (page_of_entry old e) ≡ count_at old k + cond {A = ℕ} (nat_eq own k) 1 0
    counts_here k b o f t = grind arith

    used_here : (k : ℕ) (c : Cell) (o : Option ℕ) → e.frame ≡ o → cell_at new k ≡ Some c → 0 < c.count
    used_here k c o f hc = elim (cases_eq k own) [
      | inl same ↦ (let x : ◌≡◌ {A = Option Cell} (Some (record { count = 1; bytes = frame_bytes old e.frame })) (Some c) = sym takes.here ∙ ap (cell_at new) (sym same) ∙ hc in
          let y : 1 ≡ c.count = ap (λ u. option_map_or (λ (z : Cell). z.count) u 0) x in omega (arith, y))
      | inr other ↦ by_frame o f other
    ]
      where
        by_frame : (o : Option ℕ) → e.frame ≡ o → (k ≡ own → ⊥) → 0 < c.count
        by_frame None f other = kept.used k c (sym (takes.others k other (λ g. let x : ◌≡◌ {A = Option ℕ} None (Some k) = sym f ∙ g in cc)) ∙ hc)
        by_frame (Some j) f other = elim (cases_eq j k) [
          | inl same ↦
              let a = takes.count k (f ∙ ap Some same) in
              let b = frame_counted old tables n s p e k kept h (f ∙ ap Some same) in
              let d = not_own_at old e.frame k shared (f ∙ ap Some same) in
              let g : count_at new k ≡ c.count = ap (λ u. option_map_or (λ (z : Cell). z.count) u 0) hc in
              omega (arith, a, b, d, g)
          | inr apart ↦ kept.used k c (sym (takes.others k other (λ g. apart (let x : ◌≡◌ {A = Option ℕ} (Some j) (Some k) = sym f ∙ g in cc))) ∙ hc)
        ]

    pub kept_taken : IsKept new (put_at tables s p (record { prot = e.prot; frame = Some own; writable = true; soft_dirty = true })) n
    kept_taken =
        let there = entry_there old tables s p e h in
        let e' : Entry = record { prot = e.prot; frame = Some own; writable = true; soft_dirty = true } in
        kept_put old new tables n n s p e' (Some (page_of_entry old e)) kept takes.size (alive_at tables s p e h) others there
        (kept.sound.numbers s p (page_of_entry old e) there)
        (λ k. counts_here k (nat_eq own k) e.frame refl refl)
        (λ k c hc. used_here k c e.frame refl hc) refl k_few
        (λ k g. let x : own ≡ k = (let y : ◌≡◌ {A = Option ℕ} (Some own) (Some k) = g in cc) in subst (λ j. j < old.size) x takes.within)
        (λ _.
        let t = total_within-put (share_of own) (contents_of old tables).spaces s p (page_of_entry new e') in
        let a = one_share own (page_of_entry new e') refl in
        let g = total_within_ge (share_of own) (contents_of old tables).spaces s p (page_of_entry old e) there in
        let b : option_map_or (share_of own) (value_at (contents_of old tables).spaces s p) 0 ≡ share_of own (page_of_entry old e) = ap (λ o. option_map_or (share_of own) o 0) there in
        let z = no_member in
        record { soft_dirty = refl; permitted = permitted; alone = is_alone_in (put_page (contents_of old tables) s p (page_of_entry new e')) (page_of_entry new e') own refl (omega (arith, t, a, b, g, z)) })
        (apart_new (contents_of old tables) s p (page_of_entry new e') own refl no_member)

    pub view_taken : contents_of new (put_at tables s p (record { prot = e.prot; frame = Some own; writable = true; soft_dirty = true })) ≡ put_page (contents_of old tables) s p (writable_page (page_of_entry old e) own (frame_bytes old e.frame))
    view_taken =
        let e' : Entry = record { prot = e.prot; frame = Some own; writable = true; soft_dirty = true } in
        view_put old new tables s p takes.size (alive_at tables s p e h) others e'
        ∙ ap (λ (bytes : List ℕ). put_page (contents_of old tables) s p (record { prot = e.prot; bytes = bytes; class = Some own; writable = true; soft_dirty = true })) (ap (λ o. option_map_or (λ (c : Cell). c.bytes) o zeros) takes.here)
