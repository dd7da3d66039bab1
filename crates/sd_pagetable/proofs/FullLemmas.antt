-- When the classes are as many as the frames.
use Rattle.std.proofs.Common.{◌≡◌, ◌⊎◌, ℕ, zero, suc, ◌+◌, ◌<◌, ◌≤◌, Bool, true, false, not, cond, nat_eq, nat_lt, ◌&&◌, ◌∷◌, length, Option, Some, None, refl, sym, ◌∙◌, ap, subst, inl, inr, arith, filter}
use Rattle.std.proofs.lemmas.Bool.{cases_eq, eq-eqb, ne_eqb, lt-ltb, le-ltb, cond-true, cond-false, not_from_true, not_from_false, and_from, and_left, and_right}
use Rattle.std.specs.List.{range_with_len}
use Rattle.std.specs.Option.{option_map_or}
use Rattle.sd_tables.specs.declared.entry.Entry.{Entry}
use Rattle.sd_pagetable.specs.declared.access_error.AccessError.TheVariants.{Refused}
use Rattle.sd_pagetable.specs.declared.memory_refusal.MemoryRefusal.TheVariants.{NoFrame}
use Rattle.sd_pagetable.specs.Nested.{Nested, value_at, put_at}
use Rattle.sd_pagetable.specs.Page.{writable_page}
use Rattle.sd_pagetable.specs.Contents.{Contents, page_at, put_page, members, is_full, is_alone}
use Rattle.sd_frames.specs.Frames.{Pool, Cell, count_at, IsExhausted, HasFree, frame_bytes}
use Rattle.sd_pagetable.specs.View.{page_of_entry, contents_of, IsKept}
use Rattle.sd_pagetable.specs.Owning.{is_own, OwnsFrame}
use Rattle.sd_pagetable.specs.Tracking.{MakesWritable}
use Rattle.sd_pagetable.specs.RefusalOrder.{frame_refusal, needs_frame}
use Rattle.sd_pagetable.proofs.NestedLemmas.{alive_at}
use Rattle.sd_pagetable.proofs.TableLemmas.{some_of}
use Rattle.sd_pagetable.proofs.ViewLemmas.{view_put, same_pool, entry_there}
use Rattle.sd_pagetable.proofs.WritableLemmas.{kept_own, kept_taken, view_taken, own_at, no_member}

kept_all : (p : ℕ → Bool) (a n : ℕ) → ((k : ℕ) → a ≤ k → k < a + n → p k ≡ true) → length (filter p (range_with_len a n)) ≡ n
kept_all p a zero h = refl
kept_all p a (suc n) h = ap (λ b. length (cond b (a ∷ filter p (range_with_len (a + 1) n)) (filter p (range_with_len (a + 1) n)))) (h a (omega arith) (omega arith)) ∙ ap suc (kept_all p (a + 1) n (λ k l g. h k (omega arith) (omega arith)))

kept_some : (p : ℕ → Bool) (a n : ℕ) → length (filter p (range_with_len a n)) ≤ n
kept_some p a zero = omega arith
kept_some p a (suc n) = one (p a) (kept_some p (a + 1) n)
  where
    one : (b : Bool) → length (filter p (range_with_len (a + 1) n)) ≤ n → length (cond b (a ∷ filter p (range_with_len (a + 1) n)) (filter p (range_with_len (a + 1) n))) ≤ suc n
    one true l = omega arith
    one false l = omega arith

kept_fewer : (p : ℕ → Bool) (a n k : ℕ) → a ≤ k → k < a + n → p k ≡ false → length (filter p (range_with_len a n)) < n
kept_fewer p a zero k l g f = absurd (omega arith)
kept_fewer p a (suc n) k l g f = elim (cases_eq k a) [
  | inl here ↦ (let e : length (cond (p a) (a ∷ filter p (range_with_len (a + 1) n)) (filter p (range_with_len (a + 1) n))) ≡ length (filter p (range_with_len (a + 1) n)) = ap (λ b. length (cond b (a ∷ filter p (range_with_len (a + 1) n)) (filter p (range_with_len (a + 1) n)))) (ap p (sym here) ∙ f) in
      let m = kept_some p (a + 1) n in omega (arith, e, m))
  | inr later ↦ one (p a) (kept_fewer p (a + 1) n k (omega arith) (omega arith) f)
]
  where
    one : (b : Bool) → length (filter p (range_with_len (a + 1) n)) < n → length (cond b (a ∷ filter p (range_with_len (a + 1) n)) (filter p (range_with_len (a + 1) n))) < suc n
    one true l = omega arith
    one false l = omega arith

module _ (pool : Pool) (tables : Nested Entry) (n : ℕ) (kept : IsKept pool tables n) where
  pub full_exhausted : IsExhausted pool → is_full (contents_of pool tables) ≡ true
  full_exhausted h = grind (arith, eq-eqb, kept_all, lt-ltb, some_of)

  pub room_free : HasFree pool → is_full (contents_of pool tables) ≡ false
  room_free h = ne_eqb _ _ (λ e.
      let a : count_at pool h.0 ≡ 0 = ap (λ o. option_map_or (λ (z : Cell). z.count) o 0) h.2 in
      let b = kept.counts h.0 in
      let l = kept_fewer (λ k. nat_lt 0 (members (contents_of pool tables) k)) 0 pool.size h.0 (omega arith) (let g = h.1 in omega arith) (le-ltb 0 _ (omega (arith, a, b))) in
      omega (arith, e, l))

  pub own_alone : (frame : Option ℕ) → is_own pool frame ≡ option_map_or (λ k. nat_eq (members (contents_of pool tables) k) 1) frame false
  own_alone frame = grind arith

  module _ (s p : ℕ) (e : Entry) (h : value_at tables s p ≡ Some e) (m : Contents) (v : contents_of pool tables ≡ m) where
    there : page_at m s p ≡ Some (page_of_entry pool e)
    there = ap (λ (z : Contents). page_at z s p) (sym v) ∙ entry_there pool tables s p e h

    due_is : frame_refusal m (page_at m s p) ≡ cond (not (is_own pool e.frame) && is_full m) (Some (Refused NoFrame)) None
    due_is = ap (frame_refusal m) there ∙ ap (λ (z : Contents). cond (not (is_alone z (page_of_entry pool e)) && is_full m) (Some (Refused NoFrame)) None) (sym v) ∙ ap (λ b. cond (not b && is_full m) (Some (Refused NoFrame)) None) (sym (own_alone e.frame))

    -- it needs a frame where its own is none or shared
    pub needs_is : is_own pool e.frame ≡ false → needs_frame m (page_at m s p) ≡ true
    needs_is own = ap (needs_frame m) there ∙ ap (λ (z : Contents). not (is_alone z (page_of_entry pool e))) (sym v) ∙ ap not (sym (own_alone e.frame)) ∙ ap not own

    pub due_room : (is_own pool e.frame ≡ true) ⊎ HasFree pool → frame_refusal m (page_at m s p) ≡ None
    due_room (inl own) = due_is ∙ cond-false _ _ _ (and_left _ _ (not_from_true _ own))
    due_room (inr free) = due_is ∙ cond-false _ _ _ (and_right _ _ (ap is_full (sym v) ∙ room_free free))

    pub due_full : is_own pool e.frame ≡ false → IsExhausted pool → frame_refusal m (page_at m s p) ≡ Some (Refused NoFrame)
    due_full own h = due_is ∙ cond-true _ _ _ (and_from _ _ (not_from_false _ own) (ap is_full (sym v) ∙ full_exhausted h))

    pub makes_page_writable : (new : Pool) (own : ℕ) → e.prot.write ≡ true → OwnsFrame pool new e.frame own →
        IsKept new (put_at tables s p (record { prot = e.prot; frame = Some own; writable = true; soft_dirty = true })) n
        × MakesWritable m s p (λ bytes. bytes) (contents_of new (put_at tables s p (record { prot = e.prot; frame = Some own; writable = true; soft_dirty = true })))
    makes_page_writable new own w (inl keeps) =
        let e' : Entry = record { prot = e.prot; frame = Some own; writable = true; soft_dirty = true } in
        let one = own_at pool e.frame own keeps.0 keeps.1 in (
          subst (λ (q : Pool). IsKept q (put_at tables s p e') n) (sym keeps.2) (kept_own pool tables n s p e own kept h w keeps.1 one),
          (
            page_of_entry pool e,
            own,
            there,
            inl (ap (λ (z : Contents). is_alone z (page_of_entry pool e)) (sym v) ∙ sym (own_alone e.frame) ∙ keeps.0, keeps.1),
            ap (λ (q : Pool). contents_of q (put_at tables s p e')) keeps.2 ∙ view_put pool pool tables s p refl (alive_at tables s p e h) (same_pool pool tables s p) e'
                ∙ ap (λ (f : Option ℕ). put_page (contents_of pool tables) s p (record { prot = e.prot; bytes = frame_bytes pool f; class = Some own; writable = true; soft_dirty = true })) (sym keeps.1)
                ∙ ap (λ (z : Contents). put_page z s p (writable_page (page_of_entry pool e) own (frame_bytes pool e.frame))) v,
          ),
        )
    makes_page_writable new own w (inr (shared, takes)) = (
      kept_taken pool tables n s p e own kept h w new shared takes,
      (
        page_of_entry pool e,
        own,
        there,
        inr (
          ap (λ (z : Contents). is_alone z (page_of_entry pool e)) (sym v) ∙ sym (own_alone e.frame) ∙ shared,
          ap (λ (z : Contents). members z own) (sym v) ∙ no_member pool tables n s p e own kept h w new shared takes,
          subst (λ (z : Contents). own < z.pool) v takes.within,
        ),
        view_taken pool tables n s p e own kept h w new shared takes ∙ ap (λ (z : Contents). put_page z s p (writable_page (page_of_entry pool e) own (frame_bytes pool e.frame))) v,
      ),
    )
