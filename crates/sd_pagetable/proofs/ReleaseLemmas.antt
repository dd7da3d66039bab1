-- What is kept where an entry gives its frame up.
use Rattle.std.proofs.Common.{◌≡◌, ℕ, ◌+◌, ◌-◌, ◌<◌, ◌≤◌, false, cond, nat_eq, List, Option, Some, None, refl, sym, ◌∙◌, ap, subst, inl, inr, arith}
use Rattle.std.proofs.lemmas.Bool.{cases_Bool, cases_eq, both_ways}
use Rattle.std.specs.Option.{option_map_or}
use Rattle.sd_tables.specs.declared.entry.Entry.{Entry}
use Rattle.sd_pagetable.specs.Nested.{Nested, value_at, put_at, remove_at}
use Rattle.sd_pagetable.specs.Page.{PageState, zeros}
use Rattle.sd_pagetable.specs.Contents.{Contents, page_at, put_page, remove_page, members, share_of, page_count, IsSound}
use Rattle.sd_frames.specs.Frames.{Pool, Cell, cell_at, count_at, cell_bytes, frame_bytes}
use Rattle.sd_pagetable.specs.View.{page_of_entry, contents_of, IsKept}
use Rattle.sd_pagetable.specs.Owning.{ReleasesFrame}
use Rattle.sd_pagetable.proofs.NestedLemmas.{alive_at, alive-remove_same, value_at-remove}
use Rattle.sd_pagetable.proofs.TotalLemmas.{total_within-remove}
use Rattle.sd_pagetable.proofs.ViewLemmas.{view_put, view_remove, SameOthers, is_at, entry_there, alone_in, is_alone_in, alone_apart, one_share}
use Rattle.sd_pagetable.proofs.KeptLemmas.{kept_put, apart_none, one_page}

module _ (old new : Pool) (tables : Nested Entry) (n s p : ℕ) (e : Entry) (kept : IsKept old tables n) (h : value_at tables s p ≡ Some e) (released : ReleasesFrame old new e.frame) where
  -- a frame that another entry has keeps its bytes
  rest_bytes : (k q r : ℕ) (y : Entry) (o : Option ℕ) → e.frame ≡ o → is_at s p q r ≡ false → value_at tables q r ≡ Some y → y.frame ≡ Some k → cell_bytes new k ≡ cell_bytes old k
  rest_bytes k q r y None f apart hy fy = ap (λ u. option_map_or (λ (c : Cell). c.bytes) u zeros) (released.others k (λ g. let x : ◌≡◌ {A = Option ℕ} None (Some k) = sym f ∙ g in cc))
  rest_bytes k q r y (Some j) f apart hy fy = elim (cases_eq j k) [
    | inl same ↦ released.bytes k (f ∙ ap Some same) (λ one.
        let a = alone_apart (contents_of old tables) s p q r (page_of_entry old e) (page_of_entry old y) k (sym (kept.counts k) ∙ one) (entry_there old tables s p e h) (entry_there old tables q r y hy) fy apart in
        let b = one_share k (page_of_entry old e) (f ∙ ap Some same) in
        absurd (omega (arith, a, b)))
    | inr other ↦ ap (λ u. option_map_or (λ (c : Cell). c.bytes) u zeros) (released.others k (λ g. other (let x : ◌≡◌ {A = Option ℕ} (Some j) (Some k) = sym f ∙ g in cc)))
  ]

  rest_frame : (q r : ℕ) (y : Entry) (o : Option ℕ) → y.frame ≡ o → is_at s p q r ≡ false → value_at tables q r ≡ Some y → frame_bytes new o ≡ frame_bytes old o
  rest_frame q r y None f apart hy = refl
  rest_frame q r y (Some k) f apart hy = rest_bytes k q r y e.frame refl apart hy f

  pub rest_same : SameOthers old new tables s p
  rest_same q r y apart hy = ap (λ (bytes : List ℕ). record { prot = y.prot; bytes = bytes; class = y.frame; writable = y.writable; soft_dirty = y.soft_dirty }) (rest_frame q r y y.frame refl apart hy)

  counts_less : (k : ℕ) (o : Option ℕ) → e.frame ≡ o → count_at new k + share_of k (page_of_entry old e) ≡ count_at old k
  counts_less k o f = grind arith

  used_left : (k : ℕ) (c : Cell) (o : Option ℕ) → e.frame ≡ o → cell_at new k ≡ Some c → 0 < c.count
  used_left k c o f hc = grind arith

  few_here : n ≤ 65536
  few_here = (let a = kept.mapped in let b = kept.sound.few in omega (arith, a, b))

  -- the page is mapped anew
  pub kept_renewed : (e' : Entry) → e'.frame ≡ None → e'.writable ≡ false → IsKept new (put_at tables s p e') n
  kept_renewed e' none closed =
      let there = entry_there old tables s p e h in
      kept_put old new tables n n s p e' (Some (page_of_entry old e)) kept released.size (alive_at tables s p e h) rest_same there
      (kept.sound.numbers s p (page_of_entry old e) there)
      (λ k. let a = counts_less k e.frame refl in let b : share_of k (page_of_entry new e') ≡ 0 = ap (λ o. option_map_or (λ j. cond {A = ℕ} (nat_eq j k) 1 0) o 0) none in omega (arith, a, b))
      (λ k c hc. used_left k c e.frame refl hc) refl few_here
      (λ k f. absurd (let g : ◌≡◌ {A = Option ℕ} None (Some k) = sym none ∙ f in cc))
      (λ t. absurd (both_ways e'.writable closed t))
      (apart_none (contents_of old tables) s p (page_of_entry new e') none)

  pub view_renewed : (e' : Entry) → contents_of new (put_at tables s p e') ≡ put_page (contents_of old tables) s p (page_of_entry new e')
  view_renewed e' = view_put old new tables s p released.size (alive_at tables s p e h) rest_same e'

  pub view_removed : contents_of new (remove_at tables s p) ≡ remove_page (contents_of old tables) s p
  view_removed = view_remove old new tables s p released.size (alive_at tables s p e h) rest_same

-- ---- a page that is gone
module _ (m : Contents) (sound : IsSound m) (s p : ℕ) (x : PageState) (there : page_at m s p ≡ Some x) where
  left_at : (q r : ℕ) → page_at (remove_page m s p) q r ≡ cond (is_at s p q r) None (page_at m q r)
  left_at q r = value_at-remove m.spaces s p q r

  left : (q r : ℕ) (y : PageState) → page_at (remove_page m s p) q r ≡ Some y → (is_at s p q r ≡ false) × (page_at m q r ≡ Some y)
  left q r y h = elim (cases_Bool (is_at s p q r)) [
    | inl t ↦ absurd (let f : ◌≡◌ {A = Option PageState} None (Some y) = sym (left_at q r ∙ ap (λ b. cond b None (page_at m q r)) t) ∙ h in cc)
    | inr f ↦ (f, sym (left_at q r ∙ ap (λ b. cond b None (page_at m q r)) f) ∙ h)
  ]

  before_weight : (w : PageState → ℕ) → option_map_or w (value_at m.spaces s p) 0 ≡ w x
  before_weight w = ap (λ o. option_map_or w o 0) there

  pub sound_removed : IsSound (remove_page m s p)
  sound_removed = record {
    writable = λ q r y h w.
        let l = left q r y h in
        let o = sound.writable q r y l.1 w in
        let a = alone_in m y o.alone in
        let b = total_within-remove (share_of a.0) m.spaces s p in
        let d = before_weight (share_of a.0) in
        let z = alone_apart m s p q r x y a.0 a.2 there l.1 a.1 l.0 in
        let g = a.2 in
        record { soft_dirty = o.soft_dirty; permitted = o.permitted; alone = is_alone_in (remove_page m s p) y a.0 a.1 (omega (arith, b, d, z, g)) };
    classes = λ q r y k h c. sound.classes q r y k (left q r y h).1 c;
    spaces = λ q h. sound.spaces q (sym (alive-remove_same m.spaces s p q (alive_at m.spaces s p x there)) ∙ h);
    numbers = λ q r y h. sound.numbers q r y (left q r y h).1;
    few = (let a = total_within-remove one_page m.spaces s p in let b = sound.few in omega (arith, a, b));
  }

pub kept_removed : (old new : Pool) (tables : Nested Entry) (n s p : ℕ) (e : Entry) → IsKept old tables n → value_at tables s p ≡ Some e → ReleasesFrame old new e.frame → (0 < n) × IsKept new (remove_at tables s p) (n - 1)
kept_removed old new tables n s p e kept h released =
    let m = contents_of old tables in
    let x = page_of_entry old e in
    let there = entry_there old tables s p e h in
    let v = view_removed old new tables n s p e kept h released in
    let pages = total_within-remove one_page m.spaces s p in
    let one = before_weight m kept.sound s p x there one_page in
    let mapped = kept.mapped in
    let total : n ≡ page_count (remove_page m s p).spaces + 1 = omega (arith, pages, one, mapped) in (
      omega (arith, total),
      record {
        sound = subst IsSound (sym v) (sound_removed m kept.sound s p x there);
        counts = λ k.
            let a = total_within-remove (share_of k) m.spaces s p in
            let b = before_weight m kept.sound s p x there (share_of k) in
            let c = counts_less old new tables n s p e kept h released k e.frame refl in
            let d = kept.counts k in
            let f : members (contents_of new (remove_at tables s p)) k ≡ members (remove_page m s p) k = ap (λ (z : Contents). members z k) v in
            omega (arith, a, b, c, d, f);
        used = λ k c hc. used_left old new tables n s p e kept h released k c e.frame refl hc;
        mapped = (let g : page_count (contents_of new (remove_at tables s p)).spaces ≡ page_count (remove_page m s p).spaces = ap (λ (z : Contents). page_count z.spaces) v in omega (arith, total, g));
      },
    )
