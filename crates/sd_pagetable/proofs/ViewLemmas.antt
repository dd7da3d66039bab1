-- Frames and entries as the contents of a memory, after a change of one entry.
use Rattle.std.proofs.Common.{◌≡◌, ◌⊎◌, ℕ, ◌<◌, ◌≤◌, ◌^◌, Bool, true, false, cond, nat_eq, ◌&&◌, Option, Some, None, refl, sym, ◌∙◌, ap, subst, inl, inr, arith}
use Rattle.std.proofs.lemmas.Bool.Decides.{nat_tests}
use Rattle.std.proofs.lemmas.Bool.{cases_Bool, cond-true, and_from, eq-eqb}
use Rattle.std.specs.Option.{option_map, option_map_or}
use Rattle.sd_tables.specs.declared.entry.Entry.{Entry}
use Rattle.sd_pagetable.specs.Nested.{Nested, value_at, is_alive, put_at, remove_at}
use Rattle.sd_pagetable.specs.Page.{PageState}
use Rattle.sd_pagetable.specs.Contents.{Contents, page_at, put_page, remove_page, members, share_of, is_alone, page_count, IsWritable, IsSound}
use Rattle.sd_frames.specs.Frames.{Pool}
use Rattle.sd_pagetable.specs.View.{page_of_entry, entry_of, contents_of, HasEntry}
use Rattle.sd_pagetable.proofs.TableLemmas.{turned_in, turned_out}
use Rattle.sd_pagetable.proofs.NestedLemmas.{same_nested, value_at-put, value_at-remove, alive-put, alive-remove, alive-put_same, alive_at, value_at-map, alive-map}
use Rattle.sd_pagetable.proofs.TotalLemmas.{total_within-put, total_within-remove, total_within_ge}

pub same_contents : (m n : Contents) → m.pool ≡ n.pool → m.spaces ≡ n.spaces → m ≡ n
same_contents m n a b = λ i. record { pool = a i; spaces = b i }

pub page_at-view : (pool : Pool) (tables : Nested Entry) (s p : ℕ) → page_at (contents_of pool tables) s p ≡ option_map (page_of_entry pool) (value_at tables s p)
page_at-view pool tables s p = value_at-map (page_of_entry pool) tables s p

pub entry_there : (pool : Pool) (tables : Nested Entry) (s p : ℕ) (e : Entry) → value_at tables s p ≡ Some e → page_at (contents_of pool tables) s p ≡ Some (page_of_entry pool e)
entry_there pool tables s p e h = page_at-view pool tables s p ∙ ap (option_map (page_of_entry pool)) h

pub none_there : (pool : Pool) (tables : Nested Entry) (m : Contents) (s p : ℕ) → contents_of pool tables ≡ m → value_at tables s p ≡ None → page_at m s p ≡ None
none_there pool tables m s p v h = ap (λ (n : Contents). page_at n s p) (sym v) ∙ page_at-view pool tables s p ∙ ap (option_map (page_of_entry pool)) h

seen_entry : (pool : Pool) (o : Option Entry) (x : PageState) → option_map (page_of_entry pool) o ≡ Some x → (e : Entry) × (o ≡ Some e) × (page_of_entry pool e ≡ x)
seen_entry pool o x h = grind arith

-- a page of the contents is that of an entry
pub page_entry : (pool : Pool) (tables : Nested Entry) (s p : ℕ) (x : PageState) → page_at (contents_of pool tables) s p ≡ Some x → (e : Entry) × (value_at tables s p ≡ Some e) × (page_of_entry pool e ≡ x)
page_entry pool tables s p x h = seen_entry pool (value_at tables s p) x (sym (page_at-view pool tables s p) ∙ h)

-- a page's entry is the one in the tables
pub entry_seen : (pool : Pool) (tables : Nested Entry) (m : Contents) (s p : ℕ) (e : Entry) → contents_of pool tables ≡ m → HasEntry m s p e → value_at tables s p ≡ Some e
entry_seen pool tables m s p e v h =
    again (value_at tables s p) ∙ ap (option_map entry_of) (sym (page_at-view pool tables s p)) ∙ ap (λ (n : Contents). option_map entry_of (page_at n s p)) v ∙ h
  where
    again : (o : Option Entry) → o ≡ option_map entry_of (option_map (page_of_entry pool) o)
    again None = refl
    again (Some x) = refl

-- a space with a page is alive in the tables
pub alive_at_view : (pool : Pool) (tables : Nested Entry) (m : Contents) (s p : ℕ) (x : PageState) → contents_of pool tables ≡ m → page_at m s p ≡ Some x → is_alive tables s ≡ true
alive_at_view pool tables m s p x v h = grind (arith, page_entry, alive_at)

-- and so is one that was put
pub put_seen : (pool : Pool) (tables : Nested Entry) (s p : ℕ) (e : Entry) → HasEntry (contents_of pool (put_at tables s p e)) s p e
put_seen pool tables s p e =
    ap (option_map entry_of) (entry_there pool (put_at tables s p e) s p e (value_at-put tables s p e s p ∙ cond-true _ _ _ (and_from _ _ (eq-eqb s s refl) (eq-eqb p p refl))))

abbrev pub is_at : ℕ → ℕ → ℕ → ℕ → Bool
is_at s p q r = nat_eq q s && nat_eq r p

-- all other entries are seen as before
abbrev pub SameOthers : Pool → Pool → Nested Entry → ℕ → ℕ → Type 0
SameOthers old new tables s p = (q r : ℕ) (e : Entry) → is_at s p q r ≡ false → value_at tables q r ≡ Some e → page_of_entry new e ≡ page_of_entry old e

module _ (old new : Pool) (tables : Nested Entry) (s p : ℕ) (size : new.size ≡ old.size) (alive : is_alive tables s ≡ true) (others : SameOthers old new tables s p) where
  f : Entry → PageState
  f = page_of_entry old

  same_option : (q r : ℕ) (o : Option Entry) → is_at s p q r ≡ false → value_at tables q r ≡ o → option_map (page_of_entry new) o ≡ option_map (page_of_entry old) o
  same_option q r o a h = grind arith

  other_side : (b : Bool) (x : Option PageState) (u v : Option PageState) → (b ≡ false → u ≡ v) → cond b x u ≡ cond b x v
  other_side b x u v h = grind arith

  pub view_put : (e : Entry) → contents_of new (put_at tables s p e) ≡ put_page (contents_of old tables) s p (page_of_entry new e)
  view_put e = grind (arith, same_contents, same_nested, alive-map, alive-put, value_at-map, value_at-put, turned_in)

  pub view_remove : contents_of new (remove_at tables s p) ≡ remove_page (contents_of old tables) s p
  view_remove = grind (arith, same_contents, same_nested, alive-map, alive-remove, value_at-map, value_at-remove, turned_out)

pub same_pool : (pool : Pool) (tables : Nested Entry) (s p : ℕ) → SameOthers pool pool tables s p
same_pool pool tables s p q r e a h = refl

-- ---- classes
pub one_share : (k : ℕ) (x : PageState) → x.class ≡ Some k → share_of k x ≡ 1
one_share k x h = ap (λ o. option_map_or (λ j. cond (nat_eq j k) 1 0) o 0) h ∙ ap (λ b. cond b 1 0) (eq-eqb k k refl)

-- a page alone in its class has no other page with it
pub alone_apart : (m : Contents) (s p q r : ℕ) (x y : PageState) (k : ℕ) → members m k ≡ 1 → page_at m s p ≡ Some x → page_at m q r ≡ Some y → y.class ≡ Some k → is_at s p q r ≡ false → share_of k x ≡ 0
alone_apart m s p q r x y k one hx hy class apart =
    let left = total_within-remove (share_of k) m.spaces s p in
    let a : option_map_or (share_of k) (value_at m.spaces s p) 0 ≡ share_of k x = ap (λ o. option_map_or (share_of k) o 0) hx in
    let still : value_at (remove_at m.spaces s p) q r ≡ Some y = value_at-remove m.spaces s p q r ∙ ap (λ b. cond b None (value_at m.spaces q r)) apart ∙ hy in
    let b = total_within_ge (share_of k) (remove_at m.spaces s p) q r y still in
    let c = one_share k y class in
    omega (arith, left, a, b, c, one)

alone_class : (m : Contents) (o : Option ℕ) → option_map_or (λ k. nat_eq (members m k) 1) o false ≡ true → (k : ℕ) × (o ≡ Some k) × (members m k ≡ 1)
alone_class m o h = grind arith

pub alone_in : (m : Contents) (x : PageState) → is_alone m x ≡ true → (k : ℕ) × (x.class ≡ Some k) × (members m k ≡ 1)
alone_in m x h = alone_class m x.class h

pub is_alone_in : (m : Contents) (x : PageState) (k : ℕ) → x.class ≡ Some k → members m k ≡ 1 → is_alone m x ≡ true
is_alone_in m x k c one = ap (λ o. option_map_or (λ j. nat_eq (members m j) 1) o false) c ∙ eq-eqb _ _ one

-- ---- one entry changed: what holds of every memory still does
module _ (m : Contents) (sound : IsSound m) (s p : ℕ) (x : PageState) (alive : is_alive m.spaces s ≡ true) where
  at_put : (q r : ℕ) → page_at (put_page m s p x) q r ≡ cond (is_at s p q r) (Some x) (page_at m q r)
  at_put q r = value_at-put m.spaces s p x q r

  either : (q r : ℕ) (y : PageState) → page_at (put_page m s p x) q r ≡ Some y → ((is_at s p q r ≡ true) × (x ≡ y)) ⊎ ((is_at s p q r ≡ false) × (page_at m q r ≡ Some y))
  either q r y h = elim (cases_Bool (is_at s p q r)) [
    | inl t ↦ inl (t, (let f : ◌≡◌ {A = Option PageState} (Some x) (Some y) = sym (ap (λ b. cond b (Some x) (page_at m q r)) t) ∙ sym (at_put q r) ∙ h in cc))
    | inr f ↦ inr (f, sym (ap (λ b. cond b (Some x) (page_at m q r)) f) ∙ sym (at_put q r) ∙ h)
  ]

  -- what an old page there was leaves the classes of other open pages alone
  old_share : (q r : ℕ) (y : PageState) (k : ℕ) (o : Option PageState) → page_at m s p ≡ o → is_at s p q r ≡ false → page_at m q r ≡ Some y → y.class ≡ Some k → members m k ≡ 1 → option_map_or (share_of k) o 0 ≡ 0
  old_share q r y k o h apart hy c one = grind (arith, alone_apart)

  numbers_at : (q r : ℕ) → is_at s p q r ≡ true → (q ≡ s) × (r ≡ p)
  numbers_at q r h = (let e : q ≡ s = grind (arith, nat_tests) in e, let e : r ≡ p = grind (arith, nat_tests) in e)

  pub sound_put : p < 2 ^ 35 → ((k : ℕ) → x.class ≡ Some k → k < m.pool) → page_count (put_at m.spaces s p x) ≤ 65536
      → (x.writable ≡ true → IsWritable (put_page m s p x) x)
      → ((q r : ℕ) (y : PageState) (k : ℕ) → is_at s p q r ≡ false → page_at m q r ≡ Some y → y.writable ≡ true → y.class ≡ Some k → members m k ≡ 1 → share_of k x ≡ 0)
      → IsSound (put_page m s p x)
  sound_put number class few opening apart = record {
    writable = λ q r y h w. elim (either q r y h) [
      | inl here ↦ subst (IsWritable (put_page m s p x)) here.1 (opening (ap (λ (z : PageState). z.writable) here.1 ∙ w))
      | inr there ↦
          let o = sound.writable q r y there.1 w in
          let a = alone_in m y o.alone in
          let b = total_within-put (share_of a.0) m.spaces s p x in
          let e = apart q r y a.0 there.0 there.1 w a.1 a.2 in
          let f = old_share q r y a.0 (page_at m s p) refl there.0 there.1 a.1 a.2 in
          let g = a.2 in
          record { soft_dirty = o.soft_dirty; permitted = o.permitted; alone = is_alone_in (put_page m s p x) y a.0 a.1 (omega (arith, b, e, f, g)) }
    ];
    classes = λ q r y k h c. elim (either q r y h) [
      | inl here ↦ class k (ap (λ (z : PageState). z.class) here.1 ∙ c)
      | inr there ↦ sound.classes q r y k there.1 c
    ];
    spaces = λ q h. sound.spaces q (sym (alive-put_same m.spaces s p x q alive) ∙ h);
    numbers = λ q r y h. elim (either q r y h) [
      | inl here ↦ (let e = (numbers_at q r here.0).1 in omega (arith, e, number))
      | inr there ↦ sound.numbers q r y there.1
    ];
    few = few;
  }
