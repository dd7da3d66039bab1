-- Clearing a space's pages, one after the other.
use Rattle.std.proofs.Common.{◌≡◌, ◌≢◌, ◌⊎◌, ◌<◌, ◌≤◌, ◌-◌, ◌^◌, ℕ, Bool, true, false, nat_lt, Option, Some, None, IsSome, IfSome, refl, sym, ◌∙◌, ap, arith, inl, inr}
use Rattle.std.specs.Option.{option_map}
use Rattle.std.proofs.lemmas.Bool.{cases_Bool}
use Rattle.std.proofs.lemmas.Bool.Decides.{nat_tests}
use Rattle.sd_pagetable.specs.Nested.{is_alive}
use Rattle.sd_pagetable.specs.Page.{PageState, cleared_page}
use Rattle.sd_pagetable.specs.Contents.{Contents, page_at}
use Rattle.sd_pagetable.specs.Tracking.{Step, Cleared, is_page}
use Rattle.sd_pagetable.specs.Law.{IsClearedAt, ClearLaw}
use Rattle.sd_procfs.specs.Clears.{IsNextIn}

-- whether a page was passed: those before the cursor, or all
abbrev pub is_after_entries : Option ℕ → ℕ → Bool
is_after_entries None page = true
is_after_entries (Some cursor) page = nat_lt page cursor

-- the pages after the cursor are cleared, and nothing else changed
pub record ClearsAfter (cursor : Option ℕ) (space : ℕ) (old now : Contents) : Type 0 where
  pub pool : now.pool ≡ old.pool
  pub alive : (other : ℕ) → is_alive now.spaces other ≡ is_alive old.spaces other
  pub behind : (page : ℕ) → is_after_entries cursor page ≡ true → page_at now space page ≡ option_map cleared_page (page_at old space page)
  pub ahead : (page : ℕ) → is_after_entries cursor page ≡ false → page_at now space page ≡ page_at old space page
  pub others : (other page : ℕ) → other ≢ space → page_at now other page ≡ page_at old other page

-- how far the cursor is from the end
abbrev pub way_left : Option ℕ → ℕ
way_left None = 0
way_left (Some page) = 2 ^ 35 - page

never_below : (p n : ℕ) → n ≡ 0 → nat_lt p n ≡ true → ⊥
never_below p n zero below = grind (arith, nat_tests)

pub starts : (cursor : Option ℕ) (space : ℕ) (memory : Contents) → IsSome cursor → IfSome cursor (λ page. page ≡ 0) → ClearsAfter cursor space memory memory
starts cursor space memory some given = grind arith

-- a test and clear, also of a page that isn't mapped
pub tested : ClearLaw → (result : Option Bool) (space page : ℕ) (old new : Contents) → result ≡ option_map (λ (p : PageState). p.soft_dirty) (page_at old space page)
    → IfSome result (λ _. Step old (Cleared space page) new) → (result ≡ None → new ≡ old) → IsClearedAt space page old new
tested law (Some bit) space page old new bits step none = law old new space page step
tested law None space page old new bits step none = record {
  pool = ap (λ (m : Contents). m.pool) (none refl);
  alive = λ other. ap (λ (m : Contents). is_alive m.spaces other) (none refl);
  here = unmapped (page_at old space page) (page_at new space page) bits (ap (λ (m : Contents). page_at m space page) (none refl));
  others = λ other p apart. ap (λ (m : Contents). page_at m other p) (none refl);
}
  where
    unmapped : (was is : Option PageState) → None ≡ option_map (λ (p : PageState). p.soft_dirty) was → is ≡ was → is ≡ option_map cleared_page was
    unmapped None is bits same = same
    unmapped (Some p) is bits same = absurd (let f : None ≡ Some p.soft_dirty = bits in cc)

same_page : (space page p : ℕ) → p ≡ page → (p ≢ page → ⊥)
same_page space page p is differs = differs is

apart_in : (space page p : ℕ) → p ≢ page → is_page space page space p ≡ false
apart_in space page p differs = grind (arith, nat_tests)

apart_from : (space page other p : ℕ) → other ≢ space → is_page space page other p ≡ false
apart_from space page other p differs = grind (arith, nat_tests)

pub not_mapped : (o : Option PageState) → (IsSome o → ⊥) → o ≡ None
not_mapped o none = grind arith

pub below_is : (p n : ℕ) → nat_lt p n ≡ true → p < n
below_is p n below = grind (arith, nat_tests)

pub above_is : (p n : ℕ) → nat_lt p n ≡ false → n ≤ p
above_is p n above = grind (arith, nat_tests)

pub is_below : (p n : ℕ) → p < n → nat_lt p n ≡ true
is_below p n below = grind (arith, nat_tests)

pub is_above : (p n : ℕ) → n ≤ p → nat_lt p n ≡ false
is_above p n above = grind (arith, nat_tests)

-- a page after the one that was just cleared, before the next
pub between : (next : Option ℕ) (memory : Contents) (space page p : ℕ) → IsNextIn memory space page next → page < p → is_after_entries next p ≡ true → IsSome (page_at memory space p) → ⊥
between next memory space page p least above behind mapped = grind arith

module _ (space page : ℕ) (old now new : Contents) (was : ClearsAfter (Some page) space old now) (cleared : IsClearedAt space page now new) where
  same_in : (p : ℕ) → p ≢ page → page_at new space p ≡ page_at now space p
  same_in p differs = cleared.others space p (apart_in space page p differs)

  passed : (next : Option ℕ) → IsNextIn new space page next → (p : ℕ) → is_after_entries next p ≡ true → page_at new space p ≡ option_map cleared_page (page_at old space p)
  passed next least p behind = elim (cases_order p page) [
    | inl below ↦ same_in p (λ e. omega (arith, below, e)) ∙ was.behind p (is_below p page below)
    | inr (inl e) ↦ ap (page_at new space) e ∙ cleared.here ∙ ap (option_map cleared_page) (was.ahead page (is_above page page (omega arith)) ∙ ap (page_at old space) (sym e))
    | inr (inr above) ↦
        let none : page_at new space p ≡ None = not_mapped (page_at new space p) (between next new space page p least above behind) in
        none ∙ ap (option_map cleared_page) (sym none ∙ same_in p (λ e. omega (arith, above, e)) ∙ was.ahead p (is_above p page (omega (arith, above))))
  ]
    where
      cases_order : (a b : ℕ) → (a < b) ⊎ ((a ≡ b) ⊎ (b < a))
      cases_order a b = elim (cases_Bool (nat_lt a b)) [
        | inl t ↦ inl (below_is a b t)
        | inr f ↦ elim (cases_Bool (nat_lt b a)) [
          | inl t ↦ inr (inr (below_is b a t))
          | inr g ↦ inr (inl (omega (arith, above_is a b f, above_is b a g)))
        ]
      ]

  not_passed : (next : Option ℕ) → IsNextIn new space page next → (p : ℕ) → is_after_entries next p ≡ false → page_at new space p ≡ page_at old space p
  not_passed next least p ahead = grind arith

  pub one_more : (next : Option ℕ) → IsNextIn new space page next → ClearsAfter next space old new
  one_more next least = record {
    pool = cleared.pool ∙ was.pool;
    alive = λ other. cleared.alive other ∙ was.alive other;
    behind = passed next least;
    ahead = not_passed next least;
    others = λ other p differs. cleared.others other p (apart_from space page other p differs) ∙ was.others other p differs;
  }
