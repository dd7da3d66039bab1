-- The clears of a space's pages as a history.
use Rattle.std.proofs.Common.{◌≡◌, ◌⊎◌, ◌<◌, ℕ, Bool, true, false, nat_lt, nat_eq, ◌&&◌, ◌||◌, List, [], ◌∷◌, map, Option, Some, None, is_some, IfSome, refl, sym, ◌∙◌, ap, subst, arith, inl, inr}
use Rattle.std.specs.List.{AllByRecursion}
use Rattle.std.specs.Option.{option_map}
use Rattle.std.proofs.lemmas.Bool.Decides.{nat_tests}
use Rattle.sd_pagetable.specs.Page.{PageState}
use Rattle.sd_pagetable.specs.Contents.{Contents, page_at}
use Rattle.sd_pagetable.specs.Tracking.{Step, Cleared, Run}
use Rattle.sd_pagetable.specs.Law.{IsClearedAt}
use Rattle.sd_procfs.specs.Clears.{AreFalling, IsNextIn, lists_page}
use Rattle.sd_procfs.proofs.ClearSteps.{ClearsAfter, is_after_entries, below_is, is_below, is_above}

-- the mapped pages after the cursor were cleared, one after the other
pub record HistoryAfter (cursor : Option ℕ) (space : ℕ) (old now : Contents) (pages : List ℕ) : Type 0 where
  pub falls : AreFalling pages
  pub passed : AllByRecursion (λ page. is_after_entries cursor page ≡ true) pages
  pub each : (page : ℕ) → lists_page pages page ≡ (is_after_entries cursor page && is_some (page_at old space page))
  pub run : Run old (map (Cleared space) pages) now

abbrev pub HasHistoryAfter : Option ℕ → ℕ → Contents → Contents → Type 0
HasHistoryAfter cursor space old now = (pages : List ℕ) × HistoryAfter cursor space old now pages

none_stands_after : (page cursor : ℕ) → cursor ≡ 0 → nat_lt page cursor ≡ false
none_stands_after page cursor zero = grind (arith, nat_tests)

all_mapped : {P Q : ℕ → Type 0} (pages : List ℕ) → ((page : ℕ) → P page → Q page) → AllByRecursion P pages → AllByRecursion Q pages
all_mapped [] f all = tt
all_mapped (page ∷ pages) f all = (f page all.0, all_mapped pages f all.1)

module _ (space page : ℕ) (old now new : Contents) (next : Option ℕ) (was : ClearsAfter (Some page) space old now) (cleared : IsClearedAt space page now new) (least : IsNextIn new space page next) where
  -- the page itself is after the next
  here_behind : is_after_entries next page ≡ true
  here_behind = of next least
    where
      of : (next : Option ℕ) → IsNextIn new space page next → is_after_entries next page ≡ true
      of None least = refl
      of (Some q) least = is_below page q least.0

  -- what is after the page is after the next
  still_behind : (p : ℕ) → p < page → is_after_entries next p ≡ true
  still_behind p below = of next least
    where
      of : (next : Option ℕ) → IsNextIn new space page next → is_after_entries next p ≡ true
      of None least = refl
      of (Some q) least = is_below p q (omega (arith, below, least.0))

  -- no page between the two was mapped
  not_between : (p : ℕ) → page < p → (is_after_entries next p && is_some (page_at old space p)) ≡ false
  not_between p above = of (is_after_entries next p) (page_at old space p) refl refl
    where
      unchanged : page_at new space p ≡ page_at old space p
      unchanged = cleared.others space p (grind (arith, nat_tests)) ∙ was.ahead p (is_above p page (omega (arith, above)))

      of : (behind : Bool) (o : Option PageState) → is_after_entries next p ≡ behind → page_at old space p ≡ o → (behind && is_some o) ≡ false
      of behind o e f = grind arith

  order : (p : ℕ) → (p < page) ⊎ ((p ≡ page) ⊎ (page < p))
  order p = grind arith

  -- one page more is after the next, if it was mapped
  more : (mapped : Bool) → is_some (page_at old space page) ≡ mapped → (p : ℕ) → (is_after_entries next p && is_some (page_at old space p)) ≡ ((nat_eq page p && mapped) || (nat_lt p page && is_some (page_at old space p)))
  more mapped e p = elim (order p) [
    | inl below ↦ with_below (is_after_entries next p) (nat_eq page p) mapped (nat_lt p page) (is_some (page_at old space p)) (still_behind p below) (not_equal p (inl below)) (is_below p page below)
    | inr (inl same) ↦ with_same (is_after_entries next p) (nat_eq page p) mapped (nat_lt p page) (is_some (page_at old space p))
        (ap (is_after_entries next) same ∙ here_behind) (equal p same) (is_above p page (omega (arith, same))) (ap (λ q. is_some (page_at old space q)) same ∙ e)
    | inr (inr above) ↦ with_above _ (nat_eq page p) mapped (nat_lt p page) (is_some (page_at old space p)) (not_between p above) (not_equal p (inr above)) (is_above p page (omega (arith, above)))
  ]
    where
      not_equal : (p : ℕ) → (p < page) ⊎ (page < p) → nat_eq page p ≡ false
      not_equal p (inl below) = grind (arith, nat_tests)
      not_equal p (inr above) = grind (arith, nat_tests)

      equal : (p : ℕ) → p ≡ page → nat_eq page p ≡ true
      equal p same = grind (arith, nat_tests)

      with_below : (behind is_page mapped lower some : Bool) → behind ≡ true → is_page ≡ false → lower ≡ true → (behind && some) ≡ ((is_page && mapped) || (lower && some))
      with_below behind is_page mapped lower some b q l = ap (λ x. x && some) b ∙ sym (ap (λ x. (x && mapped) || (lower && some)) q ∙ ap (λ x. x && some) l)

      both : (mapped : Bool) → mapped ≡ (mapped || false)
      both mapped = grind arith

      with_same : (behind is_page mapped lower some : Bool) → behind ≡ true → is_page ≡ true → lower ≡ false → some ≡ mapped → (behind && some) ≡ ((is_page && mapped) || (lower && some))
      with_same behind is_page mapped lower some b q l e = ap (λ x. x && some) b ∙ e ∙ both mapped ∙ sym (ap (λ x. (x && mapped) || (lower && some)) q ∙ ap (λ x. mapped || (x && some)) l)

      with_above : (behind_some is_page mapped lower some : Bool) → behind_some ≡ false → is_page ≡ false → lower ≡ false → behind_some ≡ ((is_page && mapped) || (lower && some))
      with_above behind_some is_page mapped lower some b q l = b ∙ sym (ap (λ x. (x && mapped) || (lower && some)) q ∙ ap (λ x. x && some) l)

  -- it was mapped before exactly where it is mapped now
  was_here : page_at old space page ≡ page_at now space page
  was_here = sym (was.ahead page (is_above page page (omega arith)))

  longer : (mapped : Bool) → is_some (page_at old space page) ≡ mapped → (mapped ≡ true → Step now (Cleared space page) new) → (mapped ≡ false → new ≡ now)
      → HasHistoryAfter (Some page) space old now → HasHistoryAfter next space old new
  longer true e step same (pages, h) = (
    page ∷ pages,
    record {
      falls = (all_mapped pages (λ q l. below_is q page l) h.passed, h.falls);
      passed = (here_behind, all_mapped pages (λ q l. still_behind q (below_is q page l)) h.passed);
      each = λ p. ap (λ b. nat_eq page p || b) (h.each p) ∙ one_more (nat_eq page p) (nat_lt p page && is_some (page_at old space p)) ∙ sym (more true e p);
      run = (now, h.run, step refl);
    },
  )
    where
      one_more : (x y : Bool) → (x || y) ≡ ((x && true) || y)
      one_more true y = refl
      one_more false y = refl
  longer false e step same (pages, h) = (
    pages,
    record {
      falls = h.falls;
      passed = all_mapped pages (λ q l. still_behind q (below_is q page l)) h.passed;
      each = λ p. h.each p ∙ none_more (nat_eq page p) (nat_lt p page && is_some (page_at old space p)) ∙ sym (more false e p);
      run = subst (Run old (map (Cleared space) pages)) (sym (same refl)) h.run;
    },
  )
    where
      none_more : (x y : Bool) → y ≡ ((x && false) || y)
      none_more true y = refl
      none_more false y = refl

  pub longer_history : (result : Option Bool) → result ≡ option_map (λ (p : PageState). p.soft_dirty) (page_at now space page)
      → IfSome result (λ _. Step now (Cleared space page) new) → (result ≡ None → new ≡ now)
      → HasHistoryAfter (Some page) space old now → HasHistoryAfter next space old new
  longer_history (Some bit) bits step none = longer true (ap is_some was_here ∙ some_mapped (page_at now space page) bits) (λ _. step) (λ e. absurd (let f : true ≡ false = e in cc))
    where
      some_mapped : (o : Option PageState) → Some bit ≡ option_map (λ (p : PageState). p.soft_dirty) o → is_some o ≡ true
      some_mapped None e = absurd (let f : Some bit ≡ None = e in cc)
      some_mapped (Some x) e = refl
  longer_history None bits step none = longer false (ap is_some was_here ∙ none_mapped (page_at now space page) bits) (λ e. absurd (let f : false ≡ true = e in cc)) (λ _. none refl)
    where
      none_mapped : (o : Option PageState) → None ≡ option_map (λ (p : PageState). p.soft_dirty) o → is_some o ≡ false
      none_mapped None e = refl
      none_mapped (Some x) e = absurd (let f : None ≡ Some x.soft_dirty = e in cc)
