-- What differs in a space, part by part, and in all spaces, one after the other.
use Rattle.std.proofs.Common.{◌≡◌, ◌⊎◌, ◌+◌, ◌<◌, ◌≤◌, ℕ, List, [], Contains, Option, None, refl, sym, ◌∙◌, subst, inl, inr, arith}
use Rattle.std.specs.Prelude.{◌↔◌}
use Rattle.sd_areas.specs.declared.prot.Prot.{Prot}
use Rattle.sd_restore.specs.declared.placed_run.PlacedRun.{PlacedRun}
use Rattle.sd_diff.specs.declared.part.Part.{Part}
use Rattle.sd_diff.specs.declared.difference.Difference.{Difference}
use Rattle.sd_diff.specs.Difference.{Adds, IsBetween, IsChange, IsWritten}
use Rattle.sd_diff.specs.Held.{AreRising, Held, held_at, held_in}
use Rattle.sd_diff.specs.Parts.{IsPart}
use Rattle.sd_diff.specs.Spaces.{AreDifferences, IsNumbered}
use Rattle.sd_diff.proofs.ListLemmas.{below_or}

-- ---- what was put twice

-- of the pages from one on, some were put, and then those after
put_both : {Old Mid New P : Type 0} (space from mid to at page : ℕ) → from ≤ mid → mid ≤ to
    → (Mid ↔ (Old ⊎ (IsBetween space from mid at page × P))) → (New ↔ (Mid ⊎ (IsBetween space mid to at page × P))) → New ↔ (Old ⊎ (IsBetween space from to at page × P))
put_both space from mid to at page low high first second = (
  λ h. elim (second.0 h) [
    | inl g ↦ elim (first.0 g) [
      | inl l ↦ inl l
      | inr both ↦ (let end = both.0.to_is in inr (record { space_is = both.0.space_is; from_is = both.0.from_is; to_is = omega (arith, end, high) }, both.1))
    ]
    | inr both ↦ (let begin = both.0.from_is in inr (record { space_is = both.0.space_is; from_is = omega (arith, begin, low); to_is = both.0.to_is }, both.1))
  ],
  λ h. elim h [
    | inl l ↦ second.1 (inl (first.1 (inl l)))
    | inr both ↦ elim (below_or page mid) [
      | inl less ↦ second.1 (inl (first.1 (inr (record { space_is = both.0.space_is; from_is = both.0.from_is; to_is = less }, both.1))))
      | inr more ↦ second.1 (inr (record { space_is = both.0.space_is; from_is = more; to_is = both.0.to_is }, both.1))
    ]
  ],
)

pub adds_both : (contents : List (List ℕ)) (space from mid to : ℕ) (before after : ℕ → Option Held) (a b c : Difference) → from ≤ mid → mid ≤ to
    → Adds contents space from mid before after a b → Adds contents space mid to before after b c → Adds contents space from to before after a c
adds_both contents space from mid to before after a b c low high first second = record {
  areas = λ at page was is. put_both space from mid to at page low high (first.areas at page was is) (second.areas at page was is);
  written = λ at page. put_both space from mid to at page low high (first.written at page) (second.written at page);
}

-- what is so of these pages is so of the same pages
put_same : {Old New P Q : Type 0} (space from to at page : ℕ) → (from ≤ page → page < to → (P ↔ Q)) → (New ↔ (Old ⊎ (IsBetween space from to at page × P))) → New ↔ (Old ⊎ (IsBetween space from to at page × Q))
put_same space from to at page same put = (
  λ h. elim (put.0 h) [
    | inl g ↦ inl g
    | inr both ↦ inr (both.0, (same both.0.from_is both.0.to_is).0 both.1)
  ],
  λ h. elim h [
    | inl g ↦ put.1 (inl g)
    | inr both ↦ put.1 (inr (both.0, (same both.0.from_is both.0.to_is).1 both.1))
  ],
)

-- where pages lie alike, what was put for the ones was put for the others
pub adds_alike : (contents : List (List ℕ)) (space from to : ℕ) (before after others next : ℕ → Option Held) (a b : Difference)
    → ((page : ℕ) → from ≤ page → page < to → others page ≡ before page) → ((page : ℕ) → from ≤ page → page < to → next page ≡ after page)
    → Adds contents space from to before after a b → Adds contents space from to others next a b
adds_alike contents space from to before after others next a b old new put = record {
  areas = λ at page was is. put_same space from to at page (λ low high. (
    λ change. subst (λ o. IsChange o (next page) was is) (sym (old page low high)) (subst (λ o. IsChange (before page) o was is) (sym (new page low high)) change),
    λ change. subst (λ o. IsChange o (after page) was is) (old page low high) (subst (λ o. IsChange (others page) o was is) (new page low high) change),
  )) (put.areas at page was is);
  written = λ at page. put_same space from to at page (λ low high. (
    λ change. subst (λ o. IsWritten contents o (next page)) (sym (old page low high)) (subst (λ o. IsWritten contents (before page) o) (sym (new page low high)) change),
    λ change. subst (λ o. IsWritten contents o (after page)) (old page low high) (subst (λ o. IsWritten contents (others page) o) (new page low high) change),
  )) (put.written at page);
}

pub adds_at : (contents : List (List ℕ)) (space from to s f t : ℕ) (before after : ℕ → Option Held) (a b : Difference) → s ≡ space → f ≡ from → t ≡ to
    → Adds contents s f t before after a b → Adds contents space from to before after a b
adds_at contents space from to s f t before after a b es ef et put =
    subst (λ x. Adds contents x from to before after a b) es (subst (λ x. Adds contents s x to before after a b) ef (subst (λ x. Adds contents s f x before after a b) et put))

-- none yet
none_put : {List P : Type 0} (space from at page : ℕ) → List ↔ (List ⊎ (IsBetween space from from at page × P))
none_put space from at page = (
  λ h. inl h,
  λ h. elim h [
    | inl g ↦ g
    | inr both ↦ absurd (none both.0)
  ],
)
  where
    none : IsBetween space from from at page → ⊥
    none i = let low = i.from_is in let high = i.to_is in omega (arith, low, high)

pub adds_none : (contents : List (List ℕ)) (space from : ℕ) (before after : ℕ → Option Held) (a : Difference) → Adds contents space from from before after a a
adds_none contents space from before after a = record {
  areas = λ at page was is. none_put space from at page;
  written = λ at page. none_put space from at page;
}

-- ---- all spaces

pub none_differ : (contents : List (List ℕ)) (before after : ℕ → ℕ → Option Held) (d : Difference) → d.areas.items ≡ [] → d.written.items ≡ [] → AreDifferences contents 1 before after d
none_differ contents before after d areas written = record {
  areas = λ space page was is. (
    λ h. absurd (nothing h.0 (subst (λ xs. Contains xs h.0) areas h.1)),
    λ both. absurd (unnumbered both.0),
  );
  written = λ space page. (
    λ h. absurd (nothing h.0 (subst (λ xs. Contains xs h.0) written h.1)),
    λ both. absurd (unnumbered both.0),
  );
}
  where
    nothing : {X : Type 0} (x : X) → Contains [] x → ⊥
    nothing x c = omega (arith, c.1)

    unnumbered : {space : ℕ} → IsNumbered 1 space → ⊥
    unnumbered n = omega (arith, n.0, n.1)

no_change : (was is : Option Prot) (a b : Option Held) → a ≡ None → b ≡ None → IsChange a b was is → ⊥
no_change was is a b none nothing change =
    let c : IsChange None None was is = subst (λ o. IsChange o None was is) none (subst (λ o. IsChange a o was is) nothing change) in
    c.differ (c.old_is ∙ sym c.new_is)

none_written : (contents : List (List ℕ)) (a b : Option Held) → a ≡ None → IsWritten contents a b → ⊥
none_written contents a b none written = subst (λ o. IsWritten contents o b) none written

-- one space more, of whose pages none is after the last that was looked at
one_space : {Old New : Type 0} (P : ℕ → Type 0) (end to space page : ℕ) → 0 < end → (to ≤ page → P end → ⊥)
    → (Old ↔ (IsNumbered end space × P space)) → (New ↔ (Old ⊎ (IsBetween end 0 to space page × P end))) → New ↔ (IsNumbered (end + 1) space × P space)
one_space P end to space page some high was put = (
  λ h. elim (put.0 h) [
    | inl g ↦ (let both = was.0 g in ((both.0.0, omega (arith, both.0.1)), both.1))
    | inr both ↦ (let here = both.0.space_is in ((omega (arith, some, here), omega (arith, here)), subst P (sym here) both.1))
  ],
  λ both. elim (below_or space end) [
    | inl less ↦ put.1 (inl (was.1 ((both.0.0, less), both.1)))
    | inr more ↦ (let e : space ≡ end = omega (arith, more, both.0.1) in let p = subst P e both.1 in elim (below_or page to) [
      | inl low ↦ put.1 (inr (record { space_is = e; from_is = omega arith; to_is = low }, p))
      | inr behind ↦ absurd (high behind p)
    ])
  ],
)

pub space_more : (contents : List (List ℕ)) (end to : ℕ) (before after : ℕ → ℕ → Option Held) (d e : Difference) → 0 < end
    → ((page : ℕ) → to ≤ page → before end page ≡ None) → ((page : ℕ) → to ≤ page → after end page ≡ None)
    → AreDifferences contents end before after d → Adds contents end 0 to (before end) (after end) d e → AreDifferences contents (end + 1) before after e
space_more contents end to before after d e some old new was put = record {
  areas = λ space page from is. one_space (λ s. IsChange (before s page) (after s page) from is) end to space page some
      (λ high. no_change from is (before end page) (after end page) (old page high) (new page high)) (was.areas space page from is) (put.areas space page from is);
  written = λ space page. one_space (λ s. IsWritten contents (before s page) (after s page)) end to space page some
      (λ high. none_written contents (before end page) (after end page) (old page high)) (was.written space page) (put.written space page);
}

-- ---- one part more

pub part_more : (contents : List (List ℕ)) (space at until first end : ℕ) (old new before after : List PlacedRun) (was is : Part) (a b c : Difference)
    → first ≡ at → end ≡ until → at ≤ until → until ≤ was.until → until ≤ is.until
    → ((page : ℕ) → at ≤ page → held_at before page ≡ held_at old page) → ((page : ℕ) → at ≤ page → held_at after page ≡ held_at new page)
    → IsPart before at was → IsPart after at is → AreRising before → AreRising after
    → Adds contents space 0 at (held_at old) (held_at new) a b → Adds contents space first end (held_in was.run) (held_in is.run) b c
    → Adds contents space 0 until (held_at old) (held_at new) a c
part_more contents space at until first end old new before after was is a b c f e low old_high new_high old_same new_same old_part new_part old_rising new_rising done put =
    adds_both contents space 0 at until (held_at old) (held_at new) a b c (omega arith) low done
    (adds_alike contents space at until (held_in was.run) (held_in is.run) (held_at old) (held_at new) b c
    (λ page from to. sym (old_same page from) ∙ old_part.same old_rising page from (omega (arith, to, old_high)))
    (λ page from to. sym (new_same page from) ∙ new_part.same new_rising page from (omega (arith, to, new_high)))
    (adds_at contents space at until space first end (held_in was.run) (held_in is.run) b c refl f e put))
