-- A leaf: what it has at a page after a change.
use Rattle.std.proofs.Common.{◌≡◌, ℕ, ◌<◌, true, false, cond, ◌||◌, nat_eq, is_some, IsSome, List, [], ◌∷◌, zero, suc, length, set, Option, Some, None, refl, sym, ◌∙◌, ap, subst, inl, inr, arith}
use Rattle.std.specs.List.{slice_get}
use Rattle.std.specs.Option.{option_map}
use Rattle.std.proofs.lemmas.Bool.{cases_Bool, cases_eq, eq-eqb, ne_eqb, or_left, cond-true, cond-false}
use Rattle.sd_tables.specs.declared.entry.Entry.{Entry}
use Rattle.sd_tables.specs.declared.leaf_entry.LeafEntry.{LeafEntry}
use Rattle.sd_tables.specs.Radix.{is_used, entry_in, leaf_at, HasMappedPage, IsNextUsed}
use Rattle.sd_tables.proofs.PlaceLemmas.{got_set, got_other}

module _ (words after : List ℕ) (entries : List LeafEntry) (place : ℕ) (within : place < length entries) (e : LeafEntry) (added : (other : ℕ) → is_used after other ≡ (nat_eq other place || is_used words other)) where
  -- an entry was put into a place
  pub leaf_put : (entry : Entry) → entry_in e ≡ entry → (page : ℕ) → leaf_at after (set entries place e) page ≡ cond (nat_eq page place) (Some entry) (leaf_at words entries page)
  leaf_put entry is page = elim (cases_eq page place) [
    | inl same ↦ cond-true (is_used after page) (option_map entry_in (slice_get (set entries place e) page)) None (added page ∙ or_left (nat_eq page place) (is_used words page) (eq-eqb page place same))
        ∙ ap (λ p. option_map entry_in (slice_get (set entries place e) p)) same ∙ ap (option_map entry_in) (got_set entries place e within) ∙ ap Some is
        ∙ sym (cond-true (nat_eq page place) (Some entry) (leaf_at words entries page) (eq-eqb page place same))
    | inr apart ↦ ap (λ b. cond b (option_map entry_in (slice_get (set entries place e) page)) None) (added page ∙ ap (λ b. b || is_used words page) (ne_eqb page place apart))
        ∙ ap (λ o. cond (is_used words page) (option_map entry_in o) None) (got_other entries place page e apart)
        ∙ sym (cond-false (nat_eq page place) (Some entry) (leaf_at words entries page) (ne_eqb page place apart))
  ]

there : (entries : List LeafEntry) (place : ℕ) → place < length entries → IsSome (option_map entry_in (slice_get entries place))
there [] place l = absurd (omega arith)
there (x ∷ xs) zero l = refl
there (x ∷ xs) (suc place) l = there xs place (omega arith)

-- a leaf with a used place has a page
pub leaf_has : (words : List ℕ) (entries : List LeafEntry) → length entries ≡ 512 → (o : Option ℕ) → is_some o ≡ true → IsNextUsed words 0 o → HasMappedPage 512 (leaf_at words entries)
leaf_has words entries l None e next = absurd (let f : false ≡ true = e in cc)
leaf_has words entries l (Some place) e next = (
  place,
  next.1,
  subst (λ (o : Option Entry). IsSome o) (sym (cond-true (is_used words place) (option_map entry_in (slice_get entries place)) None next.2)) (there entries place (let n = next.1 in omega arith)),
)

-- a used place has an entry
pub leaf_there : (words : List ℕ) (entries : List LeafEntry) (place : ℕ) → place < length entries → is_used words place ≡ true → IsSome (leaf_at words entries place)
leaf_there words entries place l used =
    subst (λ (o : Option Entry). IsSome o) (sym (cond-true (is_used words place) (option_map entry_in (slice_get entries place)) None used)) (there entries place l)

-- a place with an entry is used
pub leaf_used : (words : List ℕ) (entries : List LeafEntry) (place : ℕ) → IsSome (leaf_at words entries place) → is_used words place ≡ true
leaf_used words entries place some = elim (cases_Bool (is_used words place)) [
  | inl t ↦ t
  | inr f ↦ absurd (let n : None ≡ leaf_at words entries place = sym (cond-false (is_used words place) (option_map entry_in (slice_get entries place)) None f) in let e : false ≡ true = ap is_some n ∙ some in cc)
]
