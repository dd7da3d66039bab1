-- The core files of spaces, taken one after the other.
use Rattle.std.proofs.Common.{◌≡◌, ◌==◌, ℕ, Bool, true, false, List, [], ◌∷◌, ◌++◌, map, Option, Some, refl, sym, ◌∙◌, ap, subst}
use Rattle.std.specs.Prelude.{filter}
use Rattle.std.specs.List.{flat_map}
use Rattle.std.specs.FinMap as finmap
use Rattle.std.proofs.lemmas.Bool.{cond-true, cond-false}
use Rattle.sd_areas.specs.Areas.{areas_of}
use Rattle.sd_areas.specs.PlainMemory.{Page, PlainMemory, Space}
use Rattle.sd_image.specs.Shows.{Shows}
use Rattle.sd_image.specs.Table.{Listed}
use Rattle.sd_restore.specs.Fits.{prots_in}
use Rattle.sd_restore.specs.Placed.{IsLaidOut, PlacedPage, SpaceEntry, placed_entries, placed_memory, placed_page}
use Rattle.sd_elf.specs.At.{TakesCoresAt}
use Rattle.sd_restore.specs.At.{ShowsAt}
use Rattle.sd_elf.specs.Files.{CoreOfSpace, TakesCores, TakesFiles, cores_of, placed_cores}
use Rattle.sd_elf.specs.Texts.{front_text, placed_core}

abbrev Taken : Type 0
Taken = Option (List CoreOfSpace)

-- ---- the files of a memory are those of the pages that lie in slots

kept_map : {X Y Z : Type 0} (p : Y → Bool) (g : Y → Z) (f : X → Y) (xs : List X) → map g (filter p (map f xs)) ≡ map (λ x. g (f x)) (filter (λ x. p (f x)) xs)
kept_map p g f [] = refl
kept_map p g f (x ∷ xs) = by (p (f x)) refl (kept_map p g f xs)
  where
    by : (b : Bool) → p (f x) ≡ b → map g (filter p (map f xs)) ≡ map (λ x. g (f x)) (filter (λ x. p (f x)) xs) → map g (filter p (map f (x ∷ xs))) ≡ map (λ x. g (f x)) (filter (λ x. p (f x)) (x ∷ xs))
    by true e rest = ap (map g) (cond-true _ _ _ e) ∙ ap (λ zs. g (f x) ∷ zs) rest ∙ sym (ap (map (λ x. g (f x))) (cond-true _ _ _ e))
    by false e rest = ap (map g) (cond-false _ _ _ e) ∙ rest ∙ sym (ap (map (λ x. g (f x))) (cond-false _ _ _ e))

same_map : {X Z : Type 0} (f g : X → Z) (xs : List X) → ((x : X) → f x ≡ g x) → map f xs ≡ map g xs
same_map f g [] same = refl
same_map f g (x ∷ xs) same = ap (λ z. z ∷ map f xs) (same x) ∙ ap (λ zs. g x ∷ zs) (same_map f g xs same)

of_map : {X Y Z : Type 0} (f : Y → List Z) (g : X → Y) (xs : List X) → flat_map f (map g xs) ≡ flat_map (λ x. f (g x)) xs
of_map f g [] = refl
of_map f g (x ∷ xs) = ap (λ zs. f (g x) ++ zs) (of_map f g xs)

module _ (threads : List ℕ) (wanted : ℕ → Bool) (contents : List (List ℕ)) (checkpoint : ℕ) (spaces : List Listed) (pages : List PlacedPage) (memory : PlainMemory) (laid : IsLaidOut contents spaces pages memory) where
  abbrev page_bytes : ℕ × Page → List ℕ
  page_bytes e = e.1.bytes

  abbrev entry_core : SpaceEntry → CoreOfSpace
  entry_core e = (e.0, front_text threads checkpoint e.0 e.1.0 ++ flat_map page_bytes e.1.1)

  abbrev said : Listed → SpaceEntry
  said s = (s.space, (s.areas, placed_entries contents s.space pages))

  abbrev seen : ℕ × Space → SpaceEntry
  seen e = (e.0, (areas_of (prots_in e.1), finmap.entries e.1))

  abbrev placed : Listed → CoreOfSpace
  placed s = (s.space, placed_core threads contents checkpoint pages s)

  of_space : (s : Listed) → entry_core (said s) ≡ placed s
  of_space s = ap {B = CoreOfSpace} (λ (bytes : List ℕ). (s.space, front_text threads checkpoint s.space s.areas ++ bytes))
      (of_map page_bytes (λ (p : PlacedPage). (p.page, placed_page contents p)) (filter (λ (p : PlacedPage). p.space == s.space) pages))

  pub cores_laid : placed_cores threads wanted contents checkpoint pages spaces ≡ cores_of threads wanted (checkpoint, memory)
  cores_laid =
      sym (kept_map (λ (e : SpaceEntry). wanted e.0) entry_core said spaces
      ∙ same_map (λ s. entry_core (said s)) placed (filter (λ (s : Listed). wanted s.space) spaces) of_space)
      ∙ ap (λ es. map entry_core (filter (λ (e : SpaceEntry). wanted e.0) es)) (sym laid)
      ∙ kept_map (λ (e : SpaceEntry). wanted e.0) entry_core seen (finmap.entries memory)

pub takes_cores : (threads : List ℕ) (wanted : ℕ → Bool) (contents : List (List ℕ)) (checkpoint : ℕ) (spaces : List Listed) (pages : List PlacedPage) (before after : Taken)
    → Shows contents (Some (checkpoint, placed_memory contents spaces pages)) → IsLaidOut contents spaces pages (placed_memory contents spaces pages)
    → TakesFiles before after (placed_cores threads wanted contents checkpoint pages spaces) → TakesCores contents threads wanted before after checkpoint
takes_cores threads wanted contents checkpoint spaces pages before after shows laid taken = record {
  memory = placed_memory contents spaces pages;
  shows = shows;
  taken = subst (TakesFiles before after) (cores_laid threads wanted contents checkpoint spaces pages (placed_memory contents spaces pages) laid) taken;
}

pub takes_cores_at : (threads : List ℕ) (wanted : ℕ → Bool) (contents : List (List ℕ)) (number checkpoint : ℕ) (spaces : List Listed) (pages : List PlacedPage) (before after : Taken) → checkpoint ≡ number
    → ShowsAt contents number (placed_memory contents spaces pages) → IsLaidOut contents spaces pages (placed_memory contents spaces pages)
    → TakesFiles before after (placed_cores threads wanted contents checkpoint pages spaces) → TakesCoresAt contents number threads wanted before after
takes_cores_at threads wanted contents number checkpoint spaces pages before after is shows laid taken = record {
  memory = placed_memory contents spaces pages;
  shows = shows;
  taken = subst (λ n. TakesFiles before after (cores_of threads wanted (n, placed_memory contents spaces pages))) is
      (subst (TakesFiles before after) (cores_laid threads wanted contents checkpoint spaces pages (placed_memory contents spaces pages) laid) taken);
}
