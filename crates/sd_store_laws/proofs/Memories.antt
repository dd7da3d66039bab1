-- Two images with the same areas that hold the same stand for the same memory.
use Rattle.std.proofs.Common.{◌≡◌, ℕ, eqb, ◌||◌, List, [], ◌∷◌, map, Contains, Option, Some, None, MatchOption, refl, sym, ◌∙◌, ap, subst, arith}
use Rattle.std.specs.List.{list_any}
use Rattle.sd_areas.specs.declared.area.Area.{Area}
use Rattle.sd_areas.specs.Areas.{prot_in}
use Rattle.sd_areas.specs.PlainMemory.{Page, PlainMemory}
use Rattle.sd_image.specs.Image.{Image}
use Rattle.sd_image.specs.Table.{Listed}
use Rattle.sd_image.specs.Shows.{Holds, IsMemory, page_in}
use Rattle.sd_image.proofs.Members.{contains_map, from_map}
use Rattle.sd_store_laws.specs.Cut.{areas_of_spaces}

spaces_any : (spaces : List Listed) (space : ℕ)
    → list_any (λ (s : Listed). eqb s.space space) spaces ≡ list_any (λ (p : ℕ × List Area). eqb p.0 space) (map (λ (s : Listed). (s.space, s.areas)) spaces)
spaces_any [] space = refl
spaces_any (s ∷ spaces) space = ap (λ b. eqb s.space space || b) (spaces_any spaces space)

-- bytes that one image holds the other holds too
pub record HoldsAll (images others : List Image) (i twin : Image) : Type 0 where
  pub bytes : (space page : ℕ) (bytes : List ℕ) → Holds images space page bytes i → Holds others space page bytes twin

page_moves : (images others : List Image) (i twin : Image) (s t : Listed) (page : ℕ) (found : Option Page) → HoldsAll images others i twin
    → s.space ≡ t.space → s.areas ≡ t.areas
    → MatchOption found (prot_in s.areas page ≡ None) (λ p. (prot_in s.areas page ≡ Some p.prot) × Holds images s.space page p.bytes i)
    → MatchOption found (prot_in t.areas page ≡ None) (λ p. (prot_in t.areas page ≡ Some p.prot) × Holds others t.space page p.bytes twin)
page_moves images others i twin s t page found holds space areas was = grind arith

pub memory_moves : (images others : List Image) (i twin : Image) (memory : PlainMemory) → areas_of_spaces twin ≡ areas_of_spaces i → HoldsAll images others i twin
    → IsMemory images i memory → IsMemory others twin memory
memory_moves images others i twin memory areas holds is = record {
  alive = λ space. is.alive space ∙ spaces_any i.spaces space
      ∙ sym (ap (list_any (λ (p : ℕ × List Area). eqb p.0 space)) areas) ∙ sym (spaces_any twin.spaces space);
  pages = λ t c page.
      let pair = subst (λ (ps : List (ℕ × List Area)). Contains ps (t.space, t.areas)) areas (contains_map (λ (s : Listed). (s.space, s.areas)) twin.spaces t c) in
      let s = from_map (λ (s : Listed). (s.space, s.areas)) i.spaces (t.space, t.areas) pair in
      let space : s.0.space ≡ t.space = ap (λ (p : ℕ × List Area). p.0) (sym s.2) in
      let there = is.pages s.0 s.1 page in
      page_moves images others i twin s.0 t page (page_in memory t.space page) holds space (ap (λ (p : ℕ × List Area). p.1) (sym s.2))
      (subst (λ n. MatchOption (page_in memory n page) (prot_in s.0.areas page ≡ None) (λ p. (prot_in s.0.areas page ≡ Some p.prot) × Holds images s.0.space page p.bytes i)) space there);
}
