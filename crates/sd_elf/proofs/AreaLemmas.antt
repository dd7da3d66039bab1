-- The program headers of areas, one after the other.
use Rattle.std.proofs.Common.{◌≡◌, ◌≤◌, ◌<◌, ◌+◌, ◌*◌, ◌^◌, ℕ, zero, suc, List, [], ◌∷◌, ◌++◌, Option, Some, None, sym, ◌∙◌, ap, arith, take, length, slice_index_or, append-nil}
use Rattle.std.specs.Prelude.{sum_by}
use Rattle.std.specs.List.{flat_map}
use Rattle.std.proofs.lemmas.Grind.{flat_map-append}
use Rattle.std.proofs.lemmas.List.Sums.{sum_by-append, sum_by-cons}
use Rattle.sd_areas.specs.declared.area.Area.{Area}
use Rattle.sd_areas.specs.Areas.{AreMaximal}
use Rattle.sd_areas.specs.Runs.{area_end}
use Rattle.sd_areas.proofs.Maximal.{follows_on}
use Rattle.sd_restore.proofs.TakeLemmas.{taken}
use Rattle.sd_elf.specs.Texts.{area_header, area_headers, padded, program_header_text}

abbrev pub count_of : Area → ℕ
count_of area = area.count

-- areas that rise have no more pages than a space
pub few_pages : (before : Option Area) (areas : List Area) (i : ℕ) → area_end before ≤ 2 ^ 35 → AreMaximal before areas → area_end before + sum_by count_of (take i areas) ≤ 2 ^ 35
few_pages before areas zero least are = omega (arith, least)
few_pages before [] (suc i) least are = omega (arith, least)
few_pages before (area ∷ areas) (suc i) least are =
    let follows = follows_on before area are.0 in
    let behind = follows.behind in
    let within = follows.within in
    let rest : area.first + area.count + sum_by count_of (take i areas) ≤ 2 ^ 35 = few_pages (Some area) areas i within are.1 in
    let cons = sum_by-cons count_of area (take i areas) in
    omega (arith, behind, rest, cons)

-- one more area
pub sum_more : (areas : List Area) (i : ℕ) (area : Area) → i < length areas → area ≡ slice_index_or areas i area → sum_by count_of (take (i + 1) areas) ≡ sum_by count_of (take i areas) + area.count
sum_more areas i area less is =
    let parts = sum_by-append count_of (take i areas) (area ∷ []) in
    let one = sum_by-cons count_of area [] in
    ap (sum_by count_of) (taken areas i area less is) ∙ omega (arith, parts, one)

headers_last : (place : ℕ) (areas : List Area) (area : Area) → area_headers place (areas ++ area ∷ []) ≡ area_headers place areas ++ area_header area (place + 4096 * sum_by count_of areas) ∷ []
headers_last place [] area = ap (λ p. area_header area p ∷ []) (let e : place ≡ place + 4096 * 0 = omega arith in e)
headers_last place (a ∷ areas) area =
    let cons = sum_by-cons count_of a areas in
    ap (λ hs. area_header a place ∷ hs) (headers_last (place + 4096 * a.count) areas area
    ∙ ap (λ p. area_headers (place + 4096 * a.count) areas ++ area_header area p ∷ []) (let e : place + 4096 * a.count + 4096 * sum_by count_of areas ≡ place + 4096 * sum_by count_of (a ∷ areas) = omega (arith, cons) in e))

pub headers_more : (place at : ℕ) (areas : List Area) (i : ℕ) (area : Area) → i < length areas → area ≡ slice_index_or areas i area → at ≡ place + 4096 * sum_by count_of (take i areas)
    → flat_map program_header_text (area_headers place (take (i + 1) areas)) ≡ flat_map program_header_text (area_headers place (take i areas)) ++ program_header_text (area_header area at)
headers_more place at areas i area less is there =
    ap (λ xs. flat_map program_header_text (area_headers place xs)) (taken areas i area less is)
    ∙ ap (flat_map program_header_text) (headers_last place (take i areas) area)
    ∙ flat_map-append program_header_text (area_headers place (take i areas)) (area_header area (place + 4096 * sum_by count_of (take i areas)) ∷ [])
    ∙ ap (λ xs. flat_map program_header_text (area_headers place (take i areas)) ++ xs) (append-nil (program_header_text (area_header area (place + 4096 * sum_by count_of (take i areas)))))
    ∙ ap (λ p. flat_map program_header_text (area_headers place (take i areas)) ++ program_header_text (area_header area p)) (sym there)

pub few_none : (areas : List Area) (i : ℕ) → AreMaximal None areas → sum_by count_of (take i areas) ≤ 2 ^ 35
few_none areas i are =
    let least : area_end None ≤ 2 ^ 35 = omega arith in
    let few = few_pages None areas i least are in
    omega (arith, few)

-- each is within the space
pub maximal_within : (before : Option Area) (areas : List Area) (i : ℕ) (area : Area) → AreMaximal before areas → i < length areas → area ≡ slice_index_or areas i area → area.first + area.count ≤ 2 ^ 35
maximal_within before [] i area are less is = absurd (omega arith)
maximal_within before (a ∷ areas) zero area are less is = let within = (follows_on before a are.0).within in rw is within
maximal_within before (a ∷ areas) (suc i) area are less is = maximal_within (Some a) areas i area are.1 (omega arith) is

-- ---- the parts of a front, one after the other

pub front_parts : (o0 o1 o2 o3 o4 o5 o6 a b c d e : List ℕ) (n m : ℕ) → o0 ≡ [] → o1 ≡ o0 ++ a → o2 ≡ o1 ++ b → o3 ≡ o2 ++ c → o4 ≡ o3 ++ d → o5 ≡ o4 ++ e → o6 ≡ padded n o5 → n ≡ m → o6 ≡ padded m (a ++ b ++ c ++ d ++ e)
front_parts o0 o1 o2 o3 o4 o5 o6 a b c d e n m e0 e1 e2 e3 e4 e5 e6 same = grind arith
