-- An area within another one, which it splits into two.
use Rattle.std.proofs.Common.{◌≡◌, ℕ, ◌+◌, ◌-◌, ◌<◌, ◌≤◌, ◌^◌, false, cond, List, [], ◌∷◌, length, Option, Some, None, refl, sym, ap, subst, arith, inr}
use Rattle.std.specs.Prelude.{IsTrue, ◌==◌, slice_range}
use Rattle.std.specs.List.{splice, AllWithin}
use Rattle.sd_areas.specs.declared.area.Area.{Area}
use Rattle.sd_areas.specs.declared.prot.Prot.{Prot}
use Rattle.sd_areas.specs.declared.errno.AreaError.TheVariants.{Refused}
use Rattle.sd_areas.specs.declared.errno.Errno.TheVariants.{Enomem}
use Rattle.sd_areas.specs.Pages.{is_within}
use Rattle.sd_areas.specs.Prot.{prot_bits}
use Rattle.sd_areas.specs.Areas.{is_area_after, AreMaximal, page_map_of}
use Rattle.sd_areas.specs.Calls.{RefusesInOrder, within_areas, set_pages}
use Rattle.sd_areas.specs.Runs.{HasRun, IsSplitBy}
use Rattle.sd_areas.proofs.Maximal.{follows_on}
use Rattle.std.proofs.lemmas.List.Edits.{length-between}
use Rattle.sd_areas.proofs.Around.{middle_maximal, run_spliced, run_refused}
use Rattle.sd_areas.proofs.Spliced.{length_spliced}

abbrev left_of : Area → Area → Area
left_of around area = record { first = around.first; count = area.first - around.first; prot = around.prot }

abbrev right_of : Area → Area → Area
right_of around area = record { first = area.first + area.count; count = (around.first + around.count) - (area.first + area.count); prot = around.prot }

-- the three pieces
abbrev pieces_of : Area → Area → List Area
pieces_of around area = left_of around area ∷ area ∷ right_of around area ∷ []

left_is : (first count begin : ℕ) (prot : Prot) → first < begin → begin ≤ 2 ^ 35 → IsTrue (is_area_after None (record { first = first; count = begin - first; prot = prot }))
left_is first count begin prot h w = grind arith

middle_is : (around area : Area) → around.first < area.first → 0 < area.count → area.first + area.count ≤ 2 ^ 35 → (prot_bits around.prot == prot_bits area.prot) ≡ false → IsTrue (is_area_after (Some (left_of around area)) area)
middle_is around area h c w apart = grind arith

right_is : (around area : Area) → area.first + area.count < around.first + around.count → around.first + around.count ≤ 2 ^ 35 → (prot_bits around.prot == prot_bits area.prot) ≡ false → IsTrue (is_area_after (Some area) (right_of around area))
right_is around area h w apart = grind arith

-- pages of three runs that touch
three_runs : (first count begin some page : ℕ) (p q : Option Prot) → first < begin → begin + some < first + count
    → cond (is_within first (begin - first) page) p (cond (is_within begin some page) q (cond (is_within (begin + some) ((first + count) - (begin + some)) page) p None)) ≡ cond (is_within begin some page) q (cond (is_within first count page) p None)
three_runs first count begin some page p q h l = grind arith

pub split_run : (around area : Area) → AreMaximal None (around ∷ []) → around.first < area.first → area.first + area.count < around.first + around.count → 0 < area.count → (prot_bits around.prot == prot_bits area.prot) ≡ false
    → HasRun (around ∷ []) (pieces_of around area) area
split_run around area m h l c apart =
    let within = (follows_on None around m.0).within in
    record {
      maximal = (left_is around.first around.count area.first around.prot h (omega arith), (middle_is around area h c (omega arith) apart, (right_is around area l within apart, tt)));
      same = λ page. three_runs around.first around.count area.first area.count page (Some around.prot) (Some area.prot) h l;
    }

three : (around area : Area) → length (pieces_of around area) ≡ 3
three around area = refl

one_between : (xs : List Area) (from to : ℕ) (x : Area) → from ≤ to → to ≤ length xs → slice_range xs from to ≡ x ∷ [] → to ≡ from + 1
one_between xs from to x l h e =
    let long : length (slice_range xs from to) ≡ to - from = length-between xs from to h in
    let one = ap length e in
    omega (arith, long, one, l)

-- so it is refused where there is no room for two areas more
pub split_refused : (xs slots : List Area) (from to : ℕ) (area : Area) → slots ≡ xs → AreMaximal None xs → from ≤ to → to ≤ length xs
    → AllWithin (λ (x : Area). x.first + x.count < area.first) xs 0 from → AllWithin (λ (x : Area). area.first + area.count < x.first) xs to (length xs)
    → 0 < area.count → IsSplitBy (slice_range slots from to) area → 1024 < length xs + 2
    → RefusesInOrder (within_areas (set_pages (page_map_of xs) area.first area.count area.prot)) (Refused Enomem)
split_refused xs slots from to area same m l h below above c split many =
    let only : slice_range xs from to ≡ split.around ∷ [] = subst (λ (ys : List Area). slice_range ys from to ≡ split.around ∷ []) same split.only in
    let run = subst (λ (ys : List Area). HasRun ys (pieces_of split.around area) area) (sym only) (split_run split.around area (subst (AreMaximal None) only (middle_maximal xs from to m l)) split.before split.after c split.apart) in
    let long = length_spliced xs (pieces_of split.around area) from to l h in
    let three = three split.around area in
    let one = one_between xs from to split.around l h only in
    run_refused xs (splice xs from to (pieces_of split.around area)) area (Refused Enomem) (run_spliced xs (pieces_of split.around area) from to area m l h below above run) (inr (refl, omega (arith, long, three, one, many, h)))
