-- Spaces: what is read is spelled so, and what is spelled so is read.
use Rattle.std.proofs.Common.{◌≡◌, ℕ, ◌+◌, ◌^◌, ◌<◌, ◌≤◌, true, not, ◌&&◌, ltb, leb, cond, List, [], ◌∷◌, ◌++◌, length, Option, Some, None, Result, Ok, Err, refl, sym, ap, subst, ◌∙◌, arith, append_assoc}
use Rattle.std.specs.List.{flat_map}
use Rattle.std.proofs.lemmas.Bool.{ltb-true, leb-true, lt-ltb, le-leb, eqb-false, ne_eqb, and_parts, and_from, not-false, not-true, not_from_false}
use Rattle.std.proofs.lemmas.List.{append-nil, drop_all, nil_from_length}
use Rattle.std.proofs.lemmas.Slice.Eq.{bytes_eq-Decides}
use Rattle.sd_areas.specs.declared.area.Area.{Area}
use Rattle.sd_areas.specs.Areas.{is_area_after, AreMaximal}
use Rattle.sd_image.specs.declared.header.Header.{Header}
use Rattle.sd_image.specs.declared.header.Kind.{Kind}
use Rattle.sd_image.specs.declared.reason.Reason.{Reason}
use Rattle.sd_image.specs.declared.reason.Reason.TheVariants as reason
use Rattle.sd_image.specs.declared.run.Run.{Run}
use Rattle.sd_image.specs.declared.space_head.SpaceHead.{SpaceHead}
use Rattle.sd_image.specs.Words.{number_bytes}
use Rattle.sd_image.specs.Table.{Listed, area_text, run_text, space_text, run_begins_after, is_run_after, AreRuns, Covers, IsSpace, AreSpaces}
use Rattle.sd_image.specs.Reading.{◌>>=◌, number_at, item_at, many, area_at, run_at, area_limit, space_head_of, space_head_at, covers, space_at}
use Rattle.sd_image.proofs.Steps.{IsBytes, bind_ok, guard_ok, guard_ends, ok_is, Takes, Takes-then, piece}
use Rattle.sd_image.proofs.Numbers.{bytes_4, bytes_8}
use Rattle.sd_image.proofs.Items.{run_range}
use Rattle.sd_image.proofs.ManyLaws.{AllFrom, many_take, many_again}
use Rattle.sd_image.proofs.ItemLaws.{item_takes, item_again, area_takes, area_again, run_takes, run_again}

-- ---- lists of areas, of runs and of spaces, each good after the one before

abbrev GoodArea : Option Area → Area → Type 0
GoodArea before area = is_area_after before area ≡ true

abbrev GoodRun : ℕ → Option Run → Run → Type 0
GoodRun parent before run = is_run_after parent before run ≡ true

to_areas : (before : Option Area) (areas : List Area) → AllFrom GoodArea Some before areas → AreMaximal before areas
to_areas before [] h = tt
to_areas before (area ∷ areas) h = (h.0, to_areas (Some area) areas h.1)

from_areas : (before : Option Area) (areas : List Area) → AreMaximal before areas → AllFrom GoodArea Some before areas
from_areas before [] h = tt
from_areas before (area ∷ areas) h = (h.0, from_areas (Some area) areas h.1)

to_runs : (parent : ℕ) (before : Option Run) (runs : List Run) → AllFrom (GoodRun parent) Some before runs → AreRuns parent before runs
to_runs parent before [] h = tt
to_runs parent before (run ∷ runs) h = (h.0, to_runs parent (Some run) runs h.1)

from_runs : (parent : ℕ) (before : Option Run) (runs : List Run) → AreRuns parent before runs → AllFrom (GoodRun parent) Some before runs
from_runs parent before [] h = tt
from_runs parent before (run ∷ runs) h = (h.0, from_runs parent (Some run) runs h.1)

abbrev pub number_of : Listed → ℕ
number_of s = s.space

-- ---- a space's head

abbrev pub head_text : SpaceHead → List ℕ
head_text head = number_bytes 4 head.space ++ (number_bytes 4 head.areas ++ (number_bytes 8 head.runs ++ []))

head_spelled : (item : List ℕ) → length item ≡ 16 → IsBytes item → item ≡ head_text (space_head_of item)
unfolding space_head_of
head_spelled item long fits =
    let p8 = piece 8 8 16 item _ [] refl (bytes_8 8 item fits (omega arith)) (drop_all 16 item (omega arith)) in
    let p4 = piece 4 4 8 item _ _ refl (bytes_4 4 item fits (omega arith)) p8 in
    piece 0 4 4 item _ _ refl (bytes_4 0 item fits (omega arith)) p4

record IsHead (kind : Kind) (before : ℕ) (bytes : List ℕ) (head : SpaceHead) (rest : List ℕ) : Type 0 where
  takes : Takes bytes (head_text head) rest
  above : before < head.space
  within : head.space ≤ 16
  few : head.areas ≤ area_limit kind

head_takes : (kind : Kind) (before : ℕ) (bytes : List ℕ) (x : SpaceHead × List ℕ) → IsBytes bytes → space_head_at kind before bytes ≡ Ok x → IsHead kind before bytes x.0 x.1
unfolding space_head_at
head_takes kind before bytes x fits e =
    let a = bind_ok (item_at 16 bytes) (λ item. cond (not (ltb before (space_head_of item.0).space && leb (space_head_of item.0).space 16)) (Err reason.Space) (cond (not (leb (space_head_of item.0).areas (area_limit kind))) (Err reason.Area) (Ok (space_head_of item.0, item.1)))) x e in
    let head = space_head_of a.0.0 in
    let i = item_takes 16 bytes a.0 fits a.1 in
    let b = guard_ok (not (ltb before head.space && leb head.space 16)) reason.Space (cond (not (leb head.areas (area_limit kind))) (Err reason.Area) (Ok (head, a.0.1))) x a.2 in
    let d = guard_ok (not (leb head.areas (area_limit kind))) reason.Area (Ok (head, a.0.1)) x b.1 in
    let number = and_parts (ltb before head.space) (leb head.space 16) (not-false _ b.0) in
    let here : IsHead kind before bytes head a.0.1 = record {
      takes = subst (λ (t : List ℕ). Takes bytes t a.0.1) (head_spelled a.0.0 i.long i.fits) i.takes;
      above = ltb-true _ _ number.0;
      within = leb-true _ _ number.1;
      few = leb-true _ _ (not-false _ d.0);
    } in
    subst (λ (y : SpaceHead × List ℕ). IsHead kind before bytes y.0 y.1) (ok_is (head, a.0.1) x d.1) here

same_head : (a b : SpaceHead) → a.space ≡ b.space → a.areas ≡ b.areas → a.runs ≡ b.runs → a ≡ b
same_head a b s n r = rw (s, n, r) refl

head_fields : (head : SpaceHead) → head.space < 256 ^ 4 → head.areas < 256 ^ 4 → head.runs < 256 ^ 8 → space_head_of (head_text head) ≡ head
unfolding space_head_of number_at number_bytes
head_fields head s a r = grind arith

head_length : (head : SpaceHead) → length (head_text head) ≡ 16
unfolding number_bytes
head_length head = refl

abbrev done : List ℕ → List ℕ → Result (List ℕ × List ℕ) Reason
done item rest = Ok (item, rest)

limit_small : (kind : Kind) → area_limit kind ≤ 1024
limit_small kind = grind arith

head_again : (kind : Kind) (before : ℕ) (head : SpaceHead) (rest : List ℕ) → before < head.space → head.space ≤ 16 → head.areas ≤ area_limit kind → head.runs < 256 ^ 8 → space_head_at kind before (head_text head ++ rest) ≡ Ok (head, rest)
unfolding space_head_at
head_again kind before head rest above within few runs =
    let read : item_at 16 (head_text head ++ rest) ≡ done (head_text head) rest = item_again 16 (head_text head) rest (head_length head) in
    let fields : space_head_of (head_text head) ≡ head = head_fields head (omega arith) (omega (arith, limit_small kind)) runs in
    let number : (ltb before head.space && leb head.space 16) ≡ true = and_from _ _ (lt-ltb _ _ above) (le-leb _ _ within) in
    let areas : leb head.areas (area_limit kind) ≡ true = le-leb _ _ few in
    rw (read, fields, number, areas) refl

-- ---- the pages of runs

covers_so : (kind : Kind) (areas : List Area) (runs : List Run) → length areas ≤ area_limit kind → covers kind areas runs ≡ true → Covers kind areas runs
unfolding covers
covers_so kind areas runs few e = grind (arith, eqb-false, not-true, nil_from_length, bytes_eq-Decides)

covers_again : (kind : Kind) (areas : List Area) (runs : List Run) → Covers kind areas runs → covers kind areas runs ≡ true
unfolding covers
covers_again kind areas runs h = grind (arith, not_from_false, ne_eqb, nil_from_length, bytes_eq-Decides)

limit_kept : (kind : Kind) (areas : List Area) (runs : List Run) → length areas ≤ 1024 → Covers kind areas runs → length areas ≤ area_limit kind
limit_kept kind areas runs few h = grind arith

-- ---- a space has fewer runs than pages

pub begins_end : (before run : Run) → run_begins_after (Some before) run ≡ true → before.first + before.count ≤ run.first
begins_end before run e = grind arith

pub run_begins : (parent : ℕ) (before run : Run) → is_run_after parent (Some before) run ≡ true → before.first + before.count ≤ run.first
run_begins parent before run e = grind arith

runs_within : (parent : ℕ) (before : Run) (runs : List Run) → before.first + before.count ≤ 2 ^ 35 → AreRuns parent (Some before) runs → before.first + before.count + length runs ≤ 2 ^ 35
runs_within parent before [] inside h = omega arith
runs_within parent before (run ∷ runs) inside h =
    let range = run_range parent (Some before) run h.0 in
    let rest = runs_within parent run runs range.inside h.1 in
    omega (arith, range.some, run_begins parent before run h.0, rest)

runs_few : (parent : ℕ) (runs : List Run) → AreRuns parent None runs → length runs < 256 ^ 8
runs_few parent [] h = omega arith
runs_few parent (run ∷ runs) h =
    let range = run_range parent None run h.0 in
    let rest = runs_within parent run runs range.inside h.1 in
    omega (arith, rest)

-- ---- a whole space

abbrev made : SpaceHead → List Area → List Run → Listed
made head areas runs = record { space = head.space; areas = areas; runs = runs }

-- the parts of a space, one after the other, are its text
parts_text : (head : SpaceHead) (areas : List Area) (runs : List Run) → length areas ≡ head.areas → length runs ≡ head.runs
    → head_text head ++ (flat_map area_text areas ++ flat_map run_text runs) ≡ space_text (made head areas runs)
unfolding number_bytes
parts_text head areas runs a r = rw (a, r) (ap (λ (x : List ℕ). head_text head ++ (flat_map area_text areas ++ x)) (sym (append-nil (flat_map run_text runs))))

pub space_takes : (h : Header) (before : ℕ) (bytes : List ℕ) (x : Listed × List ℕ) → IsBytes bytes → space_at h before bytes ≡ Ok x → Takes bytes (space_text x.0) x.1 × IsSpace h before x.0
unfolding space_at
space_takes h before bytes x fits e =
    let a = bind_ok (space_head_at h.kind before bytes) (λ head. many area_at Some head.0.areas None head.1 >>= λ areas. many (run_at h.parent) Some head.0.runs None areas.1 >>= λ runs. cond (covers h.kind areas.0 runs.0) (Ok (made head.0 areas.0 runs.0, runs.1)) (Err reason.Coverage)) x e in
    let head = a.0.0 in
    let b = bind_ok (many area_at Some head.areas None a.0.1) (λ areas. many (run_at h.parent) Some head.runs None areas.1 >>= λ runs. cond (covers h.kind areas.0 runs.0) (Ok (made head areas.0 runs.0, runs.1)) (Err reason.Coverage)) x a.2 in
    let areas = b.0.0 in
    let d = bind_ok (many (run_at h.parent) Some head.runs None b.0.1) (λ runs. cond (covers h.kind areas runs.0) (Ok (made head areas runs.0, runs.1)) (Err reason.Coverage)) x b.2 in
    let runs = d.0.0 in
    let g = guard_ends (covers h.kind areas runs) reason.Coverage (Ok (made head areas runs, d.0.1)) x d.2 in
    let t0 = head_takes h.kind before bytes a.0 fits a.1 in
    let t1 = many_take area_at Some area_text GoodArea area_takes head.areas None a.0.1 b.0 t0.takes.rest_fits b.1 in
    let t2 = many_take (run_at h.parent) Some run_text (GoodRun h.parent) (run_takes h.parent) head.runs None b.0.1 d.0 t1.0.rest_fits d.1 in
    let lists = Takes-then a.0.1 (flat_map area_text areas) b.0.1 (flat_map run_text runs) d.0.1 t1.0 t2.0 in
    let whole = Takes-then bytes (head_text head) a.0.1 (flat_map area_text areas ++ flat_map run_text runs) d.0.1 t0.takes lists in
    let takes : Takes bytes (space_text (made head areas runs)) d.0.1 = subst (λ (t : List ℕ). Takes bytes t d.0.1) (parts_text head areas runs t1.1 t2.1) whole in
    let few : length areas ≤ area_limit h.kind = omega (arith, t1.1, t0.few) in
    let space : IsSpace h before (made head areas runs) = record {
      above = t0.above;
      within = t0.within;
      few_areas = omega (arith, few, limit_small h.kind);
      areas = to_areas None areas t1.2;
      runs = to_runs h.parent None runs t2.2;
      covers = covers_so h.kind areas runs few g.0;
    } in
    let here : Takes bytes (space_text (made head areas runs)) d.0.1 × IsSpace h before (made head areas runs) = (takes, space) in
    let pair : Listed × List ℕ = (made head areas runs, d.0.1) in
    subst (λ (y : Listed × List ℕ). Takes bytes (space_text y.0) y.1 × IsSpace h before y.0) {x = pair} (ok_is pair x g.1) here

abbrev head_for : Listed → SpaceHead
head_for s = record { space = s.space; areas = length s.areas; runs = length s.runs }

pub space_again : (h : Header) (before : ℕ) (s : Listed) (rest : List ℕ) → IsSpace h before s → space_at h before (space_text s ++ rest) ≡ Ok (s, rest)
unfolding space_at
space_again h before s rest good =
    let areas_text = flat_map area_text s.areas in
    let runs_text = flat_map run_text s.runs in
    let regrouped : space_text s ++ rest ≡ head_text (head_for s) ++ (areas_text ++ (runs_text ++ rest)) =
    ap (λ (x : List ℕ). x ++ rest) (sym (parts_text (head_for s) s.areas s.runs refl refl)) ∙ append_assoc (head_text (head_for s)) (areas_text ++ runs_text) rest ∙ ap (λ (x : List ℕ). head_text (head_for s) ++ x) (append_assoc areas_text runs_text rest) in
    let head = head_again h.kind before (head_for s) (areas_text ++ (runs_text ++ rest)) good.above good.within (limit_kept h.kind s.areas s.runs good.few_areas good.covers) (runs_few h.parent s.runs good.runs) in
    let areas = many_again area_at Some area_text GoodArea area_again None s.areas (runs_text ++ rest) (from_areas None s.areas good.areas) in
    let runs = many_again (run_at h.parent) Some run_text (GoodRun h.parent) (run_again h.parent) None s.runs rest (from_runs h.parent None s.runs good.runs) in
    ap (space_at h before) regrouped ∙ rw (head, areas, runs, covers_again h.kind s.areas s.runs good.covers) refl

pub to_spaces : (h : Header) (before : ℕ) (spaces : List Listed) → AllFrom (IsSpace h) number_of before spaces → AreSpaces h before spaces
to_spaces h before [] good = tt
to_spaces h before (s ∷ spaces) good = (good.0, to_spaces h s.space spaces good.1)

pub from_spaces : (h : Header) (before : ℕ) (spaces : List Listed) → AreSpaces h before spaces → AllFrom (IsSpace h) number_of before spaces
from_spaces h before [] good = tt
from_spaces h before (s ∷ spaces) good = (good.0, from_spaces h s.space spaces good.1)
