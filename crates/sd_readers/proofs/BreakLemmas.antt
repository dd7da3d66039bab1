-- Texts that are broken off.
use Rattle.std.proofs.Common.{◌≡◌, ◌<◌, ◌≤◌, ◌+◌, ◌-◌, ℕ, codes, List, [], ◌∷◌, ◌++◌, Option, Result, refl, sym, ◌∙◌, ap, arith, take, drop, length, slice_index_or, map, append_assoc, append-nil}
use Rattle.std.specs.List.{flat_map}
use Rattle.std.specs.Io.KnownBytes.{Appends}
use Rattle.std.proofs.lemmas.Grind.{flat_map-append}
use Rattle.sd_exit.specs.declared.stop.Stop.{Stop}
use Rattle.sd_exit.specs.Ending.{OnFault}
use Rattle.sd_exit.specs.Texts.{PrintsBeginning}
use Rattle.sd_exit.proofs.EndingLemmas.{on_fault}
use Rattle.std.specs.Fmt.{decimal}
use Rattle.std.proofs.lemmas.List.Elements.{filter-append}
use Rattle.sd_image.specs.declared.table.SpaceTable.{SpaceTable}
use Rattle.sd_image.specs.Table.{listing_of}
use Rattle.sd_restore.specs.declared.placed_run.PlacedRun.{PlacedRun}
use Rattle.sd_restore.specs.Placed.{PlacedPage, pages_in, placed_pages}
use Rattle.sd_restore.proofs.RunLemmas.{first_pages}
use Rattle.sd_restore.proofs.TakeLemmas.{split_parts}
use Rattle.sd_readers.specs.Texts.{part_of_run, placed_lines, placed_memory_text, placed_space_text, placed_text}
use Rattle.sd_readers.proofs.PageLemmas.{first_more}

-- all of it is one
pub begins_all : (a b : Option (List ℕ)) (text : List ℕ) → Appends a b text → PrintsBeginning a b text
begins_all a b text p = record { front = text; rest = []; whole = append-nil text; printed = p }

-- some of it is one
pub begun : (a b : Option (List ℕ)) (bs rest ds : List ℕ) → bs ++ rest ≡ ds → Appends a b bs → PrintsBeginning a b ds
begun a b bs rest ds e p = record { front = bs; rest = rest; whole = e; printed = p }

-- after some of it a beginning of what comes next is one of the whole
pub begins_behind : (a b c : Option (List ℕ)) (bs cs rest ds : List ℕ) → bs ++ cs ++ rest ≡ ds → Appends a b bs → PrintsBeginning b c cs → PrintsBeginning a c ds
begins_behind a b c bs cs rest ds e p q = grind (arith, append_assoc)

-- where a fault stops what comes next
pub broken_off : (result : Result Unit Stop) (a b c : Option (List ℕ)) (bs cs rest ds : List ℕ) → bs ++ cs ++ rest ≡ ds → Appends a b bs
    → OnFault result (PrintsBeginning b c cs) → OnFault result (PrintsBeginning a c ds)
broken_off result a b c bs cs rest ds e p = on_fault result (begins_behind a b c bs cs rest ds e p)

-- ---- pages of a run

module _ (contents : List (List ℕ)) (r : PlacedRun) (d n : ℕ) where
  -- so many pages, so many more, and the others
  run_parts : (m : ℕ) → d + n + m ≡ r.count → flat_map (placed_text contents) (first_pages r d) ++ part_of_run contents r d n ++ part_of_run contents r (d + n) m
      ≡ flat_map (placed_text contents) (pages_in r)
  run_parts m is = grind (arith, first_more, first_pages)

  pub run_broken : (result : Result Unit Stop) (a b c : Option (List ℕ)) → d + n ≤ r.count → Appends a b (flat_map (placed_text contents) (first_pages r d))
      → OnFault result (PrintsBeginning b c (part_of_run contents r d n)) → OnFault result (PrintsBeginning a c (flat_map (placed_text contents) (pages_in r)))
  run_broken result a b c fits =
      let m : ℕ = r.count - (d + n) in
      broken_off result a b c (flat_map (placed_text contents) (first_pages r d)) (part_of_run contents r d n) (part_of_run contents r (d + n) m)
      (flat_map (placed_text contents) (pages_in r)) (run_parts m (omega (arith, fits)))

-- ---- pages of a space

lines_joined : (contents : List (List ℕ)) (space : ℕ) (xs ys : List PlacedPage) → placed_lines contents space (xs ++ ys) ≡ placed_lines contents space xs ++ placed_lines contents space ys
lines_joined contents space xs ys = grind (arith, filter-append, flat_map-append)

module _ (contents : List (List ℕ)) (space : ℕ) (runs : List PlacedRun) (i : ℕ) (r : PlacedRun) (less : i < length runs) (is : r ≡ slice_index_or runs i r) where
  space_parts : placed_lines contents space (placed_pages (take i runs)) ++ placed_lines contents space (pages_in r) ++ placed_lines contents space (placed_pages (drop (i + 1) runs))
      ≡ placed_lines contents space (placed_pages runs)
  space_parts =
      ap (λ xs. xs ++ placed_lines contents space (placed_pages (drop (i + 1) runs))) (sym (lines_joined contents space (placed_pages (take i runs)) (pages_in r)))
      ∙ sym (lines_joined contents space (placed_pages (take i runs) ++ pages_in r) (placed_pages (drop (i + 1) runs)))
      ∙ ap (placed_lines contents space) (sym (split_parts pages_in runs i r less is))

  pub space_broken : (result : Result Unit Stop) (a b c : Option (List ℕ)) → Appends a b (placed_lines contents space (placed_pages (take i runs)))
      → OnFault result (PrintsBeginning b c (placed_lines contents space (pages_in r))) → OnFault result (PrintsBeginning a c (placed_lines contents space (placed_pages runs)))
  space_broken result a b c =
      broken_off result a b c (placed_lines contents space (placed_pages (take i runs))) (placed_lines contents space (pages_in r))
      (placed_lines contents space (placed_pages (drop (i + 1) runs))) (placed_lines contents space (placed_pages runs)) space_parts

-- ---- spaces of a memory

module _ (contents : List (List ℕ)) (checkpoint : ℕ) (items : List SpaceTable) (pages : List PlacedPage) (i : ℕ) (s : SpaceTable) (less : i < length items)
    (is : s ≡ slice_index_or items i s) where
  abbrev lines_of : SpaceTable → List ℕ
  lines_of t = placed_space_text contents pages (listing_of t)

  abbrev head_line : List ℕ
  head_line = codes "checkpoint " ++ decimal checkpoint ++ 10 ∷ []

  listed : (ts : List SpaceTable) → flat_map (placed_space_text contents pages) (map listing_of ts) ≡ flat_map lines_of ts
  listed [] = refl
  listed (t ∷ ts) = ap (λ xs. lines_of t ++ xs) (listed ts)

  memory_parts : placed_memory_text contents checkpoint (map listing_of (take i items)) pages ++ lines_of s ++ flat_map lines_of (drop (i + 1) items)
      ≡ placed_memory_text contents checkpoint (map listing_of items) pages
  memory_parts =
      ap (λ xs. xs ++ flat_map lines_of (drop (i + 1) items)) (append_assoc head_line (flat_map (placed_space_text contents pages) (map listing_of (take i items))) (lines_of s))
      ∙ append_assoc head_line (flat_map (placed_space_text contents pages) (map listing_of (take i items)) ++ lines_of s) (flat_map lines_of (drop (i + 1) items))
      ∙ ap (λ xs. head_line ++ xs)
      (ap (λ xs. xs ++ lines_of s ++ flat_map lines_of (drop (i + 1) items)) (listed (take i items)) ∙ sym (split_parts lines_of items i s less is) ∙ sym (listed items))

  pub memory_broken : (result : Result Unit Stop) (a b c : Option (List ℕ)) → Appends a b (placed_memory_text contents checkpoint (map listing_of (take i items)) pages)
      → OnFault result (PrintsBeginning b c (placed_space_text contents pages (listing_of s)))
      → OnFault result (PrintsBeginning a c (placed_memory_text contents checkpoint (map listing_of items) pages))
  memory_broken result a b c =
      broken_off result a b c (placed_memory_text contents checkpoint (map listing_of (take i items)) pages) (lines_of s) (flat_map lines_of (drop (i + 1) items))
      (placed_memory_text contents checkpoint (map listing_of items) pages) memory_parts

-- ---- the first lines

pub checkpoint_line : (number rest : List ℕ) → codes "checkpoint " ++ (number ++ 10 ∷ []) ++ rest ≡ codes "checkpoint " ++ number ++ 10 ∷ [] ++ rest
checkpoint_line number rest = simp (append_assoc)

pub space_line : (number areas lines : List ℕ) → codes "space " ++ (number ++ 10 ∷ []) ++ (areas ++ lines) ≡ codes "space " ++ number ++ 10 ∷ [] ++ areas ++ lines
space_line number areas lines = simp (append_assoc)

pub space_and_areas : (number areas lines : List ℕ) → codes "space " ++ (number ++ 10 ∷ []) ++ areas ++ lines ++ [] ≡ codes "space " ++ number ++ 10 ∷ [] ++ areas ++ lines
space_and_areas number areas lines = simp (append_assoc, append-nil)
