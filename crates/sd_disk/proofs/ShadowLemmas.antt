-- What a shadow says of what a crash may leave.
use Rattle.std.proofs.Common.{◌≡◌, ℕ, ◌<◌, ◌≤◌, false, List, length, take, slice_index, slice_index_or, sym, ap, ◌∙◌, arith}
use Rattle.std.proofs.lemmas.Grind.{same_number_lists}
use Rattle.std.proofs.lemmas.List.{get_or-take, length-take}
use Rattle.sd_disk.specs.Outcomes.{Unsynced, Leaves}
use Rattle.sd_disk.specs.Slots.{ShadowTracks}
use Rattle.sd_disk.specs.declared.shadow.Shadow.{Shadow}

module _ (shadow : Shadow) (known : Unsynced) (tracks : ShadowTracks shadow known) where
  synced_size : length known.synced ≡ shadow.synced_len
  synced_size = sym (ap length tracks.synced) ∙ omega (arith, length-take shadow.synced_len shadow.synced.items, shadow.within)

  synced_at : (place : ℕ) → place < shadow.synced_len → slice_index known.synced place ≡ slice_index shadow.synced.items place
  synced_at place near = sym (ap (λ file. slice_index file place) tracks.synced) ∙ get_or-take shadow.synced_len shadow.synced.items place 0 near

  -- a file whose places hold their synced bytes, where they have to, and whose length is within the bounds
  pub picked_leaves : (room : List ℕ) (len : ℕ) → shadow.least ≤ len → len ≤ shadow.greatest → len ≤ length room
      → ((place : ℕ) → place < len → slice_index_or shadow.touched.items place false ≡ false → place < shadow.synced_len
      → slice_index room place ≡ slice_index shadow.synced.items place)
      → Leaves known (take len room)
  picked_leaves room len least greatest fits kept = grind (arith, length-take, get_or-take)

  -- an outcome has the synced byte where it has to
  pub left_kept : (file : List ℕ) → Leaves known file → (place : ℕ) → place < length file
      → slice_index_or shadow.touched.items place false ≡ false → place < shadow.synced_len → slice_index file place ≡ slice_index shadow.synced.items place
  left_kept file left place near free was_synced =
      left.untouched place near (omega (arith, was_synced, synced_size)) (sym (tracks.touched place) ∙ free) ∙ synced_at place was_synced

-- a room that has the bytes of a file
pub same_front : (room file : List ℕ) (len : ℕ) → len ≤ length room → len ≡ length file
    → ((place : ℕ) → place < len → slice_index room place ≡ slice_index file place) → take len room ≡ file
same_front room file len fits is same = grind (arith, length-take, same_number_lists, get_or-take)
