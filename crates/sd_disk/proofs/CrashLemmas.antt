-- One more slot of a disk that is new, or after a crash.
use Rattle.std.proofs.Common.{◌≡◌, ⊎_elim, ℕ, ◌+◌, ◌<◌, ◌≤◌, List, [], ◌∷◌, ◌++◌, length, map, replicate, take, slice_index, slice_index_or, sym, ap, ◌∙◌, subst, arith}
use Rattle.std.proofs.lemmas.Bool.{cases_lt}
use Rattle.std.proofs.lemmas.List.{get_or_append_left, length-append, length-map, map-append, replicate-append-replicate, take_more, get_or-map, get_or_default, same_lists}
use Rattle.std.proofs.Math.Seq.{get_or-append_seam}
use Rattle.sd_disk.specs.Contents.{file_at}
use Rattle.sd_disk.specs.Outcomes.{at_rest}
use Rattle.sd_disk.specs.Slots.{held, room_of, ShadowTracks, AreAtRest}
use Rattle.sd_disk.specs.declared.slot_file.SlotFile.{SlotFile}

module _ (slots : List SlotFile) (new : SlotFile) where
  -- the last slot is the new one
  last : (number : ℕ) (other : SlotFile) → number < length (slots ++ new ∷ []) → length slots ≤ number → slice_index_or (slots ++ new ∷ []) number other ≡ new
  last number other near past =
      let is : number ≡ length slots = omega (arith, length-append slots (new ∷ [])) in
      ap (λ n. slice_index_or (slots ++ new ∷ []) n other) is ∙ get_or-append_seam slots new [] other

  pub rest_pushed : AreAtRest slots → ShadowTracks new.shadow (at_rest (held new)) → AreAtRest (slots ++ new ∷ [])
  rest_pushed rest tracks = λ number slot near here. ⊎_elim
      (λ before. rest number slot before (here ∙ get_or_append_left slots (new ∷ []) slot number before))
      (λ past. subst (λ s. ShadowTracks s.shadow (at_rest (held s))) (sym (here ∙ last number slot near past)) tracks)
      (cases_lt number (length slots))

  -- what holds of each file so far, and of the new one
  pub files_pushed : (P : ℕ → List ℕ → Type 0) → ((number : ℕ) → number < length slots → P number (file_at (map held slots) number))
      → P (length slots) (held new) → (number : ℕ) → number < length slots + 1 → P number (file_at (map held (slots ++ new ∷ [])) number)
  files_pushed P before here number near = ⊎_elim
      (λ earlier. subst (P number) (sym (ap (λ files. file_at files number) (map-append held slots (new ∷ []))
      ∙ get_or_append_left (map held slots) (held new ∷ []) [] number (subst (λ n. number < n) (sym (length-map slots held)) earlier))) (before number earlier))
      (λ past.
      let is : number ≡ length slots = omega arith in
      subst (λ n. P n (file_at (map held (slots ++ new ∷ [])) n)) (sym is)
      (subst (P (length slots)) (sym (ap (λ files. file_at files (length slots)) (map-append held slots (new ∷ []))
      ∙ ap (λ n. file_at (map held slots ++ held new ∷ []) n) (sym (length-map slots held))
      ∙ get_or-append_seam (map held slots) (held new) [] [])) here))
      (cases_lt number (length slots))

  pub rooms_pushed : (rooms : List ℕ) → map room_of slots ≡ take (length slots) rooms → length slots < length rooms
      → room_of new ≡ slice_index rooms (length slots) → map room_of (slots ++ new ∷ []) ≡ take (length slots + 1) rooms
  rooms_pushed rooms before more here = grind (arith, map-append, take_more)

  -- one more that is like the others
  pub alike_pushed : {X : Type 0} (f : SlotFile → X) (count : ℕ) (x : X) → map f slots ≡ replicate count x → f new ≡ x → map f (slots ++ new ∷ []) ≡ replicate (count + 1) x
  alike_pushed f count x before here = map-append f slots (new ∷ []) ∙ ap (λ xs. xs ++ f new ∷ []) before
      ∙ ap (λ y. replicate count x ++ y ∷ []) here ∙ replicate-append-replicate count 1 x

  -- one more that is empty
  pub empty_pushed : (all : List SlotFile) → all ≡ slots ++ new ∷ [] → held new ≡ [] → ShadowTracks new.shadow (at_rest []) → AreAtRest slots → AreAtRest all
  empty_pushed all pushed empty tracks rest =
      subst AreAtRest (sym pushed) (rest_pushed rest (subst (λ file. ShadowTracks new.shadow (at_rest file)) (sym empty) tracks))

pub room_at : (slots : List SlotFile) (number : ℕ) (slot : SlotFile) → number < length slots → slot ≡ slice_index_or slots number slot
    → room_of slot ≡ slice_index (map room_of slots) number
room_at slots number slot near here = ap room_of here ∙ sym (get_or-map room_of slots number slot 0 near)

-- slots that hold these contents
pub files_same : (slots slots' : List SlotFile) (contents : List (List ℕ)) → slots' ≡ slots → length slots ≡ length contents
    → ((number : ℕ) → number < length slots → file_at (map held slots) number ≡ file_at contents number) → map held slots' ≡ contents
files_same slots slots' contents are size same =
    ap (map held) are ∙ same_lists (map held slots) contents (length-map slots held ∙ size) (λ number other near.
    let within : number < length slots = subst (λ n. number < n) (length-map slots held) near in
    get_or_default (map held slots) number other [] near ∙ same number within
    ∙ sym (get_or_default contents number other [] (subst (λ n. number < n) size within)))
