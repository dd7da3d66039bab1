-- A store stays ready for the numbers above its own.
use Rattle.std.proofs.Common.{◌≡◌, ◌<◌, ◌≤◌, ◌+◌, ℕ, zero, suc, false, List, [], ◌∷◌, length, true, slice_set, slice_index_or, sym, subst, inl, inr, arith}
use Rattle.std.proofs.lemmas.List.Elements.{All-contains, All-contains_itself}
use Rattle.sd_image.specs.Image.{Image, IsImage, OpenImages, is_open}
use Rattle.sd_image.specs.Laws.{AreBelow, ReadyAbove, ReadyAgain, ReadyStill, ShownStill}
use Rattle.sd_image.proofs.ShowsLemmas.{Adds, among_added, distinct_added, images_of_opened, true_not_false}

-- an image's file is open
pub image_opens : (file : List ℕ) (i : Image) → IsImage file i → is_open file ≡ true
image_opens file i image = grind arith

below_above : (m n : ℕ) (images : List Image) → m ≤ n → AreBelow m images → AreBelow n images
below_above m n images le below k d within = grind arith

below_added : (n : ℕ) (old new : List Image) (i : Image) → Adds old new i → AreBelow n old → i.header.serial ≡ n → i.header.checkpoint ≡ n
    → AreBelow (n + 1) new
below_added n old new i adds below serial checkpoint k d within =
    let j = slice_index_or new k d in
    let Below : Image → Type 0 = λ (j : Image). (j.header.serial < n + 1) × (j.header.checkpoint < n + 1) in
    elim (among_added old new i j adds (All-contains_itself new k d within)) [
      | inl c ↦ All-contains Below old j (below_above n (n + 1) old (omega arith) below) c
      | inr e ↦ subst Below (sym e) (omega arith, omega arith)
    ]

pub ready_again_lem : ReadyAgain
ready_again_lem contents n slot file i ready within closed image serial checkpoint =
    let o = images_of_opened contents ready.images slot file i ready.store.slots within closed (image_opens file i image) image in
    record {
      images = o.images;
      store = record { slots = o.slots; serials = distinct_added n ready.images o.images i o.adds ready.below serial ready.store.serials };
      below = below_added n ready.images o.images i o.adds ready.below serial checkpoint;
    }

-- a closed file in the place of another
images_still : (contents : List (List ℕ)) (images : List Image) (slot : ℕ) (file : List ℕ)
    → OpenImages contents images → slot < length contents → is_open (slice_index_or contents slot []) ≡ false → is_open file ≡ false
    → OpenImages (slice_set contents slot file) images
images_still [] images slot file slots within closed shut = absurd (omega arith)
images_still (old ∷ contents) images zero file (inl was) within closed shut = inl (shut, was.1)
images_still (old ∷ contents) images zero file (inr was) within closed shut = true_not_false (is_open old) was.3 closed
images_still (old ∷ contents) images (suc slot) file (inl was) within closed shut =
    inl (was.0, images_still contents images slot file was.1 (omega arith) closed shut)
images_still (old ∷ contents) images (suc slot) file (inr was) within closed shut =
    inr (was.0, was.1, was.2, was.3, was.4, images_still contents was.1 slot file was.5 (omega arith) closed shut)

pub ready_still_lem : ReadyStill
ready_still_lem contents n slot file ready within closed shut = record {
  images = ready.images;
  store = record { slots = images_still contents ready.images slot file ready.store.slots within closed shut; serials = ready.store.serials };
  below = ready.below;
}

pub shown_still_lem : ShownStill
shown_still_lem contents shown slot file shows within closed shut = record {
  images = shows.images;
  store = record { slots = images_still contents shows.images slot file shows.store.slots within closed shut; serials = shows.store.serials };
  newest = shows.newest;
}

pub ready_above_lem : ReadyAbove
ready_above_lem contents m n le ready = record { images = ready.images; store = ready.store; below = below_above m n ready.images le ready.below }
