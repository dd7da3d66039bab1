-- The text of an image's line.
use Rattle.std.proofs.Common.{◌≡◌, ℕ, List, [], ◌∷◌, ◌++◌, append_assoc, codes, ap, ◌∙◌}
use Rattle.std.specs.Fmt.{decimal}
use Rattle.sd_image.specs.declared.header.Header.{Header}
use Rattle.sd_chain.specs.Catalog.{Opened}
use Rattle.sd_exit.specs.Texts.{slot_text}
use Rattle.sd_image.specs.Words.{kind_name}
use Rattle.sd_readers.specs.Listing.{image_line}

-- what an image's line has after the slot
abbrev pub rest_of_line : List ℕ → Header → List ℕ
rest_of_line kind h = (32 ∷ (kind ++ (codes " serial " ++ (decimal h.serial ++ (codes " stands " ++ (decimal h.stands_for
    ++ (codes " parent " ++ (decimal h.parent ++ (codes " checkpoint " ++ (decimal h.checkpoint ++ (codes " pages " ++ decimal h.pages))))))))))) ++ 10 ∷ []

pub line_written : (i : Opened) (slot : ℕ) (h : Header) (kind old mid new : List ℕ) → slot ≡ i.slot → h ≡ i.header → kind ≡ kind_name h.kind
    → mid ≡ old ++ (codes "slot " ++ slot_text slot) → new ≡ mid ++ rest_of_line kind h → new ≡ old ++ image_line i
line_written i slot h kind old mid new at is named begun ended =
    let whole : new ≡ old ++ image_line (record { slot = slot; header = h; spaces = i.spaces }) =
    ended ∙ ap (λ text. text ++ rest_of_line kind h) begun ∙ ap (λ k. old ++ (codes "slot " ++ slot_text slot) ++ rest_of_line k h) named ∙ simp (append_assoc) in
    whole ∙ ap (λ s. old ++ image_line (record { slot = s; header = h; spaces = i.spaces })) at ∙ ap (λ g. old ++ image_line (record { slot = i.slot; header = g; spaces = i.spaces })) is
