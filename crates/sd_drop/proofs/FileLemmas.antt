-- Contents, file by file.
use Rattle.std.proofs.Common.{◌≡◌, ◌≢◌, ◌<◌, ℕ, List, [], length, slice_set, refl, sym, ◌∙◌, ap, subst, inl, inr}
use Rattle.std.proofs.lemmas.Bool.{cases_eq}
use Rattle.std.proofs.lemmas.Grind.{get_or-set_at}
use Rattle.std.proofs.lemmas.List.{ext_get_or, get_or-set_other, length-set}
use Rattle.sd_disk.specs.Contents.{file_at}
use Rattle.sd_drop.specs.Closing.{closed_at}

-- two contents with the same files are the same
pub same_files : (a b : List (List ℕ)) → length a ≡ length b → ((k : ℕ) → k < length a → file_at a k ≡ file_at b k) → a ≡ b
same_files a b count each = ext_get_or [] a b count each

-- two contents of as many slots that have the same files in all slots but one
pub record AreAlikeBut (slot : ℕ) (a b : List (List ℕ)) : Type 0 where
  pub count : length a ≡ length b
  pub others : (other : ℕ) → other ≢ slot → file_at a other ≡ file_at b other

-- are the same where that slot has one file in both
pub alike_same : (slot : ℕ) (a b : List (List ℕ)) → AreAlikeBut slot a b → file_at a slot ≡ file_at b slot → a ≡ b
alike_same slot a b alike here = same_files a b alike.count (λ k within. elim (cases_eq k slot) [
  | inl same ↦ ap (file_at a) same ∙ here ∙ sym (ap (file_at b) same)
  | inr other ↦ alike.others k other
])

pub at_set : (xs : List (List ℕ)) (slot : ℕ) (file : List ℕ) → slot < length xs → file_at (slice_set xs slot file) slot ≡ file
at_set xs slot file within = get_or-set_at xs slot slot file [] refl within

pub other_set : (xs : List (List ℕ)) (slot other : ℕ) (file : List ℕ) → other ≢ slot → file_at (slice_set xs slot file) other ≡ file_at xs other
other_set xs slot other file apart = get_or-set_other xs slot other file [] apart

-- the file of a slot that is there makes the difference
pub alike_set : (slot : ℕ) (a b : List (List ℕ)) (file : List ℕ) → slot < length a → AreAlikeBut slot a b → file_at b slot ≡ file → slice_set a slot file ≡ b
alike_set slot a b file within alike here = alike_same slot (slice_set a slot file) b
    (record { count = length-set a slot file ∙ alike.count; others = λ other apart. other_set a slot other file apart ∙ alike.others other apart })
    (at_set a slot file within ∙ sym here)

-- and none where that slot counts as closed
pub closed_alike : (slot : ℕ) (a b : List (List ℕ)) → slot < length a → AreAlikeBut slot a b → closed_at a slot ≡ closed_at b slot
closed_alike slot a b within alike = alike_set slot a (closed_at b slot) [] within
    (record { count = alike.count ∙ sym (length-set b slot []); others = λ other apart. alike.others other apart ∙ sym (other_set b slot other [] apart) })
    (at_set b slot [] (subst (λ n. slot < n) alike.count within))
