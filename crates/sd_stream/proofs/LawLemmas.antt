-- No two streams have the same bytes.
use Rattle.std.proofs.Common.{◌≡◌, ℕ, ◌<◌, ◌≤◌, ◌^◌, List, [], ◌∷◌, ◌++◌, length, Option, None, Some, refl, sym, ap, ◌∙◌, append_assoc, arith}
use Rattle.std.specs.Prelude.{flat_map}
use Rattle.std.specs.Int.{from_le_bytes, w64}
use Rattle.std.specs.List.{AllByRecursion}
use Rattle.std.proofs.lemmas.Nat.{from_le_bytes-to_le_bytes_8}
use Rattle.sha2.specs.Sha256.{sha256}
use Rattle.sd_stream.specs.declared.base.Base.{Base}
use Rattle.sd_stream.specs.Stream.{Group, AreGroups, IsBase, IsFileLength, IsStream, base_digest, base_number, base_text, digested_text, group_text, head_text, image_text, magic_text, number_text, record_text, stream_text}

-- fronts of one length are the same, and so are the rests
pub append_apart : (a b x y : List ℕ) → length a ≡ length b → a ++ x ≡ b ++ y → (a ≡ b) × (x ≡ y)
append_apart [] [] x y long same = (refl, same)
append_apart [] (q ∷ b) x y long same = absurd (omega (arith, long))
append_apart (p ∷ a) [] x y long same = absurd (omega (arith, long))
append_apart (p ∷ a) (q ∷ b) x y long same =
    let tails : a ++ x ≡ b ++ y = cc in
    let rest = append_apart a b x y (omega (arith, long)) tails in
    let front : a ≡ b = rest.0 in
    let head : p ∷ a ≡ q ∷ b = cc in
    (head, rest.1)

pub number_apart : (n m : ℕ) (x y : List ℕ) → n < 2 ^ 64 → m < 2 ^ 64 → number_text n ++ x ≡ number_text m ++ y → (n ≡ m) × (x ≡ y)
unfolding number_text
number_apart n m x y fits fits' same =
    let parts = append_apart (number_text n) (number_text m) x y refl same in
    (sym (from_le_bytes-to_le_bytes_8 n fits) ∙ ap (from_le_bytes w64) parts.0 ∙ from_le_bytes-to_le_bytes_8 m fits', parts.1)

pub record_apart : (kind value kind' value' : ℕ) (x y : List ℕ) → kind < 2 ^ 64 → value < 2 ^ 64 → kind' < 2 ^ 64 → value' < 2 ^ 64
    → record_text kind value ++ x ≡ record_text kind' value' ++ y → (kind ≡ kind') × (value ≡ value') × (x ≡ y)
unfolding record_text
record_apart kind value kind' value' x y a b c d same =
    let first = number_apart kind kind' (number_text value ++ x) (number_text value' ++ y) a c (sym (append_assoc (number_text kind) (number_text value) x) ∙ same ∙ append_assoc (number_text kind') (number_text value') y) in
    let second = number_apart value value' x y b d first.1 in
    (first.0, second.0, second.1)

abbrev pub AreFiles : List (List ℕ) → Type 0
AreFiles files = AllByRecursion (λ file. IsFileLength (length file)) files

regroup : (head file images last x : List ℕ) → (((head ++ file) ++ images) ++ last) ++ x ≡ head ++ (file ++ ((images ++ last) ++ x))
regroup head file images last x = simp append_assoc

-- a checkpoint that begins with this image
pub first_image : (file : List ℕ) (files : List (List ℕ)) (number : ℕ) (x : List ℕ)
    → (flat_map image_text (file ∷ files) ++ record_text 2 number) ++ x ≡ record_text 1 (length file) ++ (file ++ ((flat_map image_text files ++ record_text 2 number) ++ x))
first_image file files number x = regroup (record_text 1 (length file)) file (flat_map image_text files) (record_text 2 number) x

pub files_apart : (files files' : List (List ℕ)) (n m : ℕ) (x y : List ℕ) → AreFiles files → AreFiles files' → n < 2 ^ 64 → m < 2 ^ 64
    → (flat_map image_text files ++ record_text 2 n) ++ x ≡ (flat_map image_text files' ++ record_text 2 m) ++ y → (files ≡ files') × (n ≡ m) × (x ≡ y)
files_apart [] [] n m x y all all' fits fits' same =
    let parts = record_apart 2 n 2 m x y (omega arith) fits (omega arith) fits' same in
    (refl, parts.1, parts.2)
files_apart [] (g ∷ files') n m x y all all' fits fits' same =
    let len : length g ≤ 2 ^ 29 = all'.0.1 in
    let parts = record_apart 2 n 1 (length g) x (g ++ ((flat_map image_text files' ++ record_text 2 m) ++ y)) (omega arith) fits (omega arith) (omega (arith, len)) (same ∙ first_image g files' m y) in
    absurd (omega (arith, parts.0))
files_apart (f ∷ files) [] n m x y all all' fits fits' same =
    let len : length f ≤ 2 ^ 29 = all.0.1 in
    let parts = record_apart 1 (length f) 2 m (f ++ ((flat_map image_text files ++ record_text 2 n) ++ x)) y (omega arith) (omega (arith, len)) (omega arith) fits' (sym (first_image f files n x) ∙ same) in
    absurd (omega (arith, parts.0))
files_apart (f ∷ files) (g ∷ files') n m x y all all' fits fits' same =
    let len : length f ≤ 2 ^ 29 = all.0.1 in
    let len' : length g ≤ 2 ^ 29 = all'.0.1 in
    let parts = record_apart 1 (length f) 1 (length g) (f ++ ((flat_map image_text files ++ record_text 2 n) ++ x)) (g ++ ((flat_map image_text files' ++ record_text 2 m) ++ y))
    (omega arith) (omega (arith, len)) (omega arith) (omega (arith, len')) (sym (first_image f files n x) ∙ same ∙ first_image g files' m y) in
    let file = append_apart f g ((flat_map image_text files ++ record_text 2 n) ++ x) ((flat_map image_text files' ++ record_text 2 m) ++ y) parts.1 parts.2 in
    let rest = files_apart files files' n m x y all.1 all'.1 fits fits' file.1 in
    let head : f ≡ g = file.0 in
    let tail : files ≡ files' = rest.0 in
    let both : f ∷ files ≡ g ∷ files' = cc in
    (both, rest.1, rest.2)

pub same_group : (g h : Group) → g.files ≡ h.files → g.number ≡ h.number → g ≡ h
same_group g h files number =
    ap (λ (fs : List (List ℕ)). record { files = fs; number = g.number }) files ∙ ap (λ (n : ℕ). record { files = h.files; number = n }) number

-- a checkpoint doesn't begin as the end does
pub no_end : (files : List (List ℕ)) (number : ℕ) (x y : List ℕ) → AreFiles files → 0 < length files → record_text 3 0 ++ x ≡ (flat_map image_text files ++ record_text 2 number) ++ y → ⊥
no_end [] number x y all some same = absurd (omega (arith, some))
no_end (f ∷ files) number x y all some same =
    let len : length f ≤ 2 ^ 29 = all.0.1 in
    let parts = record_apart 3 0 1 (length f) x (f ++ ((flat_map image_text files ++ record_text 2 number) ++ y)) (omega arith) (omega arith) (omega arith) (omega (arith, len)) (same ∙ first_image f files number y) in
    absurd (omega (arith, parts.0))

groups_apart : (lower lower' : ℕ) (groups others : List Group) (x y : List ℕ) → AreGroups lower groups → AreGroups lower' others
    → flat_map group_text groups ++ (record_text 3 0 ++ x) ≡ flat_map group_text others ++ (record_text 3 0 ++ y) → groups ≡ others
groups_apart lower lower' [] [] x y all all' same = refl
groups_apart lower lower' [] (h ∷ others) x y all all' same =
    absurd (no_end h.files h.number x (flat_map group_text others ++ (record_text 3 0 ++ y)) all'.0.files all'.0.images
    (same ∙ append_assoc (group_text h) (flat_map group_text others) (record_text 3 0 ++ y)))
groups_apart lower lower' (g ∷ groups) [] x y all all' same =
    absurd (no_end g.files g.number y (flat_map group_text groups ++ (record_text 3 0 ++ x)) all.0.files all.0.images
    (sym same ∙ append_assoc (group_text g) (flat_map group_text groups) (record_text 3 0 ++ x)))
groups_apart lower lower' (g ∷ groups) (h ∷ others) x y all all' same =
    let front = files_apart g.files h.files g.number h.number (flat_map group_text groups ++ (record_text 3 0 ++ x)) (flat_map group_text others ++ (record_text 3 0 ++ y))
    all.0.files all'.0.files all.0.fits all'.0.fits
    (sym (append_assoc (group_text g) (flat_map group_text groups) (record_text 3 0 ++ x)) ∙ same ∙ append_assoc (group_text h) (flat_map group_text others) (record_text 3 0 ++ y)) in
    let head : g ≡ h = same_group g h front.0 front.1 in
    let tail : groups ≡ others = groups_apart g.number h.number groups others x y all.1 all'.1 front.2 in
    let both : g ∷ groups ≡ h ∷ others = cc in
    both

pub base_digest_long : (base : Option Base) → IsBase base → length (base_digest base) ≡ 32
base_digest_long None good = refl
base_digest_long (Some base) good = good.2

pub number_fits : (base : Option Base) → IsBase base → base_number base < 2 ^ 64
number_fits None good = omega arith
number_fits (Some base) good = good.1

base_apart : (base other : Option Base) → IsBase base → IsBase other → base_number base ≡ base_number other → base_digest base ≡ base_digest other → base ≡ other
base_apart None None good good' number digest = refl
base_apart None (Some b) good good' number digest = let set : 0 < b.number = good'.0 in absurd (omega (arith, set, number))
base_apart (Some a) None good good' number digest = let set : 0 < a.number = good.0 in absurd (omega (arith, set, number))
base_apart (Some a) (Some b) good good' number digest =
    ap (λ (n : ℕ). Some (record { number = n; digest = a.digest })) number ∙ ap (λ (d : List ℕ). Some (record { number = b.number; digest = d })) digest

pub head_apart : (base other : Option Base) (x y : List ℕ) → IsBase base → IsBase other → head_text base ++ x ≡ head_text other ++ y → (base ≡ other) × (x ≡ y)
unfolding head_text base_text
head_apart base other x y good good' same =
    let front : List ℕ = magic_text ++ number_text 1 in
    let after = append_apart front front (base_text base ++ x) (base_text other ++ y) refl
    (sym (append_assoc front (base_text base) x) ∙ same ∙ append_assoc front (base_text other) y) in
    let number = number_apart (base_number base) (base_number other) (base_digest base ++ x) (base_digest other ++ y) (number_fits base good) (number_fits other good')
    (sym (append_assoc (number_text (base_number base)) (base_digest base) x) ∙ after.1 ∙ append_assoc (number_text (base_number other)) (base_digest other) y) in
    let digest = append_apart (base_digest base) (base_digest other) x y (base_digest_long base good ∙ sym (base_digest_long other good')) number.1 in
    (base_apart base other good good' number.0 digest.0, digest.1)

spread : (head groups last digest : List ℕ) → ((head ++ groups) ++ last) ++ digest ≡ head ++ (groups ++ (last ++ digest))
spread head groups last digest = simp append_assoc

pub spread_stream : (base : Option Base) (groups : List Group) (digest : List ℕ) → digested_text base groups ++ digest ≡ head_text base ++ (flat_map group_text groups ++ (record_text 3 0 ++ digest))
unfolding digested_text
spread_stream base groups digest = spread (head_text base) (flat_map group_text groups) (record_text 3 0) digest

pub streams_apart : (base other : Option Base) (groups others : List Group) → IsStream base groups → IsStream other others → stream_text base groups ≡ stream_text other others
    → (base ≡ other) × (groups ≡ others)
streams_apart base other groups others good good' same =
    let digest : List ℕ = sha256 (digested_text base groups) in
    let digest' : List ℕ = sha256 (digested_text other others) in
    let head = head_apart base other (flat_map group_text groups ++ (record_text 3 0 ++ digest)) (flat_map group_text others ++ (record_text 3 0 ++ digest')) good.0 good'.0
    (sym (spread_stream base groups digest) ∙ same ∙ spread_stream other others digest') in
    (head.0, groups_apart (base_number base) (base_number other) groups others digest digest' good.1 good'.1 head.1)
