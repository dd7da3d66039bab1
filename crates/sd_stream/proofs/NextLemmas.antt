-- What comes next in a stream of which a beginning was taken.
use Rattle.std.proofs.Common.{◌≡◌, ℕ, ◌<◌, ◌≤◌, ◌^◌, ◌+◌, Bool, true, false, List, [], ◌∷◌, ◌++◌, length, Option, None, Some, refl, sym, ap, ◌∙◌, subst, inl, inr, append_assoc, append-nil, length-append, take, replicate, arith}
use Rattle.std.proofs.lemmas.List.{take_at}
use Rattle.std.specs.Prelude.{◌⊎◌, flat_map, option_to_list}
use Rattle.std.specs.List.{AllByRecursion}
use Rattle.sha2.specs.Hashers.{Holds256}
use Rattle.sha2.specs.Sha256.{digest_bytes, sha256}
use Rattle.sd_stream.specs.declared.base.Base.{Base}
use Rattle.sd_stream.specs.declared.tally.Tally.{Tally}
use Rattle.sd_stream.specs.declared.stream_error.StreamError.{StreamError}
use Rattle.sd_stream.specs.declared.stream_error.StreamError.TheVariants as read
use Rattle.sd_stream.specs.Stream.{Group, AreGroups, IsFileLength, IsBase, IsStream, base_digest, base_number, base_text, digested_text, group_text, head_text, image_text, magic_text, number_text, record_text, stream_text}
use Rattle.sd_stream.specs.Progress.{Progress, begun_text, files_of, progress_text}
use Rattle.sd_stream.specs.Tallies.{HasTaken, IsBegun, IsInOrder, last_number}
use Rattle.sd_stream.specs.Laws.{IsInput}
use Rattle.sd_stream.specs.Reading.{BeginsDigest, BeginsEnd, BeginsRefused, BeginsWith, HasNoNumber, IsEndFault, IsHeadFault, IsRecordFault, IsRefused}
use Rattle.sd_stream.proofs.StepLemmas.{end_step, whole_files, whole_images}
use Rattle.sd_stream.proofs.LawLemmas.{AreFiles, append_apart, base_digest_long, files_apart, first_image, head_apart, no_end, number_apart, number_fits, record_apart, same_group, spread_stream}

-- ---- what may come next

-- the head of an image
pub record ImageNext (rest : List ℕ) : Type 0 where
  pub len : ℕ
  pub after : List ℕ
  pub text : rest ≡ record_text 1 len ++ after
  pub fits : IsFileLength len
  pub long : len ≤ length after

-- the number of a checkpoint
pub record NumberNext (lower : ℕ) (files : List (List ℕ)) (rest : List ℕ) : Type 0 where
  pub number : ℕ
  pub after : List ℕ
  pub text : rest ≡ record_text 2 number ++ after
  pub above : lower < number
  pub fits : number < 2 ^ 64
  pub some : 0 < length files

-- the end
pub record EndNext (groups others : List Group) (files : List (List ℕ)) (rest digest : List ℕ) : Type 0 where
  pub same : groups ≡ others
  pub none : files ≡ []
  pub text : rest ≡ record_text 3 0 ++ digest

abbrev Next : ℕ → List Group → List Group → List (List ℕ) → List ℕ → List ℕ → Type 0
Next lower groups others files rest digest = ImageNext rest ⊎ (NumberNext (last_number lower groups) files rest ⊎ EndNext groups others files rest digest)

begun_image : (file : List ℕ) (files : List (List ℕ)) (rest : List ℕ) → flat_map image_text (file ∷ files) ++ rest ≡ record_text 1 (length file) ++ (file ++ (flat_map image_text files ++ rest))
begun_image file files rest =
    append_assoc (record_text 1 (length file) ++ file) (flat_map image_text files) rest
    ∙ append_assoc (record_text 1 (length file)) file (flat_map image_text files ++ rest)

small : (file : List ℕ) → IsFileLength (length file) → length file < 2 ^ 64
small file fits = let len : length file ≤ 2 ^ 29 = fits.1 in omega (arith, len)

-- within the images of a checkpoint
in_group : (files others : List (List ℕ)) (n : ℕ) (rest y : List ℕ) → AreFiles files → AreFiles others → n < 2 ^ 64
    → flat_map image_text files ++ rest ≡ (flat_map image_text others ++ record_text 2 n) ++ y → ImageNext rest ⊎ ((files ≡ others) × (rest ≡ record_text 2 n ++ y))
in_group [] [] n rest y all all' fits same = inr (refl, same)
in_group [] (g ∷ others) n rest y all all' fits same =
    let after : List ℕ = (flat_map image_text others ++ record_text 2 n) ++ y in
    inl (record { len = length g; after = g ++ after; text = same ∙ first_image g others n y; fits = all'.0; long = omega (arith, length-append g after) })
in_group (f ∷ files) [] n rest y all all' fits same =
    let parts = record_apart 1 (length f) 2 n (f ++ (flat_map image_text files ++ rest)) y (omega arith) (small f all.0) (omega arith) fits (sym (begun_image f files rest) ∙ same) in
    absurd (omega (arith, parts.0))
in_group (f ∷ files) (g ∷ others) n rest y all all' fits same =
    let parts = record_apart 1 (length f) 1 (length g) (f ++ (flat_map image_text files ++ rest)) (g ++ ((flat_map image_text others ++ record_text 2 n) ++ y))
    (omega arith) (small f all.0) (omega arith) (small g all'.0) (sym (begun_image f files rest) ∙ same ∙ first_image g others n y) in
    let file = append_apart f g (flat_map image_text files ++ rest) ((flat_map image_text others ++ record_text 2 n) ++ y) parts.1 parts.2 in
    joined f g files others n rest y file.0 (in_group files others n rest y all.1 all'.1 fits file.1)
  where
    joined : (f g : List ℕ) (files others : List (List ℕ)) (n : ℕ) (rest y : List ℕ) → f ≡ g → ImageNext rest ⊎ ((files ≡ others) × (rest ≡ record_text 2 n ++ y))
        → ImageNext rest ⊎ ((f ∷ files ≡ g ∷ others) × (rest ≡ record_text 2 n ++ y))
    joined f g files others n rest y e (inl image) = inl image
    joined f g files others n rest y e (inr both) =
        let tail : files ≡ others = both.0 in
        let whole : f ∷ files ≡ g ∷ others = cc in
        inr (whole, both.1)

-- after the images of a checkpoint its number comes
numbered : (lower : ℕ) (g : Group) (others : List Group) (files : List (List ℕ)) (rest y digest : List ℕ) → lower < g.number → g.number < 2 ^ 64 → 0 < length g.files
    → ImageNext rest ⊎ ((files ≡ g.files) × (rest ≡ record_text 2 g.number ++ y)) → Next lower [] (g ∷ others) files rest digest
numbered lower g others files rest y digest above fits some (inl image) = inl image
numbered lower g others files rest y digest above fits some (inr both) =
    inr (inl (record { number = g.number; after = y; text = both.1; above = above; fits = fits; some = subst (λ (fs : List (List ℕ)). 0 < length fs) (sym both.0) some }))

-- the same after one more checkpoint
later : (lower : ℕ) (p g : Group) (groups others : List Group) (files : List (List ℕ)) (rest digest : List ℕ) → p ≡ g → Next p.number groups others files rest digest
    → Next lower (p ∷ groups) (g ∷ others) files rest digest
later lower p g groups others files rest digest e (inl image) = inl image
later lower p g groups others files rest digest e (inr (inl number)) = inr (inl number)
later lower p g groups others files rest digest e (inr (inr end)) =
    let tail : groups ≡ others = end.same in
    let whole : p ∷ groups ≡ g ∷ others = cc in
    inr (inr (record { same = whole; none = end.none; text = end.text }))

in_groups : (lower lower' : ℕ) (groups others : List Group) (files : List (List ℕ)) (rest digest : List ℕ) → lower ≡ lower' → AreGroups lower groups → AreGroups lower' others → AreFiles files
    → flat_map group_text groups ++ (flat_map image_text files ++ rest) ≡ flat_map group_text others ++ (record_text 3 0 ++ digest) → Next lower groups others files rest digest
in_groups lower lower' [] [] [] rest digest e all all' fine same = inr (inr (record { same = refl; none = refl; text = same }))
in_groups lower lower' [] [] (f ∷ files) rest digest e all all' fine same =
    let parts = record_apart 1 (length f) 3 0 (f ++ (flat_map image_text files ++ rest)) digest (omega arith) (small f fine.0) (omega arith) (omega arith) (sym (begun_image f files rest) ∙ same) in
    absurd (omega (arith, parts.0))
in_groups lower lower' [] (g ∷ others) files rest digest e all all' fine same =
    let above : lower < g.number = subst (λ (n : ℕ). n < g.number) (sym e) all'.0.number in
    let y : List ℕ = flat_map group_text others ++ (record_text 3 0 ++ digest) in
    numbered lower g others files rest y digest above all'.0.fits all'.0.images
    (in_group files g.files g.number rest y fine all'.0.files all'.0.fits (same ∙ append_assoc (group_text g) (flat_map group_text others) (record_text 3 0 ++ digest)))
in_groups lower lower' (p ∷ groups) [] files rest digest e all all' fine same =
    absurd (no_end p.files p.number digest (flat_map group_text groups ++ (flat_map image_text files ++ rest)) all.0.files all.0.images
    (sym same ∙ append_assoc (group_text p) (flat_map group_text groups) (flat_map image_text files ++ rest)))
in_groups lower lower' (p ∷ groups) (g ∷ others) files rest digest e all all' fine same =
    let front = files_apart p.files g.files p.number g.number (flat_map group_text groups ++ (flat_map image_text files ++ rest)) (flat_map group_text others ++ (record_text 3 0 ++ digest))
    all.0.files all'.0.files all.0.fits all'.0.fits
    (sym (append_assoc (group_text p) (flat_map group_text groups) (flat_map image_text files ++ rest)) ∙ same ∙ append_assoc (group_text g) (flat_map group_text others) (record_text 3 0 ++ digest)) in
    later lower p g groups others files rest digest (same_group p g front.0 front.1)
    (in_groups p.number g.number groups others files rest digest front.1 all.1 all'.1 fine front.2)

-- ---- a stream of which a beginning was taken

spread_rest : (head groups images rest : List ℕ) → ((head ++ groups) ++ images) ++ rest ≡ head ++ (groups ++ (images ++ rest))
spread_rest head groups images rest = simp append_assoc

taken_text : (p : Progress) (rest : List ℕ) → progress_text p 0 ++ rest ≡ head_text p.base ++ (flat_map group_text p.groups ++ (flat_map image_text (files_of p) ++ rest))
unfolding progress_text
taken_text p rest =
    ap (λ (x : List ℕ). x ++ rest) (whole_images (head_text p.base ++ flat_map group_text p.groups) p.files p.file)
    ∙ spread_rest (head_text p.base) (flat_map group_text p.groups) (flat_map image_text (files_of p)) rest

pub next_is : (p : Progress) (highest : ℕ) (waiting : Bool) (base : Option Base) (groups : List Group) (rest : List ℕ) → IsInOrder p highest 0 waiting → IsStream base groups
    → progress_text p 0 ++ rest ≡ stream_text base groups → Next (base_number p.base) p.groups groups (files_of p) rest (sha256 (digested_text base groups))
next_is p highest waiting base groups rest order good same =
    let digest : List ℕ = sha256 (digested_text base groups) in
    let head = head_apart p.base base (flat_map group_text p.groups ++ (flat_map image_text (files_of p) ++ rest)) (flat_map group_text groups ++ (record_text 3 0 ++ digest)) order.base good.0
    (sym (taken_text p rest) ∙ same ∙ spread_stream base groups digest) in
    in_groups (base_number p.base) (base_number base) p.groups groups (files_of p) rest digest (ap base_number head.0) order.groups good.1
    (whole_files p.files p.file waiting order.files order.file) head.1

base_is : (p : Progress) (highest : ℕ) (waiting : Bool) (base : Option Base) (groups : List Group) (rest : List ℕ) → IsInOrder p highest 0 waiting → IsStream base groups
    → progress_text p 0 ++ rest ≡ stream_text base groups → p.base ≡ base
base_is p highest waiting base groups rest order good same =
    let digest : List ℕ = sha256 (digested_text base groups) in
    (head_apart p.base base (flat_map group_text p.groups ++ (flat_map image_text (files_of p) ++ rest)) (flat_map group_text groups ++ (record_text 3 0 ++ digest)) order.base good.0
    (sym (taken_text p rest) ∙ same ∙ spread_stream base groups digest)).0

-- ---- and no fault

record_long : (kind value : ℕ) → length (record_text kind value) ≡ 16
unfolding record_text number_text
record_long kind value = refl

digest_long : (text : List ℕ) → length (sha256 text) ≡ 32
unfolding sha256 digest_bytes
digest_long text = refl

-- a record that isn't refused, before which nothing is cut off
pub record IsFine (tally : Tally) (rest : List ℕ) : Type 0 where
  pub kind : ℕ
  pub value : ℕ
  pub kind_fits : kind < 2 ^ 64
  pub value_fits : value < 2 ^ 64
  pub after : List ℕ
  pub text : rest ≡ record_text kind value ++ after
  pub taken : (error : StreamError) → IsRefused tally kind value error → ⊥
  pub end : (error : StreamError) → kind ≡ 3 → IsEndFault tally after error → IsInput error

not_short : (tally : Tally) (rest : List ℕ) → IsFine tally rest → length rest < 16 → ⊥
not_short tally rest fine short =
    let count = ap length fine.text in
    let long = record_long fine.kind fine.value in
    absurd (omega (arith, count, long, short, length-append (record_text fine.kind fine.value) fine.after))

refused_not : (tally : Tally) (rest : List ℕ) (error : StreamError) → IsFine tally rest → BeginsRefused tally rest error → ⊥
refused_not tally rest error fine b =
    let parts = record_apart fine.kind fine.value b.kind b.value fine.after b.after fine.kind_fits fine.value_fits b.kind_fits b.value_fits (sym fine.text ∙ b.text) in
    fine.taken error (subst (λ (k : ℕ). IsRefused tally k fine.value error) (sym parts.0) (subst (λ (v : ℕ). IsRefused tally b.kind v error) (sym parts.1) b.refused))

not_ended : (tally : Tally) (rest : List ℕ) (error : StreamError) → IsFine tally rest → BeginsEnd tally rest error → IsInput error
not_ended tally rest error fine b =
    let parts = record_apart fine.kind fine.value 3 0 fine.after b.after fine.kind_fits fine.value_fits (omega arith) (omega arith) (sym fine.text ∙ b.text) in
    fine.end error parts.0 (subst (λ (a : List ℕ). IsEndFault tally a error) (sym parts.2) b.fault)

fine_read : (tally : Tally) (rest : List ℕ) (error : StreamError) → IsFine tally rest → IsRecordFault tally rest error → IsInput error
fine_read tally rest (read.Input _) fine fault = tt
fine_read tally rest read.EndsEarly fine (inl short) = absurd (not_short tally rest fine short)
fine_read tally rest read.EndsEarly fine (inr b) = not_ended tally rest read.EndsEarly fine b
fine_read tally rest read.NotAStream fine (inl b) = absurd (refused_not tally rest read.NotAStream fine b)
fine_read tally rest read.NotAStream fine (inr b) = not_ended tally rest read.NotAStream fine b
fine_read tally rest (read.Version n) fine (inl b) = absurd (refused_not tally rest (read.Version n) fine b)
fine_read tally rest (read.Version n) fine (inr b) = not_ended tally rest (read.Version n) fine b
fine_read tally rest read.BaseWithoutNumber fine (inl b) = absurd (refused_not tally rest read.BaseWithoutNumber fine b)
fine_read tally rest read.BaseWithoutNumber fine (inr b) = not_ended tally rest read.BaseWithoutNumber fine b
fine_read tally rest (read.UnknownKind n) fine (inl b) = absurd (refused_not tally rest (read.UnknownKind n) fine b)
fine_read tally rest (read.UnknownKind n) fine (inr b) = not_ended tally rest (read.UnknownKind n) fine b
fine_read tally rest (read.Length n) fine (inl b) = absurd (refused_not tally rest (read.Length n) fine b)
fine_read tally rest (read.Length n) fine (inr b) = not_ended tally rest (read.Length n) fine b
fine_read tally rest (read.WithoutImages n) fine (inl b) = absurd (refused_not tally rest (read.WithoutImages n) fine b)
fine_read tally rest (read.WithoutImages n) fine (inr b) = not_ended tally rest (read.WithoutImages n) fine b
fine_read tally rest (read.NotAbove n) fine (inl b) = absurd (refused_not tally rest (read.NotAbove n) fine b)
fine_read tally rest (read.NotAbove n) fine (inr b) = not_ended tally rest (read.NotAbove n) fine b
fine_read tally rest read.ImagesLeft fine (inl b) = absurd (refused_not tally rest read.ImagesLeft fine b)
fine_read tally rest read.ImagesLeft fine (inr b) = not_ended tally rest read.ImagesLeft fine b
fine_read tally rest (read.EndValue n) fine (inl b) = absurd (refused_not tally rest (read.EndValue n) fine b)
fine_read tally rest (read.EndValue n) fine (inr b) = not_ended tally rest (read.EndValue n) fine b
fine_read tally rest read.DigestDiffers fine (inl b) = absurd (refused_not tally rest read.DigestDiffers fine b)
fine_read tally rest read.DigestDiffers fine (inr b) = not_ended tally rest read.DigestDiffers fine b
fine_read tally rest read.BytesAfterEnd fine (inl b) = absurd (refused_not tally rest read.BytesAfterEnd fine b)
fine_read tally rest read.BytesAfterEnd fine (inr b) = not_ended tally rest read.BytesAfterEnd fine b
fine_read tally rest read.BytesLeft fine (inl b) = absurd (refused_not tally rest read.BytesLeft fine b)
fine_read tally rest read.BytesLeft fine (inr b) = not_ended tally rest read.BytesLeft fine b
fine_read tally rest read.Over fine (inl b) = absurd (refused_not tally rest read.Over fine b)
fine_read tally rest read.Over fine (inr b) = not_ended tally rest read.Over fine b

known_kind : (k : ℕ) → 0 < k → k ≤ 3 → (k ≡ 0) ⊎ (3 < k) → ⊥
known_kind k above below (inl e) = absurd (omega (arith, e, above))
known_kind k above below (inr e) = absurd (omega (arith, e, below))

right_length : (len : ℕ) → IsFileLength len → (len ≡ 0) ⊎ (2 ^ 29 < len) → ⊥
right_length len fits (inl e) = let some : 0 < len = fits.0 in absurd (omega (arith, e, some))
right_length len fits (inr e) = let few : len ≤ 2 ^ 29 = fits.1 in absurd (omega (arith, e, few))

image_taken : (tally : Tally) (len : ℕ) (error : StreamError) → IsFileLength len → IsRefused tally 1 len error → ⊥
image_taken tally len (read.UnknownKind n) fits r = known_kind 1 (omega arith) (omega arith) r.1
image_taken tally len (read.Length n) fits r = right_length len fits r.2
image_taken tally len (read.WithoutImages n) fits r = let e : 1 ≡ 2 = r.0 in absurd (omega (arith, e))
image_taken tally len (read.NotAbove n) fits r = let e : 1 ≡ 2 = r.0 in absurd (omega (arith, e))
image_taken tally len read.ImagesLeft fits r = let e : 1 ≡ 3 = r.0 in absurd (omega (arith, e))
image_taken tally len (read.EndValue n) fits r = let e : 1 ≡ 3 = r.0 in absurd (omega (arith, e))
image_taken tally len _ fits r = r

number_taken : (tally : Tally) (number : ℕ) (error : StreamError) → tally.waiting ≡ true → tally.last < number → IsRefused tally 2 number error → ⊥
number_taken tally number (read.UnknownKind n) some above r = known_kind 2 (omega arith) (omega arith) r.1
number_taken tally number (read.Length n) some above r = let e : 2 ≡ 1 = r.0 in absurd (omega (arith, e))
number_taken tally number (read.WithoutImages n) some above r = let e : true ≡ false = sym some ∙ r.2 in absurd (cc)
number_taken tally number (read.NotAbove n) some above r = let e : number ≤ tally.last = r.2 in absurd (omega (arith, e, above))
number_taken tally number read.ImagesLeft some above r = let e : 2 ≡ 3 = r.0 in absurd (omega (arith, e))
number_taken tally number (read.EndValue n) some above r = let e : 2 ≡ 3 = r.0 in absurd (omega (arith, e))
number_taken tally number _ some above r = r

end_taken : (tally : Tally) (error : StreamError) → tally.waiting ≡ false → IsRefused tally 3 0 error → ⊥
end_taken tally (read.UnknownKind n) none r = known_kind 3 (omega arith) (omega arith) r.1
end_taken tally (read.Length n) none r = let e : 3 ≡ 1 = r.0 in absurd (omega (arith, e))
end_taken tally (read.WithoutImages n) none r = let e : 3 ≡ 2 = r.0 in absurd (omega (arith, e))
end_taken tally (read.NotAbove n) none r = let e : 3 ≡ 2 = r.0 in absurd (omega (arith, e))
end_taken tally read.ImagesLeft none r = let e : false ≡ true = sym none ∙ r.1 in absurd (cc)
end_taken tally (read.EndValue n) none r = let e : 0 < 0 = r.2 in absurd (omega (arith, e))
end_taken tally _ none r = r

waits : (files : List (List ℕ)) (file : Option (List ℕ)) (left : ℕ) (waiting : Bool) → IsBegun file files left waiting → 0 < length (files ++ option_to_list file) → waiting ≡ true
waits files None left waiting begun some =
    let none = ap (λ (fs : List (List ℕ)). length (fs ++ [])) begun.0 in
    absurd (omega (arith, none, some))
waits files (Some file) left waiting begun some = begun.1

waits_not : (files : List (List ℕ)) (file : Option (List ℕ)) (left : ℕ) (waiting : Bool) → IsBegun file files left waiting → files ++ option_to_list file ≡ [] → waiting ≡ false
waits_not files None left waiting begun none = begun.2
waits_not files (Some file) left waiting begun none =
    let count = ap length none in
    absurd (omega (arith, count, length-append files (file ∷ [])))

-- the digest at the end is the right one
digest_read : (tally : Tally) (text due : List ℕ) (error : StreamError) → Holds256 tally.hasher text → due ≡ sha256 (text ++ record_text 3 0) → length due ≡ 32
    → IsEndFault tally due error → IsInput error
digest_read tally text due (read.Input _) held is long fault = tt
digest_read tally text due read.EndsEarly held is long fault = let short : length due < 32 = fault in absurd (omega (arith, short, long))
digest_read tally text due read.DigestDiffers held is long fault =
    let begins : BeginsDigest due fault.0 fault.1 = fault.2 in
    let same = append_apart fault.0 due fault.1 [] (begins.long ∙ sym long) (sym begins.text ∙ sym (append-nil due)) in
    absurd (fault.3 text held (same.0 ∙ is))
digest_read tally text due read.BytesAfterEnd held is long fault =
    let begins : BeginsDigest due fault.0 fault.1 = fault.2 in
    let some : 0 < length fault.1 = fault.3 in
    let count = ap length begins.text in
    absurd (omega (arith, count, long, begins.long, some, length-append fault.0 fault.1))
digest_read tally text due _ held is long fault = absurd fault

fine_next : (tally : Tally) (p : Progress) (base : Option Base) (groups : List Group) (rest : List ℕ) → HasTaken tally p → tally.left ≡ 0
    → Next (base_number p.base) p.groups groups (files_of p) rest (sha256 (digested_text base groups)) → p.base ≡ base → IsFine tally rest
fine_next tally p base groups rest taken left (inl image) same =
    let few : image.len ≤ 2 ^ 29 = image.fits.1 in
    record {
      kind = 1;
      value = image.len;
      kind_fits = omega arith;
      value_fits = omega (arith, few);
      after = image.after;
      text = image.text;
      taken = λ error r. image_taken tally image.len error image.fits r;
      end = λ error e fault. absurd (omega (arith, e));
    }
fine_next tally p base groups rest taken left (inr (inl number)) same =
    record {
      kind = 2;
      value = number.number;
      kind_fits = omega arith;
      value_fits = number.fits;
      after = number.after;
      text = number.text;
      taken = λ error r. number_taken tally number.number error (waits p.files p.file tally.left tally.waiting taken.order.file number.some)
          (subst (λ (n : ℕ). n < number.number) (sym taken.order.last) number.above) r;
      end = λ error e fault. absurd (omega (arith, e));
    }
fine_next tally p base groups rest taken left (inr (inr end)) same =
    let due : List ℕ = sha256 (digested_text base groups) in
    let none : tally.waiting ≡ false = waits_not p.files p.file tally.left tally.waiting taken.order.file end.none in
    let text : digested_text p.base p.groups ≡ progress_text p tally.left ++ record_text 3 0 = end_step p tally.left (subst (IsBegun p.file p.files tally.left) none taken.order.file) in
    let whole : digested_text base groups ≡ progress_text p tally.left ++ record_text 3 0 =
    ap (λ (b : Option Base). digested_text b groups) (sym same) ∙ ap (digested_text p.base) (sym end.same) ∙ text in
    record {
      kind = 3;
      value = 0;
      kind_fits = omega arith;
      value_fits = omega arith;
      after = due;
      text = end.text;
      taken = λ error r. end_taken tally error none r;
      end = λ error e fault. digest_read tally (progress_text p tally.left) due error taken.hashed (ap sha256 whole) (digest_long (digested_text base groups)) fault;
    }

-- a reader that took a beginning of a stream is not refused what comes next
pub item_read : (tally : Tally) (p : Progress) (base : Option Base) (groups : List Group) (rest : List ℕ) (error : StreamError) → IsStream base groups → HasTaken tally p → tally.left ≡ 0
    → progress_text p tally.left ++ rest ≡ stream_text base groups → IsRecordFault tally rest error → IsInput error
item_read tally p base groups rest error good taken left same fault =
    let order : IsInOrder p tally.last 0 tally.waiting = subst (λ (n : ℕ). IsInOrder p tally.last n tally.waiting) left taken.order in
    let whole : progress_text p 0 ++ rest ≡ stream_text base groups = ap (λ (n : ℕ). progress_text p n ++ rest) (sym left) ∙ same in
    fine_read tally rest error (fine_next tally p base groups rest taken left (next_is p tally.last tally.waiting base groups rest order good whole) (base_is p tally.last tally.waiting base groups rest order good whole)) fault

-- the bytes of an image that are left are there
image_left : (file : List ℕ) (left : ℕ) (lower : ℕ) (groups others : List Group) (files : List (List ℕ)) (rest digest : List ℕ) → IsFileLength (length file + left)
    → Next lower groups others files (record_text 1 (length file + left) ++ (file ++ rest)) digest → left ≤ length rest
image_left file left lower groups others files rest digest fits next = by next
  where
    few : length file + left < 2 ^ 64
    few = let most : length file + left ≤ 2 ^ 29 = fits.1 in omega (arith, most)

    by : Next lower groups others files (record_text 1 (length file + left) ++ (file ++ rest)) digest → left ≤ length rest
    by (inl image) =
        let most : image.len ≤ 2 ^ 29 = image.fits.1 in
        let parts = record_apart 1 (length file + left) 1 image.len (file ++ rest) image.after (omega arith) few (omega arith) (omega (arith, most)) image.text in
        let count = ap length parts.2 in
        omega (arith, parts.1, count, image.long, length-append file rest)
    by (inr (inl number)) =
        let parts = record_apart 1 (length file + left) 2 number.number (file ++ rest) number.after (omega arith) few (omega arith) number.fits number.text in
        absurd (omega (arith, parts.0))
    by (inr (inr end)) =
        let parts = record_apart 1 (length file + left) 3 0 (file ++ rest) digest (omega arith) few (omega arith) (omega arith) end.text in
        absurd (omega (arith, parts.0))

spread_image : (head groups images begun file rest : List ℕ) → (((head ++ groups) ++ images) ++ (begun ++ file)) ++ rest ≡ head ++ (groups ++ (images ++ (begun ++ (file ++ rest))))
spread_image head groups images begun file rest = simp append_assoc

part_text : (p : Progress) (file : List ℕ) (left : ℕ) (rest : List ℕ) → p.file ≡ Some file
    → progress_text p left ++ rest ≡ head_text p.base ++ (flat_map group_text p.groups ++ (flat_map image_text p.files ++ (record_text 1 (length file + left) ++ (file ++ rest))))
unfolding progress_text
part_text p file left rest is =
    ap (λ (x : Option (List ℕ)). (head_text p.base ++ flat_map group_text p.groups ++ flat_map image_text p.files ++ begun_text x left) ++ rest) is
    ∙ spread_image (head_text p.base) (flat_map group_text p.groups) (flat_map image_text p.files) (record_text 1 (length file + left)) file rest

pub bytes_left : (p : Progress) (highest left : ℕ) (waiting : Bool) (base : Option Base) (groups : List Group) (rest : List ℕ) → IsStream base groups → IsInOrder p highest left waiting
    → progress_text p left ++ rest ≡ stream_text base groups → left ≤ length rest
bytes_left p highest left waiting base groups rest good order same = by p.file refl
  where
    by : (file : Option (List ℕ)) → p.file ≡ file → left ≤ length rest
    by None is =
        let begun : IsBegun None p.files left waiting = subst (λ (f : Option (List ℕ)). IsBegun f p.files left waiting) is order.file in
        let none : left ≡ 0 = begun.1 in
        omega (arith, none)
    by (Some file) is =
        let begun : IsBegun (Some file) p.files left waiting = subst (λ (f : Option (List ℕ)). IsBegun f p.files left waiting) is order.file in
        let digest : List ℕ = sha256 (digested_text base groups) in
        let part : List ℕ = record_text 1 (length file + left) ++ (file ++ rest) in
        let head = head_apart p.base base (flat_map group_text p.groups ++ (flat_map image_text p.files ++ part)) (flat_map group_text groups ++ (record_text 3 0 ++ digest)) order.base good.0
        (sym (part_text p file left rest is) ∙ same ∙ spread_stream base groups digest) in
        image_left file left (base_number p.base) p.groups groups p.files rest digest begun.0
        (in_groups (base_number p.base) (base_number base) p.groups groups p.files part digest (ap base_number head.0) order.groups good.1 order.files head.1)

-- ---- the head

head_long : (base : Option Base) → IsBase base → length (head_text base) ≡ 56
unfolding head_text base_text magic_text number_text
head_long base good =
    let digest = base_digest_long base good in
    let front : List ℕ = magic_text ++ number_text 1 in
    omega (arith, length-append front (base_text base), length-append (number_text (base_number base)) (base_digest base), digest)

head_begins : (base : Option Base) (x : List ℕ) → head_text base ++ x ≡ magic_text ++ (number_text 1 ++ (number_text (base_number base) ++ (base_digest base ++ x)))
unfolding head_text base_text
head_begins base x = spread_head magic_text (number_text 1) (number_text (base_number base)) (base_digest base) x
  where
    spread_head : (a b c d x : List ℕ) → ((a ++ b) ++ (c ++ d)) ++ x ≡ a ++ (b ++ (c ++ (d ++ x)))
    spread_head a b c d x = simp append_assoc

magic_long : length magic_text ≡ 8
unfolding magic_text
magic_long = refl

no_number : (base : Option Base) → IsBase base → base_number base ≡ 0 → base_digest base ≡ replicate 32 0
no_number None good none = refl
no_number (Some base) good none = let some : 0 < base.number = good.0 in absurd (omega (arith, some, none))

spread_front : (a b c x : List ℕ) → ((a ++ b) ++ c) ++ x ≡ a ++ (b ++ (c ++ x))
spread_front a b c x = simp append_assoc

-- the head of a stream is not refused
pub head_read_again : (base : Option Base) (x rest : List ℕ) (error : StreamError) → IsBase base → rest ≡ head_text base ++ x → IsHeadFault rest error → IsInput error
head_read_again base x rest (read.Input _) good is fault = tt
head_read_again base x rest read.EndsEarly good is fault =
    let short : length rest < 56 = fault in
    let count = ap length is in
    absurd (omega (arith, short, count, head_long base good, length-append (head_text base) x))
head_read_again base x rest read.NotAStream good is fault =
    absurd (fault (ap (λ (t : List ℕ). take 8 t) (is ∙ head_begins base x) ∙ take_at magic_text (number_text 1 ++ (number_text (base_number base) ++ (base_digest base ++ x))) 8 magic_long))
head_read_again base x rest (read.Version n) good is fault =
    let begins : BeginsWith rest (magic_text ++ number_text n) = fault.0 in
    let fits : n < 2 ^ 64 = fault.2 in
    let whole = sym (append_assoc magic_text (number_text n) begins.after) in
    let front = append_apart magic_text magic_text (number_text n ++ begins.after) (number_text 1 ++ (number_text (base_number base) ++ (base_digest base ++ x))) refl
    (whole ∙ sym begins.text ∙ is ∙ head_begins base x) in
    let number = number_apart n 1 begins.after (number_text (base_number base) ++ (base_digest base ++ x)) fits (omega arith) front.1 in
    absurd (fault.1 number.0)
head_read_again base x rest read.BaseWithoutNumber good is fault =
    let text : List ℕ = fault.0 in
    let begins : BeginsWith rest ((magic_text ++ number_text 1) ++ text) = fault.1 in
    let lacks : HasNoNumber text = fault.2 in
    let front = append_apart magic_text magic_text (number_text 1 ++ (text ++ begins.after)) (number_text 1 ++ (number_text (base_number base) ++ (base_digest base ++ x))) refl
    (sym (spread_front magic_text (number_text 1) text begins.after) ∙ sym begins.text ∙ is ∙ head_begins base x) in
    let version = append_apart (number_text 1) (number_text 1) (text ++ begins.after) (number_text (base_number base) ++ (base_digest base ++ x)) refl front.1 in
    let number = number_apart 0 (base_number base) (lacks.digest ++ begins.after) (base_digest base ++ x) (omega arith) (number_fits base good)
    (sym (append_assoc (number_text 0) lacks.digest begins.after) ∙ ap (λ (t : List ℕ). t ++ begins.after) (sym lacks.text) ∙ version.1) in
    let digest = append_apart lacks.digest (base_digest base) begins.after x (lacks.long ∙ sym (base_digest_long base good)) number.1 in
    absurd (lacks.set (digest.0 ∙ no_number base good (sym number.0)))
head_read_again base x rest _ good is fault = absurd fault
