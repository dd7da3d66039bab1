-- The bytes of a stream and the order of its records, step by step.
use Rattle.std.proofs.Common.{◌≡◌, ℕ, ◌+◌, ◌<◌, Bool, true, false, List, [], ◌∷◌, ◌++◌, length, Option, None, Some, refl, sym, ap, ◌∙◌, subst, append_assoc, append-nil, length-append, arith}
use Rattle.std.specs.Prelude.{flat_map, option_to_list, option_map}
use Rattle.std.specs.List.{AllByRecursion}
use Rattle.std.proofs.lemmas.List.{flat_map_more}
use Rattle.sd_stream.specs.declared.base.Base.{Base}
use Rattle.sd_stream.specs.Stream.{Group, AreGroups, IsFileLength, IsGroup, digested_text, group_text, head_text, image_text, record_text}
use Rattle.sd_stream.specs.Progress.{Progress, begun_text, files_of, progress_text, started, with_acknowledged, with_bytes, with_image}
use Rattle.sd_stream.specs.Tallies.{IsBegun, last_number}

-- ---- the bytes

-- the images so far, where the last of them is whole
pub whole_images : (front : List ℕ) (files : List (List ℕ)) (file : Option (List ℕ)) → (front ++ flat_map image_text files) ++ begun_text file 0 ≡ front ++ flat_map image_text (files ++ option_to_list file)
whole_images front files None =
    append-nil (front ++ flat_map image_text files) ∙ ap (λ (fs : List (List ℕ)). front ++ flat_map image_text fs) (sym (append-nil files))
whole_images front files (Some file) =
    let same : length file + 0 ≡ length file = omega arith in
    ap (λ (n : ℕ). (front ++ flat_map image_text files) ++ (record_text 1 n ++ file)) same ∙ flat_map_more image_text front files file

pub started_text : (base : Option Base) → progress_text (started base) 0 ≡ head_text base
unfolding progress_text
started_text base = simp append-nil

pub image_step : (p : Progress) (len : ℕ) → progress_text (with_image p) len ≡ progress_text p 0 ++ record_text 1 len
unfolding progress_text
image_step p len =
    let front : List ℕ = head_text p.base ++ flat_map group_text p.groups in
    let images : List ℕ = front ++ flat_map image_text (files_of p) in
    let none : 0 + len ≡ len = omega arith in
    ap (λ (n : ℕ). images ++ (record_text 1 n ++ [])) none
    ∙ ap (λ (x : List ℕ). images ++ x) (append-nil (record_text 1 len))
    ∙ ap (λ (x : List ℕ). x ++ record_text 1 len) (sym (whole_images front p.files p.file))

-- bytes after an image that was begun, or none
begun_more : (front bytes : List ℕ) (file : Option (List ℕ)) (files : List (List ℕ)) (left rest : ℕ) (waiting : Bool)
    → rest + length bytes ≡ left → IsBegun file files left waiting
    → front ++ begun_text (option_map (λ (x : List ℕ). x ++ bytes) file) rest ≡ (front ++ begun_text file left) ++ bytes
begun_more front [] None files left rest waiting few begun = sym (append-nil (front ++ []))
begun_more front (x ∷ bytes) None files left rest waiting few begun =
    let none : left ≡ 0 = begun.1 in
    absurd (omega (arith, none, few))
begun_more front bytes (Some file) files left rest waiting few begun =
    let count : length (file ++ bytes) + rest ≡ length file + left = omega (arith, length-append file bytes) in
    let head : List ℕ = record_text 1 (length file + left) in
    ap (λ (n : ℕ). front ++ (record_text 1 n ++ (file ++ bytes))) count
    ∙ ap (λ (x : List ℕ). front ++ x) (sym (append_assoc head file bytes))
    ∙ sym (append_assoc front (head ++ file) bytes)

pub bytes_step : (p : Progress) (bytes : List ℕ) (left rest : ℕ) (waiting : Bool) → rest + length bytes ≡ left → IsBegun p.file p.files left waiting
    → progress_text (with_bytes p bytes) rest ≡ progress_text p left ++ bytes
unfolding progress_text
bytes_step p bytes left rest waiting few begun =
    begun_more (head_text p.base ++ flat_map group_text p.groups ++ flat_map image_text p.files) bytes p.file p.files left rest waiting few begun

pub acknowledged_step : (p : Progress) (number : ℕ) → progress_text (with_acknowledged p number) 0 ≡ progress_text p 0 ++ record_text 2 number
unfolding progress_text
acknowledged_step p number =
    let front : List ℕ = head_text p.base ++ flat_map group_text p.groups in
    let group : Group = record { files = files_of p; number = number } in
    let images : List ℕ = flat_map image_text (files_of p) in
    append-nil ((head_text p.base ++ flat_map group_text (p.groups ++ group ∷ [])) ++ [])
    ∙ append-nil (head_text p.base ++ flat_map group_text (p.groups ++ group ∷ []))
    ∙ sym (flat_map_more group_text (head_text p.base) p.groups group)
    ∙ sym (append_assoc front images (record_text 2 number))
    ∙ ap (λ (x : List ℕ). x ++ record_text 2 number) (sym (whole_images front p.files p.file))

-- no image came since the last checkpoint
nothing_begun : (front : List ℕ) (file : Option (List ℕ)) (files : List (List ℕ)) (left : ℕ) → IsBegun file files left false → (front ++ flat_map image_text files) ++ begun_text file left ≡ front
nothing_begun front None files left begun =
    let none : files ≡ [] = begun.0 in
    append-nil (front ++ flat_map image_text files) ∙ ap (λ (fs : List (List ℕ)). front ++ flat_map image_text fs) none ∙ append-nil front
nothing_begun front (Some file) files left begun = absurd (let e : false ≡ true = begun.1 in cc)

pub end_step : (p : Progress) (left : ℕ) → IsBegun p.file p.files left false → digested_text p.base p.groups ≡ progress_text p left ++ record_text 3 0
unfolding progress_text digested_text
end_step p left begun =
    ap (λ (x : List ℕ). x ++ record_text 3 0) (sym (nothing_begun (head_text p.base ++ flat_map group_text p.groups) p.file p.files left begun))

-- ---- the order

abbrev IsFile : List ℕ → Type 0
IsFile file = IsFileLength (length file)

all_more : (files : List (List ℕ)) (file : List ℕ) → AllByRecursion IsFile files → IsFile file → AllByRecursion IsFile (files ++ file ∷ [])
all_more [] file all one = (one, tt)
all_more (f ∷ files) file all one = (all.0, all_more files file all.1 one)

-- the images so far are files, where the last of them is whole
pub whole_files : (files : List (List ℕ)) (file : Option (List ℕ)) (waiting : Bool) → AllByRecursion IsFile files → IsBegun file files 0 waiting → AllByRecursion IsFile (files ++ option_to_list file)
whole_files files None waiting all begun = subst (AllByRecursion IsFile) (sym (append-nil files)) all
whole_files files (Some file) waiting all begun =
    let same : length file + 0 ≡ length file = omega arith in
    all_more files file all (subst IsFileLength same begun.0)

-- where images wait, there is one
pub some_files : (files : List (List ℕ)) (file : Option (List ℕ)) (left : ℕ) → IsBegun file files left true → 0 < length (files ++ option_to_list file)
some_files files None left begun = absurd (let e : true ≡ false = begun.2 in cc)
some_files files (Some file) left begun = omega (arith, length-append files (file ∷ []))

pub groups_more : (lower : ℕ) (groups : List Group) (group : Group) → AreGroups lower groups → IsGroup (last_number lower groups) group → AreGroups lower (groups ++ group ∷ [])
groups_more lower [] group all one = (one, tt)
groups_more lower (g ∷ groups) group all one = (all.0, groups_more g.number groups group all.1 one)

pub last_more : (lower : ℕ) (groups : List Group) (group : Group) → last_number lower (groups ++ group ∷ []) ≡ group.number
last_more lower [] group = refl
last_more lower (g ∷ groups) group = last_more g.number groups group

-- an image goes on by bytes
pub begun_on : (bytes : List ℕ) (file : Option (List ℕ)) (files : List (List ℕ)) (left rest : ℕ) (waiting : Bool)
    → rest + length bytes ≡ left → IsBegun file files left waiting → IsBegun (option_map (λ (x : List ℕ). x ++ bytes) file) files rest waiting
begun_on bytes None files left rest waiting few begun =
    let none : left ≡ 0 = begun.1 in
    (begun.0, omega (arith, none, few), begun.2)
begun_on bytes (Some file) files left rest waiting few begun =
    let count : length file + left ≡ length (file ++ bytes) + rest = omega (arith, length-append file bytes) in
    (subst IsFileLength count begun.0, begun.1)
