-- The body of an image, as its pages, its table and its header are written.
use Rattle.std.proofs.Common.{◌≡◌, ℕ, ◌≤◌, ◌+◌, ◌-◌, ◌*◌, List, [], ◌∷◌, ◌++◌, length, take, drop, replicate, refl, sym, ◌∙◌, ap, arith, lit≤, length-append, append_assoc, append-nil}
use Rattle.std.specs.List.{concat}
use Rattle.std.proofs.lemmas.List.{drop_all, length-replicate}
use Rattle.std.proofs.lemmas.List.Folds.{concat-append}
use Rattle.std.proofs.Math.Seq.{take-length, drop-append_seam}
use Rattle.sd_image.proofs.HeaderRules.{header_length}
use Rattle.sd_disk.specs.Contents.{file_after_write}
use Rattle.sd_image.specs.declared.header.Header.{Header}
use Rattle.sd_image.specs.declared.header.Version.{Version}
use Rattle.sd_image.specs.Header.{HasWords, IsDigest, header_text}
use Rattle.sd_image.specs.Words.{zero_bytes}
use Rattle.sd_gate.specs.Laws.{AreWholePages, pages_body, page_place}
use Rattle.sd_gate.specs.Sequences.{table_place}

-- a write at or past the end: zeros up to it, and then the bytes
written_behind : (body : List ℕ) (at : ℕ) (bytes : List ℕ) → length body ≤ at → file_after_write body at bytes ≡ (body ++ replicate (at - length body) 0) ++ bytes
written_behind body at bytes short =
    let pad : List ℕ = body ++ replicate (at - length body) 0 in
    let whole : length pad ≡ at = omega (arith, length-append body (replicate (at - length body) 0), length-replicate {A = ℕ} (at - length body) 0) in
    ap (λ xs. take at pad ++ bytes ++ xs) (drop_all (at + length bytes) body (omega arith)) ∙ append-nil (take at pad ++ bytes)
    ∙ ap (λ xs. xs ++ bytes) (ap (λ n. take n pad) (sym whole) ∙ take-length pad)

-- at its end: no zeros between
written_at_end : (body : List ℕ) (at : ℕ) (bytes : List ℕ) → length body ≡ at → file_after_write body at bytes ≡ body ++ bytes
written_at_end body at bytes ends = grind (arith, written_behind, append-nil)

length_concat : (pages : List (List ℕ)) → AreWholePages pages → length (concat pages) ≡ 4096 * length pages
length_concat [] whole = refl
length_concat (page ∷ pages) whole = omega (arith, length-append page (concat pages), length_concat pages whole.1, whole.0)

pub length-zeros : (n : ℕ) → length (zero_bytes n) ≡ n
unfolding zero_bytes
length-zeros n = length-replicate {A = ℕ} n 0

-- after an empty body: the room for the header, and the bytes
first_written : (at : ℕ) (bytes : List ℕ) → at ≡ 4095 → file_after_write [] at bytes ≡ zero_bytes 4095 ++ bytes
unfolding zero_bytes
first_written at bytes is = ap (λ n. file_after_write [] n bytes) is ∙ written_behind [] 4095 bytes (lit≤ tt)

-- bytes after the data pages
behind_pages : (pages : List (List ℕ)) (at : ℕ) (bytes : List ℕ) → AreWholePages pages → at ≡ page_place pages
    → file_after_write (pages_body pages) (at - 1) bytes ≡ zero_bytes 4095 ++ concat pages ++ bytes
unfolding zero_bytes
behind_pages [] at bytes whole is = first_written (at - 1) bytes (omega (arith, is))
behind_pages (page ∷ pages) at bytes whole is =
    let room : length (zero_bytes 4095) ≡ 4095 = length-zeros 4095 in
    let body : length (concat (page ∷ pages)) ≡ 4096 * length (page ∷ pages) = length_concat (page ∷ pages) whole in
    let parts : length (zero_bytes 4095 ++ concat (page ∷ pages)) ≡ length (zero_bytes 4095) + length (concat (page ∷ pages)) = length-append (zero_bytes 4095) (concat (page ∷ pages)) in
    written_at_end (zero_bytes 4095 ++ concat (page ∷ pages)) (at - 1) bytes (omega (arith, is))

concat_snoc : (pages : List (List ℕ)) (page : List ℕ) → concat (pages ++ page ∷ []) ≡ concat pages ++ page
concat_snoc pages page = concat-append pages (page ∷ []) ∙ ap (λ xs. concat pages ++ xs) (append-nil page)

-- a body with a page more
body_snoc : (pages : List (List ℕ)) (page : List ℕ) → pages_body (pages ++ page ∷ []) ≡ zero_bytes 4095 ++ concat (pages ++ page ∷ [])
body_snoc [] page = refl
body_snoc (first ∷ pages) page = refl

pub page_filled : (pages : List (List ℕ)) (page : List ℕ) → AreWholePages pages
    → file_after_write (pages_body pages) (page_place pages - 1) page ≡ pages_body (pages ++ page ∷ [])
page_filled pages page whole = grind (arith, behind_pages, append_assoc, concat_snoc, body_snoc)

-- the header, in its room
header_written : (header rest : List ℕ) → length header ≡ 4095 → file_after_write (zero_bytes 4095 ++ rest) 0 header ≡ header ++ rest
header_written header rest whole =
    let room : length (zero_bytes 4095) ≡ 4095 = length-zeros 4095 in
    let behind : 0 + length header ≡ length (zero_bytes 4095) = omega arith in
    ap (λ n. header ++ drop n (zero_bytes 4095 ++ rest)) behind ∙ ap (λ xs. header ++ xs) (drop-append_seam (zero_bytes 4095) rest)

length-digest : (version : Version) (digest : List ℕ) → IsDigest version digest → length digest ≡ 32
unfolding zero_bytes
length-digest version digest is = grind arith

pub image_filled : (pages : List (List ℕ)) (header : Header) (table : List ℕ) → AreWholePages pages → header.pages ≡ length pages → HasWords header
    → file_after_write (file_after_write (pages_body pages) (table_place header - 1) table) 0 (header_text header) ≡ header_text header ++ concat pages ++ table
image_filled pages header table whole count words = grind (arith, behind_pages, append_assoc, header_written, header_length)
