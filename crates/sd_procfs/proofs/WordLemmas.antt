-- Words that are written one after the other.
use Rattle.std.proofs.Common.{◌≡◌, ◌+◌, ◌*◌, ◌≤◌, ℕ, List, [], ◌∷◌, ◌++◌, length, map, take, refl, ◌∙◌, ap, arith, append-nil}
use Rattle.std.specs.List.{flat_map, range_with_len}
use Rattle.std.specs.Int.{bytes_low_first}
use Rattle.std.proofs.lemmas.Grind.{flat_map-append}
use Rattle.std.proofs.lemmas.List.FromFn.{map-range_with_len_more}
use Rattle.std.proofs.lemmas.Slice.{take-put_mid}
use borrow.Rule.Slice.PartMut.{put_mid}
use Rattle.sd_pagetable.specs.Contents.{Contents, word_at}
use Rattle.sd_procfs.specs.Words.{words_text}

pub no_words : (memory : Contents) (space first : ℕ) → words_text memory space first 0 ≡ []
unfolding words_text
no_words memory space first = refl

pub one_word_more : (memory : Contents) (space first count : ℕ) → words_text memory space first (count + 1) ≡ words_text memory space first count ++ bytes_low_first 0 8 (word_at memory space (first + count))
unfolding words_text
one_word_more memory space first count =
    let words = map (word_at memory space) (range_with_len first count) in
    ap (flat_map (bytes_low_first 0 8)) (map-range_with_len_more (word_at memory space) first count (first + count) refl)
    ∙ flat_map-append (bytes_low_first 0 8) words (word_at memory space (first + count) ∷ [])
    ∙ ap (λ xs. flat_map (bytes_low_first 0 8) words ++ xs) (append-nil (bytes_low_first 0 8 (word_at memory space (first + count))))

-- the words with one more written after them
pub written_more : (memory : Contents) (space first count : ℕ) (k : ℕ) (words bytes : List ℕ) → take (8 * count) words ≡ words_text memory space first count
    → 8 * count ≤ length words → bytes ≡ bytes_low_first 0 8 (word_at memory space (first + count))
    → take (8 * (count + 1)) (put_mid (8 * count) k words bytes) ≡ words_text memory space first (count + 1)
written_more memory space first count k words bytes so_far room is = grind (arith, take-put_mid, one_word_more)
