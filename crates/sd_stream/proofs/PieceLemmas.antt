-- Bytes that are written or read in several calls.
use Rattle.std.proofs.Common.{◌≡◌, ℕ, ◌+◌, ◌-◌, ◌<◌, List, [], ◌++◌, Option, length, take, drop, sym, ap, ◌∙◌, subst, append_assoc, append-nil, take-append-drop, length-append, length-take, arith}
use Rattle.std.proofs.lemmas.List.{take_rest, take-take, drop-take}
use Rattle.std.specs.Io.KnownBytes.{Appends, Consumes, Keeps}
use Rattle.std.proofs.KnownBytes.{Appends-kept, Appends-nil, Consumes-trans}
use Rattle.sd_stream.specs.declared.stream_error.StreamError.{StreamError}
use Rattle.sd_stream.specs.declared.stream_error.StreamError.TheVariants as read
use Rattle.sd_stream.specs.Pieces.{WritesBeginning, IsCutOff}

-- what stays grows by nothing
pub nothing_more : (a b : Option (List ℕ)) → Keeps a b → Appends a b []
nothing_more a b kept = Appends-kept a a b [] (Appends-nil a) kept

-- some more of the rest is written
pub some_more : (all done rest : List ℕ) (n : ℕ) → all ≡ done ++ rest → all ≡ (done ++ take n rest) ++ take (length rest - n) (drop n rest)
some_more all done rest n e = grind (arith, take-append-drop, append_assoc, take_rest)

-- what is written is a beginning, also where nothing more is
pub begun : (a b c : Option (List ℕ)) (all done rest : List ℕ) → all ≡ done ++ rest → Appends a b done → Appends b c [] → WritesBeginning a c all
begun a b c all done rest split written none = grind (arith, append-nil)

-- the first bytes, and some more after them
pub take_on : (n m : ℕ) (xs : List ℕ) → take n xs ++ take m (drop n xs) ≡ take (n + m) xs
take_on n m xs =
    let front : take n (take (n + m) xs) ≡ take n xs = take-take n (n + m) xs (omega arith) in
    let back : drop n (take (n + m) xs) ≡ take m (drop n xs) = drop-take n m xs in
    ap (λ (x : List ℕ). x ++ take m (drop n xs)) (sym front) ∙ ap (λ (x : List ℕ). take n (take (n + m) xs) ++ x) (sym back) ∙ take-append-drop n (take (n + m) xs)

-- some more of a buffer is read
pub read_on : (a b c : Option (List ℕ)) (old new : List ℕ) (n m : ℕ) → Consumes a b (take n old) → take n new ≡ take n old → Consumes b c (take m (drop n new)) → Consumes a c (take (n + m) new)
read_on a b c old new n m first same more =
    subst (Consumes a c) (ap (λ (x : List ℕ). x ++ take m (drop n new)) (sym same) ∙ take_on n m new) (Consumes-trans a b c (take n old) (take m (drop n new)) first more)

-- a read that is cut off after some of a buffer
pub cut_after : (a b c : Option (List ℕ)) (buffer : List ℕ) (n wanted : ℕ) (error : StreamError) → n < wanted → Consumes a b (take n buffer) → IsCutOff b c 1 error → IsCutOff a c wanted error
cut_after a b c buffer n wanted read.EndsEarly few first cut =
    record {
      front = take n buffer ++ cut.front;
      short = omega (arith, cut.short, length-append (take n buffer) cut.front, length-take n buffer);
      taken = Consumes-trans a b c (take n buffer) cut.front first cut.taken;
      end = cut.end;
    }
cut_after a b c buffer n wanted (read.Input _) few first cut = tt
cut_after a b c buffer n wanted read.NotAStream few first cut = absurd cut
cut_after a b c buffer n wanted (read.Version _) few first cut = absurd cut
cut_after a b c buffer n wanted read.BaseWithoutNumber few first cut = absurd cut
cut_after a b c buffer n wanted (read.UnknownKind _) few first cut = absurd cut
cut_after a b c buffer n wanted (read.Length _) few first cut = absurd cut
cut_after a b c buffer n wanted (read.WithoutImages _) few first cut = absurd cut
cut_after a b c buffer n wanted (read.NotAbove _) few first cut = absurd cut
cut_after a b c buffer n wanted read.ImagesLeft few first cut = absurd cut
cut_after a b c buffer n wanted (read.EndValue _) few first cut = absurd cut
cut_after a b c buffer n wanted read.DigestDiffers few first cut = absurd cut
cut_after a b c buffer n wanted read.BytesAfterEnd few first cut = absurd cut
cut_after a b c buffer n wanted read.BytesLeft few first cut = absurd cut
cut_after a b c buffer n wanted read.Over few first cut = absurd cut
