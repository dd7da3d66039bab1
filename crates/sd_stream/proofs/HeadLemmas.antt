-- The head of a stream, written and read.
use Rattle.std.proofs.Common.{◌≡◌, ℕ, ◌<◌, ◌^◌, List, ◌++◌, length, take, drop, Option, None, Some, IfSome, refl, sym, ap, ◌∙◌, subst, take-append-drop, length-take, length-drop, arith}
use Rattle.std.proofs.lemmas.List.{take_all}
use Rattle.std.specs.Io.KnownBytes.{Appends, Consumes}
use Rattle.std.proofs.KnownBytes.{Consumes-trans}
use Rattle.sd_stream.specs.declared.base.Base.{Base}
use Rattle.sd_stream.specs.declared.reader.StreamReader.{StreamReader}
use Rattle.sd_stream.specs.declared.writer.StreamWriter.{StreamWriter}
use Rattle.sd_stream.specs.declared.stream_error.StreamError.{StreamError}
use Rattle.sd_stream.specs.declared.stream_error.StreamError.TheVariants as read
use Rattle.sd_stream.specs.Progress.{progress_text, started}
use Rattle.sd_stream.specs.Reading.{HasRead, IsHeadFault, IsNumberless}
use Rattle.sd_stream.specs.Stream.{IsBase, base_digest, base_number, base_text, head_text, magic_text, number_text}
use Rattle.sd_stream.specs.Tallies.{HasTaken}
use Rattle.sd_stream.specs.Writing.{HasNumber, HasWritten}
use Rattle.sd_stream.proofs.StepLemmas.{started_text}

-- eight bytes and the others
pub halves : (text front back first second : List ℕ) → front ≡ take 8 text → back ≡ drop 8 text → take 8 front ≡ first → back ≡ second → text ≡ first ++ second
halves text front back first second f b is same =
    let whole : take 8 front ≡ front = take_all 8 front (omega (arith, ap length f, length-take 8 text)) in
    let head : take 8 text ≡ first = sym f ∙ sym whole ∙ is in
    let tail : drop 8 text ≡ second = sym b ∙ same in
    sym (take-append-drop 8 text) ∙ ap (λ (x : List ℕ). x ++ drop 8 text) head ∙ ap (λ (x : List ℕ). first ++ x) tail

-- twice eight bytes
pub two_halves : (text front back first second : List ℕ) → length text ≡ 16 → front ≡ take 8 text → back ≡ drop 8 text → take 8 front ≡ first → take 8 back ≡ second → text ≡ first ++ second
two_halves text front back first second long f b is same =
    let whole : take 8 back ≡ back = take_all 8 back (omega (arith, ap length b, length-drop 8 text)) in
    halves text front back first second f b is (sym whole ∙ same)

-- a base of this number and digest stands there
pub base_read : (text front back : List ℕ) (base : Option Base) → front ≡ take 8 text → back ≡ drop 8 text → take 8 front ≡ number_text (base_number base) → back ≡ base_digest base → text ≡ base_text base
unfolding base_text
base_read text front back base f b is same = halves text front back (number_text (base_number base)) (base_digest base) f b is same

pub is_base : (base : Option Base) → HasNumber base → base_number base < 2 ^ 64 → length (base_digest base) ≡ 32 → IsBase base
is_base None has fits long = tt
is_base (Some base) has fits long = (has, fits, long)

-- the front of a head, and a base after it
pub head_read : (a b c : Option (List ℕ)) (front text : List ℕ) (base : Option Base) → Consumes a b front → front ≡ magic_text ++ number_text 1 → Consumes b c text → text ≡ base_text base
    → Consumes a c (head_text base)
unfolding head_text
head_read a b c front text base first is second same =
    subst (Consumes a c) (ap (λ (x : List ℕ). x ++ text) is ∙ ap (λ (x : List ℕ). magic_text ++ number_text 1 ++ x) same) (Consumes-trans a b c front text first second)

-- bytes were read, and the rest comes after them
pub after_them : (a b : Option (List ℕ)) (bytes : List ℕ) (Q : List ℕ → Type 0) → Consumes a b bytes → ((after : List ℕ) → Q (bytes ++ after)) → IfSome a Q
after_them None b bytes Q taken more = tt
after_them (Some x) None bytes Q taken more = absurd taken
after_them (Some x) (Some y) bytes Q taken more = subst Q (sym taken) (more y)

-- the front of a head, and no base after it
pub numberless : (a b c : Option (List ℕ)) (front text : List ℕ) (error : StreamError) → Consumes a b front → front ≡ magic_text ++ number_text 1 → Consumes b c text → IsNumberless text error
    → IfSome a (λ rest. IsHeadFault rest error)
numberless a b c front text read.BaseWithoutNumber first is second lacks =
    after_them a c (front ++ text) (λ rest. IsHeadFault rest read.BaseWithoutNumber) (Consumes-trans a b c front text first second)
    (λ after. (text, record { after = after; text = ap (λ (x : List ℕ). (x ++ text) ++ after) is }, lacks))
numberless a b c front text _ first is second lacks = absurd lacks

-- a writer that wrote the head
pub head_written : {W : Type 0} (contents : W → Option (List ℕ)) (before : Option (List ℕ)) (base : Option Base) (writer : StreamWriter W)
    → Appends before (contents writer.out) (head_text base) → HasTaken writer.tally (started base) → writer.tally.left ≡ 0 → HasWritten contents before (started base) writer
head_written contents before base writer text taken left =
    record {
      text = subst (Appends before (contents writer.out)) (sym (ap (progress_text (started base)) left ∙ started_text base)) text;
      taken = taken;
    }

-- a reader that read the head
pub head_taken : {R : Type 0} (remaining : R → Option (List ℕ)) (before : Option (List ℕ)) (reader : StreamReader R) → Consumes before (remaining reader.input) (head_text reader.base)
    → HasTaken reader.tally (started reader.base) → reader.tally.left ≡ 0 → HasRead remaining before (started reader.base) reader
head_taken remaining before reader text taken left =
    record {
      text = subst (Consumes before (remaining reader.input)) (sym (ap (progress_text (started reader.base)) left ∙ started_text reader.base)) text;
      taken = taken;
      base = refl;
    }
