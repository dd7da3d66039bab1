use Rattle.std.proofs.Common.{◌&&◌, ◌∷◌, [], true, nat_eq, sym, ◌∙◌, ap, ℕ, take, List, slice_index_or}
use Rattle.std.specs.List.{list_all}
use Rattle.std.proofs.lemmas.List.Folds.{list_all-append}
use Rattle.sd_restore.proofs.TakeLemmas.{taken_at}
use Rattle.sd_readers.proofs.DigitLemmas.{or_is_zero}
use Rattle.sd_readers.proofs.page_text.are_zeros.Goals as goal

pub loop-byte-preserved : goal.loop-byte-preserved
loop-byte-preserved c =
    let bytes : List ℕ = c.args.bytes.now in
    let i : ℕ = c.loop-byte.byte-index in
    let byte : ℕ = slice_index_or bytes i 0 in
    record {
      so_far = or_is_zero c.loop-byte.ones byte ∙ ap (λ b. b && (nat_eq byte 0 && true)) c.loop-byte.invariant.so_far
          ∙ sym (list_all-append (λ b. nat_eq b 0) (take i bytes) (byte ∷ []))
          ∙ sym (ap (list_all (λ b. nat_eq b 0)) (taken_at bytes i 0 c.loop-byte-test.true));
    }
