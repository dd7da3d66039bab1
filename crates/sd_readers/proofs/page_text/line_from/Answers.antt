use Rattle.std.proofs.Common.{◌≡◌, ◌+◌, ℕ, List, ◌++◌, codes, length, take, drop, ◌∙◌, ap, refl}
use Rattle.sd_readers.proofs.LineLemmas.{blanks, line_made}
use Rattle.sd_readers.proofs.page_text.line_from.Goals as goal

pub returns : goal.returns
returns c =
    let digits : List ℕ = c.args.digits.now in
    let shown : List ℕ = c.args.shown.now in
    let one : c.put.new.text ≡ take 8 (blanks 90) ++ c.as_slice.result.now ++ drop (8 + length c.as_slice.result.now) (blanks 90) = c.put.ensures in
    let two : c.put-2.new.text ≡ take 25 c.put.new.text ++ c.as_slice-2.result.now ++ drop (25 + length c.as_slice-2.result.now) c.put.new.text = c.put-2.ensures in
    line_made c.args.zeros digits shown c.requires c.told-digits c.told-shown c.put.new.text c.put-2.new.text c.put-3.new.text c.put-4.new.text (codes "bytes 0x") refl
    (one ∙ ap (λ d. take 8 (blanks 90) ++ d ++ drop (8 + length d) (blanks 90)) c.as_slice.ensures)
    (two ∙ ap (λ d. take 25 c.put.new.text ++ d ++ drop (25 + length d) c.put.new.text) c.as_slice-2.ensures)
    c.put-3.ensures c.put-3.array_long c.put-4.ensures
