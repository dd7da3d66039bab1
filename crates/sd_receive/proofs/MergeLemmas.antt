-- The header of a merged image.
use Rattle.std.proofs.Common.{◌≡◌, ◌<◌, ◌+◌, ◌*◌, ℕ, List, refl, sym, ap, subst, arith}
use Rattle.sd_image.specs.declared.header.Header.{Header}
use Rattle.sd_image.specs.Header.{HasWords, IsHeader}
use Rattle.sd_receive.specs.Merged.{header_after}
use Rattle.sd_receive.proofs.ShowLemmas.{numbers}

module _ (tip header : Header) (serial pages table_len : ℕ) (digest : List ℕ) (is : header ≡ header_after tip serial pages table_len digest) where
  pub falls_after : tip.parent < tip.stands_for → header.parent < header.stands_for
  falls_after falls = subst (λ (h : Header). h.parent < h.stands_for) (sym is) (omega (arith, falls))

  pub pages_after : header.pages ≡ pages
  pages_after = ap (λ (h : Header). h.pages) is

  pub serial_after : header.serial ≡ serial
  serial_after = ap (λ (h : Header). h.serial) is

  -- it is a header, where its serial is above the other
  pub header_is : (len : ℕ) → IsHeader tip len → tip.serial < serial → HasWords header → IsHeader header (4096 + 4096 * header.pages + header.table_len)
  header_is len was under words =
      let n = numbers tip.kind tip.serial tip.stands_for tip.parent was.numbers in
      subst (λ (h : Header). IsHeader h (4096 + 4096 * h.pages + h.table_len)) (sym is) (record {
        words = subst HasWords is words;
        serial = omega (arith, under);
        numbers = (omega (arith, n.1), omega (arith, n.0, under), refl);
        checkpoint = was.checkpoint;
        fills = refl;
      })
