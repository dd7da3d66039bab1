use Rattle.std.proofs.Common.{◌≡◌, ℕ, List, ◌∷◌, ◌++◌, take, drop, ap, ◌∙◌, length}
use Rattle.std.specs.Int.{w16, to_le_bytes}
use Rattle.sd_image.proofs.HeaderBytes.{put_at, header_written}
use Rattle.sd_image.proofs.HeaderRules.{text_again, text_length}
use Rattle.sd_image.specs.Reading.{header_in}
use Rattle.sd_image.proofs.header_codec.encode_header.Goals as goal

next : (place : ℕ) (field field' text text' now : List ℕ) → now ≡ put_at place field text → field ≡ field' → text ≡ text' → now ≡ put_at place field' text'
next place field field' text text' now e f t = e ∙ ap (λ (x : List ℕ). put_at place x text) f ∙ ap (λ (x : List ℕ). put_at place field' x) t

pub returns-clause-text : goal.returns-clause-text
returns-clause-text c =
    let t1 = c.put.ensures in
    let t2 = next 7 _ _ _ _ _ c.put-2.ensures (c.to_le_bytes.ensures ∙ ap (to_le_bytes w16) c.number.ensures) t1 in
    let t3 = next 9 _ _ _ _ _ c.put-3.ensures (c.to_le_bytes-2.ensures ∙ ap (to_le_bytes w16) c.number-2.ensures) t2 in
    let t4 = next 15 _ _ _ _ _ c.put-4.ensures c.to_le_bytes-3.ensures t3 in
    let t5 = next 23 _ _ _ _ _ c.put-5.ensures c.to_le_bytes-4.ensures t4 in
    let t6 = next 31 _ _ _ _ _ c.put-6.ensures c.to_le_bytes-5.ensures t5 in
    let t7 = next 39 _ _ _ _ _ c.put-7.ensures c.to_le_bytes-6.ensures t6 in
    let t8 = next 47 _ _ _ _ _ c.put-8.ensures c.to_le_bytes-7.ensures t7 in
    let t9 = next 55 _ _ _ _ _ c.put-9.ensures c.to_le_bytes-8.ensures t8 in
    c.put_digest.ensures.text
    ∙ ap (λ (text : List ℕ). take 63 text ++ c.args.header.now.digest ++ drop 95 text) t9
    ∙ header_written c.args.header.now

pub returns-clause-length : goal.returns-clause-length
returns-clause-length c = ap length (returns-clause-text c) ∙ text_length c.args.header.now c.put_digest.ensures.length

pub returns-clause-read_back : goal.returns-clause-read_back
returns-clause-read_back c = λ gate len good.
    ap (λ (text : List ℕ). header_in (gate ∷ text) len) (returns-clause-text c) ∙ text_again gate c.args.header.now len good
