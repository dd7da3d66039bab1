-- A whole table: what is read is spelled so, and what is spelled so is read.
use Rattle.std.proofs.Common.{◌≡◌, ℕ, ◌^◌, ◌<◌, ◌≤◌, true, ◌&&◌, eqb, leb, cond, List, [], ◌++◌, length, drop, Result, Ok, Err, refl, sym, ap, subst, ◌∙◌, arith}
use Rattle.std.specs.Prelude.{IfOk, map}
use Rattle.std.specs.List.{flat_map}
use Rattle.std.proofs.lemmas.Bool.{leb-true, le-leb, eqb-true, eq-eqb, and_parts, and_from}
use Rattle.std.proofs.lemmas.List.{append-nil, nil_from_length}
use Rattle.byteorder.specs.Numbers.{little_number-reads_back}
use Rattle.sd_image.specs.declared.header.Header.{Header}
use Rattle.sd_image.specs.declared.reason.Reason.{Reason}
use Rattle.sd_image.specs.declared.reason.Reason.TheVariants as reason
use Rattle.sd_image.specs.declared.table.Table.{Table}
use Rattle.sd_image.specs.declared.table_error.TableError.{TableError}
use Rattle.sd_image.specs.Words.{number_bytes, zero_bytes}
use Rattle.sd_image.specs.Table.{Listed, listing_of, space_text, table_text, IsSpace, data_count, mapped_count, IsTable}
use Rattle.sd_image.specs.Reading.{◌>>=◌, ReadsTable, number_at, item_at, item_value, many, head_at, space_at, ends_rightly, table_in}
use Rattle.sd_image.proofs.Steps.{IsBytes, bind_ok, guard_ends, ok_is, Takes, Takes-then, piece}
use Rattle.sd_image.proofs.Numbers.{bytes_4}
use Rattle.sd_image.proofs.ManyLaws.{many_take, many_again}
use Rattle.sd_image.proofs.ItemLaws.{item_takes, item_again, spelled_ok, last_zero}
use Rattle.sd_image.proofs.SpaceLaws.{number_of, space_takes, space_again, to_spaces, from_spaces}

abbrev head_text : ℕ → List ℕ
head_text n = number_bytes 4 n ++ (zero_bytes 4 ++ [])

record IsHead (bytes : List ℕ) (n : ℕ) (rest : List ℕ) : Type 0 where
  takes : Takes bytes (head_text n) rest
  few : n ≤ 16

head_takes : (bytes : List ℕ) (x : ℕ × List ℕ) → IsBytes bytes → head_at bytes ≡ Ok x → IsHead bytes x.0 x.1
unfolding head_at
head_takes bytes x fits e =
    let a = bind_ok (item_at 8 bytes) (λ item. item_value (leb (number_at 4 0 item.0) 16) reason.Space (number_at 4 4 item.0) (number_at 4 0 item.0) >>= λ spaces. Ok (spaces, item.1)) x e in
    let b = bind_ok (item_value (leb (number_at 4 0 a.0.0) 16) reason.Space (number_at 4 4 a.0.0) (number_at 4 0 a.0.0)) (λ spaces. Ok (spaces, a.0.1)) x a.2 in
    let i = item_takes 8 bytes a.0 fits a.1 in
    let s = spelled_ok (leb (number_at 4 0 a.0.0) 16) reason.Space (number_at 4 4 a.0.0) (number_at 4 0 a.0.0) b.0 b.1 in
    let p4 = last_zero 4 8 a.0.0 i.fits refl i.long s.1 in
    let text : a.0.0 ≡ head_text (number_at 4 0 a.0.0) = piece 0 4 4 a.0.0 _ _ refl (bytes_4 0 a.0.0 i.fits (omega (arith, i.long))) p4 in
    let here : IsHead bytes (number_at 4 0 a.0.0) a.0.1 = record { takes = subst (λ (t : List ℕ). Takes bytes t a.0.1) text i.takes; few = leb-true _ _ s.0 } in
    let named : IsHead bytes b.0 a.0.1 = subst (λ (n : ℕ). IsHead bytes n a.0.1) s.2 here in
    subst (λ (y : ℕ × List ℕ). IsHead bytes y.0 y.1) (ok_is (b.0, a.0.1) x b.2) named

abbrev done : List ℕ → List ℕ → Result (List ℕ × List ℕ) Reason
done item rest = Ok (item, rest)

head_length : (n : ℕ) → length (head_text n) ≡ 8
unfolding number_bytes zero_bytes
head_length n = refl

head_number : (n : ℕ) → n < 256 ^ 4 → number_at 4 0 (head_text n) ≡ n
unfolding number_at number_bytes zero_bytes
head_number n lt = little_number-reads_back 4 n (drop 4 (head_text n)) lt

head_zero : (n : ℕ) → number_at 4 4 (head_text n) ≡ 0
unfolding number_at number_bytes zero_bytes
head_zero n = refl

head_again : (n : ℕ) (rest : List ℕ) → n ≤ 16 → head_at (head_text n ++ rest) ≡ Ok (n, rest)
unfolding head_at
head_again n rest few =
    let read : item_at 8 (head_text n ++ rest) ≡ done (head_text n) rest = item_again 8 (head_text n) rest (head_length n) in
    let number = head_number n (omega arith) in
    let holds : leb n 16 ≡ true = le-leb _ _ few in
    rw (read, number, head_zero n, holds) refl

ends_so : (h : Header) (spaces : List Listed) (rest : List ℕ) → ends_rightly h spaces rest ≡ true → (rest ≡ []) × (data_count spaces ≡ h.pages) × (mapped_count spaces ≤ 65536)
unfolding ends_rightly
ends_so h spaces rest e = grind (arith, and_parts, nil_from_length, eqb-true, leb-true)

ends_again : (h : Header) (spaces : List Listed) → data_count spaces ≡ h.pages → mapped_count spaces ≤ 65536 → ends_rightly h spaces [] ≡ true
unfolding ends_rightly
ends_again h spaces d m = and_from (true && eqb (data_count spaces) h.pages) (leb (mapped_count spaces) 65536) (and_from true (eqb (data_count spaces) h.pages) refl (eq-eqb _ _ d)) (le-leb _ _ m)

-- the parts of a table, one after the other, are its text
parts_text : (n : ℕ) (spaces : List Listed) → length spaces ≡ n → head_text n ++ flat_map space_text spaces ≡ table_text spaces
unfolding table_text number_bytes zero_bytes
parts_text n spaces e = rw e (ap (λ (x : List ℕ). head_text n ++ x) (sym (append-nil (flat_map space_text spaces))))

pub table_takes : (h : Header) (bytes : List ℕ) (spaces : List Listed) → IsBytes bytes → table_in h bytes ≡ Ok spaces → (bytes ≡ table_text spaces) × IsTable h spaces
unfolding table_in
table_takes h bytes spaces fits e =
    let a = bind_ok (head_at bytes) (λ head. many (space_at h) number_of head.0 0 head.1 >>= λ x. cond (ends_rightly h x.0 x.1) (Ok x.0) (Err reason.Total)) spaces e in
    let b = bind_ok (many (space_at h) number_of a.0.0 0 a.0.1) (λ x. cond (ends_rightly h x.0 x.1) (Ok x.0) (Err reason.Total)) spaces a.2 in
    let found = b.0.0 in
    let g = guard_ends (ends_rightly h found b.0.1) reason.Total (Ok found) spaces b.2 in
    let t0 = head_takes bytes a.0 fits a.1 in
    let t1 = many_take (space_at h) number_of space_text (IsSpace h) (space_takes h) a.0.0 0 a.0.1 b.0 t0.takes.rest_fits b.1 in
    let ended = ends_so h found b.0.1 g.0 in
    let both = (Takes-then bytes (head_text a.0.0) a.0.1 (flat_map space_text found) b.0.1 t0.takes t1.0).parts in
    let text : bytes ≡ table_text found = both ∙ ap (λ (r : List ℕ). (head_text a.0.0 ++ flat_map space_text found) ++ r) ended.0 ∙ append-nil (head_text a.0.0 ++ flat_map space_text found) ∙ parts_text a.0.0 found t1.1 in
    let table : IsTable h found = record {
      few = omega (arith, t1.1, t0.few);
      each = to_spaces h 0 found t1.2;
      «data» = ended.1;
      mapped = ended.2;
    } in
    subst (λ (v : List Listed). (bytes ≡ table_text v) × IsTable h v) (ok_is found spaces g.1) (text, table)

pub table_again : (h : Header) (spaces : List Listed) → IsTable h spaces → table_in h (table_text spaces) ≡ Ok spaces
unfolding table_in
table_again h spaces good =
    let body = flat_map space_text spaces in
    let whole : table_text spaces ≡ head_text (length spaces) ++ body = sym (parts_text (length spaces) spaces refl) in
    let head = head_again (length spaces) body good.few in
    let rest : many (space_at h) number_of (length spaces) 0 body ≡ Ok (spaces, []) = ap (many (space_at h) number_of (length spaces) 0) (sym (append-nil body)) ∙ many_again (space_at h) number_of space_text (IsSpace h) (space_again h) 0 spaces [] (from_spaces h 0 spaces good.each) in
    ap (table_in h) whole ∙ rw (head, rest, ends_again h spaces good.data good.mapped) refl

pub is_found : (h : Header) (bytes : List ℕ) (r : Result Table TableError) → IsBytes bytes → ReadsTable (λ t. map listing_of t.spaces.items) r (table_in h bytes) → IfOk r (λ t. (bytes ≡ table_text (map listing_of t.spaces.items)) × IsTable h (map listing_of t.spaces.items))
is_found h bytes r fits given = grind (arith, table_takes)

-- one text has one table
pub table_once : (h : Header) (a b : List Listed) → IsTable h a → IsTable h b → table_text a ≡ table_text b → a ≡ b
table_once h a b good_a good_b e = ok_is a b (sym (table_again h a good_a) ∙ ap (table_in h) e ∙ table_again h b good_b)
