-- How many calls were made, and that none of them failed.
use Rattle.std.proofs.Common.{◌≡◌, ◌+◌, ◌<◌, ◌≤◌, ℕ, true, List, length, sum_by, take, Bor, Some, Ok, ap, arith, subst, sym, ◌∙◌}
use Rattle.std.specs.Result.{IsErrOf}
use Rattle.std.proofs.lemmas.List.{length-map}
use Rattle.std.proofs.lemmas.List.Sums.{sum_by_more, sum_by_more_le}
use Rattle.std.specs.Prelude.{Bool, ◌&&◌, ◌==◌, if◌then◌else◌, nat_le, nat_lt, slice_index, slice_range}
use Rattle.std.proofs.lemmas.Bool.{le-leb}
use Rattle.sd_disk.specs.Contents.{file_at}
use Rattle.sd_image.specs.declared.header.Header.{Header}
use Rattle.sd_image.specs.Image.{is_open}
use Rattle.sd_image.specs.Reading.{header_in}
use Rattle.sd_chain.specs.Catalog.{Opened, Places}
use Rattle.sd_chain.specs.Store.{FindsTip}
use Rattle.sd_restore.specs.declared.fault.Fault.{Fault}
use Rattle.sd_restore.specs.declared.fault.Fault.TheVariants.{Device}
use Rattle.sd_restore.specs.Calls.{HasPagesWithin, calls_left_after, calls_for, fronts_read, pages_digested}
use Rattle.sd_restore.specs.Mapped.{mapped_pages}
use Rattle.sd_restore.specs.Placed.{PlacedPage, ArePlaced}

not_device : {T : Type 0} (x : T) → IsErrOf {T = T} {E = Fault} (Ok x) Device → ⊥
not_device x e = cc

-- where a failure would have been the answer, none was counted
pub none_failed : {T : Type 0} (x : T) (before now : ℕ) → before ≤ now → (before < now → IsErrOf {T = T} {E = Fault} (Ok x) Device) → now ≡ before
none_failed x before now later stops = grind arith

-- one slot more
pub slot_more : (contents : List (List ℕ)) (slot a b c : ℕ) → slot < length contents → b ≤ a + sum_by calls_for (take slot contents)
    → c ≤ b + calls_for (file_at contents slot) → c ≤ a + sum_by calls_for (take (slot + 1) contents)
slot_more contents slot a b c within was now = grind (arith, sum_by_more)

-- and none after it
pub slot_last : (contents : List (List ℕ)) (slot a b c : ℕ) → slot < length contents → b ≤ a + sum_by calls_for (take slot contents)
    → c ≤ b + calls_for (file_at contents slot) → c ≤ a + sum_by calls_for contents
slot_last contents slot a b c within was now = grind (arith, sum_by_more_le)

calls_of_open : (long calls : ℕ) (gate : Bool) → nat_le 4096 long && gate ≡ true
    → (if nat_lt long 4096 then 1 else (if nat_le 4096 long && gate then 3 + calls else 2)) ≡ 3 + calls
calls_of_open long calls gate opens = grind (arith, le-leb)

-- of an open slot with this header, whose first bytes were read with two calls, those of the table are left, and those of the digest
pub calls_left : (file : List ℕ) (h : Header) (bytes : List ℕ) (len a b : ℕ) → is_open file ≡ true → bytes ≡ slice_range file 0 4096 → len ≡ length file
    → header_in bytes len ≡ Ok h → b ≤ a + 2 → b + 1 + (fronts_read h.table_len + pages_digested h.version h.pages) ≤ a + calls_for file
calls_left file h bytes len a b opens are long read few =
    let first : List ℕ = slice_range file 0 4096 in
    let here : header_in first (length file) ≡ Ok h = sym (ap (header_in first) long) ∙ sym (ap (λ xs. header_in xs len) are) ∙ read in
    let calls : calls_for file ≡ 3 + (fronts_read h.table_len + pages_digested h.version h.pages) =
    calls_of_open (length file) (calls_left_after (header_in first (length file))) (slice_index file 0 == 165) opens ∙ ap (λ r. 3 + calls_left_after r) here in
    subst (λ n. b + 1 + (fronts_read h.table_len + pages_digested h.version h.pages) ≤ a + n) (sym calls) (omega (arith, few))

calls_of_long : (long calls : ℕ) (opens : Bool) → 4096 ≤ long → 2 ≤ (if nat_lt long 4096 then 1 else (if opens then 3 + calls else 2))
calls_of_long long calls opens enough = grind (arith, le-leb)

two_more : (a b calls : ℕ) → b ≡ a + 1 + 1 → 2 ≤ calls → b ≤ a + calls
two_more a b calls is two = omega arith

-- a slot is read with at least one call, and where its file is as long as a header, with two
pub one_call : (file : List ℕ) (a b : ℕ) → b ≡ a + 1 → b ≤ a + calls_for file
one_call file a b is = grind arith

pub two_calls : (file : List ℕ) (len a b : ℕ) → len ≡ length file → 4096 ≤ len → b ≡ a + 1 + 1 → b ≤ a + calls_for file
two_calls file len a b long enough is =
    two_more a b (calls_for file) is
    (calls_of_long (length file) (calls_left_after (header_in (slice_range file 0 4096) (length file))) (is_open file) (subst (λ n. 4096 ≤ n) long enough))

-- as many pages were placed as are mapped
pub as_many : (places : Places) (i : Opened) (pages : List PlacedPage) → ArePlaced places i.header.serial (mapped_pages i.spaces) pages → length pages ≡ length (mapped_pages i.spaces)
as_many places i pages placed = grind (arith, length-map)

-- the mapped pages of the newest image
pub tip_within : (contents : List (List ℕ)) (tip : Bor Opened) (count : ℕ) → FindsTip contents (Some tip) → HasPagesWithin contents count → length (mapped_pages tip.now.spaces) ≤ count
tip_within contents tip count finds within = grind arith
