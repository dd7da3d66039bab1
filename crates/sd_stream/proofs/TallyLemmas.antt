-- A tally takes the steps of a stream.
use Rattle.std.proofs.Common.{◌≡◌, ℕ, ◌+◌, ◌<◌, ◌^◌, true, false, List, ◌++◌, length, Option, refl, sym, ap, ◌∙◌, subst, arith}
use Rattle.sha2.specs.Hashers.{Holds256}
use Rattle.sd_stream.specs.declared.base.Base.{Base}
use Rattle.sd_stream.specs.declared.tally.Tally.{Tally}
use Rattle.sd_stream.specs.Stream.{Group, IsBase, IsFileLength, base_number, digested_text, head_text, record_text}
use Rattle.sd_stream.specs.Progress.{Progress, files_of, progress_text, started, with_acknowledged, with_bytes, with_image}
use Rattle.sd_stream.specs.Tallies.{Grows, HasTaken, IsBegun}
use Rattle.sd_stream.proofs.StepLemmas.{started_text, image_step, bytes_step, acknowledged_step, end_step, whole_files, some_files, groups_more, last_more, begun_on}

-- a hasher takes bytes
abbrev pub Feeds : Tally → Tally → List ℕ → Type 0
Feeds old new bytes = (m : List ℕ) → Holds256 old.hasher m → Holds256 new.hasher (m ++ bytes)

pub starts : (new : Tally) (base : Option Base) → Holds256 new.hasher (head_text base) → new.last ≡ base_number base → new.left ≡ 0 → new.waiting ≡ false → IsBase base → HasTaken new (started base)
starts new base hashed last left waiting good =
    record {
      hashed = subst (Holds256 new.hasher) (sym (ap (progress_text (started base)) left ∙ started_text base)) hashed;
      order = record { base = good; groups = tt; last = last; files = tt; file = (refl, left, waiting) };
    }

pub image_grows : (old new : Tally) (p : Progress) (len : ℕ) → old.left ≡ 0 → IsFileLength len → new.left ≡ len → new.waiting ≡ true → new.last ≡ old.last
    → Feeds old new (record_text 1 len) → HasTaken old p → Grows old new p (with_image p) (record_text 1 len)
image_grows old new p len none fits left waiting last feeds taken =
    let order = taken.order in
    let text : progress_text (with_image p) new.left ≡ progress_text p old.left ++ record_text 1 len =
    ap (progress_text (with_image p)) left ∙ image_step p len ∙ ap (λ (n : ℕ). progress_text p n ++ record_text 1 len) (sym none) in
    let begun : IsBegun p.file p.files 0 old.waiting = subst (λ (n : ℕ). IsBegun p.file p.files n old.waiting) none order.file in
    let count : len ≡ 0 + new.left = omega (arith, left) in
    record {
      taken = record {
        hashed = subst (Holds256 new.hasher) (sym text) (feeds (progress_text p old.left) taken.hashed);
        order = record {
          base = order.base;
          groups = order.groups;
          last = last ∙ order.last;
          files = whole_files p.files p.file old.waiting order.files begun;
          file = (subst IsFileLength count fits, waiting);
        };
      };
      text = text;
    }

pub bytes_grow : (old new : Tally) (p : Progress) (bytes : List ℕ) → new.left + length bytes ≡ old.left → new.waiting ≡ old.waiting → new.last ≡ old.last
    → Feeds old new bytes → HasTaken old p → Grows old new p (with_bytes p bytes) bytes
bytes_grow old new p bytes left waiting last feeds taken =
    let order = taken.order in
    let text : progress_text (with_bytes p bytes) new.left ≡ progress_text p old.left ++ bytes = bytes_step p bytes old.left new.left old.waiting left order.file in
    record {
      taken = record {
        hashed = subst (Holds256 new.hasher) (sym text) (feeds (progress_text p old.left) taken.hashed);
        order = record {
          base = order.base;
          groups = order.groups;
          last = last ∙ order.last;
          files = order.files;
          file = subst (IsBegun (with_bytes p bytes).file p.files new.left) (sym waiting) (begun_on bytes p.file p.files old.left new.left old.waiting left order.file);
        };
      };
      text = text;
    }

pub acknowledged_grows : (old new : Tally) (p : Progress) (number : ℕ) → old.left ≡ 0 → old.waiting ≡ true → old.last < number → number < 2 ^ 64 → new.left ≡ 0
    → new.waiting ≡ false → new.last ≡ number → Feeds old new (record_text 2 number) → HasTaken old p → Grows old new p (with_acknowledged p number) (record_text 2 number)
acknowledged_grows old new p number none some above fits left waiting last feeds taken =
    let order = taken.order in
    let text : progress_text (with_acknowledged p number) new.left ≡ progress_text p old.left ++ record_text 2 number =
    ap (progress_text (with_acknowledged p number)) left ∙ acknowledged_step p number ∙ ap (λ (n : ℕ). progress_text p n ++ record_text 2 number) (sym none) in
    let begun : IsBegun p.file p.files 0 old.waiting = subst (λ (n : ℕ). IsBegun p.file p.files n old.waiting) none order.file in
    let lower : ℕ = base_number p.base in
    let group : Group = record { files = files_of p; number = number } in
    record {
      taken = record {
        hashed = subst (Holds256 new.hasher) (sym text) (feeds (progress_text p old.left) taken.hashed);
        order = record {
          base = order.base;
          groups = groups_more lower p.groups group order.groups (record {
            number = subst (λ (n : ℕ). n < number) order.last above;
            fits = fits;
            images = some_files p.files p.file 0 (subst (IsBegun p.file p.files 0) some begun);
            files = whole_files p.files p.file old.waiting order.files begun;
          });
          last = last ∙ sym (last_more lower p.groups group);
          files = tt;
          file = (refl, left, waiting);
        };
      };
      text = text;
    }

-- a whole stream
pub ends : (old : Tally) (p : Progress) → old.waiting ≡ false → HasTaken old p → digested_text p.base p.groups ≡ progress_text p old.left ++ record_text 3 0
ends old p waiting taken = end_step p old.left (subst (IsBegun p.file p.files old.left) waiting taken.order.file)
