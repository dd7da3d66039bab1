-- The images of a stream, and the checkpoints that they make.
use Rattle.std.proofs.Common.{◌≡◌, ℕ, ◌+◌, ◌-◌, ◌<◌, List, [], ◌∷◌, ◌++◌, length, take, drop, map, get_or, Option, Some, refl, sym, ap, ◌∙◌, subst, append_assoc, append-nil, arith}
use Rattle.std.specs.Prelude.{slice_range}
use Rattle.std.proofs.Math.Seq.{take-add}
use Rattle.std.proofs.lemmas.List.{drop_more, get_or-map, length-map}
use Rattle.std.specs.Io.KnownBytes.{Appends, Keeps}
use Rattle.std.proofs.KnownBytes.{Appends-kept}
use Rattle.sd_disk.specs.Contents.{file_at}
use Rattle.sd_image.specs.declared.header.Kind.{Kind}
use Rattle.sd_image.specs.declared.header.Kind.TheVariants.{PreDump, Dump, Merged}
use Rattle.sd_chain.specs.Catalog.{Opened, Places}
use Rattle.sd_chain.specs.Store.{IsCatalogOf}
use Rattle.sd_stream.specs.declared.base.Base.{Base}
use Rattle.sd_stream.specs.declared.writer.StreamWriter.{StreamWriter}
use Rattle.sd_stream.specs.declared.tally.Tally.{Tally}
use Rattle.sd_stream.specs.Progress.{Progress, files_of, progress_text, started}
use Rattle.sd_stream.specs.Stream.{IsStream, stream_text}
use Rattle.sd_stream.specs.Tallies.{HasTaken}
use Rattle.sd_stream.specs.Writing.{HasWritten}
use Rattle.sd_send.specs.Sent.{AreSince, IsBaseAt, IsStop, closes, grouped}
use Rattle.sd_send.specs.Sending.{HasSent, SendsStream, with_file, with_kind, with_opened}

-- an image more: its checkpoint is the next of those that were left, or its file is the first of the next one
one_more : (kind : Kind) (q : Progress) (file : List ℕ) (number : ℕ) (contents : List (List ℕ)) (left : List Opened)
    → (with_kind kind (with_file q file) number).groups ++ grouped contents (files_of (with_kind kind (with_file q file) number)) left
    ≡ q.groups ++ closes kind (record { files = files_of q ++ file ∷ []; number = number }) (grouped contents (files_of q ++ file ∷ []) left) (grouped contents [] left)
one_more PreDump q file number contents left = refl
one_more Dump q file number contents left = append_assoc q.groups (record { files = files_of q ++ file ∷ []; number = number } ∷ []) (grouped contents [] left)
one_more Merged q file number contents left = append_assoc q.groups (record { files = files_of q ++ file ∷ []; number = number } ∷ []) (grouped contents [] left)

same_base : (kind : Kind) (q : Progress) (number : ℕ) → (with_kind kind q number).base ≡ q.base
same_base PreDump q number = refl
same_base Dump q number = refl
same_base Merged q number = refl

module _ {W : Type 0} (text : W → Option (List ℕ)) (before : Option (List ℕ)) (p : Progress) (contents : List (List ℕ)) where
  pub sent_begins : (all : List Opened) (writer : StreamWriter W) → HasWritten text before p writer → HasSent text before p contents all all writer
  sent_begins all writer was = record { now = p; written = was; base = refl; groups = refl }

  pub sent_more : (all left : List Opened) (i : Opened) (old new : StreamWriter W) → HasSent text before p contents all (i ∷ left) old
      → ((q : Progress) → HasWritten text before q old → HasWritten text before (with_opened contents q i) new) → HasSent text before p contents all left new
  sent_more all left i old new sent more = record {
    now = with_opened contents sent.now i;
    written = more sent.now sent.written;
    base = same_base i.header.kind (with_file sent.now (file_at contents i.slot)) i.header.checkpoint ∙ sent.base;
    groups = one_more i.header.kind sent.now (file_at contents i.slot) i.header.checkpoint contents left ∙ sent.groups;
  }

  pub stream_of : (after : Option (List ℕ)) (since : Option ℕ) (places : Places) (stop : Option ℕ) (found : List Opened) (base : Option Base) (writer : StreamWriter W)
      → p ≡ started base → IsBaseAt contents since base → IsCatalogOf contents places → IsStop places since stop → AreSince places stop found → HasSent text before p contents found [] writer
      → ((q : Progress) → HasWritten text before q writer → Appends before after (stream_text q.base q.groups) × IsStream q.base q.groups) → SendsStream contents since before after
  stream_of after since places stop found base writer begins at_base catalog stops reaches sent ended =
      let whole = ended sent.now sent.written in
      let same : sent.now.base ≡ base = sent.base ∙ ap (λ (q : Progress). q.base) begins in
      let groups : sent.now.groups ≡ grouped contents [] found = sym (append-nil sent.now.groups) ∙ sent.groups ∙ ap (λ (q : Progress). q.groups ++ grouped contents (files_of q) found) begins in
      record {
        base = sent.now.base;
        groups = sent.now.groups;
        sent = record {
          continues = subst (λ b. IsBaseAt contents since b) (sym same) at_base;
          places = places;
          catalog = catalog;
          stop = stop;
          stops = stops;
          found = found;
          reaches = reaches;
          checkpoints = groups;
        };
        order = whole.1;
        written = whole.0;
      }

-- what is left after the images so far
pub next_left : {X : Type 0} (f : X → Opened) (xs : List X) (k : ℕ) (x : X) → k < length xs → x ≡ get_or xs k x → drop k (map f xs) ≡ f x ∷ drop (k + 1) (map f xs)
next_left f xs k x within is = drop_more (map f xs) k (f x) (let e = length-map xs f in omega (arith, e, within))
    ∙ ap (λ y. y ∷ drop (k + 1) (map f xs)) (get_or-map f xs k x (f x) within ∙ ap f (sym is))

-- a piece more of a file
pub piece_more : (file : List ℕ) (done count : ℕ) → take done file ++ slice_range file done (done + count) ≡ take (done + count) file
piece_more file done count = ap (λ k. take done file ++ take k (drop done file)) (let e : done + count - done ≡ count = omega arith in e) ∙ sym (take-add done count file)

pub appended : (before after text : List ℕ) → before ≡ [] → Appends (Some before) (Some after) text → after ≡ text
appended before after text none is = is ∙ ap (λ xs. xs ++ text) none

-- what was written is written once it is flushed
pub flushed : {W : Type 0} (text : W → Option (List ℕ)) (before : Option (List ℕ)) (p : Progress) (old new : StreamWriter W) → HasWritten text before p old
    → Keeps (text old.out) (text new.out) → new.tally ≡ old.tally → HasWritten text before p new
flushed text before p old new was keeps same = record {
  text = subst (λ (t : Tally). Appends before (text new.out) (progress_text p t.left)) (sym same) (Appends-kept before (text old.out) (text new.out) (progress_text p old.tally.left) was.text keeps);
  taken = subst (λ (t : Tally). HasTaken t p) (sym same) was.taken;
}

pub sent_flushed : {W : Type 0} (text : W → Option (List ℕ)) (before : Option (List ℕ)) (p : Progress) (contents : List (List ℕ)) (all : List Opened) (old new : StreamWriter W)
    → HasSent text before p contents all [] old → Keeps (text old.out) (text new.out) → new.tally ≡ old.tally → HasSent text before p contents all [] new
sent_flushed text before p contents all old new sent keeps same =
    record { now = sent.now; written = flushed text before sent.now old new sent.written keeps same; base = sent.base; groups = sent.groups }
