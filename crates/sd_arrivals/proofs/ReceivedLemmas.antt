-- Checkpoints that are received, one after the other.
use Rattle.std.proofs.Common.{◌≡◌, ◌≢◌, ◌≤◌, ℕ, true, false, List, [], ◌∷◌, ◌++◌, Option, None, Some, Result, Ok, Err, refl, sym, ◌∙◌, ap, subst, inl, inr, append-nil, IfSome}
use Rattle.std.specs.FinMap as finmap
use Rattle.std.specs.Io.KnownBytes.{Appends, Consumes, IsAtEnd}
use Rattle.std.specs.List.{flat_map}
use Rattle.std.specs.Prelude.{OnOk}
use Rattle.std.specs.Result.{IsErr}
use Rattle.std.proofs.KnownBytes.{Appends-nil, Appends-trans}
use Rattle.std.proofs.lemmas.Grind.{flat_map-append}
use Rattle.sd_areas.specs.PlainMemory.{PlainMemory}
use Rattle.sd_disk.specs.Crash.{Within}
use Rattle.sd_disk.specs.Spans.{LeavesOnly, nothing_called, span_widened}
use Rattle.sd_disk.specs.declared.disk.Disk.{Ghosts}
use Rattle.sd_image.specs.Shows.{Shows}
use Rattle.sd_receive.specs.declared.receive_error.ReceiveError.{ReceiveError}
use Rattle.sd_receive.specs.declared.receive_error.ReceiveError.TheVariants as receive
use Rattle.sd_receive.specs.declared.receiver.Received.{Received}
use Rattle.sd_receive.specs.declared.receiver.Received.TheVariants as received
use Rattle.sd_receive.specs.Arrived.{GoesOn, ReadsAll, ReadsNext, ShowsThen, numbers_received, numbers_so_far}
use Rattle.sd_receive.proofs.StreamLemmas.{goes_on_more, reads_nothing}
use Rattle.sd_stream.specs.declared.base.Base.{Base}
use Rattle.sd_stream.specs.declared.reader.StreamReader.{StreamReader}
use Rattle.sd_stream.specs.Progress.{Progress, progress_text, started}
use Rattle.sd_stream.specs.Reading.{BeginsWith, HasRead}
use Rattle.sd_stream.specs.Stream.{IsStream, stream_text}
use Rattle.sd_arrivals.specs.Arrivals.{AreOfStream, HasReceived, IsAttached, IsReceived, IsWholeStream, ReadsOn, ShowsOrNext, UnlessOutput, UnlessUnprinted, received_line}
use Rattle.sd_arrivals.specs.Arrivals.HasReceived.{nothing, no_more, one_more}
use Rattle.sd_arrivals.proofs.ArrivalLemmas.{within_now}

abbrev pub no_memory : PlainMemory
no_memory = finmap.empty

pub on_err : {X E : Type 0} (r : Result X E) (P : Type 0) → IsErr r → OnOk r P
on_err (Ok x) P is = absurd (let no_it : false ≡ true = is in cc)
on_err (Err e) P is = tt

pub always_ok : {X E P : Type 0} (r : Result X E) → P → OnOk r P
always_ok (Ok x) p = p
always_ok (Err e) p = tt

pub unless_then : (P Q : Type 0) (error : ReceiveError) → (P → Q) → UnlessOutput error P → UnlessOutput error Q
unless_then P Q (receive.Fault x) then is = then is
unless_then P Q (receive.Stream x) then is = then is
unless_then P Q (receive.Image x) then is = then is
unless_then P Q receive.Closed then is = then is
unless_then P Q (receive.Serial x) then is = then is
unless_then P Q (receive.Unacknowledged x) then is = then is
unless_then P Q (receive.WithoutDump x) then is = then is
unless_then P Q (receive.LacksPages x) then is = then is
unless_then P Q receive.NoSlot then is = then is
unless_then P Q (receive.BaseDiffers x y) then is = then is
unless_then P Q (receive.Output x) then is = tt

unless_of : (P : Type 0) (error : ReceiveError) → P → UnlessOutput error P
unless_of P (receive.Fault x) p = p
unless_of P (receive.Stream x) p = p
unless_of P (receive.Image x) p = p
unless_of P receive.Closed p = p
unless_of P (receive.Serial x) p = p
unless_of P (receive.Unacknowledged x) p = p
unless_of P (receive.WithoutDump x) p = p
unless_of P (receive.LacksPages x) p = p
unless_of P receive.NoSlot p = p
unless_of P (receive.BaseDiffers x y) p = p
unless_of P (receive.Output x) p = tt

pub always_printed : {X P : Type 0} (r : Result X ReceiveError) → P → UnlessUnprinted r P
always_printed (Ok x) p = p
always_printed {P = P} (Err error) p = unless_of P error p

abbrev pub the_result : {X : Type 0} → X → Result X ReceiveError
the_result x = Ok x

begins : (before after : Option (List ℕ)) (text : List ℕ) → Consumes before after text → IfSome before (λ bytes. BeginsWith bytes text)
begins None after text consumes = tt
begins (Some bytes) None text consumes = absurd consumes
begins (Some bytes) (Some rest) text consumes = record { after = rest; text = consumes }

all_of : (before after : Option (List ℕ)) (text : List ℕ) → Consumes before after text → IsAtEnd after → IfSome before (λ bytes. bytes ≡ text)
all_of None after text consumes end = tt
all_of (Some bytes) None text consumes end = absurd consumes
all_of (Some bytes) (Some rest) text consumes end = consumes ∙ ap (λ l. text ++ l) end ∙ append-nil text

ok_then : {X E P Q : Type 0} (r : Result X E) → (P → Q) → OnOk r P → OnOk r Q
ok_then (Ok x) then p = then p
ok_then (Err e) then p = tt

-- what was read to a whole stream, of this base
whole : {R : Type 0} (remaining : R → Option (List ℕ)) (input : Option (List ℕ)) (base : Option Base) (numbers : List ℕ) (at new : StreamReader R) (p : Progress)
    → p.base ≡ base → numbers_so_far p ≡ numbers → HasRead remaining input p at → ReadsAll remaining at new → IsWholeStream input base numbers
whole remaining input base numbers at new p same more read all =
    let a = all input p read in record {
      groups = p.groups;
      stream = subst (λ b. IsStream b p.groups) same a.stream;
      came = more;
      text = all_of input (remaining new.input) (stream_text base p.groups) (subst (λ b. Consumes input (remaining new.input) (stream_text b p.groups)) same a.text) a.end;
    }

-- what was received since the head was read is of that stream
pub of_stream : {R X E : Type 0} (remaining : R → Option (List ℕ)) (contents : List (List ℕ)) (input : Option (List ℕ)) (numbers : List ℕ) (result : Result X E)
    (old new : StreamReader R) (base : Option Base) → IsAttached contents base → HasRead remaining input (started base) old → ReadsOn remaining old new numbers result
    → AreOfStream contents input numbers result
of_stream remaining contents input numbers result old new base attached read reads =
    let m = reads.so_far input (started base) read in record {
      first = inr (
        base,
        attached,
        record {
          come = m.now;
          head = m.base;
          came = m.more;
          left = reads.at.tally.left;
          text = begins input (remaining reads.at.input) (progress_text m.now reads.at.tally.left) m.read.text;
        },
      );
      all = ok_then result (λ all. (base, attached, whole remaining input base numbers reads.at new m.now m.base m.more m.read all)) reads.at_end;
    }

module _ {D R : Type 0} (g : Ghosts D) (remaining : R → Option (List ℕ)) where
  -- what a store received so far, what it shows, what was printed, and what was read
  pub record SoFar (old new : D) (first reader : StreamReader R) (shown : Option (ℕ × PlainMemory)) (before after : Option (List ℕ)) : Type 0 where
    pub now : Option (ℕ × PlainMemory)
    pub numbers : List ℕ
    pub has : HasReceived g old shown new now numbers
    pub shows : Within (g.may_leave new) (λ c. Shows c now)
    pub printed : Appends before after (flat_map received_line numbers)
    pub reads : GoesOn remaining first numbers reader

  pub so_far_first : (old : D) (reader : StreamReader R) (shown : Option (ℕ × PlainMemory)) (before : Option (List ℕ)) → Within (g.may_leave old) (λ c. Shows c shown)
      → SoFar old old reader reader shown before before
  so_far_first old reader shown before within =
      record { now = shown; numbers = []; has = nothing; shows = within; printed = Appends-nil before; reads = reads_nothing remaining reader }

  module _ (old mid new : D) (first between reader : StreamReader R) (shown : Option (ℕ × PlainMemory)) (before at after : Option (List ℕ))
      (counts_now : (t : ℕ) (c : List (List ℕ)) → t ≤ g.moment new → g.may_leave new c → g.left_since new t c) where
    -- nothing more came
    more_still : (s : SoFar old mid first between shown before at) → LeavesOnly g mid new (λ c. Shows c s.now) → Appends at after [] → GoesOn remaining between [] reader
        → SoFar old new first reader shown before after
    more_still s still printed reads = record {
      now = s.now;
      numbers = s.numbers;
      has = no_more mid new s.now s.numbers s.has still;
      shows = within_now g mid new (λ c. Shows c s.now) counts_now still;
      printed = subst (Appends before after) (append-nil (flat_map received_line s.numbers)) (Appends-trans before at after (flat_map received_line s.numbers) [] s.printed printed);
      reads = subst (λ numbers. GoesOn remaining first numbers reader) (append-nil s.numbers) (goes_on_more remaining first between reader s.numbers [] s.reads reads);
    }

    -- a checkpoint came
    more_one : (s : SoFar old mid first between shown before at) (next : ℕ) (memory : PlainMemory) → LeavesOnly g mid new (ShowsOrNext s.now next memory)
        → Within (g.may_leave new) (λ c. Shows c (Some (next, memory))) → Appends at after (flat_map received_line (next ∷ [])) → GoesOn remaining between (next ∷ []) reader
        → SoFar old new first reader shown before after
    more_one s next memory span one printed reads = record {
      now = Some (next, memory);
      numbers = s.numbers ++ next ∷ [];
      has = one_more mid new s.now s.numbers next memory s.has span one;
      shows = one;
      printed = subst (Appends before after) (sym (flat_map-append received_line s.numbers (next ∷ [])))
          (Appends-trans before at after (flat_map received_line s.numbers) (flat_map received_line (next ∷ [])) s.printed printed);
      reads = goes_on_more remaining first between reader s.numbers (next ∷ []) s.reads reads;
    }

    pub so_far_more : (s : SoFar old mid first between shown before at) (last : ℕ) (memory : PlainMemory) → LeavesOnly g mid new (ShowsOrNext s.now last memory)
        → (r : Received) → r ≢ received.End → ShowsThen g mid new s.now last memory r → Appends at after (flat_map received_line (numbers_received r)) → ReadsNext remaining between reader r
        → SoFar old new first reader shown before after
    so_far_more s last memory span received.PreDump is then printed reads = more_still s then printed reads
    so_far_more s last memory span (received.Checkpoint n) is then printed reads = more_one s last memory span then.1
        (subst (λ (m : ℕ). Appends at after (flat_map received_line (m ∷ []))) then.0 printed) (subst (λ (m : ℕ). GoesOn remaining between (m ∷ []) reader) then.0 reads)
    so_far_more s last memory span received.End is then printed reads = absurd (is refl)

  module _ {X : Type 0} (result : Result X ReceiveError) where
    -- an error after that, while the next arrives
    pub received_err : (old mid new : D) (first between reader : StreamReader R) (shown : Option (ℕ × PlainMemory)) (before at after : Option (List ℕ))
        (s : SoFar old mid first between shown before at) (next : ℕ) (memory : PlainMemory) → LeavesOnly g mid new (ShowsOrNext s.now next memory) → (error : ReceiveError)
        → result ≡ Err error → UnlessOutput error (Appends at after [])
        → (numbers : List ℕ) × IsReceived g old new shown numbers before after result × ReadsOn remaining first reader numbers result
    received_err old mid new first between reader shown before at after s next memory span error same unprinted = (
      s.numbers,
      record {
        at = mid;
        now = s.now;
        next = next;
        memory = memory;
        so_far = s.has;
        since = span;
        at_end = rw same tt;
        printed = rw same (unless_then (Appends at after []) (Appends before after (flat_map received_line s.numbers)) error
            (λ none. subst (Appends before after) (append-nil (flat_map received_line s.numbers)) (Appends-trans before at after (flat_map received_line s.numbers) [] s.printed none))
            unprinted);
      },
      record { at = between; so_far = s.reads; at_end = rw same tt },
    )

    -- nothing after that
    pub received_now : (old new : D) (first between reader : StreamReader R) (shown : Option (ℕ × PlainMemory)) (before after : Option (List ℕ))
        → ((c : List (List ℕ)) → g.left_since new (g.moment new) c → g.may_leave new c) → (s : SoFar old new first between shown before after) → OnOk result (ReadsAll remaining between reader)
        → (numbers : List ℕ) × IsReceived g old new shown numbers before after result × ReadsOn remaining first reader numbers result
    received_now old new first between reader shown before after only_now s all = (
      s.numbers,
      record {
        at = new;
        now = s.now;
        next = 0;
        memory = no_memory;
        so_far = s.has;
        since = nothing_called g new (ShowsOrNext s.now 0 no_memory) (g.may_leave new) only_now (λ c left. inl (s.shows c left));
        at_end = always_ok result s.shows;
        printed = always_printed result s.printed;
      },
      record { at = between; so_far = s.reads; at_end = all },
    )

-- the stream is at its end
module _ {D R X : Type 0} (g : Ghosts D) (remaining : R → Option (List ℕ)) (x : X) (old mid new : D) (first between reader : StreamReader R) (shown : Option (ℕ × PlainMemory))
    (before at after : Option (List ℕ)) (counts_now : (t : ℕ) (c : List (List ℕ)) → t ≤ g.moment new → g.may_leave new c → g.left_since new t c)
    (only_now : (c : List (List ℕ)) → g.left_since new (g.moment new) c → g.may_leave new c) (s : SoFar g remaining old mid first between shown before at) where
  at_the_end : LeavesOnly g mid new (λ c. Shows c s.now) → Appends at after [] → ReadsAll remaining between reader
      → (numbers : List ℕ) × IsReceived g old new shown numbers before after (the_result x) × ReadsOn remaining first reader numbers (the_result x)
  at_the_end still printed all =
      let shows = within_now g mid new (λ c. Shows c s.now) counts_now still in (
        s.numbers,
        record {
          at = new;
          now = s.now;
          next = 0;
          memory = no_memory;
          so_far = no_more mid new s.now s.numbers s.has still;
          since = nothing_called g new (ShowsOrNext s.now 0 no_memory) (g.may_leave new) only_now (λ c left. inl (shows c left));
          at_end = shows;
          printed = subst (Appends before after) (append-nil (flat_map received_line s.numbers)) (Appends-trans before at after (flat_map received_line s.numbers) [] s.printed printed);
        },
        record { at = between; so_far = s.reads; at_end = all },
      )

  pub ended_now : (last : ℕ) (memory : PlainMemory) (r : Received) → r ≡ received.End → ShowsThen g mid new s.now last memory r
      → Appends at after (flat_map received_line (numbers_received r)) → ReadsNext remaining between reader r
      → (numbers : List ℕ) × IsReceived g old new shown numbers before after (the_result x) × ReadsOn remaining first reader numbers (the_result x)
  ended_now last memory r is then printed all = at_the_end (subst (ShowsThen g mid new s.now last memory) is then)
      (subst (λ (e : Received). Appends at after (flat_map received_line (numbers_received e))) is printed) (subst (ReadsNext remaining between reader) is all)

-- an error before the first
pub received_none : {D X : Type 0} (g : Ghosts D) (result : Result X ReceiveError) (old new : D) (shown : Option (ℕ × PlainMemory)) (before : Option (List ℕ))
    → LeavesOnly g old new (λ c. Shows c shown) → IsErr result → IsReceived g old new shown [] before before result
received_none g result old new shown before span is = record {
  at = old;
  now = shown;
  next = 0;
  memory = no_memory;
  so_far = nothing;
  since = span_widened g old new (λ c. Shows c shown) (ShowsOrNext shown 0 no_memory) (λ c shows. inl shows) span;
  at_end = on_err result _ is;
  printed = always_printed result (Appends-nil before);
}

-- what is shown was shown before
prefixed : {D : Type 0} (g : Ghosts D) (old mid : D) (shown : Option (ℕ × PlainMemory)) → LeavesOnly g old mid (λ c. Shows c shown) → (at : D) (now : Option (ℕ × PlainMemory))
    (numbers : List ℕ) → HasReceived g mid shown at now numbers → HasReceived g old shown at now numbers
prefixed g old mid shown first _ _ _ nothing = no_more old mid shown [] nothing first
prefixed g old mid shown first _ _ _ (no_more a b now numbers has span) = no_more a b now numbers (prefixed g old mid shown first a now numbers has) span
prefixed g old mid shown first _ _ _ (one_more a b now numbers n memory has span within) =
    one_more a b now numbers n memory (prefixed g old mid shown first a now numbers has) span within

pub received_after : {D X : Type 0} (g : Ghosts D) (result : Result X ReceiveError) (old mid new : D) (shown : Option (ℕ × PlainMemory)) (numbers : List ℕ)
    (before after : Option (List ℕ)) → LeavesOnly g old mid (λ c. Shows c shown) → IsReceived g mid new shown numbers before after result
    → IsReceived g old new shown numbers before after result
received_after g result old mid new shown numbers before after first r = record {
  at = r.at;
  now = r.now;
  next = r.next;
  memory = r.memory;
  so_far = prefixed g old mid shown first r.at r.now numbers r.so_far;
  since = r.since;
  at_end = r.at_end;
  printed = r.printed;
}
