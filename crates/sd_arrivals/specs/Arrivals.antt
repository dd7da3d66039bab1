-- A stream that a store receives, from what it continues to its end.
use Rattle.std.specs.Prelude.{◌≡◌, ◌⊎◌, ℕ, List, [], ◌∷◌, ◌++◌, codes, map, Option, None, Some, IfSome}
use Rattle.std.specs.Prelude.{Result, Ok, Err, OnOk}
use Rattle.std.specs.Fmt.{decimal}
use Rattle.std.specs.Io.KnownBytes.{Appends}
use Rattle.std.specs.List.{flat_map}
use Rattle.sd_areas.specs.PlainMemory.{PlainMemory}
use Rattle.sd_disk.specs.Crash.{Within}
use Rattle.sd_disk.specs.Spans.{LeavesOnly}
use Rattle.sd_disk.specs.declared.disk.Disk.{Ghosts}
use Rattle.sd_image.specs.Shows.{Shows}
use Rattle.sd_receive.specs.declared.receive_error.ReceiveError.{ReceiveError}
use Rattle.sd_receive.specs.declared.receive_error.ReceiveError.TheVariants as receive
use Rattle.sd_receive.specs.declared.receiver.Received.{Received}
use Rattle.sd_receive.specs.Arrived.{GoesOn, ReadsAll, numbers_received, numbers_so_far}
use Rattle.sd_send.specs.Sent.{IsDigestAt}
use Rattle.sd_stream.specs.declared.base.Base.{Base}
use Rattle.sd_stream.specs.declared.reader.StreamReader.{StreamReader}
use Rattle.sd_stream.specs.Progress.{Progress, progress_text}
use Rattle.sd_stream.specs.Reading.{BeginsWith}
use Rattle.sd_stream.specs.Stream.{Group, IsStream, stream_text}

-- A stream with this base continues contents that show this: the same checkpoint with the same memory, or none.
abbrev pub Continues : List (List ℕ) → Option (ℕ × PlainMemory) → Option Base → Type 0
Continues contents None None = Unit {0}
Continues contents None (Some base) = ⊥
Continues contents (Some moment) None = ⊥
Continues contents (Some moment) (Some base) = (moment.0 ≡ base.number) × IsDigestAt contents base.number base.digest

-- contents show this, and a stream with this base continues it
pub record IsAttached (contents : List (List ℕ)) (base : Option Base) : Type 0 where
  pub shown : Option (ℕ × PlainMemory)
  pub shows : Shows contents shown
  pub continues : Continues contents shown base

-- a crash leaves what is shown now, or the next checkpoint
abbrev pub ShowsOrNext : Option (ℕ × PlainMemory) → ℕ → PlainMemory → List (List ℕ) → Type 0
ShowsOrNext now next memory c = Shows c now ⊎ Shows c (Some (next, memory))

-- From one moment to another a store received the checkpoints of these numbers, one after the other: at each moment a
-- crash leaves the last that was received, or what was shown first where none was; or the next, while that arrives.
pub data HasReceived {D : Type 0} (g : Ghosts D) (old : D) (shown : Option (ℕ × PlainMemory)) :
    D → Option (ℕ × PlainMemory) → List ℕ → Type 0 where
  nothing : HasReceived g old shown old shown []
  no_more : (mid new : D) (now : Option (ℕ × PlainMemory)) (numbers : List ℕ)
      → HasReceived g old shown mid now numbers → LeavesOnly g mid new (λ c. Shows c now)
      → HasReceived g old shown new now numbers
  one_more : (mid new : D) (now : Option (ℕ × PlainMemory)) (numbers : List ℕ) (n : ℕ) (memory : PlainMemory)
      → HasReceived g old shown mid now numbers → LeavesOnly g mid new (ShowsOrNext now n memory)
      → Within (g.may_leave new) (λ c. Shows c (Some (n, memory)))
      → HasReceived g old shown new (Some (n, memory)) (numbers ++ n ∷ [])

-- what is printed of a checkpoint that was received
abbrev pub received_line : ℕ → List ℕ
received_line n = codes "received " ++ decimal n ++ 10 ∷ []

-- so it is after an error, but of the printing
abbrev pub UnlessOutput : ReceiveError → Type 0 → Type 0
UnlessOutput (receive.Output error) P = Unit {0}
UnlessOutput error P = P

-- so it is where no printing failed
abbrev pub UnlessUnprinted : {X : Type 0} → Result X ReceiveError → Type 0 → Type 0
UnlessUnprinted (Ok x) P = P
UnlessUnprinted (Err error) P = UnlessOutput error P

-- what is printed with an image that was received
abbrev pub lines_with : Result Received ReceiveError → List ℕ
lines_with (Ok received) = flat_map received_line (numbers_received received)
lines_with (Err error) = []

-- A store received the checkpoints of these numbers. After the last of them a crash leaves that, or the next; at the
-- end of the stream that. For each a line was printed, and nothing else.
pub record IsReceived {D X : Type 0} (g : Ghosts D) (old new : D) (shown : Option (ℕ × PlainMemory)) (numbers : List ℕ)
    (before after : Option (List ℕ)) (result : Result X ReceiveError) : Type 0 where
  pub at : D
  pub now : Option (ℕ × PlainMemory)
  pub next : ℕ
  pub memory : PlainMemory
  pub so_far : HasReceived g old shown at now numbers
  pub since : LeavesOnly g at new (ShowsOrNext now next memory)
  pub at_end : OnOk result (Within (g.may_leave new) (λ c. Shows c now))
  pub printed : UnlessUnprinted result (Appends before after (flat_map received_line numbers))

-- from one reader to another the checkpoints of these numbers came, and at a good end the stream is whole
pub record ReadsOn {R X E : Type 0} (remaining : R → Option (List ℕ)) (old new : StreamReader R) (numbers : List ℕ)
    (result : Result X E) : Type 0 where
  pub at : StreamReader R
  pub so_far : GoesOn remaining old numbers at
  pub at_end : OnOk result (ReadsAll remaining at new)

-- an input begins with a stream of this base that has come so far, with the checkpoints of these numbers
pub record BeginsStream (input : Option (List ℕ)) (base : Option Base) (numbers : List ℕ) : Type 0 where
  pub come : Progress
  pub head : come.base ≡ base
  pub came : numbers_so_far come ≡ numbers
  pub left : ℕ
  pub text : IfSome input (λ bytes. BeginsWith bytes (progress_text come left))

-- all of an input is a stream of this base, with the checkpoints of these numbers
pub record IsWholeStream (input : Option (List ℕ)) (base : Option Base) (numbers : List ℕ) : Type 0 where
  pub groups : List Group
  pub stream : IsStream base groups
  pub came : map (λ (group : Group). group.number) groups ≡ numbers
  pub text : IfSome input (λ bytes. bytes ≡ stream_text base groups)

-- Checkpoints of these numbers were received of an input by a store of these contents: none, or the first of a stream
-- that continues it; at a good end all of that.
pub record AreOfStream {X E : Type 0} (contents : List (List ℕ)) (input : Option (List ℕ)) (numbers : List ℕ)
    (result : Result X E) : Type 0 where
  pub first : (numbers ≡ []) ⊎ ((base : Option Base) × IsAttached contents base × BeginsStream input base numbers)
  pub all : OnOk result ((base : Option Base) × IsAttached contents base × IsWholeStream input base numbers)
