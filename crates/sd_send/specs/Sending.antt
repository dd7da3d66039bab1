-- How far a store is sent.
use Rattle.std.specs.Prelude.{◌≡◌, ℕ, List, [], ◌++◌, Option}
use Rattle.std.specs.Io.KnownBytes.{Appends}
use Rattle.sd_disk.specs.Contents.{file_at}
use Rattle.sd_disk.specs.Reads.{OnlyReads}
use Rattle.sd_disk.specs.declared.disk.Disk.{Ghosts}
use Rattle.sd_image.specs.declared.header.Kind.{Kind}
use Rattle.sd_image.specs.declared.header.Kind.TheVariants.{PreDump, Dump, Merged}
use Rattle.sd_chain.specs.Catalog.{Opened, Places}
use Rattle.sd_stream.specs.declared.base.Base.{Base}
use Rattle.sd_stream.specs.declared.writer.StreamWriter.{StreamWriter}
use Rattle.sd_stream.specs.Progress.{Progress, files_of, with_acknowledged, with_bytes, with_image}
use Rattle.sd_stream.specs.Stream.{Group, IsStream, stream_text}
use Rattle.sd_stream.specs.Writing.{HasWritten}
use Rattle.sd_send.specs.declared.sender.Last.{Last}
use Rattle.sd_send.specs.Last.{IsStopAfter}
use Rattle.sd_send.specs.Sent.{AreSince, IsSent, grouped}

-- after a whole file
abbrev pub with_file : Progress → List ℕ → Progress
with_file p file = with_bytes (with_image p) file

-- after an image of this kind, which a dump or a merged one makes the last of its checkpoint
abbrev pub with_kind : Kind → Progress → ℕ → Progress
with_kind PreDump p number = p
with_kind Dump p number = with_acknowledged p number
with_kind Merged p number = with_acknowledged p number

-- after an open image of contents
abbrev pub with_opened : List (List ℕ) → Progress → Opened → Progress
with_opened contents p i = with_kind i.header.kind (with_file p (file_at contents i.slot)) i.header.checkpoint

-- of these images all but the last ones, which are left, were written after what was there
pub record HasSent {W : Type 0} (text : W → Option (List ℕ)) (before : Option (List ℕ)) (p : Progress)
    (contents : List (List ℕ)) (all left : List Opened) (writer : StreamWriter W) : Type 0 where
  pub now : Progress
  pub written : HasWritten text before now writer
  pub base : now.base ≡ p.base
  pub groups : now.groups ++ grouped contents (files_of now) left ≡ p.groups ++ grouped contents (files_of p) all

-- After what was there the images of the newest checkpoint of a catalog were written, parents first: those after the
-- image of what was sent last, or from the first on.
pub record SendsNewest {W : Type 0} (text : W → Option (List ℕ)) (before : Option (List ℕ)) (p : Progress)
    (contents : List (List ℕ)) (places : Places) (last : Option Last) (writer : StreamWriter W) : Type 0 where
  pub stop : Option ℕ
  pub stops : IsStopAfter places last stop
  pub found : List Opened
  pub reaches : AreSince places stop found
  pub sent : HasSent text before p contents found [] writer

-- on an output stands what stood there before, and then the stream of what is sent, to its end
pub record SendsStream (contents : List (List ℕ)) (since : Option ℕ) (before after : Option (List ℕ)) : Type 0 where
  pub base : Option Base
  pub groups : List Group
  pub sent : IsSent contents since base groups
  pub order : IsStream base groups
  pub written : Appends before after (stream_text base groups)

-- A disk with these files was only read, and all of its stream was written after what stood there before.
pub record SendsFiles {D : Type 0} (g : Ghosts D) (files : List (List ℕ)) (since : Option ℕ)
    (before after : Option (List ℕ)) : Type 0 where
  pub old : D
  pub new : D
  pub opened : g.contents old ≡ files
  pub reads : OnlyReads g old new
  pub stream : g.is_honest new → SendsStream (g.contents old) since before after
