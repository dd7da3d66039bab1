-- What distinguishes the open images of a store.
use Rattle.std.specs.Prelude.{ℕ, List, Option, Some, None, take, if◌then◌else◌}
use Rattle.sd_image.specs.Image.{is_open}

-- the first 96 bytes of an open image's file, with its serial and its digest; nothing of a slot that is closed
abbrev pub front : List ℕ → Option (List ℕ)
front file = if is_open file then Some (take 96 file) else None
