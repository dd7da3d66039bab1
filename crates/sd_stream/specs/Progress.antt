-- How far a stream has come.
use Rattle.std.specs.Prelude.{ℕ, ◌+◌, List, [], ◌∷◌, ◌++◌, length, flat_map, Option, None, Some, option_map}
use Rattle.std.specs.Prelude.{option_to_list}
use Rattle.sd_stream.specs.declared.base.Base.{Base}
use Rattle.sd_stream.specs.Stream.{Group, group_text, head_text, image_text, record_text}

-- what stands between the head and where it has come: whole checkpoints, whole images after them, and of the image
-- after these the bytes so far
pub record Progress : Type 0 where
  pub base : Option Base
  pub groups : List Group
  pub files : List (List ℕ)
  pub file : Option (List ℕ)

-- after the head
abbrev pub started : Option Base → Progress
started base = record { base = base; groups = []; files = []; file = None }

-- the images since the last checkpoint, where the last of them is whole
abbrev pub files_of : Progress → List (List ℕ)
files_of p = p.files ++ option_to_list p.file

-- after the head of an image
abbrev pub with_image : Progress → Progress
with_image p = record { base = p.base; groups = p.groups; files = files_of p; file = Some [] }

-- after bytes of it
abbrev pub with_bytes : Progress → List ℕ → Progress
with_bytes p bytes = record {
  base = p.base;
  groups = p.groups;
  files = p.files;
  file = option_map (λ file. file ++ bytes) p.file;
}

-- after the number of a checkpoint
abbrev pub with_acknowledged : Progress → ℕ → Progress
with_acknowledged p number = record {
  base = p.base;
  groups = p.groups ++ record { files = files_of p; number = number } ∷ [];
  files = [];
  file = None;
}

-- an image of which so many bytes are still to come
abbrev pub begun_text : Option (List ℕ) → ℕ → List ℕ
begun_text None left = []
begun_text (Some file) left = record_text 1 (length file + left) ++ file

-- the bytes so far
unfoldable pub progress_text : Progress → ℕ → List ℕ
progress_text p left =
    head_text p.base ++ flat_map group_text p.groups ++ flat_map image_text p.files ++ begun_text p.file left
