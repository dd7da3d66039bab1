-- What came of showing slots of the store in a folder.
use Rattle.std.proofs.Common.{◌≡◌, ℕ, Bool, false, List, [], Option, Some, Result, Ok, Err, IfOk, OnOk, sym, ◌∙◌, subst}
use Rattle.std.specs.Io.KnownBytes.{Appends}
use Rattle.sd_disk.specs.declared.dir_disk.DirDisk.{DirDisk}
use Rattle.sd_disk.specs.declared.found.Found.{Found}
use Rattle.sd_disk.specs.Folder.{IsFolderHonest, folder_files, outside_of}
use Rattle.sd_show.specs.declared.stop.Stop.{Stop}
use Rattle.sd_queries.specs.Showing.{ShowsFolder, has_damage, shown_text}

-- a showing leaves the files as they are, so what was printed is of those that are left, which are those that were found
pub shows_folder : (found : Found) (slot : Option ℕ) (as_json : Bool) (old new : DirDisk) (shown : Result Bool Stop) (before after : Option (List ℕ))
    → folder_files old ≡ (outside_of found).found → folder_files new ≡ folder_files old
    → (IsFolderHonest new → as_json ≡ false → OnOk shown (Appends before after (shown_text slot (folder_files old))))
    → (IsFolderHonest new → IfOk shown (λ damaged. damaged ≡ has_damage slot (folder_files old)))
    → ShowsFolder found slot as_json shown before after
shows_folder found slot as_json old new shown before after files same text damaged = record {
  left = new;
  files = same ∙ files;
  text = subst (λ held. IsFolderHonest new → as_json ≡ false → OnOk shown (Appends before after (shown_text slot held))) (sym same) text;
  damaged = subst (λ held. IsFolderHonest new → IfOk shown (λ damaged. damaged ≡ has_damage slot held)) (sym same) damaged;
}

both : (shown : Result Bool Stop) (text wanted : List ℕ) (before after : Option (List ℕ)) → OnOk shown (Appends (Some []) (Some text) wanted)
    → OnOk shown (Appends before after text) → OnOk shown (Appends before after wanted)
both (Ok value) text wanted before after is printed = subst (λ t. Appends before after t) is printed
both (Err why) text wanted before after is printed = tt

-- what was held back is printed where it came to its end
pub shows_held : (found : Found) (slot : Option ℕ) (as_json : Bool) (shown : Result Bool Stop) (text : List ℕ) (before after : Option (List ℕ))
    → ShowsFolder found slot as_json shown (Some []) (Some text) → OnOk shown (Appends before after text)
    → ShowsFolder found slot as_json shown before after
shows_held found slot as_json shown text before after held printed = record {
  left = held.left;
  files = held.files;
  text = λ honest plain. both shown text (shown_text slot (folder_files held.left)) before after (held.text honest plain) printed;
  damaged = held.damaged;
}
