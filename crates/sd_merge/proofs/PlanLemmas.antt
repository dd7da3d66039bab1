-- A merged image in its pass, and at its end.
use Rattle.std.proofs.Common.{◌≡◌, ℕ, List, Option, Some, None, ◌∙◌, ap, subst, arith}
use Rattle.sd_image.specs.Table.{Listed}
use Rattle.sd_chain.specs.Catalog.{Opened, Places, place_of}
use Rattle.sd_gate.specs.Plans.{Gives, Planned}
use Rattle.sd_gate.specs.Requests.{Asked}
use Rattle.sd_writing.specs.declared.ending.Ending.{Ending}
use Rattle.sd_writing.specs.Endings.{EndsFile}
use Rattle.sd_writing.specs.Entries.{ImageEntry, Place, data_pages}
use Rattle.sd_merge.specs.declared.stage.Stage.{Stage}
use Rattle.sd_merge.specs.declared.stage.Stage.TheVariants.{Close, Pass as PassStage}
use Rattle.sd_merge.specs.Copying.{Copying, IsReadyFor, TakesNoPage, WritesTable, copy_numbers}
use Rattle.sd_merge.specs.Gathered.{IsTableOf}

-- in the pass, where no page is being taken, none was read
pub free_in_pass : (entries : List ImageEntry) (taking : Option Place) (read : Option (List ℕ)) (stage : Stage) → stage ≡ PassStage → taking ≡ None → IsReadyFor entries taking read stage → TakesNoPage taking read
free_in_pass entries taking read stage pass none ready = grind arith

-- the end of its file is made of the table that its pages and its source make
pub written : (places : Places) (old new : Copying) (request : Asked) (source : Opened) (tables : List Listed) (end : Ending) (next : Planned)
    → old.stage ≡ PassStage → old.taking ≡ None → place_of places old.order.source.serial ≡ Some (Some source)
    → EndsFile old.order.slot (copy_numbers old.order) (data_pages old.entries) old.digester tables end
    → IsTableOf source.spaces old.entries tables → Gives end.plan next request → new ≡ record old { stage = Close next end.header end.table }
    → WritesTable places old request new
written places old new request source tables end next stage free there ends table gives is = record {
  stage = stage;
  free = free;
  source = source;
  there = there;
  tables = tables;
  header = end.header;
  fits = ends.header;
  table = table;
  next = next;
  gives = subst (λ (p : Planned). Gives p next request) ends.plan gives;
  is = is ∙ ap (λ (l : List Listed). record old { stage = Close next end.header l }) ends.table;
}
