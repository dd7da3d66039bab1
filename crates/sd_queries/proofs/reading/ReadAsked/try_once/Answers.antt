-- What was printed into a vector is its bytes.
use Rattle.std.proofs.Common.{◌≡◌, ℕ, false, [], Some, subst, rules}
use Rattle.sd_disk.specs.declared.dir_disk.DirDisk.{DirDisk}
use Rattle.sd_queries.specs.Reading.{AnswersFound}
use Rattle.sd_queries.proofs.reading.ReadAsked.try_once.Goals as goal

pub returns : goal.returns
returns c = record {
  answers =
      let found = c.args.self.called.found.now in
      let asked = c.args.self.query in
      let read : DirDisk × ℕ = (c.in_ok-disk.disk, c.in_ok-disk.status) in
      let refused = c.read_once.new.out.refused in
      let now = c.read_once.new.out.writer.items in
      let bare : c.new-out.result.writer.items ≡ [] = search rules in
      let same : now ≡ c.into_writer-text.result.items = search rules in
      let whole : refused ≡ false = search rules in
      subst (λ items. AnswersFound found asked read (Some items) (Some c.into_writer-text.result.items) false) bare
      (subst (λ items. AnswersFound found asked read (Some c.new-out.result.writer.items) (Some items) false) same
      (subst (λ r. AnswersFound found asked read (Some c.new-out.result.writer.items) (Some now) r) whole (c.in_ok-disk.ensures.answers)));
}
