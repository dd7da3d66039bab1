use Rattle.std.proofs.Common.{◌≡◌, ℕ, List, [], ◌∷◌, ◌++◌, codes, Option, Some, None, sym, ◌∙◌, ap, subst, append_assoc, length}
use Rattle.std.specs.Prelude.{filter}
use Rattle.std.specs.Option.{option_map}
use Rattle.std.specs.Io.KnownBytes.{Appends}
use Rattle.std.specs.Fmt.{decimal}
use Rattle.sd_areas.specs.PlainMemory.{PlainMemory}
use Rattle.sd_image.specs.Image.{is_open}
use Rattle.sd_image.specs.Shows.{Shows}
use Rattle.sd_readers.specs.Printed.{PrintsVerdict}
use Rattle.sd_readers.proofs.verify.print_report.Goals as goal

abbrev line : ℕ → ℕ → List ℕ
line checkpoint images = codes "ok checkpoint " ++ decimal checkpoint ++ codes " images " ++ decimal images ++ 10 ∷ []

joined : (a b : List ℕ) → codes "ok checkpoint " ++ (a ++ (codes " images " ++ (b ++ 10 ∷ []))) ≡ codes "ok checkpoint " ++ a ++ codes " images " ++ b ++ 10 ∷ []
joined a b = simp (append_assoc)

of_checkpoint : (contents : List (List ℕ)) (before after : Option (List ℕ)) (checkpoint images : ℕ) (shown : Option (ℕ × PlainMemory)) → Shows contents shown
    → Some checkpoint ≡ option_map (λ moment. moment.0) shown → images ≡ length (filter is_open contents) → Appends before after (line checkpoint images) → PrintsVerdict contents before after
of_checkpoint contents before after checkpoint images None shows is count printed = absurd (let e : Some checkpoint ≡ None = is in cc)
of_checkpoint contents before after checkpoint images (Some moment) shows is count printed =
    let number : checkpoint ≡ moment.0 = same checkpoint moment.0 is in
    record {
      shown = Some moment;
      shows = shows;
      printed = subst (Appends before after) (ap (λ n. line n images) number ∙ ap (line moment.0) count) printed;
    }
  where
    same : (a b : ℕ) → Some a ≡ Some b → a ≡ b
    same a b e = cc

pub returns-in_ok-writeln-in-Some-clause-text : goal.returns-in_ok-writeln-in-Some-clause-text
returns-in_ok-writeln-in-Some-clause-text g c = λ honest.
    let shown = c.in_ok-report.ensures.shown honest in
    of_checkpoint (g.D.Disk.contents c.args.disk.now) (g.W.Write.contents c.args.out.now.writer) (g.W.Write.contents c.writeln.new.self.writer) c.in-Some.checkpoint c.in_ok-report.report.images
    shown.0 shown.1 (sym c.in-Some.is ∙ shown.2) (c.in_ok-report.ensures.images honest)
    (subst (Appends (g.W.Write.contents c.args.out.now.writer) (g.W.Write.contents c.writeln.new.self.writer)) (joined (decimal c.in-Some.checkpoint) (decimal c.in_ok-report.report.images)) c.in_ok-writeln-in-Some.ensures.bytes)
