-- The document was made of the files that were there before.
use Rattle.std.proofs.Common.{List, ℕ, string_bytes, subst}
use Rattle.serde_json.specs.View.{view}
use Rattle.sd_json.specs.Documents.{IsDocument}
use Rattle.sd_json.proofs.FloatLemmas.{text_is}
use Rattle.sd_json.proofs.moment.document_text.Goals as goal

pub returns-clause-exact : goal.returns-clause-exact
returns-clause-exact g c = λ honest.
    text_is c.args.document (g.D.Disk.contents c.args.disk.now) (view c.in_ok-made.field-0) (string_bytes c.in_ok-text_of.field-0)
    (subst (λ (contents : List (List ℕ)). IsDocument c.args.document contents (view c.in_ok-made.field-0)) c.fronts.ensures.reads.same
    (c.in_ok-made.ensures.exact (c.fronts-2.ensures.reads.honest honest)))
    c.in_ok-text_of.ensures
