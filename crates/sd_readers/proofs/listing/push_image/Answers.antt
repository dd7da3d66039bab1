use Rattle.std.proofs.lemmas.Result.{on_ok_weaker}
use Rattle.sd_readers.proofs.ListingLemmas.{line_written}
use Rattle.sd_readers.proofs.listing.push_image.Goals as goal

pub returns : goal.returns
returns c = on_ok_weaker c.writeln.result
    (line_written c.args.image.now c.slot.result c.header-header.result.now c.name.result.now c.args.text.now.bytes.items
    c.push_slot.new.text.bytes.items c.writeln.new.self.bytes.items c.slot.ensures c.header-header.ensures c.name.ensures c.in_ok-push_slot.ensures)
    c.writeln.ensures.bytes
