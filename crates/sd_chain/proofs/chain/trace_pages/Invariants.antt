use Rattle.std.proofs.Common.{◌≡◌, ◌<◌, ◌≤◌, ℕ, None, length}
use Rattle.sd_chain.specs.Catalog.{Places}
use Rattle.sd_chain.specs.Chains.{IsChainOf}
use Rattle.sd_chain.specs.Ways.{AreImages, found_in}
use Rattle.sd_chain.proofs.Chains.{IsFollowed, opened_in}
use Rattle.sd_chain.proofs.chain.trace_pages.Given as goal

abbrev pub invariant-loop-k : goal.invariant-loop-k
invariant-loop-k l = record {
  some : 0 < l.count;
  within : l.count ≤ l.fn.count;
  spots : length l.spots ≡ length l.images;
  missing : found_in l.trace ≡ None;
  followed : (places : Places) (serial : ℕ) → AreImages places → IsChainOf places serial (opened_in l.images)
      → IsFollowed places serial (opened_in l.images) l.space l.page l.k l.count l.trace;
}
