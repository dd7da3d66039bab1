-- What the plain memory has at each page.
use Rattle.sd_pagetable.specs.Law.{PlainLaw}
use Rattle.sd_pagetable.proofs.MemoryLemmas.{plain_alive, plain_at}
use Rattle.sd_pagetable.proofs.TableLemmas.{get-map_values, len-map_values}

pub plain_is : PlainLaw
plain_is = record {
  alive = plain_alive;
  pages = plain_at;
  prots = λ table page. get-map_values (λ page. page.prot) table page;
  count = λ table. len-map_values (λ page. page.prot) table;
}
