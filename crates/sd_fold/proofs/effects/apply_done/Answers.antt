use Rattle.sd_areas.specs.Memory.{memory_of}
use Rattle.sd_fold.specs.Overlay.{memory_over}
use Rattle.sd_fold.proofs.LegalLemmas.{mmap_range, munmap_range, mprotect_range}
use Rattle.sd_fold.proofs.effects.apply_done.Goals as goal

pub mmap-requires-clause-some : goal.mmap-requires-clause-some
mmap-requires-clause-some c = (mmap_range (memory_over c.args.overlay.now.entries (memory_of c.args.base.now)) c.in-Mmap.space c.in-Mmap.address c.in-Mmap.length c.in-Mmap.prot (rw c.in-Mmap.is at c.requires)).0

pub mmap-requires-clause-within : goal.mmap-requires-clause-within
mmap-requires-clause-within c = (mmap_range (memory_over c.args.overlay.now.entries (memory_of c.args.base.now)) c.in-Mmap.space c.in-Mmap.address c.in-Mmap.length c.in-Mmap.prot (rw c.in-Mmap.is at c.requires)).1

pub munmap-requires-clause-some : goal.munmap-requires-clause-some
munmap-requires-clause-some c = (munmap_range (memory_over c.args.overlay.now.entries (memory_of c.args.base.now)) c.in-Munmap.space c.in-Munmap.address c.in-Munmap.length (rw c.in-Munmap.is at c.requires)).0

pub munmap-requires-clause-within : goal.munmap-requires-clause-within
munmap-requires-clause-within c = (munmap_range (memory_over c.args.overlay.now.entries (memory_of c.args.base.now)) c.in-Munmap.space c.in-Munmap.address c.in-Munmap.length (rw c.in-Munmap.is at c.requires)).1

pub mprotect-requires-clause-within : goal.mprotect-requires-clause-within
mprotect-requires-clause-within c = mprotect_range (memory_over c.args.overlay.now.entries (memory_of c.args.base.now)) c.in-Mprotect.space c.in-Mprotect.address c.in-Mprotect.length c.in-Mprotect.prot (rw c.in-Mprotect.is at c.requires)
