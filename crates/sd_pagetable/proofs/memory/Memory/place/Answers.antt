use Rattle.std.proofs.Common.{◌∙◌, sym, refl}
use Rattle.sd_pagetable.proofs.MemoryLemmas.{access_at, access_within, alive_seen, bad_in, stopped_in}
use Rattle.sd_pagetable.proofs.memory.Memory.place.Goals as goal

pub returns-then-is_bad_access-clause-refused : goal.returns-then-is_bad_access-clause-refused
returns-then-is_bad_access-clause-refused c = bad_in c.args.self.now c.args.space c.args.address c.args.bytes c.args.need c.refused_in.result (sym (c.is_bad_access.ensures c.args.address refl) ∙ c.if-is_bad_access.true) c.refused_in.ensures

pub returns-in-Ok-clause-ok : goal.returns-in-Ok-clause-ok
returns-in-Ok-clause-ok c = access_at c.args.self.now c.args.space c.args.address c.args.bytes c.args.need (alive_seen c.args.self.now c.args.space _ _ c.in-Ok.ensures.entry)
    (sym (c.is_bad_access.ensures c.args.address refl) ∙ c.if-is_bad_access.false) ∙ c.in-Ok.ensures.ok

pub returns-in-Ok-clause-within : goal.returns-in-Ok-clause-within
returns-in-Ok-clause-within c = access_within c.args.address c.args.bytes (sym (c.is_bad_access.ensures c.args.address refl) ∙ c.if-is_bad_access.false)

pub returns-in-Err-clause-refused : goal.returns-in-Err-clause-refused
returns-in-Err-clause-refused c = stopped_in c.args.self.now c.args.space c.args.address c.args.bytes c.args.need c.in-Err.denied c.refused_in-in-Err.result (sym (c.is_bad_access.ensures c.args.address refl) ∙ c.if-is_bad_access.false)
    c.in-Err.ensures.refused c.refused_in-in-Err.ensures
