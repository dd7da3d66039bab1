-- When an image that is being added leaves what is shown.
use Rattle.std.proofs.Common.{sym, subst, inl, inr, arith}
use Rattle.sd_image.specs.Image.{Image}
use Rattle.sd_image.specs.Shows.{IsNamed}
use Rattle.sd_store_laws.specs.Needed.{IsCalled, by_tip, by_job, by_parent}
use Rattle.sd_store_laws.specs.Cut.{Repeats}
use Rattle.sd_store_laws.specs.ShownStays.{DumpIsPending, PreDumpLeavesShown, MergedCopyLeavesShown, UnusedIsUncalled}

pub unused_is_uncalled_lem : UnusedIsUncalled
unused_is_uncalled_lem catalog jobs number unused (by_tip _ tip is parent) = unused.names tip is.member parent
unused_is_uncalled_lem catalog jobs number unused (by_job _ among) = unused.asks among
unused_is_uncalled_lem catalog jobs number unused (by_parent _ before i called named parent) = unused.names i named.member parent

pub pre_dump_is_harmless_lem : PreDumpLeavesShown
pre_dump_is_harmless_lem catalog jobs added kind unused = record {
  number = λ called. absurd (unused_is_uncalled_lem catalog jobs added.header.stands_for unused called);
  tip = λ restorable. absurd (restorable kind);
}

pub twin_is_harmless_lem : MergedCopyLeavesShown
twin_is_harmless_lem catalog jobs source twin is repeats = record {
  number = λ called.
      let named = is.named (subst (IsCalled catalog jobs) repeats.stands called) in
      (source, subst (λ n. IsNamed catalog n source) (sym repeats.stands) named, repeats.bytes);
  tip = λ restorable. (
    is.tip,
    is.is_tip,
    elim is.or_below [
      | inl same ↦ inr (subst (λ (k : Image). Repeats catalog k twin) same repeats)
      | inr below ↦ inl (let same = repeats.checkpoint in omega (arith, same, below.0))
    ],
  );
}

pub dump_is_pending_lem : DumpIsPending
dump_is_pending_lem catalog jobs added restorable unused parent newest = record {
  restorable = restorable;
  uncalled = unused_is_uncalled_lem catalog jobs added.header.stands_for unused;
  parent = by_job added.header.parent parent;
  newest = newest;
}
