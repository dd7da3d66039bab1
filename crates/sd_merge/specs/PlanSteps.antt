-- What the functions of a merged image in the making promise one another.
use Rattle.sd_gate.specs.Requests.{Asked}
use Rattle.sd_merge.specs.declared.merge_step.MergeStep.{MergeStep}
use Rattle.sd_merge.specs.declared.merge_step.MergeStep.TheVariants.{Call, ReadCall, PageCall, TableCall, Zero}
use Rattle.sd_merge.specs.declared.stage.Stage.{Stage}
use Rattle.sd_merge.specs.Copying.{Copying}

abbrev pub at_stage : Copying → Stage → Copying
at_stage copy stage = record copy { stage = stage }

-- it is a call of a plan, and its request is such
abbrev pub IsCallOf : (Asked → Type 0) → MergeStep → Type 0
IsCallOf P (Call request) = P request
IsCallOf P (ReadCall request) = ⊥
IsCallOf P (PageCall request) = ⊥
IsCallOf P (TableCall request) = ⊥
IsCallOf P Zero = ⊥

-- it is the read of a page
abbrev pub IsReadCallOf : (Asked → Type 0) → MergeStep → Type 0
IsReadCallOf P (Call request) = ⊥
IsReadCallOf P (ReadCall request) = P request
IsReadCallOf P (PageCall request) = ⊥
IsReadCallOf P (TableCall request) = ⊥
IsReadCallOf P Zero = ⊥

-- it is the write of a page
abbrev pub IsPageCallOf : (Asked → Type 0) → MergeStep → Type 0
IsPageCallOf P (Call request) = ⊥
IsPageCallOf P (ReadCall request) = ⊥
IsPageCallOf P (PageCall request) = P request
IsPageCallOf P (TableCall request) = ⊥
IsPageCallOf P Zero = ⊥

-- it is the write of the table
abbrev pub IsTableCallOf : (Asked → Type 0) → MergeStep → Type 0
IsTableCallOf P (Call request) = ⊥
IsTableCallOf P (ReadCall request) = ⊥
IsTableCallOf P (PageCall request) = ⊥
IsTableCallOf P (TableCall request) = P request
IsTableCallOf P Zero = ⊥

-- it took a page of zeros
abbrev pub IsZeroStep : MergeStep → Type 0
IsZeroStep (Call request) = ⊥
IsZeroStep (ReadCall request) = ⊥
IsZeroStep (PageCall request) = ⊥
IsZeroStep (TableCall request) = ⊥
IsZeroStep Zero = Unit {0}
