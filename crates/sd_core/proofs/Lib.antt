mod ApplyLemmas
mod BeginLemmas
mod BeginningLemmas
mod BegunLemmas
mod BesideLemmas
mod CancelLemmas
mod CoreLemmas
mod CoreParts
mod DumperTakes
mod EnteredLemmas
pub mod FallenLemmas
mod FlagLemmas
mod FoundNumbers
mod GiveUp
mod GoOnLemmas
mod HandedLaws
pub mod HandedLemmas
mod HandsDump
mod ImageLemmas
mod JournalLemmas
mod LaneLemmas
mod LastingLemmas
mod ListLemmas
mod LittleLemmas
mod MarkLemmas
mod MergeBegin
mod MergeLemmas
mod MergerCalls
mod MergerHands
mod MergerSteps
mod MergerTakes
mod NextHands
mod NextLaws
mod NextLooking
mod NextMerger
mod NextMerging
mod NextOpener
mod NextOrders
mod NextSound
mod NextSteps
mod NextOutcomes
mod OpenedLemmas
mod OpenerTakes
mod OpeningLemmas
mod OrderLaws
mod OrdersKeep
mod OthersLemmas
mod OutcomeLemmas
mod OutcomesLeave
mod OutsLemmas
mod OwnLemmas
mod PassLemmas
mod PreDumpLemmas
mod RefusalLemmas
mod RoundLemmas
mod ShownLemmas
mod SlotLemmas
mod StageLemmas
mod StartLemmas
mod StepLemmas
mod StrangeLemmas
mod TakenLaws
mod TipLemmas
mod WorkLemmas
pub mod FrontLemmas
pub mod SettledLemmas
pub mod SweptLemmas
pub mod TrimLemmas
pub mod TrimmedLemmas
