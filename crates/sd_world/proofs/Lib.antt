mod AckedLemmas
mod AddsLemmas
mod AllowedLemmas
mod AnewLemmas
mod BegunLemmas
mod AuditLemmas
mod BasePoints
mod BusyLemmas
mod Calls
mod CommandLemmas
mod CopiedLemmas
mod FirstLemmas
mod FoldLemmas
mod GoesLemmas
mod HandInLemmas
mod KeptLemmas
mod LifetimeLemmas
mod LimitLemmas
mod Lists
mod LittleLemmas
mod LowersLemmas
mod NumberLemmas
mod OpenLemmas
mod PassingLemmas
mod PerformLemmas
mod PromiseLemmas
mod RepeatLemmas
mod ReplyLemmas
mod RestoreLemmas
mod RunLemmas
mod StepLemmas
mod TicketLemmas
mod Worlds
pub mod TrimLemmas
mod MergesLemmas
mod RefusedLemmas
mod RestingLemmas
mod ClosesLemmas
mod MadeLemmas
mod MergedLemmas
mod DriveLemmas
pub mod GoesOnLemmas
mod JobLemmas
pub mod PointLemmas
mod StartLemmas
mod StaysLemmas
pub mod SavedLemmas
pub mod HeadlineLemmas
