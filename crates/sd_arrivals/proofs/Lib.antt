pub mod ArrivalLemmas
pub mod ProgramLemmas
pub mod ReceivedLemmas
