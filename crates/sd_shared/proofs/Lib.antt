mod CloseLemmas
mod TurnLemmas
