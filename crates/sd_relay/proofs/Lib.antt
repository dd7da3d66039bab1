mod TicketLemmas
mod TotalLemmas
mod RuleLemmas
