mod TableLemmas
mod CountLemmas
mod SpelledLemmas
mod FoundLemmas
mod MemberLemmas
mod SecondLemmas
mod GoalLemmas
mod StandLemmas
