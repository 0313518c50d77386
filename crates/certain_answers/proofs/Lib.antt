pub mod AnswerLemmas
pub mod RankLemmas
pub mod ShownLemmas
