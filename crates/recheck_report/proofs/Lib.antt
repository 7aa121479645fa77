mod OneJudgement
mod OneAnswers
mod ExactAnswers
mod SafeAnswers
pub mod ShortLines
pub mod Leading
pub mod Pieces
pub mod Steps
