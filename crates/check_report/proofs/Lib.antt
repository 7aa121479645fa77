mod AllFound
pub mod Answered
pub mod ProgramQuestions
