mod Parts
mod Programs
mod Calls
mod Answering
mod Unchanged
pub mod AnsweredLines
mod Sessions
mod RefusedEdits
mod ShortTexts
mod TrueReports
mod WorthOfSessions
mod StaySpelled
mod ErasedWritten
mod EditedWritten
pub mod OpenResolved
mod PlainNames
mod ReadRevisions
mod Revised
mod OnePut
mod PutAgain
mod SharedGoals
mod ChangedGoals
mod Declined
mod OneBody
mod LineSessions
mod LongLines
mod Replies
pub mod Served
