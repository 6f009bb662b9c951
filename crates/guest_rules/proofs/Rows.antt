-- What the run of each row is, seen from the views of the storage: the calls are taken apart one after another
-- (`Taken`, `Held`, `Values`), and each row has a file with its outcomes.
pub mod ValueLaws
pub mod Values
pub mod Held
pub mod Taken
pub mod MissedPage
pub mod ReadPage
pub mod WritePage
pub mod ResolvePage
pub mod ClearEntry
pub mod TearPage
pub mod EntryPage
pub mod FillPage
pub mod SyncPage
pub mod RoomPage
pub mod WriteBack
pub mod PinPage
pub mod AnswerLaws
pub mod RoomAnswers
