-- What fit gives the calls of the next turn: what each of them needs of its numbers.
pub mod Ready
pub mod AnswerReady
pub mod ReadyCalls
pub mod TearReady
