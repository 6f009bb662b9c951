mod Spelled
mod ReadsBack
mod PutInTurn
mod Loops
mod InRange
