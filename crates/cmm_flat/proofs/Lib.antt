mod Keys
mod Totals
mod Worked
