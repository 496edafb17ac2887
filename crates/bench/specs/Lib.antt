-- What a bench device holds, and what each call does to it.
pub mod Plan
pub mod Card
pub mod Calls
pub mod Loan
