-- Counts and budgets read from decimal digits, with a cap.
pub mod Capped
pub mod BudgetRead
