-- The search machine: what the words and bytes of a position stand for, and, in `Laws`, what holds of every step and
-- every run of the machine and why a run of the code is one.
pub mod View
pub mod Laws
