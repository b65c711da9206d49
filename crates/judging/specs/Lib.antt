-- What is judged of a book that has the form.
pub mod WitnessWords
pub mod NotedLines
pub mod BookSays
