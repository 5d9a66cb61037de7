-- What the program prints: text in ASCII, the lines of document 01's "Program", and the lines of a report's output words.
pub mod Text
pub mod Lines
pub mod Reports
pub mod Inputs
