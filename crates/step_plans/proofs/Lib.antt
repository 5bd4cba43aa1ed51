-- The laws of verdicts, case by case.
pub mod Cases
