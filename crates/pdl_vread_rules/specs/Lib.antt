pub mod RuleQuestions
pub mod Widths
pub mod Once
