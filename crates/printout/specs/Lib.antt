pub mod Routes
pub mod Texts
pub mod ReportTexts
