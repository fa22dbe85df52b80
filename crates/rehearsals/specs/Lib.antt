pub mod AtSamples
pub mod Telling
pub mod Reporting
pub mod Said
