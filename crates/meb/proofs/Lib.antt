pub mod RingLaws
pub mod Fitting
