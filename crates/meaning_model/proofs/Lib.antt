pub mod Bools
pub mod Firm
pub mod NothingMet
pub mod OneMeaning
