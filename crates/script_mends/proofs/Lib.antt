pub mod Cuts
pub mod Chains
pub mod Found
