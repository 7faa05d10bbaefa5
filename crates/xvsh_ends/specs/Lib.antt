pub mod Reports
pub mod Strictly
pub mod Ends
pub mod Filing
pub mod Requests
pub mod Witnesses
pub mod Printed
