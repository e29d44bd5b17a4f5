pub mod Promise
pub mod Reports
