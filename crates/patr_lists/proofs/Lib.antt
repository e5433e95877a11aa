pub mod Conditions
pub mod Members
pub mod Alls
pub mod Places
pub mod Totals
pub mod Results
pub mod Tables
