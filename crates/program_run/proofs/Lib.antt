pub mod Closing
pub mod Reporting
pub mod Devices
