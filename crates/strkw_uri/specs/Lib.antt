pub mod Characters
pub mod Uri
pub mod Template
pub mod Pointer
pub mod Scan
pub mod Lanes
pub mod AsWritten
pub mod Ipv6Address
