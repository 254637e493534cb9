pub mod Characters
pub mod AsWritten
pub mod AddressLiteral
pub mod Mailbox
pub mod IdnMailbox
pub mod Scan
