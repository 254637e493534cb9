mod Alone
mod Caller
