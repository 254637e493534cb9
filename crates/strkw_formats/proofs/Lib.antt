pub mod BuiltinNames
