pub mod MetaSchemas
