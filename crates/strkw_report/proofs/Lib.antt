mod CharBlocks
mod CharStarts
mod Escaping
mod JsonText
