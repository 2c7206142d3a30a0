pub mod Escaping
pub mod Reading
pub mod Strokes
pub mod Unescaping
