-- Numbers and texts: bounds of what bytes spell, and the first zero byte.
pub mod Numbers
pub mod Texts
