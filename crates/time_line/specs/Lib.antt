pub mod Span
pub mod SpanOrder
pub mod Numeral
