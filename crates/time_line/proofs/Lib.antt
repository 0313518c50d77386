pub mod SpanLemmas
pub mod NumeralLemmas
pub mod SpanFacts
