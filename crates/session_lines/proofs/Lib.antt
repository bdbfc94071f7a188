pub mod KindLemmas
pub mod ValueLemmas
mod PlainLemmas
