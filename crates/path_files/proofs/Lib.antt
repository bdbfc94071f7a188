pub mod LineLemmas
pub mod CellLemmas
pub mod RowLemmas
pub mod PlaceLemmas
pub mod JsonLemmas
pub mod ColumnLemmas
